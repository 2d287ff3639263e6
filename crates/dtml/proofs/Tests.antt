-- Each test that the machine makes is the condition of document 01's table that it stands for: it is true where the condition holds, and false where it does not.
use Prim.Native.Nat.{ℕ, zero, suc, ◌+◌, ◌≤◌, ◌<◌}
use native.Mathlib.Omega.{arith}
use borrow.Author.Tests.{ltb-true, leb-true, leb-false, eqb-true, eqb-false, eq-eqb, not-true, not-false}
use mathlib.Core.Path.{◌≡◌, refl, sym, ap, subst, ◌∙◌}
use mathlib.Core.Bool.{Bool, true, false, not}
use mathlib.Core.Logic.{◌⊎◌, inl, inr, ⊎_elim}
use mathlib.Core.List.{List, [], ◌∷◌}
use lib.ListN.{length}
use lib.Dec.{eqb, leb, ltb}
use Rattle.bits.specs.Marks.{pick, is_marked, count_of, stands_from}
use Rattle.bits.specs.Laws.{room}
use Rattle.bits.proofs.Laws.{laws}
use Rattle.dtml.specs.declared.Tx.{Tx}
use Rattle.dtml.specs.declared.Phase.{Phase}
use Rattle.dtml.specs.declared.Phase.TheVariants.{Fresh, Ready, Committed, Aborted, B1, B2, R1, R2, W1, W2, W3, W4, W5, W6, W7, E1, E2, E3}
use Rattle.dtml.specs.declared.Recovery.{Recovery}
use Rattle.dtml.specs.declared.Recovery.TheVariants.{Idle, C1, C2, C3, C4, C5, C6}
use Rattle.dtml.specs.Store.{Store, size, record_at}
use Rattle.dtml.specs.Asked.{begin, read, write, commit, step, flush, crash, recover, recover_up_to, Call, on, sys}
use Rattle.dtml.specs.Lines.{stage}
use Rattle.dtml.specs.First.{any_of}
use Rattle.dtml.specs.Checks.{unfit_rows, phase_past, unfit_recovery, unfit_tx, unfit_txs, unfit_beside, unfit_memory, unfit, not_idle, is_fresh, is_ready, is_at_line}
use Rattle.dtml.specs.Rules.{CallNames, by_read, by-write, by-flush, WrongLength, pers-differs, old-differs, no_word, above-256, not-64, Names, at-R1, at-W1, at-W2, at-W3, at-W4, at-W5, at-W6, at-W7, RecoveryNames, at-C3, at-C4, at-C5, Unfit, lengths, mark-past, glb-above, loc-above, phase-past, recovery-past, C2-unmarked, NoLine}
use Rattle.dtml.proofs.Words.{true-or-false, true-not-false, is-idle, idle-is, none-marked}
use Rattle.dtml.proofs.Asks.{fresh-only, ready-only}
use Rattle.dtml.proofs.Fit.{last, none, FitRows, rows_fit, FitMemory, memory-fits, tx-fits}
use Rattle.dtml.proofs.Figure.{all-unmarked}

pub record Tests (b : Bool) (P : Type 0) : Type 0 where
  pub holds : b ≡ true → P
  pub fails : b ≡ false → P → ⊥

-- ---- 10 to 16

pub at_least : (n w : ℕ) → Tests (leb n w) (n ≤ w)
at_least n w = record { holds = leb-true n w; fails = λ e h. let z = leb-false n w e in omega arith }

-- the word that a call names is there once
abbrev word_of : Call → ℕ
word_of (on t begin) = 0
word_of (on t (read w)) = w
word_of (on t (write w v)) = w
word_of (on t commit) = 0
word_of (on t step) = 0
word_of (sys (flush w)) = w
word_of (sys crash) = 0
word_of (sys recover) = 0
word_of (sys (recover_up_to b)) = 0

named : (c : Call) (w : ℕ) → CallNames c w → word_of c ≡ w
named c w (by_read t e) = ap word_of e
named c w (by-write t v e) = ap word_of e
named c w (by-flush e) = ap word_of e

pub word-past : (n : ℕ) (c : Call) → CallNames c (word_of c) → Tests (leb n (word_of c)) ((w : ℕ) × CallNames c w × (n ≤ w))
word-past n c a = record {
  holds = λ e. (word_of c, a, leb-true n (word_of c) e);
  fails = λ e h. let z = leb-false n (word_of c) e in let y = named c h.0 h.1 in let x = h.2 in omega arith;
}

pub busy : (r : Recovery) → Tests (not_idle r) (r ≡ Idle → ⊥)
busy r = record { holds = λ e q. true-not-false e (is-idle r q); fails = λ e f. f (idle-is r e) }

pub idle : (r : Recovery) → Tests (not (not_idle r)) (r ≡ Idle)
idle r = record { holds = λ e. idle-is r (not-true (not_idle r) e); fails = λ e q. true-not-false (not-false (not_idle r) e) (is-idle r q) }

pub not-fresh : (p : Phase) → Tests (not (is_fresh (stage p))) (p ≡ Fresh → ⊥)
not-fresh p = record {
  holds = λ e q. true-not-false (ap (λ x. is_fresh (stage x)) q) (not-true (is_fresh (stage p)) e);
  fails = λ e f. f (fresh-only p (not-false (is_fresh (stage p)) e));
}

pub not-ready : (p : Phase) → Tests (not (is_ready (stage p))) (p ≡ Ready → ⊥)
not-ready p = record {
  holds = λ e q. true-not-false (ap (λ x. is_ready (stage x)) q) (not-true (is_ready (stage p)) e);
  fails = λ e f. f (ready-only p (not-false (is_ready (stage p)) e));
}

is-line : (p : Phase) → is_at_line (stage p) ≡ false → NoLine p
is-line Fresh e = inl refl
is-line Ready e = inr (inl refl)
is-line Committed e = inr (inr (inl refl))
is-line Aborted e = inr (inr (inr refl))
is-line B1 e = absurd (true-not-false refl e)
is-line B2 e = absurd (true-not-false refl e)
is-line (R1 w) e = absurd (true-not-false refl e)
is-line (R2 v) e = absurd (true-not-false refl e)
is-line (W1 w v) e = absurd (true-not-false refl e)
is-line (W2 w v) e = absurd (true-not-false refl e)
is-line (W3 w v) e = absurd (true-not-false refl e)
is-line (W4 w v) e = absurd (true-not-false refl e)
is-line (W5 w v) e = absurd (true-not-false refl e)
is-line (W6 w v) e = absurd (true-not-false refl e)
is-line (W7 w) e = absurd (true-not-false refl e)
is-line E1 e = absurd (true-not-false refl e)
is-line E2 e = absurd (true-not-false refl e)
is-line E3 e = absurd (true-not-false refl e)

no_line : (p : Phase) → NoLine p → is_at_line (stage p) ≡ false
no_line p (inl e) = ap (λ x. is_at_line (stage x)) e
no_line p (inr (inl e)) = ap (λ x. is_at_line (stage x)) e
no_line p (inr (inr (inl e))) = ap (λ x. is_at_line (stage x)) e
no_line p (inr (inr (inr e))) = ap (λ x. is_at_line (stage x)) e

pub at-no-line : (p : Phase) → Tests (not (is_at_line (stage p))) (NoLine p)
at-no-line p = record {
  holds = λ e. is-line p (not-true (is_at_line (stage p)) e);
  fails = λ e h. true-not-false (not-false (is_at_line (stage p)) e) (no_line p h);
}

-- ---- 9, what is unfit

-- one clause of several
some : (b c : Bool) → pick b true c ≡ true → (b ≡ true) ⊎ (c ≡ true)
some true c h = inl refl
some false c h = inr h

-- a mark that stands at n or above can be found
search-marks : (k : List ℕ) (n j : ℕ) → ((w : ℕ) × (n ≤ w) × (is_marked k w ≡ true)) ⊎ ((w : ℕ) → n ≤ w → w < n + j → is_marked k w ≡ false)
search-marks k n zero = inr (λ w a b. absurd (omega arith))
search-marks k n (suc j) = go (search-marks k n j) (true-or-false (is_marked k (n + j)))
  where
    go : ((w : ℕ) × (n ≤ w) × (is_marked k w ≡ true)) ⊎ ((w : ℕ) → n ≤ w → w < n + j → is_marked k w ≡ false)
        → (is_marked k (n + j) ≡ true) ⊎ (is_marked k (n + j) ≡ false)
        → ((w : ℕ) × (n ≤ w) × (is_marked k w ≡ true)) ⊎ ((w : ℕ) → n ≤ w → w < n + suc j → is_marked k w ≡ false)
    go (inl x) _ = inl x
    go (inr f) (inl e) = inl (n + j, omega arith, e)
    go (inr f) (inr e) = inr (λ w a b. here w a b (true-or-false (leb (n + j) w)))
      where
        here : (w : ℕ) → n ≤ w → w < n + suc j → (leb (n + j) w ≡ true) ⊎ (leb (n + j) w ≡ false) → is_marked k w ≡ false
        here w a b (inl z) = let y = leb-true (n + j) w z in let same : w ≡ n + j = omega arith in rw same e
        here w a b (inr z) = f w a (leb-false (n + j) w z)

mark-at : (k : List ℕ) (n : ℕ) → stands_from k n ≡ true → (w : ℕ) × (n ≤ w) × (is_marked k w ≡ true)
mark-at k n h = go (search-marks k n (room k))
  where
    go : ((w : ℕ) × (n ≤ w) × (is_marked k w ≡ true)) ⊎ ((w : ℕ) → n ≤ w → w < n + room k → is_marked k w ≡ false) → (w : ℕ) × (n ≤ w) × (is_marked k w ≡ true)
    go (inl x) = x
    go (inr f) = absurd (true-not-false h (laws.none-stands k n (λ w a. bare w a (true-or-false (leb (room k) w)))))
      where
        bare : (w : ℕ) → n ≤ w → (leb (room k) w ≡ true) ⊎ (leb (room k) w ≡ false) → is_marked k w ≡ false
        bare w a (inl e) = laws.past-unmarked k w (leb-true (room k) w e)
        bare w a (inr e) = let z = leb-false (room k) w e in f w a (omega arith)

abbrev NamesPast : ℕ → Phase → Type 0
NamesPast n p = (w : ℕ) × Names p w × (n ≤ w)

names-past : (n : ℕ) (p : Phase) → phase_past n p ≡ true → NamesPast n p
names-past n Fresh h = absurd (true-not-false h refl)
names-past n Ready h = absurd (true-not-false h refl)
names-past n Committed h = absurd (true-not-false h refl)
names-past n Aborted h = absurd (true-not-false h refl)
names-past n B1 h = absurd (true-not-false h refl)
names-past n B2 h = absurd (true-not-false h refl)
names-past n (R1 w) h = (w, at-R1 refl, leb-true n w h)
names-past n (R2 v) h = absurd (true-not-false h refl)
names-past n (W1 w v) h = (w, at-W1 v refl, leb-true n w h)
names-past n (W2 w v) h = (w, at-W2 v refl, leb-true n w h)
names-past n (W3 w v) h = (w, at-W3 v refl, leb-true n w h)
names-past n (W4 w v) h = (w, at-W4 v refl, leb-true n w h)
names-past n (W5 w v) h = (w, at-W5 v refl, leb-true n w h)
names-past n (W6 w v) h = (w, at-W6 v refl, leb-true n w h)
names-past n (W7 w) h = (w, at-W7 refl, leb-true n w h)
names-past n E1 h = absurd (true-not-false h refl)
names-past n E2 h = absurd (true-not-false h refl)
names-past n E3 h = absurd (true-not-false h refl)

-- where the phase names a word, the test is on that word
tested : (n w : ℕ) (p : Phase) → Names p w → phase_past n p ≡ leb n w
tested n w p (at-R1 e) = ap (phase_past n) e
tested n w p (at-W1 v e) = ap (phase_past n) e
tested n w p (at-W2 v e) = ap (phase_past n) e
tested n w p (at-W3 v e) = ap (phase_past n) e
tested n w p (at-W4 v e) = ap (phase_past n) e
tested n w p (at-W5 v e) = ap (phase_past n) e
tested n w p (at-W6 v e) = ap (phase_past n) e
tested n w p (at-W7 e) = ap (phase_past n) e

tested-recovery : (n w : ℕ) (k : List ℕ) (r : Recovery) → RecoveryNames r w → unfit_recovery n k r ≡ leb n w
tested-recovery n w k r (at-C3 v e) = ap (unfit_recovery n k) e
tested-recovery n w k r (at-C4 v e) = ap (unfit_recovery n k) e
tested-recovery n w k r (at-C5 v e) = ap (unfit_recovery n k) e

-- of a row of records, some record is unfit, or each is fit
unfit-record : (n : ℕ) (ts : List Tx) → unfit_txs n ts ≡ true → (t : ℕ) × (unfit_tx n (record_at ts t) ≡ true)
unfolding unfit_txs
unfit-record n [] h = absurd (true-not-false h refl)
unfit-record n (x ∷ ts) h = go (some (unfit_tx n x) (unfit_txs n ts) h) (unfit-record n ts)
  where
    go : (unfit_tx n x ≡ true) ⊎ (unfit_txs n ts ≡ true) → (unfit_txs n ts ≡ true → (t : ℕ) × (unfit_tx n (record_at ts t) ≡ true))
        → (t : ℕ) × (unfit_tx n (record_at (x ∷ ts) t) ≡ true)
    go (inl e) rest = (0, e)
    go (inr e) rest = let r = rest e in (suc r.0, r.1)

each-fit : (n : ℕ) (ts : List Tx) → unfit_txs n ts ≡ false → (t : ℕ) → unfit_tx n (record_at ts t) ≡ false
unfolding unfit_txs unfit_tx
each-fit n [] h t = refl
each-fit n (x ∷ ts) h zero = (none (unfit_tx n x) (unfit_txs n ts) h).0
each-fit n (x ∷ ts) h (suc t) = each-fit n ts (none (unfit_tx n x) (unfit_txs n ts) h).1 t

-- the lengths
long-rows : (s : Store) → unfit_rows (length s.mem.vol) (length s.mem.pers) (length s.mem.old) ≡ true → WrongLength s
unfolding unfit_rows
long-rows s h = go (some (not (eqb v p)) (any_of (not (eqb v o) ∷ eqb v 0 ∷ ltb 256 v ∷ [])) h)
  where
    v : ℕ
    v = length s.mem.vol

    p : ℕ
    p = length s.mem.pers

    o : ℕ
    o = length s.mem.old

    go : (not (eqb v p) ≡ true) ⊎ (any_of (not (eqb v o) ∷ eqb v 0 ∷ ltb 256 v ∷ []) ≡ true) → WrongLength s
    go (inl e) = pers-differs (λ q. eqb-false v p (not-true (eqb v p) e) (sym q))
    go (inr e) = go-old (some (not (eqb v o)) (any_of (eqb v 0 ∷ ltb 256 v ∷ [])) e)
      where
        go-old : (not (eqb v o) ≡ true) ⊎ (any_of (eqb v 0 ∷ ltb 256 v ∷ []) ≡ true) → WrongLength s
        go-old (inl f) = old-differs (λ q. eqb-false v o (not-true (eqb v o) f) (sym q))
        go-old (inr f) =
            ⊎_elim (λ g. no_word (eqb-true v 0 g)) (λ g. above-256 (ltb-true 256 v (last (ltb 256 v) ∙ g))) (some (eqb v 0) (any_of (ltb 256 v ∷ [])) f)

-- the tests of the lengths, of the word rows and of the record row
abbrev pub length_tests : Store → Bool
length_tests s = any_of (unfit_rows (length s.mem.vol) (length s.mem.pers) (length s.mem.old) ∷ not (eqb (length s.txs) 64) ∷ [])

row-not-64 : (s : Store) → not (eqb (length s.txs) 64) ≡ true → WrongLength s
row-not-64 s e = not-64 (eqb-false (length s.txs) 64 (not-true _ e))

-- of the right lengths none is wrong
abbrev RowsOf : Store → Type 0
RowsOf s = FitRows (length s.mem.vol) (length s.mem.pers) (length s.mem.old)

long-right : (s : Store) → RowsOf s → length s.txs ≡ 64 → WrongLength s → ⊥
long-right s l e (pers-differs f) = f l.pers-long
long-right s l e (old-differs f) = f l.old-long
long-right s l e (no_word q) = let z = l.some in omega arith
long-right s l e (above-256 h) = let z = l.few in omega arith
long-right s l e (not-64 f) = f e

pub wrong-length : (s : Store) → Tests (length_tests s) (WrongLength s)
wrong-length s = record {
  holds = λ e. ⊎_elim (long-rows s) (λ f. row-not-64 s (last _ ∙ f)) (some (unfit_rows (length s.mem.vol) (length s.mem.pers) (length s.mem.old)) (any_of (not (eqb (length s.txs) 64) ∷ [])) e);
  fails = λ e. let a = none (unfit_rows (length s.mem.vol) (length s.mem.pers) (length s.mem.old)) (any_of (not (eqb (length s.txs) 64) ∷ [])) e in
      long-right s (rows_fit _ _ _ a.0) (eqb-true (length s.txs) 64 (not-false _ (last (not (eqb (length s.txs) 64)) ∙ a.1)));
}

-- the rest
unfit-recovery : (s : Store) (r : Recovery) → s.rec ≡ r → unfit_recovery (size s.mem) s.mem.marks r ≡ true → Unfit s
unfit-recovery s Idle q h = absurd (true-not-false h refl)
unfit-recovery s C1 q h = absurd (true-not-false h refl)
unfit-recovery s C2 q h = C2-unmarked q (none-marked s.mem.marks (eqb-true (count_of s.mem.marks) 0 h))
unfit-recovery s (C3 w v) q h = recovery-past w (at-C3 v q) (leb-true (size s.mem) w h)
unfit-recovery s (C4 w v) q h = recovery-past w (at-C4 v q) (leb-true (size s.mem) w h)
unfit-recovery s (C5 w v) q h = recovery-past w (at-C5 v q) (leb-true (size s.mem) w h)
unfit-recovery s C6 q h = absurd (true-not-false h refl)

unfit-tx : (s : Store) (t : ℕ) → unfit_tx (size s.mem) (record_at s.txs t) ≡ true → Unfit s
unfolding unfit_tx
unfit-tx s t h = go (some (ltb 65535 (record_at s.txs t).loc) (any_of (phase_past (size s.mem) (record_at s.txs t).phase ∷ [])) h)
  where
    go : (ltb 65535 (record_at s.txs t).loc ≡ true) ⊎ (any_of (phase_past (size s.mem) (record_at s.txs t).phase ∷ []) ≡ true) → Unfit s
    go (inl e) = loc-above t (ltb-true 65535 _ e)
    go (inr e) = let x = names-past (size s.mem) (record_at s.txs t).phase (last _ ∙ e) in phase-past t x.0 x.1 x.2

unfit-beside : (s : Store) → unfit_memory s.mem s.rec ≡ true → Unfit s
unfolding unfit_beside
unfit-beside s h = go (some (unfit_rows n (length s.mem.pers) (length s.mem.old)) (any_of (stands_from k n ∷ ltb 65535 g ∷ bad ∷ [])) h)
  where
    n : ℕ
    n = length s.mem.vol

    k : List ℕ
    k = s.mem.marks

    g : ℕ
    g = s.mem.glb

    bad : Bool
    bad = unfit_recovery n k s.rec

    go : (unfit_rows n (length s.mem.pers) (length s.mem.old) ≡ true) ⊎ (any_of (stands_from k n ∷ ltb 65535 g ∷ bad ∷ []) ≡ true) → Unfit s
    go (inl e) = lengths (long-rows s e)
    go (inr e) = marked (some (stands_from k n) (any_of (ltb 65535 g ∷ bad ∷ [])) e)
      where
        marked : (stands_from k n ≡ true) ⊎ (any_of (ltb 65535 g ∷ bad ∷ []) ≡ true) → Unfit s
        marked (inl f) = let x = mark-at k n f in mark-past x.0 x.1 x.2
        marked (inr f) =
            ⊎_elim (λ y. glb-above (ltb-true 65535 g y)) (λ y. unfit-recovery s s.rec refl (last bad ∙ y)) (some (ltb 65535 g) (any_of (bad ∷ [])) f)

-- of a fit store no condition holds
fit : (s : Store) → FitMemory s.mem s.rec → length s.txs ≡ 64 → unfit_txs (size s.mem) s.txs ≡ false → Unfit s → ⊥
fit s f l ts (lengths w) = long-right s (record { pers-long = f.pers-long; old-long = f.old-long; some = f.some; few = f.few }) l w
fit s f l ts (mark-past w h e) = true-not-false e (laws.stands-none s.mem.marks (size s.mem) w f.marks-in h)
fit s f l ts (glb-above h) = let z = f.glb-low in omega arith
fit s f l ts (loc-above t h) = let z = (tx-fits _ _ (each-fit (size s.mem) s.txs ts t)).loc-low in omega arith
fit s f l ts (phase-past t w names h) =
    let z = (tx-fits _ _ (each-fit (size s.mem) s.txs ts t)).word_in in
    let y = leb-false (size s.mem) w (sym (tested (size s.mem) w _ names) ∙ z) in
    omega arith
fit s f l ts (recovery-past w names h) =
    let y = leb-false (size s.mem) w (sym (tested-recovery (size s.mem) w s.mem.marks s.rec names) ∙ f.recovery-in) in
    omega arith
fit s f l ts (C2-unmarked e all) =
    true-not-false (eq-eqb (count_of s.mem.marks) 0 (all-unmarked s.mem.marks all)) (subst (λ r. unfit_recovery (size s.mem) s.mem.marks r ≡ false) e f.recovery-in)

pub unfit-store : (s : Store) → Tests (unfit s) (Unfit s)
unfolding unfit
unfit-store s = record { holds = λ h. whole (some bad (any_of (long ∷ unfit_txs n s.txs ∷ [])) h); fails = none-holds }
  where
    n : ℕ
    n = size s.mem

    bad : Bool
    bad = unfit_memory s.mem s.rec

    long : Bool
    long = not (eqb (length s.txs) 64)

    whole : (bad ≡ true) ⊎ (any_of (long ∷ unfit_txs n s.txs ∷ []) ≡ true) → Unfit s
    whole (inl e) = unfit-beside s e
    whole (inr e) = rows (some long (any_of (unfit_txs n s.txs ∷ [])) e)
      where
        rows : (long ≡ true) ⊎ (any_of (unfit_txs n s.txs ∷ []) ≡ true) → Unfit s
        rows (inl f) = lengths (row-not-64 s f)
        rows (inr f) = let x = unfit-record n s.txs (last _ ∙ f) in unfit-tx s x.0 x.1

    none-holds : any_of (bad ∷ long ∷ unfit_txs n s.txs ∷ []) ≡ false → Unfit s → ⊥
    none-holds h =
        let a = none bad (any_of (long ∷ unfit_txs n s.txs ∷ [])) h in
        let b = none long (any_of (unfit_txs n s.txs ∷ [])) a.1 in
        fit s (memory-fits s.mem s.rec a.0) (eqb-true (length s.txs) 64 (not-false _ b.0)) (last _ ∙ b.1)
