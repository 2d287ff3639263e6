-- What a call on no record is counted for, by what it leaves: the ways of `first` are gone through once, and no line of recovery is answered 4, or 9 and above.
-- A refusal of a call on a record has a number of 9 or above, and a crash leaves the marks: by the same ways.
use Prim.Native.Nat.{ℕ, zero, suc}
use mathlib.Core.Path.{◌≡◌, refl, sym, subst}
use mathlib.Core.Bool.{true, false}
use mathlib.Core.List.{List, [], ◌∷◌}
use lib.ListN.{length}
use lib.Dec.{eqb, leb}
use Rattle.bits.specs.Marks.{pick, count_of}
use Rattle.dtml.specs.declared.Recovery.{Recovery}
use Rattle.dtml.specs.declared.Tx.{Tx}
use Rattle.dtml.specs.declared.Recovery.TheVariants.{Idle, C1, C2, C3, C4, C5, C6}
use Rattle.dtml.specs.Table.{Reply, says}
use Rattle.dtml.specs.Store.{Memory, Store, size}
use Rattle.dtml.specs.Asked.{Ask, begin, read, write, commit, step, Sys, flush, crash, recover, recover_up_to, sys, RecoveryDid, Outcome}
use Rattle.dtml.specs.Lines.{any_mark, recovery_line}
use Rattle.dtml.specs.First.{Check, ◌⇒◌, first}
use Rattle.dtml.specs.Checks.{unfit, unfit_memory, unfit_one, not_idle, ask_checks, sys_checks}
use Rattle.dtml.specs.Calls.{ask, up_to, system, act, call, refused}
use Rattle.dtml.specs.Counting.{crashes_in, lines_in, cut_in}
use Rattle.dtml.specs.Handed.{Turned, no-turn, a_turn, Happened, nothing, a-flush, a-crash, some-lines, call_one, happens, call_system}
use Rattle.dtml.proofs.Words.{pick-case}

-- ---- the ways of a call

abbrev Each : {A : Type 0} → (A → Type 0) → (ℕ → A) → List Check → Type 0
Each P g [] = Unit {0}
Each P g (c ∷ cs) = P (g c.number) × Each P g cs

first-case : {A : Type 0} (P : A → Type 0) (cs : List Check) (g : ℕ → A) (x : A) → Each P g cs → P x → P (first cs g x)
first-case P [] g x refusals carried = carried
first-case P (c ∷ cs) g x refusals carried = pick-case P c.applies (λ e. refusals.0) (λ e. first-case P cs g x refusals.1 carried)

-- ---- the answers of recovery lines

abbrev Line : Reply → Type 0
Line a = (eqb a.number 4 ≡ false) × (leb 9 a.number ≡ false)

line-number : (m : Memory) (r : Recovery) → Line (recovery_line m r).reply
unfolding recovery_line
line-number m Idle = (refl, refl)
line-number m C1 = pick-case (λ (h : RecoveryDid). Line h.reply) (any_mark m.marks) (λ e. (refl, refl)) (λ e. (refl, refl))
line-number m C2 = (refl, refl)
line-number m (C3 w v) = (refl, refl)
line-number m (C4 w v) = (refl, refl)
line-number m (C5 w v) = (refl, refl)
line-number m C6 = (refl, refl)

lines-number : (b : ℕ) (a : Reply) (m : Memory) (r : Recovery) → Line a → Line (up_to b a m r).reply
unfolding up_to
lines-number zero a m r h = h
lines-number (suc b) a m Idle h = h
lines-number (suc b) a m C1 h = lines-number b _ _ _ (line-number m C1)
lines-number (suc b) a m C2 h = lines-number b _ _ _ (line-number m C2)
lines-number (suc b) a m (C3 w v) h = lines-number b _ _ _ (line-number m (C3 w v))
lines-number (suc b) a m (C4 w v) h = lines-number b _ _ _ (line-number m (C4 w v))
lines-number (suc b) a m (C5 w v) h = lines-number b _ _ _ (line-number m (C5 w v))
lines-number (suc b) a m C6 h = lines-number b _ _ _ (line-number m C6)

-- a call on no record is never answered 4
pub never-four : (s : Store) (k : Sys) → eqb (call s (sys k)).reply.number 4 ≡ false
unfolding call act system
never-four s (flush w) = first-case (λ (o : Outcome). eqb o.reply.number 4 ≡ false) (unfit s ⇒ 9 ∷ sys_checks (size s.mem) s.rec (flush w)) (refused s) (act s (sys (flush w))) (refl, (refl, tt)) refl
never-four s crash = first-case (λ (o : Outcome). eqb o.reply.number 4 ≡ false) (unfit s ⇒ 9 ∷ []) (refused s) (act s (sys crash)) (refl, tt) refl
never-four s recover =
    first-case (λ (o : Outcome). eqb o.reply.number 4 ≡ false) (unfit s ⇒ 9 ∷ sys_checks (size s.mem) s.rec recover) (refused s) (act s (sys recover)) (refl, (refl, tt)) (line-number s.mem s.rec).0
never-four s (recover_up_to b) =
    first-case (λ (o : Outcome). eqb o.reply.number 4 ≡ false) (unfit s ⇒ 9 ∷ sys_checks (size s.mem) s.rec (recover_up_to b)) (refused s) (act s (sys (recover_up_to b))) (refl, (refl, tt))
    (lines-number b (says 0 0) s.mem s.rec (refl, refl)).0

-- ---- what is counted

-- of a call k that found recovery at r and the marks q: a refusal has a number of 9 or above, and is counted for nothing
pub record Counts (k : Sys) (r : Recovery) (q : List ℕ) (a : Reply) (c l w : ℕ) : Type 0 where
  pub crashes : crashes_in (sys k) a ≡ c
  pub lines : lines_in (sys k) a ≡ l
  pub cut : cut_in (sys k) r q a ≡ w

abbrev pub Counted : Sys → Recovery → List ℕ → Happened → Type 0
Counted k r q (nothing a m) = (leb 9 a.number ≡ true) × Counts k r q a 0 0 0
Counted k r q (a-flush m) = Counts k r q (says 0 0) 0 0 0
Counted k r q (a-crash m) = Counts k r q (says 0 0) 1 0 (pick (not_idle r) 0 (count_of q))
Counted k r q (some-lines n h) = Counts k r q h.reply 0 n 0

abbrev zeros : {k : Sys} {r : Recovery} {q : List ℕ} {a : Reply} → crashes_in (sys k) a ≡ 0 → lines_in (sys k) a ≡ 0 → cut_in (sys k) r q a ≡ 0 → Counts k r q a 0 0 0
zeros x y z = record { crashes = x; lines = y; cut = z }

pub counted-so : (m : Memory) (r : Recovery) (k : Sys) → Counted k r m.marks (call_system m r k)
unfolding call_system
counted-so m r (flush w) =
    first-case (Counted (flush w) r m.marks) (unfit_memory m r ⇒ 9 ∷ sys_checks (size m) r (flush w)) (λ n. nothing (says n 0) m) (happens m r (flush w))
    ((refl, zeros refl refl refl), ((refl, zeros refl refl refl), tt)) (zeros refl refl refl)
counted-so m r crash =
    first-case (Counted crash r m.marks) (unfit_memory m r ⇒ 9 ∷ []) (λ n. nothing (says n 0) m) (happens m r crash)
    ((refl, zeros refl refl refl), tt) (record { crashes = refl; lines = refl; cut = refl })
counted-so m r recover =
    first-case (Counted recover r m.marks) (unfit_memory m r ⇒ 9 ∷ sys_checks (size m) r recover) (λ n. nothing (says n 0) m) (happens m r recover)
    ((refl, zeros refl refl refl), ((refl, zeros refl refl refl), tt)) (record { crashes = refl; lines = rw (line-number m r).1; cut = refl })
counted-so m r (recover_up_to b) =
    first-case (Counted (recover_up_to b) r m.marks) (unfit_memory m r ⇒ 9 ∷ sys_checks (size m) r (recover_up_to b)) (λ n. nothing (says n 0) m) (happens m r (recover_up_to b))
    ((refl, zeros refl refl refl), ((refl, zeros refl refl refl), tt)) (record { crashes = refl; lines = rw (lines-number b (says 0 0) m r (refl, refl)).1; cut = refl })

-- ---- a refusal of a call on a record

-- it has a number of 9 or above
abbrev Refusal : Turned → Type 0
Refusal (no-turn a m) = leb 9 a.number ≡ true
Refusal (a_turn d) = Unit {0}

refusal-of : (m : Memory) (r : Recovery) (t : Tx) (i : ℕ) (q : Ask) → Each Refusal (λ n. no-turn (says n 0) m) (ask_checks (size m) r t q) → Refusal (call_one m r t i q)
unfolding call_one
refusal-of m r t i q refusals =
    first-case Refusal (unfit_one (length m.vol) (length m.pers) (length m.old) m.marks m.glb r t ⇒ 9 ∷ leb 64 i ⇒ 11 ∷ ask_checks (size m) r t q)
    (λ n. no-turn (says n 0) m) (a_turn (ask m t q)) (refl, (refl, refusals)) tt

a-refusal : (m : Memory) (r : Recovery) (t : Tx) (i : ℕ) (q : Ask) → Refusal (call_one m r t i q)
a-refusal m r t i begin = refusal-of m r t i begin (refl, (refl, tt))
a-refusal m r t i (read w) = refusal-of m r t i (read w) (refl, (refl, (refl, tt)))
a-refusal m r t i (write w v) = refusal-of m r t i (write w v) (refl, (refl, (refl, tt)))
a-refusal m r t i commit = refusal-of m r t i commit (refl, (refl, tt))
a-refusal m r t i step = refusal-of m r t i step (refl, (refl, tt))

pub refused-so : (m : Memory) (r : Recovery) (t : Tx) (i : ℕ) (q : Ask) {a : Reply} {m' : Memory} → no-turn a m' ≡ call_one m r t i q → leb 9 a.number ≡ true
refused-so m r t i q e = subst Refusal (sym e) (a-refusal m r t i q)

-- ---- a crash

-- it leaves the marks
abbrev SameMarks : List ℕ → Happened → Type 0
SameMarks k (nothing a m) = Unit {0}
SameMarks k (a-flush m) = Unit {0}
SameMarks k (a-crash m) = m.marks ≡ k
SameMarks k (some-lines n h) = Unit {0}

same-marks : (m : Memory) (r : Recovery) (k : Sys) → SameMarks m.marks (call_system m r k)
unfolding call_system
same-marks m r (flush w) = first-case (SameMarks m.marks) (unfit_memory m r ⇒ 9 ∷ sys_checks (size m) r (flush w)) (λ n. nothing (says n 0) m) (happens m r (flush w)) (tt, (tt, tt)) tt
same-marks m r crash = first-case (SameMarks m.marks) (unfit_memory m r ⇒ 9 ∷ []) (λ n. nothing (says n 0) m) (happens m r crash) (tt, tt) refl
same-marks m r recover = first-case (SameMarks m.marks) (unfit_memory m r ⇒ 9 ∷ sys_checks (size m) r recover) (λ n. nothing (says n 0) m) (happens m r recover) (tt, (tt, tt)) tt
same-marks m r (recover_up_to b) =
    first-case (SameMarks m.marks) (unfit_memory m r ⇒ 9 ∷ sys_checks (size m) r (recover_up_to b)) (λ n. nothing (says n 0) m) (happens m r (recover_up_to b)) (tt, (tt, tt)) tt

pub crash-marks : (m : Memory) (r : Recovery) (k : Sys) {m' : Memory} → a-crash m' ≡ call_system m r k → m'.marks ≡ m.marks
crash-marks m r k e = subst (SameMarks m.marks) (sym e) (same-marks m r k)
