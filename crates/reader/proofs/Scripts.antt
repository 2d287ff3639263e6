-- How a script grows, record by record: a record takes three bytes or more, so what is left is shorter, and as many turns as bytes are enough.
-- What a header says: where it names N words no check applies; else the first that applies refuses.
use Prim.Native.Nat.{ℕ, zero, suc, ◌+◌, ◌≤◌, ◌<◌}
use mathlib.Core.Path.{◌≡◌, refl, sym, ap, subst, ◌∙◌}
use mathlib.Core.Bool.{Bool, true, false}
use mathlib.Core.List.{List, [], ◌∷◌}
use native.Mathlib.Omega.{arith}
use borrow.Author.Tests.{ltb-false, eqb-false, eq-eqb}
use lib.ListN.{length, take, drop, length-drop}
use lib.Seq.{length-take-le}
use lib.Dec.{eqb, ltb}
use Rattle.std.specs.Prelude.{Result, Ok, Err}
use Rattle.bits.specs.Marks.{pick}
use Rattle.dtml.specs.declared.Call.{Call}
use Rattle.dtml.specs.First.{any_of, Check, first}
use Rattle.dtml.proofs.Words.{pick-case}
use Rattle.dtml.proofs.Fit.{last, none}
use Rattle.reader.specs.declared.TraceRefusal.{TraceRefusal}
use Rattle.reader.specs.declared.TraceRefusal.TheVariants.{UnknownKind, WrongLength, WrongVersion, CutShort, WrongSize, TooLong}
use Rattle.reader.specs.Trace.{byte, two, words_of, header_checks, Kind, kinds, Item, end, stops, does, of_kind, found, Script, script, follow, script_up_to}
use Rattle.reader.specs.Said.{number_of, header_of}

-- ---- a record's bytes

end-not : {A : Type 0} {c : Call} {k : ℕ} → end ≡ does c k → A
end-not e = let z : ◌≡◌ {A = ℕ} 0 1 = cc in absurd (omega arith)

stops-not : {A : Type 0} {n : ℕ} {c : Call} {k : ℕ} → stops n ≡ does c k → A
stops-not e = let z : ◌≡◌ {A = ℕ} 0 1 = cc in absurd (omega arith)

does-bytes : {c d : Call} {k n : ℕ} → does c k ≡ does d n → n ≡ k
does-bytes e = cc

does_call : {c d : Call} {k n : ℕ} → does c k ≡ does d n → c ≡ d
does_call e = cc

kind-bytes : (ks : List Kind) (body : List ℕ) (c : Call) (k : ℕ) → of_kind ks body ≡ does c k → k ≡ 2 + length body
unfolding of_kind
kind-bytes [] body c k = stops-not
kind-bytes (x ∷ xs) body c k =
    let P : Item → Type 0 = λ f. (f ≡ does c k → k ≡ 2 + length body) in
    pick-case P (eqb (byte body 0) x.number)
    (λ e. pick-case P (eqb (length body) x.long) (λ e. does-bytes) (λ e. stops-not))
    (λ e. kind-bytes xs body c k)

pub found-bytes : (bs : List ℕ) (c : Call) (k : ℕ) → found bs ≡ does c k → (3 ≤ k) × (k ≤ length bs)
unfolding found
found-bytes bs c k =
    let P : Item → Type 0 = λ f. (f ≡ does c k → (3 ≤ k) × (k ≤ length bs)) in
    pick-case P (eqb (length bs) 0) (λ e. end-not)
    (λ e. pick-case P (ltb (length bs) 2) (λ e. stops-not)
    (λ e. pick-case P (eqb (two bs 0) 0) (λ e. stops-not)
    (λ some. pick-case P (ltb (length bs) (2 + two bs 0)) (λ e. stops-not)
    (λ room q. body some room (kind-bytes kinds _ c k q)))))
  where
    body : eqb (two bs 0) 0 ≡ false → ltb (length bs) (2 + two bs 0) ≡ false → k ≡ 2 + length (take (two bs 0) (drop 2 bs)) → (3 ≤ k) × (k ≤ length bs)
    body some room e =
        let f : two bs 0 ≡ 0 → ⊥ = eqb-false (two bs 0) 0 some in
        let g : 2 + two bs 0 ≤ length bs = ltb-false (length bs) (2 + two bs 0) room in
        let l = length-take-le (two bs 0) (drop 2 bs) (rw (length-drop 2 bs) (omega arith)) in
        (omega arith, omega arith)

-- the place after a record lies inside the trace
pub after-inside : (bs : List ℕ) (at : ℕ) (c : Call) (k : ℕ) → found (drop at bs) ≡ does c k → (at < at + k) × (at + k ≤ length bs)
after-inside bs at c k e =
    let b = found-bytes (drop at bs) c k e in
    let l = length-drop at bs in
    (omega arith, omega arith)

-- what holds of every call that the table's rows ask for
abbrev pub AllAsk : (Call → Type 0) → List Kind → Type 0
AllAsk P [] = Unit
AllAsk P (x ∷ xs) = ((body : List ℕ) → P (x.call body)) × AllAsk P xs

kind-asks : (P : Call → Type 0) (xs : List Kind) (body : List ℕ) (c : Call) (k : ℕ) → AllAsk P xs → of_kind xs body ≡ does c k → P c
unfolding of_kind
kind-asks P [] body c k all = stops-not
kind-asks P (x ∷ xs) body c k all =
    let Q : Item → Type 0 = λ f. (f ≡ does c k → P c) in
    pick-case Q (eqb (byte body 0) x.number)
    (λ e. pick-case Q (eqb (length body) x.long) (λ e q. subst P (does_call q) (all.0 body)) (λ e. stops-not))
    (λ e. kind-asks P xs body c k all.1)

-- holds of a record's call
pub found-asks : (P : Call → Type 0) (bs : List ℕ) (c : Call) (k : ℕ) → AllAsk P kinds → found bs ≡ does c k → P c
unfolding found
found-asks P bs c k all =
    let Q : Item → Type 0 = λ f. (f ≡ does c k → P c) in
    pick-case Q (eqb (length bs) 0) (λ e. end-not)
    (λ e. pick-case Q (ltb (length bs) 2) (λ e. stops-not)
    (λ e. pick-case Q (eqb (two bs 0) 0) (λ e. stops-not)
    (λ e. pick-case Q (ltb (length bs) (2 + two bs 0)) (λ e. stops-not)
    (λ e. kind-asks P kinds _ c k all))))

-- ---- the script

follow-same : (f : Item) (r s : ℕ → Script) → ((c : Call) (k : ℕ) → f ≡ does c k → r k ≡ s k) → follow f r ≡ follow f s
follow-same end r s h = refl
follow-same (stops n) r s h = refl
follow-same (does c k) r s h = ap (λ (x : Script). script (c ∷ x.calls) x.refusal) (h c k refl)

-- a record's bytes dropped, fewer bytes than before are left
shorter : (bs : List ℕ) (c : Call) (k n : ℕ) → found bs ≡ does c k → length bs ≤ suc n → length (drop k bs) ≤ n
shorter bs c k n e h = let b = found-bytes bs c k e in rw (length-drop k bs) (omega arith)

found_none : (bs : List ℕ) → length bs ≤ 0 → found bs ≡ end
unfolding found
found_none bs h = rw (eq-eqb (length bs) 0 (omega arith))

pub script-more : (a b : ℕ) (bs : List ℕ) → length bs ≤ a → length bs ≤ b → script_up_to a bs ≡ script_up_to b bs
unfolding script_up_to
script-more zero zero bs h i = refl
script-more zero (suc b) bs h i = rw (found_none bs h)
script-more (suc a) zero bs h i = rw (found_none bs i)
script-more (suc a) (suc b) bs h i =
    follow-same (found bs) (λ k. script_up_to a (drop k bs)) (λ k. script_up_to b (drop k bs))
    (λ c k e. script-more a b (drop k bs) (shorter bs c k a e h) (shorter bs c k b e i))

-- the script of all bytes
abbrev pub script_from : List ℕ → Script
script_from bs = script_up_to (length bs) bs

script-here : (bs : List ℕ) → script_from bs ≡ follow (found bs) (λ k. script_up_to (length bs) (drop k bs))
unfolding script_up_to
script-here bs = script-more (length bs) (suc (length bs)) bs (omega arith) (omega arith)

pub script-end : (bs : List ℕ) → found bs ≡ end → script_from bs ≡ script [] 0
script-end bs e = script-here bs ∙ rw e

pub script-stops : (bs : List ℕ) (n : ℕ) → found bs ≡ stops n → script_from bs ≡ script [] n
script-stops bs n e = script-here bs ∙ rw e

pub script-does : (bs : List ℕ) (c : Call) (k : ℕ) → found bs ≡ does c k
    → script_from bs ≡ script (c ∷ (script_from (drop k bs)).calls) (script_from (drop k bs)).refusal
script-does bs c k e =
    script-here bs
    ∙ rw e
    (ap (λ (x : Script). script (c ∷ x.calls) x.refusal)
    (script-more (length bs) (length (drop k bs)) (drop k bs) (shorter bs c k (length bs) e (omega arith)) (omega arith)))

-- ---- the first check that applies

abbrev pub NoneApplies : List Check → Type 0
NoneApplies [] = Unit {0}
NoneApplies (c ∷ cs) = (c.applies ≡ false) × NoneApplies cs

abbrev pub passed : ℕ → Result ℕ ℕ
passed n = Ok n

abbrev pub refused : ℕ → Result ℕ ℕ
refused k = Err k

pub ok-not-err : {A : Type 0} {n k : ℕ} → passed n ≡ refused k → A
ok-not-err e = let z : ◌≡◌ {A = ℕ} 0 1 = cc in absurd (omega arith)

pub err-is : {j k : ℕ} → refused j ≡ refused k → j ≡ k
err-is e = cc

pub ok-is : {n m : ℕ} → passed n ≡ passed m → n ≡ m
ok-is e = cc

none-applies : (cs : List Check) (w n : ℕ) → first cs Err (passed w) ≡ passed n → (w ≡ n) × NoneApplies cs
none-applies [] w n e = (ok-is e, tt)
none-applies (c ∷ cs) w n e = go c.applies e (none-applies cs w n)
  where
    go : (b : Bool) → pick b (refused c.number) (first cs Err (passed w)) ≡ passed n
        → (first cs Err (passed w) ≡ passed n → (w ≡ n) × NoneApplies cs) → (w ≡ n) × ((b ≡ false) × NoneApplies cs)
    go true e rest = ok-not-err (sym e)
    go false e rest = let r = rest e in (r.0, (refl, r.1))

pub first-none : {A : Type 0} (cs : List Check) (f : ℕ → A) (x : A) → NoneApplies cs → first cs f x ≡ x
first-none [] f x n = refl
first-none (c ∷ cs) f x n = rw n.0 (first-none cs f x n.1)

first-refuses : {A : Type 0} (cs : List Check) (w k : ℕ) (f : ℕ → A) (x : A) → first cs Err (passed w) ≡ refused k → first cs f x ≡ f k
first-refuses [] w k f x e = ok-not-err e
first-refuses (c ∷ cs) w k f x e = go c.applies e (first-refuses cs w k f x)
  where
    go : (b : Bool) → pick b (refused c.number) (first cs Err (passed w)) ≡ refused k
        → (first cs Err (passed w) ≡ refused k → first cs f x ≡ f k) → pick b (f c.number) (first cs f x) ≡ f k
    go true e rest = ap f (err-is e)
    go false e rest = rest e

-- ---- the header

module _ (bs : List ℕ) (n : ℕ) (taken : header_of bs ≡ Ok n) where
  header-passes : (words_of bs ≡ n) × NoneApplies (header_checks bs)
  unfolding header_of
  header-passes = none-applies (header_checks bs) (words_of bs) n taken

  pub header-taken : {A : Type 0} (f : ℕ → A) (x : A) → first (header_checks bs) f x ≡ x
  header-taken f x = first-none (header_checks bs) f x header-passes.1

  pub header-sound : (n ≡ words_of bs) × (0 < words_of bs) × (words_of bs ≤ 256) × (3 ≤ length bs) × (length bs ≤ 65536)
  header-sound =
      let p = header-passes.1 in
      let w = none (eqb (words_of bs) 0) (any_of (ltb 256 (words_of bs) ∷ [])) p.1.1.1.1.0 in
      let f : words_of bs ≡ 0 → ⊥ = eqb-false (words_of bs) 0 w.0 in (
        sym header-passes.0,
        omega arith,
        ltb-false 256 (words_of bs) (last (ltb 256 (words_of bs)) ∙ w.1),
        ltb-false (length bs) 3 p.1.1.1.0,
        ltb-false 65536 (length bs) p.0,
      )

pub header_refused : {A : Type 0} (bs : List ℕ) (k : ℕ) (f : ℕ → A) (x : A) → header_of bs ≡ Err k → first (header_checks bs) f x ≡ f k
unfolding header_of
header_refused bs k f x e = first-refuses (header_checks bs) (words_of bs) k f x e

-- ---- a refusal's number, as it is printed

pub refusal-small : (r : TraceRefusal) → number_of r < 100
refusal-small UnknownKind = omega arith
refusal-small WrongLength = omega arith
refusal-small WrongVersion = omega arith
refusal-small CutShort = omega arith
refusal-small WrongSize = omega arith
refusal-small TooLong = omega arith
