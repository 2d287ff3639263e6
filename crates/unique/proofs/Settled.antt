-- Every promise settles its outcome. A promise is a fact on the outcome; two facts that are both said give a third, and that is a law on the form of the promise:
-- the outcome is the definition's (`result`, `row`), or it can be read back from what is said of it (the others).
use Prim.Native.Nat.{ℕ}
use mathlib.Core.Path.{◌≡◌, refl, sym, ap, ◌∙◌}
use mathlib.Core.List.{List, []}
use seplogic.Ra.Ura.{Ura}
use base.Logic.{ent, via, emp, sep}
use contract.Conj.{conj_r, conj_mono, sep→conj}
use contract.Monad.{conj, fact, guard-conj, fact_mono}
use Rattle.std.specs.Prelude.{Result}
use Rattle.dtml.specs.declared.Refusal.{Refusal}
use Rattle.dtml.specs.declared.Tx.{Tx}
use Rattle.dtml.specs.Store.{Memory, Store}
use Rattle.parts.specs.declared.memory.Memory.{Memory as Lent}
use Rattle.parts.specs.Lent.{memory_of, SameRows}
use Rattle.system.specs.declared.Event.{Event}
use Rattle.machine.specs.declared.After.{After}
use Rattle.machine.specs.Working.{Renewed}
use Rattle.numbers.specs.Numbers.{Rows, rows, Given, given}
use Rattle.reader.specs.declared.Seen.{Seen}
use Rattle.reader.specs.Trace.{Item}
use Rattle.reader.specs.Said.{item}
use Rattle.reader.specs.declared.place.Reader.{Reader}
use Rattle.reader.specs.declared.place.Read.{Read}
use Rattle.text.specs.declared.Page.{Page}
use Rattle.text.specs.Buffer.{Buffer}
use Rattle.text.specs.Page.{on_page, LendsSame}
use Rattle.day.specs.declared.Ended.{Ended}
use Rattle.day.specs.declared.Replayed.{Replayed}
use Rattle.unique.specs.Unique.{UniqueOutcomes}
use Rattle.unique.proofs.Readings.{turn-same, event-same, after_same, worked_same, header-same, item-same}
use Rattle.unique.proofs.Endings.{Closed, ClosedBeside, closed_same, beside_same}

-- two facts that are both said, and what follows from them
both : {M : Type 1} (𝓤 : Ura M) {P Q R : Type 0} → (P → Q → R) → ent 𝓤 (conj 𝓤 (fact 𝓤 P) (fact 𝓤 Q)) (fact 𝓤 R)
both 𝓤 {P} {Q} {R} f = guard-conj 𝓤 P (emp 𝓤) (fact 𝓤 Q) (λ p. via 𝓤 (fact 𝓤 Q) (conj_r 𝓤 (emp 𝓤) (fact 𝓤 Q)) (fact_mono 𝓤 Q R (f p)))

-- the same of two promises of two facts each
said : {M : Type 1} (𝓤 : Ura M) {P Q P' Q' R : Type 0} → (P → P' → Q → Q' → R)
    → ent 𝓤 (conj 𝓤 (sep 𝓤 (fact 𝓤 P) (fact 𝓤 Q)) (sep 𝓤 (fact 𝓤 P') (fact 𝓤 Q'))) (fact 𝓤 R)
said 𝓤 {P} {Q} {P'} {Q'} f =
    via 𝓤 (conj 𝓤 (fact 𝓤 (P × Q)) (fact 𝓤 (P' × Q'))) (conj_mono 𝓤 (as-one P Q) (as-one P' Q')) (both 𝓤 (λ p q. f p.0 q.0 p.1 q.1))
  where
    as-one : (P Q : Type 0) → ent 𝓤 (sep 𝓤 (fact 𝓤 P) (fact 𝓤 Q)) (fact 𝓤 (P × Q))
    as-one P Q = via 𝓤 (conj 𝓤 (fact 𝓤 P) (fact 𝓤 Q)) (sep→conj 𝓤 (fact 𝓤 P) (fact 𝓤 Q)) (both 𝓤 (λ p q. (p, q)))

-- ---- the forms of the promises. An outcome is a tuple: what is returned, then for each parameter what it is left with, which is tt unless it is lent as `&mut`.
-- 𝓛 is the rest of the tuple, in which all is tt.

module _ {W : Type 0} where
  -- what is returned is the definition's
  result : {X : Type 0} {d : X} (x y : X × W) → x.0 ≡ d → y.0 ≡ d → ◌≡◌ {A = X × W} (x.0, x.1) (y.0, x.1)
  result x y p q = ap (λ z. (z, x.1)) (p ∙ sym q)

  -- nothing is returned, and the row is the definition's
  row : {X : Type 0} {d : X} (x y : Unit {0} × (X × W)) → x.1.0 ≡ d → y.1.0 ≡ d → ◌≡◌ {A = Unit {0} × (X × W)} (tt, (x.1.0, x.1.1)) (tt, (y.1.0, x.1.1))
  row x y p q = ap (λ z. (tt, (z, x.1.1))) (p ∙ sym q)

  -- the same beside a bound on it
  bounded : {X P Q : Type 0} {d : X} (x y : X × W) → (x.0 ≡ d) × P → (y.0 ≡ d) × Q → ◌≡◌ {A = X × W} (x.0, x.1) (y.0, x.1)
  bounded x y p q = result x y p.0 q.0

  -- what stands at a place of a trace, with the reader that has moved on, or with the place after it
  read : {d : Item} {r : Reader} (x y : Read × W) → (item x.0.item ≡ d) × (x.0.reader ≡ r) → (item y.0.item ≡ d) × (y.0.reader ≡ r)
      → ◌≡◌ {A = Read × W} (x.0, x.1) (y.0, x.1)
  read x y p q =
      ap (λ z. (record { item = z; reader = x.0.reader }, x.1)) (item-same x.0.item y.0.item p.0 q.0)
      ∙ ap (λ z. (record { item = y.0.item; reader = z }, x.1)) (p.1 ∙ sym q.1)

  seen : {d : Item} {n : ℕ} (x y : Seen × W) → (item x.0.item ≡ d) × (x.0.after ≡ n) → (item y.0.item ≡ d) × (y.0.after ≡ n)
      → ◌≡◌ {A = Seen × W} (x.0, x.1) (y.0, x.1)
  seen x y p q =
      ap (λ z. (record { item = z; after = x.0.after }, x.1)) (item-same x.0.item y.0.item p.0 q.0)
      ∙ ap (λ z. (record { item = y.0.item; after = z }, x.1)) (p.1 ∙ sym q.1)

-- ---- a struct that is lent and holds rows that are lent: each row is the same place and the same loan, and what the definitions read of the struct is settled

-- the memory that is read as m, in the rows of l
abbrev in_rows : Lent → Memory → Lent
in_rows l m =
    record {
      vol = record l.vol { now = m.vol };
      pers = record l.pers { now = m.pers };
      old_words = record l.old_words { now = m.old };
      marks = m.marks;
      glb = m.glb;
    }

same-rows : {a : Lent} (b c : Lent) (m : Memory) → SameRows a b → SameRows a c → in_rows b m ≡ in_rows c m
same-rows b c m s t =
    rw (s.vol.place, s.vol.loan, s.pers.place, s.pers.loan, s.old.place, s.old.loan, t.vol.place, t.vol.loan, t.pers.place, t.pers.loan, t.old.place, t.old.loan)

on-memory : {R W : Type 0} {a : Lent} (x y : R × (Lent × W)) → SameRows a x.1.0 → SameRows a y.1.0
    → ◌≡◌ {A = R × Memory} (x.0, memory_of x.1.0) (y.0, memory_of y.1.0)
    → ◌≡◌ {A = R × (Lent × W)} (x.0, (x.1.0, x.1.1)) (y.0, (y.1.0, x.1.1))
on-memory {R} x y s t e =
    ap (λ l. (x.0, (l, x.1.1))) (same-rows x.1.0 y.1.0 (memory_of x.1.0) s t) ∙ ap (λ (z : R × Memory). (z.0, (in_rows y.1.0 z.1, x.1.1))) e

-- the page that is read as that buffer, in the bytes of p
abbrev in_bytes : Page → Buffer → Page
in_bytes p o = record { bytes = record p.bytes { now = o.bytes }; at = o.at }

same-bytes : (a b c : Page) (o : Buffer) → LendsSame a b → LendsSame a c → in_bytes b o ≡ in_bytes c o
same-bytes a b c o s t = rw (s.0, s.1, t.0, t.1)

printed : {W : Type 0} {d : Buffer} (lent : Page) (x y : Unit {0} × (Page × W)) → LendsSame lent x.1.0 → LendsSame lent y.1.0 → on_page x.1.0 ≡ d → on_page y.1.0 ≡ d
    → ◌≡◌ {A = Unit {0} × (Page × W)} (tt, (x.1.0, x.1.1)) (tt, (y.1.0, x.1.1))
printed lent x y s t p q =
    ap (λ b. (tt, (b, x.1.1))) (same-bytes lent x.1.0 y.1.0 (on_page x.1.0) s t) ∙ ap (λ o. (tt, (in_bytes y.1.0 o, x.1.1))) (p ∙ sym q)

-- a number and the five rows
abbrev Five : Type 0 → Type 0
Five W = ℕ × (List ℕ × (List ℕ × (List ℕ × (List ℕ × (List ℕ × W)))))

module _ {W : Type 0} where
  abbrev rows_of : Five W → Rows
  rows_of x = rows x.1.0 x.1.1.0 x.1.1.1.0 x.1.1.1.1.0 x.1.1.1.1.1.0

  abbrev five : W → Given → Five W
  five w z = (z.number, (z.rows.vol, (z.rows.pers, (z.rows.old, (z.rows.held, (z.rows.records, w))))))

  numbered : {d : Given} (x y : Five W) → given x.0 [] (rows_of x) ≡ d → given y.0 [] (rows_of y) ≡ d
      → five x.1.1.1.1.1.1 (given x.0 [] (rows_of x)) ≡ five x.1.1.1.1.1.1 (given y.0 [] (rows_of y))
  numbered x y p q = ap (five x.1.1.1.1.1.1) (p ∙ sym q)

-- the end of a replay
abbrev closed : Ended × (Unit {0} × (List ℕ × (List ℕ × (List ℕ × (List Tx × (Unit {0} × (List ℕ × Unit {0}))))))) → Closed
closed x = record { ended = x.0; vol = x.1.1.0; pers = x.1.1.1.0; old = x.1.1.1.1.0; txs = x.1.1.1.1.1.0; out = x.1.1.1.1.1.1.1.0 }

abbrev beside : Replayed × (Unit {0} × (List ℕ × (List ℕ × (List ℕ × (Unit {0} × (Unit {0} × (List ℕ × Unit {0}))))))) → ClosedBeside
beside x = record { replayed = x.0; vol = x.1.1.0; pers = x.1.1.1.0; old = x.1.1.1.1.0; out = x.1.1.1.1.1.1.1.0 }

pub unique-outcomes : {M : Type 1} (𝓤 : Ura M) → UniqueOutcomes 𝓤
unique-outcomes 𝓤 =
    record {
      marks-mark = (λ κs a. refl, λ 𝓛 mem run κs a g x y. both 𝓤 (row x y));
      marks-unmark = (λ κs a. refl, λ 𝓛 mem run κs a g x y. both 𝓤 (row x y));
      marks-clear = (λ κs a. refl, λ 𝓛 mem run κs a g x y. both 𝓤 (row x y));
      marks-is-marked = (λ κs a. refl, λ 𝓛 mem run κs a g x y. both 𝓤 (result x y));
      marks-count = (λ κs a. refl, λ 𝓛 mem run κs a g x y. both 𝓤 (bounded x y));
      marks-lowest = (λ κs a. refl, λ 𝓛 mem run κs a g x y. both 𝓤 (result x y));
      marks-stands-from = (λ κs a. refl, λ 𝓛 mem run κs a g x y. both 𝓤 (result x y));
      parts-stage = (λ κs a. refl, λ 𝓛 mem run κs a g x y. both 𝓤 (result x y));
      parts-is-fresh = (λ κs a. refl, λ 𝓛 mem run κs a g x y. both 𝓤 (result x y));
      parts-is-ready = (λ κs a. refl, λ 𝓛 mem run κs a g x y. both 𝓤 (result x y));
      parts-is-live = (λ κs a. refl, λ 𝓛 mem run κs a g x y. both 𝓤 (result x y));
      parts-not-idle = (λ κs a. refl, λ 𝓛 mem run κs a g x y. both 𝓤 (result x y));
      parts-number = (λ κs a. refl, λ 𝓛 mem run κs a g x y. both 𝓤 (result x y));
      parts-value = (λ κs a. refl, λ 𝓛 mem run κs a g x y. both 𝓤 (result x y));
      parts-unfit-rows = (λ κs a. refl, λ 𝓛 mem run κs a g x y. both 𝓤 (result x y));
      parts-phase-past = (λ κs a. refl, λ 𝓛 mem run κs a g x y. both 𝓤 (result x y));
      parts-unfit-recovery = (λ κs a. refl, λ 𝓛 mem run κs a g x y. both 𝓤 (result x y));
      parts-unfit-tx = (λ κs a. refl, λ 𝓛 mem run κs a g x y. both 𝓤 (result x y));
      parts-unfit-idle = (λ κs a. refl, λ 𝓛 mem run κs a g x y. both 𝓤 (result x y));
      parts-unfit-beside = (λ κs a. refl, λ 𝓛 mem run κs a g x y. both 𝓤 (result x y));
      parts-unfit-one = (λ κs a. refl, λ 𝓛 mem run κs a g x y. both 𝓤 (result x y));
      parts-flush-word = (λ κs a. refl, λ 𝓛 mem run κs a g x y. both 𝓤 (λ p q. ap (λ z. (tt, (tt, (z, (tt, tt))))) (p ∙ sym q)));
      memory-unfit-idle = (λ κs a. refl, λ 𝓛 mem run κs a g x y. both 𝓤 (result x y));
      memory-unfit-beside = (λ κs a. refl, λ 𝓛 mem run κs a g x y. both 𝓤 (result x y));
      memory-unfit-one = (λ κs a. refl, λ 𝓛 mem run κs a g x y. both 𝓤 (result x y));
      memory-flush-word = (λ κs a. refl, λ 𝓛 mem run κs a g x y. said 𝓤 (λ s t p q. on-memory x y s t (ap (λ m. (tt, m)) (p ∙ sym q))));
      lines-call-one = (λ κs a. refl, λ 𝓛 mem run κs a g x y. said 𝓤 (λ s t p q. on-memory x y s t (turn-same x.0 y.0 p q)));
      system-call-system = (λ κs a. refl, λ 𝓛 mem run κs a g x y. both 𝓤 (λ p q. ap (λ (z : Result Event Refusal × Memory). (z.0, (z.1.vol, (z.1.pers, (tt, (z.1.marks, (z.1.glb, x.1.1.1.1.1.1))))))) (event-same x.0 y.0 p q)));
      system-call-on-memory = (λ κs a. refl, λ 𝓛 mem run κs a g x y. said 𝓤 (λ s t p q. on-memory x y s t (event-same x.0 y.0 p q)));
      system-crash-tx = (λ κs a. refl, λ 𝓛 mem run κs a g x y. both 𝓤 (result x y));
      records-get = (λ κs a. refl, λ 𝓛 mem run κs a g x y. both 𝓤 (result x y));
      records-put = (λ κs a. refl, λ 𝓛 mem run κs a g x y. both 𝓤 (row x y));
      records-unfit = (λ κs a. refl, λ 𝓛 mem run κs a g x y. both 𝓤 (result x y));
      records-crash-if = (λ κs a. refl, λ 𝓛 mem run κs a g x y. both 𝓤 (row x y));
      records-store-if = (λ κs a. refl, λ 𝓛 mem run κs a g x y. both 𝓤 (row x y));
      machine-place-of = (λ κs a. refl, λ 𝓛 mem run κs a g x y. both 𝓤 (bounded x y));
      machine-slot = (λ κs a. refl, λ 𝓛 mem run κs a g x y. both 𝓤 (bounded x y));
      machine-work = (λ κs a. refl, λ 𝓛 mem run κs a g x y. said 𝓤 (λ s t p q. on-memory x y s t (worked_same x.0 y.0 p q)));
      machine-zero = (λ κs a. refl, λ 𝓛 mem run κs a g x y. both 𝓤 (row x y));
      machine-renew = (λ κs a. refl, λ 𝓛 mem run κs a g x y. both 𝓤 (λ p q. ap (λ (z : Renewed). (z.after, (z.vol, (z.pers, (z.old, x.1.1.1.1))))) (p ∙ sym q)));
      machine-blank = (λ κs a. refl, λ 𝓛 mem run κs a g x y. both 𝓤 (result x y));
      machine-make-fresh = (λ κs a. refl, λ 𝓛 mem run κs a g x y. both 𝓤 (λ p q. ap (λ (z : After × Store). (z.0, (z.1.mem.vol, (z.1.mem.pers, (z.1.mem.old, (z.1.txs, x.1.1.1.1.1)))))) (after_same x.0 y.0 p q)));
      machine-call = (λ κs a. refl, λ 𝓛 mem run κs a g x y. both 𝓤 (λ p q. ap (λ (z : After × Store). (z.0, (z.1.mem.vol, (z.1.mem.pers, (z.1.mem.old, (z.1.txs, x.1.1.1.1.1)))))) (after_same x.0 y.0 p q)));
      spelling-spelt-by = (λ κs a. refl, λ 𝓛 mem run κs a g x y. both 𝓤 (result x y));
      spelling-spell-phase = (λ κs a. refl, λ 𝓛 mem run κs a g x y. both 𝓤 (result x y));
      spelling-read-phase = (λ κs a. refl, λ 𝓛 mem run κs a g x y. both 𝓤 (result x y));
      spelling-spell-recovery = (λ κs a. refl, λ 𝓛 mem run κs a g x y. both 𝓤 (result x y));
      spelling-read-recovery = (λ κs a. refl, λ 𝓛 mem run κs a g x y. both 𝓤 (result x y));
      spelling-same-spelling = (λ κs a. refl, λ 𝓛 mem run κs a g x y. both 𝓤 (result x y));
      numbers-call = (λ κs a. refl, λ 𝓛 mem run κs a g x y. both 𝓤 (λ p q. ap (λ (z : Given). five (tt, (z.value, tt)) z) (p ∙ sym q)));
      numbers-asked = (λ κs a. refl, λ 𝓛 mem run κs a g x y. both 𝓤 (numbered x y));
      numbers-make-fresh = (λ κs a. refl, λ 𝓛 mem run κs a g x y. both 𝓤 (numbered x y));
      calls-register-begin = (λ κs a. refl, λ 𝓛 mem run κs a g x y. both 𝓤 (numbered x y));
      calls-register-read = (λ κs a. refl, λ 𝓛 mem run κs a g x y. both 𝓤 (numbered x y));
      calls-register-write = (λ κs a. refl, λ 𝓛 mem run κs a g x y. both 𝓤 (numbered x y));
      calls-register-commit = (λ κs a. refl, λ 𝓛 mem run κs a g x y. both 𝓤 (numbered x y));
      calls-register-step = (λ κs a. refl, λ 𝓛 mem run κs a g x y. both 𝓤 (λ p q. ap (λ (z : Given). five (tt, (z.value, tt)) z) (p ∙ sym q)));
      calls-register-make-fresh = (λ κs a. refl, λ 𝓛 mem run κs a g x y. both 𝓤 (numbered x y));
      calls-register-flush = (λ κs a. refl, λ 𝓛 mem run κs a g x y. both 𝓤 (numbered x y));
      calls-register-crash = (λ κs a. refl, λ 𝓛 mem run κs a g x y. both 𝓤 (numbered x y));
      calls-register-recover = (λ κs a. refl, λ 𝓛 mem run κs a g x y. both 𝓤 (numbered x y));
      calls-register-recover-up-to = (λ κs a. refl, λ 𝓛 mem run κs a g x y. both 𝓤 (λ p q. ap (λ (z : Given). five (tt, (z.value, tt)) z) (p ∙ sym q)));
      text-put-byte = (λ κs a. refl, λ 𝓛 mem run κs a g x y. said 𝓤 (printed a.0.now x y));
      text-put-bytes = (λ κs a. refl, λ 𝓛 mem run κs a g x y. said 𝓤 (printed a.0.now x y));
      text-put-decimal = (λ κs a. refl, λ 𝓛 mem run κs a g x y. said 𝓤 (printed a.0.now x y));
      text-put-answer = (λ κs a. refl, λ 𝓛 mem run κs a g x y. said 𝓤 (printed a.0.now x y));
      text-put-stop = (λ κs a. refl, λ 𝓛 mem run κs a g x y. said 𝓤 (printed a.0.now x y));
      text-put-totals = (λ κs a. refl, λ 𝓛 mem run κs a g x y. said 𝓤 (printed a.0.now x y));
      day-from = (λ κs a. refl, λ 𝓛 mem run κs a g x y. both 𝓤 (result x y));
      trace-replay-beside = (λ κs a. refl, λ 𝓛 mem run κs a g x y. both 𝓤 (λ p q. ap (λ (z : ClosedBeside). (z.replayed, (tt, (z.vol, (z.pers, (z.old, (tt, (tt, (z.out, tt))))))))) (beside_same _ _ _ _ _ _ _ (beside x) (beside y) p q)));
      trace-replay = (λ κs a. refl, λ 𝓛 mem run κs a g x y. both 𝓤 (λ p q. ap (λ (z : Closed). (z.ended, (tt, (z.vol, (z.pers, (z.old, (z.txs, (tt, (z.out, tt))))))))) (closed_same _ _ (closed x) (closed y) p q)));
      host-register-replay = (λ κs a. refl, λ 𝓛 mem run κs a g x y. both 𝓤 (λ p q. ap (λ (z : Buffer). (z.at, (tt, (z.bytes, tt)))) (p ∙ sym q)));
      reader-number = (λ κs a. refl, λ 𝓛 mem run κs a g x y. both 𝓤 (result x y));
      reader-header = (λ κs a. refl, λ 𝓛 mem run κs a g x y. both 𝓤 (λ p q. ap (λ z. (z, x.1)) (header-same x.0 y.0 p q)));
      reader-next = (λ κs a. refl, λ 𝓛 mem run κs a g x y. both 𝓤 (read x y));
      reader-read-at = (λ κs a. refl, λ 𝓛 mem run κs a g x y. both 𝓤 (seen x y));
    }
