-- What is printed hangs on the trace alone, as long as the rows fit it; and the numbers printed are those of the schedule that the trace carries, so that
-- demand 3 holds of them.
use Prim.Native.Nat.{ℕ, ◌+◌, ◌*◌, ◌≤◌}
use native.Mathlib.Omega.{arith}
use borrow.Author.Tests.{eq-eqb}
use mathlib.Core.Path.{◌≡◌, refl, sym, ap, subst, ◌∙◌}
use mathlib.Core.List.{List, [], ◌∷◌}
use lib.ListN.{length, length-replicate}
use Rattle.std.specs.Prelude.{Result, Ok, Err}
use Rattle.dtml.specs.Store.{Store, fresh}
use Rattle.dtml.specs.First.{Check, first}
use Rattle.dtml.proofs.Words.{pick-case}
use Rattle.dtml.proofs.Demands.{recovery-cost}
use Rattle.reader.specs.Said.{header_of}
use Rattle.reader.specs.Trace.{words_of, header_checks, script_of}
use Rattle.reader.proofs.Scripts.{header-sound, header-taken, header_refused}
use Rattle.day.specs.Replay.{Replay, stopped, done, unfit_for, replay, text_of, printed}
use Rattle.day.specs.Cost.{PrintedCost}

abbrev Cheap : Replay → Type 0
Cheap p = p.ending.totals.lines ≤ 5 * p.ending.totals.cut + 4 * p.ending.totals.crashes

-- a first check that applies, or what is done where none does
first_either : {A : Type 0} (P : A → Type 0) (cs : List Check) (f : ℕ → A) (x : A) → ((k : ℕ) → P (f k)) → P x → P (first cs f x)
first_either P [] f x refuse go = go
first_either P (c ∷ cs) f x refuse go = pick-case P c.applies (λ e. refuse c.number) (λ e. first_either P cs f x refuse go)

pub printed-cost : PrintedCost
unfolding replay
printed-cost bs s = go (header_of bs) refl
  where
    p : Replay
    p = first (unfit_for (words_of bs) s) (λ k. stopped k s) (done (words_of bs) (script_of bs))

    cheap : (w : ℕ) → header_of bs ≡ Ok w → Cheap p
    cheap w e =
        let n = header-sound bs w e in
        first_either Cheap (unfit_for (words_of bs) s) (λ k. stopped k s) (done (words_of bs) (script_of bs)) (λ k. omega arith)
        (recovery-cost (words_of bs) (script_of bs).calls (n.1, n.2))

    go : (h : Result ℕ ℕ) → header_of bs ≡ h → Cheap (first (header_checks bs) (λ k. stopped k s) p)
    go (Ok w) e = subst Cheap (sym (header-taken bs w e (λ k. stopped k s) p)) (cheap w e)
    go (Err k) e = subst Cheap (sym (header_refused bs k (λ k. stopped k s) p e)) (omega arith)

-- the rows are as long as the header says, if it is sound
pub record RowsFit (bs : List ℕ) (s : Store) : Type 0 where
  pub vol : length s.mem.vol ≡ words_of bs
  pub pers : length s.mem.pers ≡ words_of bs
  pub old : length s.mem.old ≡ words_of bs
  pub txs : length s.txs ≡ 64

fits-done : (bs : List ℕ) (s : Store) (w : ℕ) → RowsFit bs s → header_of bs ≡ Ok w → replay bs s ≡ done (words_of bs) (script_of bs)
unfolding replay
fits-done bs s w f e =
    header-taken bs w e (λ k. stopped k s) _ ∙ rw (f.vol, f.pers, f.old, f.txs, eq-eqb (words_of bs) (words_of bs) refl)

fresh-fits : (bs : List ℕ) → RowsFit bs (fresh (words_of bs))
unfolding fresh
fresh-fits bs =
    record {
      vol = length-replicate (words_of bs) 0;
      pers = length-replicate (words_of bs) 0;
      old = length-replicate (words_of bs) 0;
      txs = refl;
    }

stopped-text : (bs : List ℕ) (s : Store) (k : ℕ) → header_of bs ≡ Err k → text_of (replay bs s) ≡ text_of (stopped k (fresh 0))
unfolding replay text_of
stopped-text bs s k e = ap text_of (header_refused bs k (λ k. stopped k s) _ e)

pub prints : (bs : List ℕ) (s : Store) → ((w : ℕ) → header_of bs ≡ Ok w → RowsFit bs s) → text_of (replay bs s) ≡ printed bs
unfolding printed
prints bs s f = go (header_of bs) refl
  where
    go : (h : Result ℕ ℕ) → header_of bs ≡ h → text_of (replay bs s) ≡ text_of (replay bs (fresh (words_of bs)))
    go (Ok w) e = ap text_of (fits-done bs s w (f w e) e ∙ sym (fits-done bs (fresh (words_of bs)) w (fresh-fits bs) e))
    go (Err k) e = stopped-text bs s k e ∙ sym (stopped-text bs (fresh (words_of bs)) k e)
