-- What is found at a place, case by case, in the numbers that the code has: the trace's length, the place, and the body's length as it was read.
use Prim.Native.Nat.{ℕ, ◌+◌, ◌-◌, ◌≤◌, ◌<◌}
use mathlib.Core.Path.{◌≡◌}
use mathlib.Core.List.{List, [], ◌∷◌}
use native.Mathlib.Nat.{add-zero}
use native.Mathlib.Omega.{arith}
use borrow.Author.Tests.{lt-ltb, le-ltb, eq-eqb, ne_eqb}
use lib.ListN.{length, take, drop, length-drop}
use lib.Seq.{get_or-drop, drop-drop}
use lib.Dec.{eqb, ltb}
use Rattle.bits.specs.Marks.{pick}
use Rattle.dtml.specs.First.{◌⇒◌, first}
use Rattle.reader.specs.Trace.{two, end, stops, kinds, of_kind, found}

module _ (bs : List ℕ) (at : ℕ) where
  -- the definition, with the bytes that are left told in those of the trace
  found_at : found (drop at bs)
      ≡ pick (eqb (length bs - at) 0) end
      (first (ltb (length bs - at) 2 ⇒ 20 ∷ eqb (two bs at) 0 ⇒ 18 ∷ ltb (length bs - at) (2 + two bs at) ⇒ 20 ∷ [])
      stops (of_kind kinds (take (two bs at) (drop (at + 2) bs))))
  unfolding found
  found_at = rw (length-drop, drop-drop 2 at bs, get_or-drop at bs 0 0, get_or-drop at bs 1 0, add-zero at)

  pub none_left : length bs ≤ at → found (drop at bs) ≡ end
  none_left h = rw (found_at, eq-eqb (length bs - at) 0 (omega arith))

  pub one_left : at < length bs → length bs - at < 2 → found (drop at bs) ≡ stops 20
  one_left some h = rw (found_at, ne_eqb (length bs - at) 0 (λ z. omega arith), lt-ltb (length bs - at) 2 h)

  module _ (long : ℕ) (reads : long ≡ two bs at) (room : 2 ≤ length bs - at) where
    pub no_body : long ≡ 0 → found (drop at bs) ≡ stops 18
    no_body z =
        rw (
          found_at,
          ← reads,
          ne_eqb (length bs - at) 0 (λ z. omega arith),
          le-ltb (length bs - at) 2 room,
          eq-eqb long 0 z,
        )

    pub beyond : (long ≡ 0 → ⊥) → length bs - at - 2 < long → found (drop at bs) ≡ stops 20
    beyond f h =
        rw (
          found_at,
          ← reads,
          ne_eqb (length bs - at) 0 (λ z. omega arith),
          le-ltb (length bs - at) 2 room,
          ne_eqb long 0 f,
          lt-ltb (length bs - at) (2 + long) (omega arith),
        )

    pub within : (long ≡ 0 → ⊥) → long ≤ length bs - at - 2 → found (drop at bs) ≡ of_kind kinds (take long (drop (at + 2) bs))
    within f h =
        rw (
          found_at,
          ← reads,
          ne_eqb (length bs - at) 0 (λ z. omega arith),
          le-ltb (length bs - at) 2 room,
          ne_eqb long 0 f,
          le-ltb (length bs - at) (2 + long) (omega arith),
        )
