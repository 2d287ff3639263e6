-- The host's loop over plain values: after i calls the store and the text are those of the definitions; a call's outcome is the definition's since its store and what
-- is asked are. The text ends within its buffer, since a byte is put only where there is room.
use Prim.Native.Nat.{ℕ, zero, suc, ◌+◌, ◌≤◌}
use mathlib.Core.Path.{◌≡◌, refl, sym, ap, ◌∙◌}
use native.Mathlib.Numerals.{add-one}
use native.Mathlib.Omega.{arith}
use mathlib.Core.Bool.{Bool, true, false}
use mathlib.Core.List.{List, [], ◌∷◌}
use lib.ListN.{length, set, length-set}
use lib.Seq.{length-take-le}
use lib.Dec.{ltb}
use borrow.Author.Tests.{ltb-true}
use Rattle.io.specs.Counts.{IsPrefixLen}
use Rattle.bits.specs.Marks.{pick}
use Rattle.dtml.specs.declared.Call.{Call}
use Rattle.dtml.specs.declared.Tx.{Tx}
use Rattle.dtml.specs.Store.{Store}
use Rattle.dtml.specs.Asked.{Outcome}
use Rattle.dtml.specs.Calls.{call}
use Rattle.machine.specs.declared.Held.{Held}
use Rattle.machine.specs.Given.{store_of}
use Rattle.machine.proofs.Caller.{Rows, these-rows, store-of}
use Rattle.text.specs.Buffer.{Buffer, buffer, put, puts}
use Rattle.join.specs.Join.{asked_at, told, store_at, outcome_at, text_at}

-- ---- the rows apart, each of them what it is after i calls

abbrev pub rows_at : ℕ → Rows
rows_at i = these-rows (store_at i).mem.vol (store_at i).mem.pers (store_at i).mem.old (store_at i).txs

abbrev pub held_at : ℕ → Held
held_at i = record { marks = (store_at i).mem.marks; glb = (store_at i).mem.glb; recovery = (store_at i).rec }

pub record Left (i : ℕ) (z : Rows) (h : Held) : Type 0 where
  pub vol : z.vol ≡ (store_at i).mem.vol
  pub pers : z.pers ≡ (store_at i).mem.pers
  pub old : z.old ≡ (store_at i).mem.old
  pub txs : z.txs ≡ (store_at i).txs
  pub held : h ≡ held_at i

-- the rows, with what is held, are the store after i calls
pub same-store : (i : ℕ) (z : Rows) (h : Held) → Left i z h → store-of z h ≡ store-of (rows_at i) (held_at i)
same-store i z h l =
    ap (λ (v : List ℕ). store_of v z.pers z.old h z.txs) l.vol
    ∙ ap (λ (p : List ℕ). store_of (rows_at i).vol p z.old h z.txs) l.pers
    ∙ ap (λ (o : List ℕ). store_of (rows_at i).vol (rows_at i).pers o h z.txs) l.old
    ∙ ap (λ (ts : List Tx). store_of (rows_at i).vol (rows_at i).pers (rows_at i).old h ts) l.txs
    ∙ ap (λ (k : Held). store_of (rows_at i).vol (rows_at i).pers (rows_at i).old k (rows_at i).txs) l.held

-- ---- the store as one

-- one call more: what was asked, of which store, and what that left
module _ (i : ℕ) (asked : Call) (s : Store) (o : Outcome) (is : asked ≡ asked_at i) (before : s ≡ store_at i) (e : o ≡ call s asked) where
  went : o ≡ outcome_at i
  went = e ∙ ap (λ (x : Store). call x asked) before ∙ ap (call (store_at i)) is

  pub called : o.store ≡ store_at (i + 1)
  unfolding store_at
  called = ap (λ (x : Outcome). x.store) went ∙ ap store_at (sym (add-one i))

  pub wrote : (out : List ℕ) (p q : Buffer) → p ≡ text_at out i → q ≡ puts p (told asked o.reply o.store.mem.pers) → q ≡ text_at out (i + 1)
  unfolding text_at
  wrote out p q so f =
      f
      ∙ ap (λ (x : Buffer). puts x (told asked o.reply o.store.mem.pers)) so
      ∙ ap (λ (c : Call). puts (text_at out i) (told c o.reply o.store.mem.pers)) is
      ∙ ap (λ (x : Outcome). puts (text_at out i) (told (asked_at i) x.reply x.store.mem.pers)) went
      ∙ ap (text_at out) (sym (add-one i))

-- ---- the text ends within the buffer
put-within : (o : Buffer) (b : ℕ) → o.at ≤ length o.bytes → (put o b).at ≤ length (put o b).bytes
unfolding put
put-within o b h = go (ltb o.at (length o.bytes)) refl
  where
    go : (t : Bool) → ltb o.at (length o.bytes) ≡ t → (pick t (buffer (set o.bytes o.at b) (o.at + 1)) o).at ≤ length (pick t (buffer (set o.bytes o.at b) (o.at + 1)) o).bytes
    go true e = omega (arith, ltb-true o.at (length o.bytes) e, length-set o.bytes o.at b)
    go false e = h

puts-within : (o : Buffer) (t : List ℕ) → o.at ≤ length o.bytes → (puts o t).at ≤ length (puts o t).bytes
unfolding puts
puts-within o [] h = h
puts-within o (b ∷ t) h = puts-within (put o b) t (put-within o b h)

within : (out : List ℕ) (i : ℕ) → (text_at out i).at ≤ length (text_at out i).bytes
unfolding text_at
within out zero = omega arith
within out (suc i) = puts-within (text_at out i) _ (within out i)

pub counts-so : (out : List ℕ) (i : ℕ) → IsPrefixLen (text_at out i).at (text_at out i).bytes
counts-so out i = (within out i, sym (length-take-le (text_at out i).at (text_at out i).bytes (within out i)))
