-- Document 01, "The trace": what the bytes of a trace say.
use Rattle.std.specs.Prelude.{ℕ, zero, suc, ◌+◌, ◌*◌, not, List, [], ◌∷◌, length, get_or, take, drop, eqb, ltb}
use Rattle.bits.specs.Marks.{pick}
use Rattle.dtml.specs.declared.Ask.TheVariants.{Begin as begin, Read as read, Write as write, Commit as commit, Step as step}
use Rattle.dtml.specs.declared.Sys.TheVariants.{Flush as flush, Crash as crash, Recover as recover}
use Rattle.dtml.specs.declared.Call.{Call}
use Rattle.dtml.specs.declared.Call.TheVariants.{On as on, Of as sys}
use Rattle.dtml.specs.First.{any_of, Check, ◌⇒◌, first}

-- ---- numbers, big-endian

abbrev pub byte : List ℕ → ℕ → ℕ
byte bs i = get_or bs i 0

abbrev pub two : List ℕ → ℕ → ℕ
two bs i = 256 * byte bs i + byte bs (i + 1)

abbrev pub four : List ℕ → ℕ → ℕ
four bs i = 65536 * two bs i + two bs (i + 2)

-- ---- the header

-- Byte 0 is the version, 1. Bytes 1 and 2 are N.
abbrev pub version : List ℕ → ℕ
version bs = byte bs 0

abbrev pub words_of : List ℕ → ℕ
words_of bs = two bs 1

-- 22 above 65,536 bytes; no byte, 20; 19 wrong version; fewer than three bytes, 20; 21 N not 1 to 256
abbrev pub header_checks : List ℕ → List Check
header_checks bs =
    ltb 65536 (length bs) ⇒ 22
    ∷ eqb (length bs) 0 ⇒ 20
    ∷ not (eqb (version bs) 1) ⇒ 19
    ∷ ltb (length bs) 3 ⇒ 20
    ∷ any_of (eqb (words_of bs) 0 ∷ ltb 256 (words_of bs) ∷ []) ⇒ 21
    ∷ []

-- ---- a record

-- a row of the table of kinds: its number, its body's length, and the call that such a body asks for
pub record Kind : Type 0 where
  pub number : ℕ
  pub long : ℕ
  pub call : List ℕ → Call

abbrev pub kind : ℕ → ℕ → (List ℕ → Call) → Kind
kind number long call = record { number = number; long = long; call = call }

abbrev pub kinds : List Kind
kinds =
    kind 1 2 (λ body. on (byte body 1) begin)
    ∷ kind 2 3 (λ body. on (byte body 1) (read (byte body 2)))
    ∷ kind 3 7 (λ body. on (byte body 1) (write (byte body 2) (four body 3)))
    ∷ kind 4 2 (λ body. on (byte body 1) commit)
    ∷ kind 5 2 (λ body. on (byte body 1) step)
    ∷ kind 6 2 (λ body. sys (flush (byte body 1)))
    ∷ kind 7 1 (λ body. sys crash)
    ∷ kind 8 1 (λ body. sys recover)
    ∷ []

-- what stands at a place of the trace: its end, a record that is refused by number, or one of so many bytes, its length bytes among them, with its call
pub data Item : Type 0 where
  end : Item
  stops : (refusal : ℕ) → Item
  does : (call : Call) → (bytes : ℕ) → Item

-- a body asks for the call if it is so long; else it is refused, 18
abbrev pub of_length : ℕ → List ℕ → Call → Item
of_length long body call = pick (eqb (length body) long) (does call (2 + length body)) (stops 18)

-- the body's first byte is the kind: 17 if it is in no row
unfoldable pub of_kind : List Kind → List ℕ → Item
of_kind [] body = stops 17
of_kind (k ∷ ks) body = pick (eqb (byte body 0) k.number) (of_length k.long body (k.call body)) (of_kind ks body)

-- From the bytes that are left. No byte left is the end; one byte left, 20; length 0, 18; body beyond the end, 20.
unfoldable pub found : List ℕ → Item
found bs =
    pick (eqb (length bs) 0) end
    (first (ltb (length bs) 2 ⇒ 20 ∷ eqb (two bs 0) 0 ⇒ 18 ∷ ltb (length bs) (2 + two bs 0) ⇒ 20 ∷ [])
    stops (of_kind kinds (take (two bs 0) (drop 2 bs))))

-- ---- all records

-- the calls that a trace's records ask for, up to its end or to its first refusal; the refusal is 0 if there is none
pub record Script : Type 0 where
  pub calls : List Call
  pub refusal : ℕ

abbrev pub script : List Call → ℕ → Script
script cs k = record { calls = cs; refusal = k }

abbrev pub follow : Item → (ℕ → Script) → Script
follow end rest = script [] 0
follow (stops refusal) rest = script [] refusal
follow (does call bytes) rest = script (call ∷ (rest bytes).calls) (rest bytes).refusal

-- the script of the bytes that are left, at most so many records of it
unfoldable pub script_up_to : ℕ → List ℕ → Script
script_up_to zero bs = script [] 0
script_up_to (suc most) bs = follow (found bs) (λ bytes. script_up_to most (drop bytes bs))

-- the records follow the header's three bytes, and are fewer than the bytes
abbrev pub script_of : List ℕ → Script
script_of bs = script_up_to (length bs) (drop 3 bs)
