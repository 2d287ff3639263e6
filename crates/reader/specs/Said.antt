-- What the reader gives back, as the definitions of the trace have it.
use Rattle.std.specs.Prelude.{ℕ, ◌+◌, List, drop, Option, Some, None, Result, Ok, Err}
use Rattle.dtml.specs.First.{first}
use Rattle.reader.specs.declared.TraceRefusal.{TraceRefusal}
use Rattle.reader.specs.declared.TraceRefusal.TheVariants.{UnknownKind, WrongLength, WrongVersion, CutShort, WrongSize, TooLong}
use Rattle.reader.specs.declared.Record.{Record}
use Rattle.reader.specs.declared.place.Reader.{Reader}
use Rattle.reader.specs.Trace.{Item, end, stops, does, header_checks, words_of, found}

-- Document 01, "The trace": the numbers of its refusals
abbrev pub number_of : TraceRefusal → ℕ
number_of UnknownKind = 17
number_of WrongLength = 18
number_of WrongVersion = 19
number_of CutShort = 20
number_of WrongSize = 21
number_of TooLong = 22

-- a record, or one that is refused
abbrev pub read : Result Record TraceRefusal → Item
read (Ok r) = does r.call r.bytes
read (Err refusal) = stops (number_of refusal)

-- what stands at a place
abbrev pub item : Option (Result Record TraceRefusal) → Item
item None = end
item (Some r) = read r

-- where a reader goes from a place: past a record that asks for something; at the trace's end, or at a record that is refused, it stays
abbrev pub place_after : ℕ → Item → ℕ
place_after at end = at
place_after at (stops refusal) = at
place_after at (does call bytes) = at + bytes

abbrev pub moved_on : Reader → Reader
moved_on d = record { trace = d.trace; at = place_after d.at (found (drop d.at d.trace.now)) }

-- N, or the number of the refusal
unfoldable pub header_of : List ℕ → Result ℕ ℕ
header_of bs = first (header_checks bs) Err (Ok (words_of bs))

-- what the code says of the header
abbrev pub header_said : Result ℕ TraceRefusal → Result ℕ ℕ
header_said (Ok words) = Ok words
header_said (Err refusal) = Err (number_of refusal)
