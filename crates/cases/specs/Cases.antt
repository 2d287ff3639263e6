-- What a worked history is, and what it is for one to hold.
use Rattle.std.specs.Prelude.{ℕ, ◌+◌, ◌*◌, Bool, true, false, List, [], ◌∷◌, length, get_or, drop, take, eqb}
use Rattle.bits.specs.Marks.{count_of}
use Rattle.dtml.specs.Table.{Reply}
use Rattle.dtml.specs.Store.{fresh}
use Rattle.dtml.specs.declared.Call.{Call}
use Rattle.dtml.specs.History.{World}
use Rattle.dtml.specs.Demands.{after}
use Rattle.reader.specs.Trace.{words_of, script_of}
use Rattle.day.specs.Replay.{answers, replay}

-- a schedule on a fresh store of so many words, or the one that the bytes of a trace ask for
pub data Schedule : Type 0 where
  given : (words : ℕ) → List Call → Schedule
  trace : (bytes : List ℕ) → Schedule

abbrev pub words_in : Schedule → ℕ
words_in (given n cs) = n
words_in (trace bs) = words_of bs

abbrev pub calls_in : Schedule → List Call
calls_in (given n cs) = cs
calls_in (trace bs) = (script_of bs).calls

-- the refusal that stops it, the header's or a record's; 0 if none does
abbrev pub refusal_in : Schedule → ℕ
refusal_in (given n cs) = 0
refusal_in (trace bs) = (replay bs (fresh (words_of bs))).ending.refusal

-- what is said of a history
pub data Claim : Type 0 where
  -- it is one of so many words and so many records, and nothing stops it
  whole : (words records : ℕ) → Claim
  -- the answers from the call after so many on
  replies : (past : ℕ) (list : List Reply) → Claim
  -- recovery lines carried out in all
  lines : ℕ → Claim
  -- a word, on both sides, at the end
  word : (at value : ℕ) → Claim
  -- words in the log at the end
  logged : ℕ → Claim
  -- demand 3's bound of this history
  bound : ℕ → Claim

pub record History : Type 0 where
  pub name : ℕ
  pub schedule : Schedule
  pub claims : List Claim

abbrev pub both : Bool → Bool → Bool
both true b = b
both false b = false

abbrev pub same : Reply → Reply → Bool
same a b = both (eqb a.number b.number) (eqb a.value b.value)

abbrev pub all_same : List Reply → List Reply → Bool
all_same [] [] = true
all_same [] (b ∷ bs) = false
all_same (a ∷ more) [] = false
all_same (a ∷ more) (b ∷ bs) = both (same a b) (all_same more bs)

-- five for each word that a cut transaction had entered, and four for each crash
abbrev pub bound_of : World → ℕ
bound_of w = 5 * w.past.cut + 4 * w.past.crashes

-- of the schedule, the world at its end and the answers given
abbrev pub claim_holds : Schedule → World → List Reply → Claim → Bool
claim_holds h w got (whole words records) = both (eqb (words_in h) words) (both (eqb (length (calls_in h)) records) (eqb (refusal_in h) 0))
claim_holds h w got (replies past list) = all_same (take (length list) (drop past got)) list
claim_holds h w got (lines n) = eqb w.past.lines n
claim_holds h w got (word at value) = both (eqb (get_or w.store.mem.vol at 0) value) (eqb (get_or w.store.mem.pers at 0) value)
claim_holds h w got (logged n) = eqb (count_of w.store.mem.marks) n
claim_holds h w got (bound n) = eqb (bound_of w) n

abbrev pub claims_hold : Schedule → World → List Reply → List Claim → Bool
claims_hold h w got [] = true
claims_hold h w got (c ∷ cs) = both (claim_holds h w got c) (claims_hold h w got cs)

-- one definition runs a history: from a fresh store, and holds its claims against the answers given and the world at the end
unfoldable pub holds : History → Bool
holds h =
    claims_hold h.schedule (after (words_in h.schedule) (calls_in h.schedule)) (answers (fresh (words_in h.schedule)) (calls_in h.schedule)) h.claims

unfoldable pub all_hold : List History → Bool
all_hold [] = true
all_hold (h ∷ hs) = both (holds h) (all_hold hs)
