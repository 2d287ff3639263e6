-- What is told of a schedule, from its calls, its answers and the lines done: the committed memories, each transaction's writes, and the counts.
-- Nothing here looks at a row of words, the log or the count: of the store only the answers and the line at which a record stands are seen.
use Rattle.std.specs.Prelude.{ℕ, ◌+◌, Bool, true, false, List, [], ◌∷◌, map, length, get_or, set, replicate, eqb, leb}
use Rattle.bits.specs.Marks.{pick}
use Rattle.dtml.specs.declared.Phase.{Phase}
use Rattle.dtml.specs.declared.Phase.TheVariants.{Fresh, Ready, Committed, Aborted, B1, B2, R1, R2, W1, W2, W3, W4, W5, W6, W7, E1, E2, E3}
use Rattle.dtml.specs.Table.{Reply}
use Rattle.dtml.specs.Store.{Store, fresh}
use Rattle.dtml.specs.Asked.{Ask, begin, read, write, commit, step, flush, crash, recover, recover_up_to, Call, on, sys, stands_at}
use Rattle.dtml.specs.Calls.{call}

-- ---- writes

pub record Write : Type 0 where
  pub word : ℕ
  pub value : ℕ

abbrev pub wrote_as : ℕ → ℕ → Write
wrote_as w v = record { word = w; value = v }

-- a memory with writes over it; the latest write is the list's first
unfoldable pub over : List ℕ → List Write → List ℕ
over m [] = m
over m (x ∷ xs) = set (over m xs) x.word x.value

-- the latest write to word w, or else the memory's word
unfoldable pub sees : List Write → List ℕ → ℕ → ℕ
sees [] m w = get_or m w 0
sees (x ∷ xs) m w = pick (eqb x.word w) x.value (sees xs m w)

-- ---- a transaction's tale

pub record Tale : Type 0 where
  -- the operation that it was asked for last
  pub asked : Ask
  -- the committed memory as it stood at its latest B1
  pub start : List ℕ
  -- its writes that were answered, the latest first
  pub wrote : List Write
  -- the words that it entered in the log, the latest first
  pub entered : List ℕ
  -- it has begun, and neither ended nor done its E2
  pub live : Bool

abbrev pub untold : Tale
untold = record { asked = begin; start = []; wrote = []; entered = []; live = false }

abbrev pub starting : Tale
starting = record { asked = begin; start = []; wrote = []; entered = []; live = true }

abbrev pub asked_for : Tale → Ask → Tale
asked_for g a = record { asked = a; start = g.start; wrote = g.wrote; entered = g.entered; live = g.live }

abbrev pub starts : Tale → List ℕ → Tale
starts g m = record { asked = g.asked; start = m; wrote = g.wrote; entered = g.entered; live = g.live }

-- what was asked for, as a write
abbrev pub asked_write : Ask → Write
asked_write begin = wrote_as 0 0
asked_write (read w) = wrote_as w 0
asked_write (write w v) = wrote_as w v
asked_write commit = wrote_as 0 0
asked_write step = wrote_as 0 0

abbrev pub enters : Tale → Tale
enters g = record { asked = g.asked; start = g.start; wrote = g.wrote; entered = (asked_write g.asked).word ∷ g.entered; live = g.live }

abbrev pub writes : Tale → Tale
writes g = record { asked = g.asked; start = g.start; wrote = asked_write g.asked ∷ g.wrote; entered = g.entered; live = g.live }

-- ended, past its E2, or cut off by a crash
abbrev pub closes : Tale → Tale
closes g = record { asked = g.asked; start = g.start; wrote = g.wrote; entered = g.entered; live = false }

-- answers 4 and 5 end a transaction
abbrev pub ends_on : Reply → Tale → Tale
ends_on a g = pick (eqb a.number 4) (closes g) (pick (eqb a.number 5) (closes g) g)

-- the tale after one line, from the last committed memory, the line and its answer
unfoldable pub told : List ℕ → Phase → Reply → Tale → Tale
told last Fresh a g = g
told last Ready a g = g
told last Committed a g = g
told last Aborted a g = g
told last B1 a g = starts g last
told last B2 a g = g
told last (R1 w) a g = g
told last (R2 v) a g = ends_on a g
told last (W1 w v) a g = g
told last (W2 w v) a g = ends_on a g
told last (W3 w v) a g = g
told last (W4 w v) a g = g
told last (W5 w v) a g = enters g
told last (W6 w v) a g = g
told last (W7 w) a g = pick (eqb a.number 3) (writes g) g
told last E1 a g = ends_on a g
told last E2 a g = closes g
told last E3 a g = closes g

-- ---- the past of a store

pub record Past : Type 0 where
  -- the committed memories: the first, and the later ones, the last committed at their head
  pub first : List ℕ
  pub later : List (List ℕ)
  pub tales : List Tale
  -- crashes; recovery lines carried out; and, summed at each crash, the words that transactions cut off before their E2 had entered
  pub crashes : ℕ
  pub lines : ℕ
  pub cut : ℕ

abbrev pub last_of : List ℕ → List (List ℕ) → List ℕ
last_of m [] = m
last_of m (x ∷ xs) = x

abbrev pub last : Past → List ℕ
last p = last_of p.first p.later

abbrev pub tale_at : List Tale → ℕ → Tale
tale_at gs t = get_or gs t untold

-- the line that commits a writer
abbrev pub is_e2 : Phase → Bool
is_e2 Fresh = false
is_e2 Ready = false
is_e2 Committed = false
is_e2 Aborted = false
is_e2 B1 = false
is_e2 B2 = false
is_e2 (R1 w) = false
is_e2 (R2 v) = false
is_e2 (W1 w v) = false
is_e2 (W2 w v) = false
is_e2 (W3 w v) = false
is_e2 (W4 w v) = false
is_e2 (W5 w v) = false
is_e2 (W6 w v) = false
is_e2 (W7 w) = false
is_e2 E1 = false
is_e2 E2 = true
is_e2 E3 = false

-- each E2 adds one, the memory before with that transaction's writes over it
abbrev pub later_after : Past → Phase → Tale → List (List ℕ)
later_after p l g = pick (is_e2 l) (over (last p) g.wrote ∷ p.later) p.later

-- the words that the transactions still live have entered
unfoldable pub live_words : List Tale → ℕ
live_words [] = 0
live_words (g ∷ gs) = pick g.live (length g.entered) 0 + live_words gs

abbrev pub with_tale : Past → ℕ → Tale → Past
with_tale p t g = record { first = p.first; later = p.later; tales = set p.tales t g; crashes = p.crashes; lines = p.lines; cut = p.cut }

abbrev pub with_lines : Past → ℕ → Past
with_lines p k = record { first = p.first; later = p.later; tales = p.tales; crashes = p.crashes; lines = p.lines + k; cut = p.cut }

abbrev pub line_told : Past → ℕ → Phase → Reply → Past
line_told p t l a = record {
  first = p.first;
  later = later_after p l (tale_at p.tales t);
  tales = set p.tales t (told (last p) l a (tale_at p.tales t));
  crashes = p.crashes;
  lines = p.lines;
  cut = p.cut;
}

abbrev pub crash_told : Past → Past
crash_told p = record {
  first = p.first;
  later = p.later;
  tales = map closes p.tales;
  crashes = p.crashes + 1;
  lines = p.lines;
  cut = p.cut + live_words p.tales;
}

-- the past after a call that was carried out, from the line at which the record stood and the answer
unfoldable pub noted : Past → Phase → Call → Reply → Past
noted p l (on t begin) a = with_tale p t starting
noted p l (on t (read w)) a = with_tale p t (asked_for (tale_at p.tales t) (read w))
noted p l (on t (write w v)) a = with_tale p t (asked_for (tale_at p.tales t) (write w v))
noted p l (on t commit) a = with_tale p t (asked_for (tale_at p.tales t) commit)
noted p l (on t step) a = line_told p t l a
noted p l (sys (flush w)) a = p
noted p l (sys crash) a = crash_told p
noted p l (sys recover) a = with_lines p 1
noted p l (sys (recover_up_to b)) a = with_lines p a.value

-- a refused call, answered 9 or above, stands in no history
abbrev pub note : Past → Phase → Call → Reply → Past
note p l c a = pick (leb 9 a.number) p (noted p l c a)

-- ---- a store with its past, under a schedule

pub record World : Type 0 where
  pub store : Store
  pub past : Past

unfoldable pub tell : World → Call → World
tell w c = record {
  store = (call w.store c).store;
  past = note w.past (stands_at w.store c) c (call w.store c).reply;
}

-- a fresh store of n words: the committed memories start with all zeros
unfoldable pub dawn : ℕ → World
dawn n = record {
  store = fresh n;
  past = record { first = replicate n 0; later = []; tales = replicate 64 untold; crashes = 0; lines = 0; cut = 0 };
}

unfoldable pub runs : World → List Call → World
runs w [] = w
runs w (c ∷ cs) = runs (tell w c) cs
