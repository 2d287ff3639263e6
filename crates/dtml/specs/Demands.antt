-- The demands of the customer's letter, sentence by sentence: of every call on every store, and over every schedule of calls from a fresh store of every size.
use Rattle.std.specs.Prelude.{ℕ, ◌+◌, ◌-◌, ◌*◌, ◌≤◌, ◌<◌, min, ◌≡◌, ◌⊎◌, ◌↔◌, List, [], ◌∷◌, length, get_or, replicate, leb}
use Rattle.bits.specs.Marks.{pick, is_marked, count_of}
use Rattle.dtml.specs.declared.Phase.TheVariants.{E2, E3}
use Rattle.dtml.specs.declared.Recovery.TheVariants.{Idle}
use Rattle.dtml.specs.Table.{says}
use Rattle.dtml.specs.Store.{Memory, Store, record_at}
use Rattle.dtml.specs.Asked.{read, step, crash, recover, recover_up_to, Call, on, sys, Outcome, outcome}
use Rattle.dtml.specs.Calls.{call, make_fresh}
use Rattle.dtml.specs.Rules.{Condition, order, FirstOf, NoneOf, Does, IsFresh, MadeFresh}
use Rattle.dtml.specs.History.{over, sees, live_words, last, last_of, tale_at, World, tell, dawn, runs}

-- a schedule from a fresh store of n words, n from 1 to 256, and the world after it
abbrev pub Size : ℕ → Type 0
Size n = (0 < n) × (n ≤ 256)

abbrev pub after : ℕ → List Call → World
after n cs = runs (dawn n) cs

-- the call's answer
abbrev pub number : World → Call → ℕ
number w c = (call w.store c).reply.number

abbrev pub value : World → Call → ℕ
value w c = (call w.store c).reply.value

-- the words in the log
abbrev pub logged : World → ℕ
logged w = count_of w.store.mem.marks

-- ---- 1. Every call

-- For every call on every store, fit or not:
pub record EveryCall : Type 0 where
  -- some number of its order of checks is the first whose condition holds, or none of them holds;
  pub either : (s : Store) (c : Call) → ((k : ℕ) × FirstOf (order c) (Condition s c) k) ⊎ NoneOf (order c) (Condition s c)
  -- it is refused with k, value 0 and nothing changed, exactly when k is that first number;
  pub refused : (s : Store) (c : Call) (k : ℕ) → ((9 ≤ k) × (call s c ≡ outcome (says k 0) s)) ↔ FirstOf (order c) (Condition s c) k
  -- where none of them holds, it does what its rule says, a step and a recovery call one line of the published algorithm, and the rule allows nothing else.
  pub taken : (s : Store) (c : Call) → NoneOf (order c) (Condition s c) → Does s c (call s c) × ((o : Outcome) → Does s c o → o ≡ call s c)
  -- Making fresh likewise; and every schedule starts from what it leaves.
  pub fresh : (s : Store) → MadeFresh s (make_fresh s) × ((o : Outcome) → MadeFresh s o → o ≡ make_fresh s)
  pub start : (n : ℕ) → IsFresh n (after n []).store

-- ---- 2. Committed memories

-- They start with all zeros; each E2 that is carried out adds one, the memory before with that transaction's writes over it;
pub record CommittedMemories : Type 0 where
  pub start : (n : ℕ) → (last (after n []).past ≡ replicate n 0) × ((after n []).past.later ≡ [])
  pub each-E2 : (w : World) (t : ℕ) → (record_at w.store.txs t).phase ≡ E2 → number w (on t step) < 9
      → (tell w (on t step)).past.later ≡ over (last w.past) (tale_at w.past.tales t).wrote ∷ w.past.later
  -- nothing else adds to them.
  pub nothing-else : (w : World) (c : Call) → ((t : ℕ) → c ≡ on t step → (record_at w.store.txs t).phase ≡ E2 → ⊥)
      → (tell w c).past.later ≡ w.past.later

-- ---- 3. Durability

-- the persistent word, or the old word of a marked one
abbrev pub overlaid : Memory → ℕ → ℕ
overlaid m w = pick (is_marked m.marks w) (get_or m.old w 0) (get_or m.pers w 0)

-- The persistent words overlaid by the undo log are the last committed memory.
abbrev pub Durable : Type 0
Durable = (n : ℕ) (cs : List Call) → Size n
    → (length (last (after n cs).past) ≡ n) × (length (after n cs).store.mem.pers ≡ n)
    × ((w : ℕ) → w < n → overlaid (after n cs).store.mem w ≡ get_or (last (after n cs).past) w 0)

-- ---- 4. A join is whole

abbrev pub BothSides : Memory → List ℕ → Type 0
BothSides m l = (m.vol ≡ l) × (m.pers ≡ l)

-- When recovery answers 6, both sides hold exactly the last committed memory,
abbrev pub WholeWhenRecovered : Type 0
WholeWhenRecovered = (n : ℕ) (cs : List Call) (c : Call) → Size n → number (after n cs) c ≡ 6
    → BothSides (tell (after n cs) c).store.mem (last (after n cs).past)

-- and at every moment at which recovery is idle and no live transaction has entered a word in the log.
abbrev pub WholeWhenIdle : Type 0
WholeWhenIdle = (n : ℕ) (cs : List Call) → Size n → (after n cs).store.rec ≡ Idle → live_words (after n cs).past.tales ≡ 0
    → BothSides (after n cs).store.mem (last (after n cs).past)

-- While recovery is idle, the words in the log are those that live transactions have entered, so none from a writer's E2 on; in recovery none is live.
abbrev pub WordsInLog : Type 0
WordsInLog = (n : ℕ) (cs : List Call) → Size n
    → ((after n cs).store.rec ≡ Idle → live_words (after n cs).past.tales ≡ logged (after n cs))
    × (((after n cs).store.rec ≡ Idle → ⊥) → live_words (after n cs).past.tales ≡ 0)

-- recovery is not idle at any moment of ds
abbrev pub NeverIdle : World → List Call → Type 0
NeverIdle w [] = w.store.rec ≡ Idle → ⊥
NeverIdle w (c ∷ cs) = (w.store.rec ≡ Idle → ⊥) × NeverIdle (tell w c) cs

-- What a crash cuts: once recovery answers 6, after whatever else came in between, both sides hold the memory that was the last committed one
-- at the crash. So a transaction cut before its E2 has left no word behind,
abbrev pub CutBeforeE2 : Type 0
CutBeforeE2 = (n : ℕ) (cs ds : List Call) (c : Call) → Size n → NeverIdle (tell (after n cs) (sys crash)) ds
    → number (runs (tell (after n cs) (sys crash)) ds) c ≡ 6
    → BothSides (tell (runs (tell (after n cs) (sys crash)) ds) c).store.mem (last (after n cs).past)

-- and one cut after it has all of them: the last committed memory is the one that stands right behind it, with that transaction's writes over it.
abbrev pub CutAfterE2 : Type 0
CutAfterE2 = (n : ℕ) (cs : List Call) (t : ℕ) → Size n → t < 64 → (record_at (after n cs).store.txs t).phase ≡ E3
    → (earlier : List (List ℕ)) × ((after n cs).past.later ≡ over (last_of (after n cs).past.first earlier) (tale_at (after n cs).past.tales t).wrote ∷ earlier)

-- ---- 5. Reads

-- Every answer 2 shows its transaction's own latest write to that word, or else the committed word as it stood at that transaction's latest B1.
abbrev pub Reads : Type 0
Reads = (n : ℕ) (cs : List Call) (c : Call) → Size n → number (after n cs) c ≡ 2
    → (t : ℕ) × (w : ℕ) × (c ≡ on t step) × ((tale_at (after n cs).past.tales t).asked ≡ read w)
    × (value (after n cs) c ≡ sees (tale_at (after n cs).past.tales t).wrote (tale_at (after n cs).past.tales t).start w)

-- ---- 6. Recovery's cost

-- The recovery lines carried out are at most five for each word that a transaction cut off by a crash before its E2 had entered, plus four for each crash.
abbrev pub RecoveryCost : Type 0
RecoveryCost = (n : ℕ) (cs : List Call) → Size n
    → (after n cs).past.lines ≤ 5 * (after n cs).past.cut + 4 * (after n cs).past.crashes

-- The words that are counted there are words, and not lines W5: no transaction enters a word twice.
abbrev pub OutOf : List ℕ → ℕ → Type 0
OutOf [] w = Unit {0}
OutOf (x ∷ xs) w = (w ≡ x → ⊥) × OutOf xs w

abbrev pub Different : List ℕ → Type 0
Different [] = Unit {0}
Different (x ∷ xs) = OutOf xs x × Different xs

abbrev pub EnteredOnce : Type 0
EnteredOnce = (n : ℕ) (cs : List Call) (t : ℕ) → Size n → Different (tale_at (after n cs).past.tales t).entered

-- ---- 7. Recovery's exact cost

abbrev pub NoCrash : List Call → Type 0
NoCrash [] = Unit {0}
NoCrash (c ∷ cs) = (c ≡ sys crash → ⊥) × NoCrash cs

-- the world in which a crash has just come
abbrev pub crashed : ℕ → List Call → World
crashed n cs = tell (after n cs) (sys crash)

-- If a crash leaves k words in the log and no other crash comes before it is done, exactly 5k + 2 recovery lines finish the work,
-- with anything else the schedule does in between.
abbrev pub ExactCost : Type 0
ExactCost = (n : ℕ) (cs ds : List Call) → Size n → NoCrash ds
    → ((runs (crashed n cs) ds).past.lines ≤ (crashed n cs).past.lines + (5 * logged (crashed n cs) + 2))
    × (((runs (crashed n cs) ds).store.rec ≡ Idle)
    ↔ ((runs (crashed n cs) ds).past.lines ≡ (crashed n cs).past.lines + (5 * logged (crashed n cs) + 2)))

-- With an allowance b, min(b, lines left) are done: the call leaves the world that as many single calls leave; and that many are reported,
-- with 6 if they are all that were left.
abbrev pub lines_left : ℕ → List Call → List Call → ℕ
lines_left n cs ds = ((crashed n cs).past.lines + (5 * logged (crashed n cs) + 2)) - (runs (crashed n cs) ds).past.lines

abbrev pub Allowance : Type 0
Allowance = (n : ℕ) (cs ds : List Call) (b : ℕ) → Size n → NoCrash ds → ((runs (crashed n cs) ds).store.rec ≡ Idle → ⊥)
    → ((call (runs (crashed n cs) ds).store (sys (recover_up_to b))).reply
    ≡ says (pick (leb (lines_left n cs ds) b) 6 0) (min b (lines_left n cs ds)))
    × (tell (runs (crashed n cs) ds) (sys (recover_up_to b))
    ≡ runs (runs (crashed n cs) ds) (replicate (min b (lines_left n cs ds)) (sys recover)))

-- ---- 8. Nothing unfit

-- From fresh no call ever answers 9, and count and loc stay far below 65,535.
abbrev pub NothingUnfit : Type 0
NothingUnfit = (n : ℕ) (cs : List Call) → Size n
    → ((c : Call) → number (after n cs) c ≡ 9 → ⊥) × ((after n cs).store.mem.glb ≤ 128)
    × ((t : ℕ) → t < 64 → (record_at (after n cs).store.txs t).loc ≤ 128)
