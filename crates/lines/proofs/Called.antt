-- What each return of a call on one record comes to, over plain values: 01's checks up to the one that applies, or up to the last.
-- Where recovery is not idle every call is refused; where it is, what it adds to the tests is nothing.
use Prim.Native.Nat.{ℕ, ◌<◌}
use mathlib.Core.Path.{◌≡◌, refl, sym, ◌∙◌}
use mathlib.Core.Bool.{Bool, true, false, not}
use borrow.Author.Tests.{lt-leb}
use lib.Dec.{leb}
use Rattle.std.specs.Prelude.{Ok, Err}
use Rattle.bits.specs.Marks.{pick}
use Rattle.dtml.specs.declared.Answer.TheVariants.{Taken}
use Rattle.dtml.specs.declared.Refusal.{Refusal}
use Rattle.dtml.specs.declared.Refusal.TheVariants.{Unfit, NoWord, NoRecord, NotFresh, NotReady}
use Rattle.dtml.specs.declared.Ask.{Ask}
use Rattle.dtml.specs.declared.Ask.TheVariants.{Begin, Read, Write, Commit, Step}
use Rattle.dtml.specs.declared.Phase.{Phase}
use Rattle.dtml.specs.declared.Phase.TheVariants.{B1, R1, W1, E1}
use Rattle.dtml.specs.declared.Recovery.{Recovery}
use Rattle.dtml.specs.declared.Recovery.TheVariants.{Idle}
use Rattle.dtml.specs.declared.Tx.{Tx}
use Rattle.dtml.specs.Table.{says, reply}
use Rattle.dtml.specs.Store.{Memory, tx, size}
use Rattle.dtml.specs.Asked.{did}
use Rattle.dtml.specs.Lines.{stage}
use Rattle.dtml.specs.Checks.{unfit_memory, unfit_one, unfit_tx, not_idle, is_fresh, is_ready}
use Rattle.dtml.specs.Calls.{ask}
use Rattle.dtml.specs.Handed.{no-turn, a_turn, call_one}
use Rattle.dtml.proofs.Words.{idle-is}
use Rattle.parts.specs.Lent.{unfit_with}
use Rattle.lines.specs.Turning.{turn_of, turned_of}
use Rattle.lines.specs.Stepping.{step_of, ask_past, refusal_of}

-- ---- by the identifier

nobody-there : (bad : Bool) (m : Memory)
    → turned_of (Err (pick bad Unfit NoRecord)) m ≡ pick bad (no-turn (says 9 0) m) (no-turn (says 11 0) m)
nobody-there true m = refl
nobody-there false m = refl

-- it names no record
pub no_record : (m : Memory) (r : Recovery) (t : Tx) (i : ℕ) (a : Ask) → leb 64 i ≡ true
    → turned_of (Err (pick (unfit_with m r t) Unfit NoRecord)) m ≡ call_one m r t i a
unfolding call_one
no_record m r t i a past = rw past (nobody-there (unfit_with m r t) m)

-- it names one: which one makes no difference
pub any-there : (m : Memory) (r : Recovery) (t : Tx) (i : ℕ) (a : Ask) → i < 64 → call_one m r t 0 a ≡ call_one m r t i a
unfolding call_one
any-there m r t i a there = rw (lt-leb 64 i there)

-- ---- while recovery is under way

refusal : (bad past : Bool) (m : Memory)
    → turned_of (Err (refusal_of bad past)) m ≡ pick bad (no-turn (says 9 0) m) (pick past (no-turn (says 10 0) m) (no-turn (says 12 0) m))
refusal true past m = refl
refusal false true m = refl
refusal false false m = refl

pub recovering : (m : Memory) (r : Recovery) (t : Tx) (a : Ask) → not_idle r ≡ true
    → turned_of (Err (refusal_of (unfit_with m r t) (ask_past (size m) a))) m ≡ call_one m r t 0 a
unfolding call_one
recovering m r t Begin h = rw h (refusal (unfit_with m r t) false m)
recovering m r t (Read w) h = rw h (refusal (unfit_with m r t) (leb (size m) w) m)
recovering m r t (Write w v) h = rw h (refusal (unfit_with m r t) (leb (size m) w) m)
recovering m r t Commit h = rw h (refusal (unfit_with m r t) false m)
recovering m r t Step h = rw h (refusal (unfit_with m r t) false m)

-- ---- while it is idle

pub unfit-beside : (m : Memory) (r : Recovery) (t : Tx) (a : Ask) → not_idle r ≡ false → unfit_memory m Idle ≡ true
    → no-turn (says 9 0) m ≡ call_one m r t 0 a
unfolding call_one unfit_one
unfit-beside m r t a idle beside = rw (idle-is r idle, beside)

pub unfit-record : (m : Memory) (r : Recovery) (t : Tx) (a : Ask) → not_idle r ≡ false → unfit_memory m Idle ≡ false → unfit_tx (size m) t ≡ true
    → no-turn (says 9 0) m ≡ call_one m r t 0 a
unfolding call_one unfit_one
unfit-record m r t a idle beside own = rw (idle-is r idle, beside, own)

-- what is handed over is fit
pub record Fit (m : Memory) (r : Recovery) (t : Tx) : Type 0 where
  pub idle : not_idle r ≡ false
  pub beside : unfit_memory m Idle ≡ false
  pub own : unfit_tx (size m) t ≡ false

-- from the tests, each by what its call ensures and by its result
pub fit : {m : Memory} {r : Recovery} {t : Tx} {q f u : Bool} → q ≡ not_idle r → q ≡ false → f ≡ unfit_memory m Idle → f ≡ false
    → u ≡ unfit_tx (size m) t → u ≡ false → Fit m r t
fit q idle f beside u own =
    record { idle = sym q ∙ idle; beside = sym f ∙ beside; own = sym u ∙ own }

-- the check that the stage is not the one that is asked for
staged : (b : Bool) (x : Refusal) (l : ℕ) (p : Phase) (m : Memory)
    → turned_of (pick b (Ok (turn_of (Taken 0) l p)) (Err x)) m ≡ pick (not b) (no-turn (reply (Err x)) m) (a_turn (did (says 0 0) m (tx l p)))
staged true x l p m = refl
staged false x l p m = refl

-- and before it the check that the word is past the rows
named : (past b : Bool) (l : ℕ) (p : Phase) (m : Memory)
    → turned_of (pick past (Err NoWord) (pick b (Ok (turn_of (Taken 0) l p)) (Err NotReady))) m
    ≡ pick past (no-turn (says 10 0) m) (pick (not b) (no-turn (says 14 0) m) (a_turn (did (says 0 0) m (tx l p))))
named true b l p m = refl
named false b l p m = staged b NotReady l p m

pub begins : (m : Memory) (r : Recovery) (t : Tx) → Fit m r t
    → turned_of (pick (is_fresh (stage t.phase)) (Ok (turn_of (Taken 0) t.loc B1)) (Err NotFresh)) m ≡ call_one m r t 0 Begin
unfolding call_one unfit_one ask
begins m r t f =
    rw (idle-is r f.idle, f.beside, f.own) (staged (is_fresh (stage t.phase)) NotFresh _ _ m)

pub reads : (m : Memory) (r : Recovery) (t : Tx) (w : ℕ) → Fit m r t
    → turned_of (pick (leb (size m) w) (Err NoWord) (pick (is_ready (stage t.phase)) (Ok (turn_of (Taken 0) t.loc (R1 w))) (Err NotReady))) m
    ≡ call_one m r t 0 (Read w)
unfolding call_one unfit_one ask
reads m r t w f =
    rw (idle-is r f.idle, f.beside, f.own) (named (leb (size m) w) (is_ready (stage t.phase)) _ _ m)

pub writes : (m : Memory) (r : Recovery) (t : Tx) (w v : ℕ) → Fit m r t
    → turned_of (pick (leb (size m) w) (Err NoWord) (pick (is_ready (stage t.phase)) (Ok (turn_of (Taken 0) t.loc (W1 w v))) (Err NotReady))) m
    ≡ call_one m r t 0 (Write w v)
unfolding call_one unfit_one ask
writes m r t w v f =
    rw (idle-is r f.idle, f.beside, f.own) (named (leb (size m) w) (is_ready (stage t.phase)) _ _ m)

pub commits : (m : Memory) (r : Recovery) (t : Tx) → Fit m r t
    → turned_of (pick (is_ready (stage t.phase)) (Ok (turn_of (Taken 0) t.loc E1)) (Err NotReady)) m ≡ call_one m r t 0 Commit
unfolding call_one unfit_one ask
commits m r t f =
    rw (idle-is r f.idle, f.beside, f.own) (staged (is_ready (stage t.phase)) NotReady _ _ m)

pub steps : (m : Memory) (r : Recovery) (t : Tx) → Fit m r t → step_of m t ≡ call_one m r t 0 Step
unfolding call_one unfit_one ask
steps m r t f = rw (idle-is r f.idle, f.beside, f.own)
