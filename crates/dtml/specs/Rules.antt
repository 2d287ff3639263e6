-- What document 01 asks of every call: when each of the numbers 9 to 16 is given, in which order, and what a call that is not refused leaves.
-- Like Figure1.antt it is written without the machine's own definitions, which are held to it: it shares with them nothing but the words of the store.
use Rattle.std.specs.Prelude.{ℕ, zero, suc, ◌≤◌, ◌<◌, ◌≡◌, Bool, true, false, ◌⊎◌, List, [], ◌∷◌, length, get_or, set, replicate, eqb}
use Rattle.bits.specs.Marks.{is_marked}
use Rattle.dtml.specs.declared.Tx.{Tx}
use Rattle.dtml.specs.declared.Phase.{Phase}
use Rattle.dtml.specs.declared.Phase.TheVariants.{Fresh, Ready, Committed, Aborted, B1, R1, W1, W2, W3, W4, W5, W6, W7, E1}
use Rattle.dtml.specs.declared.Recovery.{Recovery}
use Rattle.dtml.specs.declared.Recovery.TheVariants.{Idle, C1, C2, C3, C4, C5}
use Rattle.dtml.specs.Table.{says}
use Rattle.dtml.specs.Store.{Memory, memory, Store, store, tx, size, record_at}
use Rattle.dtml.specs.Asked.{Ask, begin, read, write, commit, step, flush, crash, recover, recover_up_to, Call, on, sys, stands_at, Did, RecoveryDid, Outcome, outcome}
use Rattle.dtml.specs.Figure1.{Line, RecoveryLine}

-- ---- 9: unfit

-- the three word rows differ in length, or N, which is that length, is 0 or above 256, or the record row is not 64 long
pub data WrongLength (s : Store) : Type 0 where
  pers-differs : (length s.mem.pers ≡ size s.mem → ⊥) → WrongLength s
  old-differs : (length s.mem.old ≡ size s.mem → ⊥) → WrongLength s
  no_word : size s.mem ≡ 0 → WrongLength s
  above-256 : 256 < size s.mem → WrongLength s
  not-64 : (length s.txs ≡ 64 → ⊥) → WrongLength s

-- a phase names word w
pub data Names (p : Phase) (w : ℕ) : Type 0 where
  at-R1 : p ≡ R1 w → Names p w
  at-W1 : (v : ℕ) → p ≡ W1 w v → Names p w
  at-W2 : (v : ℕ) → p ≡ W2 w v → Names p w
  at-W3 : (v : ℕ) → p ≡ W3 w v → Names p w
  at-W4 : (v : ℕ) → p ≡ W4 w v → Names p w
  at-W5 : (v : ℕ) → p ≡ W5 w v → Names p w
  at-W6 : (v : ℕ) → p ≡ W6 w v → Names p w
  at-W7 : p ≡ W7 w → Names p w

-- recovery names word w
pub data RecoveryNames (r : Recovery) (w : ℕ) : Type 0 where
  at-C3 : (v : ℕ) → r ≡ C3 w v → RecoveryNames r w
  at-C4 : (v : ℕ) → r ≡ C4 w v → RecoveryNames r w
  at-C5 : (v : ℕ) → r ≡ C5 w v → RecoveryNames r w

pub data Unfit (s : Store) : Type 0 where
  lengths : WrongLength s → Unfit s
  -- or a mark stands at N or above
  mark-past : (w : ℕ) → size s.mem ≤ w → is_marked s.mem.marks w ≡ true → Unfit s
  -- or glb or a loc is above 65,535
  glb-above : 65535 < s.mem.glb → Unfit s
  loc-above : (t : ℕ) → 65535 < (record_at s.txs t).loc → Unfit s
  -- or a phase or recovery names a word at N or above
  phase-past : (t w : ℕ) → Names (record_at s.txs t).phase w → size s.mem ≤ w → Unfit s
  recovery-past : (w : ℕ) → RecoveryNames s.rec w → size s.mem ≤ w → Unfit s
  -- or recovery is at C2 with no mark
  C2-unmarked : s.rec ≡ C2 → ((w : ℕ) → is_marked s.mem.marks w ≡ false) → Unfit s

-- ---- 10 to 16

-- 10: a call names word w
pub data CallNames (c : Call) (w : ℕ) : Type 0 where
  by_read : (t : ℕ) → c ≡ on t (read w) → CallNames c w
  by-write : (t v : ℕ) → c ≡ on t (write w v) → CallNames c w
  by-flush : c ≡ sys (flush w) → CallNames c w

-- 11: identifier 64 or more
abbrev pub IdentifierPast : Call → Type 0
IdentifierPast (on t a) = 64 ≤ t
IdentifierPast (sys k) = ⊥

-- 15: no line to do
abbrev pub NoLine : Phase → Type 0
NoLine p = (p ≡ Fresh) ⊎ (p ≡ Ready) ⊎ (p ≡ Committed) ⊎ (p ≡ Aborted)

-- a row of the table: P where its number is asked for, elsewhere what the rows below it say
abbrev pub Row : Bool → Type 0 → Type 0 → Type 0
Row true P below = P
Row false P below = below

-- When number k is given, by document 01's table.
abbrev pub Condition : Store → Call → ℕ → Type 0
Condition s c k =
    Row (eqb k 9) (Unfit s)
    (Row (eqb k 10) ((w : ℕ) × CallNames c w × (size s.mem ≤ w))
    (Row (eqb k 11) (IdentifierPast c)
    (Row (eqb k 12) (s.rec ≡ Idle → ⊥)
    (Row (eqb k 13) (stands_at s c ≡ Fresh → ⊥)
    (Row (eqb k 14) (stands_at s c ≡ Ready → ⊥)
    (Row (eqb k 15) (NoLine (stands_at s c))
    (Row (eqb k 16) (s.rec ≡ Idle)
    ⊥)))))))

-- ---- "Order of checks, first that applies."

abbrev pub order : Call → List ℕ
order (on t begin) = 9 ∷ 11 ∷ 12 ∷ 13 ∷ []
order (on t (read w)) = 9 ∷ 11 ∷ 10 ∷ 12 ∷ 14 ∷ []
order (on t (write w v)) = 9 ∷ 11 ∷ 10 ∷ 12 ∷ 14 ∷ []
order (on t commit) = 9 ∷ 11 ∷ 12 ∷ 14 ∷ []
order (on t step) = 9 ∷ 11 ∷ 12 ∷ 15 ∷ []
order (sys (flush w)) = 9 ∷ 10 ∷ []
order (sys crash) = 9 ∷ []
order (sys recover) = 9 ∷ 16 ∷ []
order (sys (recover_up_to b)) = 9 ∷ 16 ∷ []

-- k is the first of these numbers whose condition holds
abbrev pub FirstOf : List ℕ → (ℕ → Type 0) → ℕ → Type 0
FirstOf [] P k = ⊥
FirstOf (n ∷ ns) P k = (P n × (k ≡ n)) ⊎ ((P n → ⊥) × FirstOf ns P k)

abbrev pub NoneOf : List ℕ → (ℕ → Type 0) → Type 0
NoneOf [] P = Unit {0}
NoneOf (n ∷ ns) P = (P n → ⊥) × NoneOf ns P

-- ---- what a call leaves that is not refused

-- an operation's first line
abbrev pub FirstLine : Ask → Phase → Type 0
FirstLine begin p = p ≡ B1
FirstLine (read w) p = p ≡ R1 w
FirstLine (write w v) p = p ≡ W1 w v
FirstLine commit p = p ≡ E1
FirstLine step p = ⊥

-- a record at a crash: each that is not fresh, committed or aborted becomes aborted, and its loc stays
abbrev pub Over : Phase → Type 0
Over p = (p ≡ Fresh) ⊎ (p ≡ Committed) ⊎ (p ≡ Aborted)

pub data Cut (t u : Tx) : Type 0 where
  stays : Over t.phase → u ≡ t → Cut t u
  cut_off : (Over t.phase → ⊥) → u ≡ tx t.loc Aborted → Cut t u

-- k recovery lines, one after the other, lead from the first memory and recovery to the second
abbrev pub RecoveryLines : ℕ → Memory → Recovery → Memory → Recovery → Type 0
RecoveryLines zero m r m' r' = (m' ≡ m) × (r' ≡ r)
RecoveryLines (suc k) m r m' r' = (h : RecoveryDid) × RecoveryLine m r h × RecoveryLines k h.mem h.rec m' r'

pub data Does (s : Store) (c : Call) (o : Outcome) : Type 0 where
  -- An invocation puts the record at its first line and answers 0.
  invokes : (t : ℕ) (a : Ask) (p : Phase) → c ≡ on t a → FirstLine a p
      → o ≡ outcome (says 0 0) (store s.mem s.rec (set s.txs t (tx (record_at s.txs t).loc p))) → Does s c o
  -- A step does one numbered line, on its record and the memory.
  steps : (t : ℕ) (d : Did) → c ≡ on t step → Line s.mem (record_at s.txs t).loc (record_at s.txs t).phase d
      → o ≡ outcome d.reply (store d.mem s.rec (set s.txs t d.tx)) → Does s c o
  -- Flush of a word copies volatile to persistent.
  flushes : (w : ℕ) → c ≡ sys (flush w)
      → o ≡ outcome (says 0 0) (store (memory s.mem.vol (set s.mem.pers w (get_or s.mem.vol w 0)) s.mem.old s.mem.marks s.mem.glb) s.rec s.txs)
      → Does s c o
  -- Crash: volatile := persistent for every word; glb := 0; recovery at C1; persistent, old and marks stay.
  crashes : c ≡ sys crash → o.reply ≡ says 0 0 → o.store.mem ≡ memory s.mem.pers s.mem.pers s.mem.old s.mem.marks 0 → o.store.rec ≡ C1
      → length o.store.txs ≡ length s.txs → ((t : ℕ) → Cut (record_at s.txs t) (record_at o.store.txs t)) → Does s c o
  recovers : (h : RecoveryDid) → c ≡ sys recover → RecoveryLine s.mem s.rec h → o ≡ outcome h.reply (store h.mem h.rec s.txs) → Does s c o
  -- With an allowance b: b recovery lines, or all that are left up to and with C6 if those are fewer; 6 if C6, after which recovery is idle, was among them.
  spends : (b : ℕ) (m : Memory) (r : Recovery) → c ≡ sys (recover_up_to b) → RecoveryLines b s.mem s.rec m r → (r ≡ Idle → ⊥)
      → o ≡ outcome (says 0 b) (store m r s.txs) → Does s c o
  finishes : (b k : ℕ) (m : Memory) → c ≡ sys (recover_up_to b) → k ≤ b → RecoveryLines k s.mem s.rec m Idle
      → o ≡ outcome (says 6 k) (store m Idle s.txs) → Does s c o

-- Fresh: every word, mark, count and loc is 0, every record fresh, recovery idle.
pub record IsFresh (n : ℕ) (s : Store) : Type 0 where
  pub vol : s.mem.vol ≡ replicate n 0
  pub pers : s.mem.pers ≡ replicate n 0
  pub old : s.mem.old ≡ replicate n 0
  pub marks : s.mem.marks ≡ replicate 4 0
  pub count : s.mem.glb ≡ 0
  pub records : s.txs ≡ replicate 64 (tx 0 Fresh)
  pub recovery : s.rec ≡ Idle

-- Making a store fresh answers 0, or refuses rows of the wrong length with 9.
pub data MadeFresh (s : Store) (o : Outcome) : Type 0 where
  made : (WrongLength s → ⊥) → o.reply ≡ says 0 0 → IsFresh (size s.mem) o.store → MadeFresh s o
  refused : WrongLength s → o ≡ outcome (says 9 0) s → MadeFresh s o
