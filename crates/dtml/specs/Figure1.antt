-- Figure 1 of document 000, line by line, as document 01 amends it: what each numbered line asks, and all that it leaves.
-- It is written without the machine's own definitions, which are held to it. `*addr` is the volatile word, the log is the marks with the old words.
use Rattle.std.specs.Prelude.{ℕ, ◌+◌, ◌%◌, ◌<◌, ◌≡◌, true, false, get_or, set}
use Rattle.bits.specs.Marks.{is_marked, mark_of, unmark_of, clear_of}
use Rattle.dtml.specs.declared.Phase.{Phase}
use Rattle.dtml.specs.declared.Phase.TheVariants.{Ready, Committed, Aborted, B1, B2, R1, R2, W1, W2, W3, W4, W5, W6, W7, E1, E2, E3}
use Rattle.dtml.specs.declared.Recovery.{Recovery}
use Rattle.dtml.specs.declared.Recovery.TheVariants.{Idle, C1, C2, C3, C4, C5, C6}
use Rattle.dtml.specs.Table.{says}
use Rattle.dtml.specs.Store.{Memory, memory, tx}
use Rattle.dtml.specs.Asked.{Did, did, RecoveryDid, recovery_did}

abbrev Odd : ℕ → Type 0
Odd n = n % 2 ≡ 1

abbrev Even : ℕ → Type 0
Even n = n % 2 ≡ 0

-- In memory m, a transaction with this loc that stands at line p does d.
pub data Line (m : Memory) (loc : ℕ) (p : Phase) (d : Did) : Type 0 where
  -- B1 do loc := glb
  b1 : p ≡ B1 → d ≡ did (says 0 0) m (tx m.glb B2) → Line m loc p d
  -- B2 until even(loc); return ok
  b2-even : p ≡ B2 → Even loc → d ≡ did (says 1 0) m (tx loc Ready) → Line m loc p d
  b2-odd : p ≡ B2 → Odd loc → d ≡ did (says 0 0) m (tx loc B1) → Line m loc p d
  -- R1 val := *addr
  r1 : (w : ℕ) → p ≡ R1 w → d ≡ did (says 0 0) m (tx loc (R2 (get_or m.vol w 0))) → Line m loc p d
  -- R2 if glb = loc then return val else return abort
  r2-same : (v : ℕ) → p ≡ R2 v → m.glb ≡ loc → d ≡ did (says 2 v) m (tx loc Ready) → Line m loc p d
  r2-other : (v : ℕ) → p ≡ R2 v → (m.glb ≡ loc → ⊥) → d ≡ did (says 5 0) m (tx loc Aborted) → Line m loc p d
  -- W1 if even(loc) then W2
  w1-even : (w v : ℕ) → p ≡ W1 w v → Even loc → d ≡ did (says 0 0) m (tx loc (W2 w v)) → Line m loc p d
  w1-odd : (w v : ℕ) → p ≡ W1 w v → Odd loc → d ≡ did (says 0 0) m (tx loc (W4 w v)) → Line m loc p d
  -- W2 if ¬ cas(glb, loc, loc + 1) then return abort
  w2-same : (w v : ℕ) → p ≡ W2 w v → m.glb ≡ loc
      → d ≡ did (says 0 0) (memory m.vol m.pers m.old m.marks (loc + 1)) (tx loc (W3 w v)) → Line m loc p d
  w2-other : (w v : ℕ) → p ≡ W2 w v → (m.glb ≡ loc → ⊥) → d ≡ did (says 5 0) m (tx loc Aborted) → Line m loc p d
  -- W3 else loc++
  w3 : (w v : ℕ) → p ≡ W3 w v → d ≡ did (says 0 0) m (tx (loc + 1) (W4 w v)) → Line m loc p d
  -- W4 if ∀v. (addr, v) ∉ log then W5
  w4-in : (w v : ℕ) → p ≡ W4 w v → is_marked m.marks w ≡ true → d ≡ did (says 0 0) m (tx loc (W6 w v)) → Line m loc p d
  w4-out : (w v : ℕ) → p ≡ W4 w v → is_marked m.marks w ≡ false → d ≡ did (says 0 0) m (tx loc (W5 w v)) → Line m loc p d
  -- W5 log.pinsert((addr, *addr))
  w5 : (w v : ℕ) → p ≡ W5 w v
      → d ≡ did (says 0 0) (memory m.vol m.pers (set m.old w (get_or m.vol w 0)) (mark_of m.marks w) m.glb) (tx loc (W6 w v)) → Line m loc p d
  -- W6 *addr := val
  w6 : (w v : ℕ) → p ≡ W6 w v
      → d ≡ did (says 0 0) (memory (set m.vol w v) m.pers m.old m.marks m.glb) (tx loc (W7 w)) → Line m loc p d
  -- W7 FLUSH(addr); return ok
  w7 : (w : ℕ) → p ≡ W7 w
      → d ≡ did (says 3 0) (memory m.vol (set m.pers w (get_or m.vol w 0)) m.old m.marks m.glb) (tx loc Ready) → Line m loc p d
  -- E1 if odd(loc) then E2; return commit
  e1-odd : p ≡ E1 → Odd loc → d ≡ did (says 0 0) m (tx loc E2) → Line m loc p d
  e1-even : p ≡ E1 → Even loc → d ≡ did (says 4 0) m (tx loc Committed) → Line m loc p d
  -- E2 log.pempty()
  e2 : p ≡ E2 → d ≡ did (says 0 0) (memory m.vol m.pers m.old (clear_of m.marks) m.glb) (tx loc E3) → Line m loc p d
  -- E3 glb := loc + 1; return commit
  e3 : p ≡ E3 → d ≡ did (says 4 0) (memory m.vol m.pers m.old m.marks (loc + 1)) (tx loc Committed) → Line m loc p d

-- In memory m, recovery that stands at line r does h.
pub data RecoveryLine (m : Memory) (r : Recovery) (h : RecoveryDid) : Type 0 where
  -- C1 while ¬ log.isEmpty()
  c1-some : (w : ℕ) → r ≡ C1 → is_marked m.marks w ≡ true → h ≡ recovery_did (says 0 0) m C2 → RecoveryLine m r h
  c1-none : r ≡ C1 → ((w : ℕ) → is_marked m.marks w ≡ false) → h ≡ recovery_did (says 0 0) m C6 → RecoveryLine m r h
  -- C2 SOME (addr, val). (addr, val) ∈ log: the lowest marked word
  c2 : (w : ℕ) → r ≡ C2 → is_marked m.marks w ≡ true → ((x : ℕ) → x < w → is_marked m.marks x ≡ false)
      → h ≡ recovery_did (says 0 0) m (C3 w (get_or m.old w 0)) → RecoveryLine m r h
  -- C3 *addr := val
  c3 : (w v : ℕ) → r ≡ C3 w v → h ≡ recovery_did (says 0 0) (memory (set m.vol w v) m.pers m.old m.marks m.glb) (C4 w v) → RecoveryLine m r h
  -- C4 FLUSH(addr)
  c4 : (w v : ℕ) → r ≡ C4 w v
      → h ≡ recovery_did (says 0 0) (memory m.vol (set m.pers w (get_or m.vol w 0)) m.old m.marks m.glb) (C5 w v) → RecoveryLine m r h
  -- C5 log.pdelete((addr, val))
  c5 : (w v : ℕ) → r ≡ C5 w v
      → h ≡ recovery_did (says 0 0) (memory m.vol m.pers m.old (unmark_of m.marks w) m.glb) C1 → RecoveryLine m r h
  -- C6 glb := 0
  c6 : r ≡ C6 → h ≡ recovery_did (says 6 0) (memory m.vol m.pers m.old m.marks 0) Idle → RecoveryLine m r h
