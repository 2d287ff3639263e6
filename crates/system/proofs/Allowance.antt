-- The allowance loop: what is left of the allowance, from where recovery stands, comes to the same as all of it from the start.
-- A line takes one from what is left and adds one to the lines carried out; where recovery is idle or nothing is left, what is answered so far stands.
use Prim.Native.Nat.{ℕ, suc, ◌+◌, ◌-◌, ◌≤◌, ◌<◌}
use mathlib.Core.Bool.{true, false}
use mathlib.Core.Path.{◌≡◌, ◌∙◌}
use native.Mathlib.Nat.{sub-zero}
use native.Mathlib.Omega.{arith}
use Rattle.bits.specs.Marks.{pick}
use Rattle.dtml.specs.declared.Answer.TheVariants.{Taken, Recovered}
use Rattle.dtml.specs.declared.Recovery.{Recovery}
use Rattle.dtml.specs.Table.{says}
use Rattle.dtml.specs.Store.{Memory}
use Rattle.dtml.specs.Asked.{RecoveryDid}
use Rattle.dtml.specs.Lines.{recovery_line}
use Rattle.dtml.specs.Checks.{unfit_memory, not_idle}
use Rattle.dtml.specs.Calls.{up_to}
use Rattle.dtml.proofs.Fit.{keeps, line-number, up-to-more, up-to-idle}
use Rattle.system.specs.Recovering.{recovery_turn_of, recovery_did_of}
use Rattle.system.proofs.Tests.{reply-pick}

-- the rest of b lines, n of which brought recovery from r₀ over m₀ to r over m
abbrev pub rest : ℕ → ℕ → Memory → Recovery → RecoveryDid
rest b n m r = up_to (b - n) (says (pick (not_idle r) 0 6) n) m r

pub record Going (b n : ℕ) (m₀ m : Memory) (r₀ r : Recovery) : Type 0 where
  pub within : n ≤ b
  pub fit : unfit_memory m r ≡ false
  pub comes-to : rest b n m r ≡ up_to b (says 0 0) m₀ r₀

pub going_start : (b : ℕ) (m : Memory) (r : Recovery) → unfit_memory m r ≡ false → not_idle r ≡ true → Going b 0 m m r r
going_start b m r f i =
    record { within = omega arith; fit = f; comes-to = rw (i, sub-zero b) }

-- one line more, which left h
rest_more : (b n : ℕ) (m : Memory) (r : Recovery) (h : RecoveryDid) → h ≡ recovery_line m r → not_idle r ≡ true
    → up_to b (says (pick (not_idle h.rec) 0 6) (n + 1)) h.mem h.rec ≡ up_to (suc b) (says (pick (not_idle r) 0 6) n) m r
rest_more b n m r h e i = rw (e, up-to-more b (says (pick (not_idle r) 0 6) n) m r i, line-number m r i)

line-fit : (m : Memory) (r : Recovery) (h : RecoveryDid) → h ≡ recovery_line m r → unfit_memory m r ≡ false → unfit_memory h.mem h.rec ≡ false
line-fit m r h e f = rw e (keeps m r f)

pub going_more : {b n : ℕ} {m₀ m : Memory} {r₀ r : Recovery} (h : RecoveryDid) → Going b n m₀ m r₀ r → n < b → not_idle r ≡ true → h ≡ recovery_line m r
    → Going b (n + 1) m₀ h.mem r₀ h.rec
going_more {b} {n} {m₀} {m} {r₀} {r} h g below i e =
    let left : b - n ≡ suc (b - (n + 1)) = omega arith in
    record {
      within = omega arith;
      fit = line-fit m r h e g.fit;
      comes-to = rest_more (b - (n + 1)) n m r h e i ∙ (rw left at g.comes-to);
    }

-- what n lines have answered
abbrev pub so_far : ℕ → Memory → Recovery → RecoveryDid
so_far n m r = recovery_did_of (recovery_turn_of (pick (not_idle r) (Taken n) (Recovered n)) r) m

pub going-idle : {b n : ℕ} {m₀ m : Memory} {r₀ r : Recovery} → Going b n m₀ m r₀ r → not_idle r ≡ false → so_far n m r ≡ up_to b (says 0 0) m₀ r₀
going-idle {b} {n} {m₀} {m} {r₀} {r} g i =
    rw (reply-pick (not_idle r) n, ← (up-to-idle (b - n) (says (pick (not_idle r) 0 6) n) m r i)) g.comes-to

-- all of the allowance is spent
pub going-spent : {b n : ℕ} {m₀ m : Memory} {r₀ r : Recovery} → Going b n m₀ m r₀ r → b ≤ n → so_far b m r ≡ up_to b (says 0 0) m₀ r₀
unfolding up_to
going-spent {b} {n} {m₀} {m} {r₀} {r} g spent =
    let none : b - n ≡ 0 = omega arith in
    let all : n ≡ b = let within = g.within in omega arith in
    rw (reply-pick (not_idle r) b) (rw (none, all) at g.comes-to)
