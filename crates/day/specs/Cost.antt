-- Demand 3 once more, of the numbers that are printed.
use Rattle.std.specs.Prelude.{ℕ, ◌+◌, ◌*◌, ◌≤◌, List}
use Rattle.dtml.specs.Store.{Store}
use Rattle.day.specs.Replay.{replay}

-- The T line's recovery lines are at most five for each of its entered words, plus four for each of its crashes, whatever the trace.
abbrev pub PrintedCost : Type 0
PrintedCost = (bs : List ℕ) (s : Store)
    → (replay bs s).ending.totals.lines ≤ 5 * (replay bs s).ending.totals.cut + 4 * (replay bs s).ending.totals.crashes
