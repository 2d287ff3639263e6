-- Each history is run by the definitions, and each claim is computed.
use mathlib.Core.Path.{refl}
use lib.Count.{ones_in, count_trailing_zeros}
use Rattle.bits.specs.Marks.{digit, put, is_marked, with_mark, clear_of, count_of, lowest_of, stands_from}
use Rattle.day.specs.Replay.{answers, replay}
use Rattle.dtml.specs.Calls.{ask, up_to, system, act, call}
use Rattle.dtml.specs.Checks.{unfit_rows, unfit_tx, unfit_txs, unfit_beside, unfit}
use Rattle.dtml.specs.History.{told, live_words, noted, tell, dawn, runs}
use Rattle.dtml.specs.Lines.{flush_of, line_at, recovery_line, crash_txs}
use Rattle.dtml.specs.Store.{fresh}
use Rattle.reader.specs.Trace.{of_kind, found, script_up_to}
use Rattle.cases.specs.Cases.{holds, all_hold}
use Rattle.cases.specs.Table.{table, WorkedHistories}
use Rattle.cases.specs.Further.{further, FurtherHistories}

pub worked-histories : WorkedHistories
unfolding all_hold holds table replay digit put is_marked with_mark clear_of count_of lowest_of stands_from answers ask system act call unfit_rows unfit_tx unfit_txs unfit_beside unfit told live_words noted tell dawn runs flush_of line_at recovery_line crash_txs fresh of_kind found script_up_to ones_in count_trailing_zeros
worked-histories = refl

pub further-histories : FurtherHistories
unfolding all_hold holds further up_to digit put is_marked with_mark clear_of count_of lowest_of stands_from answers ask system act call unfit_rows unfit_tx unfit_txs unfit_beside unfit told live_words noted tell dawn runs flush_of line_at recovery_line crash_txs fresh ones_in count_trailing_zeros
further-histories = refl
