-- `replay_lent::Replay::report` meets its contract: the rows lent are as long as the header says, and the buffer has room for the text. As in the other programs that replay, the goals are answered by one law each.
use mathlib.Core.Path.{sym}
use lib.Seq.{length-take-le}
use Rattle.day.proofs.Shown.{few_words}
use Rattle.replay_lent.proofs.Reports.{reports}
use Rattle.replay_lent.proofs.ReplayReport655438.report.Goals as goal

pub slice_bounds-vol-end : goal.slice_bounds-vol-end
slice_bounds-vol-end c = few_words _ c.header.result c.header.ensures _ c.unwrap_or-n.ensures

pub slice_bounds-on_records-end : goal.slice_bounds-on_records-end
slice_bounds-on_records-end c = sym (length-take-le _ _ (few_words _ c.header.result c.header.ensures _ c.unwrap_or-n.ensures))

pub slice_bounds-pers-end : goal.slice_bounds-pers-end
slice_bounds-pers-end c = few_words _ c.header.result c.header.ensures _ c.unwrap_or-n.ensures

pub slice_bounds-on_records-end-2 : goal.slice_bounds-on_records-end-2
slice_bounds-on_records-end-2 c = sym (length-take-le _ _ (few_words _ c.header.result c.header.ensures _ c.unwrap_or-n.ensures))

pub slice_bounds-old-end : goal.slice_bounds-old-end
slice_bounds-old-end c = few_words _ c.header.result c.header.ensures _ c.unwrap_or-n.ensures

pub slice_bounds-on_records-end-3 : goal.slice_bounds-on_records-end-3
slice_bounds-on_records-end-3 c = sym (length-take-le _ _ (few_words _ c.header.result c.header.ensures _ c.unwrap_or-n.ensures))

pub returns : goal.returns
returns c =
    let long = sym (length-take-le _ _ (few_words _ c.header.result c.header.ensures _ c.unwrap_or-n.ensures)) in
    reports _ c.header.result c.header.ensures _ c.unwrap_or-n.ensures _ _ _ _ long long long _ _ c.on_records.result c.told-out c.on_records.ensures
