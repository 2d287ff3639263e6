-- `pace::Pace::report` meets its contract: the line is the definition's, and there is room for it.
use Rattle.std.proofs.Common.{rules, ◌≡◌}
use Rattle.text.specs.Text.{answer_line}
use Rattle.text.specs.Buffer.{buffer, puts}
use Rattle.pace.specs.Pace.{printed}
use Rattle.pace.proofs.Reports.{stands}
use Rattle.pace.proofs.PaceReport64.report.Goals as goal

pub returns : goal.returns
unfolding printed
returns c =
    let line : answer_line c.times-n.result c.number.result c.value.result ≡ printed c.args.bytes.now = search rules in
    let put : buffer _ c.put_answer.new.self.at ≡ puts (buffer c.args.out.now 0) (answer_line c.times-n.result c.number.result c.value.result) = search rules in
    stands c.args.out.now _ _ _ _ _ _ c.told-out c.times-n.type_inv c.number.type_inv c.value.type_inv line put
