use Rattle.order_line.proofs.Numbering.{lined_numbers}
use Rattle.order_line.proofs.line_up.Goals as goal

pub returns-then-lower_alone : goal.returns-then-lower_alone
returns-then-lower_alone c =
    lined_numbers (c.lower_alone.ensures.0 c.if-lower_alone.true) c.number.ensures.by_index
