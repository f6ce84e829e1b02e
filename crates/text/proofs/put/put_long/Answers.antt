-- The digits are the number's. Assumes nothing.
use mathlib.Core.Path.{◌∙◌}
use native.Mathlib.Omega.{arith}
use Rattle.text.proofs.Puts.{put_as}
use Rattle.text.proofs.Decimal.{decimal-is}
use Rattle.text.proofs.put.put_long.Goals as goal

pub returns : goal.returns
returns c =
    let spelled = c.decimal-k in
    put_as (spelled.ensures.digits ∙ decimal-is spelled.result _ (omega arith) spelled.ensures.len) c.put_bytes.ensures
