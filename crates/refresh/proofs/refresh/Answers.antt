-- Assumes nothing.
use lib.ListN.{length}
use borrow.Author.Tests.{ne_eqb}
use Rattle.std.proofs.lemmas.Result.{err_from_is_err_and}
use Rattle.rules.specs.Image.{profile}
use Rattle.rules.specs.Reasons.{number_of}
use Rattle.rules.specs.Refusals.{image_checks}
use Rattle.rules.proofs.Refusals.{refuses-stops}
use Rattle.rules.proofs.Reasons.{some_number}
use Rattle.refresh.specs.Refresh.{own_grounds}
use Rattle.refresh.proofs.refresh.Goals as goal

pub returns-in_err-checked : goal.returns-in_err-checked
returns-in_err-checked c =
    let x = c.args in
    let s = x.image.now in
    let rest = own_grounds (profile s) x.trace.now (length s) (length x.out.now) in
    let blame = c.in_err-checked.field-0.0 in
    let some = some_number blame.reason in
    let p = err_from_is_err_and c.from_residual.result c.from_residual.ensures.1 in
    rw (p.1, p.2)
    record {
      given = refuses-stops (image_checks s) rest _ c.in_err-checked.ensures.given some;
      written = rw (ne_eqb (number_of blame.reason) 0 some);
      count = rw (ne_eqb (number_of blame.reason) 0 some);
    }
