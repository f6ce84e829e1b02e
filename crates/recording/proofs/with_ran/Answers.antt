-- The totals are in range with room for a frame, so no sum wraps. Assumes nothing.
use native.Mathlib.Numerals.{add-one}
use native.Mathlib.Omega.{arith}
use Rattle.rules.specs.Recording.{with_frame}
use Rattle.rules.proofs.Recording.{in_range-exact}
use Rattle.run.proofs.Ranges.{mark-number}
use Rattle.recording.specs.Recording.{totals_of}
use Rattle.recording.proofs.with_ran.Goals as goal

pub overflow_add-result-2 : goal.overflow_add-result-2
overflow_add-result-2 c =
    omega (arith, (in_range-exact (totals_of c.args.totals)).0 c.requires.0, c.requires.1, c.requires.2)

pub overflow_add-result-3 : goal.overflow_add-result-3
overflow_add-result-3 c =
    omega (arith, (in_range-exact (totals_of c.args.totals)).0 c.requires.0, c.requires.1, mark-number c.args.ran.overrun)

pub overflow_add-result-4 : goal.overflow_add-result-4
overflow_add-result-4 c =
    omega (arith, (in_range-exact (totals_of c.args.totals)).0 c.requires.0, c.requires.1, mark-number c.args.ran.late)

pub returns : goal.returns
unfolding with_frame
returns c = rw (add-one, c.from.ensures, c.from-2.ensures, (mark-number c.args.ran.overrun).0, (mark-number c.args.ran.late).0)
