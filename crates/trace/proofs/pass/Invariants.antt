-- The invariant of `trace::pass`: no record so far is at fault, and those that are measurements are in the tallies. The measure is the number of
-- records that are left.
use Rattle.std.specs.Prelude.{ℕ, ◌≤◌, ◌<◌, List}
use Rattle.rules.specs.Image.{Profile}
use Rattle.rules.specs.Refresh.{records, Fault}
use Rattle.trace.specs.Trace.{Ceilings, Tallied}
use Rattle.trace.proofs.pass.Given as goal

pub record Done (trace ceilings tallies : List ℕ) (r : ℕ) : Type 0 where
  pub within : r ≤ records trace
  pub sound : (F : Profile) → Ceilings F ceilings → (e : ℕ) → e < r → Fault F trace e → ⊥
  pub tallied : Tallied trace r tallies

abbrev pub invariant-loop-r : goal.invariant-loop-r
invariant-loop-r l = Done l.trace l.ceilings l.tallies l.r
