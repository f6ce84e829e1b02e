use borrow.Author.Tests.{eq-eqb, ne_eqb}
use Rattle.rules.specs.Image.{due, profile}
use Rattle.image_fields.proofs.read.due_at.Goals as goal

pub returns-then-deadline-eq0 : goal.returns-then-deadline-eq0
unfolding due profile
returns-then-deadline-eq0 c = rw (← c.deadline_at-deadline.ensures, eq-eqb _ _ c.if-deadline-eq0.true) c.requires.1

pub returns-else-deadline-eq0 : goal.returns-else-deadline-eq0
unfolding due profile
returns-else-deadline-eq0 c = rw (← c.deadline_at-deadline.ensures, ne_eqb _ _ c.if-deadline-eq0.false)
