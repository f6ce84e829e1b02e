-- No action below a has a deadline of its own. Assumes nothing.
use mathlib.Core.Path.{sym, ◌∙◌}
use native.Mathlib.Omega.{arith}
use borrow.Author.Count.{below_more}
use Rattle.image_fields.proofs.Reading.{has_record}
use Rattle.image_fields.proofs.Faults.{said_yes}
use Rattle.repeat_tables.proofs.Repeating.{own-due}
use Rattle.repeat_tables.proofs.other_deadline.Goals as goal

pub due_at-requires : goal.due_at-requires
due_at-requires c =
    let given = c.requires in
    (has_record _ given.0 (omega arith), given.1)

pub returns-then-due_at-cycle : goal.returns-then-due_at-cycle
returns-then-due_at-cycle c =
    said_yes (c.loop-a.a, omega arith, (own-due _ _).1 (λ e. c.if-due_at-cycle.true (c.due_at.ensures ∙ e ∙ sym c.requires.1)))

pub loop-a-preserved : goal.loop-a-preserved
loop-a-preserved c =
    below_more _ _ c.loop-a.invariant (λ h. (own-due _ _).0 h (sym c.due_at.ensures ∙ c.if-due_at-cycle.false ∙ c.requires.1))
