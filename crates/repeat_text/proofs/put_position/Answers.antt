-- Position, action, the limits of the position, the newline. Assumes nothing.
use Prim.Native.Nat.{ℕ}
use mathlib.Core.Path.{ap, ◌∙◌}
use mathlib.Core.List.{[], ◌∷◌, ◌++◌}
use Rattle.rules.specs.Words.{cat}
use Rattle.rules.specs.Repeat.{lent_plan}
use Rattle.text.specs.Digits.{newline, space, decimal}
use Rattle.text.proofs.Puts.{put_then, put_as}
use Rattle.print.proofs.Lines.{position-is}
use Rattle.repeat_text.specs.Text.{lent_line}
use Rattle.repeat_text.proofs.Lines.{entry}
use Rattle.repeat_text.proofs.put_position.Goals as goal

pub returns : goal.returns
unfolding lent_line
returns c =
    let a = c.args in
    let room = c.requires.0.0 in
    put_as
    (ap (λ (x : ℕ). ((decimal a.position ++ (space ∷ [])) ++ decimal x) ++ (cat (entry a.body a.summaries.now a.position) a.body.levels ++ (newline ∷ [])))
    c.action_at-action.ensures.0
    ∙ position-is a.position _ ((lent_plan a.body (record { order = []; summaries = a.summaries.now; worst = [] })).limit a.position) a.body.levels)
    (put_then room (put_then room c.put_field-second.ensures c.put_number-third.ensures)
    (put_then c.put_number-third.ensures.counts.0 c.put_limits-end.ensures c.put_byte.ensures))
