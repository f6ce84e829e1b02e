-- A text of no byte is no number; any other is one where there are digits alone. Assumes nothing.
use mathlib.Core.Path.{sym, ap, ◌∙◌}
use mathlib.Core.Bool.{Bool, false, cond, not}
use Rattle.text.specs.Words.{only_digits, is_number}
use Rattle.text.proofs.words.is_number.Goals as goal

pub returns-then-not-is_empty : goal.returns-then-not-is_empty
unfolding is_number
returns-then-not-is_empty c =
    c.only_digits.ensures ∙ sym (ap (λ (t : Bool). cond t false (only_digits c.args.text.now)) (sym c.is_empty.ensures ∙ c.if-not-is_empty.true))

pub returns-else-not-is_empty : goal.returns-else-not-is_empty
unfolding is_number
returns-else-not-is_empty c =
    ap not c.if-not-is_empty.false ∙ sym (ap (λ (t : Bool). cond t false (only_digits c.args.text.now)) (sym c.is_empty.ensures ∙ c.if-not-is_empty.false))
