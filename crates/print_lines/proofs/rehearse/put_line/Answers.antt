-- A refusal is its line; without one the decisions, and a line of four numbers after the space. Assumes nothing.
use mathlib.Core.Path.{◌≡◌, refl, ◌∙◌}
use mathlib.Core.Bool.{Bool, true, false}
use mathlib.Core.List.{append_assoc}
use Rattle.std.specs.Int.{from_bool}
use Rattle.rules.specs.Words.{one_if}
use borrow.Author.Rules.{rules}
use Rattle.planner.proofs.Answers.{kept-old, kept_new}
use Rattle.text.specs.Digits.{line}
use Rattle.text.proofs.Puts.{put_then, put_as}
use Rattle.print_lines.specs.Lines.{four_line}
use Rattle.print_lines.specs.Rehearse.{line_text}
use Rattle.print_lines.proofs.rehearse.put_line.Goals as goal

as_number : (b : Bool) → from_bool b ≡ one_if b
as_number true = refl
as_number false = refl

pub returns-then-refusal-ne0 : goal.returns-then-refusal-ne0
unfolding line_text
returns-then-refusal-ne0 c =
    put_as (kept-old _ _ _ c.if-refusal-ne0.true) c.put_refusal.ensures

pub returns : goal.returns
unfolding line four_line line_text
returns c =
    let marks = rw (c.from-overrun.ensures ∙ as_number _, c.from-late.ensures ∙ as_number _) at c.put_four.ensures in
    put_as (kept_new _ _ _ c.if-refusal-ne0.false (simp append_assoc)) (put_then (search rules) c.put_field-second.ensures marks)
