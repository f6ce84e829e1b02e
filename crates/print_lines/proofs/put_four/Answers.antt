-- Three numbers with a space, and one with the newline. Assumes nothing.
use mathlib.Core.List.{append_assoc}
use Rattle.text.specs.Digits.{line}
use Rattle.text.proofs.Puts.{put_then, put_as}
use Rattle.print_lines.specs.Lines.{four_line}
use Rattle.print_lines.proofs.put_four.Goals as goal

pub returns : goal.returns
unfolding line four_line
returns c =
    let room = c.requires.0 in
    put_as (simp append_assoc)
    (put_then room (put_then room (put_then room c.put_field-second.ensures c.put_field-third.ensures) c.put_field-fourth.ensures)
    c.put_field.ensures)
