-- The word with its space, and the number with the newline. Assumes nothing.
use borrow.Author.Rules.{rules}
use Rattle.text.specs.Digits.{line}
use Rattle.text.proofs.Puts.{put_then}
use Rattle.print_lines.specs.Lines.{refused_text}
use Rattle.print_lines.proofs.put_refusal.Goals as goal

pub returns : goal.returns
unfolding line refused_text
returns c =
    put_then (search rules) c.put_bytes-end.ensures c.put_field.ensures
