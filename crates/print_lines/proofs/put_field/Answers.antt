-- The digits, then the byte. Assumes nothing.
use borrow.Author.Rules.{rules}
use Rattle.text.proofs.Puts.{put_then}
use Rattle.print_lines.proofs.put_field.Goals as goal

pub returns : goal.returns
returns c =
    put_then (search rules) c.put_number-end.ensures c.put_byte.ensures
