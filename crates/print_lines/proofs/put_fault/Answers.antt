-- What is said, and the newline. Assumes nothing.
use borrow.Author.Rules.{rules}
use Rattle.text.proofs.Puts.{put_then}
use Rattle.print_lines.specs.Lines.{fault_text}
use Rattle.print_lines.proofs.put_fault.Goals as goal

pub returns : goal.returns
unfolding fault_text
returns c =
    put_then (search rules) c.put_said-end.ensures c.put_byte.ensures
