-- The number is told in each case, the action after it with 5 to 8. Assumes nothing.
use mathlib.Core.List.{append_assoc}
use borrow.Author.Rules.{rules}
use borrow.Author.Tests.{lt-ltb, le-ltb}
use Rattle.text.proofs.Puts.{put_then, put_as}
use Rattle.print_lines.specs.Lines.{fault_said}
use Rattle.print_lines.proofs.put_said.Goals as goal

pub returns-then-fault : goal.returns-then-fault
unfolding fault_said
returns-then-fault c =
    put_as (rw (lt-ltb _ _ c.if-fault.true)) (put_then (search rules) c.put_bytes-word.ensures c.put_number-number.ensures)

pub returns-then-fault-2 : goal.returns-then-fault-2
unfolding fault_said
returns-then-fault-2 c =
    put_as (rw (le-ltb _ _ c.if-fault.false, lt-ltb _ _ c.if-fault-2.true)) (put_then (search rules) c.put_bytes-word.ensures c.put_number-number.ensures)

pub returns : goal.returns
unfolding fault_said
returns c =
    let told = put_then (search rules) c.put_bytes-word.ensures c.put_number-number.ensures in
    let spaced = put_then (search rules) told c.put_byte-space.ensures in
    put_as (rw (le-ltb _ _ c.if-fault.false, le-ltb _ _ c.if-fault-2.false) (simp append_assoc)) (put_then (search rules) spaced c.put_number.ensures)
