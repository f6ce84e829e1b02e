-- The tests of the definitions are those of the code.
use Rattle.std.proofs.Common.{◌+◌, ◌≡◌, true, false, Ok, Err, arith, refl, ap, sym}
use borrow.Author.Tests.{le-leb, lt-leb, lt-ltb, le-ltb}
use Rattle.text.specs.Words.{is_number}
use Rattle.arguments.specs.Year.{year_of, understood}
use Rattle.arguments.proofs.said.Goals as goal

pub returns-then-count-at : goal.returns-then-count-at
unfolding year_of understood
returns-then-count-at c = rw (le-leb c.args.count c.args.at c.if-count-at.true) refl

pub returns-then-at-count : goal.returns-then-at-count
unfolding year_of understood
returns-then-at-count c =
    let present = lt-leb c.args.count c.args.at (omega arith) in
    let more = lt-ltb (c.args.at + 1) c.args.count c.if-at-count.true in
    rw (present, more) (ap Err c.whole_number-policy.ensures)

pub returns-then-is_number : goal.returns-then-is_number
unfolding year_of understood
returns-then-is_number c =
    let present = lt-leb c.args.count c.args.at (omega arith) in
    let none = le-ltb (c.args.at + 1) c.args.count (omega arith) in
    let said : is_number c.args.word.now ≡ true = sym c.if-is_number.ensures in
    rw (present, none, said) (ap Ok c.whole_number-policy.ensures)

pub returns-else-is_number : goal.returns-else-is_number
unfolding year_of understood
returns-else-is_number c =
    let present = lt-leb c.args.count c.args.at (omega arith) in
    let none = le-ltb (c.args.at + 1) c.args.count (omega arith) in
    let said : is_number c.args.word.now ≡ false = sym c.if-is_number.ensures in
    rw (present, none, said) (ap Err c.whole_number-policy.ensures)
