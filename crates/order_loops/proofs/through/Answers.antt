use mathlib.Core.Path.{sym, ◌∙◌}
use native.Mathlib.Omega.{arith}
use Rattle.order_loops.proofs.Closing.{mixed_in, mixed-out, mixed-end}
use Rattle.order_loops.proofs.through.Goals as goal
use Rattle.order_loops.proofs.through.Goals.{then-member, else-member}

pub loop-b-preserved : goal.loop-b-preserved
loop-b-preserved c =
    let mixed = c.loop-b.invariant in
    let l = c.loop-b-test.true in
    let told = sym c.member.ensures in λ masks rows.
    elim c.if-member.branch [
      | then-member w ↦ rw w.all-is (mixed_in masks l (mixed masks rows) (omega (arith, c.requires.0)) (rows.row _ c.requires.1) (told ∙ w.if-member.true))
      | else-member w ↦ rw w.all-is (mixed-out masks l (mixed masks rows) (told ∙ w.if-member.false))
    ]

pub returns : goal.returns
returns c = λ masks rows. mixed-end masks c.loop-b-test.false (c.loop-b.invariant masks rows)
