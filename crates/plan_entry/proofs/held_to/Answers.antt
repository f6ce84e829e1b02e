-- The first q entries are held to the deadline. Assumes nothing.
use mathlib.Core.Path.{◌≡◌, ap₂, ◌∙◌}
use native.Mathlib.Omega.{arith}
use borrow.Author.Rules.{rules}
use lib.IntN.{pos}
use lib.Signed.{mag}
use Prim.Native.Nat.{◌<◌}
use lib.ListN.{get_or}
use mir.Syntax.{w32}
use mir.Val.{to_z, of_z}
use mir.Facts.{to_z_pos}
use Rattle.rules.specs.Words.{minZ}
use Rattle.fields.proofs.Cats.{cat-none}
use Rattle.fields.proofs.Tabs.{tab-more}
use Rattle.fields.proofs.Written.{tab-written}
use Rattle.plan_entry.proofs.Signed.{as_is, min-is}
use Rattle.plan_entry.proofs.held_to.Goals as goal

pub loop-q-init : goal.loop-q-init
loop-q-init c = (search rules, cat-none _ _ _)

pub loop-q-preserved : goal.loop-q-preserved
loop-q-preserved c =
    let t = c.loop-q in
    let near : mag (get_or c.args.next t.q (pos 0)) < 2147483648 = omega arith in
    let stored : to_z w32 (of_z w32 c.min.result) ≡ minZ (pos c.args.deadline) (get_or c.args.next t.q (pos 0))
    = as_is c.min.result c.min.type_inv ∙ c.min.ensures.value ∙ min-is (to_z w32 c.args.deadline) (to_z w32 (of_z w32 (get_or c.args.next t.q (pos 0)))) ∙ ap₂ minZ (to_z_pos w32 {n = c.args.deadline} (omega arith)) (as_is (get_or c.args.next t.q (pos 0)) near) in (
      search rules,
      tab-more _ _ 0 t.q t.q (omega arith) (omega arith) t.invariant.0 stored t.invariant.1,
    )

pub returns : goal.returns
returns c =
    let t = c.loop-q in
    record { at = λ q l. rw c.if-policy-ne-POLICY_2005.false (tab-written _ _ t.q (pos 0) t.invariant.1 q (omega arith)) }
