-- The limit and the bounds of k more actions are written. Assumes nothing.
use mathlib.Core.Path.{◌≡◌, ◌∙◌}
use mathlib.Core.List.{[], ◌∷◌}
use Prim.Native.Nat.{◌+◌, ◌<◌}
use native.Mathlib.Omega.{arith}
use borrow.Author.Rules.{rules}
use lib.IntN.{pos}
use lib.Signed.{mag}
use lib.ListN.{get_or, length-set}
use mir.Syntax.{w32}
use mir.Val.{to_z, of_z}
use mir.Facts.{to_z-of_z}
use Rattle.fields.proofs.Splice.{set-splice, splice-join}
use Rattle.fields.proofs.Cats.{cat-none, cat_done}
use Rattle.fields.proofs.Tabs.{tab-more}
use Rattle.plan_entry.proofs.Signed.{as_is}
use Rattle.plan_entry.proofs.bounds_by.Goals as goal

pub loop-k-init : goal.loop-k-init
loop-k-init c = (search rules, cat-none _ _ _)

pub loop-k-preserved : goal.loop-k-preserved
loop-k-preserved c =
    let a = c.args in
    let t = c.loop-k in
    let near : mag (get_or a.after t.k (pos 0)) < 2147483648 = omega arith in
    let is = rw (as_is _ near) at c.bound_of.ensures in (
      omega (arith, t.invariant.0, length-set t.out (a.at + 1 + t.k) (to_z w32 (of_z w32 c.bound_of.result))),
      tab-more _ _ (a.at + 1) (a.at + 1 + t.k) t.k (simp length-set (omega arith)) (omega arith) t.invariant.0
          (as_is c.bound_of.result c.bound_of.type_inv ∙ is) t.invariant.1,
    )

pub returns : goal.returns
returns c =
    let a = c.args in
    let t = c.loop-k in
    let limit : to_z w32 (of_z w32 a.limit) ≡ a.limit = to_z-of_z c.ranges.limit in
    let first = set-splice a.out.now a.at (to_z w32 (of_z w32 a.limit)) (omega arith) in
    rw limit at (splice-join a.out.now a.at (to_z w32 (of_z w32 a.limit) ∷ []) _ (a.at + 1) (omega arith) (omega arith) first
    (cat_done _ _ (a.at + 1) t.k 15 (omega arith) t.invariant.1))
