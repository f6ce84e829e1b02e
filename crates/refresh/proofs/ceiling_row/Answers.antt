-- The loop has stored the entries of the levels below q. Assumes nothing.
use Prim.Native.Nat.{ℕ, ◌+◌}
use mathlib.Core.Path.{ap}
use native.Mathlib.Omega.{arith}
use lib.ListN.{length-set}
use borrow.Author.Rules.{rules}
use Rattle.fields.proofs.Bytes.{Bytes}
use Rattle.fields.proofs.Cats.{cat-none}
use Rattle.fields.proofs.Tabs.{tab-more}
use Rattle.image_fields.proofs.Reading.{worst-short}
use Rattle.refresh.proofs.ceiling_row.Goals as goal

pub loop-q-init : goal.loop-q-init
loop-q-init c = (search rules, search rules, cat-none _ _ _)

pub overflow_add-ceilings : goal.overflow_add-ceilings
overflow_add-ceilings c =
    let x = c.args in
    let bytes : Bytes x.image.now = λ k. (c.type_inv.image k).fits in
    omega (arith, worst-short x.image.now x.a c.loop-q.q bytes, c.worst_at.ensures)

pub loop-q-preserved : goal.loop-q-preserved
loop-q-preserved c =
    let p = c.loop-q in (
      search rules,
      simp length-set (omega arith),
      tab-more _ _ _ _ p.q (omega arith) (omega arith) (omega arith) (ap (λ (x : ℕ). x + 1) c.worst_at.ensures) p.invariant.2,
    )
