-- At the top level from the last bound down; else from below: the coasts of up to x actions are tried. Assumes nothing.
use Prim.Native.Nat.{ℕ, ◌+◌, ◌-◌, ◌*◌, ◌≤◌, ◌<◌, min}
use mathlib.Core.Path.{◌≡◌, sym}
use native.Mathlib.Nat.{mul-le-mul_right}
use native.Mathlib.Numerals.{add-one}
use native.Mathlib.Omega.{arith}
use lib.IntN.{pos}
use lib.ListN.{get_or}
use lib.Signed.{le_z}
use Rattle.run_decision.proofs.Rows.{into, past}
use Rattle.run_decision.proofs.Cells.{placed}
use Rattle.run_decision.proofs.Granting.{last-low, top_granted, going-one, going_more, going-stops, going_done}
use Rattle.run_decision.proofs.left_granted.Goals as goal
use Rattle.run_decision.proofs.left_granted.Goals.{then-within-2, else-within-2}

pub overflow_cast-result : goal.overflow_cast-result
overflow_cast-result c =
    let a = c.args in
    let from = (a.position * a.levels + a.level) * 16 in
    omega (arith, last-low (λ k. le_z (pos a.t) (get_or a.bounds.now (from + k) (pos 0))) c.min-end.result)

pub returns-then-above-levels : goal.returns-then-above-levels
returns-then-above-levels c =
    let a = c.args in
    going_done a.n a.levels _ a.t a.position a.level _
    (top_granted _ _ _ _ _ _ _ _ (omega arith) (rw c.min-end.ensures at c.last_within.ensures))

pub loop-x-init : goal.loop-x-init
loop-x-init c =
    let pre = c.requires in
    going-one _ _ _ _ _ _ (pre.pos_value (omega (arith, pre.cell)))

-- the row x positions on ends within the table
row_on : (n levels position x : ℕ) → position + x < n → (position + x) * levels + levels ≤ n * levels
row_on n levels position x more = omega (arith, mul-le-mul_right levels more)

pub within-requires : goal.within-requires
within-requires c =
    let a = c.args in
    omega (arith, row_on a.n a.levels a.position c.loop-x.x (omega arith), placed c.requires.cell, c.requires.cell)

pub returns-then-within : goal.returns-then-within
returns-then-within c =
    let a = c.args in
    let l = c.loop-x in
    going_done a.n a.levels _ a.t a.position a.level _
    (going-stops _ _ _ _ _ _ l.x _ _ l.invariant (omega (arith, c.requires.cell))
    (sym (rw (add-one a.level) at c.if-within.ensures)) (omega arith))

pub loop-x-preserved : goal.loop-x-preserved
loop-x-preserved c =
    let a = c.args in
    let l = c.loop-x in
    going_more _ _ _ _ _ _ l.x _ _ l.invariant
    (sym (rw (add-one a.level) at c.if-within.ensures))
    (elim c.if-within-2.branch [
      | then-within-2 w ↦ into _ _ _ (sym w.if-within-2.ensures) w.left-is
      | else-within-2 w ↦ past _ _ _ (sym w.if-within-2.ensures) w.left-is
    ])

pub returns : goal.returns
returns c =
    let a = c.args in
    let l = c.loop-x in
    let e : l.x ≡ min 16 (a.n - a.position) = omega arith in
    going_done a.n a.levels _ a.t a.position a.level _ (rw e at l.invariant.found)
