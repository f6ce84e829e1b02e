-- From the last entry down: those from k on do not pass. Assumes nothing.
use Prim.Native.Nat.{◌-◌}
use mathlib.Core.Path.{◌≡◌, sym, ◌∙◌}
use native.Mathlib.Omega.{arith}
use Rattle.rules.specs.Words.{last_passing}
use Rattle.rules.proofs.Tests.{last-here, last-past}
use Rattle.run_decision.proofs.last_within.Invariants.{passes}
use Rattle.run_decision.proofs.last_within.Goals as goal

pub returns-then-within : goal.returns-then-within
returns-then-within c =
    let a = c.args in
    let k = c.loop-k.k in
    sym (c.loop-k.invariant ∙ last-here (passes a.table.now a.from a.t) (k - 1) k (omega arith) (sym c.if-within.ensures))

pub loop-k-preserved : goal.loop-k-preserved
loop-k-preserved c =
    let a = c.args in
    let k = c.loop-k.k in
    c.loop-k.invariant ∙ last-past (passes a.table.now a.from a.t) (k - 1) k (omega arith) (sym c.if-within.ensures)

pub returns : goal.returns
unfolding last_passing
returns c =
    let e : c.loop-k.k ≡ 0 = omega arith in
    sym (c.loop-k.invariant ∙ rw e)
