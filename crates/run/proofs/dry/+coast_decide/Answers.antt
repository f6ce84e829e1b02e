-- `coast`: each turn asks for an action without a decision and ends it, until the coast is used up. `decide`: each turn decides for an action and
-- ends it, until something is left to coast or no action remains. Assumes nothing.
use mathlib.Core.Path.{refl, sym, ap}
use native.Mathlib.Omega.{arith}
use Rattle.rules.specs.Run.{Run}
use Rattle.rules.proofs.Calls.{in_range_facts}
use Rattle.run.proofs.dry.Onward.{rest-none}
use Rattle.run.proofs.dry.Readiness.{more_left, coasted_turn, decided_turn, is-running, turn_less, turn_on}
use Rattle.run.proofs.dry.+coast_decide.Goals as goal

-- ---- `coast`: a turn

pub coast-overflow_cast-given : goal.coast-overflow_cast-given
coast-overflow_cast-given t c = omega (arith, in_range_facts _ c.loop-next.invariant.ready.ranged)

-- an action remains, so that its position lies in both lists
pub coast-bounds-given-at : goal.coast-bounds-given-at
coast-bounds-given-at t c = let going = c.loop-next.invariant in omega (arith, going.ready, more_left going c.loop-next-test.true)

pub coast-bounds-marks-at : goal.coast-bounds-marks-at
coast-bounds-marks-at t c = let going = c.loop-next.invariant in omega (arith, going.ready, more_left going c.loop-next-test.true)

pub coast-passed-next-requires : goal.coast-passed-next-requires
coast-passed-next-requires t c = is-running (coasted_turn c.loop-next.invariant c.loop-next-test.true c.coasted.ensures)

pub coast-loop-next-smaller : goal.coast-loop-next-smaller
coast-loop-next-smaller t c = turn_less (coasted_turn c.loop-next.invariant c.loop-next-test.true c.coasted.ensures) c.passed-next.ensures

pub coast-loop-next-preserved : goal.coast-loop-next-preserved
coast-loop-next-preserved t c =
    turn_on (coasted_turn c.loop-next.invariant c.loop-next-test.true c.coasted.ensures) c.passed-next.ensures _
    (ap (λ (s : Run). s.level) (sym c.coasted.ensures))

-- ---- the coast used up: `decide` is called at the position reached, or no action remains

pub coast-returns-then-next : goal.coast-returns-then-next
coast-returns-then-next t c = c.loop-next.invariant.rest c.decide.ensures

pub coast-returns : goal.coast-returns
coast-returns t c = c.loop-next.invariant.rest (rest-none _ c.if-next.false)

-- ---- `decide`: a turn

pub decide-overflow_cast-given : goal.decide-overflow_cast-given
decide-overflow_cast-given t c =
    let inv = c.loop-next.invariant in
    omega (arith, in_range_facts _ (is-running (decided_turn inv.going inv.none inv.more c.decided.ensures.run)).ranged)

pub decide-passed-next-requires : goal.decide-passed-next-requires
decide-passed-next-requires t c = let inv = c.loop-next.invariant in is-running (decided_turn inv.going inv.none inv.more c.decided.ensures.run)

-- one action on, and fewer remain
pub decide-loop-next-smaller : goal.decide-loop-next-smaller
decide-loop-next-smaller t c =
    let inv = c.loop-next.invariant in
    turn_less (decided_turn inv.going inv.none inv.more c.decided.ensures.run) c.passed-next.ensures

pub decide-loop-next-preserved : goal.decide-loop-next-preserved
decide-loop-next-preserved t c =
    let inv = c.loop-next.invariant in
    let going = turn_on (decided_turn inv.going inv.none inv.more c.decided.ensures.run) c.passed-next.ensures _ refl in
    record { going = going; none = omega arith; more = omega (arith, in_range_facts _ going.ready.ranged) }

-- ---- the turns done: `coast` is called at the position reached

pub decide-coast-requires : goal.decide-coast-requires
decide-coast-requires t c =
    let inv = c.loop-next.invariant in
    let turn = decided_turn inv.going inv.none inv.more c.decided.ensures.run in
    (omega (arith, c.decreases, inv.going.fewer, turn_less turn c.passed-next.ensures), (turn_on turn c.passed-next.ensures _ refl).ready)

pub decide-returns : goal.decide-returns
decide-returns t c =
    let inv = c.loop-next.invariant in
    (turn_on (decided_turn inv.going inv.none inv.more c.decided.ensures.run) c.passed-next.ensures _ refl).rest c.coast.ensures
