-- A decision, and then each turn coasts an action, until the coast is used up. Assumes nothing.
use mathlib.Core.List.{[]}
use native.Mathlib.Omega.{arith}
use Rattle.rules.specs.Recording.{durations}
use Rattle.run.specs.Calls.{run_of}
use Rattle.run.proofs.dry.Readiness.{Turn, decided_turn, coasted_turn, is-running, turn_less}
use Rattle.recording.specs.Cycle.{unwritten}
use Rattle.recording.proofs.Cycling.{going, stretched, stretched_on}
use Rattle.recording.proofs.stretch.Goals as goal
use Rattle.recording.proofs.stretch.Goals.{After-min-lowest}

-- the decision
decides : (c : After-min-lowest)
    → Turn (record { order = []; limits = c.args.limits.now; worst = c.args.worst.now; bounds = c.args.bounds.now }) (durations c.args.frame.now)
    unwritten (run_of c.args.from.run) unwritten (run_of c.args.from.run) (run_of c.decided.result.run) 1
decides c = decided_turn (going c.requires.cycling) c.requires.left_value.0 c.requires.left_value.1 c.decided.ensures.run

pub passed-run-requires : goal.passed-run-requires
passed-run-requires c = is-running (decides (goal.at.passed-run-requires c).After-min-lowest)

-- the coast
pub passed-run-requires-in-loop-run : goal.passed-run-requires-in-loop-run
passed-run-requires-in-loop-run c =
    let turn = decides (goal.at.passed-run-requires-in-loop-run c).After-min-lowest in
    let head = c.loop-run.invariant _ _ _ (stretched c.requires.cycling turn c.passed-run.ensures c.min-lowest.ensures) in
    is-running (coasted_turn (going head.cycling) (omega arith) c.coasted.ensures)

pub loop-run-smaller : goal.loop-run-smaller
loop-run-smaller c =
    let turn = decides (goal.at.loop-run-smaller c).After-min-lowest in
    let head = c.loop-run.invariant _ _ _ (stretched c.requires.cycling turn c.passed-run.ensures c.min-lowest.ensures) in
    turn_less (coasted_turn (going head.cycling) (omega arith) c.coasted.ensures) c.passed-run-in-loop-run.ensures

pub loop-run-preserved : goal.loop-run-preserved
loop-run-preserved c n L r₀ was =
    let turn = decides (goal.at.loop-run-preserved c).After-min-lowest in
    let head = c.loop-run.invariant _ _ _ (stretched c.requires.cycling turn c.passed-run.ensures c.min-lowest.ensures) in
    stretched_on (c.loop-run.invariant n L r₀ was) (coasted_turn (going head.cycling) (omega arith) c.coasted.ensures)
    c.passed-run-in-loop-run.ensures c.coasted.ensures

pub returns-clause-cycling_2 : goal.returns-clause-cycling_2
returns-clause-cycling_2 c =
    let turn = decides (goal.at.returns-clause-cycling_2 c).After-min-lowest in
    (c.loop-run.invariant _ _ _ (stretched c.requires.cycling turn c.passed-run.ensures c.min-lowest.ensures)).cycling

pub returns-clause-left_value_2 : goal.returns-clause-left_value_2
returns-clause-left_value_2 c =
    let turn = decides (goal.at.returns-clause-left_value_2 c).After-min-lowest in
    (omega arith, (c.loop-run.invariant _ _ _ (stretched c.requires.cycling turn c.passed-run.ensures c.min-lowest.ensures)).fewer)
