-- What the three reads of the tables give is a decision of the rules. Assumes nothing.
use native.Mathlib.Omega.{arith}
use Rattle.run.specs.Calls.{run_of}
use Rattle.run.proofs.Turns.{opened, level-low, none_above, decided-is}
use Rattle.run.proofs.Run.decided.Goals as goal

pub overflow_add-from : goal.overflow_add-from
overflow_add-from c = let o = c.requires in omega (arith, opened o, level-low o _ _ c.last_within-level.ensures)

pub within-late-requires : goal.within-late-requires
within-late-requires c = let o = c.requires in omega (arith, opened o, level-low o _ _ c.last_within-level.ensures)

pub overflow_cast-run : goal.overflow_cast-run
overflow_cast-run c =
    let o = c.requires in
    omega (arith, (opened o).ranges.few_levels, level-low o _ _ c.last_within-level.ensures)

pub overflow_add-run : goal.overflow_add-run
overflow_add-run c = let o = c.requires in omega (arith, (opened o).counted, (opened o).ranges)

pub left_granted-left-requires-clause-cell : goal.left_granted-left-requires-clause-cell
left_granted-left-requires-clause-cell c =
    let o = c.requires in
    record {
      few = (opened o).ranges.few;
      few_levels = (opened o).ranges.few_levels;
      position = o.more;
      level = level-low o _ _ c.last_within-level.ensures;
      limited = o.limited;
      bounded = o.bounded;
    }

pub left_granted-left-requires-clause-pos_value : goal.left_granted-left-requires-clause-pos_value
left_granted-left-requires-clause-pos_value c = none_above _ _ _ c.last_within-level.ensures

pub returns-clause-run : goal.returns-clause-run
returns-clause-run c =
    (decided-is _ (run_of c.args.self) _ _ _ c.last_within-level.ensures c.within-late.ensures c.left_granted-left.ensures).0

pub returns-clause-late : goal.returns-clause-late
returns-clause-late c =
    (decided-is _ (run_of c.args.self) _ _ _ c.last_within-level.ensures c.within-late.ensures c.left_granted-left.ensures).1
