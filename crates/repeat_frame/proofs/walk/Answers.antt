-- Before a turn the positions below it are given and ended. Assumes nothing.
use Prim.Native.Nat.{◌<◌}
use mathlib.Core.Path.{◌≡◌, ap, ap₂, ◌∙◌}
use mathlib.Core.List.{[]}
use native.Mathlib.Numerals.{add-one}
use native.Mathlib.Omega.{arith}
use borrow.Author.Rules.{rules}
use Rattle.rules.specs.Numbers.{longest_coast}
use Rattle.rules.specs.Words.{one_if}
use Rattle.rules.specs.Run.{Run, decides, given}
use Rattle.rules.specs.Dry.{before}
use Rattle.rules.specs.Repeat.{LentBody, positions, lent_plan}
use Rattle.rules.specs.declared.Body.{Body}
use Rattle.fields.proofs.Cats.{cat-none}
use Rattle.fields.proofs.Tabs.{tab-more}
use Rattle.run.proofs.Ranges.{mark-number}
use Rattle.repeat_run.specs.Calls.{steps_of}
use Rattle.repeat_frame.specs.Walk.{MayPass, walk_at}
use Rattle.repeat_frame.proofs.Walking.{may_decide, may_pass, next_is, level_is}
use Rattle.repeat_frame.proofs.walk.Goals as goal
use Rattle.repeat_frame.proofs.walk.Goals.{In-loop-at, After-asked-turn}

-- ---- a turn

below : (c : In-loop-at) → c.loop-at.at < positions c.args.body
below c = omega (arith, c.loop-at-test.true)

-- the action given
module _ (c : After-asked-turn) where
  abbrev lent : LentBody
  lent = record { order = []; summaries = c.args.summaries.now; worst = c.args.worst.now }

  turn_is : let a = c.args in
      steps_of c.asked-turn.result ≡ given longest_coast (lent_plan a.body lent) (walk_at a.body lent a.durations.now c.loop-at.at)
  turn_is =
      c.asked-turn.ensures.1
      ∙ ap₂ (λ (x : Body) (r : Run). given longest_coast (lent_plan x lent) r) c.loop-at.invariant.2 c.loop-at.invariant.3

  turn_body : c.asked-turn.result.body ≡ c.args.body
  turn_body = c.asked-turn.ensures.0 ∙ c.loop-at.invariant.2

  passes : let a = c.args in MayPass c.asked-turn.result.body a.worst.now a.durations.now (steps_of c.asked-turn.result)
  passes = may_pass c.requires turn_body c.loop-at.at (omega (arith, c.loop-at-test.true)) turn_is

pub loop-at-init : goal.loop-at-init
unfolding before lent_plan
loop-at-init c = (search rules, search rules, c.begun-run.ensures.0, c.begun-run.ensures.1, cat-none _ _ _, cat-none _ _ _)

pub asked-turn-requires : goal.asked-turn-requires
asked-turn-requires c =
    may_decide c.requires c.loop-at.invariant.2 c.loop-at.at (below (goal.at.asked-turn-requires c).In-loop-at) c.loop-at.invariant.3

pub overflow_cast-given : goal.overflow_cast-given
overflow_cast-given c = let p = passes (goal.at.overflow_cast-given c).After-asked-turn in omega (arith, p.level, p.counts.few_levels)

pub passed-run-requires : goal.passed-run-requires
passed-run-requires c = passes (goal.at.passed-run-requires c).After-asked-turn

pub loop-at-preserved : goal.loop-at-preserved
unfolding decides
loop-at-preserved c =
    let turn = (goal.at.loop-at-preserved c).After-asked-turn in
    let a = c.args in
    let l = c.loop-at in
    let here = below (goal.at.loop-at-preserved c).In-loop-at in (
      search rules,
      search rules,
      c.passed-run.ensures.0 ∙ turn_body turn,
      rw (add-one l.at) (next_is a.body (lent turn) a.durations.now l.at (turn_body turn) (turn_is turn) c.passed-run.ensures.1),
      tab-more _ _ 0 l.at l.at (omega (arith, here, c.requires.gives)) (omega arith) l.invariant.0
          (level_is a.body (lent turn) a.durations.now l.at (turn_is turn)) l.invariant.4,
      tab-more _ _ 0 l.at l.at (omega (arith, here, c.requires.marked)) (omega arith) l.invariant.1
          (c.from.ensures ∙ (mark-number _).0 ∙ ap (λ (r : Run). one_if (decides r)) l.invariant.3) l.invariant.5,
    )
