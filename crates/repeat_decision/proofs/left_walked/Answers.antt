-- The coast goes on body by body, from whichever position stands at the place. Assumes nothing.
use Prim.Native.Nat.{ℕ, ◌+◌, ◌-◌, ◌*◌, ◌≤◌, ◌<◌, min}
use mathlib.Core.Path.{◌≡◌}
use native.Mathlib.Nat.{mul-le-mul}
use native.Mathlib.Omega.{arith}
use lib.ListN.{get_or}
use mir.Syntax.{w32}
use mir.Val.{Fits}
use Rattle.rules.specs.Numbers.{most_levels, longest_coast}
use Rattle.rules.specs.Repeat.{LentBody}
use Rattle.rules.specs.declared.Body.{Body}
use Rattle.repeat_decision.specs.Decision.{most_cells, MayGrant, Walks}
use Rattle.repeat_decision.specs.declared.Fit.{Fit}
use Rattle.repeat_decision.proofs.Going.{row}
use Rattle.repeat_decision.proofs.Coasts.{stop_from, Setting, Looking, coast_moved, first-near, first-coast, may_turn, looking, may_walk, stops_at, again, ended}
use Rattle.repeat_decision.proofs.left_walked.Goals as goal
use Rattle.repeat_decision.proofs.left_walked.Goals.{After-in_body-here, After-along-here}

-- ---- before the loop

module _ {b : Body} {T : LentBody} {place after longest t : ℕ} {f : Fit} (h : MayGrant b T place after f t)
    (long : longest ≡ min longest_coast (after * b.n + (b.n - place))) where
  -- what stays
  setting : ((k : ℕ) → Fits w32 (get_or T.summaries k 0)) → ((k : ℕ) → Fits w32 (get_or T.worst k 0))
      → Setting b T place after t f.level (longest - 1)
  setting numbers times = record {
    summarised = h.summarised;
    timed = h.timed;
    level = h.level;
    early = h.early;
    few_numbers = λ k. omega (arith, numbers k);
    few_times = λ k. omega (arith, times k);
    end_is = omega (arith, long, h.summarised.inside);
  }

  -- the entry of the decision
  first-in : place * b.levels + f.level < b.n * b.levels
  first-in = omega (arith, row h.summarised, h.level)

  few-cells : (b.n * b.levels ≤ most_cells) × (b.levels ≤ most_levels)
  few-cells = let counts = h.summarised.counts in (mul-le-mul counts.few counts.few_levels, counts.few_levels)

pub onward-here-requires : goal.onward-here-requires
onward-here-requires c =
    let h = c.requires in
    let S = setting h.0 h.1 c.type_inv.summaries c.type_inv.worst in
    let cells = few-cells h.0 h.1 in
    (cells.1, omega (arith, first-in h.0 h.1, cells), omega arith, first-near S h.0.rooms.own c.room_above-above.ensures _ (S.few_times _))

pub loop-here-init : goal.loop-here-init
loop-here-init c =
    let h = c.requires in
    let S = setting h.0 h.1 c.type_inv.summaries c.type_inv.worst in
    (S, coast_moved S c.onward-here.ensures (first-coast S h.0.rooms.own c.room_above-above.ensures h.0.fits h.0.none_above))

-- ---- in the loop

pub in_body-here-requires : goal.in_body-here-requires
in_body-here-requires c = let l = c.loop-here.invariant in may_turn l.0 l.1 c.loop-here-test.true

looked : (c : After-in_body-here) → Looking c.loop-here.invariant.0 c.in_body-here.result × (c.in_body-here.result.rest ≡ c.loop-here.here.rest)
looked c = let l = c.loop-here.invariant in looking l.0 l.1 c.loop-here-test.true c.in_body-here.ensures

pub along-here-requires : goal.along-here-requires
along-here-requires c =
    rw c.min-stop.ensures (may_walk c.loop-here.invariant.0 (looked (goal.at.along-here-requires c).After-in_body-here).0)

-- where the walk ends
walk : (c : After-along-here) → let a = c.args in let r = c.in_body-here.result in
    Walks a.body a.summaries.now a.worst.now r (stop_from a.body r a.fit.level) a.fit.level c.along-here.result
walk c = rw c.min-stop.ensures at c.along-here.ensures

pub returns-then-here-stop : goal.returns-then-here-stop
returns-then-here-stop c x s =
    let S = c.loop-here.invariant.0 in
    let L = (looked (goal.at.returns-then-here-stop c).After-in_body-here).0 in
    stops_at S L (walk (goal.at.returns-then-here-stop c).After-along-here) (omega (arith, c.if-here-stop.true, c.min-stop.ensures)) x s

pub loop-here-preserved : goal.loop-here-preserved
loop-here-preserved c =
    let S = c.loop-here.invariant.0 in
    let L = (looked (goal.at.loop-here-preserved c).After-in_body-here).0 in
    (S, (again S L (walk (goal.at.loop-here-preserved c).After-along-here) (omega (arith, c.if-here-stop.false, c.min-stop.ensures))).0)

-- ---- after it

pub returns : goal.returns
returns c x s = let l = c.loop-here.invariant in ended l.0 l.1 (omega (arith, c.loop-here-test.false)) x s
