-- So many places passed, at each of which the coast goes on. Assumes nothing.
use Prim.Native.Nat.{ℕ, suc, ◌+◌, ◌*◌, ◌≤◌, ◌<◌}
use mathlib.Core.Path.{◌≡◌, sym, ap, ◌∙◌}
use mathlib.Core.Bool.{false}
use native.Mathlib.Decide.{dec_lt}
use native.Mathlib.Nat.{mul-le-mul_right}
use native.Mathlib.Omega.{arith}
use lib.ListN.{get_or}
use Rattle.rules.specs.Words.{sum}
use Rattle.repeat_limits.specs.Limits.{most_entry, narrowed_by, Near}
use Rattle.repeat_limits.proofs.Rooms.{same-near, narrowed_both}
use Rattle.repeat_decision.specs.Decision.{onward_by, stops_there, walked}
use Rattle.repeat_decision.specs.declared.Reached.{Reached}
use Rattle.repeat_decision.proofs.Walking.{rows-below, sum-few, walked_none, walked_more, InRow, in_row}
use Rattle.repeat_decision.proofs.along.Goals as goal
use Rattle.repeat_decision.proofs.along.Goals.{In-loop-here}

-- what holds of each place before one, and there, holds of each up to it
up-to : (P : ℕ → Type 0) (n : ℕ) → ((j : ℕ) → j < n → P j) → P n → (j : ℕ) → j < suc n → P j
up-to P n all here j low = go (dec_lt j n)
  where
    go : Dec (j < n) → P j
    go (yes l) = all j l
    go (no l) = let same : j ≡ n = omega (arith, low, l) in rw same here

-- the place that is looked at is in the body
module _ (c : In-loop-here) where
  entry_is : c.loop-here.here.entry ≡ c.args.from.entry + c.loop-here.invariant.0 * c.args.body.levels
  entry_is = ap (λ (r : Reached). r.entry) c.loop-here.invariant.1

  in_place : c.loop-here.here.entry ≡ (c.requires.place + c.loop-here.invariant.0) * c.args.body.levels + c.args.level
  in_place = omega (arith, entry_is, c.requires.entry_is)

  before_last : c.requires.place + c.loop-here.invariant.0 < c.requires.last
  before_last =
      let a = c.args in
      let h = c.requires in
      rows-below a.body.levels a.level (h.place + c.loop-here.invariant.0) h.last (omega (arith, in_place, h.stop_is, c.loop-here-test.true))

  there : c.requires.place + c.loop-here.invariant.0 < c.args.body.n
  there = omega (arith, c.requires.inside, before_last)

  enough : 0 < c.loop-here.here.rest
  enough = omega (arith, c.requires.enough, before_last, ap (λ (r : Reached). r.rest) c.loop-here.invariant.1)

  row : InRow c.args.body c.args.level c.loop-here.here.entry
  row = let h = c.requires in in_row h.counts h.level there in_place

  -- the worst times passed, and the one here
  small : (j : ℕ) → get_or c.args.worst.now j 0 ≤ most_entry
  small j = omega (arith, c.type_inv.worst j)

  narrow : Near (narrowed_by c.loop-here.here.own (get_or c.args.worst.now c.loop-here.here.entry 0))
  narrow =
      let a = c.args in
      let h = c.requires in
      let l = c.loop-here.invariant in
      let time : ℕ → ℕ = λ j. get_or a.worst.now (a.from.entry + j * a.body.levels) 0 in
      let rows : suc l.0 * most_entry ≤ a.body.n * most_entry = mul-le-mul_right most_entry (omega (arith, there)) in
      same-near
      (ap (λ (r : Reached). narrowed_by r.own (get_or a.worst.now r.entry 0)) l.1 ∙ narrowed_both a.from.own (sum l.0 time) (time l.0))
      (h.near (sum l.0 time + time l.0) (omega (arith, rows, sum-few time most_entry (λ j. small (a.from.entry + j * a.body.levels)) l.0, small (a.from.entry + l.0 * a.body.levels))))

pub loop-here-init : goal.loop-here-init
loop-here-init c = let a = c.args in (0, walked_none a.body a.worst.now a.from, λ k l. absurd (omega (arith, l)))

pub stops-requires : goal.stops-requires
stops-requires c =
    let h = c.requires in
    let here = row (goal.at.stops-requires c).In-loop-here in
    record {
      level = h.level;
      own = omega (arith, here.low, h.summed);
      above = λ top. omega (arith, here.low_above top, h.summed);
      few = omega (arith, here.low, here.cells);
    }

pub bounds-worst-at : goal.bounds-worst-at
bounds-worst-at c = omega (arith, (row (goal.at.bounds-worst-at c).In-loop-here).low, c.requires.timed)

pub onward-here-requires : goal.onward-here-requires
onward-here-requires c =
    let w = (goal.at.onward-here-requires c).In-loop-here in
    let here = row w in
    (c.requires.counts.few_levels, omega (arith, here.low, here.cells), enough w, narrow w)

pub loop-here-preserved : goal.loop-here-preserved
loop-here-preserved c =
    let a = c.args in
    let l = c.loop-here.invariant in
    let w = (goal.at.loop-here-preserved c).In-loop-here in (
      suc l.0,
      c.onward-here.ensures ∙ ap (λ (r : Reached). onward_by a.body.levels (get_or a.worst.now r.entry 0) r) l.1 ∙ walked_more a.body a.worst.now a.from l.0,
      up-to (λ (k : ℕ). (a.from.entry + k * a.body.levels < a.stop) × (stops_there a.body a.summaries.now (walked a.body a.worst.now a.from k) a.level ≡ false))
          l.0 l.2 (
            omega (arith, entry_is w, c.loop-here-test.true),
            ap (λ (r : Reached). stops_there a.body a.summaries.now r a.level) (sym l.1) ∙ sym c.stops.ensures ∙ c.if-stops.false,
          ),
    )
