-- The first k positions are walked, from whichever position stands there. Assumes nothing.
use Prim.Native.Nat.{suc, ◌+◌, ◌-◌, ◌*◌, ◌≤◌, ◌<◌}
use mathlib.Core.Path.{◌≡◌}
use mathlib.Core.List.{[]}
use native.Mathlib.Nat.{mul-le-mul_right}
use native.Mathlib.Omega.{arith}
use lib.ListN.{get_or}
use Rattle.rules.specs.Repeat.{LentBody, positions}
use Rattle.repeat_laws.specs.Standing.{Standing}
use Rattle.repeat_limits.specs.Limits.{Summed}
use Rattle.repeat_limits.proofs.Sizes.{joined, before_there}
use Rattle.repeat_limits.proofs.Refusing.{Entry}
use Rattle.repeat_limits.proofs.Reaching.{Reaching, reaching_one, reaching_more, reaching_all, from-stands, summed_there, entry_there, more_there, room_left}
use Rattle.repeat_limits.proofs.reach.Goals as goal
use Rattle.repeat_limits.proofs.reach.Goals.{In-loop-k, After-next_spot-spot}

-- ---- the places of the code

module _ (c : In-loop-k) where
  abbrev lent : LentBody
  lent = record { order = []; summaries = c.args.summaries.now; worst = c.args.worst.now }

  -- from the position that stands there: where the last one walked to stands, and that one more follows
  walked : let a = c.args in let l = c.loop-k in
      Reaching a.body lent ((a.body.repeats - 1 - a.after) * a.body.n + a.place) a.level l._k l.spot.place l.spot.after l.spent l.most
  walked = c.loop-k.invariant.2 _ (from-stands c.requires.spans)

  follows : let a = c.args in suc ((a.body.repeats - 1 - a.after) * a.body.n + a.place + (c.loop-k._k - 1)) < positions a.body
  follows = omega (arith, room_left c.requires.spans (from-stands c.requires.spans), walked.some, c.loop-k-test.true)

  -- the entry read, and the worst time read there
  entry : Entry c.args.body c.loop-k.spot.place c.args.level
  entry = entry_there c.requires.spans walked.stands

  -- at most sixteen positions
  few : c.loop-k._k * 4294967295 ≤ 15 * 4294967295
  few = let l : c.loop-k._k ≤ 15 = omega (arith, c.requires.spans.most, c.loop-k-test.true) in mul-le-mul_right 4294967295 l

  -- the worst times added
  passed : let a = c.args in
      c.loop-k.spent + get_or a.worst.now (c.loop-k.spot.place * a.body.levels + a.level) 0 ≤ c.loop-k._k * 4294967295
  passed =
      let a = c.args in
      omega (arith, c.type_inv.worst (c.loop-k.spot.place * a.body.levels + a.level), c.loop-k.invariant.0, walked.some)

-- where the next one stands
module _ (c : After-next_spot-spot) where
  next-stands : let a = c.args in
      Standing a.body (suc ((a.body.repeats - 1 - a.after) * a.body.n + a.place + (c.loop-k._k - 1)))
      c.next_spot-spot.result.place c.next_spot-spot.result.after
  next-stands = c.next_spot-spot.ensures.stands _ (c.loop-k.invariant.2 _ (from-stands c.requires.spans)).stands
      (omega (arith, room_left c.requires.spans (from-stands c.requires.spans), (c.loop-k.invariant.2 _ (from-stands c.requires.spans)).some, c.loop-k-test.true))

  next-entry : Entry c.args.body c.next_spot-spot.result.place c.args.level
  next-entry = entry_there c.requires.spans next-stands

  -- what stands there is summed up
  next-summed : let a = c.args in
      Summed a.summaries.now (c.next_spot-spot.result.place * a.body.levels + a.level) a.level c.next_spot-spot.result.after
  next-summed = summed_there c.requires.spans next-stands

-- ---- what is asked on the way

pub loop-k-init : goal.loop-k-init
loop-k-init c =
    let a = c.args in
    let later = c.bodies_after-later.ensures in (
      omega arith,
      omega (arith, c.mix_before-most.ensures.small),
      (λ i h. reaching_one _ _ i _ h (joined (a.place * a.body.levels + a.level) later c.mix_before-most.ensures.mixed)),
      later,
    )

pub overflow_mul-spent : goal.overflow_mul-spent
overflow_mul-spent c = omega (arith, entry (goal.at.overflow_mul-spent c).In-loop-k)

pub overflow_add-spent : goal.overflow_add-spent
overflow_add-spent c = omega (arith, entry (goal.at.overflow_add-spent c).In-loop-k, c.requires.spans.level)

pub offset_bounds-worst-spot : goal.offset_bounds-worst-spot
offset_bounds-worst-spot c = omega (arith, entry (goal.at.offset_bounds-worst-spot c).In-loop-k, c.requires.spans.level)

pub bounds-worst-spot : goal.bounds-worst-spot
bounds-worst-spot c = omega (arith, entry (goal.at.bounds-worst-spot c).In-loop-k, c.requires.spans.level, c.requires.timed)

pub next_spot-spot-requires : goal.next_spot-spot-requires
next_spot-spot-requires c =
    let w = (goal.at.next_spot-spot-requires c).In-loop-k in
    more_there c.requires.spans (walked w).stands (follows w)

pub bodies_still-later-requires-clause-summary_numbers_in_bounds : goal.bodies_still-later-requires-clause-summary_numbers_in_bounds
bodies_still-later-requires-clause-summary_numbers_in_bounds c =
    let next = next-summed (goal.at.bodies_still-later-requires-clause-summary_numbers_in_bounds c).After-next_spot-spot in
    (next.whole, next.few)

pub overflow_mul-spot : goal.overflow_mul-spot
overflow_mul-spot c = omega (arith, next-entry (goal.at.overflow_mul-spot c).After-next_spot-spot)

pub overflow_add-spot : goal.overflow_add-spot
overflow_add-spot c = omega (arith, next-entry (goal.at.overflow_add-spot c).After-next_spot-spot, c.requires.spans.level)

pub mix_before-here-requires : goal.mix_before-here-requires
mix_before-here-requires c = before_there _ (next-summed (goal.at.mix_before-here-requires c).After-next_spot-spot) c.bodies_still-later.ensures

pub loop-k-preserved : goal.loop-k-preserved
loop-k-preserved c =
    let w = (goal.at.loop-k-preserved c).In-loop-k in
    let l = c.loop-k in
    let a = c.args in
    let later = c.bodies_still-later.ensures in (
      omega (arith, passed w, (walked w).some),
      omega (arith, passed w, l.invariant.1, (walked w).some, c.mix_before-here.ensures.small, c.max-most.ensures),
      (λ i h.
          let R = l.invariant.2 i h in
          rw (c.max-most.ensures, joined (c.next_spot-spot.result.place * a.body.levels + a.level) later c.mix_before-here.ensures.mixed)
          (reaching_more _ _ i _ R (c.next_spot-spot.ensures.stands _ R.stands (omega (arith, room_left c.requires.spans h, R.some))))),
      later,
    )

pub returns-clause-is : goal.returns-clause-is
returns-clause-is c i h =
    let l = c.loop-k in
    let all : l._k ≡ c.args.length = omega (arith, l.invariant.0, c.loop-k-test.false) in
    reaching_all _ _ i _ c.args.length (l.invariant.2 i h) all
