-- Refused, decided or coasted. Assumes nothing.
use Prim.Native.Nat.{ℕ, ◌+◌, ◌-◌, ◌≤◌}
use mathlib.Core.Path.{◌≡◌, refl, ap, sym, ◌∙◌}
use mathlib.Core.Bool.{true}
use native.Mathlib.Nat.{div-add-mod'}
use native.Mathlib.Omega.{arith}
use lib.ListN.{get_or}
use mir.Syntax.{w8, w32}
use mir.Val.{Fits}
use Rattle.rules.specs.Numbers.{most_positions}
use Rattle.rules.specs.Run.{Run, gives}
use Rattle.rules.specs.Repeat.{LentBody, lent_each, lent_plan, action_at, body_ask_refusal, body_ask}
use Rattle.rules.proofs.Reasons.{some_number}
use Rattle.repeat_laws.proofs.Places.{place-lt}
use Rattle.run.proofs.Turns.{asked-refused, asked-decided, asked_coasted}
use Rattle.repeat_run.specs.Calls.{steps_of}
use Rattle.repeat_run.proofs.Ranges.{Askable, askable}
use Rattle.repeat_run.proofs.Turns.{may_choose}
use Rattle.repeat_run.proofs.BodyRun.asks.Goals as goal
use Rattle.repeat_run.proofs.BodyRun.asks.Goals.{In_default, After-spot_of-spot}

-- after the test of the refusal
module _ (c : In_default) where
  abbrev lent : LentBody
  lent = record { order = c.args.order.now; summaries = c.args.summaries.now; worst = c.args.worst.now }

  none : let r = c.args.self in 0 ≡ body_ask_refusal r.body lent (steps_of r)
  none = c.in_default.ensures

  ready : let r = c.args.self in Askable r.body lent (steps_of r)
  ready = askable _ _ _ none refl

-- the action's number in the unrolled system, from where the position stands
action-is : (c : After-spot_of-spot) → let r = c.args.self in let o = c.args.order.now in
    r.position - c.spot_of-spot.result.place + get_or o c.spot_of-spot.result.place 0 ≡ action_at r.body.n o r.position
action-is c =
    let r = c.args.self in
    let o = c.args.order.now in
    let place = c.spot_of-spot.ensures.place_is in
    omega (arith, place, ap (λ (k : ℕ). get_or o k 0) place, div-add-mod' r.position r.body.n)

-- whatever is added to a byte that is no greater than a position
with_byte : {m x : ℕ} → m ≤ most_positions → Fits w8 x → Fits w32 (m + x)
with_byte m few = omega (arith, m, few)

pub returns-in-Err-clause-answer : goal.returns-in-Err-clause-answer
unfolding body_ask
returns-in-Err-clause-answer c =
    let r = c.args.self in
    let e = c.in-Err.ensures in
    c.refused.ensures.1 ∙ rw (sym e) (asked-refused _ (action_at r.body.n c.args.order.now r.position)
    (lent_plan r.body (record { order = c.args.order.now; summaries = c.args.summaries.now; worst = c.args.worst.now })) (steps_of r)
    (some_number _))

pub spot_of-spot-requires : goal.spot_of-spot-requires
spot_of-spot-requires c = let h = ready (goal.at.spot_of-spot-requires c).In_default in (h.ranged.counts, h.may.more)

pub bounds-order-place : goal.bounds-order-place
bounds-order-place c =
    let h = ready (goal.at.bounds-order-place c).In_default in
    omega (arith, c.spot_of-spot.ensures.place_is, place-lt h.ranged.counts.some_action c.args.self.position, h.ordered)

pub overflow_add-action : goal.overflow_add-action
overflow_add-action c =
    let h = ready (goal.at.overflow_add-action c).In_default in
    with_byte (omega (arith, h.ranged.cycle.position, h.ranged.products.total)) (c.type_inv.order _)

pub choose-made-requires : goal.choose-made-requires
choose-made-requires c =
    let h = may_choose (ready (goal.at.choose-made-requires c).In_default).may c.spot_of-spot.ensures in
    record { summarised = h.summarised; timed = h.timed; early = h.early }

pub decided-requires : goal.decided-requires
decided-requires c =
    let h = ready (goal.at.decided-requires c).In_default in
    omega (arith, h.may.counted, h.may.more, h.ranged.products.total)

pub returns-then-self-eq0-clause-answer : goal.returns-then-self-eq0-clause-answer
unfolding body_ask lent_plan lent_each
returns-then-self-eq0-clause-answer c =
    let e = (goal.at.returns-then-self-eq0-clause-answer c).In_default in
    let spot = (goal.at.returns-then-self-eq0-clause-answer c).After-spot_of-spot in
    let r = c.args.self in
    let P = lent_plan r.body (lent e) in
    let C = c.choose-made.ensures _ c.spot_of-spot.ensures in
    let next = c.decided.ensures.1 P C in
    let level = C.level ∙ sym (ap (λ (x : Run). x.level) next) in
    rw (action-is spot) (ap (λ (q : ℕ). gives (action_at r.body.n c.args.order.now r.position) q true c.choose-made.result.late
    (steps_of c.decided.result)) level
    ∙ asked-decided _ (action_at r.body.n c.args.order.now r.position) P (steps_of r) (none e) _ _ c.if-self-eq0.true next C.late)

pub returns-clause-answer : goal.returns-clause-answer
unfolding body_ask
returns-clause-answer c =
    let e = (goal.at.returns-clause-answer c).In_default in
    let spot = (goal.at.returns-clause-answer c).After-spot_of-spot in
    let r = c.args.self in
    rw (action-is spot) (asked_coasted _ (action_at r.body.n c.args.order.now r.position) (lent_plan r.body (lent e)) (steps_of r) (none e)
    _ c.if-self-eq0.false c.coasted.ensures.1)
