-- Refused, absent, or the cycle less what it must have room for. Assumes nothing.
use mathlib.Core.Path.{◌≡◌, ◌∙◌}
use mathlib.Core.List.{[]}
use native.Mathlib.Omega.{arith}
use Rattle.std.proofs.lemmas.Result.{err_from_is_err_and}
use Rattle.rules.specs.Repeat.{LentBody, body_bound_refusal}
use Rattle.rules.proofs.Reasons.{some_number}
use Rattle.repeat_laws.proofs.Standing.{place_in, fewer, rest-left}
use Rattle.repeat_limits.proofs.Refusing.{products, Bounded, bound-bounded}
use Rattle.repeat_limits.proofs.Answers.{bound-refused, absent-is, present-is, bound_answered}
use Rattle.repeat_limits.proofs.Rooms.{kept}
use Rattle.repeat_limits.proofs.bound.Goals as goal
use Rattle.repeat_limits.proofs.bound.Goals.{In_ok-bound_refusal}

-- not refused
module _ (c : In_ok-bound_refusal) where
  abbrev lent : LentBody
  lent = record { order = []; summaries = c.args.summaries.now; worst = c.args.worst.now }

  clear : let a = c.args in 0 ≡ body_bound_refusal a.body lent a.position a.level a.length
  clear = c.in_ok-bound_refusal.ensures

  bounded : let a = c.args in Bounded a.body lent a.position a.level a.length
  bounded = bound-bounded _ _ _ _ _ clear

pub returns-in_err-bound_refusal : goal.returns-in_err-bound_refusal
returns-in_err-bound_refusal c =
    let p = err_from_is_err_and c.from_residual.result c.from_residual.ensures.1 in
    rw (p.1, p.2) (bound-refused _ _ _ _ _ _ (some_number _) c.in_err-bound_refusal.ensures)

pub overflow_mul-body : goal.overflow_mul-body
overflow_mul-body c = omega (arith, (products (bounded (goal.at.overflow_mul-body c).In_ok-bound_refusal).stands.counts).total)

pub overflow_sub-body : goal.overflow_sub-body
overflow_sub-body c = omega (arith, (bounded (goal.at.overflow_sub-body c).In_ok-bound_refusal).stands.present)

pub returns-then-body-position : goal.returns-then-body-position
returns-then-body-position c =
    let e = (goal.at.returns-then-body-position c).In_ok-bound_refusal in
    let a = c.args in
    let h = bounded e in
    bound_answered a.body (lent e) a.position a.level a.length _ h.stands.level h.some (clear e)
    (absent-is a.body (lent e) a.position a.level a.length (omega (arith, h.some, c.if-body-position.true)))

pub spot_of-spot-requires : goal.spot_of-spot-requires
spot_of-spot-requires c = let h = (bounded (goal.at.spot_of-spot-requires c).In_ok-bound_refusal).stands in (h.counts, h.present)

pub least_reach-most-requires : goal.least_reach-most-requires
least_reach-most-requires c =
    let h = bounded (goal.at.least_reach-most-requires c).In_ok-bound_refusal in
    let n = h.stands.counts.some_action in
    let at = c.spot_of-spot.ensures in
    record {
      spans = record {
        counts = h.stands.counts;
        summed = h.stands.summed;
        inside = place_in n at;
        fewer = fewer n at;
        level = h.stands.level;
        some = h.some;
        most = h.most;
        room = omega (arith, rest-left n at, c.if-body-position.false);
      };
      timed = h.timed;
    }

pub returns : goal.returns
returns c =
    let e = (goal.at.returns c).In_ok-bound_refusal in
    let r = c.least_reach-most in
    let a = c.args in
    let h = bounded e in
    rw (kept a.body.cycle r.result (rw c.from.ensures at c.less.ensures) (omega arith) (omega (arith, r.ensures.small)))
    (bound_answered a.body (lent e) a.position a.level a.length _ h.stands.level h.some (clear e)
    (r.ensures.is a.position c.spot_of-spot.ensures
    ∙ present-is a.body (lent e) a.position a.level a.length c.if-body-position.false))
