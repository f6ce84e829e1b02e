-- Refused by the image or by the call itself, or read by the order found. Assumes nothing.
use native.Mathlib.Omega.{arith}
use Rattle.std.proofs.lemmas.Result.{err_from_is_err_and}
use Rattle.rules.proofs.Reasons.{some_number}
use Rattle.speed.proofs.Answers.{image-refused, refused-reads, own-given, readable, read-reads}
use Rattle.speed.proofs.read_speed.Goals as goal

pub returns-in_err-checked : goal.returns-in_err-checked
returns-in_err-checked c =
    let p = err_from_is_err_and c.from_residual.result c.from_residual.ensures.1 in
    rw (p.1, p.2) (image-refused _ _ _ _ _ c.in_err-checked.ensures.given (some_number c.in_err-checked.field-0.0.reason))

pub returns-in_err-own_refusal : goal.returns-in_err-own_refusal
returns-in_err-own_refusal c =
    let p = err_from_is_err_and c.from_residual-in_err-own_refusal.result c.from_residual-in_err-own_refusal.ensures.1 in
    rw (p.1, p.2.0, p.2.1)
    (refused-reads (own-given c.in_ok-checked.ensures _ _ _ _ _ c.in_err-own_refusal.ensures) (some_number c.in_err-own_refusal.field-0.0))

pub stretch-s-requires : goal.stretch-s-requires
stretch-s-requires c = readable c.in_ok-checked.ensures c.in_ok-own_refusal.ensures

pub due_at-deadline-requires : goal.due_at-deadline-requires
due_at-deadline-requires c =
    let r = readable c.in_ok-checked.ensures c.in_ok-own_refusal.ensures in
    (rw c.from.ensures (r.present _ (omega (arith, r.ordered))), c.in_ok-checked.ensures.accepted.cycle)

pub returns : goal.returns
returns c =
    read-reads c.in_ok-checked.ensures c.in_ok-own_refusal.ensures _ _ _ c.stretch-s.ensures.0
    (rw c.from.ensures at c.due_at-deadline.ensures) c.read.ensures
