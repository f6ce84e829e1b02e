-- Assumes nothing.
use mathlib.Core.List.{List}
use Prim.Native.Nat.{ℕ, ◌≤◌}
use native.Mathlib.Omega.{arith}
use Rattle.std.proofs.lemmas.Result.{err_from_is_err_and}
use Rattle.rules.specs.Numbers.{refused_name}
use Rattle.rules.specs.Image.{profile}
use Rattle.rules.specs.Reasons.{fault_of}
use Rattle.rules.proofs.Reasons.{some_number}
use Rattle.profile.proofs.Answers.{image-refusal, own-refusal, none-refused}
use Rattle.profile.proofs.lookup_refusal.Goals as goal

-- the call's own ground
abbrev Absent : List ℕ → ℕ → Type 0
Absent s a = (profile s).n ≤ a

pub returns-in_err-checked : goal.returns-in_err-checked
returns-in_err-checked c =
    let p = err_from_is_err_and c.from_residual.result c.from_residual.ensures.1 in
    let blame = c.in_err-checked.field-0.0 in
    rw (p.1, p.2)
    (image-refusal c.args.image.now refused_name (Absent c.args.image.now c.args.action) (fault_of blame) c.in_err-checked.ensures.given (some_number blame.reason))

pub returns-then-checked-action : goal.returns-then-checked-action
returns-then-checked-action c =
    let judged = c.in_ok-checked.ensures in
    rw (c.from.ensures.0, c.from.ensures.1)
    (own-refusal c.args.image.now refused_name (Absent c.args.image.now c.args.action) judged.given.number
    (omega (arith, c.if-checked-action.true, judged.accepted.n)))

pub returns : goal.returns
returns c =
    let judged = c.in_ok-checked.ensures in
    let n = judged.accepted.n in
    none-refused c.args.image.now refused_name (Absent c.args.image.now c.args.action) judged.given (λ h. omega arith)
