use mathlib.Core.List.{◌∷◌}
use mathlib.Core.Logic.{inr}
use native.Mathlib.Omega.{arith}
use lib.Dec.{lit<}
use Rattle.rules.specs.Numbers.{refused_short}
use Rattle.rules.specs.Refusals.{◌when◌, Short, loop_checks}
use Rattle.rules.proofs.Reasons.{some_number, handed_up}
use Rattle.rules.proofs.Refusals.{blameless, refuses_on, refuses-stops}
use Rattle.image_check.specs.Checks.{head_checks, rest_checks, BodyAnswers}
use Rattle.image_check.proofs.Checks.{head_numbered, opened}
use Rattle.image_check.proofs.Answers.{refused_body, body_on}
use Rattle.image_check.proofs.whole.checked_body.Goals as goal
use Rattle.image_check.proofs.whole.checked_body.Goals.{Else-image-lt-HEADER_BYTES}

not_short : (c : Else-image-lt-HEADER_BYTES) → Short c.args.image.now → ⊥
not_short c h = omega arith

pub returns-in_err-check_head : goal.returns-in_err-check_head
returns-in_err-check_head c =
    let s = c.args.image.now in
    let head = blameless (head_checks s) _ ((λ a z. z), ((λ a z. z), ((λ a z. z), tt))) c.in_err-check_head.ensures in
    let given = refuses_on (not_short (goal.at.returns-in_err-check_head c).Else-image-lt-HEADER_BYTES) (refuses-stops (head_checks s) (rest_checks s) _ head (some_number _)) in
    handed_up (BodyAnswers (loop_checks s) s) c.from_residual.result c.from_residual.ensures.1 (λ b e. refused_body b (rw (e.0, e.1) given))

pub checked_records-requires : goal.checked_records-requires
checked_records-requires c = opened c.header-head.ensures c.in_ok-check_head.ensures

pub returns : goal.returns
returns c =
    let s = c.args.image.now in
    body_on (refused_short when Short s ∷ head_checks s) (rest_checks s) _ (lit< tt, head_numbered s)
    (inr (not_short (goal.at.returns c).Else-image-lt-HEADER_BYTES, c.in_ok-check_head.ensures)) c.checked_records.ensures
