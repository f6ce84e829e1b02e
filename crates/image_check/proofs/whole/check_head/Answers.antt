use native.Mathlib.Omega.{arith}
use mathlib.Core.Logic.{inl, inr}
use mathlib.Core.Path.{refl}
use Rattle.rules.specs.Image.{profile}
use Rattle.rules.specs.Refusals.{Version, Count}
use Rattle.image_fields.proofs.Faults.{denied}
use Rattle.image_check.proofs.Checks.{count-is, length-is}
use Rattle.image_check.proofs.whole.check_head.Goals as goal
use Rattle.image_check.proofs.whole.check_head.Goals.{Else-head-ne-FIRST_VERSION, Else-count_out}

not_version : (c : Else-head-ne-FIRST_VERSION) → Version c.args.image.now → ⊥
not_version c h = h (omega arith)

not_count : (c : Else-count_out) → Count (profile c.args.image.now) → ⊥
not_count c h = denied c.count_out.ensures c.if-count_out.false ((count-is c.requires).1 h)

pub returns-then-count_out : goal.returns-then-count_out
returns-then-count_out c =
    inr (not_version (goal.at.returns-then-count_out c).Else-head-ne-FIRST_VERSION, inl ((count-is c.requires).0 (c.count_out.ensures.0 c.if-count_out.true), refl))

pub returns-then-image-record_at : goal.returns-then-image-record_at
returns-then-image-record_at c =
    let e = length-is c.requires c.record_at.ensures in
    inr (not_version (goal.at.returns-then-image-record_at c).Else-head-ne-FIRST_VERSION, inr (not_count (goal.at.returns-then-image-record_at c).Else-count_out, inl ((λ h. omega arith), refl)))

pub returns : goal.returns
returns c =
    let e = length-is c.requires c.record_at.ensures in
    inr (not_version (goal.at.returns c).Else-head-ne-FIRST_VERSION, inr (not_count (goal.at.returns c).Else-count_out, inr ((λ h. h (omega arith)), refl)))
