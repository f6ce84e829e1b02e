-- Assumes nothing.
use mathlib.Core.Path.{◌≡◌, ap, ◌∙◌}
use mathlib.Core.List.{List}
use Prim.Native.Nat.{ℕ, ◌-◌}
use native.Mathlib.Omega.{arith}
use Rattle.std.proofs.lemmas.Result.{err_from_is_err_and}
use Rattle.rules.specs.Image.{record_at, record_bytes, profile, levels}
use Rattle.image_fields.specs.Reading.{HasRecord}
use Rattle.profile.proofs.Parts.{Named, named, has_named, not_short, record_next, refused-places}
use Rattle.profile.proofs.lookup_place.Goals as goal
use Rattle.profile.proofs.lookup_place.Goals.{In_ok-lookup_refusal}

-- without a refusal the action is there
there : (c : In_ok-lookup_refusal) → Named c.args.image.now c.args.action
there c = named _ _ c.in_ok-lookup_refusal.ensures.number

-- and its record, by the levels that the header says
has : {s : List ℕ} {a : ℕ} (L : ℕ) → Named s a → L ≡ levels s → HasRecord s L a
unfolding profile
has L x e = rw e (has_named x)

pub returns-in_err-lookup_refusal : goal.returns-in_err-lookup_refusal
returns-in_err-lookup_refusal c =
    let p = err_from_is_err_and c.from_residual.result c.from_residual.ensures.1 in
    rw (p.1, p.2) (refused-places c.in_err-lookup_refusal.field-0.0 c.in_err-lookup_refusal.ensures)

pub header-levels-requires : goal.header-levels-requires
header-levels-requires c = not_short (there (goal.at.header-levels-requires c).In_ok-lookup_refusal).sound

pub overflow_add-next : goal.overflow_add-next
overflow_add-next c =
    let h = has _ (there (goal.at.overflow_add-next c).In_ok-lookup_refusal) c.header-levels.ensures.levels in
    omega arith

pub record_at-start-requires : goal.record_at-start-requires
record_at-start-requires c =
    let h = has _ (there (goal.at.record_at-start-requires c).In_ok-lookup_refusal) c.header-levels.ensures.levels in
    (h.few_levels, omega arith)

pub record_at-end-requires : goal.record_at-end-requires
record_at-end-requires c =
    let h = has _ (there (goal.at.record_at-end-requires c).In_ok-lookup_refusal) c.header-levels.ensures.levels in
    (h.few_levels, omega arith)

pub overflow_sub-result : goal.overflow_sub-result
overflow_sub-result c = omega (arith, record_next c.header-levels.result.levels c.args.action)

pub returns : goal.returns
unfolding profile
returns c =
    let levels = c.header-levels.ensures.levels in
    let size : c.record_at-end.result - c.record_at-start.result ≡ record_bytes c.header-levels.result.levels =
    omega (arith, record_next c.header-levels.result.levels c.args.action) in
    record {
      given = c.in_ok-lookup_refusal.ensures;
      start = c.record_at-start.ensures ∙ ap (λ (L : ℕ). record_at L c.args.action) levels;
      length = size ∙ ap record_bytes levels;
    }
