-- Assumes nothing.
use mathlib.Core.Path.{◌≡◌, ap, ◌∙◌}
use Prim.Native.Nat.{ℕ, ◌+◌, ◌-◌}
use native.Mathlib.Nat.{add_comm}
use native.Mathlib.Omega.{arith}
use borrow.Author.Rules.{rules}
use Rattle.profile.proofs.Parts.{placed-within, placed-part}
use Rattle.profile.proofs.lookup.Goals as goal

pub overflow_add-result : goal.overflow_add-result
overflow_add-result c =
    let w = placed-within _ c.args.action c.in-Ok.ensures in
    search (rules, w)

pub slice_bounds-result-end : goal.slice_bounds-result-end
slice_bounds-result-end c =
    let w = placed-within _ c.args.action c.in-Ok.ensures in
    omega arith

pub returns-in-Ok : goal.returns-in-Ok
returns-in-Ok c =
    let at = c.in-Ok.ensures in
    let whole = c.args.image.ref_ptr in
    let size : c.in-Ok.part.start + c.in-Ok.part.length - c.in-Ok.part.start ≡ c.in-Ok.part.length = omega arith in record {
      refusal = 0;
      given = at.given.number;
      is = rw size (placed-part _ _ at);
      lies = ap (λ (offset : ℕ). (whole.0, offset)) (add_comm _ _ ∙ ap (λ (from : ℕ). whole.1 + from) at.start);
    }
