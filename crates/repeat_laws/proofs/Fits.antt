-- Refusal 9 of the unrolled system: N times the level 0 worst times of the body are above the cycle.
use Prim.Native.Nat.{ℕ, suc, ◌+◌, ◌-◌, ◌*◌, ◌%◌, ◌≤◌, ◌<◌}
use mathlib.Core.Path.{◌≡◌, ap, ◌∙◌}
use mathlib.Core.Logic.{◌↔◌, inl}
use native.Mathlib.Decide.{dec_le}
use native.Mathlib.Omega.{arith}
use Rattle.rules.specs.Words.{sum}
use Rattle.rules.specs.Image.{Profile, due}
use Rattle.rules.specs.Order.{Order, Meets, TheOrder, FitFrom, Fit}
use Rattle.rules.specs.Refusals.{Count, Range, Looped, Unfit}
use Rattle.rules.proofs.Sums.{sum_longer}
use Rattle.rules.proofs.Differences.{not-above}
use Rattle.rules.proofs.Order.OfProfile.{the_order-is, fit_exact}
use Rattle.repeat_laws.proofs.Repeatable.{Repeatable, repeatable}
use Rattle.rules.specs.Repeat.{unrolled, Repeats}
use Rattle.repeat_laws.proofs.Places.{inside}
use Rattle.repeat_laws.proofs.Order.{due-unrolled, repeated, repeated_order}
use Rattle.repeat_laws.proofs.Closed.{worst_moved}
use Rattle.repeat_laws.proofs.Totals.{sum-order, sum_rows}

-- what N repeats take at level 0 worst times
abbrev pub total : Profile → ℕ → ℕ
total F N = N * sum F.n (λ a. F.worst a 0)

module _ {F : Profile} (body : Repeatable F) (N : ℕ) {o : Order F.n} (x : TheOrder F o) where
  -- the level 0 worst times by position
  w : ℕ → ℕ
  w j = F.worst ((repeated body.some N o).at j % F.n) 0

  total-is : sum (N * F.n) w ≡ total F N
  unfolding w
  total-is =
      sum_rows F.n w (λ k. F.worst (o.at k) 0) (λ j a l. worst_moved body N o j a 0 l) N
      ∙ ap (λ (y : ℕ). N * y) (sum-order o (λ a. F.worst a 0))

  meets-total : (t : ℕ) → 0 < N → Meets t (repeated body.some N o) (λ a. (unrolled F N).worst a 0) (due (unrolled F N)) ↔ (t + total F N ≤ F.cycle)
  unfolding w
  meets-total t some = (
    (λ m. let last : suc (N * F.n - 1) ≡ N * F.n = omega (arith, filled) in
        omega (
          arith,
          m (N * F.n - 1) (omega (arith, filled)),
          ap (λ (y : ℕ). sum y w) last,
          due-unrolled body N ((repeated body.some N o).at (N * F.n - 1)),
          total-is,
        )),
    (λ h k l. omega (arith, sum_longer w (suc k) (N * F.n) l, total-is, due-unrolled body N ((repeated body.some N o).at k))),
  )
    where
      filled : 0 < N * F.n
      filled = omega (arith, inside body.some some body.some)

  pub fit_total : (t : ℕ) → 0 < N → FitFrom t (unrolled F N) ↔ (t + total F N ≤ F.cycle)
  fit_total t some =
      let exact = fit_exact (repeated_order body N x) t in
      let meets = meets-total t some in
      ((λ f. meets.0 (exact.1 f)), (λ h. exact.0 (meets.1 h)))

-- Some permitted order of the unrolled system meets the cycle exactly if N times the body's level 0 worst times do.
pub fit_unrolled : {F : Profile} → Repeatable F → (N : ℕ) → 0 < N → (Looped F → ⊥) → Fit (unrolled F N) ↔ (total F N ≤ F.cycle)
fit_unrolled {F} body N some loopless =
    let f = fit_total body N (the_order-is F loopless) 0 some in
    ((λ h. omega (arith, f.0 h)), (λ h. f.1 (omega arith)))

-- 9 of the unrolled system
pub unfit-unrolled : {F : Profile} → Repeatable F → (N : ℕ) → 0 < N → (Looped F → ⊥) → Unfit (unrolled F N) ↔ (F.cycle < total F N)
unfit-unrolled {F} body N some loopless =
    let f = fit_unrolled body N some loopless in
    ((λ h. go h (dec_le (total F N) F.cycle)), (λ h g. omega (arith, f.0 g)))
  where
    go : Unfit (unrolled F N) → Dec (total F N ≤ F.cycle) → F.cycle < total F N
    go h (yes l) = absurd (h ((fit_unrolled body N some loopless).1 l))
    go h (no l) = omega arith

-- Where 3, 6, 8 and 19 are not given, 9 is N times the level 0 worst times above the cycle.
pub unfit-exact : (F : Profile) (N : ℕ) → (Count F → ⊥) → (Range F → ⊥) → (Looped F → ⊥) → (Repeats F N → ⊥)
    → Unfit (unrolled F N) ↔ (F.cycle < total F N)
unfit-exact F N counts range loopless repeats =
    unfit-unrolled (repeatable F N counts range repeats) N (not-above (λ h. repeats (inl (inl h)))) loopless
