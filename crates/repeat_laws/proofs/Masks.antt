-- A mask moved by whole rows: what comes before what in the unrolled system.
use Prim.Native.Nat.{ℕ, suc, ◌+◌, ◌-◌, ◌*◌, ◌/◌, ◌%◌, ◌^◌, ◌≤◌, ◌<◌}
use mathlib.Core.Path.{◌≡◌, ap, sym, subst, ◌∙◌}
use mathlib.Core.Bool.{true, false}
use mathlib.Core.Logic.{◌↔◌}
use native.Mathlib.Nat.{mul-div-mul_right, mul-div_cancel, mul-mod_left, pow-suc, div-add-mod'}
use native.Mathlib.Decide.{dec_le}
use native.Mathlib.Omega.{arith}
use lib.Dec.{eqb}
use lib.Pow.{pow_pos, pow-add}
use Rattle.rules.specs.Words.{one_if}
use Rattle.rules.specs.Image.{Profile, has}
use Rattle.rules.specs.Order.{Before}
use Rattle.repeat_laws.proofs.Repeatable.{Repeatable}
use Rattle.rules.specs.Repeat.{unrolled}
use Rattle.repeat_laws.proofs.Places.{row_of, place_of, place-lt}

-- ---- a set moved by s bits

regroup : (m x y : ℕ) → m * (x * (y * 2)) ≡ m * x * 2 * y
regroup m x y = omega arith

pub has_moved : (m s b : ℕ) → has (m * 2 ^ s) (b + s) ≡ has m b
unfolding has
has_moved m s b =
    ap (λ (x : ℕ). eqb (x % 2) 1) (ap (λ (x : ℕ). m * 2 ^ s / x) (pow-add 2 b s) ∙ mul-div-mul_right m (2 ^ b) (pow_pos s))

pub has-none : (m s b : ℕ) → b < s → has (m * 2 ^ s) b ≡ false
unfolding has
has-none m s b l = ap (λ (x : ℕ). eqb x 1) (ap (λ (x : ℕ). x / 2 ^ b % 2) whole ∙ ap (λ (x : ℕ). x % 2) (mul-div_cancel (m * 2 ^ (s - suc b) * 2) (pow_pos b)) ∙ mul-mod_left (m * 2 ^ (s - suc b)) 2)
  where
    whole : m * 2 ^ s ≡ m * 2 ^ (s - suc b) * 2 * 2 ^ b
    whole =
        let e : s ≡ s - suc b + suc b = omega arith in
        ap (λ (x : ℕ). m * 2 ^ x) e ∙ ap (λ (x : ℕ). m * x) (pow-add 2 (s - suc b) (suc b) ∙ ap (λ (x : ℕ). 2 ^ (s - suc b) * x) (pow-suc 2 b))
        ∙ regroup m (2 ^ (s - suc b)) (2 ^ b)

-- ---- what comes before what

module _ {F : Profile} (body : Repeatable F) (N : ℕ) where
  -- the same repeat, and so in the body
  pub before_there : (y x : ℕ) → Before (unrolled F N) y x → (y / F.n ≡ x / F.n) × Before F (y % F.n) (x % F.n)
  before_there y x h = go (dec_le s y)
    where
      s : ℕ
      s = x / F.n * F.n

      go : Dec (s ≤ y) → (y / F.n ≡ x / F.n) × Before F (y % F.n) (x % F.n)
      go (no l) = let no_such : ⊥ = clash (sym (has-none (F.mask (x % F.n)) s y (omega arith)) ∙ h) in absurd no_such
        where
          clash : false ≡ true → ⊥
          clash e = let odd : ◌≡◌ {A = ℕ} 0 1 = ap one_if e in omega arith
      go (yes l) =
          let b : ℕ = y - s in
          let here : y ≡ b + s = omega arith in
          let has-b : has (F.mask (x % F.n)) b ≡ true = sym (has_moved (F.mask (x % F.n)) s b) ∙ subst (λ (z : ℕ). has (F.mask (x % F.n) * 2 ^ s) z ≡ true) here h in
          let small : b < F.n = body.within (x % F.n) b (place-lt body.some x) has-b in
          let at : y ≡ x / F.n * F.n + b = omega arith in (
            ap (λ (z : ℕ). z / F.n) at ∙ row_of body.some (x / F.n) small,
            subst (λ (z : ℕ). has (F.mask (x % F.n)) z ≡ true) (sym (ap (λ (z : ℕ). z % F.n) at ∙ place_of body.some (x / F.n) small)) has-b,
          )

  pub before_back : (y x : ℕ) → y / F.n ≡ x / F.n → Before F (y % F.n) (x % F.n) → Before (unrolled F N) y x
  before_back y x e h =
      let at : y ≡ y % F.n + x / F.n * F.n = omega (arith, div-add-mod' y F.n, ap (λ (z : ℕ). z * F.n) e) in
      subst (λ (z : ℕ). has (F.mask (x % F.n) * 2 ^ (x / F.n * F.n)) z ≡ true) (sym at) (has_moved (F.mask (x % F.n)) (x / F.n * F.n) (y % F.n) ∙ h)

  -- b comes before a in the unrolled system exactly if both are of one repeat and b comes before a in the body.
  pub before-exact : (y x : ℕ) → Before (unrolled F N) y x ↔ ((y / F.n ≡ x / F.n) × Before F (y % F.n) (x % F.n))
  before-exact y x = (before_there y x, λ h. before_back y x h.0 h.1)
