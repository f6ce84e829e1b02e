-- The actions one after another at level 0 worst times.
use mathlib.Core.Path.{◌≡◌, refl, sym, ap}
use mathlib.Core.Bool.{true, false}
use mathlib.Core.List.{List}
use Prim.Native.Nat.{ℕ, suc, ◌+◌, ◌*◌, ◌≤◌, ◌<◌}
use native.Mathlib.Nat.{lt_of_lt_of_le, mul-lt-mul_of_pos_right}
use native.Mathlib.Numerals.{add-one}
use native.Mathlib.Omega.{arith}
use lib.ListN.{length, get_or}
use Rattle.rules.specs.Numbers.{longest_time}
use Rattle.rules.specs.Words.{sum}
use Rattle.rules.specs.Image.{Profile, due}
use Rattle.rules.specs.Order.{Order, ends, Meets}
use Rattle.rules.proofs.Sums.{below_suc, sum_same}
use Rattle.rules.proofs.Tests.{not-both}
use Rattle.rules.proofs.Order.OfProfile.{fit_exact}
use Rattle.order.specs.Lent.{Timed}
use Rattle.order.specs.Arranged.{Lists}
use Rattle.order.specs.Judged.{TellsFit}

-- the place of a worst time is in the slice
pub time_there : {n stride : ℕ} {deadlines worst : List ℕ} → Timed n deadlines worst stride → {a : ℕ} → a < n → a * stride < length worst
time_there x l = lt_of_lt_of_le (mul-lt-mul_of_pos_right l x.apart) x.times

module _ (D time : ℕ → ℕ) (l : List ℕ) where
  -- The first k actions of the list end at e, and each meets its deadline.
  pub record Ending (k e : ℕ) : Type 0 where
    pub is : e ≡ sum k (λ j. time (get_or l j 0))
    pub early : e ≤ k * longest_time
    pub met : (j : ℕ) → j < k → sum (suc j) (λ i. time (get_or l i 0)) ≤ D (get_or l j 0)

  -- where the list has an order's actions, they end as the order says
  ends-listed : {n : ℕ} (o : Order n) → Lists l o → (k : ℕ) → k < n → sum (suc k) (λ j. time (get_or l j 0)) ≡ ends o time k
  ends-listed o lists k h = sum_same (suc k) (λ j. time (get_or l j 0)) (λ j. time (o.at j)) (λ j i. ap time (lists j (omega arith)))

  pub ending_start : Ending 0 0
  unfolding sum
  ending_start = record { is = refl; early = omega arith; met = λ j h. absurd (omega arith) }

  -- one action more
  module _ {k e : ℕ} (g : Ending k e) where
    ends_at : sum (suc k) (λ j. time (get_or l j 0)) ≡ e + time (get_or l k 0)
    unfolding sum
    ends_at = omega (arith, g.is)

    pub ending_more : time (get_or l k 0) ≤ longest_time → e + time (get_or l k 0) ≤ D (get_or l k 0) → Ending (k + 1) (e + time (get_or l k 0))
    ending_more short m = rw (add-one k) (record {
      is = sym ends_at;
      early = omega (arith, g.early);
      met = below_suc k (λ j. sum (suc j) (λ i. time (get_or l i 0)) ≤ D (get_or l j 0)) g.met (omega (arith, ends_at));
    })

    ending_late : {n : ℕ} (o : Order n) → Lists l o → k < n → D (get_or l k 0) < e + time (get_or l k 0) → Meets 0 o time D → ⊥
    ending_late o lists h m meets = omega (arith, meets k h, ends_at, ap D (lists k h), ends-listed o lists k h)

  ending_end : {n e : ℕ} (o : Order n) → Lists l o → Ending n e → Meets 0 o time D
  ending_end o lists g k h = omega (arith, g.met k h, ap D (lists k h), ends-listed o lists k h)

-- ---- fit or not

module _ (F : Profile) (l : List ℕ) where
  pub tells_yes : {e : ℕ} → Ending (due F) (λ a. F.worst a 0) l F.n e → TellsFit F l true
  tells_yes g o x lists =
      let fits = (fit_exact x 0).0 (ending_end (due F) (λ a. F.worst a 0) l o lists g) in
      (λ e. fits, λ f. refl)

  pub tells_no : {k e : ℕ} → Ending (due F) (λ a. F.worst a 0) l k e → k < F.n
      → due F (get_or l k 0) < e + F.worst (get_or l k 0) 0 → TellsFit F l false
  tells_no g h m o x lists = (
    λ e. absurd (not-both e refl),
    λ f. absurd (ending_late (due F) (λ a. F.worst a 0) l g o lists h m ((fit_exact x 0).1 f)),
  )
