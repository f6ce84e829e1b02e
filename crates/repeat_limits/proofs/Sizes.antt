-- Summaries of 32 bits: what they are added up to, and how far. Assumes nothing.
use Prim.Native.Nat.{ℕ, zero, suc, ◌+◌, ◌-◌, ◌*◌, ◌≤◌, ◌<◌, max}
use mathlib.Core.Path.{◌≡◌, refl, ap, ◌∙◌}
use mathlib.Core.Bool.{Bool, true, false, cond}
use mathlib.Core.List.{List}
use mathlib.Core.Logic.{◌≢◌}
use native.Mathlib.Nat.{mul-le-mul}
use native.Mathlib.Omega.{arith}
use lib.Dec.{eqb}
use lib.ListN.{get_or}
use borrow.Author.Tests.{ne_eqb}
use Rattle.rules.specs.Numbers.{most_repeats, policy_2005, summary_numbers}
use Rattle.rules.specs.Repeat.{Sums, followed, bodies, needed_2005, needed, stretch_at}
use Rattle.repeat_limits.specs.Limits.{most_entry, greatest_later, Summed, later_2008, later_2005, later_of, mix_before, BodiesAfter, Before}
use Rattle.repeat_limits.specs.declared.Later.{Later}

-- so many bodies, or one less, times a number of 32 bits
pub times-small : (m x : ℕ) → m < most_repeats → x ≤ most_entry → m * x ≤ greatest_later
times-small m x few h = let less : m ≤ 1619 = omega arith in mul-le-mul less h

-- one of some bodies is counted by its M, the others by the greater of A and W
pub later-small : (m x y : ℕ) → m ≢ 0 → m < most_repeats → x ≤ most_entry → y ≤ most_entry → y + (m - 1) * x ≤ greatest_later
later-small m x y some few h k = let less : m - 1 ≤ 1618 = omega arith in omega (arith, mul-le-mul less h, k)

-- so of the bodies after a stretch
pub later-few : (policy : ℕ) (y : Sums) (after : ℕ) → y.average ≤ most_entry → y.lowest ≤ most_entry → y.mix ≤ most_entry → after < most_repeats
    → ((later_of policy y after).lowest ≤ greatest_later) × ((later_of policy y after).mix ≤ greatest_later)
later-few policy y after a w m few = by (eqb policy policy_2005)
  where
    mixed : (k : ℕ) → k < most_repeats → ((later_2008 y k).lowest ≤ greatest_later) × ((later_2008 y k).mix ≤ greatest_later)
    mixed zero h = (omega arith, omega arith)
    mixed (suc k) h =
        let less : suc k - 1 ≡ k = omega arith in (
          times-small (suc k) y.lowest h w,
          rw less at (later-small (suc k) (max y.average y.lowest) y.mix (λ e. absurd (omega (arith, e))) h (omega (arith, a, w)) m),
        )

    by : (b : Bool) → ((cond b (later_2005 y after) (later_2008 y after)).lowest ≤ greatest_later) × ((cond b (later_2005 y after) (later_2008 y after)).mix ≤ greatest_later)
    by true = (times-small after y.lowest few w, times-small after y.average few a)
    by false = mixed after few

-- what the limit takes off the cycle for the rest of a body, then of fewer bodies than there are repeats
abbrev pub mix_of : ℕ → List ℕ → ℕ → ℕ → ℕ → ℕ
mix_of policy l x q after = needed policy (stretch_at l x) (stretch_at l q) after

-- the numbers of an entry, read one at a time
pub record Read (l : List ℕ) (q average lowest mix : ℕ) : Type 0 where
  pub average_is : average ≡ get_or l (q * summary_numbers + 0) 0
  pub lowest_is : lowest ≡ get_or l (q * summary_numbers + 1) 0
  pub mix_is : mix ≡ get_or l (q * summary_numbers + 2) 0

-- in 2008 no bodies and some, as numbers
module _ (policy : ℕ) (mixed : policy ≢ policy_2005) where
  some-later : (y : Sums) (after : ℕ) → after ≢ 0
      → record { counts = true; lowest = after * y.lowest; mix = y.mix + (after - 1) * max y.average y.lowest } ≡ later_of policy y after
  some-later y zero some = absurd (some refl)
  some-later y (suc m) some = let e : suc m - 1 ≡ m = omega arith in rw (ne_eqb policy policy_2005 mixed, e)

  pub read-later : {l : List ℕ} {q average lowest mix : ℕ} → Read l q average lowest mix → (after : ℕ) → after ≢ 0
      → record { counts = true; lowest = after * lowest; mix = mix + (after - 1) * max average lowest } ≡ later_of policy (stretch_at l q) after
  read-later {l} {q} R after some =
      let first : q * summary_numbers + 0 ≡ q * summary_numbers = omega arith in
      rw (R.average_is, R.lowest_is, R.mix_is, first) (some-later (stretch_at l q) after some)

-- what they add to any stretch before them
pub joins : (policy : ℕ) (x y : Sums) (after : ℕ) → mix_before x (later_of policy y after) ≡ needed policy x y after
joins policy x y after = by (eqb policy policy_2005)
  where
    mixed : (m : ℕ) → mix_before x (later_2008 y m) ≡ (followed x (bodies y m)).mix
    mixed zero = refl
    mixed (suc m) = refl

    by : (b : Bool) → mix_before x (cond b (later_2005 y after) (later_2008 y after)) ≡ cond b (needed_2005 x y after) (followed x (bodies y after)).mix
    by true = refl
    by false = mixed after

module _ {policy q after : ℕ} {l : List ℕ} {later : Later} (x : ℕ) where
  -- by numbers that are those of the bodies
  pub joined : {mix : ℕ} → BodiesAfter policy l q after later → mix ≡ mix_before (stretch_at l x) later → mix ≡ mix_of policy l x q after
  joined are is = is ∙ ap (mix_before (stretch_at l x)) are.is ∙ joins policy (stretch_at l x) (stretch_at l q) after

  pub before_there : Summed l x q after → BodiesAfter policy l q after later → Before l x later
  before_there there are = record { own = there.own; few_lowest = are.few_lowest; few_mix = are.few_mix }
