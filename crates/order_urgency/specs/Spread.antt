-- Urgencies handed on from each action to those before it. They are u before and v after.
use Rattle.std.specs.Prelude.{ℕ, ◌-◌, ◌^◌, ◌≤◌, ◌<◌, min, ◌≡◌, Bool, true, cond, ◌⊎◌, List, length, get_or}
use Rattle.std.specs.Int.Bits.{bit_and}
use Rattle.rules.specs.Numbers.{most_actions}
use Rattle.rules.specs.Image.{Profile, has, due}
use Rattle.rules.specs.Order.{Urgency, Before}
use Rattle.sets.specs.Sets.{Without, comes_before}

-- all deadlines are one
abbrev pub OneDeadline : Profile → Type 0
OneDeadline F = (a b : ℕ) → a < F.n → b < F.n → due F a ≡ due F b

-- q, or p where that is less and the test passes
abbrev pub lowered : Bool → ℕ → ℕ → ℕ
lowered test p q = cond test (min p q) q

-- The urgency x has been handed on to each that passes the test.
pub record HandedEach (test : ℕ → Bool) (x : ℕ) (u v : List ℕ) : Type 0 where
  pub long : length v ≡ most_actions
  pub each : (b : ℕ) → b < most_actions → get_or v b 0 ≡ lowered (test b) x (get_or u b 0)

-- The urgency x has been given to b. Of the set t the set r has those that are still to get it: not b, and none that comes before b.
pub record Given (masks : List ℕ) (t b x : ℕ) (u v : List ℕ) (r : ℕ) : Type 0 where
  pub long : length v ≡ most_actions
  pub here : get_or v b 0 ≡ min x (get_or u b 0)
  pub others : (j : ℕ) → (b ≡ j → ⊥) → get_or v j 0 ≡ get_or u j 0
  pub rest : Without (bit_and t (2 ^ 64 - 1 - get_or masks b 0)) b r

-- The urgency x has been handed on to the members of a set: each has got it, or comes before one that has.
pub record HandedOn (masks : List ℕ) (to x : ℕ) (u v : List ℕ) : Type 0 where
  pub long : length v ≡ most_actions
  pub each : (b : ℕ) → b < most_actions → (get_or v b 0 ≡ get_or u b 0) ⊎ ((has to b ≡ true) × (get_or v b 0 ≡ min x (get_or u b 0)))
  pub got : (b : ℕ) → has to b ≡ true → (get_or v b 0 ≤ x) ⊎ ((c : ℕ) × (has to c ≡ true) × comes_before masks b c × (get_or v c 0 ≤ x))

-- Of the members of s action a is next: the one of least urgency, ties to the lowest number.
pub record NextIn (u : List ℕ) (s a : ℕ) : Type 0 where
  pub member : has s a ≡ true
  pub least : (b : ℕ) → has s b ≡ true → get_or u a 0 ≤ get_or u b 0
  pub lowest : (b : ℕ) → has s b ≡ true → get_or u a 0 ≡ get_or u b 0 → a ≤ b

-- Of the members of s none is more urgent than a.
abbrev pub Foremost : List ℕ → ℕ → ℕ → Type 0
Foremost u s a = (has s a ≡ true) × ((b : ℕ) → has s b ≡ true → get_or u a 0 ≤ get_or u b 0)

-- Each action has got its urgency, u being the deadlines.
abbrev pub Spread : ℕ → List ℕ → List ℕ → List ℕ → Type 0
Spread n masks u v = (a : ℕ) → a < n → Urgency n (comes_before masks) (λ b. get_or u b 0) a (get_or v a 0)

-- Each action has its urgency.
abbrev pub Urgent : Profile → List ℕ → Type 0
Urgent F u = (a : ℕ) → a < F.n → Urgency F.n (Before F) (due F) a (get_or u a 0)
