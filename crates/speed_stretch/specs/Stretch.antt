-- What a stretch says of the positions i to k at level q, of which there may be none yet (i = k + 1).
use Rattle.std.specs.Prelude.{ℕ, suc, ◌*◌, ◌≤◌, ◌<◌, ◌≡◌}
use Rattle.rules.specs.Numbers.{most_actions, longest_time}
use Rattle.rules.specs.Words.{span}
use Rattle.rules.specs.Limits as Limits
use Rattle.rules.specs.Limits.{Tables}
use Rattle.speed_stretch.specs.declared.Stretch.{Stretch}

-- average (i, k, q), the worst times at level 0 of i to k, and margin (i, k, q), which counts as 0 where there is no position
pub record StretchOf (S : Tables) (i k q : ℕ) (s : Stretch) : Type 0 where
  pub average : s.average ≡ Limits.average S i k q
  pub worst0 : s.worst0 ≡ span (λ p. S.worst p 0) i (suc k)
  pub margin : i ≤ k → s.margin ≡ Limits.margin S i k q
  pub no_margin : k < i → s.margin ≡ 0

-- The stretch of no position, after whichever it stands.
abbrev pub NoStretch : Stretch → Type 0
NoStretch s = (S : Tables) (k q : ℕ) → StretchOf S (suc k) k q s

-- r is s with one more position in front, j, which has these times.
abbrev pub Lengthens : Stretch → ℕ → ℕ → ℕ → Stretch → Type 0
Lengthens s average worst worst0 r =
    (S : Tables) (j i k q : ℕ) → i ≡ suc j → j ≤ k → average ≡ S.average j q → worst ≡ S.worst j q → worst0 ≡ S.worst j 0
    → StretchOf S i k q s → StretchOf S j k q r

-- as large as the times of all actions can be
pub record SmallStretch (s : Stretch) : Type 0 where
  pub average : s.average ≤ most_actions * longest_time
  pub worst0 : s.worst0 ≤ most_actions * longest_time
  pub margin : s.margin ≤ most_actions * longest_time
