-- How the times of an action are looked at, level by level, for refusal 7.
use Rattle.std.specs.Prelude.{ℕ, ◌+◌, ◌<◌, List, ◌⊎◌, get_or}

-- the times that stand in a table from index `from` on
abbrev pub row : List ℕ → ℕ → ℕ → ℕ
row table from q = get_or table (from + q) 0

-- 7 at one level, by the times there and at the level before, which are 0 before level 0
abbrev pub LevelBreaks : ℕ → ℕ → ℕ → ℕ → Type 0
LevelBreaks average worst average-before worst-before = (worst < average) ⊎ ((average < average-before) ⊎ (worst < worst-before))
