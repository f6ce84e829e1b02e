use mathlib.Core.Path.{◌≡◌}
use mathlib.Core.List.{List, []}
use Prim.Native.Nat.{ℕ, ◌/◌, ◌%◌}
use lib.ListN.{length, get_or}
use Rattle.rules.specs.Words.{tab}
use Rattle.fields.specs.Fields.{splice}
use Rattle.encoder.proofs.column.Given as goal

-- entry k of the column
abbrev pub entry : List (List (List ℕ)) → ℕ → ℕ → ℕ
entry table which k = get_or (get_or (get_or table (k / 8) []) (k % 8) []) which 0

abbrev pub invariant-loop-k : goal.invariant-loop-k
invariant-loop-k l = (length l.times ≡ 72) × (l.times ≡ splice l.initial.times 0 (tab (entry l.table l.which) l.k))
