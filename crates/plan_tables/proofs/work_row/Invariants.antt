use mathlib.Core.Path.{◌≡◌}
use mathlib.Core.List.{List}
use Prim.Native.Nat.{ℕ, ◌+◌, ◌*◌}
use lib.IntN.{ℤ, pos}
use lib.ListN.{length, replicate}
use Rattle.rules.specs.Words.{cat, tab}
use Rattle.rules.specs.Image.{average_of, worst_of}
use Rattle.fields.specs.Fields.{splice}
use Rattle.plan_entry.specs.Rows.{carried_of, rooms_of, limits_of}
use Rattle.plan_entry.specs.Bounds.{bounds_by, bound_in}
use Rattle.plan_tables.proofs.work_row.Given as goal

-- what level q carries on
abbrev pub carries : (policy : ℕ) (s : List ℕ) (a due : ℕ) (held : List ℤ) → ℕ → ℤ
carries policy s a due held q =
    carried_of policy q (limits_of held (average_of s a) (worst_of s a) due q) (rooms_of held (average_of s a) q)

-- the sixteen of level q, from the bounds as they stood
abbrev pub sixteens : (s : List ℕ) (L a due : ℕ) (held : List ℤ) (from entries : ℕ) (bounds : List ℤ) → ℕ → List ℤ
sixteens s L a due held from entries bounds q =
    bounds_by (limits_of held (average_of s a) (worst_of s a) due q) (worst_of s a q) (bound_in bounds entries (from + q + L))

abbrev pub invariant-loop-q : goal.invariant-loop-q
invariant-loop-q l =
    (length l.here ≡ 8)
    × (length l.limits ≡ length l.initial.limits)
    × (length l.worst ≡ length l.initial.worst)
    × (length l.bounds ≡ length l.initial.bounds)
    × (l.here ≡ splice (replicate 8 (pos 0)) 0 (tab (carries l.policy l.image l.a l.due l.held) l.q))
    × (l.limits ≡ splice l.initial.limits l.from (tab (limits_of l.held (average_of l.image l.a) (worst_of l.image l.a) l.due) l.q))
    × (l.worst ≡ splice l.initial.worst l.from (tab (worst_of l.image l.a) l.q))
    × (l.bounds ≡ splice l.initial.bounds (l.from * 16) (cat (sixteens l.image l.levels l.a l.due l.held l.from l.entries l.initial.bounds) l.q))
