-- The loop has written the new averages of the levels below q, and `last` is the one before level q. Assumes nothing.
use Prim.Native.Nat.{ℕ, ◌+◌, ◌≤◌}
use mathlib.Core.Path.{◌≡◌}
use mathlib.Core.List.{List}
use lib.ListN.{length}
use Rattle.rules.specs.Words.{cat}
use Rattle.rules.specs.Image.{levels, record_at, profile, level_image}
use Rattle.rules.specs.Refresh.{measured, refreshed}
use Rattle.fields.specs.Fields.{splice}
use Rattle.trace.specs.Trace.{Weighs, raised_below}
use Rattle.refresh.specs.Refresh.{Copied}
use Rattle.refresh.proofs.put_averages.Given as goal

pub record Done (s : List ℕ) (L a : ℕ) (tallies before : List ℕ) (out : List ℕ) (last q : ℕ) : Type 0 where
  pub within : q ≤ L
  pub size : length out ≡ length before
  pub made : (trace : List ℕ) → Weighs trace tallies → Copied s before a
      → (last ≡ raised_below (measured (profile s) trace a) q)
      × (out ≡ splice before (record_at (levels s) a + 12) (cat (level_image (refreshed (profile s) trace) a) q))

abbrev pub invariant-loop-q : goal.invariant-loop-q
invariant-loop-q l = Done l.image l.levels l.a l.tallies l.initial.out l.out l.last l.q
