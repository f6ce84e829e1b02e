use Prim.Native.Nat.{ℕ, ◌≤◌, ◌<◌}
use mathlib.Core.Path.{◌≡◌}
use mathlib.Core.List.{List}
use lib.ListN.{length}
use Rattle.rules.specs.Words.{cat}
use Rattle.rules.specs.Numbers.{header_bytes}
use Rattle.rules.specs.Image.{profile, record_image}
use Rattle.rules.specs.Refresh.{refreshed}
use Rattle.fields.specs.Fields.{splice}
use Rattle.trace.specs.Trace.{Weighs}
use Rattle.refresh.specs.Refresh.{Copied}
use Rattle.refresh.proofs.renew.Given as goal

abbrev pub invariant-loop-a : goal.invariant-loop-a
invariant-loop-a l =
    (l.a ≤ l.n)
    × (length l.out ≡ length l.initial.out)
    × ((trace : List ℕ) → Weighs trace l.tallies → ((b : ℕ) → b < l.n → Copied l.image l.initial.out b)
    → l.out ≡ splice l.initial.out header_bytes (cat (record_image (refreshed (profile l.image) trace)) l.a))
