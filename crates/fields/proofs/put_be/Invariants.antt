use mathlib.Core.Path.{◌≡◌}
use Prim.Native.Nat.{◌+◌, ◌-◌, ◌/◌, ◌^◌, ◌≤◌}
use lib.ListN.{length}
use Rattle.rules.specs.Image.{bytes}
use Rattle.fields.specs.Fields.{splice}
use Rattle.fields.proofs.put_be.Given as goal

abbrev pub invariant-loop-j : goal.invariant-loop-j
invariant-loop-j l =
    (l.j ≤ l.w) × (length l.out ≡ length l.initial.out) × (l.out ≡ splice l.initial.out (l.at + l.j) (bytes (l.w - l.j) l.v)) × (l.rest ≡ l.v / 256 ^ (l.w - l.j))
