-- Before a turn the stretch is that of the positions from j on. Assumes nothing.
use mathlib.Core.Path.{◌≡◌}
use mathlib.Core.List.{List}
use Rattle.speed_stretch.specs.declared.Stretch.{Stretch}
use Prim.Native.Nat.{ℕ, ◌+◌, ◌-◌, ◌≤◌}
use native.Mathlib.Omega.{arith}
use borrow.Author.Rules.{rules}
use Rattle.rules.specs.Image.{profile}
use Rattle.speed_stretch.specs.Stretch.{StretchOf, SmallStretch}
use Rattle.speed_stretch.proofs.Stretches.{from_nothing, small}
use Rattle.speed.specs.Speed.{listed, Readable}
use Rattle.speed.proofs.Listed.{Bytes, listed-times}
use Rattle.speed.proofs.stretch.Goals as goal

-- the stretch of the positions from j on is small
short : (image actions : List ℕ) (levels first last level j : ℕ) (s : Stretch) → Bytes image → Readable image levels actions first last level
    → j ≤ last + 1 → StretchOf (listed image actions) j last level s → SmallStretch s
short image actions levels first last level j s byte r l of =
    small _ j _ _ r.few (listed-times image actions last level byte) s (omega arith) of

pub loop-j-init : goal.loop-j-init
loop-j-init c =
    (omega (arith, c.requires.ordered), search rules, from_nothing c.nothing-s.ensures (omega arith))

pub longer-s-requires : goal.longer-s-requires
unfolding profile
longer-s-requires c =
    let a = c.args in
    let t = c.loop-j in
    let e = t.j - 1 in
    let l = listed-times a.image.now a.actions.now a.last a.level (λ k. (c.type_inv.image k).fits) in (
      short a.image.now a.actions.now a.levels a.first a.last a.level t.j t.s (λ k. (c.type_inv.image k).fits) c.requires t.invariant.1 t.invariant.2,
      omega (arith, rw c.from-a.ensures at c.average_at-average.ensures, l.average e (omega arith)),
      omega (arith, rw c.from-a.ensures at c.worst_at-worst.ensures, l.worst e (omega arith)),
      omega (arith, rw c.from-a.ensures at c.worst_at-worst0.ensures, l.worst0 e (omega arith)),
    )

pub loop-j-preserved : goal.loop-j-preserved
unfolding profile
loop-j-preserved c = (
  search rules,
  search rules,
  c.longer-s.ensures _ (c.loop-j.j - 1) c.loop-j.j _ _ (omega arith) (omega arith)
      (rw c.from-a.ensures at c.average_at-average.ensures) (rw c.from-a.ensures at c.worst_at-worst.ensures) (rw c.from-a.ensures at c.worst_at-worst0.ensures) c.loop-j.invariant.2,
)

pub returns : goal.returns
returns c =
    let a = c.args in
    let t = c.loop-j in
    let e : t.j ≡ a.first = omega arith in (
      rw e at t.invariant.2,
      short a.image.now a.actions.now a.levels a.first a.last a.level t.j t.s (λ k. (c.type_inv.image k).fits) c.requires t.invariant.1 t.invariant.2,
    )
