-- New averages from counts and sums. Assumes nothing.
use Prim.Native.Nat.{ℕ, zero, suc, ◌+◌, max}
use mathlib.Core.Path.{◌≡◌, refl, ap}
use mathlib.Core.List.{List}
use native.Mathlib.Nat.{zero-max}
use native.Mathlib.Numerals.{add-one}
use Rattle.rules.specs.Image.{Profile}
use Rattle.rules.specs.Refresh.{records, counted, unmeasured, measured, raised}
use Rattle.trace.specs.Trace.{raised_below}

-- With nothing counted the level is unmeasured.
pub none-measured : (F : Profile) (trace : List ℕ) (a q : ℕ) → counted trace a q (records trace) ≡ 0 → measured F trace a q ≡ unmeasured F a q
unfolding measured
none-measured F trace a q h = rw h

-- ---- level by level

pub raised_at : (time : ℕ → ℕ) (q : ℕ) → max (raised_below time q) (time q) ≡ raised time q
unfolding raised_below raised
raised_at time zero = zero-max (time 0)
raised_at time (suc q) = refl

pub raised-next : (time : ℕ → ℕ) (q : ℕ) → raised_below time (q + 1) ≡ raised time q
unfolding raised_below
raised-next time q = ap (raised_below time) (add-one q)
