-- What is answered settles the answer. Assumes nothing.
use mathlib.Core.Path.{◌≡◌, refl, ap}
use Rattle.speed_stretch.specs.Answer.{reading_of}
use Rattle.speed_stretch.specs.declared.Reading.{Reading}
use Rattle.speed_stretch.specs.declared.Reading.TheVariants.{Ratio, Spent, Refused}

pub reading-one : (r s : Reading) → reading_of r ≡ reading_of s → r ≡ s
reading-one (Ratio x) (Ratio y) h = cc
reading-one (Ratio x) Spent h = cc
reading-one (Ratio x) (Refused m) h = cc
reading-one Spent (Ratio y) h = cc
reading-one Spent Spent h = refl
reading-one Spent (Refused m) h = cc
reading-one (Refused k) (Ratio y) h = cc
reading-one (Refused k) Spent h = cc
reading-one (Refused k) (Refused m) h = let same : k ≡ m = cc in ap Refused same
