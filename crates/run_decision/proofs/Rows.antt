-- A row of tests by `cond`, one at a time. Assumes nothing.
use mathlib.Core.Path.{◌≡◌}
use mathlib.Core.Bool.{Bool, true, false, cond}

module _ {A : Type 0} (b : Bool) (x y : A) {z : A} where
  -- the test holds
  pub into : b ≡ true → z ≡ x → z ≡ cond b x y
  into h e = rw h e

  -- the test fails
  pub past : b ≡ false → z ≡ y → z ≡ cond b x y
  past h e = rw h e
