-- What tables that are not refused have. Assumes nothing.
use Prim.Native.Nat.{ℕ, ◌*◌, ◌^◌, ◌≤◌, ◌<◌}
use mathlib.Core.Logic.{inl, inr}
use native.Mathlib.Omega.{arith}
use lib.Dec.{lit<}
use lib.ListN.{length, get_or}
use Rattle.rules.specs.Numbers.{last_clock}
use Rattle.rules.specs.Image.{ProfileTables, image_bytes, of_tables}
use Rattle.rules.specs.Refusals.{First, CountOut, Tight}
use Rattle.rules.proofs.Refusals.{Numbered, first-none}
use Rattle.image_pack.specs.Packing.{Roomy}
use Rattle.image_write.specs.Writing.{write_rooms, writing}

-- without 3
pub counted : (n L cycle : ℕ) → (CountOut n L cycle → ⊥)
    → (n ≤ 64) × (1 ≤ L) × (L ≤ 8) × (cycle < 2 ^ 30)
counted n L cycle f =
    let actions : 64 < n → ⊥ = λ h. f (inl (inr (inl h))) in
    let none : L < 1 → ⊥ = λ h. f (inl (inr (inr (inl h)))) in
    let levels : 8 < L → ⊥ = λ h. f (inl (inr (inr (inr h)))) in
    let long : last_clock < cycle → ⊥ = λ h. f (inr (inr h)) in
    omega arith

-- without 17
module _ (n L : ℕ) (T : ProfileTables) (room : ℕ) (f : Tight (write_rooms n L T room) → ⊥) where
  pub roomy : n ≤ 64 → L ≤ 8 → Roomy n L T
  roomy h l =
      let m : length T.masks < n → ⊥ = λ x. f (inl x) in
      let d : length T.deadlines < n → ⊥ = λ x. f (inr (inl x)) in
      let a : length T.averages < n * L → ⊥ = λ x. f (inr (inr (inl x))) in
      let w : length T.worst < n * L → ⊥ = λ x. f (inr (inr (inr (inl x)))) in
      omega arith

  image_roomy : image_bytes n L ≤ room
  image_roomy =
      let i : room < image_bytes n L → ⊥ = λ x. f (inr (inr (inr (inr (inl x))))) in
      omega arith

module _ (n L cycle : ℕ) (T : ProfileTables) (room : ℕ) where
  -- What packing asks of the tables and the image.
  pub record Packable : Type 0 where
    pub tables : Roomy n L T
    pub image : image_bytes n L ≤ room
    pub cycle-fits : cycle < 2 ^ 30
    pub deadlines_fit : (a : ℕ) → a < n → get_or T.deadlines a 0 < 2 ^ 30

  numbered : Numbered (writing n L cycle T room)
  numbered = (lit< tt, (lit< tt, (lit< tt, (lit< tt, (lit< tt, (lit< tt, tt))))))

  pub packable : First (writing n L cycle T room) 0 → Packable
  unfolding of_tables
  packable p =
      let none = (first-none (writing n L cycle T room) numbered).0 p in
      let counts = counted n L cycle none.0 in
      record {
        tables = roomy n L T room none.1.0 counts.0 counts.2;
        image = image_roomy n L T room none.1.0;
        cycle-fits = counts.3;
        deadlines_fit = λ a h. let f : cycle < get_or T.deadlines a 0 → ⊥ = λ x. none.1.1.0 (a, h, inl (inl x)) in omega (arith, counts.3);
      }
