-- The cases that proofs go by, of two numbers.
use mathlib.Core.Path.{◌≡◌}
use mathlib.Core.Logic.{◌⊎◌, inl, inr}
use Prim.Native.Nat.{ℕ, ◌≤◌, ◌<◌}
use native.Mathlib.Decide.{dec_lt, ℕ_discrete}
use native.Mathlib.Omega.{arith}

pub lt-or-le : (a b : ℕ) → (a < b) ⊎ (b ≤ a)
lt-or-le a b = elim (dec_lt a b) [ yes h ↦ inl h | no h ↦ inr (omega arith) ]

pub eq-or_ne : (a b : ℕ) → (a ≡ b) ⊎ (a ≡ b → ⊥)
eq-or_ne a b = elim (ℕ_discrete a b) [ yes h ↦ inl h | no h ↦ inr h ]
