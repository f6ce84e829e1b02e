-- What t at most the limit says in ℕ; how limits lie along the levels and along the order; the mixed policy is a policy. Assumes nothing.
use Prim.Native.Nat.{ℕ, suc, ◌≤◌, ◌<◌}
use mathlib.Core.Logic.{◌↔◌}
use native.Mathlib.Omega.{arith}
use lib.IntN.{pos}
use lib.Signed.{◌≤ℤ◌}
use Rattle.rules.specs.Limits.{Tables, limit}
use Rattle.rules.specs.Demand.{Policy}
use Rattle.rules.proofs.Limits.Signed.{time_at-most, at-most-order}
use Rattle.rules.proofs.Limits.Mixed.{Sound, AtMostLimit, mixed-lower, mixed-safe, mixed-passes}
use Rattle.rules.proofs.Limits.Rows.{later, sound-later, mixed-later, limit-at-most, limit_row}

-- t is at most limit (i, q) exactly if t + mixed (i, k, q) is at most deadline (k) for every k from i to n - 1.
pub limit-fits : (S : Tables) (t i q : ℕ) → i < S.n → (pos t ≤ℤ limit S i q) ↔ AtMostLimit S t i q
limit-fits S t i q l = (
  (λ h k a c. omega (arith, mixed-later S 0 i k q, (limit-at-most S i q l t 0).0 ((time_at-most t (limit S i q)).0 h) k a c)),
  (λ f. (time_at-most t (limit S i q)).1 ((limit-at-most S i q l t 0).1 (λ k a c. omega (arith, mixed-later S 0 i k q, f k a c)))),
)

module _ (S : Tables) (sound : Sound S) where
  -- Limits never rise with the level.
  pub limit_falls : (i p q : ℕ) → i < S.n → p ≤ q → q < S.levels → limit S i q ≤ℤ limit S i p
  limit_falls i p q l a m = at-most-order (limit S i q) (limit S i p)
      (λ t b h. (limit-at-most S i p l t b).1 (mixed-lower (later S b) (sound-later S sound b) t i a m ((limit-at-most S i q l t b).0 h)))

  -- Limits never fall along the order.
  pub limit_grows : (i q : ℕ) → suc i < S.n → q < S.levels → limit S i q ≤ℤ limit S (suc i) q
  limit_grows i q l m = at-most-order (limit S i q) (limit S (suc i) q)
      (λ t b h. (limit-at-most S (suc i) q l t b).1 (λ k a c. omega (
        arith,
        (limit_row (later S b) (sound-later S sound b) i q (omega arith) m t ((limit-at-most S i q (omega arith) t b).0 h)).average k a c,
      )))

  -- The mixed policy is a policy, so what is shown of any policy holds of it.
  abbrev pub mixed_policy : Policy S
  mixed_policy = record {
    limit = limit S;
    is_safe = λ t i q l m f. mixed-safe S sound t i q l m ((limit-fits S t i q l).0 f);
    lower = λ t i p q l a m f. (limit-fits S t i p l).1 (mixed-lower S sound t i a m ((limit-fits S t i q l).0 f));
    passes = λ t i l s. (limit-fits S t i 0 l).1 (mixed-passes S sound t i l s);
  }
