-- Tables that agree at every position and level have the same limits and the same coast bounds, by either policy. Assumes nothing.
use Prim.Native.Nat.{ℕ, suc, ◌+◌, ◌<◌}
use mathlib.Core.Path.{◌≡◌, sym, ◌∙◌}
use native.Mathlib.Decide.{dec_lt}
use native.Mathlib.Omega.{arith}
use lib.IntN.{ℤ}
use Rattle.rules.specs.Words.{rows}
use Rattle.rules.specs.Limits.{Tables, limit_by, coast_bound, coast_bounds}
use Rattle.rules.proofs.Sums.{span_same}
use Rattle.rules.proofs.Limits.Alike.{Alike, least-same}
use Rattle.rules.proofs.Limits.Years.{alike_by}
use Rattle.fields.proofs.Cats.{cat_ext}
use Rattle.fields.proofs.Rows.{rows_ext}
use Rattle.plan_entry.proofs.Coast.{term, bound-within, bound-past}

module _ {S T : Tables} {n L : ℕ} (same : Alike S T n L) where
  pub worst-alike : rows S.worst n L ≡ rows T.worst n L
  worst-alike = rows_ext S.worst T.worst n L (λ i q h l. same.worst i q h l)

  module _ (policy : ℕ) where
    abbrev left : ℕ → ℕ → ℤ
    left = limit_by policy S

    abbrev right : ℕ → ℕ → ℤ
    right = limit_by policy T

    pub limits-alike : rows left n L ≡ rows right n L
    limits-alike = rows_ext left right n L (λ i q h l. alike_by same policy i q h l)

    bound-alike : (i q r : ℕ) → i < n → q < L → coast_bound S left i q (suc r) ≡ coast_bound T right i q (suc r)
    bound-alike i q r h l = go (dec_lt (i + r) n)
      where
        go : Dec (i + r < n) → coast_bound S left i q (suc r) ≡ coast_bound T right i q (suc r)
        go (yes m) =
            bound-within S left i q r (omega (arith, same.n_left))
            ∙ least-same (term S left i q) (term T right i q) i r
            (λ j a b. rw (
              alike_by same policy j q (omega arith) l,
              span_same (λ p. S.worst p q) (λ p. T.worst p q) i j a (λ p c. same.worst p q (omega arith) l),
            ))
            ∙ sym (bound-within T right i q r (omega (arith, same.n_right)))
        go (no m) = bound-past S left i q r (omega (arith, same.n_left)) ∙ sym (bound-past T right i q r (omega (arith, same.n_right)))

    pub bounds-alike : coast_bounds S left n L ≡ coast_bounds T right n L
    bounds-alike = cat_ext _ _ n (λ i h. rows_ext _ _ L 16 (λ q r l m. bound-alike i q r h l))
