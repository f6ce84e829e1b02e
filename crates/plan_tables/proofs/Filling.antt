-- The four tables of an accepted image, with the profile's own numbers. Assumes nothing.
use Prim.Native.Nat.{ℕ}
use mathlib.Core.Path.{◌≡◌, ap, ◌∙◌}
use mathlib.Core.List.{List, []}
use native.Mathlib.Omega.{arith}
use lib.IntN.{ℤ}
use lib.ListN.{get_or}
use Rattle.rules.specs.Words.{tab, rows}
use Rattle.rules.specs.Image.{profile}
use Rattle.rules.specs.Order.{Order}
use Rattle.rules.specs.Limits.{tables, limit_by, LentTables, coast_bounds}
use Rattle.fields.specs.Fields.{splice}
use Rattle.fields.proofs.Tabs.{tab_ext}
use Rattle.plan_tables.specs.Filling.{PlanInput, RowsFilled, AllFilled}

-- tables that are equal one by one
pub same_tables : {x y : LentTables} → x.order ≡ y.order → x.limits ≡ y.limits → x.worst ≡ y.worst → x.bounds ≡ y.bounds → x ≡ y
same_tables {x} {y} a b c d =
    ap (λ (l : List ℕ). record { order = l; limits = x.limits; worst = x.worst; bounds = x.bounds }) a
    ∙ ap (λ (l : List ℤ). record { order = y.order; limits = l; worst = x.worst; bounds = x.bounds }) b
    ∙ ap (λ (l : List ℕ). record { order = y.order; limits = y.limits; worst = l; bounds = x.bounds }) c
    ∙ ap (λ (l : List ℤ). record { order = y.order; limits = y.limits; worst = y.worst; bounds = l }) d

module _ {s : List ℕ} {n L cycle : ℕ} {actions : List ℕ} {o : Order (profile s).n} (g : PlanInput s n L cycle actions o) where
  -- with the profile's own numbers
  as_said : {A : Type 0} (f : ℕ → ℕ → A) {x : A} → x ≡ f n L → x ≡ f (profile s).n (profile s).levels
  as_said {A} f e = e ∙ ap (λ (m : ℕ). f m L) g.n_is ∙ ap (f (profile s).n) g.levels_are

  -- the order copied and the rows stored
  pub all_filled : (policy : ℕ) (before after : LentTables) → after.order ≡ splice before.order 0 (tab (λ k. get_or actions k 0) n)
      → RowsFilled s policy n L (record { order = []; limits = before.limits; worst = before.worst; bounds = before.bounds })
      (record { order = []; limits = after.limits; worst = after.worst; bounds = after.bounds }) o
      → AllFilled s policy before after o
  all_filled policy before after e filled =
      same_tables
      (as_said (λ (m k : ℕ). splice before.order 0 (tab o.at m))
      (e ∙ ap (splice before.order 0) (tab_ext (λ k. get_or actions k 0) o.at n (λ k l. g.lists k (omega (arith, g.n_is))))))
      (as_said (λ (m k : ℕ). splice before.limits 0 (rows (limit_by policy (tables (profile s) o)) m k)) filled.limits_are)
      (as_said (λ (m k : ℕ). splice before.worst 0 (rows (tables (profile s) o).worst m k)) filled.worst_is)
      (as_said (λ (m k : ℕ). splice before.bounds 0 (coast_bounds (tables (profile s) o) (limit_by policy (tables (profile s) o)) m k)) filled.bounds_are)
