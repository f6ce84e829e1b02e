-- The planner's tables at the fronts of lent ones read as the rules have them. Assumes nothing.
use Prim.Native.Nat.{ℕ, suc, ◌-◌, ◌<◌}
use mathlib.Core.Path.{◌≡◌, refl, ap, ◌∙◌}
use native.Mathlib.Omega.{arith}
use lib.IntN.{pos}
use lib.ListN.{get_or}
use Rattle.rules.specs.Numbers.{longest_coast}
use Rattle.rules.specs.Image.{Profile}
use Rattle.rules.specs.Order.{Order}
use Rattle.rules.specs.Limits.{LentTables, tables, limit_by, coast_bound, planner_tables, planned}
use Rattle.rules.specs.Run.{lent}
use Rattle.rules.specs.Dry.{cell}
use Rattle.rules.proofs.Demand.Alike.{Alike}
use Rattle.fields.proofs.Written.{tab-written, rows_written, blocks_written}
use Rattle.planner.specs.Planning.{with_fronts}

module _ (policy : ℕ) (F : Profile) (o : Order F.n) (before : LentTables) {after : LentTables}
    (e : after ≡ with_fronts before (planner_tables policy F o)) where
  pub reads-order : (j : ℕ) → j < F.n → get_or after.order j 0 ≡ o.at j
  reads-order j l = tab-written o.at before.order F.n 0 (ap (λ (x : LentTables). x.order) e) j l

  pub reads-plan : Alike longest_coast (lent F.n F.levels after) (planned policy (tables F o))
  unfolding lent
  reads-plan =
      let limit_of = limit_by policy (tables F o) in
      record {
        n = refl;
        levels = refl;
        limit = λ i q l m. rows_written limit_of before.limits F.n F.levels (pos 0) (ap (λ (x : LentTables). x.limits) e) i q l m;
        bound = λ i q r m a b c.
            let one_less : suc (r - 1) ≡ r = omega arith in
            blocks_written (λ i q x. coast_bound (tables F o) limit_of i q (suc x)) before.bounds F.n F.levels longest_coast (pos 0)
            (ap (λ (x : LentTables). x.bounds) e) i q (r - 1) (omega arith) m (omega arith)
            ∙ ap (coast_bound (tables F o) limit_of i q) one_less;
      }

  pub reads-worst : (i q : ℕ) → i < F.n → q < F.levels → cell after.worst F.levels i q ≡ (tables F o).worst i q
  reads-worst i q l m = rows_written (tables F o).worst before.worst F.n F.levels 0 (ap (λ (x : LentTables). x.worst) e) i q l m
