-- Demand 3 over the unrolled positions. Assumes nothing.
use Prim.Native.Nat.{ℕ, ◌+◌, ◌*◌, ◌≤◌, ◌<◌}
use Rattle.rules.specs.Image.{Profile}
use Rattle.rules.specs.Order.{Order, TheOrder}
use Rattle.rules.specs.Refusals.{Table}
use Rattle.rules.specs.Demand.{WithinWorst, DemandThree}
use Rattle.rules.specs.Repeat.{unrolled}
use Rattle.rules.proofs.Accepted.{policy, fit_demand}
use Rattle.repeat_laws.proofs.Repeatable.{Repeatable}
use Rattle.repeat_laws.proofs.Rule.{table-unrolled}
use Rattle.repeat_laws.proofs.Fits.{total, fit_total}

-- By whatever order is the unrolled system's and by either policy, from any start at which N times the body's level 0 worst times fit the cycle.
pub unrolled-demand : {F : Profile} (body : Repeatable F) (N : ℕ) {o : Order F.n} → TheOrder F o → (levels : 0 < F.levels) (table : Table F → ⊥)
    → (year : ℕ) {p : Order (N * F.n)} (y : TheOrder (unrolled F N) p)
    → let P = policy y levels (λ h. table (table-unrolled body N h)) year in
    (t : ℕ) → 0 < N → t + total F N ≤ F.cycle → (d : ℕ → ℕ → ℕ) → WithinWorst 16 P t d → DemandThree 16 P t d
unrolled-demand body N x levels table year y t some fits =
    fit_demand y levels (λ h. table (table-unrolled body N h)) year t ((fit_total body N x t some).1 fits)
