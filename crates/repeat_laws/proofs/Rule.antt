-- The unrolled tables obey the rule of the tables where the body's do. Assumes nothing.
use Prim.Native.Nat.{ℕ, ◌%◌, ◌<◌}
use Rattle.rules.specs.Image.{Profile}
use Rattle.rules.specs.Order.{Order}
use Rattle.rules.specs.Limits.{Tables, tables}
use Rattle.rules.specs.Refusals.{Table}
use Rattle.rules.specs.Repeat.{unrolled}
use Rattle.rules.proofs.Accepted.{tables-sound}
use Rattle.rules.proofs.Limits.Mixed.{Sound}
use Rattle.repeat_laws.proofs.Repeatable.{Repeatable}
use Rattle.repeat_laws.proofs.Places.{place-lt}
use Rattle.repeat_laws.proofs.Order.{repeated}

-- 7 of the unrolled system is 7 of the body.
pub table-unrolled : {F : Profile} → Repeatable F → (N : ℕ) → Table (unrolled F N) → Table F
table-unrolled {F} body N t = (t.0 % F.n, place-lt body.some t.0, t.2)

-- the tables of the unrolled system by the order repeat by repeat
abbrev pub unrolled_tables : {F : Profile} → Repeatable F → ℕ → Order F.n → Tables
unrolled_tables {F} body N o = tables (unrolled F N) (repeated body.some N o)

pub unrolled-sound : {F : Profile} (body : Repeatable F) (N : ℕ) (o : Order F.n) → 0 < F.levels → (Table F → ⊥) → Sound (unrolled_tables body N o)
unrolled-sound {F} body N o levels table = tables-sound (unrolled F N) (repeated body.some N o) levels (λ t. table (table-unrolled body N t))
