-- The numbers of the reasons, and a refusal handed up.
use mathlib.Core.Path.{sym, subst}
use mathlib.Core.Logic.{◌≢◌}
use native.Mathlib.Omega.{arith}
use Rattle.std.specs.Prelude.{Result, Err}
use Rattle.std.specs.Result.{IsErrAnd}
use Rattle.std.proofs.lemmas.Result.{err_from_is_err_and}
use Rattle.rules.specs.Reasons.{number_of}
use Rattle.rules.specs.declared.Reason.{Reason}
use Rattle.rules.specs.declared.Reason.TheVariants.{Short, Version, Count, Length, Spare, Range, Table, Loop, Unfit, Finished, Turn, Back, Clock, Trace, Name, Duration, Room, Reading, Repeats, Policy}

-- A reason has a number, and 0 is that of none.
pub some_number : (r : Reason) → number_of r ≢ 0
some_number Short = λ z. omega (arith, z)
some_number Version = λ z. omega (arith, z)
some_number Count = λ z. omega (arith, z)
some_number Length = λ z. omega (arith, z)
some_number Spare = λ z. omega (arith, z)
some_number Range = λ z. omega (arith, z)
some_number Table = λ z. omega (arith, z)
some_number Loop = λ z. omega (arith, z)
some_number Unfit = λ z. omega (arith, z)
some_number Finished = λ z. omega (arith, z)
some_number Turn = λ z. omega (arith, z)
some_number Back = λ z. omega (arith, z)
some_number Clock = λ z. omega (arith, z)
some_number Trace = λ z. omega (arith, z)
some_number Name = λ z. omega (arith, z)
some_number Duration = λ z. omega (arith, z)
some_number Room = λ z. omega (arith, z)
some_number Reading = λ z. omega (arith, z)
some_number Repeats = λ z. omega (arith, z)
some_number Policy = λ z. omega (arith, z)

-- What holds of each error that a `?` may give holds of what it gives.
pub handed_up : {A E : Type 0} {Q : E → Type 0} (P : Result A E → Type 0) (r : Result A E) → IsErrAnd r Q → ((e : E) → Q e → P (Err e)) → P r
handed_up P r h each = let (e, is, q) = err_from_is_err_and r h in subst P (sym is) (each e q)
