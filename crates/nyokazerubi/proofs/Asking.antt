-- The flat answer of what an asking answers, whatever the record is that it leaves. Assumes nothing.
use mathlib.Core.Path.{◌≡◌, refl}
use Rattle.rules.specs.Run as rules
use Rattle.run.specs.declared.Answer.{Answer}
use Rattle.run.specs.declared.Answer.TheVariants.{Refused, Given as Gives}
use Rattle.run.specs.Calls.{with_run}
use Rattle.nyokazerubi.specs.declared.runs.Given.{Given}
use Rattle.nyokazerubi.specs.Flat.{given_of, next_run, Asks}

pub asks : {g : Given} (y : Answer) (r : rules.Run) → g ≡ given_of (with_run y r) → Asks (with_run y r) r g
asks y r flat = record { given = flat; run = next y }
  where
    next : (y : Answer) → r ≡ next_run (with_run y r)
    next (Refused number) = refl
    next (Gives action level decided late) = refl
