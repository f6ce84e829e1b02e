-- The document's number and value for each case of the speed reading's answer.
use Rattle.rules.specs.declared.Fault.{Fault}
use Rattle.rules.specs.Speed as Speed
use Rattle.rules.specs.Speed.{ratio, spent}
use Rattle.speed_stretch.specs.declared.Reading.{Reading}
use Rattle.speed_stretch.specs.declared.Reading.TheVariants.{Ratio, Spent, Refused}

-- a reading, or a refusal
pub data SpeedAnswer : Type 0 where
  gives : Speed.Reading → SpeedAnswer
  refuses : Fault → SpeedAnswer

abbrev pub reading_of : Reading → SpeedAnswer
reading_of (Ratio x) = gives (ratio x)
reading_of Spent = gives spent
reading_of (Refused refusal) = refuses refusal
