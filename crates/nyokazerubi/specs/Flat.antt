-- A body as a host lends it, and the answers that are laid flat for a host, since an enum does not cross to C.
use Rattle.std.specs.Prelude.{ℕ, ◌≡◌, true, false, cond, List, pos, Float, get_or}
use Rattle.std.specs.Float.{fin}
use Rattle.rules.specs.Run as rules
use Rattle.rules.specs.Numbers.{most_actions}
use Rattle.rules.specs.declared.Body.{Body}
use Rattle.rules.specs.declared.Refusal.{Refusal}
use Rattle.rules.specs.declared.Fault.{Fault}
use Rattle.rules.specs.Speed.{ratio, spent}
use Rattle.speed_stretch.specs.Answer.{SpeedAnswer, gives, refuses, reading_of}
use Rattle.speed_stretch.specs.declared.Reading.{Reading}
use Rattle.speed.specs.Speed.{ReadsSpeed}
use Rattle.repeat_run.specs.declared.BodyRun.{BodyRun}
use Rattle.nyokazerubi.specs.declared.runs.Given.{Given}
use Rattle.nyokazerubi.specs.declared.bodies.Asked.{Asked}
use Rattle.nyokazerubi.specs.declared.readings.Read.{Read}

-- The version of the boundary.
abbrev pub boundary : ℕ
boundary = 6

-- ---- a body

-- A body as it lies in a host's memory: its numbers, one after another.
abbrev pub body_lent : List ℕ → Body
body_lent s = record { n = get_or s 0 0; levels = get_or s 1 0; cycle = get_or s 2 0; repeats = get_or s 3 0; policy = get_or s 4 0 }

-- ---- starting and reporting

-- The refusal and the next record, whose steps are r, in the rules' words.
abbrev pub next_flat : rules.Run → Refusal → rules.Next
next_flat r refusal = record { number = refusal.number; run = r }

-- ---- asking

-- With a refusal its number, and all else is 0 or no.
abbrev pub given_of : rules.Answer → Given
given_of (rules.refused number r) = record { refusal = record { number = number }; action = 0; level = 0; decided = false; late = false }
given_of (rules.gives action level decided late r) =
    record { refusal = record { number = 0 }; action = action; level = level; decided = decided; late = late }

-- The next record; with a refusal the one that was handed.
abbrev pub next_run : rules.Answer → rules.Run
next_run (rules.refused number r) = r
next_run (rules.gives action level decided late r) = r

-- An asking that answers x says g, and leaves a record whose steps are r.
pub record Asks (x : rules.Answer) (r : rules.Run) (g : Given) : Type 0 where
  pub given : g ≡ given_of x
  pub run : r ≡ next_run x

-- the record that an asking of a body leaves
abbrev pub asked_left : Asked → BodyRun
asked_left a = cond a.decided a.made (cond a.coasts a.gone a.run)

-- ---- the speed reading

-- The float 0 stands where there is no ratio.
abbrev pub none : Float
none = fin false 0 (pos 0)

abbrev pub not_refused : Fault
not_refused = record { number = 0; action = most_actions }

abbrev pub read_of : SpeedAnswer → Read
read_of (gives (ratio x)) = record { refusal = not_refused; spent = false; ratio = x }
read_of (gives spent) = record { refusal = not_refused; spent = true; ratio = none }
read_of (refuses refusal) = record { refusal = refusal; spent = false; ratio = none }

-- r is the speed reading of positions first to last at the level and time t.
pub record ReadsFlat (s : List ℕ) (first last level t : ℕ) (r : Read) : Type 0 where
  pub reading : Reading
  pub reads : ReadsSpeed s first last level t reading
  pub flat : r ≡ read_of (reading_of reading)
