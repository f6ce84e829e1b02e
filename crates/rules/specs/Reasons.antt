-- What is answered of a refusal: its reason by its number, 0 where nothing is refused, and the action at fault, 64 where none is.
use Rattle.std.specs.Prelude.{ℕ, Option, Some, None, Result, Ok, Err}
use Rattle.rules.specs.Numbers.{most_actions, refused_short, refused_version, refused_count, refused_length, refused_spare, refused_range, refused_table, refused_loop, refused_unfit, refused_finished, refused_turn, refused_back, refused_clock, refused_trace, refused_name, refused_duration, refused_room, refused_reading, refused_repeats, refused_policy}
use Rattle.rules.specs.declared.Reason.{Reason}
use Rattle.rules.specs.declared.Reason.TheVariants.{Short, Version, Count, Length, Spare, Range, Table, Loop, Unfit, Finished, Turn, Back, Clock, Trace, Name, Duration, Room, Reading, Repeats, Policy}
use Rattle.rules.specs.declared.blame.Blame.{Blame}
use Rattle.rules.specs.declared.Fault.{Fault}

abbrev pub number_of : Reason → ℕ
number_of Short = refused_short
number_of Version = refused_version
number_of Count = refused_count
number_of Length = refused_length
number_of Spare = refused_spare
number_of Range = refused_range
number_of Table = refused_table
number_of Loop = refused_loop
number_of Unfit = refused_unfit
number_of Finished = refused_finished
number_of Turn = refused_turn
number_of Back = refused_back
number_of Clock = refused_clock
number_of Trace = refused_trace
number_of Name = refused_name
number_of Duration = refused_duration
number_of Room = refused_room
number_of Reading = refused_reading
number_of Repeats = refused_repeats
number_of Policy = refused_policy

abbrev pub blamed_action : Option ℕ → ℕ
blamed_action None = most_actions
blamed_action (Some a) = a

abbrev pub fault_of : Blame → Fault
fault_of b = record { number = number_of b.reason; action = blamed_action b.action }

-- of a call that may be refused
abbrev pub number : {A : Type 0} → Result A Reason → ℕ
number (Ok _) = 0
number (Err r) = number_of r

abbrev pub fault : {A : Type 0} → Result A Blame → Fault
fault (Ok _) = record { number = 0; action = most_actions }
fault (Err b) = fault_of b
