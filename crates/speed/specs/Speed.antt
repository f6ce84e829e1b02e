-- The speed reading of an image.
use Rattle.std.specs.Prelude.{ℕ, ◌≤◌, ◌<◌, ◌≡◌, Bool, true, false, List, [], ◌∷◌, ◌⊎◌, ◌≢◌, ◌↔◌, Result, Ok, Err, pos, ◌-ℤ◌, get_or, ◌≤ℤ◌, ◌<ℤ◌}
use Rattle.rules.specs.Numbers.{most_actions, last_clock, refused_clock, refused_reading}
use Rattle.rules.specs.Image.{Profile, due, profile}
use Rattle.rules.specs.Order.{Order, TheOrder}
use Rattle.rules.specs.Limits.{Tables, tables, mixed}
use Rattle.rules.specs.Refusals.{Ground, ◌when◌, First, Refuses}
use Rattle.rules.specs.Reasons.{fault_of}
use Rattle.rules.specs.declared.blame.Blame.{Blame}
use Rattle.rules.specs.declared.Fault.{Fault}
use Rattle.rules.specs.Speed.{room, reading, speed_call}
use Rattle.speed_stretch.specs.declared.Reading.{Reading}
use Rattle.speed_stretch.specs.declared.Reading.TheVariants.{Refused}
use Rattle.speed_stretch.specs.Answer.{gives, refuses, reading_of}
use Rattle.image_fields.specs.Reading.{HasRecord}

-- r answers the speed reading of positions first to last at the level and time t: the first refusal that is given, or the reading by the
-- profile's order.
pub record ReadsSpeed (s : List ℕ) (first last level t : ℕ) (r : Reading) : Type 0 where
  pub refusal : Fault
  pub given : Refuses (speed_call s first last level t) refusal
  pub refused : refusal.number ≢ 0 → reading_of r ≡ refuses refusal
  pub read : refusal.number ≡ 0
      → (o : Order (profile s).n) × TheOrder (profile s) o × (reading_of r ≡ gives (reading (tables (profile s) o) first last level t))

-- room is above 0, and t is at most deadline (k) - mixed (i, k, q)
abbrev pub OnTime : Tables → ℕ → ℕ → ℕ → ℕ → Type 0
OnTime S i k q t = (pos 0 <ℤ room S i k q t) × (pos t ≤ℤ (pos (S.deadline k) -ℤ pos (mixed S i k q)))

-- b tells whether the reading is a ratio of at most 1: never with a refusal; without one exactly if it is on time by the profile's order.
pub record Tells (s : List ℕ) (first last level t : ℕ) (b : Bool) : Type 0 where
  pub number : ℕ
  pub given : First (speed_call s first last level t) number
  pub refused : number ≢ 0 → b ≡ false
  pub read : number ≡ 0 → (o : Order (profile s).n) × TheOrder (profile s) o × ((b ≡ true) ↔ OnTime (tables (profile s) o) first last level t)

-- ---- asked between the functions of this crate

-- a reading, or why there is none, as it is answered
abbrev pub answered : Result Reading Blame → Reading
answered (Ok reading) = reading
answered (Err blame) = Refused (fault_of blame)

-- the first position is above the last one, or a position or the level is absent, of n positions and so many levels
abbrev pub Absent : ℕ → ℕ → ℕ → ℕ → ℕ → Type 0
Absent n levels i k q = (k < i) ⊎ ((n ≤ k) ⊎ (levels ≤ q))

-- the call's own refusals, after the image's
abbrev pub own_checks : ℕ → ℕ → ℕ → ℕ → ℕ → ℕ → List Ground
own_checks n levels i k q t = refused_reading when Absent n levels i k q ∷ refused_clock when (last_clock < t) ∷ []

-- the profile F by position, where f has the action at each position: tables F o is by_position F o.at
abbrev pub by_position : Profile → (ℕ → ℕ) → Tables
by_position F f = record {
  n = F.n;
  levels = F.levels;
  deadline = λ k. due F (f k);
  average = λ k q. F.average (f k) q;
  worst = λ k q. F.worst (f k) q;
}

-- the same of the image s and a list of its actions
abbrev pub listed : List ℕ → List ℕ → Tables
listed s actions = by_position (profile s) (λ k. get_or actions k 0)

-- positions first to last and the level are there to be read, in a list of 64 actions
pub record Readable (s : List ℕ) (levels : ℕ) (actions : List ℕ) (first last level : ℕ) : Type 0 where
  pub ordered : first ≤ last
  pub few : last < most_actions
  pub below : level < levels
  pub present : (p : ℕ) → p ≤ last → HasRecord s levels (get_or actions p 0)
