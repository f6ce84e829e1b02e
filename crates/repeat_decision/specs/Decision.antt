-- What a decision of a body repeated is, and what its functions need.
use Rattle.std.specs.Prelude.{ℕ, suc, ◌+◌, ◌-◌, ◌*◌, ◌≤◌, ◌<◌, ◌≡◌, Bool, true, false, not, ◌&&◌, ◌||◌, List, [], ◌⊎◌, ltb, pos, length, get_or, Option, Some, None}
use Rattle.std.specs.Int.Signed.{le_z}
use Rattle.rules.specs.Numbers.{most_actions, most_levels, longest_coast, summary_numbers}
use Rattle.rules.specs.Words.{sum}
use Rattle.rules.specs.Limits.{Plan}
use Rattle.rules.specs.Run.{level_given, fits, left_granted}
use Rattle.rules.specs.Repeat.{LentBody, stretch_at, lent_plan}
use Rattle.rules.specs.declared.Body.{Body}
use Rattle.repeat_laws.specs.Standing.{Standing}
use Rattle.repeat_limits.specs.Limits.{most_entry, CountsIn, later_of, room_left, narrowed_by, Near, Nears, fits_in}
use Rattle.repeat_decision.specs.declared.Choice.{Choice}
use Rattle.repeat_decision.specs.declared.Fit.{Fit}
use Rattle.repeat_decision.specs.declared.Reached.{Reached}

-- 2 ^ 41, the latest time of a decision: 103,680 actions that take 16,777,215 each end before it
abbrev pub last_start : ℕ
last_start = 2199023255552

-- What a decision takes on a plan at a time and a position.
pub record Chooses (P : Plan) (t x : ℕ) (c : Choice) : Type 0 where
  pub level : c.level ≡ level_given P t x
  pub left : c.left ≡ left_granted longest_coast P t x c.level
  pub late : c.late ≡ not (fits P t x)

-- ---- between the functions

-- 64 actions at 8 levels
abbrev pub most_cells : ℕ
most_cells = most_actions * most_levels

-- a place of a body and fewer bodies after it than there are repeats, with the summaries lent as long as the body says
pub record Summarised (b : Body) (summaries : List ℕ) (place after : ℕ) : Type 0 where
  pub counts : CountsIn b
  pub summed : b.n * b.levels * summary_numbers ≤ length summaries
  pub inside : place < b.n
  pub fewer : after < b.repeats

-- The greatest level that fits, whichever position stands there, and the room at it.
pub record Greatest (b : Body) (summaries : List ℕ) (place after t : ℕ) (f : Fit) : Type 0 where
  pub fits : (x : ℕ) → Standing b x place after → fits (lent_plan b (record { order = []; summaries = summaries; worst = [] })) t x ≡ true
  pub level : (x : ℕ) → Standing b x place after → f.level ≡ level_given (lent_plan b (record { order = []; summaries = summaries; worst = [] })) t x
  pub own : f.own ≡ room_left b.cycle t (later_of b.policy (stretch_at summaries f.level) after)

-- with none, no level fits
abbrev pub Fits : Body → List ℕ → ℕ → ℕ → ℕ → Option Fit → Type 0
Fits b summaries place after t None =
    (x : ℕ) → Standing b x place after → fits (lent_plan b (record { order = []; summaries = summaries; worst = [] })) t x ≡ false
Fits b summaries place after t (Some f) = Greatest b summaries place after t f

-- a level, and a time, before the bodies that come after some place
pub record MayRise (b : Body) (summaries : List ℕ) (q after t : ℕ) : Type 0 where
  pub place : ℕ
  pub summarised : Summarised b summaries place after
  pub level : q < b.levels
  pub early : t ≤ last_start

-- one place on in the same body, after a worst time
abbrev pub onward_by : ℕ → ℕ → Reached → Reached
onward_by levels worst r = record {
  entry = r.entry + levels;
  rest = r.rest - 1;
  after = r.after;
  own = narrowed_by r.own worst;
  above = r.above;
}

-- past the last place of a body, that another comes after it, and the room before it, at the level and at the level above
pub record MayTurn (b : Body) (summaries : List ℕ) (r : Reached) (q : ℕ) : Type 0 where
  pub few : b.n ≤ most_actions
  pub few_levels : b.levels ≤ most_levels
  pub level : q < b.levels
  pub own : b.n * b.levels ≤ r.entry → Nears b.policy summaries q r.after r.own
  pub above : b.n * b.levels ≤ r.entry → suc q < b.levels → Nears b.policy summaries (suc q) r.after r.above

-- the first place of the next body, with the room before one body fewer
pub record Turned (b : Body) (summaries : List ℕ) (r : Reached) (q : ℕ) (to : Reached) : Type 0 where
  pub entry : to.entry ≡ q
  pub rest : to.rest ≡ r.rest
  pub after : to.after ≡ r.after - 1
  pub own : (cycle begins : ℕ) → r.own ≡ room_left cycle begins (later_of b.policy (stretch_at summaries q) r.after)
      → to.own ≡ room_left cycle begins (later_of b.policy (stretch_at summaries q) (r.after - 1))
  pub above : suc q < b.levels → (cycle begins : ℕ) → r.above ≡ room_left cycle begins (later_of b.policy (stretch_at summaries (suc q)) r.after)
      → to.above ≡ room_left cycle begins (later_of b.policy (stretch_at summaries (suc q)) (r.after - 1))

abbrev pub Turns : Body → List ℕ → Reached → ℕ → Reached → Type 0
Turns b summaries r q to = ((r.entry < b.n * b.levels) × (to ≡ r)) ⊎ ((b.n * b.levels ≤ r.entry) × Turned b summaries r q to)

-- the entries that are looked at
pub record MayStop (b : Body) (summaries : List ℕ) (r : Reached) (q : ℕ) : Type 0 where
  pub level : q < b.levels
  pub own : r.entry * summary_numbers + summary_numbers ≤ length summaries
  pub above : suc q < b.levels → suc r.entry * summary_numbers + summary_numbers ≤ length summaries
  pub few : r.entry < most_cells

-- The level does not fit, or the level above does, if there is one.
abbrev pub stops_there : Body → List ℕ → Reached → ℕ → Bool
stops_there b summaries r q =
    not (fits_in (stretch_at summaries r.entry) r.own)
    || (ltb (suc q) b.levels && fits_in (stretch_at summaries (suc r.entry)) r.above)

-- so many places on in the same body, after the worst times of those before
abbrev pub walked : Body → List ℕ → Reached → ℕ → Reached
walked b worst r k = record {
  entry = r.entry + k * b.levels;
  rest = r.rest - k;
  after = r.after;
  own = narrowed_by r.own (sum k (λ j. get_or worst (r.entry + j * b.levels) 0));
  above = r.above;
}

-- places of one body, up to one at which the walk ends and no more than are still to be looked at, with the summaries and the worst times, and room
-- that stays within 64 bits
pub record MayWalk (b : Body) (summaries worst : List ℕ) (r : Reached) (stop q : ℕ) : Type 0 where
  pub counts : CountsIn b
  pub summed : b.n * b.levels * summary_numbers ≤ length summaries
  pub timed : b.n * b.levels ≤ length worst
  pub level : q < b.levels
  pub place : ℕ
  pub last : ℕ
  pub inside : last ≤ b.n
  pub enough : last ≤ place + r.rest
  pub entry_is : r.entry ≡ place * b.levels + q
  pub stop_is : stop ≡ last * b.levels + q
  pub near : (k : ℕ) → k ≤ b.n * most_entry → Near (narrowed_by r.own k)

-- The walk goes on at every place that it has passed, and stops at the one it has reached, or ends there.
pub record Walks (b : Body) (summaries worst : List ℕ) (r : Reached) (stop q : ℕ) (to : Reached) : Type 0 where
  pub steps : ℕ
  pub is : to ≡ walked b worst r steps
  pub goes : (k : ℕ) → k < steps → (r.entry + k * b.levels < stop) × (stops_there b summaries (walked b worst r k) q ≡ false)
  pub stops : ((to.entry < stop) × (stops_there b summaries to q ≡ true)) ⊎ (stop ≤ to.entry)

-- a level that fits at a time where the level above does not, with its room
pub record MayGrant (b : Body) (T : LentBody) (place after : ℕ) (f : Fit) (t : ℕ) : Type 0 where
  pub summarised : Summarised b T.summaries place after
  pub timed : b.n * b.levels ≤ length T.worst
  pub level : f.level < b.levels
  pub early : t ≤ last_start
  pub rooms : Greatest b T.summaries place after t f
  pub fits : (x : ℕ) → Standing b x place after → le_z (pos t) ((lent_plan b T).limit x f.level) ≡ true
  pub none_above : (x : ℕ) → Standing b x place after → suc f.level < b.levels
      → le_z (pos t) ((lent_plan b T).limit x (suc f.level)) ≡ false

-- a place and a time, with the summaries and the worst times
pub record MayChoose (b : Body) (T : LentBody) (place after t : ℕ) : Type 0 where
  pub summarised : Summarised b T.summaries place after
  pub timed : b.n * b.levels ≤ length T.worst
  pub early : t ≤ last_start
