-- What the calls on a trace promise, in the words of the refresh's rules.
use Rattle.std.specs.Prelude.{ℕ, zero, suc, ◌+◌, ◌*◌, ◌/◌, ◌%◌, ◌^◌, ◌≤◌, ◌<◌, Bool, cond, ◌≡◌, List, [], ◌∷◌, ◌⊎◌, length, get_or}
use Rattle.rules.specs.Numbers.{most_actions, most_levels, refused_name, refused_duration}
use Rattle.rules.specs.Image.{Profile}
use Rattle.rules.specs.Refusals.{Ground, ◌when◌, First}
use Rattle.rules.specs.Refresh.{records, open_of, action_of, level_of, duration_of, Name, Duration, FirstFault}
use Rattle.rules.specs.Refresh.{measures, counted, summed, unmeasured, measured, raised, new_average}
use Rattle.trace.specs.declared.Entry.{Entry}

-- A table has a cell for each action and level, as many as a profile can have.
abbrev pub cells : ℕ
cells = most_actions * most_levels

abbrev pub cell_of : ℕ → ℕ → ℕ
cell_of a q = a * most_levels + q

-- ---- a record, and the check of it

-- e is record r of the trace.
pub record IsRecord (trace : List ℕ) (r : ℕ) (e : Entry) : Type 0 where
  pub opened : e.«open» ≡ open_of trace r
  pub in_cell : e.cell ≡ cell_of (action_of trace r) (level_of trace r)
  pub duration : e.duration ≡ duration_of trace r

-- By cell the first duration that is too long for the profile, 0 where it has no such action or level.
pub record Ceilings (F : Profile) (table : List ℕ) : Type 0 where
  pub present : (a q : ℕ) → a < F.n → q < F.levels → get_or table (cell_of a q) 0 ≡ F.worst a q + 1
  pub absent : (a q : ℕ) → a < most_actions → q < most_levels → (F.n ≤ a) ⊎ (F.levels ≤ q) → get_or table (cell_of a q) 0 ≡ 0

-- What a record is refused for, 15 before 16.
abbrev pub faults_at : Profile → List ℕ → ℕ → List Ground
faults_at F trace r = refused_name when Name F trace r ∷ refused_duration when Duration F trace r ∷ []

abbrev pub FaultOf : Entry → List ℕ → ℕ → Type 0
FaultOf e table k = (F : Profile) (trace : List ℕ) (r : ℕ) → Ceilings F table → IsRecord trace r e → First (faults_at F trace r) k

-- What a trace is refused for, by its first record at fault.
abbrev pub faults : Profile → List ℕ → List Ground
faults F trace = refused_name when ((r : ℕ) × FirstFault F trace r × Name F trace r) ∷ refused_duration when ((r : ℕ) × FirstFault F trace r) ∷ []

-- ---- counts and sums

-- What counts as a measurement, of the record's own action and level.
abbrev pub Measures : Entry → Bool → Type 0
Measures e b = (trace : List ℕ) (r : ℕ) → IsRecord trace r e → b ≡ measures trace (action_of trace r) (level_of trace r) r

-- A table with f a q for action a at level q.
pub record Cells (table : List ℕ) (f : ℕ → ℕ → ℕ) : Type 0 where
  pub size : length table ≡ cells
  pub at : (a q : ℕ) → a < most_actions → q < most_levels → get_or table (cell_of a q) 0 ≡ f a q

-- what one measurement is worth in a tally, which has a count above a sum of durations
abbrev pub count_worth : ℕ
count_worth = 2 ^ 46

-- The measurements of action a at level q among the first m records: their count above their sum.
abbrev pub tally : List ℕ → ℕ → ℕ → ℕ → ℕ
tally trace m a q = counted trace a q m * count_worth + summed trace a q m

abbrev pub Tallied : List ℕ → ℕ → List ℕ → Type 0
Tallied trace m tallies = Cells tallies (tally trace m)

-- What record r adds to the tally of action a at level q: nothing unless it is a measurement of it.
abbrev pub gain : List ℕ → ℕ → ℕ → ℕ → ℕ
gain trace r a q = cond (measures trace a q r) (count_worth + duration_of trace r) 0

abbrev pub Gains : Entry → ℕ → Type 0
Gains e x = (trace : List ℕ) (r : ℕ) → IsRecord trace r e → x ≡ gain trace r (action_of trace r) (level_of trace r)

-- There is room for one record more.
pub record TallyRoom (e : Entry) (tallies : List ℕ) : Type 0 where
  pub present : e.cell < cells
  pub fits : get_or tallies e.cell 0 + (count_worth + e.duration) < 2 ^ 64

abbrev pub Added : Entry → List ℕ → List ℕ → Type 0
Added e tallies tallies' = (trace : List ℕ) (m : ℕ) → IsRecord trace m e → Tallied trace m tallies → Tallied trace (suc m) tallies'

-- The count and the sum of all measurements of action a at level q.
pub record CountsOf (trace : List ℕ) (a q t : ℕ) : Type 0 where
  pub count : t / count_worth ≡ counted trace a q (records trace)
  pub sum : t % count_worth ≡ summed trace a q (records trace)

abbrev pub Weighs : List ℕ → List ℕ → Type 0
Weighs trace tallies = (a q : ℕ) → a < most_actions → q < most_levels → CountsOf trace a q (get_or tallies (cell_of a q) 0)

-- What one pass over a trace gives: the number of its refusal and, with none, the counts and sums of all its measurements.
pub record PassGives (trace ceilings tallies : List ℕ) (k : ℕ) : Type 0 where
  pub number : (F : Profile) → Ceilings F ceilings → First (faults F trace) k
  pub weighs : k ≡ 0 → Weighs trace tallies

-- ---- new averages

-- What an unmeasured level becomes, of its old average.
abbrev pub Unmeasured : ℕ → ℕ → Type 0
Unmeasured average r = (F : Profile) (a q : ℕ) → F.average a q ≡ average → r ≡ unmeasured F a q

-- The average of the measurements of one action at one level.
abbrev pub Averaged : ℕ → ℕ → ℕ → Type 0
Averaged t average r = (F : Profile) (trace : List ℕ) (a q : ℕ) → F.average a q ≡ average → CountsOf trace a q t → r ≡ measured F trace a q

-- The new average before level q, 0 before level 0.
unfoldable pub raised_below : (ℕ → ℕ) → ℕ → ℕ
raised_below time zero = 0
raised_below time (suc q) = raised time q

-- The new average of one level.
abbrev pub Raised : ℕ → ℕ → ℕ → ℕ → Type 0
Raised before t average r =
    (F : Profile) (trace : List ℕ) (a q : ℕ) → F.average a q ≡ average → CountsOf trace a q t → before ≡ raised_below (measured F trace a) q
    → r ≡ new_average F trace a q
