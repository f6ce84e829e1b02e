-- Refreshing averages.
use Rattle.std.specs.Prelude.{ℕ, zero, suc, ◌*◌, ◌/◌, ◌%◌, ◌^◌, ◌≤◌, ◌<◌, max, Bool, cond, ◌&&◌, List, [], ◌∷◌, ◌++◌, ◌⊎◌, ◌≢◌, ltb, eqb, length}
use Rattle.rules.specs.Numbers.{most_records, entry_bytes, refused_trace, refused_name, refused_duration, refused_room}
use Rattle.rules.specs.Words.{sum}
use Rattle.rules.specs.Image.{Profile, be, profile, image}
use Rattle.rules.specs.Refusals.{Ground, ◌when◌, Tight, image_checks}

-- ---- a trace record, 40 bits: open 1, action 6, level 3, duration 30

unfoldable pub records : List ℕ → ℕ
records trace = length trace / entry_bytes

unfoldable pub entry : List ℕ → ℕ → ℕ
entry trace r = be trace (r * entry_bytes) entry_bytes

unfoldable pub open_of : List ℕ → ℕ → Bool
open_of trace r = eqb (entry trace r / 2 ^ 39) 1

unfoldable pub action_of : List ℕ → ℕ → ℕ
action_of trace r = entry trace r / 2 ^ 33 % 2 ^ 6

unfoldable pub level_of : List ℕ → ℕ → ℕ
level_of trace r = entry trace r / 2 ^ 30 % 2 ^ 3

unfoldable pub duration_of : List ℕ → ℕ → ℕ
duration_of trace r = entry trace r % 2 ^ 30

-- ---- new averages

-- What counts as a measurement of action a at level q: an open record of it, of a duration above 0. An action without input takes 0: the work
-- did not take place. Closed records and those of duration 0 are checked but not counted.
unfoldable pub measures : List ℕ → ℕ → ℕ → ℕ → Bool
measures trace a q r =
    open_of trace r && (ltb 0 (duration_of trace r) && (eqb (action_of trace r) a && eqb (level_of trace r) q))

-- how many measurements of a at q are among the first m records, and the sum of their durations
unfoldable pub counted : List ℕ → ℕ → ℕ → ℕ → ℕ
counted trace a q m = sum m (λ r. cond (measures trace a q r) 1 0)

unfoldable pub summed : List ℕ → ℕ → ℕ → ℕ → ℕ
summed trace a q m = sum m (λ r. cond (measures trace a q r) (duration_of trace r) 0)

-- With no measurement the old average stays.
unfoldable pub unmeasured : Profile → ℕ → ℕ → ℕ
unmeasured F a q = F.average a q

-- The sum of the measured durations over their count, rounded down.
unfoldable pub measured : Profile → List ℕ → ℕ → ℕ → ℕ
measured F trace a q =
    let m : ℕ = records trace in
    cond (eqb (counted trace a q m) 0) (unmeasured F a q) (summed trace a q m / counted trace a q m)

-- Then, from level 1 up, an average below the one before it takes that value.
unfoldable pub raised : (ℕ → ℕ) → ℕ → ℕ
raised time zero = time zero
raised time (suc q) = max (raised time q) (time (suc q))

unfoldable pub new_average : Profile → List ℕ → ℕ → ℕ → ℕ
new_average F trace a q = raised (measured F trace a) q

-- The new image differs in averages only.
unfoldable pub refreshed : Profile → List ℕ → Profile
refreshed F trace = record {
  n = F.n;
  levels = F.levels;
  cycle = F.cycle;
  mask = F.mask;
  deadline = F.deadline;
  average = new_average F trace;
  worst = F.worst;
}

unfoldable pub new_image : List ℕ → List ℕ → List ℕ
new_image s trace = image (refreshed (profile s) trace)

-- ---- refusals: the image's, then 14, then record by record with 15 before 16, then 17

-- 14 Trace: length not a multiple of 5, or over 65,535 records
abbrev pub Trace : List ℕ → Type 0
Trace trace = (length trace % entry_bytes ≢ 0) ⊎ (most_records < records trace)

-- 15 Name: a record names an absent action or level
abbrev pub Name : Profile → List ℕ → ℕ → Type 0
Name F trace r = (F.n ≤ action_of trace r) ⊎ (F.levels ≤ level_of trace r)

-- 16 Duration: a record longer than that worst time
abbrev pub Duration : Profile → List ℕ → ℕ → Type 0
Duration F trace r = F.worst (action_of trace r) (level_of trace r) < duration_of trace r

-- Record r is at fault, and it is the first that is.
abbrev pub Fault : Profile → List ℕ → ℕ → Type 0
Fault F trace r = Name F trace r ⊎ Duration F trace r

abbrev pub FirstFault : Profile → List ℕ → ℕ → Type 0
FirstFault F trace r = (r < records trace) × (Fault F trace r × ((e : ℕ) → e < r → Fault F trace e → ⊥))

abbrev pub refresh_call : List ℕ → List ℕ → List (ℕ × ℕ) → List Ground
refresh_call s trace rooms =
    image_checks s
    ++ (refused_trace when Trace trace
    ∷ refused_name when ((r : ℕ) × FirstFault (profile s) trace r × Name (profile s) trace r)
    ∷ refused_duration when ((r : ℕ) × FirstFault (profile s) trace r)
    ∷ refused_room when Tight rooms
    ∷ [])
