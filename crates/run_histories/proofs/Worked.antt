-- A history worked out: case 1 of the rules, Three with durations 6, 8, 4, and refused calls between. By computing alone.
use Prim.Native.Nat.{ℕ}
use mathlib.Core.Path.{◌≡◌, refl}
use mathlib.Core.List.{List, [], ◌∷◌, ◌++◌, map}
use lib.IntN.{ℤ, pos, negsuc}
use lib.ListN.{replicate}
use Rattle.rules.specs.Words.{last_passing, all_pass, every}
use Rattle.rules.specs.Limits.{LentTables, absent}
use Rattle.rules.specs.Refusals.{first}
use Rattle.rules.specs.Run.{begun, in_range, level_given, fits, qualifies, left_granted, decides, given, ended, lent, ask_refusal, ask, report_refusal, report}
use Rattle.run_histories.specs.History.{Call, asks, reports, reply, number, handed, after, along, replies, asking_of, clock_of, askings, clocks, duration, clock_before, decided_count}

-- Three, as the planner writes it.
abbrev gone : ℕ → List ℤ
gone k = replicate k absent

abbrev three : LentTables
three = record {
  order = 0 ∷ 1 ∷ 2 ∷ [];
  limits = pos 8 ∷ pos 0 ∷ pos 12 ∷ pos 6 ∷ pos 16 ∷ pos 12 ∷ [];
  worst = 4 ∷ 8 ∷ 4 ∷ 8 ∷ 4 ∷ 8 ∷ [];
  bounds =
      (pos 8 ∷ pos 8 ∷ pos 8 ∷ gone 13) ++ (pos 0 ∷ negsuc 1 ∷ negsuc 3 ∷ gone 13) ++ (pos 12 ∷ pos 12 ∷ gone 14) ++ (pos 6 ∷ pos 4 ∷ gone 14)
      ++ (pos 16 ∷ gone 15) ++ (pos 12 ∷ gone 15);
}

-- the same without the limits
abbrev short : LentTables
short = record { order = three.order; limits = []; worst = three.worst; bounds = three.bounds }

abbrev end_at : ℕ → Call
end_at t = reports three.worst t

-- Between its calls: a report while none runs, an asking on short tables, one while an action runs, a report on short times, a clock that goes
-- back, one above the limit, and an asking when all is done.
abbrev first_case : List Call
first_case =
    end_at 5
    ∷ asks short
    ∷ asks three
    ∷ asks three
    ∷ end_at 6
    ∷ asks three
    ∷ reports [] 14
    ∷ end_at 5
    ∷ end_at 14
    ∷ end_at 15
    ∷ asks three
    ∷ end_at 1073741824
    ∷ end_at 18
    ∷ asks three
    ∷ []

-- Each number of refusal of the two calls is among the answers; the levels are 1, 1, 0, all decided, and the clocks those of the accepted reports.
worked : (map number (replies first_case (begun 3 2 0)) ≡ 11 ∷ 17 ∷ 0 ∷ 11 ∷ 0 ∷ 0 ∷ 17 ∷ 12 ∷ 0 ∷ 11 ∷ 0 ∷ 13 ∷ 0 ∷ 10 ∷ [])
    × (map (λ x. x.level) (askings first_case (begun 3 2 0)) ≡ 1 ∷ 1 ∷ 0 ∷ [])
    × (decided_count (askings first_case (begun 3 2 0)) ≡ 3)
    × (clocks first_case (begun 3 2 0) ≡ 6 ∷ 14 ∷ 18 ∷ [])
    × (map (duration 0 (clocks first_case (begun 3 2 0))) (0 ∷ 1 ∷ 2 ∷ []) ≡ 6 ∷ 8 ∷ 4 ∷ [])
unfolding along after reply handed number asking_of clock_of duration clock_before decided_count
    ask report ask_refusal report_refusal first in_range every begun
    given decides ended lent level_given fits qualifies left_granted last_passing all_pass
worked = (refl, refl, refl, refl, refl)
