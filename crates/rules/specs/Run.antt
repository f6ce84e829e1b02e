-- The run.
use Rattle.std.specs.Prelude.{ℕ, suc, ◌+◌, ◌-◌, ◌*◌, ◌≤◌, ◌<◌, min, ◌≡◌, Bool, true, false, not, cond, ◌&&◌, ◌||◌, List, [], ◌∷◌, ◌⊎◌, leb, ltb, eqb, pos, ◌≤ℤ◌, length, get_or}
use Rattle.std.specs.Int.Signed.{le_z}
use Rattle.rules.specs.Numbers.{most_actions, most_levels, last_clock, longest_coast, refused_count, refused_finished, refused_turn, refused_back, refused_clock, refused_room}
use Rattle.rules.specs.Words.{last_passing, all_pass, every, one_if}
use Rattle.rules.specs.Limits.{LentTables, Plan}
use Rattle.rules.specs.Refusals.{◌if◌, first}

-- ---- a decision

-- r is from 1 to min (cap, n - i), t is at most the coast bound (i, q, r) and, unless q is the top level, t is above limit (j, q + 1) for
-- every j from i to i + r - 1.
pub record Qualifies (cap : ℕ) (P : Plan) (t i q r : ℕ) : Type 0 where
  pub some : 0 < r
  pub most : r ≤ cap
  pub room : i + r ≤ P.n
  pub under : pos t ≤ℤ P.bound i q r
  pub above : suc q < P.levels → (j : ℕ) → i ≤ j → j < i + r → pos t ≤ℤ P.limit j (suc q) → ⊥

-- A decision grants the greatest r that qualifies. If no r qualifies, r is 1.
pub record Grants (cap : ℕ) (P : Plan) (t i q r : ℕ) : Type 0 where
  pub is : Qualifies cap P t i q r ⊎ ((r ≡ 1) × ((x : ℕ) → Qualifies cap P t i q x → ⊥))
  pub greatest : (x : ℕ) → Qualifies cap P t i q x → x ≤ r

-- The same, computed: the level given at position i and time t, whether it fits, and r - 1, what the decision leaves to coast.
unfoldable pub level_given : Plan → ℕ → ℕ → ℕ
level_given P t i = last_passing (λ q. le_z (pos t) (P.limit i q)) P.levels

unfoldable pub fits : Plan → ℕ → ℕ → Bool
fits P t i = le_z (pos t) (P.limit i (level_given P t i))

unfoldable pub qualifies : Plan → ℕ → ℕ → ℕ → ℕ → Bool
qualifies P t i q r =
    le_z (pos t) (P.bound i q r) && (leb P.levels (suc q) || all_pass (λ j. not (le_z (pos t) (P.limit (i + j) (suc q)))) r)

unfoldable pub left_granted : ℕ → Plan → ℕ → ℕ → ℕ → ℕ
left_granted cap P t i q = last_passing (λ x. qualifies P t i q (suc x)) (min cap (P.n - i))

-- ---- the run record

pub record Run : Type 0 where
  pub n : ℕ
  pub levels : ℕ
  pub position : ℕ
  pub clock : ℕ
  pub running : Bool
  pub level : ℕ
  pub left : ℕ
  pub decisions : ℕ
  pub overrun : Bool
  pub late : Bool

-- Fields and ranges: n, L; position 0 to n; clock up to its limit; whether an action runs (only below n); level below L; coast left, 0 to 15
-- and at most n minus position, less 1 while an action runs; decisions, at most position plus 1 if an action runs; the two marks.
abbrev pub in_cycle : Run → List Bool
in_cycle r =
    leb r.position r.n
    ∷ leb r.clock last_clock
    ∷ leb (r.position + one_if r.running) r.n
    ∷ ltb r.level r.levels
    ∷ leb r.left 15
    ∷ leb (r.left + (r.position + one_if r.running)) r.n
    ∷ leb r.decisions (r.position + one_if r.running)
    ∷ []

unfoldable pub in_range : Run → Bool
in_range r = every (leb 1 r.n ∷ leb r.n most_actions ∷ leb 1 r.levels ∷ leb r.levels most_levels ∷ in_cycle r)

-- A start sets n and L, all else 0 or no.
unfoldable pub begun : ℕ → ℕ → ℕ → Run
begun n L t = record
    { n = n; levels = L; position = 0; clock = t; running = false; level = 0; left = 0; decisions = 0; overrun = false; late = false }

-- A decision takes the level given, leaves r - 1 to coast, counts, and sets the late mark where no level fits.
abbrev pub decide : ℕ → Plan → Run → Run
decide cap P r =
    let q : ℕ = level_given P r.clock r.position in
    record {
      n = r.n;
      levels = r.levels;
      position = r.position;
      clock = r.clock;
      running = true;
      level = q;
      left = left_granted cap P r.clock r.position q;
      decisions = suc r.decisions;
      overrun = r.overrun;
      late = r.late || not (fits P r.clock r.position);
    }

-- A coasted asking gives the same level undecided and lowers what is left by 1.
abbrev pub coast : Run → Run
coast r = record {
  n = r.n;
  levels = r.levels;
  position = r.position;
  clock = r.clock;
  running = true;
  level = r.level;
  left = r.left - 1;
  decisions = r.decisions;
  overrun = r.overrun;
  late = r.late;
}

-- A decision is made where no coast is left.
unfoldable pub decides : Run → Bool
decides r = eqb r.left 0

unfoldable pub given : ℕ → Plan → Run → Run
given cap P r = cond (decides r) (decide cap P r) (coast r)

-- The action's end at clock t, with w its worst time at its level: a duration above w sets the overrun mark and cancels the rest of the coast.
unfoldable pub ended : ℕ → ℕ → Run → Run
ended w t r =
    let over : Bool = ltb w (t - r.clock) in
    record {
      n = r.n;
      levels = r.levels;
      position = suc r.position;
      clock = t;
      running = false;
      level = r.level;
      left = cond over 0 r.left;
      decisions = r.decisions;
      overrun = r.overrun || over;
      late = r.late;
    }

-- ---- the calls, on lent tables whoever wrote them

-- the limits and the coast bounds as they are lent
unfoldable pub lent : ℕ → ℕ → LentTables → Plan
lent n L T = record {
  n = n;
  levels = L;
  limit = λ i q. get_or T.limits (i * L + q) (pos 0);
  bound = λ i q r. get_or T.bounds ((i * L + q) * longest_coast + (r - 1)) (pos 0);
}

-- What a start and a report answer: the number of the refusal, 0 for none, and the next record.
pub record Next : Type 0 where
  pub number : ℕ
  pub run : Run

-- What an asking answers: the number and the record as it stood, or action, level, whether decided, late, and the next record.
pub data Answer : Type 0 where
  refused : ℕ → Run → Answer
  gives : ℕ → ℕ → Bool → Bool → Run → Answer

-- Starting a run checks n and L only (3). A refused start gives a record of zero actions.
unfoldable pub start_refusal : ℕ → ℕ → ℕ
start_refusal n L = first (refused_count if (ltb n 1 || ltb most_actions n || ltb L 1 || ltb most_levels L) ∷ [])

unfoldable pub start : ℕ → ℕ → Next
start n L = cond (eqb (start_refusal n L) 0) (record { number = 0; run = begun n L 0 }) (record { number = start_refusal n L; run = begun 0 0 0 })

-- Asking: fields out of range 11, room 17, an action runs 11, all done 10.
abbrev pub ask_row : Bool → Bool → Run → ℕ
ask_row ranged short r =
    first
    (refused_turn if not ranged
    ∷ refused_room if short
    ∷ refused_turn if r.running
    ∷ refused_finished if eqb r.position r.n
    ∷ [])

unfoldable pub ask_refusal : LentTables → Run → ℕ
ask_refusal T r =
    let cells : ℕ = r.n * r.levels in
    ask_row (in_range r) (ltb (length T.order) r.n || ltb (length T.limits) cells || ltb (length T.bounds) (cells * longest_coast)) r

-- An asking refused by the number k, or where k is 0 not, for an action on a plan.
abbrev pub asked_by : ℕ → ℕ → Plan → Run → Answer
asked_by k action P r =
    let next : Run = given longest_coast P r in
    cond (eqb k 0) (gives action next.level (decides r) (decides r && not (fits P r.clock r.position)) next) (refused k r)

unfoldable pub ask : LentTables → Run → Answer
ask T r = asked_by (ask_refusal T r) (get_or T.order r.position 0) (lent r.n r.levels T) r

-- Reporting an end by the clock t: fields out of range 11, room 17, none runs 11, back 12, above the clock limit 13.
abbrev pub report_row : Bool → Bool → ℕ → Run → ℕ
report_row ranged short t r =
    first
    (refused_turn if not ranged
    ∷ refused_room if short
    ∷ refused_turn if not r.running
    ∷ refused_back if ltb t r.clock
    ∷ refused_clock if ltb last_clock t
    ∷ [])

unfoldable pub report_refusal : List ℕ → ℕ → Run → ℕ
report_refusal worst t r = report_row (in_range r) (ltb (length worst) (r.n * r.levels)) t r

-- A report refused by the number k, or where k is 0 not, of an action whose worst time at its level is w.
abbrev pub reported_by : ℕ → ℕ → ℕ → Run → Next
reported_by k w t r = cond (eqb k 0) (record { number = 0; run = ended w t r }) (record { number = k; run = r })

unfoldable pub report : List ℕ → ℕ → Run → Next
report worst t r = reported_by (report_refusal worst t r) (get_or worst (r.position * r.levels + r.level) 0) t r
