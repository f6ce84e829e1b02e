-- A body repeated: the actions of a profile done N times over, where all deadlines are the cycle's. All is said of the unrolled system, which
-- is a profile as any other: its order, limits, coast bounds and demand 3 are those of the other files.
use Rattle.std.specs.Prelude.{ℕ, zero, suc, ◌+◌, ◌-◌, ◌*◌, ◌/◌, ◌%◌, ◌^◌, ◌<◌, max, min, ◌≡◌, Bool, not, cond, ◌&&◌, ◌||◌, List, [], ◌∷◌, ◌++◌, ◌⊎◌, ◌≢◌, leb, ltb, eqb, ℤ, pos, negsuc, ◌-ℤ◌, length, get_or}
use Rattle.rules.specs.Numbers.{most_actions, most_levels, last_clock, most_repeats, longest_coast, policy_2008, policy_2005, summary_numbers, refused_count, refused_unfit, refused_duration, refused_room, refused_reading, refused_repeats, refused_policy}
use Rattle.rules.specs.Words.{span, greatest_of, maxZ, least_of, every, Some, cat, tab, rows}
use Rattle.rules.specs.Image.{Profile, profile}
use Rattle.rules.specs.Order.{Order, TheOrder}
use Rattle.rules.specs.Limits.{Tables, tables, safe, average, Plan}
use Rattle.rules.specs.Refusals.{Ground, ◌when◌, Test, ◌if◌, first, Count, Range, Table, Unfit, loop_checks, Tight, UnknownPolicy}
use Rattle.rules.specs.Run.{Run, begun, in_cycle, Next, Answer, ask_row, asked_by, report_row, reported_by}
use Rattle.rules.specs.Dry.{cell, LongEntry}
use Rattle.rules.specs.declared.Body.{Body}

-- ---- the unrolled system

-- n N actions: action j n + a is action a of repeat j. Its mask is that of a moved by j n bits; its deadline and times are those of a.
abbrev pub unrolled : Profile → ℕ → Profile
unrolled F N = record {
  n = N * F.n;
  levels = F.levels;
  cycle = F.cycle;
  mask = λ x. F.mask (x % F.n) * 2 ^ (x / F.n * F.n);
  deadline = λ x. F.deadline (x % F.n);
  average = λ x. F.average (x % F.n);
  worst = λ x. F.worst (x % F.n);
}

-- 19 Repeats: N outside 1 to 1,620, or a deadline that is neither 0 nor the cycle
abbrev pub RepeatsOut : ℕ → Type 0
RepeatsOut N = (N < 1) ⊎ (most_repeats < N)

abbrev pub OwnDeadline : Profile → ℕ → Type 0
OwnDeadline F a = (F.deadline a ≢ 0) × (F.deadline a ≢ F.cycle)

abbrev pub Repeats : Profile → ℕ → Type 0
Repeats F N = RepeatsOut N ⊎ Some (OwnDeadline F) F.n

-- An image as a body: its checks up to 8, 19, and 9 where the unrolled system is unfit.
abbrev pub body_checks : List ℕ → ℕ → List Ground
body_checks s N = loop_checks s ++ (refused_repeats when Repeats (profile s) N ∷ refused_unfit when Unfit (unrolled (profile s) N) ∷ [])

-- Planning one by a policy: these, 20, then 17.
abbrev pub body_call : List ℕ → ℕ → ℕ → List (ℕ × ℕ) → List Ground
body_call s N policy rooms = body_checks s N ++ (refused_policy when UnknownPolicy policy ∷ refused_room when Tight rooms ∷ [])

-- ---- summaries

-- A stretch of positions at a level q is summed up by four numbers: A, the averages at q; W, the worst times at level 0; M, the greatest over
-- its positions j of the averages at q before j, the worst time of j at q and the level 0 worst times after j; V, the worst times at q.
pub record Sums : Type 0 where
  pub average : ℕ
  pub lowest : ℕ
  pub mix : ℕ
  pub worst : ℕ

-- the positions i to k at level q
unfoldable pub stretch : Tables → ℕ → ℕ → ℕ → Sums
stretch S q i k = record {
  average = average S i k q;
  lowest = span (λ p. S.worst p 0) i (suc k);
  mix = greatest_of (λ j. span (λ p. S.average p q) i j + safe S j k q) i (k - i);
  worst = span (λ p. S.worst p q) i (suc k);
}

-- Of any number of positions: of none, or of some.
pub data Summary : Type 0 where
  empty : Summary
  of : Sums → Summary

-- the m positions from i
abbrev pub summary : Tables → ℕ → ℕ → ℕ → Summary
summary S q i zero = empty
summary S q i (suc m) = of (stretch S q i (i + m))

-- one after another
abbrev pub joined : Sums → Sums → Sums
joined x y = record {
  average = x.average + y.average;
  lowest = x.lowest + y.lowest;
  mix = max (x.mix + y.lowest) (x.average + y.mix);
  worst = x.worst + y.worst;
}

-- some positions, then any number
abbrev pub followed : Sums → Summary → Sums
followed x empty = x
followed x (of y) = joined x y

abbrev pub join : Summary → Summary → Summary
join empty y = y
join (of x) y = of (followed x y)

-- m equal bodies: m A, m W, M + (m - 1) max (A, W), m V; none is the empty one
abbrev pub bodies : Sums → ℕ → Summary
bodies x zero = empty
bodies x (suc m) = of (record {
  average = suc m * x.average;
  lowest = suc m * x.lowest;
  mix = x.mix + m * max x.average x.lowest;
  worst = suc m * x.worst;
})

-- ---- summaries in 2005

-- The averages and the level 0 worst times are all that it needs of a stretch. In the place of M stands the safe sum of its first position: the worst
-- time of that at q and the level 0 worst times of those after it.
abbrev pub stretch_2005 : Tables → ℕ → ℕ → ℕ → Sums
stretch_2005 S q i k = record {
  average = (stretch S q i k).average;
  lowest = (stretch S q i k).lowest;
  mix = safe S i k q;
  worst = (stretch S q i k).worst;
}

abbrev pub stretch_by : ℕ → Tables → ℕ → ℕ → ℕ → Sums
stretch_by policy S = cond (eqb policy policy_2005) (stretch_2005 S) (stretch S)

-- one after another: M is joined as above, the safe sum grows by the level 0 worst times
abbrev pub joined_by : ℕ → Sums → Sums → Sums
joined_by policy x y = record {
  average = x.average + y.average;
  lowest = x.lowest + y.lowest;
  mix = cond (eqb policy policy_2005) (x.mix + y.lowest) (max (x.mix + y.lowest) (x.average + y.mix));
  worst = x.worst + y.worst;
}

-- What the limit takes off the cycle for a stretch and m bodies after it: in 2008 M of them all; in 2005 the greater of the safe sum and the averages
-- of them all.
abbrev pub needed_2005 : Sums → Sums → ℕ → ℕ
needed_2005 x y m = max (x.mix + m * y.lowest) (x.average + m * y.average)

abbrev pub needed : ℕ → Sums → Sums → ℕ → ℕ
needed policy x y m = cond (eqb policy policy_2005) (needed_2005 x y m) (followed x (bodies y m)).mix

-- ---- what planning a body writes

-- As it is lent to a call, whoever wrote it: the order, n; by position and level the summaries of the rest of the body, n by L by 4; the worst
-- times by position, n by L. A list that a call does not take is empty.
pub record LentBody : Type 0 where
  pub order : List ℕ
  pub summaries : List ℕ
  pub worst : List ℕ

abbrev pub numbers_of : Sums → List ℕ
numbers_of x = x.average ∷ x.lowest ∷ x.mix ∷ x.worst ∷ []

-- the rest of the body from a position at a level
abbrev pub rest_of : ℕ → Tables → ℕ → ℕ → Sums
rest_of policy S i q = stretch_by policy S q i (S.n - 1)

-- by level
abbrev pub summaries_from : ℕ → Tables → ℕ → ℕ → List ℕ
summaries_from policy S L i = cat (λ q. numbers_of (rest_of policy S i q)) L

abbrev pub body_tables : ℕ → (F : Profile) → Order F.n → LentBody
body_tables policy F o = record {
  order = tab o.at F.n;
  summaries = cat (summaries_from policy (tables F o) F.levels) F.n;
  worst = rows (tables F o).worst F.n F.levels;
}

-- ---- what the manager reads

abbrev pub positions : Body → ℕ
positions b = b.repeats * b.n

-- the body of a profile, N times, by a policy
abbrev pub body_of : Profile → ℕ → ℕ → Body
body_of F N policy = record { n = F.n; levels = F.levels; cycle = F.cycle; repeats = N; policy = policy }

-- All positions from x on, where `rest` has the summaries of the rest of a body: those of its own body, then the whole bodies after it. What the limit
-- takes off the cycle for them (M in 2008), and V of them
unfoldable pub mix_from : Body → (ℕ → ℕ → Sums) → ℕ → ℕ → ℕ
mix_from b rest x q = needed b.policy (rest (x % b.n) q) (rest 0 q) (b.repeats - 1 - x / b.n)

unfoldable pub worst_from : Body → (ℕ → ℕ → Sums) → ℕ → ℕ → ℕ
worst_from b rest x q = (followed (rest (x % b.n) q) (bodies (rest 0 q) (b.repeats - 1 - x / b.n))).worst

-- The limit at a position, and the coast bound by these limits: as in any plan the least, over the positions j of the coast, of limit (j, q)
-- minus the worst times before j.
abbrev pub limit_from : Body → (ℕ → ℕ → Sums) → ℕ → ℕ → ℤ
limit_from b rest x q = pos b.cycle -ℤ pos (mix_from b rest x q)

abbrev pub body_plan : Body → (ℕ → ℕ → Sums) → (ℕ → ℕ → ℕ) → Plan
body_plan b rest worst = record {
  n = positions b;
  levels = b.levels;
  limit = limit_from b rest;
  bound = λ i q r. least_of (λ j. limit_from b rest j q -ℤ pos (span (λ p. worst (p % b.n) q) i j)) i (r - 1);
}

-- A coast read by its ends, its first and its last position alone: the cycle must have room for what the limit of the first takes off it, and for the
-- worst times before the last and what the limit of that takes off it. These worst times are V from the first on less V from the last on, and 0 where that is the greater.
abbrev pub last_mix : Body → (ℕ → ℕ → Sums) → ℕ → ℕ → ℕ → ℕ
last_mix b rest i q r = let last : ℕ = i + (r - 1) in worst_from b rest i q - worst_from b rest last q + mix_from b rest last q

abbrev pub ends_mix : Body → (ℕ → ℕ → Sums) → ℕ → ℕ → ℕ → ℕ
ends_mix b rest i q r = max (mix_from b rest i q) (last_mix b rest i q r)

-- It is so read at the top level, where it is as long as there may be: 16 actions, or all that are left.
abbrev pub by_ends : Body → ℕ → ℕ → ℕ → Bool
by_ends b i q r = leb b.levels (suc q) && eqb r (min longest_coast (positions b - i))

-- the summaries and the worst times as they are lent
abbrev pub stretch_at : List ℕ → ℕ → Sums
stretch_at l x = record {
  average = get_or l (x * summary_numbers) 0;
  lowest = get_or l (x * summary_numbers + 1) 0;
  mix = get_or l (x * summary_numbers + 2) 0;
  worst = get_or l (x * summary_numbers + 3) 0;
}

abbrev pub rest_lent : Body → LentBody → ℕ → ℕ → Sums
rest_lent b T i q = stretch_at T.summaries (i * b.levels + q)

-- every coast read at each of its positions
unfoldable pub lent_each : Body → LentBody → Plan
lent_each b T = body_plan b (rest_lent b T) (cell T.worst b.levels)

-- and where it may be by its ends too, with the greater of the two bounds. Where planning wrote the tables they are the same.
unfoldable pub lent_plan : Body → LentBody → Plan
lent_plan b T = record {
  n = positions b;
  levels = b.levels;
  limit = limit_from b (rest_lent b T);
  bound = λ i q r.
      let each : ℤ = (lent_each b T).bound i q r in
      cond (by_ends b i q r) (maxZ (pos b.cycle -ℤ pos (ends_mix b (rest_lent b T) i q r)) each) each;
}

-- the worst times by unrolled position
abbrev pub worst_lent : Body → LentBody → ℕ → ℕ → ℕ
worst_lent b T x q = cell T.worst b.levels (x % b.n) q

-- A body that is not refused, in its order, and lent tables that read as planning writes them.
pub record PlannedBody (F : Profile) (o : Order F.n) (b : Body) (T : LentBody) : Type 0 where
  pub counts : Count F → ⊥
  pub range : Range F → ⊥
  pub table : Table F → ⊥
  pub repeats : Repeats F b.repeats → ⊥
  pub fits : Unfit (unrolled F b.repeats) → ⊥
  pub known : UnknownPolicy b.policy → ⊥
  pub the_order : TheOrder F o
  pub body_is : b ≡ body_of F b.repeats b.policy
  pub order_is : (i : ℕ) → i < F.n → get_or T.order i 0 ≡ o.at i
  pub summaries_are : (i q : ℕ) → i < F.n → q < F.levels → stretch_at T.summaries (i * F.levels + q) ≡ rest_of b.policy (tables F o) i q
  pub worst_is : (i q : ℕ) → i < F.n → q < F.levels → cell T.worst F.levels i q ≡ (tables F o).worst i q

-- ---- the calls, on lent summaries whoever wrote them

-- n, L or the cycle out of range 3, N 19.
abbrev pub body_tests : Body → List Test
body_tests b =
    refused_count if (ltb b.n 1 || ltb most_actions b.n || ltb b.levels 1 || ltb most_levels b.levels || ltb b.cycle 1 || ltb last_clock b.cycle)
    ∷ refused_repeats if (ltb b.repeats 1 || ltb most_repeats b.repeats)
    ∷ []

-- An unknown policy 20: at a start, of a limit and of a coast bound. A record that was started has a known one; in any record, as in every limit, 2005
-- is read as it is and any other year as 2008.
abbrev pub known_tests : Body → List Test
known_tests b = body_tests b ++ (refused_policy if (not (eqb b.policy policy_2008) && not (eqb b.policy policy_2005)) ∷ [])

-- The limit at a position and level, and the coast bound at a length too: room 17, an absent position or level 18, and a length outside 1 to
-- 16. A coast that would go past the last position has the least number of 64 bits, -9,223,372,036,854,775,808.
abbrev pub absent_long : ℤ
absent_long = negsuc 9223372036854775807

unfoldable pub body_limit_refusal : Body → List ℕ → ℕ → ℕ → ℕ
body_limit_refusal b summaries i q =
    first
    (known_tests b
    ++ (refused_room if ltb (length summaries) (b.n * b.levels * summary_numbers) ∷ refused_reading if (leb (positions b) i || leb b.levels q) ∷ []))

unfoldable pub body_bound_refusal : Body → LentBody → ℕ → ℕ → ℕ → ℕ
body_bound_refusal b T i q r =
    let cells : ℕ = b.n * b.levels in
    first
    (known_tests b
    ++ (refused_room if (ltb (length T.summaries) (cells * summary_numbers) || ltb (length T.worst) cells)
    ∷ refused_reading if (leb (positions b) i || leb b.levels q || ltb r 1 || ltb longest_coast r)
    ∷ []))

abbrev pub bound_or_absent : Plan → ℕ → ℕ → ℕ → ℤ
bound_or_absent P i q r = cond (ltb (P.n - i) r) absent_long (P.bound i q r)

-- The run record of a body repeated: n is the number of positions. Fields and ranges are those of the body, then as in a plain cycle.
unfoldable pub body_in_range : Body → Run → Bool
body_in_range b r = eqb (first (body_tests b)) 0 && every (in_cycle r)

-- A start gives 3, 19 or 20, and then a record of zero actions.
abbrev pub no_body : Body
no_body = record { n = 0; levels = 0; cycle = 0; repeats = 0; policy = 0 }

unfoldable pub body_start : Body → Body × Next
body_start b =
    cond (eqb (first (known_tests b)) 0)
    (b, record { number = 0; run = begun (positions b) b.levels 0 })
    (no_body, record { number = first (known_tests b); run = begun 0 0 0 })

-- The action at a position is told by its number in the unrolled system.
abbrev pub action_at : ℕ → List ℕ → ℕ → ℕ
action_at n order x = x / n * n + get_or order (x % n) 0

unfoldable pub body_ask_refusal : Body → LentBody → Run → ℕ
body_ask_refusal b T r =
    let cells : ℕ = b.n * b.levels in
    ask_row (body_in_range b r)
    (ltb (length T.order) b.n || ltb (length T.summaries) (cells * summary_numbers) || ltb (length T.worst) cells) r

unfoldable pub body_ask : Body → LentBody → Run → Answer
body_ask b T r = asked_by (body_ask_refusal b T r) (action_at b.n T.order r.position) (lent_plan b T) r

unfoldable pub body_report_refusal : Body → List ℕ → ℕ → Run → ℕ
body_report_refusal b worst t r = report_row (body_in_range b r) (ltb (length worst) (b.n * b.levels)) t r

unfoldable pub body_report : Body → List ℕ → ℕ → Run → Next
body_report b worst t r = reported_by (body_report_refusal b worst t r) (cell worst b.levels (r.position % b.n) r.level) t r

-- ---- a frame run dry

-- Of an image, N, a policy and n N by L durations by position: the body's, then 20, 17, 16.
abbrev pub body_frame_call : List ℕ → ℕ → ℕ → List ℕ → List (ℕ × ℕ) → List Ground
body_frame_call s N policy durations rooms =
    body_checks s N
    ++ (refused_policy when UnknownPolicy policy
    ∷ refused_room when Tight rooms
    ∷ refused_duration when LongEntry (N * (profile s).n * (profile s).levels) durations
    ∷ [])
