-- The run calls: records stay in range, and asking and reporting through a whole cycle is the dry run. Assumes nothing.
use Prim.Native.Nat.{ℕ, zero, suc, ◌+◌, ◌-◌, ◌*◌, ◌≤◌, ◌<◌, min}
use mathlib.Core.Path.{◌≡◌, refl, ap, sym, ◌∙◌}
use mathlib.Core.Bool.{Bool, true, false, not, cond, ◌&&◌, ◌||◌, true≢false}
use mathlib.Core.List.{List}
use mathlib.Core.Logic.{◌≢◌}
use native.Mathlib.Nat.{le_refl, le_trans, mul-le-mul_right}
use native.Mathlib.Omega.{arith}
use borrow.Author.Tests.{le-ltb, ne_eqb, eqb-false}
use lib.Dec.{leb, ltb, eqb, leb→le, le→leb, ltb→lt, lt→ltb}
use lib.IntN.{pos}
use lib.Signed.{le_z}
use lib.ListN.{length, get_or}
use Rattle.rules.specs.Numbers.{last_clock, longest_time}
use Rattle.rules.specs.Words.{every, one_if}
use Rattle.rules.specs.Limits.{LentTables, Plan}
use Rattle.rules.specs.Refusals.{first}
use Rattle.rules.specs.Run.{Run, in_cycle, in_range, begun, decide, coast, fits, decides, given, ended, qualifies, left_granted, level_given, lent, Next, Answer, ask_row, ask_refusal, ask, report_row, report_refusal, report}
use Rattle.rules.specs.Dry.{step, before, cell}
use Rattle.rules.proofs.Tests.{pass, passed, and-true, last_is}
use Rattle.rules.proofs.Demand.Record.{Same, given-same, n_is, levels-is, position-is, clock_rises}

-- ---- the ranges, as facts

-- where a record stands in its cycle, whatever the number of positions
pub record InCycle (r : Run) : Type 0 where
  pub position : r.position ≤ r.n
  pub clock : r.clock ≤ last_clock
  pub running : r.position + one_if r.running ≤ r.n
  pub level : r.level < r.levels
  pub left : r.left ≤ 15
  pub room : r.left + (r.position + one_if r.running) ≤ r.n
  pub decisions : r.decisions ≤ r.position + one_if r.running

pub record InRange (r : Run) : Type 0 where
  pub some_action : 1 ≤ r.n
  pub few : r.n ≤ 64
  pub some_level : 1 ≤ r.levels
  pub few_levels : r.levels ≤ 8
  pub position : r.position ≤ r.n
  pub clock : r.clock ≤ last_clock
  pub running : r.position + one_if r.running ≤ r.n
  pub level : r.level < r.levels
  pub left : r.left ≤ 15
  pub room : r.left + (r.position + one_if r.running) ≤ r.n
  pub decisions : r.decisions ≤ r.position + one_if r.running

split : (b : Bool) (x : Bool) → b && x ≡ true → (b ≡ true) × (x ≡ true)
split b x h = (and-true b x).0 h

pub in_cycle_facts : (r : Run) → every (in_cycle r) ≡ true → InCycle r
unfolding every
in_cycle_facts r h =
    let e = split (leb r.position r.n) _ h in
    let f = split (leb r.clock last_clock) _ e.1 in
    let g = split (leb (r.position + one_if r.running) r.n) _ f.1 in
    let i = split (ltb r.level r.levels) _ g.1 in
    let j = split (leb r.left 15) _ i.1 in
    let k = split (leb (r.left + (r.position + one_if r.running)) r.n) _ j.1 in
    let l = split (leb r.decisions (r.position + one_if r.running)) true k.1 in
    record {
      position = leb→le _ _ (pass _ e.0);
      clock = leb→le _ _ (pass _ f.0);
      running = leb→le _ _ (pass _ g.0);
      level = ltb→lt _ _ (pass _ i.0);
      left = leb→le _ _ (pass _ j.0);
      room = leb→le _ _ (pass _ k.0);
      decisions = leb→le _ _ (pass _ l.0);
    }

-- with n and L in their ranges
counted : (r s : Run) → InRange r → s.n ≡ r.n → s.levels ≡ r.levels → InCycle s → InRange s
counted r s F n levels C = record {
  some_action = omega (arith, F.some_action);
  few = omega (arith, F.few);
  some_level = omega (arith, F.some_level);
  few_levels = omega (arith, F.few_levels);
  position = C.position;
  clock = C.clock;
  running = C.running;
  level = C.level;
  left = C.left;
  room = C.room;
  decisions = C.decisions;
}

pub cycle-of : {r : Run} → InRange r → InCycle r
cycle-of F = record {
  position = F.position;
  clock = F.clock;
  running = F.running;
  level = F.level;
  left = F.left;
  room = F.room;
  decisions = F.decisions;
}

pub in_range_facts : (r : Run) → in_range r ≡ true → InRange r
unfolding in_range every
in_range_facts r h =
    let a = split (leb 1 r.n) _ h in
    let b = split (leb r.n 64) _ a.1 in
    let c = split (leb 1 r.levels) _ b.1 in
    let d = split (leb r.levels 8) _ c.1 in
    let C = in_cycle_facts r d.1 in
    record {
      some_action = leb→le _ _ (pass _ a.0);
      few = leb→le _ _ (pass _ b.0);
      some_level = leb→le _ _ (pass _ c.0);
      few_levels = leb→le _ _ (pass _ d.0);
      position = C.position;
      clock = C.clock;
      running = C.running;
      level = C.level;
      left = C.left;
      room = C.room;
      decisions = C.decisions;
    }

join : (b x : Bool) → b ≡ true → x ≡ true → b && x ≡ true
join b x p q = (and-true b x).1 (p, q)

within : (m n : ℕ) → m ≤ n → leb m n ≡ true
within m n h = passed _ (le→leb m n h)

pub facts_in_cycle : (r : Run) → InCycle r → every (in_cycle r) ≡ true
unfolding every
facts_in_cycle r F =
    join _ _ (within _ _ F.position)
    (join _ _ (within _ _ F.clock)
    (join _ _ (within _ _ F.running)
    (join (ltb r.level r.levels) _ (passed _ (lt→ltb r.level r.levels F.level))
    (join _ _ (within _ _ F.left)
    (join _ _ (within _ _ F.room)
    (join _ true (within _ _ F.decisions) refl))))))

pub facts_in_range : (r : Run) → InRange r → in_range r ≡ true
unfolding in_range every
facts_in_range r F =
    join _ _ (within _ _ F.some_action)
    (join _ _ (within _ _ F.few)
    (join _ _ (within _ _ F.some_level)
    (join _ _ (within _ _ F.few_levels) (facts_in_cycle r (cycle-of F)))))

-- ---- an accepted call keeps the record in range

-- the two ways of giving, by the coast left
module _ (P : Plan) (r : Run) (same-n : P.n ≡ r.n) (same_levels : P.levels ≡ r.levels) (some : 1 ≤ r.levels) (F : InCycle r)
    (waits : r.running ≡ false) (more : r.position < r.n) where
  granted_room : (t i q : ℕ) → i ≡ r.position → left_granted 16 P t i q < min 16 (r.n - r.position)
  unfolding left_granted
  granted_room t i q e = omega (arith, (last_is (λ x. qualifies P t i q (suc x)) (min 16 (P.n - i))).below (omega arith))

  given_below : (t i : ℕ) → level_given P t i < r.levels
  unfolding level_given
  given_below t i = omega (arith, (last_is (λ q. le_z (pos t) (P.limit i q)) P.levels).below (omega arith))

  none_runs : one_if r.running ≡ 0
  none_runs = ap one_if waits

  pub given-in_cycle : InCycle (given 16 P r)
  unfolding given decides
  given-in_cycle = by (decides r) refl
    where
      by : (b : Bool) → decides r ≡ b → InCycle (cond b (decide 16 P r) (coast r))
      by true e = record {
        position = F.position;
        clock = F.clock;
        running = omega arith;
        level = given_below r.clock r.position;
        left = omega (arith, granted_room r.clock r.position (level_given P r.clock r.position) refl);
        room = omega (arith, granted_room r.clock r.position (level_given P r.clock r.position) refl);
        decisions = omega (arith, F.decisions, none_runs);
      }
      by false e = record {
        position = F.position;
        clock = F.clock;
        running = omega arith;
        level = F.level;
        left = omega (arith, F.left);
        room = omega (arith, F.room, none_runs, some_left e);
        decisions = omega (arith, F.decisions, none_runs);
      }
        where
          some_left : decides r ≡ false → 0 < r.left
          some_left e = let ne : r.left ≢ 0 = eqb-false r.left 0 e in omega arith

pub given-in_range : (P : Plan) (r : Run) → P.n ≡ r.n → P.levels ≡ r.levels → InRange r → r.running ≡ false → r.position < r.n → InRange (given 16 P r)
given-in_range P r n levels F waits more =
    let same = given-same 16 P r in
    counted r (given 16 P r) F same.n same.levels (given-in_cycle P r n levels F.some_level (cycle-of F) waits more)

pub ended-in_cycle : (w t : ℕ) (r : Run) → InCycle r → r.running ≡ true → t ≤ last_clock → InCycle (ended w t r)
unfolding ended
ended-in_cycle w t r F runs h = by (ltb w (t - r.clock))
  where
    one_runs : one_if r.running ≡ 1
    one_runs = ap one_if runs

    by : (b : Bool) → InCycle (record {
      n = r.n;
      levels = r.levels;
      position = suc r.position;
      clock = t;
      running = false;
      level = r.level;
      left = cond b 0 r.left;
      decisions = r.decisions;
      overrun = r.overrun || b;
      late = r.late;
    })
    by b = record {
      position = omega (arith, F.running, one_runs);
      clock = h;
      running = omega (arith, F.running, one_runs);
      level = F.level;
      left = le_trans (less b) F.left;
      room = omega (arith, less b, F.room, one_runs);
      decisions = omega (arith, F.decisions, one_runs);
    }
      where
        less : (b : Bool) → cond b 0 r.left ≤ r.left
        less true = omega arith
        less false = le_refl _

pub ended-in_range : (w t : ℕ) (r : Run) → InRange r → r.running ≡ true → t ≤ last_clock → InRange (ended w t r)
unfolding ended
ended-in_range w t r F runs h = counted r (ended w t r) F refl refl (ended-in_cycle w t r (cycle-of F) runs h)

pub begun-in_cycle : (n L t : ℕ) → 1 ≤ L → t ≤ last_clock → InCycle (begun n L t)
unfolding begun
begun-in_cycle n L t c e = record {
  position = omega arith;
  clock = e;
  running = omega arith;
  level = c;
  left = omega arith;
  room = omega arith;
  decisions = omega arith;
}

pub begun-in_range : (n L t : ℕ) → 1 ≤ n → n ≤ 64 → 1 ≤ L → L ≤ 8 → t ≤ last_clock → InRange (begun n L t)
unfolding begun
begun-in_range n L t a b c d e =
    let C = begun-in_cycle n L t c e in
    record {
      some_action = a;
      few = b;
      some_level = c;
      few_levels = d;
      position = C.position;
      clock = C.clock;
      running = C.running;
      level = C.level;
      left = C.left;
      room = C.room;
      decisions = C.decisions;
    }

-- ---- accepted calls

skip : (b : Bool) (k m : ℕ) → b ≡ false → m ≡ 0 → cond b k m ≡ 0
skip true k m h e = absurd (true≢false h)
skip false k m h e = e

neither : (a b c : Bool) → a ≡ false → b ≡ false → c ≡ false → a || b || c ≡ false
neither a b c p q s = ap (λ (x : Bool). x || b || c) p ∙ ap (λ (x : Bool). x || c) q ∙ s

-- the two rows, by their tests
pub ask_row-none : (ranged short : Bool) (r : Run) → ranged ≡ true → short ≡ false → r.running ≡ false → r.position < r.n → ask_row ranged short r ≡ 0
unfolding first
ask_row-none ranged short r h room waits more =
    skip _ 11 _ (ap not h) (skip _ 17 _ room (skip _ 11 _ waits (skip _ 10 0 (ne_eqb r.position r.n (λ e. omega arith)) refl)))

pub report_row-none : (ranged short : Bool) (t : ℕ) (r : Run) → ranged ≡ true → short ≡ false → r.running ≡ true → r.clock ≤ t → t ≤ last_clock
    → report_row ranged short t r ≡ 0
unfolding first
report_row-none ranged short t r h room runs b c =
    skip _ 11 _ (ap not h) (skip _ 17 _ room (skip _ 11 _ (ap not runs) (skip _ 12 _ (le-ltb _ _ b) (skip _ 13 0 (le-ltb _ _ c) refl))))

module _ (T : LentTables) (r : Run) (F : InRange r) where
  pub ask-accepted : r.n ≤ length T.order → r.n * r.levels ≤ length T.limits → r.n * r.levels * 16 ≤ length T.bounds
      → r.running ≡ false → r.position < r.n
      → let P = lent r.n r.levels T in
      ask T r
      ≡ Answer.gives (get_or T.order r.position 0) (given 16 P r).level (decides r) (decides r && not (fits P r.clock r.position)) (given 16 P r)
  unfolding ask ask_refusal
  ask-accepted a b c waits more =
      let P = lent r.n r.levels T in
      ap (λ (k : ℕ). cond (eqb k 0)
      (Answer.gives (get_or T.order r.position 0) (given 16 P r).level (decides r) (decides r && not (fits P r.clock r.position)) (given 16 P r))
      (Answer.refused k r))
      (ask_row-none (in_range r) _ r (facts_in_range r F) (neither _ _ _ (le-ltb _ _ a) (le-ltb _ _ b) (le-ltb _ _ c)) waits more)

module _ (worst : List ℕ) (t : ℕ) (r : Run) (F : InRange r) where
  pub report-accepted : r.n * r.levels ≤ length worst → r.running ≡ true → r.clock ≤ t → t ≤ last_clock
      → report worst t r ≡ record { number = 0; run = ended (get_or worst (r.position * r.levels + r.level) 0) t r }
  unfolding report report_refusal
  report-accepted a runs b c =
      ap (λ (k : ℕ). cond {A = Next} (eqb k 0)
      (record { number = 0; run = ended (get_or worst (r.position * r.levels + r.level) 0) t r })
      (record { number = k; run = r })) (report_row-none (in_range r) _ t r (facts_in_range r F) (le-ltb _ _ a) runs b c)

-- ---- a whole cycle by calls

-- Asked and reported i times from the record r, no call refused, and s is the record then. The calls are any on a record.
pub data Called (asks : Run → Answer) (reports : ℕ → Run → Next) (d : ℕ → ℕ → ℕ) (r : Run) : ℕ → Run → Type 0 where
  none : Called asks reports d r 0 r
  more : {i a q : ℕ} {decided late : Bool} {s s' s'' : Run} → Called asks reports d r i s
      → asks s ≡ Answer.gives a q decided late s'
      → reports (s.clock + d s.position q) s' ≡ record { number = 0; run = s'' } → Called asks reports d r (suc i) s''

-- ---- levels and clocks of a cycle, over any plan

module _ (P : Plan) (w d : ℕ → ℕ → ℕ) (some : 1 ≤ P.levels) where
  given-low : (r : Run) → r.level < P.levels → (given 16 P r).level < P.levels
  unfolding given level_given
  given-low r h = by (decides r)
    where
      by : (b : Bool) → (cond b (decide 16 P r) (coast r)).level < P.levels
      by true = (last_is (λ q. le_z (pos r.clock) (P.limit r.position q)) P.levels).below some
      by false = h

  -- the level is one of the plan's
  pub level_at : (i : ℕ) → (before 16 P w d 0 i).level < P.levels
  unfolding before begun step ended
  level_at zero = some
  level_at (suc i) = given-low (before 16 P w d 0 i) (level_at i)

  pub level_given-at : (i : ℕ) → (given 16 P (before 16 P w d 0 i)).level < P.levels
  level_given-at i = given-low (before 16 P w d 0 i) (level_at i)

  -- Where no duration is above 16,777,215, so many positions end by so many times that.
  pub ends_by : ((p q : ℕ) → p < P.n → q < P.levels → d p q ≤ longest_time) → (i : ℕ) → i ≤ P.n → (before 16 P w d 0 i).clock ≤ i * longest_time
  unfolding before begun step ended
  ends_by short zero l = omega arith
  ends_by short (suc i) l =
      let r = before 16 P w d 0 i in
      omega (arith, ends_by short i (omega arith), short r.position (given 16 P r).level (omega (arith, position-is 16 P w d 0 i)) (level_given-at i))

-- ---- calls

-- Calls that are accepted on every record of a plan's cycle that stands in it, the plan P with the worst times w.
pub record Accepting (P : Plan) (w : ℕ → ℕ → ℕ) (asks : Run → Answer) (reports : ℕ → Run → Next) : Type 0 where
  pub action : ℕ → ℕ
  pub asked : (r : Run) → r.n ≡ P.n → r.levels ≡ P.levels → InCycle r → r.running ≡ false → r.position < r.n
      → asks r ≡ Answer.gives (action r.position) (given 16 P r).level (decides r) (decides r && not (fits P r.clock r.position)) (given 16 P r)
  pub reported : (t : ℕ) (r : Run) → r.n ≡ P.n → r.levels ≡ P.levels → InCycle r → r.running ≡ true → r.clock ≤ t → t ≤ last_clock
      → reports t r ≡ record { number = 0; run = ended (w r.position r.level) t r }

module _ {P : Plan} {w : ℕ → ℕ → ℕ} {asks : Run → Answer} {reports : ℕ → Run → Next} (A : Accepting P w asks reports) (d : ℕ → ℕ → ℕ)
    (some : 1 ≤ P.levels) where
  at : ℕ → Run
  at i = before 16 P w d 0 i

  waits : (i : ℕ) → (at i).running ≡ false
  unfolding at before begun step ended
  waits zero = refl
  waits (suc i) = refl

  n-at : (i : ℕ) → (at i).n ≡ P.n
  unfolding at
  n-at i = n_is 16 P w d 0 i

  levels-at : (i : ℕ) → (at i).levels ≡ P.levels
  unfolding at
  levels-at i = levels-is 16 P w d 0 i

  position_at : (i : ℕ) → (at i).position ≡ i
  unfolding at
  position_at i = position-is 16 P w d 0 i

  next : ℕ → Run
  next i = given 16 P (at i)

  same : (i : ℕ) → Same 16 P (at i) (next i)
  unfolding next
  same i = given-same 16 P (at i)

  -- the clock that position i ends at
  end : ℕ → ℕ
  end i = (at i).clock + d (at i).position (next i).level

  ends : (i : ℕ) → (at (suc i)).clock ≡ end i
  unfolding at end next before step ended
  ends i = refl

  runs : (i : ℕ) → (next i).running ≡ true
  unfolding next given
  runs i = by (decides (at i))
    where
      by : (b : Bool) → (cond b (decide 16 P (at i)) (coast (at i))).running ≡ true
      by true = refl
      by false = refl

  in_turn : (i : ℕ) → i < P.n → InCycle (at i) → InCycle (next i)
  unfolding next
  in_turn i l g = given-in_cycle P (at i) (sym (n-at i)) (sym (levels-at i)) (omega (arith, levels-at i)) g (waits i) (omega (arith, n-at i, position_at i))

  module _ (in_time : (before 16 P w d 0 P.n).clock ≤ last_clock) where
    early : (i : ℕ) → i ≤ P.n → (before 16 P w d 0 i).clock ≤ last_clock
    early i l = omega (arith, clock_rises 16 P w d 0 i P.n l)

    good : (i : ℕ) → i ≤ P.n → InCycle (at i)
    unfolding at next end before step
    good zero l = begun-in_cycle P.n P.levels 0 some (omega arith)
    good (suc i) l = ended-in_cycle _ (end i) (next i) (in_turn i l (good i (omega arith))) (runs i) (omega (arith, ends i, early (suc i) l))

    asked-at : (i : ℕ) → i < P.n → asks (at i)
        ≡ Answer.gives (A.action (at i).position) (next i).level (decides (at i)) (decides (at i) && not (fits P (at i).clock (at i).position)) (next i)
    unfolding next
    asked-at i l = A.asked (at i) (n-at i) (levels-at i) (good i (omega arith)) (waits i) (omega (arith, n-at i, position_at i))

    reported-at : (i : ℕ) → i < P.n → reports (end i) (next i) ≡ record { number = 0; run = at (suc i) }
    unfolding at next end before step
    reported-at i l =
        let S = same i in
        A.reported (end i) (next i) (S.n ∙ n-at i) (S.levels ∙ levels-at i) (in_turn i l (good i (omega arith))) (runs i) (omega (arith, S.clock))
        (omega (arith, ends i, early (suc i) l))
        ∙ ap (λ (k : ℕ). record { number = 0; run = ended (w k (next i).level) (end i) (next i) }) S.position

    -- The steps of the rules are asking and reporting through a whole cycle that ends within the latest clock: no call is refused, and the records are
    -- the same.
    pub steps_called : (i : ℕ) → i ≤ P.n → Called asks reports d (begun P.n P.levels 0) i (before 16 P w d 0 i)
    unfolding at next end before
    steps_called zero l = Called.none
    steps_called (suc i) l = Called.more (steps_called i (omega arith)) (asked-at i l) (reported-at i l)

-- ---- of a plain cycle

module _ (n L : ℕ) (T : LentTables) (d : ℕ → ℕ → ℕ)
    (counts : InRange (begun n L 0)) (orders : n ≤ length T.order) (limited : n * L ≤ length T.limits)
    (bounded : n * L * 16 ≤ length T.bounds) (timed : n * L ≤ length T.worst)
    (short : (p q : ℕ) → p < n → q < L → d p q ≤ longest_time) where
  -- n by L, as a record has it
  cells : (r : Run) → r.n ≡ n → r.levels ≡ L → r.n * r.levels ≡ n * L
  cells r a b = ap (λ (x : ℕ). x * r.levels) a ∙ ap (λ (x : ℕ). n * x) b

  ranged : (r : Run) → r.n ≡ n → r.levels ≡ L → InCycle r → InRange r
  unfolding begun
  ranged r a b C = counted (begun n L 0) r counts a b C

  accepting : Accepting (lent n L T) (cell T.worst L) (ask T) (report T.worst)
  unfolding lent
  accepting = record {
    action = λ i. get_or T.order i 0;
    asked = λ r a b C waits more.
        ask-accepted T r (ranged r a b C) (omega arith) (omega (arith, cells r a b)) (omega (arith, cells r a b)) waits more
        ∙ ap (λ (m : ℕ). with_plan r (lent m r.levels T)) a
        ∙ ap (λ (m : ℕ). with_plan r (lent n m T)) b;
    reported = λ t r a b C runs low high.
        report-accepted T.worst t r (ranged r a b C) (omega (arith, cells r a b)) runs low high
        ∙ ap (λ (k : ℕ). record { number = 0; run = ended (get_or T.worst (r.position * k + r.level) 0) t r }) b;
  }
    where
      with_plan : Run → Plan → Answer
      with_plan r Q = Answer.gives (get_or T.order r.position 0) (given 16 Q r).level (decides r) (decides r && not (fits Q r.clock r.position)) (given 16 Q r)

  -- The dry run is asking and reporting through a whole cycle.
  pub dry_called : (i : ℕ) → i ≤ n → Called (ask T) (report T.worst) d (begun n L 0) i (before 16 (lent n L T) (cell T.worst L) d 0 i)
  unfolding lent begun
  dry_called = steps_called accepting d counts.some_level
      (omega (arith, ends_by (lent n L T) (cell T.worst L) d counts.some_level short n (le_refl n), mul-le-mul_right longest_time counts.few))
