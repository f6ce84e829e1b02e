-- Worked from what the row after it carries, the limits of a position are the rules', of either policy, and so is the table that they go to.
-- Assumes nothing.
use Prim.Native.Nat.{ℕ, zero, suc, ◌+◌, ◌*◌, ◌≤◌, ◌<◌, zero-le}
use mathlib.Core.Path.{◌≡◌, refl, sym, ap, ap₂, ◌∙◌}
use mathlib.Core.Bool.{Bool, true, false, cond}
use mathlib.Core.List.{List}
use native.Mathlib.Nat.{mul-le-mul_right}
use native.Mathlib.Numerals.{add-one}
use native.Mathlib.Decide.{dec_lt}
use native.Mathlib.Omega.{arith}
use borrow.Author.Tests.{ne_eqb}
use lib.Dec.{eqb}
use lib.IntN.{ℤ, pos, ◌-ℤ◌}
use lib.ListN.{length, get_or, get_or-replicate}
use lib.Signed.{mag}
use Rattle.rules.specs.Numbers.{last_clock, clock_end, policy_2005}
use Rattle.rules.specs.Words.{minZ, tab, rows}
use Rattle.rules.specs.Limits.{Tables, safe, average, limit, limit_of_sums, limit_2005, limit_by}
use Rattle.rules.proofs.Limits.Signed.{AtMost, at-most-less, at-most_sooner}
use Rattle.rules.proofs.Limits.Mixed.{Sound}
use Rattle.rules.proofs.Limits.Rows.{limit-last-row, limit_row-after}
use Rattle.rules.proofs.Limits.Range.{Small, average-range}
use Rattle.rules.proofs.Limits.Parts.{average-last, average-row, safe-last, safe-row, level_0_2005}
use Rattle.rules.proofs.Limits.Years.{range_by}
use Rattle.fields.specs.Fields.{splice}
use Rattle.fields.proofs.Strides.{stride_more}
use Rattle.fields.proofs.Splice.{getD-splice}
use Rattle.fields.proofs.Cats.{cat_from, from-none, from_more, from_done}
use Rattle.fields.proofs.Tabs.{tab_ext, length-tab, getD-tab}
use Rattle.plan_entry.specs.Rows.{latest_start, held_to, Held, limit_of, carried_of, rooms_of, limits_of, row_of_eight, row_of, after_last, SmallRow}
use Rattle.plan_entry.proofs.Signed.{mag_lesser, lesser_left, lesser_either, lesser_again}

-- n positions and so many levels, with the rule and the ranges of an accepted profile
pub record Lawful (S : Tables) (n levels : ℕ) : Type 0 where
  pub positions : S.n ≡ n
  pub levels_are : S.levels ≡ levels
  pub most : levels ≤ 8
  pub sound : Sound S
  pub small : Small S

-- the deadline and the times of position i
pub record Position (S : Tables) (levels i : ℕ) (average worst : ℕ → ℕ) (deadline : ℕ) : Type 0 where
  pub due : deadline ≡ S.deadline i
  pub averages : (q : ℕ) → q < levels → average q ≡ S.average i q
  pub worsts : (q : ℕ) → q < levels → worst q ≡ S.worst i q

-- what the row of position i carries at level q: of the rules' limit and of the limit of the averages alone
abbrev pub carried_at : ℕ → Tables → ℕ → ℕ → ℤ
carried_at policy S i q = carried_of policy q (limit_by policy S i q) (limit_of_sums S (average S) i q)

-- the row at position i, or the one after the last
pub record RowAt (policy : ℕ) (S : Tables) (n levels i : ℕ) (row : List ℤ) : Type 0 where
  pub carries : (q : ℕ) → q < levels → i < n → get_or row q (pos 0) ≡ carried_at policy S i q
  pub after : (q : ℕ) → q < levels → n ≤ i → get_or row q (pos 0) ≡ pos last_clock

-- The loop before it works the position in front of i: the row at i, and the limits from i on in the lent table.
pub record Worked (policy : ℕ) (S : Tables) (n levels : ℕ) (out₀ : List ℤ) (i : ℕ) (next out : List ℤ) : Type 0 where
  pub row : RowAt policy S n levels i next
  pub table : out ≡ splice out₀ (i * levels) (cat_from (λ k. tab (limit_by policy S k) levels) i n)

eight-at : (f : ℕ → ℤ) (levels q : ℕ) → q < levels → get_or (row_of_eight f levels) q (pos 0) ≡ f q
unfolding row_of_eight
eight-at f levels q h =
    getD-splice _ 0 (tab f levels) zero-le q q (pos 0) (omega arith) (omega (arith, length-tab f levels)) ∙ getD-tab f levels q (pos 0) h

-- ---- a step

-- no start at the worst time is later than one at the average, nor than one before a later end
by_worst : (x y : ℤ) (worst average : ℕ) → average ≤ worst → ((t b : ℕ) → AtMost t b x → AtMost t b y)
    → minZ (y -ℤ pos average) (x -ℤ pos worst) ≡ x -ℤ pos worst
by_worst x y worst average h later = lesser_either (y -ℤ pos average) (x -ℤ pos worst)
    ∙ lesser_left (x -ℤ pos worst) (y -ℤ pos average) (λ t b a. (at-most-less t b y average).1
    (later (t + average) b (at-most_sooner (t + average) (t + worst) b x (omega arith) ((at-most-less t b x worst).0 a))))

above : (q : ℕ) → eqb (suc q) 0 ≡ false
above q = ne_eqb (suc q) 0 (omega arith)

-- the step at position i from what the row after it carries, and at the last position from a number that its deadline is not above
module _ (S : Tables) (sound : Sound S) (policy i : ℕ) where
  -- what is carried, held to the deadline where b says that the year is 2005
  abbrev hold : Bool → ℤ → ℤ
  hold b after = cond b (minZ (pos (S.deadline i)) after) after

  abbrev step : Bool → ℕ → ℤ → ℤ → ℤ
  step b q first after = limit_of (S.deadline i) (hold b first) (S.worst i q) (hold b after -ℤ pos (S.average i q))

  module _ (l : suc i < S.n) where
    safe-is : (q : ℕ) → latest_start (S.deadline i) (limit_2005 S (suc i) 0) (S.worst i q) ≡ limit_of_sums S (safe S) i q
    safe-is q = rw (level_0_2005 S (suc i) 0 sound l) (sym (safe-row S i q l))

    limit_2005-is : (q : ℕ) → q < S.levels
        → step true q (limit_2005 S (suc i) 0) (cond (eqb q 0) (limit_2005 S (suc i) q) (limit_of_sums S (average S) (suc i) q)) ≡ limit_2005 S i q
    unfolding limit_2005
    limit_2005-is zero m =
        let end = minZ (pos (S.deadline i)) (limit_2005 S (suc i) 0) in
        rw (lesser_again (pos (S.deadline i)) (limit_2005 S (suc i) 0))
        (by_worst end end (S.worst i 0) (S.average i 0) (sound.ordered i 0 (omega arith) m) (λ t b a. a)
        ∙ safe-is 0
        ∙ sym (level_0_2005 S i 0 sound (omega arith)))
    limit_2005-is (suc q) m = rw (lesser_again (pos (S.deadline i)) (limit_2005 S (suc i) 0), above q) (ap₂ minZ (sym (average-row S i (suc q) l)) (safe-is (suc q)))

    limit-before : (q : ℕ) → q < S.levels
        → step (eqb policy policy_2005) q (carried_at policy S (suc i) 0) (carried_at policy S (suc i) q) ≡ limit_by policy S i q
    limit-before q m = by (eqb policy policy_2005)
      where
        by : (b : Bool) → let f : ℕ → ℕ → ℤ = cond b (limit_2005 S) (limit S) in
            step b q (cond b (f (suc i) 0) (f (suc i) 0)) (cond b (cond (eqb q 0) (f (suc i) q) (limit_of_sums S (average S) (suc i) q)) (f (suc i) q)) ≡ f i q
        by true = limit_2005-is q m
        by false = lesser_either (limit S (suc i) q -ℤ pos (S.average i q)) _ ∙ sym (limit_row-after S sound i q m l)

    -- and the room, where it is carried on
    room-before : (q : ℕ) (x : ℤ)
        → carried_of policy q x (hold (eqb policy policy_2005) (carried_at policy S (suc i) q) -ℤ pos (S.average i q))
        ≡ carried_of policy q x (limit_of_sums S (average S) i q)
    room-before q x = by (eqb policy policy_2005) q
      where
        by : (b : Bool) (q : ℕ) → let f : ℕ → ℕ → ℤ = cond b (limit_2005 S) (limit S) in
            let after = cond b (cond (eqb q 0) (f (suc i) q) (limit_of_sums S (average S) (suc i) q)) (f (suc i) q) in
            cond b (cond (eqb q 0) x (hold b after -ℤ pos (S.average i q))) x ≡ cond b (cond (eqb q 0) x (limit_of_sums S (average S) i q)) x
        by true zero = refl
        by true (suc q) = rw (above q) (sym (average-row S i (suc q) l))
        by false q = refl

  module _ (l : suc i ≡ S.n) (top : ℕ) (under : S.deadline i ≤ top) where
    ends : minZ (pos (S.deadline i)) (pos top) ≡ pos (S.deadline i)
    ends = lesser_left (pos (S.deadline i)) (pos top) (λ t c a. omega arith)

    limit-last : (q : ℕ) → q < S.levels → step (eqb policy policy_2005) q (pos top) (pos top) ≡ limit_by policy S i q
    unfolding limit_2005
    limit-last q m = by (eqb policy policy_2005)
      where
        by : (b : Bool) → step b q (pos top) (pos top) ≡ cond b (limit_2005 S) (limit S) i q
        by true = rw (lesser_again (pos (S.deadline i)) (pos top), ends) (ap₂ minZ (sym (average-last S i q l)) (sym (safe-last S i q l)))
        by false = rw ends (by_worst (pos (S.deadline i)) (pos top) (S.worst i q) (S.average i q) (sound.ordered i q (omega arith) m)
            (λ t b a. omega arith) ∙ sym (limit-last-row S sound i q m l))

    room-last : (q : ℕ) (x : ℤ)
        → carried_of policy q x (hold (eqb policy policy_2005) (pos top) -ℤ pos (S.average i q)) ≡ carried_of policy q x (limit_of_sums S (average S) i q)
    room-last q x = by (eqb policy policy_2005)
      where
        by : (b : Bool) → cond b (cond (eqb q 0) x (hold b (pos top) -ℤ pos (S.average i q))) x ≡ cond b (cond (eqb q 0) x (limit_of_sums S (average S) i q)) x
        by true = ap (cond (eqb q 0) x) (rw ends (sym (average-last S i q l)))
        by false = refl

-- a position's deadline is a clock reading
pub due-small : {S : Tables} {n levels deadline : ℕ} {average worst : ℕ → ℕ} → Lawful S n levels → (i : ℕ) → i < n
    → Position S levels i average worst deadline → deadline ≤ last_clock
due-small lawful i l at = omega (arith, at.due, lawful.small.due i (omega (arith, lawful.positions)))

module _ {S : Tables} {n levels : ℕ} (lawful : Lawful S n levels) (policy : ℕ) where
  in_levels : (q : ℕ) → q < levels → q < S.levels
  in_levels q m = omega (arith, lawful.levels_are)

  pub limit-near : (i q : ℕ) → i < n → q < levels → mag (limit_by policy S i q) < clock_end
  limit-near i q l m = range_by S lawful.sound policy lawful.small i q (omega (arith, lawful.positions)) (in_levels q m)

  carried-near : (i q : ℕ) → i < n → q < levels → mag (carried_at policy S i q) < clock_end
  carried-near i q l m = by (eqb policy policy_2005) (eqb q 0) (limit_by policy S i q) (limit-near i q l m)
    where
      by : (b z : Bool) (x : ℤ) → mag x < clock_end → mag (cond b (cond z x (limit_of_sums S (average S) i q)) x) < clock_end
      by true true x h = h
      by true false x h = average-range S lawful.sound lawful.small i q (omega (arith, lawful.positions)) (in_levels q m)
      by false z x h = h

  -- ---- a row

  pub row-none : {row : List ℤ} → row ≡ after_last → RowAt policy S n levels n row
  row-none e = record {
    carries = λ q m l. let no_such : ⊥ = omega arith in absurd no_such;
    after = λ q m l. rw e (get_or-replicate 8 q (pos last_clock) (pos 0) (omega (arith, lawful.most)));
  }

  -- the row at i from the row at j, which is after it
  module _ {next held : List ℤ} {average worst : ℕ → ℕ} {deadline : ℕ} (i j : ℕ) (e : j ≡ i + 1) (h : j ≤ n)
      (was : RowAt policy S n levels j next) (at : Position S levels i average worst deadline) (holds : Held policy deadline next held) where
    here : i < S.n
    here = omega (arith, lawful.positions)

    s : j ≡ suc i
    s = e ∙ add-one i

    due : deadline ≤ last_clock
    due = due-small lawful i (omega arith) at

    holds_at : (q : ℕ) → q < levels → get_or held q (pos 0) ≡ held_to policy deadline (get_or next q (pos 0))
    holds_at q m = holds.at q (omega (arith, lawful.most))

    near : (q : ℕ) → q < levels → mag (get_or held q (pos 0)) < clock_end
    near q m = rw (holds_at q m) (by (eqb policy policy_2005) (get_or next q (pos 0)) (go (dec_lt j n)))
      where
        go : Dec (j < n) → mag (get_or next q (pos 0)) < clock_end
        go (yes l) = rw (was.carries q m l) (carried-near j q l m)
        go (no l) = rw (was.after q m (omega arith)) (omega arith)

        by : (b : Bool) (x : ℤ) → mag x < clock_end → mag (cond b (minZ (pos deadline) x) x) < clock_end
        by true x k = omega (arith, mag_lesser (pos deadline) x last_clock due (omega arith))
        by false x k = k

    pub row_small : SmallRow held average worst deadline levels
    row_small q m =
        let short = lawful.small.time i q here (in_levels q m) in
        record {
          by_worst = record { due = due; near = near 0 (omega arith); short = omega (arith, at.worsts q m) };
          by_average = record {
            due = due;
            near = near q m;
            short = omega (arith, at.averages q m, lawful.sound.ordered i q here (in_levels q m));
          };
        }

    pub limit_is : (q : ℕ) → q < levels → limits_of held average worst deadline q ≡ limit_by policy S i q
    limit_is q m = rw (holds_at 0 (omega arith), holds_at q m, at.due, at.averages q m, at.worsts q m) (go (dec_lt j n))
      where
        go : Dec (j < n) → step S lawful.sound policy i (eqb policy policy_2005) q (get_or next 0 (pos 0)) (get_or next q (pos 0)) ≡ limit_by policy S i q
        go (yes l) = rw (was.carries 0 (omega arith) l, was.carries q m l, s)
            (limit-before S lawful.sound policy i (omega (arith, lawful.positions)) q (in_levels q m))
        go (no l) = rw (was.after 0 (omega arith) (omega arith), was.after q m (omega arith))
            (limit-last S lawful.sound policy i (omega (arith, lawful.positions)) last_clock (lawful.small.due i here) q (in_levels q m))

    carried_is : (q : ℕ) → q < levels
        → carried_of policy q (limits_of held average worst deadline q) (rooms_of held average q) ≡ carried_at policy S i q
    carried_is q m = rw (limit_is q m, holds_at q m, at.due, at.averages q m) (go (dec_lt j n))
      where
        go : Dec (j < n) → carried_of policy q (limit_by policy S i q) (held_to policy (S.deadline i) (get_or next q (pos 0)) -ℤ pos (S.average i q))
            ≡ carried_at policy S i q
        go (yes l) = rw (was.carries q m l, s)
            (room-before S lawful.sound policy i (omega (arith, lawful.positions)) q (limit_by policy S i q))
        go (no l) = rw (was.after q m (omega arith))
            (room-last S lawful.sound policy i (omega (arith, lawful.positions)) last_clock (lawful.small.due i here) q (limit_by policy S i q))

    pub row_is : {row : List ℤ} → row ≡ row_of policy held average worst deadline levels → RowAt policy S n levels i row
    row_is is = record {
      carries = λ q m l. rw is (eight-at _ levels q m ∙ carried_is q m);
      after = λ q m l. let no_such : ⊥ = omega arith in absurd no_such;
    }

  -- ---- the loop: before it, a turn from position j down to i, and after it

  abbrev limits : ℕ → List ℤ
  limits k = tab (limit_by policy S k) levels

  pub worked-none : (out : List ℤ) {next : List ℤ} → next ≡ after_last → Worked policy S n levels out n next out
  worked-none out e = record { row = row-none e; table = from-none limits out (n * levels) n }

  pub worked-more : (out₀ : List ℤ) {next held out row out' : List ℤ} {average worst : ℕ → ℕ} {deadline : ℕ} (i j : ℕ) → j ≡ i + 1 → j ≤ n
      → n * levels ≤ length out₀ → Worked policy S n levels out₀ j next out → Position S levels i average worst deadline → Held policy deadline next held
      → row ≡ row_of policy held average worst deadline levels → out' ≡ splice out (i * levels) (tab (limits_of held average worst deadline) levels)
      → Worked policy S n levels out₀ i row out'
  worked-more out₀ {held = held} {out = out} {average = average} {worst = worst} {deadline = deadline} i j e h room was at holds is stored =
      let same = tab_ext (limits_of held average worst deadline) (limit_by policy S i) levels (limit_is i j e h was.row at holds) in
      record {
        row = row_is i j e h was.row at holds is;
        table = from_more limits levels (λ k. length-tab (limit_by policy S k) levels) out₀ i j n (j * levels) (i * levels) e h
            (ap (λ (k : ℕ). k * levels) e ∙ stride_more i levels)
            (omega (arith, mul-le-mul_right levels h))
            was.table
            (stored ∙ ap (splice out (i * levels)) same);
      }

  pub worked_done : (out₀ : List ℤ) {next out : List ℤ} (i : ℕ) → i ≡ 0 → Worked policy S n levels out₀ i next out
      → out ≡ splice out₀ 0 (rows (limit_by policy S) n levels)
  worked_done out₀ i e w =
      let start : i * levels ≡ 0 = ap (λ (k : ℕ). k * levels) e ∙ omega arith in
      from_done limits out₀ 0 i n (i * levels) e start w.table
