-- The run record stepped by the rules through a whole cycle, and demand 3 of it. Over any policy, any cap on the coast and any start that
-- fits. Assumes nothing.
use Prim.Native.Nat.{ℕ, zero, suc, ◌+◌, ◌-◌, ◌≤◌, ◌<◌, zero-le}
use mathlib.Core.Path.{◌≡◌, refl, ap, sym, subst, ◌∙◌}
use mathlib.Core.Bool.{Bool, true, false, not, cond, ◌&&◌, ◌||◌}
use native.Mathlib.Nat.{le_refl}
use native.Mathlib.Omega.{arith}
use borrow.Author.Tests.{le-ltb}
use lib.Dec.{eqb, ltb, eqb-suc-zero}
use Rattle.rules.specs.Words.{sum, one_if}
use Rattle.rules.specs.Limits.{Tables, Plan}
use Rattle.rules.specs.Run.{level_given, fits, left_granted, Run, begun, decide, coast, decides, given, ended}
use Rattle.rules.specs.Dry.{step, before, level_of, took, decided}
use Rattle.rules.specs.Demand.{Safe, Policy, plan_of, clock, Kept, WithinWorst, DemandThree}
use Rattle.rules.proofs.Sums.{sum_longer}
use Rattle.rules.proofs.Tests.{passed}
use Rattle.rules.proofs.Demand.Asked.{level_given-gives, left_granted_grants}
use Rattle.rules.proofs.Demand.Coast.{gives_fits}
use Rattle.rules.proofs.Demand.Fewest.{safe_on, cycle-kept}
use Rattle.rules.proofs.Demand.Steps.{Steps, steps-cycle}

or-false : (b : Bool) → b || false ≡ b
or-false true = refl
or-false false = refl

-- ---- one step, by fields, over any tables

module _ (cap : ℕ) (P : Plan) where
  pub given-decided : (r : Run) → r.left ≡ 0 → given cap P r ≡ decide cap P r
  unfolding given decides
  given-decided r e = ap (λ (x : ℕ). cond (eqb x 0) (decide cap P r) (coast r)) e

  pub given_coasted : (r : Run) (x : ℕ) → r.left ≡ suc x → given cap P r ≡ coast r
  unfolding given decides
  given_coasted r x e =
      ap (λ (y : ℕ). cond (eqb y 0) (decide cap P r) (coast r)) e ∙ ap (λ (b : Bool). cond b (decide cap P r) (coast r)) (eqb-suc-zero x)

  -- what giving leaves as it was
  pub record Same (r s : Run) : Type 0 where
    pub n : s.n ≡ r.n
    pub levels : s.levels ≡ r.levels
    pub position : s.position ≡ r.position
    pub clock : s.clock ≡ r.clock
    pub overrun : s.overrun ≡ r.overrun

  pub given-same : (r : Run) → Same r (given cap P r)
  unfolding given
  given-same r = at (decides r)
    where
      at : (b : Bool) → Same r (cond b (decide cap P r) (coast r))
      at true = record { n = refl; levels = refl; position = refl; clock = refl; overrun = refl }
      at false = record { n = refl; levels = refl; position = refl; clock = refl; overrun = refl }

  module _ (w d : ℕ → ℕ → ℕ) (t : ℕ) where
    pub position-is : (i : ℕ) → (before cap P w d t i).position ≡ i
    unfolding before begun step ended
    position-is zero = refl
    position-is (suc i) = ap suc ((given-same (before cap P w d t i)).position ∙ position-is i)

    pub clock-is : (i : ℕ) → (before cap P w d t i).clock ≡ clock t (took cap P w d t) i
    unfolding before begun step ended sum
    clock-is zero = omega arith
    clock-is (suc i) = omega (
      arith,
      clock-is i,
      ap (λ (p : ℕ). d p (given cap P (before cap P w d t i)).level) (position-is i),
    )

    -- The clock never goes back.
    pub clock_rises : (i j : ℕ) → i ≤ j → (before cap P w d t i).clock ≤ (before cap P w d t j).clock
    clock_rises i j l = omega (arith, clock-is i, clock-is j, sum_longer (took cap P w d t) i j l)

    pub n_is : (i : ℕ) → (before cap P w d t i).n ≡ P.n
    unfolding before begun step ended
    n_is zero = refl
    n_is (suc i) = (given-same (before cap P w d t i)).n ∙ n_is i

    pub levels-is : (i : ℕ) → (before cap P w d t i).levels ≡ P.levels
    unfolding before begun step ended
    levels-is zero = refl
    levels-is (suc i) = (given-same (before cap P w d t i)).levels ∙ levels-is i

    -- The record counts decisions: the number of positions at which one was made.
    given-decisions : (r : Run) → (given cap P r).decisions ≡ r.decisions + one_if (decides r)
    unfolding given
    given-decisions r = by (decides r)
      where
        by : (b : Bool) → (cond b (decide cap P r) (coast r)).decisions ≡ r.decisions + one_if b
        by true = omega arith
        by false = omega arith

    pub decisions_are : (i : ℕ) → (before cap P w d t i).decisions ≡ sum i (λ j. one_if (decided cap P w d t j))
    unfolding before begun step ended sum
    decisions_are zero = refl
    decisions_are (suc i) = omega (arith, given-decisions (before cap P w d t i), decisions_are i)

    -- what position i took is above its worst time
    abbrev pub over : ℕ → Bool
    over i = ltb (w i (level_of cap P w d t i)) (took cap P w d t i)

    over-is : (i : ℕ) → let r = before cap P w d t i in let q = (given cap P r).level in
        ltb (w r.position q) (r.clock + d r.position q - (given cap P r).clock) ≡ over i
    unfolding before step ended
    over-is i =
        let r = before cap P w d t i in
        let q = (given cap P r).level in
        ap (λ (p : ℕ). ltb (w p q) (r.clock + d p q - (given cap P r).clock)) (position-is i)
        ∙ ap (ltb (w i q)) (left_over r.clock (given cap P r).clock (d i q) (given-same r).clock)
      where
        left_over : (c c' x : ℕ) → c' ≡ c → c + x - c' ≡ x
        left_over c c' x e = omega arith

    -- An overrun sets its mark, which stays, and cancels the rest of the coast: the next action is decided.
    pub overrun-is : (i : ℕ) → (before cap P w d t (suc i)).overrun ≡ (before cap P w d t i).overrun || over i
    unfolding before step ended
    overrun-is i =
        ap (λ (b : Bool). (given cap P (before cap P w d t i)).overrun || b) (over-is i)
        ∙ ap (λ (b : Bool). b || over i) (given-same (before cap P w d t i)).overrun

    pub overrun_cancels : (i : ℕ) → over i ≡ true → decided cap P w d t (suc i) ≡ true
    unfolding before step ended decides
    overrun_cancels i h = ap (λ (b : Bool). eqb (cond b 0 (given cap P (before cap P w d t i)).left) 0) (over-is i ∙ h)

    -- Without one a coast runs on: what is left goes down by 1, and the level stays.
    pub coast-runs_on : (i x : ℕ) → (before cap P w d t i).left ≡ suc x → over i ≡ false
        → ((before cap P w d t (suc i)).left ≡ x) × ((before cap P w d t (suc i)).level ≡ (before cap P w d t i).level)
    unfolding before step ended
    coast-runs_on i x e h =
        let made = given_coasted (before cap P w d t i) x e in
        let less : (before cap P w d t i).left - 1 ≡ x = omega arith in (
          ap (λ (b : Bool). cond b 0 (given cap P (before cap P w d t i)).left) (over-is i ∙ h) ∙ ap (λ (s : Run). s.left) made ∙ less,
          ap (λ (s : Run). s.level) made,
        )

    -- The late mark is set by a decision at which no level fits, never in a coast, and stays.
    given-late : (r : Run) → (given cap P r).late ≡ r.late || (decides r && not (fits P r.clock r.position))
    unfolding given
    given-late r = by (decides r)
      where
        by : (b : Bool) → (cond b (decide cap P r) (coast r)).late ≡ r.late || (b && not (fits P r.clock r.position))
        by true = refl
        by false = sym (or-false r.late)

    pub late_is : (i : ℕ) → (before cap P w d t (suc i)).late
        ≡ (before cap P w d t i).late || (decided cap P w d t i && not (fits P (clock t (took cap P w d t) i) i))
    unfolding before step ended
    late_is i =
        let r = before cap P w d t i in
        given-late r
        ∙ ap (λ (c : ℕ). r.late || (decides r && not (fits P c r.position))) (clock-is i)
        ∙ ap (λ (p : ℕ). r.late || (decides r && not (fits P (clock t (took cap P w d t) i) p))) (position-is i)

-- ---- a cycle within worst

module _ {S : Tables} (cap : ℕ) (some-coast : 0 < cap) (some_level : 0 < S.levels) (P : Policy S) (t : ℕ) (d : ℕ → ℕ → ℕ) (within : WithinWorst cap P t d) where
  at : ℕ → Run
  at i = before cap (plan_of P) S.worst d t i

  got : ℕ → ℕ
  got i = level_of cap (plan_of P) S.worst d t i

  takes : ℕ → ℕ
  takes i = took cap (plan_of P) S.worst d t i

  -- within worst nothing overruns
  none_over : (i : ℕ) → i < S.n → let q = (given cap (plan_of P) (at i)).level in
      ltb (S.worst (at i).position q) ((at i).clock + d (at i).position q - (given cap (plan_of P) (at i)).clock) ≡ false
  unfolding at
  none_over i l = over-is cap (plan_of P) S.worst d t i ∙ le-ltb (S.worst i (level_of cap (plan_of P) S.worst d t i)) (took cap (plan_of P) S.worst d t i) (within i l)

  next-left : (i : ℕ) → i < S.n → (at (suc i)).left ≡ (given cap (plan_of P) (at i)).left
  unfolding at before step ended
  next-left i l = ap (λ (b : Bool). cond b 0 (given cap (plan_of P) (at i)).left) (none_over i l)

  next-overrun : (i : ℕ) → i < S.n → (at (suc i)).overrun ≡ (at i).overrun
  unfolding at before step ended
  next-overrun i l =
      ap (λ (b : Bool). (given cap (plan_of P) (at i)).overrun || b) (none_over i l)
      ∙ or-false (given cap (plan_of P) (at i)).overrun
      ∙ (given-same cap (plan_of P) (at i)).overrun

  pub no_overrun : (i : ℕ) → i ≤ S.n → (before cap (plan_of P) S.worst d t i).overrun ≡ false
  unfolding at before begun
  no_overrun zero l = refl
  no_overrun (suc i) l = next-overrun i l ∙ no_overrun i (omega arith)

  -- what is to come from position i
  abbrev ToCome : ℕ → ℕ → ℕ → Type 0
  ToCome i q x = (m : ℕ) × ((at i).decisions + m ≡ (at S.n).decisions) × Steps cap P t takes got i q x m

  to_come : (rest i : ℕ) → i + rest ≡ S.n → ToCome i (at i).level (at i).left
  unfolding at got takes before step ended
  to_come zero i e = (0, omega (arith, ap (λ (y : ℕ). (at y).decisions) (i_is e)), Steps.over (i_is e))
    where
      i_is : i + 0 ≡ S.n → i ≡ S.n
      i_is h = omega arith
  to_come (suc rest) i e = go (at i).left refl (to_come rest (suc i) (omega arith))
    where
      l : i < S.n
      l = omega arith

      Q : Plan
      Q = plan_of P

      c : ℕ
      c = (at i).clock

      position : (at i).position ≡ i
      position = position-is cap Q S.worst d t i

      time : c ≡ clock t takes i
      time = clock-is cap Q S.worst d t i

      go : (x : ℕ) → (at i).left ≡ x → ToCome (suc i) (got i) (at (suc i)).left → ToCome i (at i).level x
      go zero h next = (
        suc next.0,
        omega (arith, next.1, ap (λ (s : Run). s.decisions) made),
        Steps.decide q (left_granted cap Q (clock t takes i) i q) l
            (level_given-gives Q (clock t takes i) i some_level)
            (left_granted_grants Q (clock t takes i) i q cap some-coast l)
            level_is
            (subst (λ (y : ℕ). Steps cap P t takes got (suc i) q y next.0) left_is (subst (λ (y : ℕ). Steps cap P t takes got (suc i) y (at (suc i)).left next.0) level_is next.2)),
      )
        where
          made : given cap Q (at i) ≡ decide cap Q (at i)
          made = given-decided cap Q (at i) h

          q : ℕ
          q = level_given Q (clock t takes i) i

          q_is : level_given Q c (at i).position ≡ q
          q_is = ap (λ (y : ℕ). level_given Q y (at i).position) time ∙ ap (level_given Q (clock t takes i)) position

          level_is : got i ≡ q
          level_is = ap (λ (s : Run). s.level) made ∙ q_is

          left_is : (at (suc i)).left ≡ left_granted cap Q (clock t takes i) i q
          left_is = next-left i l ∙ ap (λ (s : Run). s.left) made
              ∙ ap (λ (y : ℕ). left_granted cap Q y (at i).position (level_given Q c (at i).position)) time
              ∙ ap (λ (y : ℕ). left_granted cap Q (clock t takes i) y (level_given Q c (at i).position)) position
              ∙ ap (left_granted cap Q (clock t takes i) i) q_is
      go (suc x) h next = (
        next.0,
        omega (arith, next.1, ap (λ (s : Run). s.decisions) made),
        Steps.coast l level_is
            (subst (λ (y : ℕ). Steps cap P t takes got (suc i) (at i).level y next.0) left_is (subst (λ (y : ℕ). Steps cap P t takes got (suc i) y (at (suc i)).left next.0) level_is next.2)),
      )
        where
          made : given cap Q (at i) ≡ coast (at i)
          made = given_coasted cap Q (at i) x h

          level_is : got i ≡ (at i).level
          level_is = ap (λ (s : Run). s.level) made

          left_is : (at (suc i)).left ≡ x
          left_is = let less : (at i).left - 1 ≡ x = omega arith in next-left i l ∙ ap (λ (s : Run). s.left) made ∙ less

  module _ (begins : Safe S t 0 0) where
    kept : Kept cap P t takes got (at S.n).decisions
    unfolding at got takes before begun
    kept = go (to_come S.n 0 (omega arith))
      where
        go : ToCome 0 0 0 → Kept cap P t takes got (at S.n).decisions
        go c = subst (λ (m : ℕ). Kept cap P t takes got m) (omega (arith, c.1))
            (cycle-kept cap some-coast P t takes got c.0 begins within (steps-cycle cap P t takes got (suc S.n) (omega arith) c.2))

    safe_at : (i : ℕ) → i ≤ S.n → Safe S (clock t takes i) i 0
    unfolding got takes sum
    safe_at i l = safe_on cap some-coast P t takes got 0 i zero-le l (λ j a b. kept.asked j (omega arith)) within (λ k a b. omega (arith, begins k a b))

    -- what is given fits, so that nothing is late
    level-fits : (i : ℕ) → i < S.n → fits (plan_of P) (at i).clock (at i).position ≡ true
    unfolding at takes fits
    level-fits i l = rw (clock-is cap (plan_of P) S.worst d t i, position-is cap (plan_of P) S.worst d t i)
        (passed _ (gives_fits P l (safe_at i (omega arith)) (level_given-gives (plan_of P) (clock t takes i) i some_level)).le)

    next-late : (i : ℕ) → i < S.n → (at (suc i)).late ≡ (at i).late
    unfolding at before step ended given
    next-late i l = by (decides (at i))
      where
        by : (b : Bool) → (cond b (decide cap (plan_of P) (at i)) (coast (at i))).late ≡ (at i).late
        by true = ap (λ (f : Bool). (at i).late || not f) (level-fits i l) ∙ or-false (at i).late
        by false = refl

    never_late : (i : ℕ) → i ≤ S.n → (at i).late ≡ false
    unfolding at before begun
    never_late zero l = refl
    never_late (suc i) l = next-late i l ∙ never_late i (omega arith)

    -- Demand 3 of the run record.
    pub demand-three : DemandThree cap P t d
    unfolding at got takes
    demand-three = record {
      kept = kept;
      ends = clock-is cap (plan_of P) S.worst d t S.n;
      no_overrun = no_overrun S.n (le_refl _);
      no_late = never_late S.n (le_refl _);
    }
