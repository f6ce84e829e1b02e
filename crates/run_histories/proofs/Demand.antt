-- Demand 3 of the calls, over any policy and any start that fits, and of an accepted image. Assumes nothing.
use Prim.Native.Nat.{ℕ, zero, suc, ◌+◌, ◌≤◌, ◌<◌}
use mathlib.Core.Path.{◌≡◌, refl, ap, sym, subst, ◌∙◌}
use mathlib.Core.Bool.{Bool, true, false, not, cond, ◌&&◌}
use mathlib.Core.List.{List, [], ◌∷◌, ◌++◌}
use native.Mathlib.Decide.{dec_lt, le_ind}
use native.Mathlib.Omega.{arith}
use lib.ListN.{length, get_or, get_or-eq_default}
use Rattle.rules.specs.Numbers.{longest_coast}
use Rattle.rules.specs.Words.{sum, one_if, cat, tab}
use Rattle.rules.specs.Limits.{Tables, Plan, Gives}
use Rattle.rules.specs.Run.{Run, begun, decides, given, ended, fits}
use Rattle.rules.specs.Dry.{step, before}
use Rattle.rules.specs.Demand.{Safe, Policy, plan_of, clock, Kept, WithinWorst, DemandThree}
use Rattle.rules.proofs.Tests.{neither}
use Rattle.rules.proofs.Demand.Record.{demand-three, decisions_are, clock-is, late_is, given-same, no_overrun}
use Rattle.rules.proofs.Demand.Marks.{overrun-within}
use Rattle.rules.proofs.Demand.Along.{kept-alike}
use Rattle.fields.proofs.Tabs.{length-tab, getD-tab}
use Rattle.run_histories.specs.History.{Call, after, EachAccepted, Asking, no_asking, asking_at, askings, clocks, clock_before, duration, decided_count}
use Rattle.run_histories.specs.Demand.{WithinAnswered, CallsKeep}
use Rattle.run_histories.proofs.Cycle.{OnPlan, taken, answer_by, Stands, cycle-part}

-- ---- the decided ones of a table of answers

count-append : (xs : List Asking) (x : Asking) → decided_count (xs ++ x ∷ []) ≡ decided_count xs + one_if x.decided
unfolding decided_count
count-append [] x = by x.decided
  where
    by : (b : Bool) → cond b 1 0 ≡ 0 + one_if b
    by true = refl
    by false = refl
count-append (y ∷ xs) x = by y.decided _ _ _ (count-append xs x)
  where
    by : (b : Bool) (m k l : ℕ) → m ≡ k + l → cond b (suc m) m ≡ cond b (suc k) k + l
    by true m k l e = omega arith
    by false m k l e = e

count-tab : (f : ℕ → Asking) (n : ℕ) → decided_count (tab f n) ≡ sum n (λ j. one_if (f j).decided)
unfolding cat sum decided_count
count-tab f zero = refl
count-tab f (suc n) = count-append (tab f n) (f n) ∙ ap (λ (x : ℕ). x + one_if (f n).decided) (count-tab f n)

-- ---- a history on a policy's tables

module _ {S : Tables} (P : Policy S) (some : 0 < S.levels) (t : ℕ) (acts : ℕ → ℕ) (cs : List Call)
    (on : EachAccepted (OnPlan acts (plan_of P) S.worst) cs (begun S.n S.levels t)) where
  abbrev ks : List ℕ
  ks = clocks cs (begun S.n S.levels t)

  abbrev xs : List Asking
  xs = askings cs (begun S.n S.levels t)

  -- the record after it
  abbrev last : Run
  last = after cs (begun S.n S.levels t)

  abbrev Q : Plan
  Q = plan_of P

  -- the record before position j, and what is answered there
  abbrev at : ℕ → Run
  at j = before longest_coast (plan_of P) S.worst (taken t ks) t j

  abbrev answer : ℕ → Asking
  answer j = answer_by acts (plan_of P) S.worst (taken t ks) t j

  module _ (i : ℕ) (b : Bool) (s : Stands acts (plan_of P) S.worst t ks i b ks xs last) where
    ended_many : length ks ≡ i
    ended_many = ap length s.ends ∙ length-tab (λ j. (at (suc j)).clock) i

    asked_many : length xs ≡ cond b (suc i) i
    asked_many = ap length s.asked ∙ length-tab answer (cond b (suc i) i)

    begun_first : (b : Bool) → i ≤ cond b (suc i) i
    begun_first true = omega arith
    begun_first false = omega arith

    one_runs : (b : Bool) → cond b (suc i) i ≤ suc i
    one_runs true = omega arith
    one_runs false = omega arith

    few-asked : length xs ≤ S.n
    few-asked = omega (arith, asked_many, s.room)

    ended-asked : length ks ≤ length xs
    ended-asked = omega (arith, ended_many, asked_many, begun_first b)

    answer_is : (j : ℕ) → j < length xs → asking_at xs j ≡ answer j
    answer_is j l =
        ap (λ (y : List Asking). get_or y j no_asking) s.asked
        ∙ getD-tab answer (cond b (suc i) i) j no_asking (omega (arith, asked_many))

    action-is : (j : ℕ) → j < length xs → (asking_at xs j).action ≡ acts j
    action-is j l = ap (λ (x : Asking). x.action) (answer_is j l)

    -- the level that position j got, and the clock at it
    level_is : (j : ℕ) → j < length xs → (at (suc j)).level ≡ (asking_at xs j).level
    level_is j l = sym (ap (λ (x : Asking). x.level) (answer_is j l))

    clock-at : (j : ℕ) → j ≤ length ks → clock t (duration t ks) j ≡ clock_before t ks j
    unfolding clock_before before begun
    clock-at zero l = sym (clock-is longest_coast (plan_of P) S.worst (taken t ks) t 0)
    clock-at (suc j) l =
        sym (clock-is longest_coast (plan_of P) S.worst (taken t ks) t (suc j))
        ∙ sym (ap (λ (y : List ℕ). get_or y j 0) s.ends ∙ getD-tab (λ j. (at (suc j)).clock) i j 0 (omega (arith, ended_many)))

    module _ (begins : Safe S t 0 0) (within : WithinAnswered S t ks xs) where
      -- what has not ended counts as taking no time
      all_within : WithinWorst longest_coast P t (taken t ks)
      unfolding duration
      all_within j l = by (dec_lt j (length ks))
        where
          by : Dec (j < length ks) → duration t ks j ≤ S.worst j (at (suc j)).level
          by (yes h) = subst (λ (q : ℕ). duration t ks j ≤ S.worst j q) (sym (level_is j (omega (arith, ended-asked)))) (within j h)
          by (no h) = omega (arith, get_or-eq_default ks 0 {n = j} (omega arith))

      three : DemandThree longest_coast P t (taken t ks)
      three = demand-three longest_coast (omega arith) some P t (taken t ks) all_within begins

      late_parts : (j : ℕ) → (at (suc j)).late ≡ false → ((at j).late ≡ false) × ((answer j).late ≡ false)
      late_parts j e =
          let parts = neither (at j).late _ (sym (late_is longest_coast Q S.worst (taken t ks) t j) ∙ e) in
          (parts.0, ap (λ (c : ℕ). decides (at j) && not (fits Q c j)) (clock-is longest_coast Q S.worst (taken t ks) t j) ∙ parts.1)

      not_late : (j : ℕ) → j ≤ S.n → (at j).late ≡ false
      not_late j l =
          le_ind (λ (m : ℕ). (at m).late ≡ false → (at j).late ≡ false) (λ e. e) (λ m a ih e. ih (late_parts m e).0) S.n l three.no_late

      not-over : (j : ℕ) → j ≤ S.n → (at j).overrun ≡ false
      not-over j l = no_overrun longest_coast (omega arith) some P t (taken t ks) all_within j l

      count-is : (j : ℕ) → (at j).decisions ≡ decided_count (tab answer j)
      count-is j = decisions_are longest_coast Q S.worst (taken t ks) t j ∙ sym (count-tab answer j)

      -- the record after the history
      late_now : (b : Bool) → cond b (suc i) i ≤ S.n → (cond b (given longest_coast Q (at i)) (at i)).late ≡ false
      unfolding before step ended
      late_now true l = not_late (suc i) l
      late_now false l = not_late i l

      over_now : (b : Bool) → cond b (suc i) i ≤ S.n → (cond b (given longest_coast Q (at i)) (at i)).overrun ≡ false
      over_now true l = (given-same longest_coast Q (at i)).overrun ∙ not-over i (omega arith)
      over_now false l = not-over i l

      count_now : (b : Bool) → (cond b (given longest_coast Q (at i)) (at i)).decisions ≡ decided_count (tab answer (cond b (suc i) i))
      unfolding before step ended
      count_now true = count-is (suc i)
      count_now false = count-is i

      keeps : CallsKeep P t ks xs last
      unfolding clock_before
      keeps = record {
        meets = λ j l. subst (λ (c : ℕ). c ≤ S.deadline j) (clock-at (suc j) l) (three.kept.meets j (omega (arith, ended-asked, few-asked)));
        asked = λ j l.
            subst (Gives (plan_of P) (clock_before t ks j) j) (level_is j l)
            (subst (λ (c : ℕ). Gives (plan_of P) c j (at (suc j)).level) (clock-at j (omega (arith, ended_many, asked_many, one_runs b)))
            (three.kept.asked j (omega (arith, few-asked))));
        never_late = λ j l. ap (λ (x : Asking). x.late) (answer_is j l) ∙ (late_parts j (not_late (suc j) (omega (arith, few-asked)))).1;
        no_overrun = ap (λ (r : Run). r.overrun) s.run ∙ over_now b s.room;
        no_late = ap (λ (r : Run). r.late) s.run ∙ late_now b s.room;
        counted = ap (λ (r : Run). r.decisions) s.run ∙ count_now b ∙ ap decided_count (sym s.asked);
        begun_first = ended-asked;
        one_runs = omega (arith, ended_many, asked_many, one_runs b);
        in_cycle = few-asked;
        whole = λ e.
            let all : cond b (suc i) i ≡ S.n = omega (arith, ended_many, begun_first b, s.room) in
            subst (Kept longest_coast P t (duration t ks) (λ j. (asking_at xs j).level))
            (count-is S.n ∙ ap (λ (g : ℕ). decided_count (tab answer g)) (sym all) ∙ ap decided_count (sym s.asked))
            (kept-alike (duration t ks) (λ j. (asking_at xs j).level) (λ j l. refl) (λ j l. level_is j (omega (arith, asked_many))) three.kept);
      }

    -- where the record's overrun mark is not set, no duration was above worst
    unmarked : last.overrun ≡ false → WithinAnswered S t ks xs
    unmarked e j l =
        subst (λ (q : ℕ). duration t ks j ≤ S.worst j q) (level_is j (omega (arith, ended-asked)))
        (overrun-within longest_coast (plan_of P) S.worst (taken t ks) t i (by b (ap (λ (r : Run). r.overrun) (sym s.run) ∙ e))
        j (omega (arith, ended_many)))
      where
        by : (b : Bool) → (cond b (given longest_coast Q (at i)) (at i)).overrun ≡ false → (at i).overrun ≡ false
        by true h = sym (given-same longest_coast Q (at i)).overrun ∙ h
        by false h = h

  -- Demand 3 of the calls: the accepted ones are lent lists that read as the policy's tables; refused ones may be lent anything.
  pub demand-of_calls : Safe S t 0 0 → let r = begun S.n S.levels t in
      WithinAnswered S t (clocks cs r) (askings cs r) → CallsKeep P t (clocks cs r) (askings cs r) (after cs r)
  demand-of_calls begins within =
      let now = cycle-part acts (plan_of P) S.worst t cs on in
      keeps now.0 now.1 now.2 begins within

  -- Where the overrun mark is not set after the history, its durations were within worst.
  pub unmarked_within : let r = begun S.n S.levels t in (after cs r).overrun ≡ false → WithinAnswered S t (clocks cs r) (askings cs r)
  unmarked_within e =
      let now = cycle-part acts (plan_of P) S.worst t cs on in
      unmarked now.0 now.1 now.2 e

  -- The actions answered are those of the lent orders, position by position.
  pub actions_are : let r = begun S.n S.levels t in (j : ℕ) → j < length (askings cs r) → (asking_at (askings cs r) j).action ≡ acts j
  actions_are j l =
      let now = cycle-part acts (plan_of P) S.worst t cs on in
      action-is now.0 now.1 now.2 j l
