-- The cycle from a record on: one action, and then the rest of it. Assumes nothing.
use Prim.Native.Nat.{ℕ, zero, suc, ◌+◌, ◌-◌, ◌≤◌, ◌<◌}
use mathlib.Core.Path.{◌≡◌, refl, sym, ap, ◌∙◌}
use mathlib.Core.List.{List, [], ◌∷◌}
use native.Mathlib.Numerals.{add-one}
use native.Mathlib.Omega.{arith}
use lib.ListN.{length, set}
use Rattle.rules.specs.Words.{cat, one_if}
use Rattle.rules.specs.Limits.{LentTables, Plan}
use Rattle.rules.specs.Run.{Run, decides, ended, lent, begun}
use Rattle.rules.specs.Dry.{step, before, cell, dry_levels, dry_marks, dry_end}
use Rattle.rules.proofs.Demand.Record.{given-same}
use Rattle.fields.specs.Fields.{splice}
use Rattle.fields.proofs.Splice.{splice-nil, set-splice, splice-join}
use Rattle.fields.proofs.Cats.{cat-front}
use Rattle.fields.proofs.Tabs.{tab_ext}
use Rattle.run.specs.Dry.{DryLists}
use Rattle.run.specs.Cycle.{one_on, onward, levels_on, marks_on, Rest}

-- what the record reads
abbrev pub plan : LentTables → Run → Plan
plan T r = lent r.n r.levels T

-- the record after one action
abbrev pub stepped : LentTables → List ℕ → Run → Run
stepped T durations r = one_on T durations r.n r.levels r

module _ (T : LentTables) (durations : List ℕ) where
  -- n and L stay
  pub n-stays : (r : Run) → (stepped T durations r).n ≡ r.n
  unfolding step ended
  n-stays r = (given-same 16 (plan T r) r).n

  pub levels_stay : (r : Run) → (stepped T durations r).levels ≡ r.levels
  unfolding step ended
  levels_stay r = (given-same 16 (plan T r) r).levels

  pub position-goes_on : (r : Run) → (stepped T durations r).position ≡ suc r.position
  unfolding step ended
  position-goes_on r = ap suc (given-same 16 (plan T r) r).position

  -- ---- the first action split off

  onward-front : (r : Run) (k : ℕ) → onward T durations r (suc k) ≡ onward T durations (stepped T durations r) k
  unfolding onward
  onward-front r zero = refl
  onward-front r (suc k) =
      let s = stepped T durations r in
      ap (one_on T durations r.n r.levels) (onward-front r k)
      ∙ ap (λ (n : ℕ). one_on T durations n r.levels (onward T durations s k)) (sym (n-stays r))
      ∙ ap (λ (L : ℕ). one_on T durations s.n L (onward T durations s k)) (sym (levels_stay r))

  levels-front : (r : Run) (k : ℕ) → levels_on T durations r (suc k) ≡ (stepped T durations r).level ∷ levels_on T durations (stepped T durations r) k
  unfolding levels_on onward
  levels-front r k =
      cat-front (λ j. (onward T durations r (suc j)).level ∷ []) k
      ∙ ap (λ (l : List ℕ). (stepped T durations r).level ∷ l)
      (tab_ext (λ j. (onward T durations r (suc (suc j))).level) (λ j. (onward T durations (stepped T durations r) (suc j)).level) k
      (λ j b. ap (λ (s : Run). s.level) (onward-front r (suc j))))

  marks_front : (r : Run) (k : ℕ) → marks_on T durations r (suc k) ≡ one_if (decides r) ∷ marks_on T durations (stepped T durations r) k
  unfolding marks_on onward
  marks_front r k =
      cat-front (λ j. one_if (decides (onward T durations r j)) ∷ []) k
      ∙ ap (λ (l : List ℕ). one_if (decides r) ∷ l)
      (tab_ext (λ j. one_if (decides (onward T durations r (suc j)))) (λ j. one_if (decides (onward T durations (stepped T durations r) j))) k
      (λ j b. ap (λ (s : Run). one_if (decides s)) (onward-front r j)))

-- ---- the rest of the cycle

-- The two lists with a level and a mark written at a position.
abbrev pub set_at : DryLists → (position level mark : ℕ) → DryLists
set_at lists position level mark = record { levels = set lists.levels position level; decided = set lists.decided position mark }

-- One action done: `next` is the record after it, and the level and the mark are what was written for it.
pub record Stepped (T : LentTables) (durations : List ℕ) (r next : Run) (level mark : ℕ) : Type 0 where
  pub more : r.position < r.n
  pub is : next ≡ stepped T durations r
  pub level_is : level ≡ (stepped T durations r).level
  pub mark_is : mark ≡ one_if (decides r)

module _ {T : LentTables} {durations : List ℕ} {r next : Run} {level mark : ℕ} (st : Stepped T durations r next level mark) where
  same-n : next.n ≡ r.n
  same-n = ap (λ (s : Run). s.n) st.is ∙ n-stays T durations r

  one_on-is : next.position ≡ suc r.position
  one_on-is = ap (λ (s : Run). s.position) st.is ∙ position-goes_on T durations r

  -- fewer remain
  pub step_less : next.n - next.position < r.n - r.position
  step_less = omega (arith, st.more, same-n, one_on-is)

  -- What is left after it, written behind it, is what is left before it.
  pub rest_more : {last : Run} (lists after : DryLists) → r.n ≤ length lists.levels → r.n ≤ length lists.decided
      → Rest T durations (set_at lists r.position level mark) after next last → Rest T durations lists after r last
  unfolding onward
  rest_more lists after in_levels in-marks rest = record {
    levels = behind lists.levels _ (levels_on T durations) (levels-front T durations r left) st.level_is in_levels rest.levels;
    decided = behind lists.decided _ (marks_on T durations) (marks_front T durations r left) st.mark_is in-marks rest.decided;
    ends = rest.ends ∙ ap (λ (s : Run). onward T durations s left) st.is ∙ sym (onward-front T durations r left)
        ∙ ap (onward T durations r) (sym fewer);
  }
    where
      left : ℕ
      left = next.n - next.position

      place : next.position ≡ r.position + 1
      place = one_on-is ∙ sym (add-one r.position)

      fewer : r.n - r.position ≡ suc left
      fewer = omega (arith, st.more, place, same-n)

      behind : {y z : ℕ} (l l' : List ℕ) (on : Run → ℕ → List ℕ) → on r (suc left) ≡ z ∷ on (stepped T durations r) left → y ≡ z → r.n ≤ length l
          → l' ≡ splice (set l r.position y) next.position (on next left) → l' ≡ splice l r.position (on r (r.n - r.position))
      behind {y} l l' on front first h e =
          let inside : r.position < length l = omega (arith, st.more) in
          splice-join l r.position (y ∷ []) (on next left) next.position (omega arith) place (set-splice l r.position y inside) e
          ∙ ap (λ (s : Run). splice l r.position (y ∷ on s left)) st.is
          ∙ ap (λ (z : ℕ). splice l r.position (z ∷ on (stepped T durations r) left)) first
          ∙ ap (splice l r.position) (sym front)
          ∙ ap (λ (k : ℕ). splice l r.position (on r k)) (sym fewer)

-- Where no action remains nothing is written.
pub rest-none : {T : LentTables} {durations : List ℕ} {r : Run} (lists : DryLists) → r.n ≤ r.position → Rest T durations lists lists r r
unfolding onward levels_on marks_on cat
rest-none {r = r} lists h = let none : r.n - r.position ≡ 0 = omega arith in record {
  levels = rw none (sym (splice-nil lists.levels r.position));
  decided = rw none (sym (splice-nil lists.decided r.position));
  ends = rw none;
}

-- ---- the whole cycle

-- From the start on it is the dry run of the rules.
module _ (T : LentTables) (durations : List ℕ) (n L : ℕ) where
  onward-begun : (i : ℕ) → onward T durations (begun n L 0) i ≡ before 16 (lent n L T) (cell T.worst L) (cell durations L) 0 i
  unfolding onward before begun lent
  onward-begun zero = refl
  onward-begun (suc i) = ap (one_on T durations n L) (onward-begun i)

  pub levels-whole : levels_on T durations (begun n L 0) n ≡ dry_levels n L T durations
  unfolding levels_on dry_levels
  levels-whole = tab_ext _ _ n (λ j b. ap (λ (s : Run). s.level) (onward-begun (suc j)))

  pub marks_whole : marks_on T durations (begun n L 0) n ≡ dry_marks n L T durations
  unfolding marks_on dry_marks
  marks_whole = tab_ext _ _ n (λ j b. ap (λ (s : Run). one_if (decides s)) (onward-begun j))

  pub ends-whole : onward T durations (begun n L 0) n ≡ dry_end n L T durations
  unfolding dry_end
  ends-whole = onward-begun n
