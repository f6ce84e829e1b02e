-- The dry run's answer: from the rest of a cycle begun, with a refusal, and that its contract settles it. Assumes nothing.
use Prim.Native.Nat.{ℕ, ◌-◌}
use mathlib.Core.Path.{◌≡◌, sym, ap, ◌∙◌}
use mathlib.Core.Bool.{Bool, false}
use mathlib.Core.List.{List}
use mathlib.Core.Logic.{◌≢◌}
use native.Mathlib.Omega.{arith}
use borrow.Author.Tests.{ne_eqb}
use Rattle.rules.specs.Limits.{LentTables}
use Rattle.rules.specs.Refusals.{First, kept}
use Rattle.rules.specs.Run.{Run, begun}
use Rattle.rules.specs.Dry.{dry_end, dry_call}
use Rattle.rules.proofs.Refusals.{first_one}
use Rattle.fields.specs.Fields.{splice}
use Rattle.run.specs.declared.dry.Dried.{Dried}
use Rattle.run.specs.Dry.{DryLists, dry_rooms, Dries}
use Rattle.run.specs.Cycle.{levels_on, marks_on, onward, Rest}
use Rattle.run.proofs.dry.Onward.{levels-whole, marks_whole, ends-whole}

unfoldable pub made : ℕ → ℕ → ℕ → Bool → Bool → Dried
made number decisions end overrun late = record { refusal = record { number = number }; decisions = decisions; end = end; overrun = overrun; late = late }

module _ (n L : ℕ) (T : LentTables) (durations : List ℕ) (before : DryLists) where
  abbrev Given : ℕ → Type 0
  Given k = First (dry_call n L durations (dry_rooms n L T durations before)) k

  -- a whole cycle
  pub dries : {after : DryLists} (last : Run) → Given 0 → Rest T durations before after (begun n L 0) last
      → Dries n L T durations before after (made 0 last.decisions last.clock last.overrun last.late)
  unfolding begun made
  dries last none rest = record {
    refused = none;
    levels = rest.levels ∙ ap (λ (m : ℕ). splice before.levels 0 (levels_on T durations (begun n L 0) m)) all
        ∙ ap (splice before.levels 0) (levels-whole T durations n L);
    decided = rest.decided ∙ ap (λ (m : ℕ). splice before.decided 0 (marks_on T durations (begun n L 0) m)) all
        ∙ ap (splice before.decided 0) (marks_whole T durations n L);
    decisions = ap (λ (s : Run). s.decisions) ends;
    end = ap (λ (s : Run). s.clock) ends;
    overrun = ap (λ (s : Run). s.overrun) ends;
    late = ap (λ (s : Run). s.late) ends;
  }
    where
      all : n - 0 ≡ n
      all = omega arith

      ends : last ≡ dry_end n L T durations
      ends = rest.ends ∙ ap (onward T durations (begun n L 0)) all ∙ ends-whole T durations n L

  -- with a refusal
  pub dries_not : (k : ℕ) → Given k → k ≢ 0 → Dries n L T durations before before (made k 0 0 false false)
  unfolding made
  dries_not k first some = record {
    refused = first;
    levels = old _ _;
    decided = old _ _;
    decisions = old _ _;
    end = old _ _;
    overrun = old _ _;
    late = old _ _;
  }
    where
      old : {A : Type 0} (new x : A) → x ≡ kept k new x
      old new x = rw (ne_eqb k 0 some)

-- ---- one result only

made_one : {a a' b b' c c' : ℕ} {d d' e e' : Bool} → a ≡ a' → b ≡ b' → c ≡ c' → d ≡ d' → e ≡ e' → made a b c d e ≡ made a' b' c' d' e'
made_one p q r s t = cc

-- Two answers to one call are the same, and so are the lists they leave.
module _ {n L : ℕ} {T : LentTables} {durations : List ℕ} {before a b : DryLists} {r s : Dried}
    (p : Dries n L T durations before a r) (q : Dries n L T durations before b s) where
  same : r.refusal.number ≡ s.refusal.number
  same = first_one (dry_call n L durations (dry_rooms n L T durations before)) r.refusal.number s.refusal.number p.refused q.refused

  as_one : {A : Type 0} (new old : A) {x y : A} → x ≡ kept r.refusal.number new old → y ≡ kept s.refusal.number new old → x ≡ y
  as_one new old e f = e ∙ ap (λ (k : ℕ). kept k new old) same ∙ sym f

  pub lists-one : a ≡ b
  lists-one =
      ap (λ (x : List ℕ). record { levels = x; decided = a.decided }) (as_one _ _ p.levels q.levels)
      ∙ ap (λ (x : List ℕ). record { levels = b.levels; decided = x }) (as_one _ _ p.decided q.decided)

  pub dried_one : r ≡ s
  unfolding made
  dried_one =
      made_one same (as_one _ _ p.decisions q.decisions) (as_one _ _ p.end q.end)
      (as_one _ _ p.overrun q.overrun) (as_one _ _ p.late q.late)
