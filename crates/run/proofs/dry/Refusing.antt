-- The row of refusals of the dry run, and what is known where none is given. Assumes nothing.
use Prim.Native.Nat.{ℕ, ◌+◌, ◌*◌, ◌≤◌, ◌<◌}
use mathlib.Core.Path.{◌≡◌, refl, sym, ◌∙◌}
use mathlib.Core.Bool.{Bool, true, false, cond, ◌&&◌, ◌||◌, false≢true, or_assoc, or-false}
use mathlib.Core.List.{List, [], ◌∷◌}
use mathlib.Core.Logic.{inl, inr, ⊎_elim}
use native.Mathlib.Nat.{mul-le-mul}
use native.Mathlib.Numerals.{add-one}
use native.Mathlib.Omega.{arith}
use lib.Bits.{bit_or, or_lt, or_add_and, and_le_l, and_le_r}
use lib.Dec.{leb, ltb, eqb, lit<}
use lib.ListN.{length, get_or}
use borrow.Author.Tests.{le-leb, lt-leb, ltb-true, ltb-false, leb-true, leb-false}
use Rattle.rules.specs.Numbers.{longest_time}
use Rattle.rules.specs.Words.{all_pass}
use Rattle.rules.specs.Limits.{LentTables}
use Rattle.rules.specs.Refusals.{first, First, CountsOut, Tight}
use Rattle.rules.specs.Run.{begun, start_refusal}
use Rattle.rules.specs.Dry.{dry_call}
use Rattle.rules.specs.Recording.{short}
use Rattle.rules.proofs.Tests.{neither, or-true}
use Rattle.rules.proofs.Refusals.{None, first-none}
use Rattle.rules.proofs.Calls.{facts_in_range, begun-in_range}
use Rattle.run.proofs.Ranges.{Counts}
use Rattle.run.specs.Dry.{DryLists, dry_rooms}
use Rattle.run.specs.Cycle.{Waiting}

-- ---- 3

pub counts : {n L : ℕ} → (CountsOut n L → ⊥) → Counts n L
counts {n} {L} out =
    let a : (n < 1 → ⊥) = λ h. out (inl h) in
    let b : (64 < n → ⊥) = λ h. out (inr (inl h)) in
    let c : (L < 1 → ⊥) = λ h. out (inr (inr (inl h))) in
    let d : (8 < L → ⊥) = λ h. out (inr (inr (inr h))) in
    record { some_action = omega arith; few = omega arith; some_level = omega arith; few_levels = omega arith }

pub counts_in : {n L : ℕ} → Counts n L → CountsOut n L → ⊥
counts_in c = ⊎_elim (λ h. omega arith) (⊎_elim (λ h. omega arith) (⊎_elim (λ h. omega arith) (λ h. omega arith)))

-- as the run judges them
pub unfit-counts-out : (n L : ℕ) → false ≡ eqb (start_refusal n L) 0 → CountsOut n L
unfolding start_refusal first
unfit-counts-out n L e = by (ltb n 1) (ltb 64 n) (ltb L 1) (ltb 8 L) refl refl refl refl e
  where
    by : (a b c d : Bool) → ltb n 1 ≡ a → ltb 64 n ≡ b → ltb L 1 ≡ c → ltb 8 L ≡ d → false ≡ eqb (cond (a || b || c || d) 3 0) 0 → CountsOut n L
    by true b c d p q r s e = inl (ltb-true n 1 p)
    by false true c d p q r s e = inr (inl (ltb-true 64 n q))
    by false false true d p q r s e = inr (inr (inl (ltb-true L 1 r)))
    by false false false true p q r s e = inr (inr (inr (ltb-true 8 L s)))
    by false false false false p q r s e = absurd (false≢true e)

pub few-cells : {n L : ℕ} → Counts n L → n * L ≤ 512
few-cells c = mul-le-mul c.few c.few_levels

-- ---- 17

-- some slice is shorter than needed
unfoldable pub short_of : List (ℕ × ℕ) → Bool
short_of [] = false
short_of (r ∷ rest) = ltb r.0 r.1 || short_of rest

pub is_tight : (rooms : List (ℕ × ℕ)) → short_of rooms ≡ true → Tight rooms
unfolding short_of
is_tight [] h = absurd (false≢true h)
is_tight (r ∷ rest) h = ⊎_elim (λ e. inl (ltb-true r.0 r.1 e)) (λ e. inr (is_tight rest e)) ((or-true _ _).0 h)

pub not_tight : (rooms : List (ℕ × ℕ)) → short_of rooms ≡ false → Tight rooms → ⊥
unfolding short_of
not_tight [] h t = t
not_tight (r ∷ rest) h t =
    let p = neither (ltb r.0 r.1) (short_of rest) h in
    ⊎_elim (λ l. omega (arith, ltb-false r.0 r.1 p.0)) (not_tight rest p.1) t

pub record Room (n L : ℕ) (T : LentTables) (durations : List ℕ) (lists : DryLists) : Type 0 where
  pub limited : n * L ≤ length T.limits
  pub timed : n * L ≤ length T.worst
  pub bounded : n * L * 16 ≤ length T.bounds
  pub lasting : n * L ≤ length durations
  pub gives : n ≤ length lists.levels
  pub marked : n ≤ length lists.decided

module _ (n L : ℕ) (T : LentTables) (durations : List ℕ) (lists : DryLists) where
  -- the six tests, one after another
  abbrev tested : Bool
  tested =
      ltb (length T.limits) (n * L) || ltb (length T.worst) (n * L) || ltb (length T.bounds) (n * L * 16)
      || ltb (length durations) (n * L) || ltb (length lists.levels) n || ltb (length lists.decided) n

  tested-is : tested ≡ short_of (dry_rooms n L T durations lists)
  unfolding short_of
  tested-is =
      six (ltb (length T.limits) (n * L)) (ltb (length T.worst) (n * L)) (ltb (length T.bounds) (n * L * 16))
      (ltb (length durations) (n * L)) (ltb (length lists.levels) n) (ltb (length lists.decided) n)
    where
      six : (a b c d e f : Bool) → a || b || c || d || e || f ≡ a || (b || (c || (d || (e || (f || false)))))
      six a b c d e f = simp (or_assoc, or-false)

  pub tested_tight : tested ≡ true → Tight (dry_rooms n L T durations lists)
  tested_tight h = is_tight _ (sym tested-is ∙ h)

  pub tested_roomy : tested ≡ false → Tight (dry_rooms n L T durations lists) → ⊥
  tested_roomy h = not_tight _ (sym tested-is ∙ h)

  pub room : (Tight (dry_rooms n L T durations lists) → ⊥) → Room n L T durations lists
  room out =
      let a : (length T.limits < n * L → ⊥) = λ h. out (inl h) in
      let b : (length T.worst < n * L → ⊥) = λ h. out (inr (inl h)) in
      let c : (length T.bounds < n * L * 16 → ⊥) = λ h. out (inr (inr (inl h))) in
      let d : (length durations < n * L → ⊥) = λ h. out (inr (inr (inr (inl h)))) in
      let e : (length lists.levels < n → ⊥) = λ h. out (inr (inr (inr (inr (inl h))))) in
      let f : (length lists.decided < n → ⊥) = λ h. out (inr (inr (inr (inr (inr (inl h)))))) in
      record { limited = omega arith; timed = omega arith; bounded = omega arith; lasting = omega arith; gives = omega arith; marked = omega arith }

-- ---- 16

-- two numbers are short where the bits of both together are
or_short : (a b : ℕ) → leb a longest_time && leb b longest_time ≡ leb (bit_or a b) longest_time
or_short a b = by (leb a longest_time) (leb b longest_time) refl refl
  where
    by : (p q : Bool) → leb a longest_time ≡ p → leb b longest_time ≡ q → p && q ≡ leb (bit_or a b) longest_time
    by true true h k =
        let both = or_lt 24 a b (omega (arith, leb-true a longest_time h)) (omega (arith, leb-true b longest_time k)) in
        sym (le-leb (bit_or a b) longest_time (omega (arith, both)))
    by true false h k = sym (lt-leb (bit_or a b) longest_time (omega (arith, or_add_and a b, and_le_l a b, leb-false b longest_time k)))
    by false q h k = sym (lt-leb (bit_or a b) longest_time (omega (arith, or_add_and a b, and_le_r a b, leb-false a longest_time h)))

-- the bits of the first k entries together, and of one more
pub all_short-more : (durations : List ℕ) (k all : ℕ) → all_pass (short durations) k ≡ leb all longest_time
    → all_pass (short durations) (k + 1) ≡ leb (bit_or all (get_or durations k 0)) longest_time
unfolding all_pass
all_short-more durations k all h = rw (add-one, h) (or_short all (get_or durations k 0))

-- ---- where none is given

module _ (n L : ℕ) (T : LentTables) (durations : List ℕ) (lists : DryLists)
    (none : First (dry_call n L durations (dry_rooms n L T durations lists)) 0) where
  none_of : None (dry_call n L durations (dry_rooms n L T durations lists))
  none_of = (first-none (dry_call n L durations (dry_rooms n L T durations lists)) (lit< tt, (lit< tt, (lit< tt, tt)))).0 none

  pub is-counted : Counts n L
  is-counted = counts none_of.0

  pub ready-begun : Waiting T durations lists (begun n L 0)
  unfolding begun
  ready-begun =
      let c = is-counted in
      let r = room n L T durations lists none_of.1.0 in
      record {
        ranged = facts_in_range _ (begun-in_range n L 0 c.some_action c.few c.some_level c.few_levels (omega arith));
        waits = refl;
        limited = r.limited;
        timed = r.timed;
        bounded = r.bounded;
        lasting = r.lasting;
        gives = r.gives;
        marked = r.marked;
        early = omega arith;
        short = λ k l. at_most k (λ h. none_of.1.1.0 (k, l, h));
      }
    where
      at_most : (k : ℕ) → (longest_time < get_or durations k 0 → ⊥) → get_or durations k 0 ≤ longest_time
      at_most k h = omega arith
