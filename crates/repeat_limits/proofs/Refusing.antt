-- What is known where a limit or a coast bound is not refused. Assumes nothing.
use Prim.Native.Nat.{ℕ, ◌+◌, ◌*◌, ◌≤◌, ◌<◌}
use mathlib.Core.Path.{◌≡◌, refl, ◌∙◌}
use mathlib.Core.Bool.{Bool, true, false, not, cond, ◌&&◌, ◌||◌}
use mathlib.Core.List.{List, [], ◌∷◌, ◌++◌}
use mathlib.Core.Logic.{◌≢◌}
use native.Mathlib.Nat.{mul-le-mul, mul-le-mul_right}
use native.Mathlib.Decide.{ℕ_discrete}
use native.Mathlib.Omega.{arith}
use lib.Dec.{leb, ltb, eqb, lit<}
use lib.ListN.{length}
use borrow.Author.Tests.{eq-eqb, ne_eqb, ltb-false, leb-false}
use Rattle.rules.specs.Numbers.{most_actions, most_levels, last_clock, most_repeats, longest_coast, policy_2008, policy_2005, summary_numbers, refused_count, refused_room, refused_reading, refused_repeats}
use Rattle.rules.specs.Refusals.{Test, ◌if◌, first, UnknownPolicy}
use Rattle.rules.specs.Repeat.{LentBody, positions, body_tests, known_tests, body_limit_refusal, body_bound_refusal}
use Rattle.rules.specs.declared.Body.{Body}
use Rattle.rules.proofs.Tests.{neither}
use Rattle.repeat_laws.specs.Standing.{Standing}
use Rattle.repeat_laws.proofs.Standing.{place_in, fewer}
use Rattle.repeat_limits.specs.Limits.{CountsIn, Stands, Summed}

-- a row of refusals that gives none: its first test failed, and the rest gives none
clear : (b : Bool) (k m : ℕ) → 0 < k → 0 ≡ cond b k m → (b ≡ false) × (0 ≡ m)
clear true k m p e = absurd (omega arith)
clear false k m p e = (refl, e)

-- ---- the body

-- its two tests, and that of its policy
abbrev count_out : Body → Bool
count_out b =
    ltb b.n 1 || ltb most_actions b.n || ltb b.levels 1 || ltb most_levels b.levels || ltb b.cycle 1 || ltb last_clock b.cycle

abbrev repeats_out : Body → Bool
repeats_out b = ltb b.repeats 1 || ltb most_repeats b.repeats

abbrev policy_out : Body → Bool
policy_out b = not (eqb b.policy policy_2008) && not (eqb b.policy policy_2005)

-- neither is given exactly where none of the tests fails
pub body-at-once : (b : Body) → not (count_out b || ltb b.repeats 1 || ltb most_repeats b.repeats) ≡ eqb (first (body_tests b)) 0
unfolding first
body-at-once b = by (count_out b) (ltb b.repeats 1) (ltb most_repeats b.repeats)
  where
    by : (x y z : Bool) → not (x || y || z) ≡ eqb (cond x refused_count (cond (y || z) refused_repeats 0)) 0
    by true y z = refl
    by false true z = refl
    by false false true = refl
    by false false false = refl

pub known-not-out : (b : Body) → (UnknownPolicy b.policy → ⊥) → policy_out b ≡ false
known-not-out b h = by (ℕ_discrete b.policy policy_2008) (ℕ_discrete b.policy policy_2005)
  where
    by : Dec (b.policy ≡ policy_2008) → Dec (b.policy ≡ policy_2005) → policy_out b ≡ false
    by (yes e) d = rw (eq-eqb b.policy policy_2008 e)
    by (no n) (yes e) = rw (ne_eqb b.policy policy_2008 n, eq-eqb b.policy policy_2005 e)
    by (no n) (no m) = absurd (h (n, m))

pub counts_in : (b : Body) → 0 ≡ first (body_tests b) → CountsIn b
unfolding first
counts_in b e =
    let p = clear (count_out b) 3 _ (lit< tt) e in
    let q = neither (ltb b.repeats 1) _ (clear (repeats_out b) 19 0 (lit< tt) p.1).0 in
    let x5 = neither _ (ltb last_clock b.cycle) p.0 in
    let x4 = neither _ (ltb b.cycle 1) x5.0 in
    let x3 = neither _ (ltb most_levels b.levels) x4.0 in
    let x2 = neither _ (ltb b.levels 1) x3.0 in
    let x1 = neither (ltb b.n 1) (ltb most_actions b.n) x2.0 in
    record {
      some_action = ltb-false _ _ x1.0;
      few = ltb-false _ _ x1.1;
      some_level = ltb-false _ _ x2.1;
      few_levels = ltb-false _ _ x3.1;
      some_cycle = ltb-false _ _ x4.1;
      cycle_in = ltb-false _ _ x5.1;
      some_repeat = ltb-false _ _ q.0;
      few_repeats = ltb-false _ _ q.1;
    }

-- the number of the first that fails, or what comes after
abbrev or_else : Bool → Bool → Bool → ℕ → ℕ
or_else x y z m = cond x 3 (cond y 19 (cond z 20 m))

-- the body's own
abbrev own_or : Bool → Bool → ℕ → ℕ
own_or x y m = cond x 3 (cond y 19 m)

-- The tests of a body that is not refused by its own, and of one that is.
module _ (b : Body) where
  pub own_first : {k : ℕ} → k ≡ first (body_tests b) → k ≢ 0 → k ≡ first (known_tests b)
  unfolding first
  own_first e ne = rw e (by (count_out b) (repeats_out b) (policy_out b) (λ z. ne (e ∙ z)))
    where
      by : (x y z : Bool) → own_or x y 0 ≢ 0 → own_or x y 0 ≡ or_else x y z 0
      by true y z h = refl
      by false true z h = refl
      by false false z h = absurd (h refl)

  pub own_out : 0 ≡ first (body_tests b) → policy_out b ≡ true → 20 ≡ first (known_tests b)
  unfolding first
  own_out e out = rw out (by (count_out b) (repeats_out b) e)
    where
      by : (x y : Bool) → 0 ≡ own_or x y 0 → 20 ≡ own_or x y 20
      by true y h = absurd (omega arith)
      by false true h = absurd (omega arith)
      by false false h = refl

  pub own_passed : 0 ≡ first (body_tests b) → policy_out b ≡ false → 0 ≡ first (known_tests b)
  unfolding first
  own_passed e known = rw known e

-- a body that is known passes its own tests
pub known-passes : (b : Body) → 0 ≡ first (known_tests b) → 0 ≡ first (body_tests b)
unfolding first
known-passes b e = by (count_out b) (repeats_out b) (policy_out b) e
  where
    by : (x y z : Bool) → 0 ≡ or_else x y z 0 → 0 ≡ own_or x y 0
    by true y z h = h
    by false true z h = h
    by false false z h = refl

-- products of a body in its ranges
pub record Products (b : Body) : Type 0 where
  pub cells : b.n * b.levels ≤ 512
  pub total : b.repeats * b.n ≤ 103680

pub products : {b : Body} → CountsIn b → Products b
products c = record { cells = mul-le-mul c.few c.few_levels; total = mul-le-mul c.few_repeats c.few }

-- A row after it: where the body is refused that is the number, where it is not the rest of the row decides.
module _ (b : Body) (row : List Test) where
  pub body-first : first (known_tests b) ≢ 0 → first (known_tests b) ≡ first (known_tests b ++ row)
  unfolding first
  body-first ne = by (count_out b) (repeats_out b) (policy_out b) ne
    where
      by : (x y z : Bool) → or_else x y z 0 ≢ 0 → or_else x y z 0 ≡ or_else x y z (first row)
      by true y z h = refl
      by false true z h = refl
      by false false true h = refl
      by false false false h = absurd (h refl)

  pub body_passed : 0 ≡ first (known_tests b) → first (known_tests b ++ row) ≡ first row
  unfolding first
  body_passed e =
      let p = clear (count_out b) 3 _ (lit< tt) e in
      let q = clear (repeats_out b) 19 _ (lit< tt) p.1 in
      rw (p.0, q.0, (clear (policy_out b) 20 0 (lit< tt) q.1).0)

  -- where the row gives none
  pub body-clear : 0 ≡ first (known_tests b ++ row) → (0 ≡ first (known_tests b)) × (0 ≡ first row)
  unfolding first
  body-clear e =
      let p = clear (count_out b) 3 _ (lit< tt) e in
      let q = clear (repeats_out b) 19 _ (lit< tt) p.1 in
      let z = clear (policy_out b) 20 _ (lit< tt) q.1 in
      (rw (p.0, q.0, z.0), z.1)

-- What is left of the rows once the body has passed.
abbrev limit_row : Body → List ℕ → ℕ → ℕ → List Test
limit_row b s i q =
    refused_room if ltb (length s) (b.n * b.levels * summary_numbers) ∷ refused_reading if (leb (positions b) i || leb b.levels q) ∷ []

abbrev bound_row : Body → LentBody → ℕ → ℕ → ℕ → List Test
bound_row b T i q r =
    refused_room if (ltb (length T.summaries) (b.n * b.levels * summary_numbers) || ltb (length T.worst) (b.n * b.levels))
    ∷ refused_reading if (leb (positions b) i || leb b.levels q || ltb r 1 || ltb longest_coast r)
    ∷ []

abbrev limit_rest : Body → List ℕ → ℕ → ℕ → ℕ
limit_rest b s i q = cond (ltb (length s) (b.n * b.levels * summary_numbers)) 17 (cond (leb (positions b) i || leb b.levels q) 18 0)

pub limit_passed : (b : Body) (s : List ℕ) (i q : ℕ) → 0 ≡ first (known_tests b) → body_limit_refusal b s i q ≡ limit_rest b s i q
unfolding body_limit_refusal first
limit_passed b s i q e = body_passed b (limit_row b s i q) e

abbrev bound_rest : Body → LentBody → ℕ → ℕ → ℕ → ℕ
bound_rest b T i q r =
    cond (ltb (length T.summaries) (b.n * b.levels * summary_numbers) || ltb (length T.worst) (b.n * b.levels)) 17
    (cond (leb (positions b) i || leb b.levels q || ltb r 1 || ltb longest_coast r) 18 0)

pub bound_passed : (b : Body) (T : LentBody) (i q r : ℕ) → 0 ≡ first (known_tests b) → body_bound_refusal b T i q r ≡ bound_rest b T i q r
unfolding body_bound_refusal first
bound_passed b T i q r e = body_passed b (bound_row b T i q r) e

-- ---- a position and a level that are there

-- its entry in the tables
pub record Entry (b : Body) (place q : ℕ) : Type 0 where
  pub inside : place * b.levels + b.levels ≤ b.n * b.levels
  pub cells : b.n * b.levels ≤ 512

module _ {b : Body} {s : List ℕ} {i q place after : ℕ} (h : Stands b s i q) (at : Standing b i place after) where
  pub entry_of : Entry b place q
  entry_of = record {
    inside = omega (arith, mul-le-mul_right b.levels (place_in h.counts.some_action at));
    cells = (products h.counts).cells;
  }

  pub summed-of : Summed s (place * b.levels + q) q after
  summed-of = record {
    own = omega (arith, entry_of, h.level, h.summed);
    whole = omega (arith, mul-le-mul_right b.levels h.counts.some_action, h.level, h.summed);
    few = omega (arith, fewer h.counts.some_action at, h.counts.few_repeats);
  }

pub limit-stands : (b : Body) (s : List ℕ) (i q : ℕ) → 0 ≡ body_limit_refusal b s i q → Stands b s i q
unfolding body_limit_refusal first
limit-stands b s i q e =
    let c = body-clear b (limit_row b s i q) e in
    let room = clear (ltb (length s) (b.n * b.levels * summary_numbers)) 17 _ (lit< tt) c.1 in
    let there = neither (leb (positions b) i) _ (clear (leb (positions b) i || leb b.levels q) 18 0 (lit< tt) room.1).0 in
    record {
      counts = counts_in b (known-passes b c.0);
      summed = ltb-false _ _ room.0;
      present = leb-false _ _ there.0;
      level = leb-false _ _ there.1;
    }

-- with the worst times, and a length
pub record Bounded (b : Body) (T : LentBody) (i q r : ℕ) : Type 0 where
  pub stands : Stands b T.summaries i q
  pub timed : b.n * b.levels ≤ length T.worst
  pub some : 1 ≤ r
  pub most : r ≤ longest_coast

pub bound-bounded : (b : Body) (T : LentBody) (i q r : ℕ) → 0 ≡ body_bound_refusal b T i q r → Bounded b T i q r
unfolding body_bound_refusal first
bound-bounded b T i q r e =
    let cells = b.n * b.levels in
    let c = body-clear b (bound_row b T i q r) e in
    let room = clear (ltb (length T.summaries) (cells * summary_numbers) || ltb (length T.worst) cells) 17 _ (lit< tt) c.1 in
    let rooms = neither (ltb (length T.summaries) (cells * summary_numbers)) (ltb (length T.worst) cells) room.0 in
    let reading = clear (leb (positions b) i || leb b.levels q || ltb r 1 || ltb longest_coast r) 18 0 (lit< tt) room.1 in
    let x3 = neither _ (ltb longest_coast r) reading.0 in
    let x2 = neither _ (ltb r 1) x3.0 in
    let x1 = neither (leb (positions b) i) (leb b.levels q) x2.0 in
    record {
      stands = record {
        counts = counts_in b (known-passes b c.0);
        summed = ltb-false _ _ rooms.0;
        present = leb-false _ _ x1.0;
        level = leb-false _ _ x1.1;
      };
      timed = ltb-false _ _ rooms.1;
      some = ltb-false _ _ x2.1;
      most = ltb-false _ _ x3.1;
    }
