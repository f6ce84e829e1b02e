-- Counts and fields in their ranges, as the calls judge them. Assumes nothing.
use Prim.Native.Nat.{ℕ, ◌*◌, ◌≤◌}
use mathlib.Core.Path.{◌≡◌, refl, sym, ◌∙◌}
use mathlib.Core.Bool.{Bool, true, false, not, cond, ◌&&◌, ◌||◌, true≢false}
use native.Mathlib.Nat.{mul-le-mul}
use native.Mathlib.Omega.{arith}
use lib.Dec.{leb, ltb, eqb}
use borrow.Author.Tests.{ltb-true, ltb-false, leb-true, le-leb, lt-leb}
use Rattle.std.specs.Int.{from_bool}
use Rattle.rules.specs.Words.{one_if}
use Rattle.rules.specs.Refusals.{first}
use Rattle.rules.specs.Run.{Run, in_range, start_refusal}
use Rattle.rules.proofs.Tests.{failed, not-both, and-true}
use Rattle.rules.proofs.Calls.{InRange, in_range_facts}

-- ---- n and L

-- one of them is out of its range
abbrev out : ℕ → ℕ → Bool
out n L = ltb n 1 || ltb 64 n || ltb L 1 || ltb 8 L

-- whether they fit
pub counts_fit : (n L : ℕ) → not (out n L) ≡ eqb (start_refusal n L) 0
unfolding start_refusal first
counts_fit n L = by (out n L)
  where
    by : (b : Bool) → not b ≡ eqb (cond b 3 0) 0
    by true = refl
    by false = refl

pub unfit-three : (n L : ℕ) → eqb (start_refusal n L) 0 ≡ false → 3 ≡ start_refusal n L
unfolding start_refusal first
unfit-three n L = by (out n L)
  where
    by : (b : Bool) → eqb (cond b 3 0) 0 ≡ false → ◌≡◌ {A = ℕ} 3 (cond b 3 0)
    by true h = refl
    by false h = absurd (true≢false h)

not-less : (a b : ℕ) → not (ltb a b) ≡ leb b a
not-less a b = by (ltb a b) refl
  where
    by : (t : Bool) → ltb a b ≡ t → not t ≡ leb b a
    by true e = sym (lt-leb b a (ltb-true a b e))
    by false e = sym (le-leb b a (ltb-false a b e))

-- test by test
pub counts_are : (n L : ℕ) → eqb (start_refusal n L) 0 ≡ leb 1 n && (leb n 64 && (leb 1 L && leb L 8))
counts_are n L =
    sym (counts_fit n L) ∙ none (ltb n 1) (ltb 64 n) (ltb L 1) (ltb 8 L)
    ∙ rw (not-less n 1, not-less 64 n, not-less L 1, not-less 8 L)
  where
    none : (a b c d : Bool) → not (a || b || c || d) ≡ not a && (not b && (not c && not d))
    none true b c d = refl
    none false true c d = refl
    none false false true d = refl
    none false false false d = refl

pub record Counts (n L : ℕ) : Type 0 where
  pub some_action : 1 ≤ n
  pub few : n ≤ 64
  pub some_level : 1 ≤ L
  pub few_levels : L ≤ 8

pub fit_counts : (n L : ℕ) → true ≡ eqb (start_refusal n L) 0 → Counts n L
fit_counts n L e =
    let a = (and-true (leb 1 n) _).0 (sym (e ∙ counts_are n L)) in
    let b = (and-true (leb n 64) _).0 a.1 in
    let c = (and-true (leb 1 L) (leb L 8)).0 b.1 in
    record { some_action = leb-true _ _ a.0; few = leb-true _ _ b.0; some_level = leb-true _ _ c.0; few_levels = leb-true _ _ c.1 }

pub unfit-counts : (n L : ℕ) → false ≡ eqb (start_refusal n L) 0 → Counts n L → ⊥
unfit-counts n L e c =
    not-both (counts_are n L ∙ rw (le-leb 1 n c.some_action, le-leb n 64 c.few, le-leb 1 L c.some_level, le-leb L 8 c.few_levels)) (sym e)

-- ---- the record

pub out_of_range : (r : Run) → (InRange r → ⊥) → false ≡ in_range r
out_of_range r out = sym (failed (in_range r) (λ h. out (in_range_facts r h)))

-- a mark as a number
pub mark-number : (b : Bool) → (from_bool b ≡ one_if b) × (one_if b ≤ 1)
mark-number true = (refl, omega arith)
mark-number false = (refl, omega arith)

-- the products of a record in range fit
pub few-cells : (r : Run) → in_range r ≡ true → r.n * r.levels ≤ 512
few-cells r h = let f = in_range_facts r h in mul-le-mul f.few f.few_levels
