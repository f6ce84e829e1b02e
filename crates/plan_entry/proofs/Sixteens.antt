-- The sixteen of an entry, worked from those of the position after it, are the rules' coast bounds, and so is the table. Assumes nothing.
use Prim.Native.Nat.{ℕ, suc, ◌+◌, ◌-◌, ◌*◌, ◌≤◌, ◌<◌}
use mathlib.Core.Path.{◌≡◌, sym, ap, ◌∙◌}
use mathlib.Core.Bool.{cond}
use mathlib.Core.List.{List}
use native.Mathlib.Nat.{add-zero, mul_assoc, mul-le-mul_right}
use native.Mathlib.Numerals.{add-one}
use native.Mathlib.Decide.{dec_lt}
use native.Mathlib.Omega.{arith}
use borrow.Author.Tests.{le-ltb, lt-ltb}
use lib.Dec.{ltb}
use lib.IntN.{ℤ, pos}
use lib.ListN.{length}
use lib.Signed.{mag}
use Rattle.rules.specs.Numbers.{clock_end, longest_time}
use Rattle.rules.specs.Words.{cat, tab}
use Rattle.rules.specs.Limits.{Tables, limit_by, absent, coast_bound}
use Rattle.rules.proofs.Differences.{not-above}
use Rattle.fields.specs.Fields.{splice}
use Rattle.fields.proofs.Strides.{stride_more, stride_fits, cell-fits, block_start}
use Rattle.fields.proofs.Splice.{getD-splice, getD-splice-after}
use Rattle.fields.proofs.Cats.{cat_from, cat_ext, from_more}
use Rattle.fields.proofs.Rows.{length-rows, length_blocks, getD_blocks}
use Rattle.plan_entry.specs.Bounds.{bounds_from, bounds_by, bound_in, Spares}
use Rattle.plan_entry.proofs.Limits.{Lawful, limit-near}
use Rattle.plan_entry.proofs.Coast.{bound-past, after-spares, bounds_are}

-- the sixteens from position i on are in the table
abbrev pub Bounded : ℕ → Tables → ℕ → ℕ → List ℤ → ℕ → List ℤ → Type 0
Bounded policy S n levels out₀ i out = out ≡ splice out₀ (i * (levels * 16)) (cat_from (bounds_from S (limit_by policy S) levels) i n)

-- those that stand at the position after i
abbrev pub after : ℕ → ℕ → List ℤ → ℕ → ℕ → ℕ → ℤ
after n levels out i q = bound_in out (n * levels) (i * levels + q + levels)

-- what stands after a write stays
pub bound-kept : (out₀ : List ℤ) {out : List ℤ} (xs : List ℤ) (at entries x : ℕ) → at + length xs ≤ length out₀ → at + length xs ≤ x * 16
    → out ≡ splice out₀ at xs → (k : ℕ) → bound_in out entries x k ≡ bound_in out₀ entries x k
bound-kept out₀ xs at entries x room h e k =
    rw e (ap (λ (z : ℤ). cond (ltb x entries) z absent) (getD-splice-after out₀ at xs room (x * 16 + k) (pos 0) (omega arith)))

module _ {S : Tables} {n levels : ℕ} (lawful : Lawful S n levels) (policy : ℕ) (out₀ : List ℤ) (room : n * levels * 16 ≤ length out₀) where
  -- those of position i as they stand
  bound-here : {out : List ℤ} (i : ℕ) → i ≤ n → Bounded policy S n levels out₀ i out
      → (q k : ℕ) → q < levels → k < 16 → bound_in out (n * levels) (i * levels + q) k ≡ coast_bound S (limit_by policy S) i q (suc k)
  unfolding cat_from
  bound-here {out} i h e q k c m = go (dec_lt i n)
    where
      go : Dec (i < n) → bound_in out (n * levels) (i * levels + q) k ≡ coast_bound S (limit_by policy S) i q (suc k)
      go (yes l) =
          let f : ℕ → ℕ → ℕ → ℤ = λ j p r. coast_bound S (limit_by policy S) (i + j) p (suc r) in
          let x = (0 * levels + q) * 16 + k in
          let at = i * (levels * 16) in
          let fits : at ≤ length out₀ = omega (arith, stride_fits i n (levels * 16) l, mul_assoc n levels 16) in
          let inside : x < (n - i) * levels * 16 = cell-fits (0 * levels + q) ((n - i) * levels) k 16 (cell-fits 0 (n - i) q levels (omega arith) c) m in
          rw (lt-ltb (i * levels + q) (n * levels) (cell-fits i n q levels l c), e) (getD-splice out₀ at _ fits ((i * levels + q) * 16 + k) x (pos 0)
          (omega (arith, block_start i levels q 16)) (omega (arith, length_blocks f levels 16 (n - i), inside)))
          ∙ getD_blocks f levels 16 (n - i) 0 q k (pos 0) (omega arith) c m
          ∙ ap (λ (j : ℕ). coast_bound S (limit_by policy S) j q (suc k)) (add-zero i)
      go (no l) =
          rw (le-ltb (i * levels + q) (n * levels) (omega (arith, mul-le-mul_right levels (not-above l))))
          (sym (bound-past S (limit_by policy S) i q k (omega (arith, lawful.positions))))

  -- position i from position j, which is after it
  module _ {out : List ℤ} (i j : ℕ) (e : j ≡ i + 1) (h : j ≤ n) (was : Bounded policy S n levels out₀ j out) where
    after_are : (q : ℕ) → q < levels → (k : ℕ) → k < 16 → after n levels out i q k ≡ coast_bound S (limit_by policy S) (suc i) q (suc k)
    after_are q c k m =
        let x : i * levels + q + levels ≡ j * levels + q = omega (arith, ap (λ (p : ℕ). p * levels) e, stride_more i levels) in
        ap (λ (y : ℕ). bound_in out (n * levels) y k) x
        ∙ bound-here j h was q k c m
        ∙ ap (λ (p : ℕ). coast_bound S (limit_by policy S) p q (suc k)) (e ∙ add-one i)

    here : i < S.n
    here = omega (arith, lawful.positions)

    module _ (q : ℕ) (c : q < levels) where
      near : (p : ℕ) → p < S.n → mag (limit_by policy S p q) < clock_end
      near p l = limit-near lawful policy p q (omega (arith, lawful.positions)) c

      short : (p : ℕ) → p < S.n → S.worst p q ≤ longest_time
      short p l = lawful.small.time p q l (omega (arith, lawful.levels_are))

      pub sixteen_spares : {worst : ℕ} → worst ≡ S.worst i q → (k : ℕ) → k < 15 → Spares worst (after n levels out i q k)
      sixteen_spares w = rw w (after-spares S (limit_by policy S) q near short i here (after n levels out i q) (after_are q c))

      sixteen_is : {z : ℤ} {worst : ℕ} → z ≡ limit_by policy S i q → worst ≡ S.worst i q
          → bounds_by z worst (after n levels out i q) ≡ tab (λ k. coast_bound S (limit_by policy S) i q (suc k)) 16
      sixteen_is y w = rw (y, w) (bounds_are S (limit_by policy S) q near short i here (after n levels out i q) (after_are q c))

    -- all levels of position i
    pub bounded-more : {out' : List ℤ} (limits : ℕ → ℤ) (worst : ℕ → ℕ) → ((q : ℕ) → q < levels → limits q ≡ limit_by policy S i q)
        → ((q : ℕ) → q < levels → worst q ≡ S.worst i q)
        → out' ≡ splice out (i * levels * 16) (cat (λ q. bounds_by (limits q) (worst q) (after n levels out i q)) levels) → Bounded policy S n levels out₀ i out'
    bounded-more limits worst y w is =
        let size = levels * 16 in
        let same = cat_ext (λ q. bounds_by (limits q) (worst q) (after n levels out i q)) _ levels (λ q c. sixteen_is q c (y q c) (w q c)) in
        from_more (bounds_from S (limit_by policy S) levels) size (λ k. length-rows _ 16 levels) out₀ i j n (j * size) (i * size) e h
        (ap (λ (k : ℕ). k * size) e ∙ stride_more i size)
        (omega (arith, mul_assoc n levels 16, mul-le-mul_right size h))
        was
        (is ∙ rw (mul_assoc i levels 16, same))
