-- The limits of a position that is there are not refused, no line is longer than the longest, and the lines by planning's tables are those of the
-- unrolled system. Assumes nothing.
use Prim.Native.Nat.{ℕ, zero, suc, ◌+◌, ◌-◌, ◌*◌, ◌≤◌, ◌<◌}
use mathlib.Core.Path.{◌≡◌, refl, sym, ap, ◌∙◌}
use mathlib.Core.List.{List, [], ◌∷◌, ◌++◌}
use native.Mathlib.Omega.{arith}
use lib.IntN.{ℤ}
use lib.ListN.{length, length-append}
use borrow.Author.Tests.{le-ltb, lt-leb}
use Rattle.std.specs.Prelude.{Result, Ok, Err, IsOk}
use Rattle.rules.specs.declared.Reason.{Reason}
use Rattle.rules.proofs.Reasons.{some_number}
use Rattle.rules.specs.Words.{cat}
use Rattle.rules.specs.Image.{Profile}
use Rattle.rules.specs.Order.{Order, TheOrder}
use Rattle.rules.specs.Refusals.{first, UnknownPolicy}
use Rattle.rules.specs.Repeat.{unrolled, LentBody, positions, lent_plan, PlannedBody, known_tests, body_limit_refusal, action_at}
use Rattle.rules.specs.declared.Body.{Body}
use Rattle.fields.proofs.Cats.{cat_ext}
use Rattle.text.specs.Digits.{newline, space, decimal, signed}
use Rattle.text.proofs.Lengths.{decimal-length, signed-length}
use Rattle.print.specs.Plan.{position_line}
use Rattle.print.proofs.Lines.{position-is}
use Rattle.print.proofs.Plans.{position_ext}
use Rattle.repeat_laws.proofs.Lent.{lent_limit, lent-action}
use Rattle.repeat_limits.specs.Limits.{limited, CountsIn, Stands, LimitAnswers}
use Rattle.repeat_limits.specs.declared.Limited.{Limited}
use Rattle.repeat_limits.proofs.Refusing.{known-not-out, limit_passed}
use Rattle.repeat_text.specs.Text.{longest_line, lent_line, lent_lines, unrolled_line}

-- ---- no refusal

passes : {b : Body} → CountsIn b → (UnknownPolicy b.policy → ⊥) → 0 ≡ first (known_tests b)
unfolding first
passes {b} c known =
    rw (known-not-out b known, le-ltb _ _ c.some_action, le-ltb _ _ c.few, le-ltb _ _ c.some_level, le-ltb _ _ c.few_levels, le-ltb _ _ c.some_cycle, le-ltb _ _ c.cycle_in, le-ltb _ _ c.some_repeat, le-ltb _ _ c.few_repeats)

stands : {b : Body} {s : List ℕ} {i q : ℕ} → Stands b s i q → (UnknownPolicy b.policy → ⊥) → body_limit_refusal b s i q ≡ 0
stands {b} {s} {i} {q} h known =
    limit_passed b s i q (passes h.counts known)
    ∙ rw (le-ltb _ _ h.summed, lt-leb _ _ h.present, lt-leb _ _ h.level)

pub at_level : {b : Body} {s : List ℕ} {i q : ℕ} → Stands b s i 0 → q < b.levels → Stands b s i q
at_level h l = record { counts = h.counts; summed = h.summed; present = h.present; level = l }

-- so that the limit answered is the one lent
pub limit-told : {b : Body} {s : List ℕ} {i q : ℕ} {r : Limited} → Stands b s i q → (UnknownPolicy b.policy → ⊥) → LimitAnswers b s i q r
    → r.limit ≡ (lent_plan b (record { order = []; summaries = s; worst = [] })).limit i q
limit-told h known a = let none = a.number ∙ stands h known in rw none at a.limit_is

pub not_refused : {b : Body} {s : List ℕ} {i q : ℕ} → Stands b s i q → (UnknownPolicy b.policy → ⊥) → (r : Result ℤ Reason) → LimitAnswers b s i q (limited r) → IsOk r
not_refused h known (Ok z) a = refl
not_refused h known (Err e) a = absurd (some_number e (a.number ∙ stands h known))

-- the limit at level q after a space
abbrev pub entry : Body → List ℕ → ℕ → ℕ → List ℕ
entry b s i q = space ∷ signed ((lent_plan b (record { order = []; summaries = s; worst = [] })).limit i q)

-- ---- how long

cat-length : (f : ℕ → List ℕ) (n : ℕ) → ((q : ℕ) → length (f q) ≤ 22) → length (cat f n) ≤ n * 22
unfolding cat
cat-length f zero h = omega arith
cat-length f (suc n) h = omega (arith, cat-length f n h, h n, length-append (cat f n) (f n))

position-length : (i action : ℕ) (limits : ℕ → ℤ) (L : ℕ) → L ≤ 8 → length (position_line i action limits L) ≤ longest_line
position-length i action limits L few =
    let g : ℕ → List ℕ = λ q. space ∷ signed (limits q) in
    let rest = cat-length g L (λ q. omega (arith, signed-length (limits q))) in
    let first = decimal i ++ (space ∷ []) in
    rw (sym (position-is i action limits L))
    (omega (
      arith,
      few,
      rest,
      decimal-length i,
      decimal-length action,
      length-append (first ++ decimal action) (cat g L ++ (newline ∷ [])),
      length-append first (decimal action),
      length-append (decimal i) (space ∷ []),
      length-append (cat g L) (newline ∷ []),
    ))

pub line-length : (b : Body) (order summaries : List ℕ) (i : ℕ) → CountsIn b → length (lent_line b order summaries i) ≤ longest_line
unfolding lent_line
line-length b order summaries i c = position-length i _ _ b.levels c.few_levels

-- ---- the unrolled system's

module _ {F : Profile} {o : Order F.n} {b : Body} {T : LentBody} (P : PlannedBody F o b T) {p : Order (b.repeats * F.n)}
    (y : TheOrder (unrolled F b.repeats) p) where
  line-unrolled : (i : ℕ) → i < positions b → lent_line b T.order T.summaries i ≡ unrolled_line b.policy (unrolled F b.repeats) p i
  unfolding lent_line lent_plan
  line-unrolled i l =
      let n_is : b.n ≡ F.n = ap (λ (x : Body). x.n) P.body_is in
      let levels_are : b.levels ≡ F.levels = ap (λ (x : Body). x.levels) P.body_is in
      let l' : i < b.repeats * F.n = rw n_is at l in
      ap (λ (L : ℕ). position_line i (action_at b.n T.order i) ((lent_plan b T).limit i) L) levels_are
      ∙ position_ext i _ _ F.levels (ap (λ (n : ℕ). action_at n T.order i) n_is ∙ lent-action P y i l')
      (λ q m. lent_limit P y i q l' m)

  pub lines-unrolled : (from to : ℕ) → to ≤ positions b
      → lent_lines b T.order T.summaries from to ≡ cat (λ k. unrolled_line b.policy (unrolled F b.repeats) p (from + k)) (to - from)
  lines-unrolled from to most = cat_ext _ _ (to - from) (λ k m. line-unrolled (from + k) (omega arith))
