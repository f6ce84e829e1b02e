-- The levels below q are worked and stored. Assumes nothing.
use mathlib.Core.Path.{◌≡◌, refl, ap, ap₂, ◌∙◌}
use mathlib.Core.Bool.{cond}
use mathlib.Core.List.{List, [], ◌∷◌}
use Prim.Native.Nat.{ℕ, ◌+◌, ◌*◌, ◌≤◌, ◌<◌, max}
use native.Mathlib.Omega.{arith}
use borrow.Author.Rules.{rules}
use lib.Dec.{eqb}
use lib.ListN.{length, get_or}
use Rattle.rules.specs.Numbers.{policy_2005, summary_numbers}
use Rattle.rules.specs.Words.{tab}
use Rattle.rules.specs.Repeat.{Sums, numbers_of}
use Rattle.fields.specs.Fields.{splice}
use Rattle.fields.proofs.Splice.{getD-splice-after}
use Rattle.fields.proofs.Cats.{cat-none, cat-more, cat_done}
use Rattle.fields.proofs.Tabs.{tab-more, length-tab}
use Rattle.fields.proofs.Written.{tab-written}
use Rattle.repeat_laws.proofs.Joins.{same}
use Rattle.repeat_tables.specs.Summing.{carried, alone, with_rest, Half}
use Rattle.repeat_tables.proofs.sum_row.Goals as goal
use Rattle.repeat_tables.proofs.sum_row.Goals.{In-loop-q}

-- what is not yet written
unread : (l₀ : List ℕ) {l : List ℕ} (f : ℕ → ℕ) (q : ℕ) → q ≤ length l₀ → l ≡ splice l₀ 0 (tab f q) → get_or l q 0 ≡ get_or l₀ q 0
unread l₀ f q h e = rw e (getD-splice-after l₀ 0 (tab f q) (omega (arith, length-tab f q)) q 0 (omega (arith, length-tab f q)))

-- a summary as its four numbers are stored
stored : (l : List ℕ) {l' : List ℕ} (at : ℕ) {a w m v : ℕ} (x : Sums) → a ≡ x.average → w ≡ x.lowest → m ≡ x.mix → v ≡ x.worst
    → l' ≡ splice l at (a ∷ w ∷ m ∷ v ∷ []) → l' ≡ splice l at (numbers_of x)
stored l at x e f g h is = is ∙ ap (λ (y : Sums). splice l at (numbers_of y)) (same e f g h)

-- what the averages and M come to
mixed_up : {a b m k : ℕ} → a ≡ b → m ≡ k → a + m ≡ b + k
mixed_up e f = ap₂ (λ (x y : ℕ). x + y) e f

-- what is carried when all levels are worked
all-carried : (f : ℕ → Sums) (l m v : List ℕ) {l' m' v' : List ℕ} {w : ℕ} (n : ℕ) → l' ≡ splice l 0 (tab (λ p. (f p).average) n)
    → ((q : ℕ) → w ≡ (f q).lowest) → m' ≡ splice m 0 (tab (λ p. (f p).mix) n) → v' ≡ splice v 0 (tab (λ p. (f p).worst) n)
    → (q : ℕ) → q < n → carried l' w m' v' q ≡ f q
all-carried f l m v n a e b d q h = same (tab-written _ l n 0 a q h) (e q) (tab-written _ m n 0 b q h) (tab-written _ v n 0 d q h)

module _ (c : In-loop-q) where
  -- the numbers that a turn adds up
  own : let a = c.args in Half (alone a.image.now a.a c.loop-q.q)
  own = c.requires.own c.loop-q.q (omega (arith, c.loop-q-test.true))

  rest : let a = c.args in Half (carried a.averages.now a.after a.mixes.now a.worsts.now c.loop-q.q)
  rest = c.requires.rest c.loop-q.q (omega (arith, c.loop-q-test.true))

  -- what it is carried from
  rest-average : get_or c.loop-q.averages c.loop-q.q 0 ≡ get_or c.args.averages.now c.loop-q.q 0
  rest-average = unread _ _ _ (omega (arith, c.requires.averages_room)) c.loop-q.invariant.5

  rest-mix : get_or c.loop-q.mixes c.loop-q.q 0 ≡ get_or c.args.mixes.now c.loop-q.q 0
  rest-mix = unread _ _ _ (omega (arith, c.requires.mixes_room)) c.loop-q.invariant.6

  rest-worst : get_or c.loop-q.worsts c.loop-q.q 0 ≡ get_or c.args.worsts.now c.loop-q.q 0
  rest-worst = unread _ _ _ (omega (arith, c.requires.worsts_room)) c.loop-q.invariant.7

pub loop-q-init : goal.loop-q-init
loop-q-init c =
    (search rules, search rules, search rules, search rules, search rules, cat-none _ _ _, cat-none _ _ _, cat-none _ _ _, cat-none _ _ _, cat-none _ _ _)

pub overflow_add-sum : goal.overflow_add-sum
overflow_add-sum c =
    omega (arith, c.average_at-average.ensures, rest-average (goal.at.overflow_add-sum c).In-loop-q, (own (goal.at.overflow_add-sum c).In-loop-q).average, (rest (goal.at.overflow_add-sum c).In-loop-q).average)

pub overflow_add-average : goal.overflow_add-average
overflow_add-average c =
    omega (arith, c.worst_at-longest.ensures, c.average_at-average.ensures, rest-mix (goal.at.overflow_add-average c).In-loop-q, rest-average (goal.at.overflow_add-average c).In-loop-q, own (goal.at.overflow_add-average c).In-loop-q, rest (goal.at.overflow_add-average c).In-loop-q)

pub overflow_add-all : goal.overflow_add-all
overflow_add-all c =
    omega (arith, c.worst_at-longest.ensures, rest-worst (goal.at.overflow_add-all c).In-loop-q, (own (goal.at.overflow_add-all c).In-loop-q).worst, (rest (goal.at.overflow_add-all c).In-loop-q).worst)

pub loop-q-preserved : goal.loop-q-preserved
loop-q-preserved c =
    let a = c.args in
    let row = with_rest a.image.now a.policy a.a (carried a.averages.now a.after a.mixes.now a.worsts.now) in
    let average = c.average_at-average in
    let longest = c.worst_at-longest.ensures in
    let done = c.put_sums in
    let room = c.requires.room in
    let sum : average.result + get_or c.loop-q.averages c.loop-q.q 0 ≡ (row c.loop-q.q).average = omega (arith, average.ensures, rest-average (goal.at.loop-q-preserved c).In-loop-q) in
    let lowest = ap (λ (w : ℕ). w + a.after) c.worst_at.ensures in
    let mix : c.mix_of-mix.result ≡ (row c.loop-q.q).mix = c.mix_of-mix.ensures
    ∙ ap₂ (λ (x y : ℕ). cond (eqb a.policy policy_2005) x (max x y)) (ap (λ (w : ℕ). w + a.after) longest) (mixed_up average.ensures (rest-mix (goal.at.loop-q-preserved c).In-loop-q)) in
    let all : c.worst_at-longest.result + get_or c.loop-q.worsts c.loop-q.q 0 ≡ (row c.loop-q.q).worst = omega (arith, longest, rest-worst (goal.at.loop-q-preserved c).In-loop-q) in (
      search rules,
      search rules,
      search rules,
      done.auto.summaries ∙ c.loop-q.invariant.3,
      search rules,
      tab-more _ _ 0 c.loop-q.q c.loop-q.q (omega (arith, c.requires.averages_room)) (omega arith) c.loop-q.invariant.0 sum c.loop-q.invariant.5,
      tab-more _ _ 0 c.loop-q.q c.loop-q.q (omega (arith, c.requires.mixes_room)) (omega arith) c.loop-q.invariant.1 mix c.loop-q.invariant.6,
      tab-more _ _ 0 c.loop-q.q c.loop-q.q (omega (arith, c.requires.worsts_room)) (omega arith) c.loop-q.invariant.2 all c.loop-q.invariant.7,
      cat-more (λ p. numbers_of (row p)) summary_numbers (λ p. refl) _ (a.from * summary_numbers) ((a.from + c.loop-q.q) * summary_numbers) c.loop-q.q
          (omega (arith, room.summaries_room)) (omega arith) c.loop-q.invariant.8
          (stored c.loop-q.summaries ((a.from + c.loop-q.q) * summary_numbers) (row c.loop-q.q) sum lowest mix all done.ensures),
      tab-more _ _ a.from (a.from + c.loop-q.q) c.loop-q.q (omega (arith, room.worst_room)) (omega arith) c.loop-q.invariant.4 longest c.loop-q.invariant.9,
    )

pub returns : goal.returns
returns c =
    let t = c.loop-q in
    let a = c.args in
    let all : t.q ≡ a.levels = omega arith in
    record {
      carried_is = all-carried (with_rest a.image.now a.policy a.a (carried a.averages.now a.after a.mixes.now a.worsts.now)) _ _ _ a.levels
          (cat_done _ _ 0 t.q a.levels all t.invariant.5) (λ q. ap (λ (w : ℕ). w + a.after) c.worst_at.ensures)
          (cat_done _ _ 0 t.q a.levels all t.invariant.6) (cat_done _ _ 0 t.q a.levels all t.invariant.7);
      summaries_are = cat_done _ _ (a.from * summary_numbers) t.q a.levels all t.invariant.8;
      worst_is = cat_done _ _ a.from t.q a.levels all t.invariant.9;
    }
