use mathlib.Core.Path.{◌≡◌, refl, ap, ◌∙◌}
use mathlib.Core.Bool.{false}
use mathlib.Core.Logic.{inl, inr}
use Prim.Native.Nat.{ℕ, ◌+◌, ◌-◌, ◌^◌, ◌<◌}
use native.Mathlib.Omega.{arith}
use borrow.Author.Tests.{lt-ltb}
use lib.ListN.{set, length-set}
use Rattle.rules.specs.Image.{has}
use Rattle.rules.proofs.Tests.{not-both}
use Rattle.sets.specs.Sets.{comes_before}
use Rattle.sets.proofs.Cases.{lt-or-le}
use Rattle.order_line.proofs.Growing.{here}
use Rattle.order_line.proofs.Walking
use Rattle.order_line.proofs.Walking.{none_left, one_left, Lining, Walk}
use Rattle.order_line.proofs.walk_back.Goals as goal
use Rattle.order_line.proofs.walk_back.Goals.{After-without-left}

-- ---- what is known in a turn

-- all that comes before a has its place
clear : (c : After-without-left)
    → (b : _) → comes_before c.args.masks.now b c.loop-left.a → has c.loop-left.left b ≡ false
clear c = none_left _ _ c.if-before-ne0.false

-- a has taken its place
grown : (c : After-without-left)
    → let s = c.args in
    Lining s.n s.masks.now (set c.loop-left.at c.loop-left.k c.loop-left.a) c.without-left.result (c.loop-left.k + 1)
grown c =
    Walking.lining_more _ _ c.requires.0 c.loop-left.invariant.0 (Walking.walk_left _ _ (c.loop-left.invariant.2 c.loop-left-test.true)) (clear c) c.without-left.ensures

place : (c : After-without-left) → c.loop-left.k < 64
place c =
    Walking.place-small _ _ c.requires.0 c.loop-left.invariant.0 (Walking.walk_left _ _ (c.loop-left.invariant.2 c.loop-left-test.true)) (clear c) c.without-left.ensures

-- ----

some_action : {n all : ℕ} → all ≡ 2 ^ n - 1 → (all ≡ 0 → ⊥) → 0 < n
some_action {n} is some = elim (lt-or-le 0 n) [ inl l ↦ l | inr l ↦ let z : n ≡ 0 = omega arith in absurd (some (is ∙ ap (λ (k : ℕ). 2 ^ k - 1) z)) ]

pub loop-left-init : goal.loop-left-init
loop-left-init c =
    let all = c.all_below-left.ensures in (
      Walking.lining_start _ _ c.requires.0 c.requires.2 all,
      refl,
      λ some. let more : 0 < c.args.n = some_action all.is some in
          Walking.walk_begins _ _ more refl (all.each 0 ∙ lt-ltb 0 _ more),
    )

pub returns-then-depth-n : goal.returns-then-depth-n
returns-then-depth-n c =
    let b = one_left _ _ c.lowest-a.ensures in record {
      loop = λ e. Walking.walk_round _ _ (c.loop-left.invariant.2 c.loop-left-test.true) _ b.0 b.1 c.loop-left.invariant.0.below c.if-depth-n.true;
      whole = λ e. absurd (not-both refl e);
    }

pub loop-left-preserved-then-before-ne0 : goal.loop-left-preserved-then-before-ne0
loop-left-preserved-then-before-ne0 c =
    let inv = c.loop-left.invariant in
    let b = one_left _ _ c.lowest-a.ensures in (
      inv.0,
      simp length-set inv.1,
      λ some. Walking.walk_on _ _ (c.loop-left.invariant.2 c.loop-left-test.true) _ b.0 b.1 inv.1 c.requires.0 c.if-depth-n.false,
    )

pub bounds-at-k : goal.bounds-at-k
bounds-at-k c = place (goal.at.bounds-at-k c).After-without-left

pub loop-left-preserved-then-depth-gt0 : goal.loop-left-preserved-then-depth-gt0
loop-left-preserved-then-depth-gt0 c = (
  grown (goal.at.loop-left-preserved-then-depth-gt0 c).After-without-left,
  c.loop-left.invariant.1,
  λ some. Walking.walk_returns _ _ (c.loop-left.invariant.2 c.loop-left-test.true) (clear (goal.at.loop-left-preserved-then-depth-gt0 c).After-without-left) c.without-left.ensures (omega (arith, c.if-depth-gt0.true)),
)

pub loop-left-preserved-then-left-ne0 : goal.loop-left-preserved-then-left-ne0
loop-left-preserved-then-left-ne0 c =
    let now = grown (goal.at.loop-left-preserved-then-left-ne0 c).After-without-left in
    let low = c.lowest-a-then-left-ne0.ensures.member in
    let inv = c.loop-left.invariant in (
      now,
      simp length-set inv.1,
      λ some. rw (let e : c.loop-left.depth ≡ 0 = omega (arith, c.if-depth-gt0.false) in e)
          (Walking.walk_begins _ _ (now.below _ low) (here c.loop-left.path 0 c.lowest-a-then-left-ne0.result (omega (arith, inv.1))) low),
    )

pub loop-left-preserved : goal.loop-left-preserved
loop-left-preserved c = (grown (goal.at.loop-left-preserved c).After-without-left, c.loop-left.invariant.1, λ some. absurd (some c.if-left-ne0.false))

pub returns : goal.returns
returns c = record {
  loop = λ e. absurd (not-both e refl);
  whole = λ e. Walking.lining_whole _ _ c.requires.0 c.loop-left.invariant.0 c.loop-left-test.false;
}
