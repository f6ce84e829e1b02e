-- What one body fewer gives back, as long as one is left, and where none is. Assumes nothing.
use Prim.Native.Nat.{ℕ, ◌+◌, ◌-◌, ◌*◌, ◌<◌, ◌≤◌, max}
use mathlib.Core.Path.{◌≡◌, refl, ap, ◌∙◌}
use mathlib.Core.List.{List}
use mathlib.Core.Logic.{◌≢◌}
use native.Mathlib.Omega.{arith}
use lib.IntN.{ℤ, pos, ◌+ℤ◌}
use lib.ListN.{get_or}
use lib.Signed.{mag}
use mir.Syntax.{w32, w64}
use mir.Val.{Fits, to_z, of_z}
use borrow.Author.Tests.{eq-eqb, ne_eqb}
use Rattle.rules.specs.Numbers.{policy_2005, most_repeats, summary_numbers}
use Rattle.rules.specs.Repeat.{Sums, stretch_at}
use Rattle.repeat_limits.specs.Limits.{signed_above, ample, greatest_later, later_of, Near, Nears}
use Rattle.repeat_limits.specs.declared.Room.{Room}
use Rattle.repeat_limits.proofs.Sizes.{later-few}
use Rattle.repeat_limits.proofs.Rooms.{stored, same-near, room_within, room_given, given_2005, given-last, given-some, nearer}
use Rattle.repeat_limits.proofs.room_nearer.Goals as goal

-- the averages of an entry, as they are read
first-number : (s : List ℕ) (q : ℕ) {x : ℕ} → x ≡ get_or s (q * summary_numbers + 0) 0 → x ≡ (stretch_at s q).average
first-number s q e = let at : q * summary_numbers + 0 ≡ q * summary_numbers = omega arith in e ∙ ap (λ (k : ℕ). get_or s k 0) at

-- a field as it is read, with what is given back to it, as it is stored
more : (z : ℤ) {x : ℤ} {k m : ℕ} → mag z < signed_above → x ≡ to_z w64 (of_z w64 z) +ℤ pos k → k ≡ m → mag (z +ℤ pos m) < signed_above
    → to_z w64 (of_z w64 x) ≡ z +ℤ pos m
more z {x} {k} {m} fits e f near = let own : z ≡ z = refl in let is : x ≡ z +ℤ pos m = rw (e, stored own fits, f) in stored is near

greater-of : {m a b x y : ℕ} → m ≡ max a b → a ≡ x → b ≡ y → m ≡ max x y
greater-of e f g = rw (e, f, g)

module _ {policy q after : ℕ} {s : List ℕ} {room : Room} (h : Nears policy s q after room) (fits : (i : ℕ) → Fits w32 (get_or s i 0)) where
  few : (k : ℕ) → k < most_repeats → ((later_of policy (stretch_at s q) k).lowest ≤ greatest_later) × ((later_of policy (stretch_at s q) k).mix ≤ greatest_later)
  few k l =
      let at : ℕ = q * summary_numbers in
      later-few policy (stretch_at s q) k (omega (arith, fits at)) (omega (arith, fits (at + 1))) (omega (arith, fits (at + 2))) l

  -- the room, and that with what the whole body gives back, is within 64 bits
  here : Near room
  here = let f = few after h.few in same-near h.is (room_within h.cycle h.begins (later_of policy (stretch_at s q) after) h.cycle_in h.early f.0 f.1)

  near : Near (room_given policy (stretch_at s q) after room)
  near =
      let f = few (after - 1) (omega (arith, h.few)) in
      same-near (nearer h.cycle h.begins (stretch_at s q) policy after h.some h.is)
      (room_within h.cycle h.begins (later_of policy (stretch_at s q) (after - 1)) h.cycle_in h.early f.0 f.1)

  -- M in each case
  mix_is : {x : ℤ} {k : ℕ} → x ≡ to_z w64 (of_z w64 room.mix) +ℤ pos k → k ≡ (stretch_at s q).lowest
      → to_z w64 (of_z w64 x) ≡ room.mix +ℤ pos (stretch_at s q).lowest
  mix_is e f = more room.mix here.0 e f near.0

  -- in 2005
  apart : policy ≡ policy_2005 → {x : ℤ} {k : ℕ} → x ≡ to_z w64 (of_z w64 room.average) +ℤ pos k → k ≡ (stretch_at s q).average
      → to_z w64 (of_z w64 x) ≡ room.average +ℤ pos (stretch_at s q).average
  apart p e f = more room.average here.1 e f (rw (eq-eqb policy policy_2005 p) at near.1)

  -- in 2008, without a body left
  last : policy ≢ policy_2005 → after ≡ 1 → {x : ℤ} → x ≡ room.mix +ℤ pos (stretch_at s q).lowest +ℤ pos ample
      → to_z w64 (of_z w64 x) ≡ room.mix +ℤ pos (stretch_at s q).lowest +ℤ pos ample
  last n p e = stored e (rw (ne_eqb policy policy_2005 n, eq-eqb after 1 p) at near.1)

  -- in 2008, with one left
  some : policy ≢ policy_2005 → after ≢ 1 → {x : ℤ} {k : ℕ} → x ≡ to_z w64 (of_z w64 room.average) +ℤ pos k
      → k ≡ max (stretch_at s q).average (stretch_at s q).lowest
      → to_z w64 (of_z w64 x) ≡ room.average +ℤ pos (max (stretch_at s q).average (stretch_at s q).lowest)
  some n p e f = more room.average here.1 e f (rw (ne_eqb policy policy_2005 n, ne_eqb after 1 p) at near.1)

pub returns-then-policy-eq-POLICY_2005 : goal.returns-then-policy-eq-POLICY_2005
returns-then-policy-eq-POLICY_2005 c cycle begins is =
    let a = c.args in
    let whole : Sums = stretch_at a.summaries.now a.q in
    let fits = c.type_inv.summaries in
    let own = c.if-policy-eq-POLICY_2005.true in
    rw (
      mix_is c.requires fits c.given-mix.ensures c.number_at-lowest.ensures.is,
      apart c.requires fits own c.given-average.ensures (first-number a.summaries.now a.q c.number_at.ensures.is),
    )
    (given_2005 a.policy whole a.after a.room own ∙ nearer cycle begins whole a.policy a.after c.requires.some is)

pub returns-then-after-eq1 : goal.returns-then-after-eq1
returns-then-after-eq1 c cycle begins is =
    let a = c.args in
    let whole : Sums = stretch_at a.summaries.now a.q in
    let fits = c.type_inv.summaries in
    let mixed = c.if-policy-eq-POLICY_2005.false in
    let none = c.if-after-eq1.true in
    let mix = mix_is c.requires fits c.given-mix.ensures c.number_at-lowest.ensures.is in
    rw (mix, last c.requires fits mixed none (rw mix at c.given-average-then-after-eq1.ensures))
    (given-last a.policy whole a.after a.room mixed none ∙ nearer cycle begins whole a.policy a.after c.requires.some is)

pub returns : goal.returns
returns c cycle begins is =
    let a = c.args in
    let whole : Sums = stretch_at a.summaries.now a.q in
    let fits = c.type_inv.summaries in
    let mixed = c.if-policy-eq-POLICY_2005.false in
    let left = c.if-after-eq1.false in
    rw (
      mix_is c.requires fits c.given-mix.ensures c.number_at-lowest.ensures.is,
      some c.requires fits mixed left c.given-average-2.ensures
          (greater-of c.max-most.ensures (first-number a.summaries.now a.q c.number_at-2.ensures.is) c.number_at-lowest.ensures.is),
    )
    (given-some a.policy whole a.after a.room mixed left ∙ nearer cycle begins whole a.policy a.after c.requires.some is)
