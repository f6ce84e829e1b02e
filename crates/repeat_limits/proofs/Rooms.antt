-- The room that the bodies after a place leave, and that a rest has room exactly where its limit allows the time. Assumes nothing.
use Prim.Native.Nat.{ℕ, zero, suc, ◌+◌, ◌-◌, ◌*◌, ◌≤◌, ◌<◌, max}
use mathlib.Core.Path.{◌≡◌, refl, ap, sym, ◌∙◌}
use mathlib.Core.Bool.{Bool, true, false, cond, ◌&&◌}
use mathlib.Core.Logic.{◌≢◌}
use native.Mathlib.Omega.{arith}
use lib.Dec.{T, eqb, leb, leb→le, le→leb}
use lib.IntN.{ℤ, pos, neg_ℤ, ◌+ℤ◌, ◌-ℤ◌, +ℤ_assoc, +ℤ_comm, +ℤ_idr, neg_ℤ-+ℤ, -ℤ-+ℤ_cancel}
use lib.Signed.{le_z, mag}
use mir.Syntax.{w64}
use mir.Val.{to_z, of_z}
use mir.Facts.{to_z-of_z}
use borrow.Author.Tests.{eq-eqb, ne_eqb}
use Rattle.rules.specs.Numbers.{last_clock, policy_2005}
use Rattle.rules.specs.Repeat.{Sums, followed, bodies, needed_2005, needed}
use Rattle.rules.proofs.Differences.{at-most_difference, take-both}
use Rattle.repeat_laws.proofs.Ranges.{difference_within}
use Rattle.repeat_limits.specs.Limits.{signed_above, most_entry, latest, ample, greatest_later, later_2008, later_2005, later_of, room_left, narrowed_by, Near, fits_in}
use Rattle.repeat_limits.specs.declared.Later.{Later}
use Rattle.repeat_limits.specs.declared.Room.{Room}

-- a number as 64 bits keep it, and so a difference
pub stored : {z x : ℤ} → z ≡ x → mag x < signed_above → to_z w64 (of_z w64 z) ≡ x
stored e near = rw e (to_z-of_z {w = w64} (record { sfits = near }))

pub kept : {z : ℤ} (a b : ℕ) → z ≡ pos a -ℤ pos b → a < signed_above → b < signed_above → to_z w64 (of_z w64 z) ≡ pos a -ℤ pos b
kept a b e l h = stored e (difference_within a b signed_above l h)

pub same-near : {r s : Room} → r ≡ s → Near s → Near r
same-near e h = rw e h

-- where the averages count
pub room-some : (c b : ℕ) (l : Later) → l.counts ≡ true
    → record { mix = pos c -ℤ pos (b + l.lowest); average = pos c -ℤ pos (b + l.mix) } ≡ room_left c b l
room-some c b l some = rw some

pub room_within : (c b : ℕ) (l : Later) → c ≤ last_clock → b ≤ latest → l.lowest ≤ greatest_later → l.mix ≤ greatest_later
    → Near (room_left c b l)
room_within c b l cycle early lowest mix = (
  difference_within c (b + l.lowest) signed_above (omega (arith, cycle)) (omega (arith, early, lowest)),
  near l.counts,
)
  where
    near : (counts : Bool) → mag (cond counts (pos c -ℤ pos (b + l.mix)) (pos (c + ample) -ℤ pos b)) < signed_above
    near true = difference_within c (b + l.mix) signed_above (omega (arith, cycle)) (omega (arith, early, mix))
    near false = difference_within (c + ample) b signed_above (omega (arith, cycle)) (omega (arith, early))

-- to narrow twice, and not at all
pub narrowed_both : (r : Room) (a b : ℕ) → narrowed_by (narrowed_by r a) b ≡ narrowed_by r (a + b)
narrowed_both r a b = rw (twice r.mix, twice r.average)
  where
    twice : (z : ℤ) → z -ℤ pos a -ℤ pos b ≡ z -ℤ pos (a + b)
    twice z = +ℤ_assoc z (neg_ℤ (pos a)) (neg_ℤ (pos b)) ∙ ap (λ (x : ℤ). z +ℤ x) (sym (neg_ℤ-+ℤ (pos a) (pos b)))

pub narrowed_none : (r : Room) → narrowed_by r 0 ≡ r
narrowed_none r = rw (+ℤ_idr r.mix, +ℤ_idr r.average)

-- From a later time on there is less room by as much: as numbers, and still within 64 bits.
module _ (c b w : ℕ) (l : Later) where
  pub later-room : {r : Room} → r ≡ room_left c b l → narrowed_by r w ≡ room_left c (b + w) l
  later-room e = rw (e, mix, averages l.counts)
    where
      mix : pos c -ℤ pos (b + l.lowest) -ℤ pos w ≡ pos c -ℤ pos (b + w + l.lowest)
      mix = let sum : b + l.lowest + w ≡ b + w + l.lowest = omega arith in take-both c (b + l.lowest) w ∙ ap (λ (k : ℕ). pos c -ℤ pos k) sum

      averages : (counts : Bool) → cond counts (pos c -ℤ pos (b + l.mix)) (pos (c + ample) -ℤ pos b) -ℤ pos w
          ≡ cond counts (pos c -ℤ pos (b + w + l.mix)) (pos (c + ample) -ℤ pos (b + w))
      averages false = take-both (c + ample) b w
      averages true = let sum : b + l.mix + w ≡ b + w + l.mix = omega arith in take-both c (b + l.mix) w ∙ ap (λ (k : ℕ). pos c -ℤ pos k) sum

  pub room-near : c ≤ last_clock → b + w ≤ latest → l.lowest ≤ greatest_later → l.mix ≤ greatest_later → {r : Room} → r ≡ room_left c b l
      → Near (narrowed_by r w)
  room-near cycle early lowest mix e = same-near (later-room e) (room_within c (b + w) l cycle early lowest mix)

-- With one body fewer after it there is more room: by its worst times at level 0 for M, and for the averages in 2008 by the greater of both, in 2005 by
-- its averages.
given_back : (a b c : ℕ) → pos a -ℤ pos (b + c) +ℤ pos c ≡ pos a -ℤ pos b
given_back a b c = ap (λ (z : ℤ). z +ℤ pos c) (sym (take-both a b c)) ∙ -ℤ-+ℤ_cancel (pos a -ℤ pos b) (pos c)

given-more : (a b c : ℕ) → pos a -ℤ pos b +ℤ pos c ≡ pos (a + c) -ℤ pos b
given-more a b c =
    +ℤ_assoc (pos a) (neg_ℤ (pos b)) (pos c) ∙ ap (λ (z : ℤ). pos a +ℤ z) (+ℤ_comm (neg_ℤ (pos b)) (pos c))
    ∙ sym (+ℤ_assoc (pos a) (pos c) (neg_ℤ (pos b)))

-- the room with what one of so many bodies gives back
abbrev pub room_given : ℕ → Sums → ℕ → Room → Room
room_given policy y after r = record {
  mix = r.mix +ℤ pos y.lowest;
  average = cond (eqb policy policy_2005) (r.average +ℤ pos y.average)
      (cond (eqb after 1) (r.mix +ℤ pos y.lowest +ℤ pos ample) (r.average +ℤ pos (max y.average y.lowest)));
}

-- in 2005; in 2008 without a body left, and with one left
module _ (policy : ℕ) (y : Sums) (after : ℕ) (r : Room) where
  pub given_2005 : policy ≡ policy_2005
      → record { mix = r.mix +ℤ pos y.lowest; average = r.average +ℤ pos y.average } ≡ room_given policy y after r
  given_2005 e = rw (eq-eqb policy policy_2005 e)

  pub given-last : policy ≢ policy_2005 → after ≡ 1
      → record { mix = r.mix +ℤ pos y.lowest; average = r.mix +ℤ pos y.lowest +ℤ pos ample } ≡ room_given policy y after r
  given-last n e = rw (ne_eqb policy policy_2005 n, eq-eqb after 1 e)

  pub given-some : policy ≢ policy_2005 → after ≢ 1
      → record { mix = r.mix +ℤ pos y.lowest; average = r.average +ℤ pos (max y.average y.lowest) } ≡ room_given policy y after r
  given-some n e = rw (ne_eqb policy policy_2005 n, ne_eqb after 1 e)

module _ (c b : ℕ) (y : Sums) where
  -- in 2005
  nearer_2005 : (after : ℕ) → 0 < after → {r : Room} → r ≡ room_left c b (later_2005 y after)
      → record { mix = r.mix +ℤ pos y.lowest; average = r.average +ℤ pos y.average } ≡ room_left c b (later_2005 y (after - 1))
  nearer_2005 zero some e = absurd (omega (arith, some))
  nearer_2005 (suc m) some e =
      let less : suc m - 1 ≡ m = omega arith in
      let lowest : b + suc m * y.lowest ≡ b + m * y.lowest + y.lowest = omega arith in
      let average : b + suc m * y.average ≡ b + m * y.average + y.average = omega arith in
      rw (less, e, lowest, average, given_back c (b + m * y.lowest) y.lowest, given_back c (b + m * y.average) y.average)

  -- in 2008
  nearer_2008 : (after : ℕ) → 0 < after → {r : Room} → r ≡ room_left c b (later_2008 y after)
      → record {
        mix = r.mix +ℤ pos y.lowest;
        average = cond (eqb after 1) (r.mix +ℤ pos y.lowest +ℤ pos ample) (r.average +ℤ pos (max y.average y.lowest));
      } ≡ room_left c b (later_2008 y (after - 1))
  nearer_2008 zero some e = absurd (omega (arith, some))
  nearer_2008 (suc zero) some e =
      let one : b + 1 * y.lowest ≡ b + 0 + y.lowest = omega arith in
      let none : b + 0 ≡ b = omega arith in
      rw (e, one, given_back c (b + 0) y.lowest, none, given-more c b ample)
  nearer_2008 (suc (suc m)) some e =
      let G : ℕ = max y.average y.lowest in
      let less : suc (suc m) - 1 ≡ suc m = omega arith in
      let lowest : b + suc (suc m) * y.lowest ≡ b + suc m * y.lowest + y.lowest = omega arith in
      let average : b + (y.mix + suc m * G) ≡ b + (y.mix + m * G) + G = omega arith in
      rw (
        less,
        e,
        ne_eqb (suc (suc m)) 1 (λ x. absurd (omega (arith, x))),
        lowest,
        given_back c (b + suc m * y.lowest) y.lowest,
        average,
        given_back c (b + (y.mix + m * G)) G,
      )

  pub nearer : (policy after : ℕ) → 0 < after → {r : Room} → r ≡ room_left c b (later_of policy y after)
      → room_given policy y after r ≡ room_left c b (later_of policy y (after - 1))
  nearer policy after some {r} e = by (eqb policy policy_2005) e
    where
      by : (a : Bool) → r ≡ room_left c b (cond a (later_2005 y after) (later_2008 y after))
          → record {
            mix = r.mix +ℤ pos y.lowest;
            average = cond a (r.average +ℤ pos y.average)
                (cond (eqb after 1) (r.mix +ℤ pos y.lowest +ℤ pos ample) (r.average +ℤ pos (max y.average y.lowest)));
          } ≡ room_left c b (cond a (later_2005 y (after - 1)) (later_2008 y (after - 1)))
      by true f = nearer_2005 after some f
      by false f = nearer_2008 after some f

-- two tests are one of the greater
both-tests : (a b c d m k : ℕ) → (a ≤ b → c ≤ d → m ≤ k) → (m ≤ k → a ≤ b) → (m ≤ k → c ≤ d) → (leb a b && leb c d) ≡ leb m k
both-tests a b c d m k p q r =
    go (leb a b) (leb c d) (leb m k) (leb→le a b) (le→leb a b) (leb→le c d) (le→leb c d) (leb→le m k) (le→leb m k)
  where
    go : (x y z : Bool) → (T x → a ≤ b) → (a ≤ b → T x) → (T y → c ≤ d) → (c ≤ d → T y) → (T z → m ≤ k) → (m ≤ k → T z) → (x && y) ≡ z
    go true true true f f' g g' h h' = refl
    go true true false f f' g g' h h' = absurd (h' (p (f tt) (g tt)))
    go true false true f f' g g' h h' = absurd (g' (r (h tt)))
    go true false false f f' g g' h h' = refl
    go false y true f f' g g' h h' = absurd (f' (q (h tt)))
    go false y false f f' g g' h h' = refl

-- A rest of a body has room exactly where the time that it begins at is within the limit there: where the averages count,
counted : (c b : ℕ) (x : Sums) (lowest mix : ℕ)
    → fits_in x (record { mix = pos c -ℤ pos (b + lowest); average = pos c -ℤ pos (b + mix) })
    ≡ le_z (pos b) (pos c -ℤ pos (max (x.mix + lowest) (x.average + mix)))
counted c b x lowest mix =
    rw (
      at-most_difference x.average c (b + mix),
      at-most_difference x.mix c (b + lowest),
      at-most_difference b c (max (x.mix + lowest) (x.average + mix)),
    )
    (both-tests (x.average + (b + mix)) c (x.mix + (b + lowest)) c (b + max (x.mix + lowest) (x.average + mix)) c
    (λ h k. omega (arith, h, k)) (λ h. omega (arith, h)) (λ h. omega (arith, h)))

-- and where they do not, as no body follows.
uncounted : (c b : ℕ) (x : Sums) → x.average ≤ most_entry → b ≤ latest
    → fits_in x (record { mix = pos c -ℤ pos (b + 0); average = pos (c + ample) -ℤ pos b }) ≡ le_z (pos b) (pos c -ℤ pos x.mix)
uncounted c b x small early =
    rw (
      at-most_difference x.average (c + ample) b,
      at-most_difference x.mix c (b + 0),
      at-most_difference b c x.mix,
    )
    (both-tests (x.average + b) (c + ample) (x.mix + (b + 0)) c (b + x.mix) c
    (λ h k. omega (arith, k)) (λ h. omega (arith, small, early)) (λ h. omega (arith, h)))

pub room-is-limit : (c b : ℕ) (x : Sums) (policy : ℕ) (y : Sums) (after : ℕ) → x.average ≤ most_entry → b ≤ latest
    → fits_in x (room_left c b (later_of policy y after)) ≡ le_z (pos b) (pos c -ℤ pos (needed policy x y after))
room-is-limit c b x policy y after small early = by (eqb policy policy_2005)
  where
    mixed : (m : ℕ) → fits_in x (room_left c b (later_2008 y m)) ≡ le_z (pos b) (pos c -ℤ pos (followed x (bodies y m)).mix)
    mixed zero = uncounted c b x small early
    mixed (suc m) = counted c b x (suc m * y.lowest) (y.mix + m * max y.average y.lowest)

    by : (a : Bool) → fits_in x (room_left c b (cond a (later_2005 y after) (later_2008 y after)))
        ≡ le_z (pos b) (pos c -ℤ pos (cond a (needed_2005 x y after) (followed x (bodies y after)).mix))
    by true = counted c b x (after * y.lowest) (after * y.average)
    by false = mixed after
