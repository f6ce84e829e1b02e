-- The reading: when it is spent, and that its ratio is at most 1 exactly if t is at most deadline (k) - mixed (i, k, q).
use mathlib.Core.Path.{◌≡◌, refl, sym, ap, ◌∙◌, subst}
use mathlib.Core.Bool.{Bool, true, false, cond}
use mathlib.Core.List.{List}
use mathlib.Core.Logic.{◌↔◌, inl, inr, ⊎_elim}
use Prim.Native.Nat.{ℕ, zero, suc, ◌+◌, ◌-◌, ◌*◌, ◌^◌, ◌≤◌, ◌<◌}
use native.Mathlib.Nat.{le_trans, mul-le-mul_right, zero-lt-suc}
use native.Mathlib.Decide.{dec_le}
use native.Mathlib.Omega.{arith}
use borrow.Author.Tests.{lt-ltb, le-ltb}
use lib.Dec.{T, leb, ltb, eqb, leb→le, le→leb, lt→ltb}
use lib.IntN.{ℤ, pos, negsuc, ◌-ℤ◌}
use lib.ListN.{get_or}
use lib.Signed.{le_z, lt_z, ◌≤ℤ◌, ◌<ℤ◌, le_z_yes, lt_z_yes, clash_ℤ}
use lib.Ieee.{Float}
use Rattle.rules.specs.Numbers.{last_clock, longest_time}
use Rattle.rules.specs.Image.{Profile, due, be, levels, record_at, average_of, worst_of, profile}
use Rattle.rules.specs.Order.{Order}
use Rattle.rules.specs.Limits.{Tables, tables, average, margin, mixed}
use Rattle.rules.specs.Refusals.{Count, Range}
use Rattle.rules.specs.Speed.{ratio, spent, quotient, room, reading_by, reading, at_most_one}
use Rattle.rules.proofs.Differences.{not-below, below, take-both, not-above, same-leb, at-most_difference}
use Rattle.rules.proofs.Terms.{sum-within}
use Rattle.rules.proofs.Refusals.{Sound}
use Rattle.rules.proofs.Faults.{TimeOut}
use Rattle.rules.proofs.Speed.Quotient.{ratio_test}

-- ---- spent, or a ratio

ratio-not-spent : {x : Float} → ratio x ≡ spent → ⊥
ratio-not-spent p = let z : ◌≡◌ {A = ℕ} 0 1 = cc in omega arith

above_zero : (m : ℕ) → pos 0 <ℤ pos (suc m)
above_zero m = lt_z_yes (lt→ltb 0 (suc m) (zero-lt-suc m))

spent_by : (a : ℕ) (z : ℤ) → (reading_by a z ≡ spent) ↔ (z ≤ℤ pos 0)
unfolding reading_by
spent_by a (pos zero) = ((λ h. le_z_yes tt), (λ h. refl))
spent_by a (pos (suc m)) = ((λ h. absurd (ratio-not-spent h)), (λ h. clash_ℤ (above_zero m) h))
spent_by a (negsuc m) = ((λ h. le_z_yes tt), (λ h. refl))

-- The reading is spent exactly if room is at or below 0.
pub reading-spent : (S : Tables) (i k q t : ℕ) → (reading S i k q t ≡ spent) ↔ (room S i k q t ≤ℤ pos 0)
unfolding reading
reading-spent S i k q t = spent_by (average S i k q) (room S i k q t)

-- ---- by numbers with no sign

reading-whole : (a b : ℕ) → reading_by a (pos b) ≡ cond (ltb 0 b) (ratio (quotient a b)) spent
unfolding reading_by
reading-whole a zero = refl
reading-whole a (suc m) = rw (lt-ltb 0 (suc m) (zero-lt-suc m))

-- With room d - m - t the reading is a ratio exactly if m + t is below d.
pub reading_unsigned : (a d m t : ℕ) → reading_by a (pos d -ℤ pos m -ℤ pos t) ≡ cond (ltb (m + t) d) (ratio (quotient a (d - (m + t)))) spent
unfolding reading_by
reading_unsigned a d m t = ap (reading_by a) (take-both d m t) ∙ go (dec_le (m + t) d)
  where
    go : Dec (m + t ≤ d) → reading_by a (pos d -ℤ pos (m + t)) ≡ cond (ltb (m + t) d) (ratio (quotient a (d - (m + t)))) spent
    go (yes h) =
        ap (reading_by a) (not-below d (m + t) h)
        ∙ reading-whole a (d - (m + t))
        ∙ ap (λ (b : Bool). cond b (ratio (quotient a (d - (m + t)))) spent)
        (same-leb 1 (d - (m + t)) (suc (m + t)) d (λ l. omega arith) (λ l. omega arith))
    go (no h) = ap (reading_by a) (below d (m + t) (omega arith)) ∙ sym (rw (le-ltb (m + t) d (omega arith)))

-- That ratio is at most 1 exactly if t + (a + m) is at most d.
pub unsigned_test : (a d m t : ℕ) → a ≤ 2 ^ 53 → d ≤ 2 ^ 52 → m + t < d → at_most_one (quotient a (d - (m + t))) ≡ leb (t + (a + m)) d
unsigned_test a d m t A D R =
    ratio_test a (d - (m + t)) A (omega arith) (omega arith)
    ∙ same-leb a (d - (m + t)) (t + (a + m)) d (λ h. omega arith) (λ h. omega arith)

after : (t : ℕ) (z : ℤ) → lt_z (pos t) z ≡ le_z (pos (suc t)) z
after t (pos n) = refl
after t (negsuc n) = refl

room_test : (d m t : ℕ) → lt_z (pos 0) (pos d -ℤ pos m -ℤ pos t) ≡ leb (1 + (m + t)) d
room_test d m t = ap (lt_z (pos 0)) (take-both d m t) ∙ after 0 (pos d -ℤ pos (m + t)) ∙ at-most_difference 1 d (m + t)

-- ---- the theorem

-- Room is above 0 exactly if margin and t leave something of the deadline.
pub room-above : (S : Tables) (i k q t : ℕ) → (pos 0 <ℤ room S i k q t) ↔ (margin S i k q + t < S.deadline k)
unfolding room
room-above S i k q t =
    let test = room_test (S.deadline k) (margin S i k q) t in (
      (λ h. omega (arith, leb→le (1 + (margin S i k q + t)) (S.deadline k) (subst T test h.lt))),
      (λ h. lt_z_yes (subst T (sym test) (le→leb (1 + (margin S i k q + t)) (S.deadline k) (omega arith)))),
    )

-- The reading is the ratio x, and x is at most 1 exactly if t is at most deadline (k) - mixed (i, k, q).
pub record Exact (S : Tables) (i k q t : ℕ) : Type 0 where
  pub x : Float
  pub is : reading S i k q t ≡ ratio x
  pub signed : at_most_one x ≡ le_z (pos t) (pos (S.deadline k) -ℤ pos (mixed S i k q))
  pub whole : at_most_one x ≡ leb (t + mixed S i k q) (S.deadline k)

-- So it is with room above 0, where the average and the deadline are small enough for exact conversions.
pub reading-exact : (S : Tables) (i k q t : ℕ) → average S i k q ≤ 2 ^ 53 → S.deadline k ≤ 2 ^ 52 → pos 0 <ℤ room S i k q t → Exact S i k q t
unfolding reading room mixed
reading-exact S i k q t A D R =
    let left : margin S i k q + t < S.deadline k = (room-above S i k q t).0 R in
    let test = unsigned_test (average S i k q) (S.deadline k) (margin S i k q) t A D left in
    record {
      x = quotient (average S i k q) (S.deadline k - (margin S i k q + t));
      is = reading_unsigned (average S i k q) (S.deadline k) (margin S i k q) t ∙ rw (lt-ltb (margin S i k q + t) (S.deadline k) left);
      signed = test ∙ sym (at-most_difference t (S.deadline k) (mixed S i k q));
      whole = test;
    }

-- ---- of an accepted image

-- The average is at most n times the longest.
pub average-within : (S : Tables) (i k q b : ℕ) → k < S.n → ((p : ℕ) → p < S.n → S.average p q ≤ b) → average S i k q ≤ S.n * b
average-within S i k q b K h =
    omega (arith, sum-within (suc k) b (λ p. S.average p q) (λ p l. h p (omega arith)), mul-le-mul_right b K)

-- Of at most 64 actions with times of at most 24 bits.
pub average-small : (F : Profile) (o : Order F.n) (i k q : ℕ) → (Count F → ⊥) → (TimeOut F → ⊥) → k < F.n → q < F.levels
    → average (tables F o) i k q ≤ 1073741760
average-small F o i k q count times K Q =
    let n : F.n ≤ 64 = not-above (λ h. count (inl (inr (inl h)))) in
    omega (arith, average-within (tables F o) i k q longest_time K (λ p l. not-above (λ h. times (o.at p, o.at_lt p l, (q, Q, inl h)))))

-- A deadline is at most the cycle.
pub due-small : (F : Profile) (a : ℕ) → (Count F → ⊥) → (Range F → ⊥) → a < F.n → due F a ≤ last_clock
unfolding due
due-small F a count range l = go (eqb (F.deadline a) 0)
  where
    cycle : F.cycle ≤ last_clock
    cycle = not-above (λ h. count (inr (inr h)))

    own : F.deadline a ≤ F.cycle
    own = not-above (λ h. range (a, l, inl h))

    go : (b : Bool) → cond b F.cycle (F.deadline a) ≤ last_clock
    go true = cycle
    go false = le_trans own cycle

-- An image of bytes has times of 24 bits.
pub times-small : (s : List ℕ) → ((j : ℕ) → get_or s j 0 < 256) → TimeOut (profile s) → ⊥
unfolding profile average_of worst_of
times-small s byte (a, l, (q, level, e)) = ⊎_elim (beyond (record_at (levels s) a + 12 + 6 * q)) (beyond (record_at (levels s) a + 15 + 6 * q)) e
  where
    beyond : (at : ℕ) → longest_time < be s at 3 → ⊥
    beyond at h = omega (arith, byte at, byte (at + 1), byte (at + 2))

-- So the theorem holds at every position and level of an accepted image.
pub image-exact : (s : List ℕ) → ((j : ℕ) → get_or s j 0 < 256) → Sound s → (o : Order (profile s).n) (i k q t : ℕ) → k < (profile s).n
    → q < (profile s).levels → pos 0 <ℤ room (tables (profile s) o) i k q t → Exact (tables (profile s) o) i k q t
image-exact s byte sound o i k q t K Q =
    let count = sound.not_count in
    reading-exact (tables (profile s) o) i k q t
    (omega (arith, average-small (profile s) o i k q count (times-small s byte) K Q))
    (omega (arith, due-small (profile s) (o.at k) count sound.not_range (o.at_lt k K)))
