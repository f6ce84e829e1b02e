-- What the cycle must have room for over a coast, position by position: the greatest of the worst times before one and M from it on. The cycle
-- less that is the coast bound at each position. By the ends of a coast it is the greater of its first and its last. Assumes nothing.
use Prim.Native.Nat.{ℕ, suc, ◌+◌, ◌-◌, ◌*◌, ◌/◌, ◌%◌, ◌≤◌, ◌<◌, max, min}
use mathlib.Core.Path.{◌≡◌, ap, ap₂, sym, ◌∙◌}
use mathlib.Core.Bool.{true, false, ◌&&◌, ◌||◌}
use mathlib.Core.List.{List}
use mathlib.Core.Logic.{◌⊎◌, inl, inr, ⊎_elim, ⊎_map}
use native.Mathlib.Decide.{dec_le, dec_lt}
use native.Mathlib.Omega.{arith}
use lib.Dec.{leb, ltb, eqb}
use lib.IntN.{ℤ, pos, ◌-ℤ◌}
use borrow.Author.Tests.{ltb-true, ltb-false, lt-ltb, le-leb, lt-leb, eq-eqb, eqb-true}
use Rattle.rules.specs.Numbers.{longest_coast}
use Rattle.rules.specs.Words.{sum, span, greatest_of, maxZ, least_of}
use Rattle.rules.specs.Dry.{cell}
use Rattle.rules.specs.Repeat.{LentBody, positions, stretch_at, rest_lent, mix_from, last_mix, by_ends, lent_each, lent_plan}
use Rattle.rules.specs.declared.Body.{Body}
use Rattle.rules.proofs.Sums.{sum_longer}
use Rattle.rules.proofs.Differences.{take-both}
use Rattle.rules.proofs.Tests.{failed, not-both, and-true, or-true, neither}
use Rattle.rules.proofs.Limits.Signed.{AtMost, at-most-max, at-most-less, settled, least_all, all_least}
use Rattle.repeat_laws.specs.Standing.{Standing}
use Rattle.repeat_laws.proofs.Mixed.{each-greatest, greatest-under}
use Rattle.repeat_laws.proofs.Places.{row_lt}
use Rattle.repeat_laws.proofs.Standing.{stands, place_in, next-body, further, rest-left}
use Rattle.rules.proofs.Limits.Alike.{least-same}
use Rattle.repeat_limits.specs.Limits.{Stands, Summed, MoreAfter, Spans}
use Rattle.repeat_limits.proofs.Sizes.{mix_of}
use Rattle.repeat_limits.proofs.Reading.{alone, standing_mix, standing_worst}
use Rattle.repeat_limits.proofs.Refusing.{Entry, entry_of, summed-of}

-- c less the greatest is the least of c less each
least-greatest : (c : ℕ) (f : ℕ → ℕ) (i m : ℕ) → pos c -ℤ pos (greatest_of f i m) ≡ least_of (λ j. pos c -ℤ pos (f j)) i m
least-greatest c f i m = settled _ _ (λ t b. (
  (λ h. all_least (λ j. pos c -ℤ pos (f j)) t b i m (λ k u v. (at-most-less t b (pos c) (f k)).1
      (omega (arith, (at-most-less t b (pos c) (greatest_of f i m)).0 h, each-greatest f i m k u v)))),
  (λ h. (at-most-less t b (pos c) (greatest_of f i m)).1 (omega (
    arith,
    greatest-under f i m (c + b - t) (λ k u v. omega (arith, (at-most-less t b (pos c) (f k)).0 (least_all (λ j. pos c -ℤ pos (f j)) t b i m h k u v))),
    (at-most-less t b (pos c) (f i)).0 (least_all (λ j. pos c -ℤ pos (f j)) t b i m h i (omega arith) (omega arith)),
  ))),
))

module _ (b : Body) (T : LentBody) (i q : ℕ) where
  -- M from position j on, the worst times of the coast before it, and both
  abbrev mix : ℕ → ℕ
  mix j = mix_from b (λ p r. stretch_at T.summaries (p * b.levels + r)) j q

  abbrev before : ℕ → ℕ
  before j = span (λ p. cell T.worst b.levels (p % b.n) q) i j

  abbrev both : ℕ → ℕ
  both j = mix j + before j

  -- Of the first k positions: where the last one stands, the worst times before it, and the greatest.
  pub record Reaching (k place after spent most : ℕ) : Type 0 where
    pub some : 0 < k
    pub stands : Standing b (i + (k - 1)) place after
    pub spent-is : spent ≡ span (λ p. cell T.worst b.levels (p % b.n) q) i (i + (k - 1))
    pub most-is : most ≡ greatest_of (λ j. mix_from b (λ p r. stretch_at T.summaries (p * b.levels + r)) j q + span (λ p. cell T.worst b.levels (p % b.n) q) i j) i (k - 1)

  pub reaching_one : {place after most : ℕ} → Standing b i place after → most ≡ mix_of b.policy T.summaries (place * b.levels + q) q after
      → Reaching 1 place after 0 most
  unfolding greatest_of
  reaching_one {place} {after} {most} s e =
      let here : i + (1 - 1) ≡ i = omega arith in
      record {
        some = omega arith;
        stands = rw here s;
        spent-is = rw here (omega arith);
        most-is = e ∙ standing_mix T.summaries q s ∙ omega arith;
      }

  pub reaching_more : {k place after spent most to later : ℕ} → Reaching k place after spent most → Standing b (suc (i + (k - 1))) to later
      → Reaching (k + 1) to later (spent + cell T.worst b.levels place q)
      (max most (spent + cell T.worst b.levels place q + mix_of b.policy T.summaries (to * b.levels + q) q later))
  unfolding greatest_of sum
  reaching_more {k} {place} {after} {spent} {most} {to} {later} R s =
      let on : i + (k + 1 - 1) ≡ suc (i + (k - 1)) = omega (arith, R.some) in
      let count : k + 1 - 1 ≡ suc (k - 1) = omega (arith, R.some) in
      let next : i + suc (k - 1) ≡ suc (i + (k - 1)) = omega arith in
      let worst = ap (λ (p : ℕ). cell T.worst b.levels p q) R.stands.place_is in
      let longer = sum_longer (λ p. cell T.worst b.levels (p % b.n) q) i (i + (k - 1)) (omega arith) in
      let passed : spent + cell T.worst b.levels place q ≡ before (suc (i + (k - 1))) = omega (arith, R.spent-is, worst, longer) in
      record {
        some = omega arith;
        stands = rw on s;
        spent-is = rw on passed;
        most-is = rw (count, next) (omega (arith, R.most-is, passed, standing_mix T.summaries q s));
      }

  -- the cycle less the greatest of all is the coast bound
  pub reaching_all : {k place after spent most : ℕ} (r : ℕ) → Reaching k place after spent most → k ≡ r
      → pos b.cycle -ℤ pos most ≡ (lent_each b T).bound i q r
  unfolding lent_each
  reaching_all {k} {place} {after} {spent} {most} r R e =
      ap (λ (x : ℕ). pos b.cycle -ℤ pos x) (R.most-is ∙ ap (λ (m : ℕ). greatest_of both i (m - 1)) e)
      ∙ least-greatest b.cycle both i (r - 1)
      ∙ least-same _ _ i (r - 1) (λ j u v. sym (take-both b.cycle (mix j) (before j)))

-- ---- by the ends as well

-- c less the lesser is the greater of c less each
greater_lesser : (c a k : ℕ) → pos c -ℤ pos (min a k) ≡ maxZ (pos c -ℤ pos k) (pos c -ℤ pos a)
greater_lesser c a k = settled _ _ (λ t b. (
  (λ h. (at-most-max t b (pos c -ℤ pos k) (pos c -ℤ pos a)).1 (by t b ((at-most-less t b (pos c) (min a k)).0 h) (dec_le a k))),
  (λ h. (at-most-less t b (pos c) (min a k)).1 (⊎_elim
      (λ u. omega (arith, (at-most-less t b (pos c) k).0 u))
      (λ u. omega (arith, (at-most-less t b (pos c) a).0 u))
      ((at-most-max t b (pos c -ℤ pos k) (pos c -ℤ pos a)).0 h))),
))
  where
    by : (t b : ℕ) → t + min a k ≤ c + b → Dec (a ≤ k) → AtMost t b (pos c -ℤ pos k) ⊎ AtMost t b (pos c -ℤ pos a)
    by t b h (yes l) = inr ((at-most-less t b (pos c) a).1 (omega arith))
    by t b h (no l) = inl ((at-most-less t b (pos c) k).1 (omega arith))

module _ (b : Body) (T : LentBody) (i q r each : ℕ) (is : pos b.cycle -ℤ pos each ≡ (lent_each b T).bound i q r) where
  -- where the ends do not tell: a level above, or a coast that may be longer
  pub by_each : (suc q < b.levels) ⊎ ((r < longest_coast) × (r < positions b - i)) → pos b.cycle -ℤ pos each ≡ (lent_plan b T).bound i q r
  unfolding lent_plan
  by_each why = rw (untold why) is
    where
      untold : (suc q < b.levels) ⊎ ((r < longest_coast) × (r < positions b - i)) → by_ends b i q r ≡ false
      untold (inl top) = rw (lt-leb b.levels (suc q) top)
      untold (inr short) = failed _ (λ e. omega (
        arith,
        eqb-true r _ ((and-true (leb b.levels (suc q)) (eqb r (min longest_coast (positions b - i)))).0 e).1,
        short.0,
        short.1,
      ))

  -- where they do
  pub by_either : {first last : ℕ} → b.levels ≤ suc q → r ≡ min longest_coast (positions b - i)
      → first ≡ mix_from b (rest_lent b T) i q → last ≡ last_mix b (rest_lent b T) i q r
      → pos b.cycle -ℤ pos (min each (max first last)) ≡ (lent_plan b T).bound i q r
  unfolding lent_plan
  by_either {first} {last} top long first-is last_is =
      rw (le-leb b.levels (suc q) top, eq-eqb r (min longest_coast (positions b - i)) long)
      (greater_lesser b.cycle each (max first last)
      ∙ ap₂ (λ (k : ℕ) (z : ℤ). maxZ (pos b.cycle -ℤ pos k) z) (ap₂ max first-is last_is) is)

-- what the test for it tells, of so many positions left
module _ (levels q r left : ℕ) where
  pub untold : (ltb (q + 1) levels || (ltb r longest_coast && ltb r left)) ≡ true → (suc q < levels) ⊎ ((r < longest_coast) × (r < left))
  untold e = ⊎_map
      (λ h. let l = ltb-true (q + 1) levels h in omega arith)
      (λ h. let two = (and-true (ltb r longest_coast) (ltb r left)).0 h in (ltb-true r longest_coast two.0, ltb-true r left two.1))
      ((or-true (ltb (q + 1) levels) (ltb r longest_coast && ltb r left)).0 e)

  pub told : (ltb (q + 1) levels || (ltb r longest_coast && ltb r left)) ≡ false → r ≤ longest_coast → r ≤ left
      → (levels ≤ suc q) × (r ≡ min longest_coast left)
  told e most room = (let l = ltb-false (q + 1) levels both.0 in omega arith, by (dec_lt r longest_coast) (dec_lt r left))
    where
      both : (ltb (q + 1) levels ≡ false) × ((ltb r longest_coast && ltb r left) ≡ false)
      both = neither (ltb (q + 1) levels) (ltb r longest_coast && ltb r left) e

      by : Dec (r < longest_coast) → Dec (r < left) → r ≡ min longest_coast left
      by (yes u) (yes v) = absurd (not-both ((and-true (ltb r longest_coast) (ltb r left)).1 (lt-ltb _ _ u, lt-ltb _ _ v)) both.1)
      by (yes u) (no v) = omega arith
      by (no u) v = omega arith

-- ---- the coast's own facts

module _ {b : Body} {l : List ℕ} {place after q r : ℕ} (h : Spans b l place after q r) where
  -- the position that stands there
  abbrev pub from : ℕ
  from = (b.repeats - 1 - after) * b.n + place

  pub from-stands : Standing b ((b.repeats - 1 - after) * b.n + place) place after
  from-stands = stands h.counts.some_action place after h.inside h.fewer

  module _ {x to later : ℕ} (s : Standing b x to later) where
    stands_there : Stands b l x q
    stands_there = record { counts = h.counts; summed = h.summed; present = s.present; level = h.level }

    pub summed_there : Summed l (to * b.levels + q) q later
    summed_there = summed-of stands_there s

    pub entry_there : Entry b to q
    entry_there = entry_of stands_there s

    pub more_there : suc x < positions b → MoreAfter b to later
    more_there m = record {
      inside = place_in h.counts.some_action s;
      few = h.counts.few;
      more = λ e. (next-body h.counts.some_action s e m).0;
    }

  -- the coast ends within the frame
  pub room_left : {x : ℕ} → Standing b x place after → x + r ≤ positions b
  room_left {x} s = omega (arith, rest-left h.counts.some_action s, h.room, s.present)

  -- Its last position stands past the bodies between, and these are fewer than its actions.
  pub last-stands : {x : ℕ} → Standing b x place after
      → ((place + r - 1) / b.n ≤ after) × Standing b (x + (r - 1)) ((place + r - 1) % b.n) (after - (place + r - 1) / b.n)
  last-stands {x} s =
      let e : place + r - 1 ≡ place + (r - 1) = omega (arith, h.some) in
      rw e (further h.counts.some_action s (r - 1) (omega (arith, room_left s, h.some)))

  pub few_passed : (place + r - 1) / b.n < longest_coast
  few_passed = row_lt h.counts.some_action (omega (arith, h.inside, h.most, h.counts.some_action))

  -- What comes before it and M from it on, by where both stand.
  pub last-read : {x : ℕ} → Standing b x place after
      → (stretch_at l (place * b.levels + q)).worst + (place + r - 1) / b.n * (stretch_at l q).worst
      - (stretch_at l ((place + r - 1) % b.n * b.levels + q)).worst
      + mix_of b.policy l ((place + r - 1) % b.n * b.levels + q) q (after - (place + r - 1) / b.n)
      ≡ last_mix b (rest_lent b (alone l)) x q r
  last-read {x} s =
      let last = last-stands s in
      let p : ℕ = (place + r - 1) / b.n in
      let v : ℕ = (stretch_at l q).worst in
      let all : after * v ≡ (p + (after - p)) * v = (let e : after ≡ p + (after - p) = omega (arith, last.0) in ap (λ (k : ℕ). k * v) e) in
      omega (arith, all, standing_worst l q s, standing_worst l q last.1, standing_mix l q last.1)
