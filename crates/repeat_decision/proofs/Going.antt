-- A coast found from below: where its last position stands, when that begins at the latest, and that it qualifies so far. Assumes nothing.
use Prim.Native.Nat.{ℕ, zero, suc, ◌+◌, ◌-◌, ◌*◌, ◌%◌, ◌≤◌, ◌<◌, min}
use mathlib.Core.Path.{◌≡◌, refl, ap, sym, ◌∙◌}
use mathlib.Core.Bool.{Bool, true, false, not, ◌&&◌, ◌||◌}
use mathlib.Core.List.{List, []}
use mathlib.Core.Logic.{◌⊎◌, inl, inr, ◌≢◌, ⊎_elim}
use native.Mathlib.Nat.{mul-le-mul, mul-le-mul_right, le_refl}
use native.Mathlib.Decide.{dec_le}
use native.Mathlib.Omega.{arith}
use lib.IntN.{pos, ◌-ℤ◌}
use lib.ListN.{get_or}
use lib.Signed.{le_z}
use borrow.Author.Tests.{ltb-true, lt-ltb}
use Rattle.rules.specs.Numbers.{most_repeats, longest_coast}
use Rattle.rules.specs.Words.{sum, span}
use Rattle.rules.specs.Run.{left_granted}
use Rattle.rules.specs.Dry.{cell}
use Rattle.rules.specs.Repeat.{LentBody, positions, stretch_at, lent_each, lent_plan}
use Rattle.rules.specs.declared.Body.{Body}
use Rattle.rules.proofs.Sums.{sum_longer}
use Rattle.rules.proofs.Tests.{not-both}
use Rattle.repeat_laws.specs.Standing.{Standing}
use Rattle.repeat_laws.proofs.Standing.{stands, place_in, next_place, next-body}
use Rattle.repeat_laws.proofs.Coasting.{Coasting, coasting_one, coasting_more, stops_rising, stops-falling, stops_ending, granted}
use Rattle.repeat_limits.specs.Limits.{most_entry, latest, later_of, room_left, fits_in}
use Rattle.repeat_limits.proofs.Sizes.{mix_of}
use Rattle.repeat_limits.proofs.Reading.{limit-read}
use Rattle.repeat_limits.proofs.Rooms.{later-room, room-is-limit}
use Rattle.repeat_decision.specs.Decision.{most_cells, Summarised, stops_there, walked, Walks}
use Rattle.repeat_decision.specs.declared.Reached.{Reached}

-- whether a level fits at a time, by the summaries alone
abbrev pub fit : Body → List ℕ → ℕ → ℕ → ℕ → Bool
fit b s t x q = le_z (pos t) ((lent_plan b (record { order = []; summaries = s; worst = [] })).limit x q)

-- ---- where a place stands

module _ {b : Body} {s : List ℕ} {place after : ℕ} (h : Summarised b s place after) where
  pub from-stands : Standing b ((b.repeats - 1 - after) * b.n + place) place after
  from-stands = stands h.counts.some_action place after h.inside h.fewer

  -- the rows of the summaries: that of the place, and the first
  pub record Row : Type 0 where
    pub inside : place * b.levels + b.levels ≤ b.n * b.levels
    pub first-row : b.levels ≤ b.n * b.levels
    pub cells : b.n * b.levels ≤ most_cells
    pub few : after < most_repeats

  pub row : Row
  row = record {
    inside = omega (arith, mul-le-mul_right b.levels h.inside);
    first-row = omega (arith, mul-le-mul_right b.levels h.counts.some_action);
    cells = mul-le-mul h.counts.few h.counts.few_levels;
    few = omega (arith, h.fewer, h.counts.few_repeats);
  }

-- what is read there is the limit of the lent plan
pub reads-limit : {b : Body} (T : LentBody) {x place after : ℕ} (t q : ℕ) → Standing b x place after
    → le_z (pos t) (pos b.cycle -ℤ pos (mix_of b.policy T.summaries (place * b.levels + q) q after)) ≡ le_z (pos t) ((lent_plan b T).limit x q)
reads-limit T t q s = ap (le_z (pos t)) (sym (limit-read T q s))

-- the room there is that limit, and by the bodies after it
pub reads-room : {b : Body} (T : LentBody) {x place after : ℕ} (t q entry : ℕ) → (stretch_at T.summaries entry).average ≤ most_entry → t ≤ latest
    → entry ≡ place * b.levels + q → Standing b x place after
    → fits_in (stretch_at T.summaries entry) (room_left b.cycle t (later_of b.policy (stretch_at T.summaries q) after)) ≡ le_z (pos t) ((lent_plan b T).limit x q)
reads-room {b} T {after = after} t q entry small early e s =
    room-is-limit b.cycle t (stretch_at T.summaries entry) b.policy (stretch_at T.summaries q) after small early
    ∙ ap (λ (y : ℕ). le_z (pos t) (pos b.cycle -ℤ pos (mix_of b.policy T.summaries y q after))) e
    ∙ reads-limit T t q s

-- why a coast stops, and why it goes on
pub stop_why : (a b c : Bool) → (not a || (b && c)) ≡ true → (a ≡ false) ⊎ ((b ≡ true) × (c ≡ true))
stop_why true true true e = inr (refl, refl)
stop_why true true false e = absurd (not-both e refl)
stop_why true false c e = absurd (not-both e refl)
stop_why false b c e = inl refl

pub go_why : (a b c : Bool) → (not a || (b && c)) ≡ false → (a ≡ true) × (b ≡ true → c ≡ false)
go_why true true true e = absurd (not-both refl e)
go_why true true false e = (refl, λ h. refl)
go_why true false c e = (refl, λ h. absurd (not-both h refl))
go_why false b c e = absurd (not-both refl e)

-- ---- the coast

-- the last place of a body is the one with no row after it
past-last : (b : Body) (q place : ℕ) {entry : ℕ} → q < b.levels → place < b.n → entry ≡ suc place * b.levels + q → b.n * b.levels ≤ entry → suc place ≡ b.n
past-last b q place level inside e h = go (dec_le (suc (suc place)) b.n)
  where
    go : Dec (suc (suc place) ≤ b.n) → suc place ≡ b.n
    go (yes l) = absurd (omega (arith, h, e, level, mul-le-mul_right b.levels l))
    go (no l) = omega (arith, inside, l)

not_last : (b : Body) (q place : ℕ) {entry : ℕ} → entry ≡ suc place * b.levels + q → entry < b.n * b.levels → suc place ≢ b.n
not_last b q place e h same = let row = ap (λ (k : ℕ). k * b.levels) same in absurd (omega (arith, h, e, row))

-- the room where a position begins, and at the decision that of the level above
pub record Roomed (b : Body) (T : LentBody) (t q begins : ℕ) (r : Reached) : Type 0 where
  pub own : r.own ≡ room_left b.cycle begins (later_of b.policy (stretch_at T.summaries q) r.after)
  pub above : suc q < b.levels → r.above ≡ room_left b.cycle t (later_of b.policy (stretch_at T.summaries (suc q)) r.after)

pub rooms_moved : {b : Body} {T : LentBody} {t q begins : ℕ} {x y : Reached} → x ≡ y → Roomed b T t q begins y → Roomed b T t q begins x
rooms_moved e r = rw e r

module _ (b : Body) (T : LentBody) (t i q : ℕ) where
  -- the worst time at a position of the coast
  abbrev worst_at : ℕ → ℕ
  worst_at p = cell T.worst b.levels (p % b.n) q

  -- The coast is granted up to position i + left. `entry` is one row on from it, past the last one at the end of a body; what comes then begins at
  -- `begins` at the latest.
  pub record Granted (left entry after begins : ℕ) : Type 0 where
    pub coasting : Coasting b T t i q left
    pub place : ℕ
    pub standing : Standing b (i + left) place after
    pub entry_is : entry ≡ suc place * b.levels + q
    pub begins-is : begins ≡ t + span worst_at i (i + suc left)

  -- The same where the next position is, and stands at `entry`.
  pub record Ahead (left entry after begins : ℕ) : Type 0 where
    pub coasting : Coasting b T t i q left
    pub place : ℕ
    pub standing : Standing b (i + suc left) place after
    pub entry_is : entry ≡ place * b.levels + q
    pub begins-is : begins ≡ t + span worst_at i (i + suc left)

  next_is : (left : ℕ) → i + suc left ≡ suc (i + left)
  next_is left = omega arith

  pub granted_first : {place after : ℕ} → Standing b i place after → le_z (pos t) ((lent_plan b T).limit i q) ≡ true
      → (suc q < b.levels → le_z (pos t) ((lent_plan b T).limit i (suc q)) ≡ false)
      → Granted 0 (suc place * b.levels + q) after (t + cell T.worst b.levels place q)
  unfolding sum
  granted_first {place} s fits low = record {
    coasting = coasting_one b T t i q s.present fits low;
    place = place;
    standing = let here : i + 0 ≡ i = omega arith in rw here s;
    entry_is = refl;
    begins-is = rw (next_is 0) (let here : i + 0 ≡ i = omega arith in rw here (omega (arith, ap (λ (p : ℕ). cell T.worst b.levels p q) s.place_is)));
  }

  module _ {left entry after begins : ℕ} (some : 0 < b.n) (g : Granted left entry after begins) where
    -- in the same body
    pub stays : entry < b.n * b.levels → Ahead left entry after begins
    stays h = record {
      coasting = g.coasting;
      place = suc g.place;
      standing = rw (next_is left) (next_place some g.standing (not_last b q g.place g.entry_is h));
      entry_is = g.entry_is;
      begins-is = g.begins-is;
    }

    -- in the next one
    pub turns : q < b.levels → b.n * b.levels ≤ entry → suc (i + left) < positions b
        → (0 < after) × (entry ≡ b.n * b.levels + q) × Ahead left q (after - 1) begins
    turns level h more =
        let last = past-last b q g.place level (place_in some g.standing) g.entry_is h in
        let next = next-body some g.standing last more in (
          next.0,
          omega (arith, g.entry_is, ap (λ (k : ℕ). k * b.levels) last),
          record {
            coasting = g.coasting;
            place = 0;
            standing = rw (next_is left) next.1;
            entry_is = omega arith;
            begins-is = g.begins-is;
          },
        )

  pub granted_moved : {x y : Reached} {left begins : ℕ} → x ≡ y → Granted left y.entry y.after begins → Granted left x.entry x.after begins
  granted_moved e g = rw e g

  -- ---- the test of the next position

  module _ {left entry after begins : ℕ} (a : Ahead left entry after begins) where
    pub passes : le_z (pos begins) ((lent_plan b T).limit (i + suc left) q) ≡ true
        → (suc q < b.levels → le_z (pos t) ((lent_plan b T).limit (i + suc left) (suc q)) ≡ false)
        → suc (suc left) ≤ longest_coast → Granted (suc left) (entry + b.levels) after (begins + get_or T.worst entry 0)
    unfolding sum
    passes fits low most = record {
      coasting = coasting_more b T t i q left a.coasting (omega (arith, a.standing.present)) most (rw (sym a.begins-is) fits) low;
      place = a.place;
      standing = a.standing;
      entry_is = omega (arith, a.entry_is);
      begins-is = rw (next_is (suc left)) (omega (
        arith,
        a.begins-is,
        ap (λ (k : ℕ). get_or T.worst k 0) a.entry_is,
        ap (λ (p : ℕ). cell T.worst b.levels p q) a.standing.place_is,
        sum_longer worst_at i (i + suc left) (omega arith),
      ));
    }

    pub rises : suc q < b.levels → le_z (pos t) ((lent_plan b T).limit (i + suc left) (suc q)) ≡ true
        → left ≡ left_granted longest_coast (lent_each b T) t i q
    rises top h = granted b T t i q left a.coasting (stops_rising b T t i q left top h)

    pub falls : le_z (pos begins) ((lent_plan b T).limit (i + suc left) q) ≡ false → left ≡ left_granted longest_coast (lent_each b T) t i q
    falls h = granted b T t i q left a.coasting (stops-falling b T t i q left (rw (sym a.begins-is) h))

  pub whole : {left entry after begins : ℕ} → Granted left entry after begins → suc left ≡ min longest_coast (positions b - i)
      → left ≡ left_granted longest_coast (lent_each b T) t i q
  whole {left} g e = granted b T t i q left g.coasting (stops_ending b T t i q left e)

  module _ (small : (k : ℕ) → (stretch_at T.summaries k).average ≤ most_entry) (early : t ≤ latest) where
    module _ {left begins : ℕ} (r : Reached) (a : Ahead left r.entry r.after begins) (R : Roomed b T t q begins r) (late : begins ≤ latest) where
      own-reads : fits_in (stretch_at T.summaries r.entry) r.own ≡ le_z (pos begins) ((lent_plan b T).limit (i + suc left) q)
      own-reads =
          ap (fits_in (stretch_at T.summaries r.entry)) R.own ∙ reads-room T begins q r.entry (small r.entry) late a.entry_is a.standing

      above-reads : suc q < b.levels
          → fits_in (stretch_at T.summaries (suc r.entry)) r.above ≡ le_z (pos t) ((lent_plan b T).limit (i + suc left) (suc q))
      above-reads top =
          ap (fits_in (stretch_at T.summaries (suc r.entry))) (R.above top)
          ∙ reads-room T t (suc q) (suc r.entry) (small (suc r.entry)) early (omega (arith, a.entry_is)) a.standing

      pub goes_on : suc (suc left) ≤ longest_coast → stops_there b T.summaries r q ≡ false
          → Granted (suc left) (r.entry + b.levels) r.after (begins + get_or T.worst r.entry 0)
      goes_on most h =
          let why = go_why _ _ _ h in
          passes a (sym own-reads ∙ why.0) (λ top. sym (above-reads top) ∙ why.1 (lt-ltb (suc q) b.levels top)) most

      pub stops-here : stops_there b T.summaries r q ≡ true → left ≡ left_granted longest_coast (lent_each b T) t i q
      stops-here h =
          ⊎_elim (λ down. falls a (sym own-reads ∙ down))
          (λ up. let top = ltb-true (suc q) b.levels up.0 in rises a top (sym (above-reads top) ∙ up.1))
          (stop_why _ _ _ h)

    -- ---- along one body

    -- how far a walk has got after so many places
    pub record Within (left begins : ℕ) (r : Reached) (k : ℕ) : Type 0 where
      pub inside : r.entry + k * b.levels < b.n * b.levels
      pub most : suc (suc (left + k)) ≤ longest_coast
      pub late : begins + sum k (λ j. get_or T.worst (r.entry + j * b.levels) 0) ≤ latest

    module _ {left begins stop : ℕ} {r to : Reached} (some : 0 < b.n) (a : Ahead left r.entry r.after begins) (R : Roomed b T t q begins r)
        (W : Walks b T.summaries T.worst r stop q to) (within : (k : ℕ) → r.entry + k * b.levels < stop → Within left begins r k) where
      abbrev time : ℕ → ℕ
      time j = get_or T.worst (r.entry + j * b.levels) 0

      roomed : (k : ℕ) → Roomed b T t q (begins + sum k time) (walked b T.worst r k)
      roomed k = record {
        own = later-room b.cycle begins (sum k time) (later_of b.policy (stretch_at T.summaries q) r.after) R.own;
        above = R.above;
      }

      onto : (k : ℕ) → k < W.steps → Ahead (left + k) (r.entry + k * b.levels) r.after (begins + sum k time)
          → Granted (left + suc k) (r.entry + suc k * b.levels) r.after (begins + sum (suc k) time)
      unfolding sum
      onto k l h =
          let g = W.goes k l in
          let w = within k g.0 in
          let one : left + suc k ≡ suc (left + k) = omega arith in
          let row : r.entry + suc k * b.levels ≡ r.entry + k * b.levels + b.levels = omega arith in
          let then : begins + (sum k time + time k) ≡ begins + sum k time + time k = omega arith in
          rw (one, row, then) (goes_on (walked b T.worst r k) h (roomed k) w.late w.most g.1)

      ahead : (k : ℕ) → k ≤ W.steps → r.entry + k * b.levels < stop → Ahead (left + k) (r.entry + k * b.levels) r.after (begins + sum k time)
      unfolding sum
      ahead zero l h =
          let none : left + 0 ≡ left = omega arith in
          let row : r.entry + 0 * b.levels ≡ r.entry = omega arith in
          let then : begins + 0 ≡ begins = omega arith in
          rw (none, row, then) a
      ahead (suc k) l h = stays some (onto k (omega (arith, l)) (ahead k (omega (arith, l)) (W.goes k (omega (arith, l))).0)) (within (suc k) h).inside

      -- it stops at a place, or has passed the last one
      pub stopped : to.entry < stop → stops_there b T.summaries to q ≡ true → left + W.steps ≡ left_granted longest_coast (lent_each b T) t i q
      stopped l h =
          let here : r.entry + W.steps * b.levels < stop = omega (arith, l, ap (λ (x : Reached). x.entry) W.is) in
          stops-here (walked b T.worst r W.steps) (ahead W.steps (le_refl _) here) (roomed W.steps) (within W.steps here).late
          (ap (λ (x : Reached). stops_there b T.summaries x q) (sym W.is) ∙ h)

      pub passed_all : 0 < W.steps
          → Granted (left + W.steps) to.entry to.after (begins + sum W.steps time) × Roomed b T t q (begins + sum W.steps time) to
      passed_all l =
          let last : suc (W.steps - 1) ≡ W.steps = omega (arith, l) in
          let low : W.steps - 1 < W.steps = omega (arith, l) in
          let all = onto (W.steps - 1) low (ahead (W.steps - 1) (omega (arith, low)) (W.goes (W.steps - 1) low).0) in
          (granted_moved W.is (rw last at all), rooms_moved W.is (roomed W.steps))
