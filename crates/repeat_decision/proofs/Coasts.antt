-- A coast body by body: what is known before a body is walked along, while it is, and where the walk ends. Assumes nothing.
use Prim.Native.Nat.{ℕ, suc, ◌+◌, ◌-◌, ◌*◌, ◌≤◌, ◌<◌, min}
use mathlib.Core.Path.{◌≡◌, refl, ap, ◌∙◌}
use mathlib.Core.Bool.{true, false}
use mathlib.Core.Logic.{inl, inr, ⊎_elim}
use native.Mathlib.Nat.{mul-le-mul_right}
use native.Mathlib.Decide.{dec_le}
use native.Mathlib.Omega.{arith}
use lib.IntN.{pos}
use lib.ListN.{length, get_or}
use lib.Signed.{le_z}
use Rattle.rules.specs.Numbers.{most_actions, longest_coast, summary_numbers}
use Rattle.rules.specs.Words.{sum}
use Rattle.rules.specs.Run.{left_granted}
use Rattle.rules.specs.Repeat.{LentBody, positions, stretch_at, lent_each, lent_plan}
use Rattle.rules.specs.declared.Body.{Body}
use Rattle.repeat_laws.specs.Standing.{Standing}
use Rattle.repeat_laws.proofs.Standing.{fewer, rest-left}
use Rattle.repeat_limits.specs.Limits.{most_entry, latest, greatest_later, later_of, room_left, narrowed_by, Near, Nears}
use Rattle.repeat_limits.specs.declared.Room.{Room}
use Rattle.repeat_limits.proofs.Sizes.{later-few}
use Rattle.repeat_limits.proofs.Rooms.{later-room, room-near}
use Rattle.repeat_decision.specs.Decision.{last_start, Summarised, onward_by, MayTurn, Turns, MayWalk, Walks}
use Rattle.repeat_decision.specs.declared.Reached.{Reached}
use Rattle.repeat_decision.proofs.Walking.{rows-below, sum-few}
use Rattle.repeat_decision.proofs.Going.{from-stands, Roomed, Granted, Ahead, granted_first, stays, turns, whole, Within, stopped, passed_all}

-- where a walk ends: with the body, or with what is still to be looked at
abbrev pub stop_from : Body → Reached → ℕ → ℕ
stop_from b r q = min (r.entry + r.rest * b.levels) (b.n * b.levels + q)

-- that is a row of the body, and no more than are still to be looked at
abbrev EndsAt : ℕ → ℕ → ℕ → ℕ → ℕ → Type 0
EndsAt L n p rest q = (last : ℕ) × (last ≤ n) × (last ≤ p + rest) × (min (p * L + q + rest * L) (n * L + q) ≡ last * L + q)

ends_at : (L n p rest q : ℕ) → EndsAt L n p rest q
ends_at L n p rest q = go (dec_le (p + rest) n)
  where
    go : Dec (p + rest ≤ n) → EndsAt L n p rest q
    go (yes l) = (p + rest, l, omega arith, omega (arith, mul-le-mul_right L l))
    go (no l) = let m : n ≤ p + rest = omega (arith, l) in (n, omega arith, m, omega (arith, mul-le-mul_right L m))

-- What stays: the decision's place and time, its level, the tables, and how long the coast may be.
pub record Setting (b : Body) (T : LentBody) (place after t q end : ℕ) : Type 0 where
  pub summarised : Summarised b T.summaries place after
  pub timed : b.n * b.levels ≤ length T.worst
  pub level : q < b.levels
  pub early : t ≤ last_start
  pub few_numbers : (k : ℕ) → get_or T.summaries k 0 ≤ most_entry
  pub few_times : (k : ℕ) → get_or T.worst k 0 ≤ most_entry
  pub end_is : suc end ≡ min longest_coast (after * b.n + (b.n - place))

module _ {b : Body} {T : LentBody} {place after t q end : ℕ} (S : Setting b T place after t q end) where
  -- Before a body.
  pub record Coast (here : Reached) : Type 0 where
    pub few : here.rest ≤ end
    pub begins : ℕ
    pub late : begins ≤ t + suc (end - here.rest) * most_entry
    pub rooms : Roomed b T t q begins here
    pub granted : (x : ℕ) → Standing b x place after → Granted b T t x q (end - here.rest) here.entry here.after begins

  -- In it.
  pub record Looking (here : Reached) : Type 0 where
    pub some : 0 < here.rest
    pub few : here.rest ≤ end
    pub begins : ℕ
    pub late : begins ≤ t + suc (end - here.rest) * most_entry
    pub rooms : Roomed b T t q begins here
    pub ahead : (x : ℕ) → Standing b x place after → Ahead b T t x q (end - here.rest) here.entry here.after begins
    pub inside : here.entry < b.n * b.levels

  pub coast_moved : {x y : Reached} → x ≡ y → Coast y → Coast x
  coast_moved e c = rw e c

  abbrev some_action : 0 < b.n
  some_action = S.summarised.counts.some_action

  -- some position stands at the place
  abbrev origin : ℕ
  origin = (b.repeats - 1 - after) * b.n + place

  origin-stands : Standing b origin place after
  origin-stands = from-stands S.summarised

  pub short : suc end ≤ longest_coast
  short = omega (arith, S.end_is)

  -- one more position is there
  more : (x rest : ℕ) → Standing b x place after → 0 < rest → rest ≤ end → suc (x + (end - rest)) < positions b
  more x rest s l m = omega (arith, S.end_is, rest-left some_action s, s.present, l, m)

  -- so many positions begin before the latest time that the room is told of, by as much as a body's worst times
  in_time : (begins rest : ℕ) → rest ≤ end → begins ≤ t + suc (end - rest) * most_entry → begins + most_actions * most_entry ≤ latest
  in_time begins rest m l =
      let many : suc (end - rest) ≤ longest_coast = omega (arith, short) in
      omega (arith, l, mul-le-mul_right most_entry many, S.early)

  few-later : (r m : ℕ) → m < b.repeats → let y = later_of b.policy (stretch_at T.summaries r) m in (y.lowest ≤ greatest_later) × (y.mix ≤ greatest_later)
  few-later r m l =
      later-few b.policy (stretch_at T.summaries r) m (S.few_numbers (r * summary_numbers)) (S.few_numbers (r * summary_numbers + 1))
      (S.few_numbers (r * summary_numbers + 2)) (omega (arith, l, S.summarised.counts.few_repeats))

  first-row : (r : ℕ) → r < b.levels → r * summary_numbers + summary_numbers ≤ length T.summaries
  first-row r l = omega (arith, l, mul-le-mul_right b.levels some_action, S.summarised.summed)

  -- ---- the decision itself

  module _ {own above : Room} (own_is : own ≡ room_left b.cycle t (later_of b.policy (stretch_at T.summaries q) after))
      (above-is : suc q < b.levels → above ≡ room_left b.cycle t (later_of b.policy (stretch_at T.summaries (suc q)) after)) where
    pub first-near : (w : ℕ) → w ≤ most_entry → Near (narrowed_by own w)
    first-near w l =
        let few = few-later q after S.summarised.fewer in
        room-near b.cycle t w (later_of b.policy (stretch_at T.summaries q) after) S.summarised.counts.cycle_in (omega (arith, l, S.early)) few.0 few.1
        own_is

    pub first-coast : ((x : ℕ) → Standing b x place after → le_z (pos t) ((lent_plan b T).limit x q) ≡ true)
        → ((x : ℕ) → Standing b x place after → suc q < b.levels → le_z (pos t) ((lent_plan b T).limit x (suc q)) ≡ false)
        → let first = place * b.levels + q in
        Coast (onward_by b.levels (get_or T.worst first 0) (record {
          entry = first;
          rest = end + 1;
          after = after;
          own = own;
          above = above;
        }))
    first-coast fits low =
        let w : ℕ = get_or T.worst (place * b.levels + q) 0 in
        let all : end + 1 - 1 ≡ end = omega arith in
        let none : end - end ≡ 0 = omega arith in
        let row : place * b.levels + q + b.levels ≡ suc place * b.levels + q = omega arith in
        record {
          few = omega arith;
          begins = t + w;
          late = omega (arith, S.few_times (place * b.levels + q));
          rooms = record {
            own = later-room b.cycle t w (later_of b.policy (stretch_at T.summaries q) after) own_is;
            above = above-is;
          };
          granted = λ x s. rw (all, none, row) (granted_first b T t x q s (fits x s) (low x s));
        }

  -- ---- into a body

  module _ {here : Reached} (C : Coast here) (some : 0 < here.rest) where
    turning : b.n * b.levels ≤ here.entry
        → (0 < here.after) × (here.entry ≡ b.n * b.levels + q) × Ahead b T t origin q (end - here.rest) q (here.after - 1) C.begins
    turning h = turns b T t origin q some_action (C.granted origin origin-stands) S.level h (more origin here.rest origin-stands some C.few)

    bodies-few : here.after < b.repeats
    bodies-few = fewer some_action (C.granted origin origin-stands).standing

    pub may_turn : MayTurn b T.summaries here q
    may_turn = record {
      few = S.summarised.counts.few;
      few_levels = S.summarised.counts.few_levels;
      level = S.level;
      own = λ h. nears q C.begins S.level h (omega (arith, in_time C.begins here.rest C.few C.late)) C.rooms.own;
      above = λ h top. nears (suc q) t top h (omega (arith, S.early)) (C.rooms.above top);
    }
      where
        nears : {room : Room} (r begins : ℕ) → r < b.levels → b.n * b.levels ≤ here.entry → begins ≤ latest
            → room ≡ room_left b.cycle begins (later_of b.policy (stretch_at T.summaries r) here.after) → Nears b.policy T.summaries r here.after room
        nears r begins l h early is = record {
          whole = first-row r l;
          some = (turning h).0;
          few = omega (arith, bodies-few, S.summarised.counts.few_repeats);
          cycle = b.cycle;
          begins = begins;
          cycle_in = S.summarised.counts.cycle_in;
          early = early;
          is = is;
        }

    pub looking : {to : Reached} → Turns b T.summaries here q to → Looking to × (to.rest ≡ here.rest)
    looking {to} (inl (l, e)) = rw e (
      record {
        some = some;
        few = C.few;
        begins = C.begins;
        late = C.late;
        rooms = C.rooms;
        ahead = λ x s. stays b T t x q some_action (C.granted x s) l;
        inside = l;
      },
      refl,
    )
    looking {to} (inr (l, w)) = (
      record {
        some = omega (arith, some, w.rest);
        few = omega (arith, C.few, w.rest);
        begins = C.begins;
        late = rw w.rest C.late;
        rooms = record {
          own = rw w.after (w.own b.cycle C.begins C.rooms.own);
          above = λ top. rw w.after (w.above top b.cycle t (C.rooms.above top));
        };
        ahead = λ x s. rw (w.rest, w.entry, w.after) (turns b T t x q some_action (C.granted x s) S.level l (more x here.rest s some C.few)).2;
        inside = omega (arith, w.entry, S.level, mul-le-mul_right b.levels some_action);
      },
      w.rest,
    )

  -- ---- along it

  module _ {here : Reached} (L : Looking here) where
    abbrev stop : ℕ
    stop = stop_from b here q

    standing_at : Ahead b T t origin q (end - here.rest) here.entry here.after L.begins
    standing_at = L.ahead origin origin-stands

    after-few : here.after < b.repeats
    after-few = fewer some_action standing_at.standing

    pub may_walk : MayWalk b T.summaries T.worst here stop q
    may_walk =
        let a = standing_at in
        let e = ends_at b.levels b.n a.place here.rest q in
        record {
          counts = S.summarised.counts;
          summed = S.summarised.summed;
          timed = S.timed;
          level = S.level;
          place = a.place;
          last = e.0;
          inside = e.1;
          enough = e.2;
          entry_is = a.entry_is;
          stop_is = ap (λ (x : ℕ). min (x + here.rest * b.levels) (b.n * b.levels + q)) a.entry_is ∙ e.3;
          near = λ k l.
              let few = few-later q here.after after-few in
              let all : b.n * most_entry ≤ most_actions * most_entry = mul-le-mul_right most_entry S.summarised.counts.few in
              room-near b.cycle L.begins k (later_of b.policy (stretch_at T.summaries q) here.after) S.summarised.counts.cycle_in
              (omega (arith, l, all, in_time L.begins here.rest L.few L.late)) few.0 few.1 L.rooms.own;
        }

    module _ {to : Reached} (W : Walks b T.summaries T.worst here stop q to) where
      abbrev time : ℕ → ℕ
      time j = get_or T.worst (here.entry + j * b.levels) 0

      -- each place looked at is in the body and one of those still to be looked at
      in_body : (k : ℕ) → here.entry + k * b.levels < stop → here.entry + k * b.levels < b.n * b.levels
      in_body k l =
          let a = standing_at in
          let there : a.place + k < b.n = rows-below b.levels q (a.place + k) b.n (omega (arith, l, a.entry_is)) in
          omega (arith, a.entry_is, S.level, mul-le-mul_right b.levels there)

      before_last : (k : ℕ) → here.entry + k * b.levels < stop → k < here.rest
      before_last k l = rows-below b.levels here.entry k here.rest (omega (arith, l))

      spent : (k : ℕ) → k ≤ longest_coast → sum k time ≤ longest_coast * most_entry
      spent k l = omega (arith, sum-few time most_entry (λ j. S.few_times (here.entry + j * b.levels)) k, mul-le-mul_right most_entry l)

      within : (x k : ℕ) → here.entry + k * b.levels < stop → Within b T t x q (λ r. S.few_numbers (r * summary_numbers)) (omega (arith, S.early)) (end - here.rest) L.begins here k
      within x k l =
          let before = before_last k l in
          record {
            inside = in_body k l;
            most = omega (arith, short, before, L.few);
            late = omega (arith, spent k (omega (arith, short, before, L.few)), in_time L.begins here.rest L.few L.late);
          }

      steps-few : W.steps ≤ here.rest
      steps-few = go (dec_le 1 W.steps)
        where
          go : Dec (1 ≤ W.steps) → W.steps ≤ here.rest
          go (yes l) = omega (arith, l, before_last (W.steps - 1) (W.goes (W.steps - 1) (omega (arith, l))).0)
          go (no l) = omega (arith, l)

      -- what is left to be looked at
      entry_is : to.entry ≡ here.entry + W.steps * b.levels
      entry_is = ap (λ (r : Reached). r.entry) W.is

      rest-is : to.rest ≡ here.rest - W.steps
      rest-is = ap (λ (r : Reached). r.rest) W.is

      pub still-few : to.rest ≤ end
      still-few = omega (arith, rest-is, L.few)

      granted_so_far : end - to.rest ≡ end - here.rest + W.steps
      granted_so_far = omega (arith, rest-is, steps-few, L.few)

      pub stops_at : to.entry < stop → (x : ℕ) → Standing b x place after
          → end - to.rest ≡ left_granted longest_coast (lent_each b T) t x q
      stops_at l x s =
          granted_so_far
          ∙ stopped b T t x q (λ r. S.few_numbers (r * summary_numbers)) (omega (arith, S.early)) some_action (L.ahead x s) L.rooms W (within x) l
          (⊎_elim (λ w. w.1) (λ w. absurd (omega (arith, l, w))) W.stops)

      some-steps : stop ≤ to.entry → 0 < W.steps
      some-steps h = go (dec_le 1 W.steps)
        where
          go : Dec (1 ≤ W.steps) → 0 < W.steps
          go (yes l) = l
          go (no l) =
              let none : W.steps ≡ 0 = omega (arith, l) in
              let far : 1 * b.levels ≤ here.rest * b.levels = mul-le-mul_right b.levels L.some in
              let at = rw none at entry_is in
              absurd (omega (arith, h, at, L.inside, far, S.summarised.counts.some_level))

      all_passed : 0 < W.steps → (x : ℕ) → Standing b x place after
          → Granted b T t x q (end - here.rest + W.steps) to.entry to.after (L.begins + sum W.steps time)
          × Roomed b T t q (L.begins + sum W.steps time) to
      all_passed some x s =
          passed_all b T t x q (λ r. S.few_numbers (r * summary_numbers)) (omega (arith, S.early)) some_action (L.ahead x s) L.rooms W (within x) some

      pub again : stop ≤ to.entry → Coast to × (to.rest < here.rest)
      again h =
          let some = some-steps h in (
            record {
              few = still-few;
              begins = L.begins + sum W.steps time;
              late = omega (arith, L.late, granted_so_far, sum-few time most_entry (λ j. S.few_times (here.entry + j * b.levels)) W.steps);
              rooms = (all_passed some origin origin-stands).1;
              granted = λ x s. rw granted_so_far (all_passed some x s).0;
            },
            omega (arith, rest-is, some, L.some),
          )

  -- nothing is left to be looked at
  pub ended : {here : Reached} → Coast here → here.rest ≤ 0 → (x : ℕ) → Standing b x place after
      → end ≡ left_granted longest_coast (lent_each b T) t x q
  ended {here} C none x s =
      let all : end ≡ end - here.rest = omega (arith, none) in
      all ∙ whole b T t x q (C.granted x s) (omega (arith, none, S.end_is, rest-left some_action s))
