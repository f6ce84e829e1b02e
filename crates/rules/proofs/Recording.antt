-- Recordings: 14 by the length, 16 and the lowest level of a frame; the totals are those of the single dry runs, in any grouping, and always in
-- range; demand 3 of a frame from its overrun mark. Assumes nothing.
use Prim.Native.Nat.{ℕ, zero, suc, ◌+◌, ◌-◌, ◌*◌, ◌/◌, ◌%◌, ◌≤◌, ◌<◌, zero-le, min}
use mathlib.Core.Path.{◌≡◌, refl, ap, sym, subst, ◌∙◌}
use mathlib.Core.Bool.{Bool, true, false, not, cond, false≢true}
use mathlib.Core.List.{List, [], ◌∷◌, ◌++◌, map, append-nil, append_assoc, map-append}
use mathlib.Core.Logic.{inl, inr, ◌↔◌}
use native.Mathlib.Nat.{add-zero, add-suc, suc-mul, add-mul, mul-div_left, mul-add-div_right, le_refl, mul-le-mul_right, mul-pos, mul-mod_left, div-add-mod'}
use native.Mathlib.Decide.{dec_le}
use native.Mathlib.Omega.{arith}
use borrow.Author.Tests.{leb-true, leb-false, le-leb}
use lib.ListN.{length, get_or, take, drop, length-append, length-drop}
use lib.Seq.{take-append-le, drop-append-le, drop-append-add}
use Rattle.rules.specs.Numbers.{most_actions, most_frames, longest_time, longest_coast, duration_bytes, refused_duration}
use Rattle.rules.specs.Words.{one_if, all_pass, every, cat, tab}
use Rattle.rules.specs.Image.{profile}
use Rattle.rules.specs.Order.{Order, TheOrder}
use Rattle.rules.specs.Limits.{tables, LentTables, Plan, planned}
use Rattle.rules.specs.Refusals.{Accepted}
use Rattle.rules.specs.Run.{Run, begun, decide, coast, decides, given, ended, lent}
use Rattle.rules.specs.Dry.{step, before, level_of, cell, decided, dry_end, LongEntry}
use Rattle.rules.specs.Demand.{DemandThree}
use Rattle.rules.specs.Recording.{frame_bytes, durations, frame_at, frames, lowest_of, lowest_given, ran_of, short, long_entry, Line, refused, ran, line_of, lines, Totals, no_totals, with_frame, with_line, totals_from, totals, together, totals_fit, frames_run, sum_over, sums, NotFrames}
use Rattle.rules.proofs.Tests.{and-true, all_pass-each, one-fails}
use Rattle.rules.proofs.Refusals.{accepted-sound}
use Rattle.rules.proofs.Accepted.{sound_policy, accepted-demand}
use Rattle.rules.proofs.Demand.Record.{decisions_are}
use Rattle.rules.proofs.Demand.Marks.{overrun-within}
use Rattle.rules.proofs.Terms.{sum-within}

-- ---- 14: how many frames

-- A length is taken exactly if it is that of at most 4,096 whole frames; none is no refusal.
pub frames-exact : (n L bytes : ℕ) → 0 < n → 0 < L → (NotFrames n L bytes → ⊥) ↔ ((k : ℕ) × (k ≤ most_frames) × (bytes ≡ k * frame_bytes n L))
unfolding frame_bytes
frames-exact n L bytes some-n some-L = (there, back)
  where
    size : ℕ
    size = n * L * duration_bytes

    some : 0 < size
    some = mul-pos (mul-pos some-n some-L) (omega arith)

    there : (NotFrames n L bytes → ⊥) → (k : ℕ) × (k ≤ most_frames) × (bytes ≡ k * size)
    there h = (bytes / size, few (dec_le (bytes / size) most_frames), whole (dec_le 1 (bytes % size)))
      where
        few : Dec (bytes / size ≤ most_frames) → bytes / size ≤ most_frames
        few (yes l) = l
        few (no l) = absurd (h (inr (omega arith)))

        whole : Dec (1 ≤ bytes % size) → bytes ≡ bytes / size * size
        whole (yes l) = absurd (h (inl (λ e. omega arith)))
        whole (no l) = omega (arith, div-add-mod' bytes size)

    back : (k : ℕ) × (k ≤ most_frames) × (bytes ≡ k * size) → NotFrames n L bytes → ⊥
    back (k, l, e) (inl h) = h (ap (λ (x : ℕ). x % size) e ∙ mul-mod_left k size)
    back (k, l, e) (inr h) = omega (arith, mul-le-mul_right size h, mul-le-mul_right size l, div-add-mod' bytes size, some)

-- ---- 16: which frames are refused

pub one-long : (cells : ℕ) (d : List ℕ) → all_pass (short d) cells ≡ false → LongEntry cells d
one-long cells d h = let e = one-fails (short d) cells h in (e.0, e.1, leb-false (get_or d e.0 0) longest_time e.2)

pub none-long : (cells : ℕ) (d : List ℕ) → all_pass (short d) cells ≡ true → LongEntry cells d → ⊥
none-long cells d h e = omega (arith, e.2, leb-true (get_or d e.0 0) longest_time (all_pass-each (short d) cells h e.0 e.1))

-- The test is the ground.
pub long-exact : (cells : ℕ) (d : List ℕ) → (long_entry cells d ≡ true) ↔ LongEntry cells d
unfolding long_entry
long-exact cells d = (there (all_pass (short d) cells) refl, back (all_pass (short d) cells) refl)
  where
    there : (b : Bool) → all_pass (short d) cells ≡ b → not b ≡ true → LongEntry cells d
    there true e h = absurd (false≢true h)
    there false e h = one-long cells d e

    back : (b : Bool) → all_pass (short d) cells ≡ b → LongEntry cells d → not b ≡ true
    back true e h = absurd (none-long cells d e h)
    back false e h = refl

-- ---- the lowest level

-- It is at most each of them, and one of them.
pub lowest-least : (f : ℕ → ℕ) (m j : ℕ) → j ≤ m → lowest_of f m ≤ f j
unfolding lowest_of
lowest-least f zero zero l = le_refl (f 0)
lowest-least f zero (suc j) l = absurd (omega arith)
lowest-least f (suc m) j l = by (dec_le j m) (λ h. lowest-least f m j h)
  where
    by : Dec (j ≤ m) → (j ≤ m → lowest_of f m ≤ f j) → min (lowest_of f m) (f (suc m)) ≤ f j
    by (yes h) ih = omega (arith, ih h)
    by (no h) ih = let last : j ≡ suc m = omega arith in rw last (omega arith)

pub lowest_there : (f : ℕ → ℕ) (m : ℕ) → (j : ℕ) × (j ≤ m) × (f j ≡ lowest_of f m)
unfolding lowest_of
lowest_there f zero = (0, le_refl 0, refl)
lowest_there f (suc m) = by (dec_le (lowest_of f m) (f (suc m))) (lowest_there f m)
  where
    by : Dec (lowest_of f m ≤ f (suc m)) → (j : ℕ) × (j ≤ m) × (f j ≡ lowest_of f m)
        → (j : ℕ) × (j ≤ suc m) × (f j ≡ min (lowest_of f m) (f (suc m)))
    by (yes h) (j, l, e) = (j, omega arith, omega arith)
    by (no h) x = (suc m, le_refl _, omega arith)

pub lowest-same : (f g : ℕ → ℕ) (m : ℕ) → ((j : ℕ) → j ≤ m → f j ≡ g j) → lowest_of f m ≡ lowest_of g m
unfolding lowest_of
lowest-same f g zero h = h 0 (le_refl 0)
lowest-same f g (suc m) h = rw (lowest-same f g m (λ j l. h j (omega arith)), h (suc m) (le_refl _))

-- What a position gets was decided there or before it: a coast goes on at the level of its decision.
level-decided : (cap : ℕ) (P : Plan) (w d : ℕ → ℕ → ℕ) (t j : ℕ)
    → (i : ℕ) × (i ≤ j) × (decided cap P w d t i ≡ true) × (level_of cap P w d t i ≡ level_of cap P w d t j)
unfolding before begun decides step given ended
level-decided cap P w d t zero = (0, le_refl 0, refl, refl)
level-decided cap P w d t (suc j) = by (decides (before cap P w d t (suc j))) refl (level-decided cap P w d t j)
  where
    goes_on : decides (before cap P w d t (suc j)) ≡ false → level_of cap P w d t j ≡ level_of cap P w d t (suc j)
    goes_on e = sym (ap (λ (b : Bool). (cond b (decide cap P (before cap P w d t (suc j))) (coast (before cap P w d t (suc j)))).level) e)

    by : (b : Bool) → decides (before cap P w d t (suc j)) ≡ b
        → (i : ℕ) × (i ≤ j) × (decided cap P w d t i ≡ true) × (level_of cap P w d t i ≡ level_of cap P w d t j)
        → (i : ℕ) × (i ≤ suc j) × (decided cap P w d t i ≡ true) × (level_of cap P w d t i ≡ level_of cap P w d t (suc j))
    by true e x = (suc j, le_refl _, e, refl)
    by false e (i, l, h, same) = (i, omega arith, h, same ∙ goes_on e)

-- Of the levels that a frame is given it is the least.
module _ (n L : ℕ) (T : LentTables) (d : List ℕ) where
  abbrev given_at : ℕ → ℕ
  given_at = level_of longest_coast (lent n L T) (cell T.worst L) (cell d L) 0

  pub given-least : (j : ℕ) → j < n → lowest_given n L T d ≤ level_of longest_coast (lent n L T) (cell T.worst L) (cell d L) 0 j
  unfolding lowest_given
  given-least j l = lowest-least given_at (n - 1) j (omega arith)

  pub given_there : 0 < n → (j : ℕ) × (j < n) × (level_of longest_coast (lent n L T) (cell T.worst L) (cell d L) 0 j ≡ lowest_given n L T d)
  unfolding lowest_given
  given_there some = let x = lowest_there given_at (n - 1) in (x.0, omega (arith, x.1), x.2)

  -- So it is the lowest decided one.
  pub lowest-decided : 0 < n → (i : ℕ) × (i < n) × (decided longest_coast (lent n L T) (cell T.worst L) (cell d L) 0 i ≡ true)
      × (level_of longest_coast (lent n L T) (cell T.worst L) (cell d L) 0 i ≡ lowest_given n L T d)
  lowest-decided some =
      let x = given_there some in
      let y = level-decided longest_coast (lent n L T) (cell T.worst L) (cell d L) 0 x.0 in
      (y.0, omega (arith, y.1, x.1), y.2, y.3 ∙ x.2)

-- ---- totals

same-totals : {a b c d a' b' c' d' : ℕ} → a ≡ a' → b ≡ b' → c ≡ c' → d ≡ d'
    → ◌≡◌ {A = Totals} (record { frames = a; decisions = b; overruns = c; lates = d }) (record { frames = a'; decisions = b'; overruns = c'; lates = d' })
same-totals p q r s = cc

pub totals-append : (ls ms : List Line) (T : Totals) → totals_from T (ls ++ ms) ≡ totals_from (totals_from T ls) ms
unfolding totals_from
totals-append [] ms T = refl
totals-append (l ∷ ls) ms T = totals-append ls ms (with_line T l)

counted-apart : (T U : Totals) (l : Line) → with_line (together T U) l ≡ together T (with_line U l)
unfolding with_line with_frame together
counted-apart T U (refused k) = refl
counted-apart T U (ran r) = same-totals (omega arith) (omega arith) (omega arith) (omega arith)

totals-apart : (ls : List Line) (T U : Totals) → totals_from (together T U) ls ≡ together T (totals_from U ls)
unfolding totals_from
totals-apart [] T U = refl
totals-apart (l ∷ ls) T U = ap (λ (W : Totals). totals_from W ls) (counted-apart T U l) ∙ totals-apart ls T (with_line U l)

together-none : (T : Totals) → together T no_totals ≡ T
unfolding together
together-none T = same-totals (omega arith) (omega arith) (omega arith) (omega arith)

-- Totals of lines one after another add up, so in any grouping.
pub totals-together : (ls ms : List Line) → totals (ls ++ ms) ≡ together (totals ls) (totals ms)
totals-together ls ms =
    totals-append ls ms no_totals
    ∙ ap (λ (T : Totals). totals_from T ms) (sym (together-none (totals ls)))
    ∙ totals-apart ms (totals ls) no_totals

-- ---- two recordings one after the other

tab-add : {A : Type 0} (f : ℕ → A) (k m : ℕ) → tab f (k + m) ≡ tab f k ++ tab (λ i. f (k + i)) m
unfolding cat
tab-add f k zero = ap (tab f) (add-zero k) ∙ sym (append-nil (tab f k))
tab-add {A} f k (suc m) =
    ap (tab f) (add-suc k m)
    ∙ ap (λ (l : List A). l ++ (f (k + m) ∷ [])) (tab-add f k m)
    ∙ append_assoc (tab f k) (tab (λ i. f (k + i)) m) (f (k + m) ∷ [])

tab-same : {A : Type 0} (f g : ℕ → A) (m : ℕ) → ((i : ℕ) → i < m → f i ≡ g i) → tab f m ≡ tab g m
unfolding cat
tab-same f g zero h = refl
tab-same {A} f g (suc m) h = rw (tab-same f g m (λ i l. h i (omega arith)), h m (le_refl _))

module _ (n L : ℕ) (r s : List ℕ) (k : ℕ) (whole : length r ≡ k * frame_bytes n L) (some : 0 < frame_bytes n L) where
  abbrev size : ℕ
  size = frame_bytes n L

  counts : length r / size ≡ k
  counts = ap (λ (x : ℕ). x / size) whole ∙ mul-div_left k some

  all_count : length (r ++ s) / size ≡ k + length s / size
  all_count = ap (λ (x : ℕ). x / size) (length-append r s ∙ ap (λ (x : ℕ). x + length s) whole) ∙ mul-add-div_right some k (length s)

  first_part : (i : ℕ) → i < k → frame_at n L (r ++ s) i ≡ frame_at n L r i
  first_part i l =
      let end : suc i * size ≤ k * size = mul-le-mul_right size l in
      let room : i * size + size ≤ length r = omega (arith, end, whole, suc-mul i size) in
      ap (take size) (drop-append-le (i * size) r s (omega arith))
      ∙ take-append-le size (drop (i * size) r) s (omega (arith, room, length-drop (i * size) r))

  second_part : (i : ℕ) → frame_at n L (r ++ s) (k + i) ≡ frame_at n L s i
  second_part i =
      let at : (k + i) * size ≡ length r + i * size = add-mul k i size ∙ ap (λ (x : ℕ). x + i * size) (sym whole) in
      ap (λ (x : ℕ). take size (drop x (r ++ s))) at ∙ ap (take size) (drop-append-add r s (i * size))

  -- Their frames are the frames of both.
  pub frames-together : frames n L (r ++ s) ≡ frames n L r ++ frames n L s
  unfolding frames
  frames-together =
      ap (tab (frame_at n L (r ++ s))) all_count
      ∙ tab-add (frame_at n L (r ++ s)) k (length s / size)
      ∙ ap (λ (l : List (List ℕ)). l ++ tab (λ i. frame_at n L (r ++ s) (k + i)) (length s / size))
      (tab-same _ _ k first_part ∙ ap (tab (frame_at n L r)) (sym counts))
      ∙ ap (λ (l : List (List ℕ)). tab (frame_at n L r) (length r / size) ++ l) (tab-same _ _ (length s / size) (λ i l. second_part i))

  -- Their totals are the sum of both.
  pub recordings_together : (T : LentTables) → totals (lines n L T (r ++ s)) ≡ together (totals (lines n L T r)) (totals (lines n L T s))
  recordings_together T =
      ap (λ (fs : List (List ℕ)). totals (map (line_of n L T) fs)) frames-together
      ∙ ap totals (map-append (line_of n L T) (frames n L r) (frames n L s))
      ∙ totals-together (lines n L T r) (lines n L T s)

-- ---- the ranges

pub record InRange (T : Totals) : Type 0 where
  pub frames : T.frames ≤ most_frames
  pub decisions : T.decisions ≤ most_actions * T.frames
  pub overruns : T.overruns ≤ T.frames
  pub lates : T.lates ≤ T.frames

pub in_range-exact : (T : Totals) → (totals_fit T ≡ true) ↔ InRange T
unfolding totals_fit every
in_range-exact T = (
  (λ h.
      let a = (and-true _ _).0 h in
      let b = (and-true _ _).0 a.1 in
      let c = (and-true _ _).0 b.1 in
      record {
        frames = leb-true _ _ a.0;
        decisions = leb-true _ _ b.0;
        overruns = leb-true _ _ c.0;
        lates = leb-true _ _ ((and-true _ _).0 c.1).0;
      }),
  (λ h.
      (and-true _ _).1 (
        le-leb _ _ h.frames,
        (and-true _ _).1 (
          le-leb _ _ h.decisions,
          (and-true _ _).1 (le-leb _ _ h.overruns, (and-true _ _).1 (le-leb _ _ h.lates, refl)),
        ),
      )),
)

-- ---- the sums over the single dry runs

-- at most c from each
over-within : (g : List ℕ → ℕ) (c : ℕ) → ((f : List ℕ) → g f ≤ c) → (fs : List (List ℕ)) → sum_over g fs ≤ c * length fs
unfolding sum_over
over-within g c h [] = zero-le
over-within g c h (f ∷ fs) = omega (arith, h f, over-within g c h fs)

pub one-most : (b : Bool) → one_if b ≤ 1
one-most true = le_refl 1
one-most false = omega arith

run-few : (cells : ℕ) (fs : List (List ℕ)) → length (frames_run cells fs) ≤ length fs
unfolding frames_run
run-few cells [] = le_refl 0
run-few cells (f ∷ fs) = by (long_entry cells (durations f)) (run-few cells fs)
  where
    by : (b : Bool) → length (frames_run cells fs) ≤ length fs → length (cond b (frames_run cells fs) (f ∷ frames_run cells fs)) ≤ suc (length fs)
    by true h = omega arith
    by false h = omega arith

module _ (n L : ℕ) (T : LentTables) where
  -- the record that a frame's dry run ends with
  abbrev end : List ℕ → Run
  end f = dry_end n L T (durations f)

  line-is : (f : List ℕ) (b : Bool) → long_entry (n * L) (durations f) ≡ b → line_of n L T f ≡ cond b (refused refused_duration) (ran (ran_of n L T f))
  unfolding line_of
  line-is f b e = ap (λ (x : Bool). cond x (refused refused_duration) (ran (ran_of n L T f))) e

  sums-more : (f : List ℕ) (fs : List (List ℕ)) → together (with_frame no_totals (ran_of n L T f)) (sums n L T fs) ≡ sums n L T (f ∷ fs)
  unfolding together with_frame ran_of sum_over
  sums-more f fs = same-totals (omega arith) (omega arith) (omega arith) (omega arith)

  -- The totals are the sums over the frames run.
  pub totals-sums : (fs : List (List ℕ)) → totals (map (line_of n L T) fs) ≡ sums n L T (frames_run (n * L) fs)
  unfolding totals_from with_line frames_run sum_over
  totals-sums [] = refl
  totals-sums (f ∷ fs) = by (long_entry (n * L) (durations f)) refl (totals-sums fs)
    where
      by : (b : Bool) → long_entry (n * L) (durations f) ≡ b → totals (map (line_of n L T) fs) ≡ sums n L T (frames_run (n * L) fs)
          → totals_from (with_line no_totals (line_of n L T f)) (map (line_of n L T) fs) ≡ sums n L T (cond b (frames_run (n * L) fs) (f ∷ frames_run (n * L) fs))
      by true e h = ap (λ (x : Line). totals_from (with_line no_totals x) (map (line_of n L T) fs)) (line-is f true e) ∙ h
      by false e h =
          let one : Totals = with_frame no_totals (ran_of n L T f) in
          ap (λ (x : Line). totals_from (with_line no_totals x) (map (line_of n L T) fs)) (line-is f false e)
          ∙ ap (λ (W : Totals). totals_from W (map (line_of n L T) fs)) (sym (together-none one))
          ∙ totals-apart (map (line_of n L T) fs) one no_totals
          ∙ ap (together one) h
          ∙ sums-more f (frames_run (n * L) fs)

  -- No frame has more decisions than positions.
  pub decisions-few : (f : List ℕ) → (dry_end n L T (durations f)).decisions ≤ n
  unfolding dry_end
  decisions-few f =
      let P = lent n L T in
      let w = cell T.worst L in
      let d = cell (durations f) L in
      let mark : (ℕ → Bool) = decided longest_coast P w d 0 in
      omega (arith, decisions_are longest_coast P w d 0 n, sum-within n 1 (λ j. one_if (mark j)) (λ j l. one-most (mark j)))

  -- At most the frames of the recording are run, each with at most n decisions, and at most all of them overran or were late.
  pub totals-within : (fs : List (List ℕ)) → let U = totals (map (line_of n L T) fs) in
      (U.frames ≤ length fs) × (U.decisions ≤ n * U.frames) × (U.overruns ≤ U.frames) × (U.lates ≤ U.frames)
  totals-within fs =
      let g = frames_run (n * L) fs in
      subst (λ (U : Totals). (U.frames ≤ length fs) × (U.decisions ≤ n * U.frames) × (U.overruns ≤ U.frames) × (U.lates ≤ U.frames))
      (sym (totals-sums fs)) (
        run-few (n * L) fs,
        over-within (λ f. (end f).decisions) n decisions-few g,
        omega (arith, over-within (λ f. one_if (end f).overrun) 1 (λ f. one-most (end f).overrun) g),
        omega (arith, over-within (λ f. one_if (end f).late) 1 (λ f. one-most (end f).late) g),
      )

  -- So the totals of a recording are always in range, and so are those of every part of it.
  pub totals-in_range : n ≤ most_actions → (fs : List (List ℕ)) → length fs ≤ most_frames → totals_fit (totals (map (line_of n L T) fs)) ≡ true
  totals-in_range few fs l =
      let U = totals (map (line_of n L T) fs) in
      let h = totals-within fs in
      (in_range-exact U).1 (record {
        frames = omega (arith, h.0);
        decisions = omega (arith, h.1, mul-le-mul_right U.frames few);
        overruns = h.2;
        lates = h.3;
      })

-- ---- demand 3 from the mark

-- Demand 3 of an accepted image in its order, by either policy, for durations d (position, level) over which the overrun mark is not set.
pub unmarked_demand : (s : List ℕ) (a : Accepted s) {o : Order (profile s).n} (x : TheOrder (profile s) o) (year : ℕ) (d : ℕ → ℕ → ℕ)
    → let S = tables (profile s) o in (before longest_coast (planned year S) S.worst d 0 S.n).overrun ≡ false
    → DemandThree longest_coast (sound_policy ((accepted-sound s).0 a) x year) 0 d
unmarked_demand s a {o} x year d e =
    let S = tables (profile s) o in
    accepted-demand s a x year d (overrun-within longest_coast (planned year S) S.worst d 0 S.n e)
