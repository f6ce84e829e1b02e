-- The worked cases hold. Each is computed from the definitions, the order by the tests below. Assumes nothing.
use Prim.Native.Nat.{ℕ, zero, suc, ◌-◌, ◌/◌, ◌%◌, ◌^◌, ◌≤◌, ◌<◌, zero-le}
use mathlib.Core.Path.{◌≡◌, refl, ap, sym, subst, ◌∙◌}
use mathlib.Core.Bool.{Bool, true, false, not, cond, ◌&&◌, ◌||◌, true≢false}
use mathlib.Core.List.{List, [], ◌∷◌}
use mathlib.Core.Logic.{◌⊎◌, inl, inr, ◌↔◌}
use native.Mathlib.Nat.{le_trans, div-eq_of_lt}
use native.Mathlib.Omega.{arith}
use borrow.Author.Tests.{eqb-true}
use lib.Dec.{leb, ltb, eqb, leb→le, ltb→lt}
use lib.Ieee.{div, of_int, round}
use lib.IntN.{pos}
use lib.ListN.{length, get_or}
use lib.Pow.{pow_mono}
use lib.Signed.{le_z, ◌≤ℤ◌}
use Rattle.rules.specs.Numbers.{last_clock, policy_2008, refused_loop, refused_unfit}
use Rattle.rules.specs.Words.{all_pass, last_passing, sum, greatest_of, least_of, cat}
use Rattle.rules.specs.Image.{Profile, has, due, header, version, actions, levels, cycle, header_spare, record_bytes, record_at, image_bytes, mask_of, deadline_of, spare_of, average_of, worst_of, profile, header_of, level_image, record_image, image}
use Rattle.rules.specs.Order.{Order, TheOrder, Fit, Before, MustFollow}
use Rattle.rules.specs.Limits.{tables, margin, mixed, limit, limit_2005, coast_bound, Plan, Gives, Late}
use Rattle.rules.specs.Refusals.{LowestFault, ◌when◌, First, LoopFault, Unfit, image_checks, Count, Falls, Table, Short, Version, Length, Spare, Range}
use Rattle.rules.specs.Run.{level_given, fits, qualifies, left_granted, begun, decides, given, ended, lent}
use Rattle.rules.specs.Dry.{step, before, dry_end}
use Rattle.rules.specs.Recording.{frame_bytes, frames, lowest_of, lowest_given, ran_of, long_entry, line_of, with_frame, with_line, totals_from}
use Rattle.rules.specs.Repeat.{unrolled}
use Rattle.rules.specs.Speed.{quotient, room, reading_by, reading}
use Rattle.rules.specs.Cases.{three, eight, falling, around, Case, cases, AllHold, AroundRefused}
use Rattle.rules.proofs.Tests.{pass, passed, failed, and-true, or-true, not-true, all_pass-each}
use Rattle.rules.proofs.Refusals.{refuses_blamed}
use Rattle.rules.proofs.Order.Loops.{no_loop}
use Rattle.rules.proofs.Order.OfProfile.{action_at, as_computed, order_loopless}
use Rattle.rules.proofs.Demand.Asked.{level_given-gives, fits-exact}
use Rattle.rules.proofs.Accepted.{some_level, some_action, fit_limit}

-- ---- an order named by its actions, each place undone by itself, as 0, 1, 2 and 0, 2, 1 are

-- at position k: present, undone by itself, the computed action, and after its predecessors
unfoldable pub placed : Profile → (ℕ → ℕ) → ℕ → Bool
placed F f k =
    ltb (f k) F.n && (eqb (f (f k)) k && (eqb (f k) (action_at F k) && all_pass (λ b. not (has (F.mask k) b) || ltb (f b) (f k)) F.n))

module _ (F : Profile) (f : ℕ → ℕ) (ok : all_pass (placed F f) F.n ≡ true) where
  pub record Placed (k : ℕ) : Type 0 where
    pub present : f k < F.n
    pub undone : f (f k) ≡ k
    pub computed : f k ≡ action_at F k
    pub after : (b : ℕ) → b < F.n → has (F.mask k) b ≡ true → f b < f k

  pub place : (k : ℕ) → k < F.n → Placed k
  unfolding placed
  place k l =
      let a = (and-true (ltb (f k) F.n) _).0 (all_pass-each (placed F f) F.n ok k l) in
      let b = (and-true (eqb (f (f k)) k) _).0 a.1 in
      let c = (and-true (eqb (f k) (action_at F k)) _).0 b.1 in
      record {
        present = ltb→lt _ _ (pass _ a.0);
        undone = eqb-true _ _ b.0;
        computed = eqb-true _ _ c.0;
        after = λ x m h. earlier x h ((or-true (not (has (F.mask k) x)) (ltb (f x) (f k))).0 (all_pass-each _ F.n c.1 x m));
      }
    where
      earlier : (x : ℕ) → has (F.mask k) x ≡ true → (not (has (F.mask k) x) ≡ true) ⊎ (ltb (f x) (f k) ≡ true) → f x < f k
      earlier x h (inl e) = absurd ((not-true (has (F.mask k) x)).0 e h)
      earlier x h (inr e) = ltb→lt _ _ (pass _ e)

  abbrev pub named : Order F.n
  named = record {
    at = f;
    pos = f;
    at_lt = λ k l. (place k l).present;
    pos_lt = λ k l. (place k l).present;
    pos_at = λ k l. (place k l).undone;
    at_pos = λ k l. (place k l).undone;
  }

  pub named-is : TheOrder F named
  named-is = as_computed F (no_loop named (λ b a l m h. (place a m).after b l h)) named (λ k l. (place k l).computed)

-- ---- an image that passes 1 to 7, by tests

-- nothing at or above n is named by a mask below 2 ^ n
none_named : (m n b : ℕ) → m < 2 ^ n → n ≤ b → has m b ≡ true → ⊥
unfolding has
none_named m n b l h e =
    let small : m < 2 ^ b = le_trans l (pow_mono h) in
    let zero_is : m / 2 ^ b ≡ 0 = div-eq_of_lt small in
    let wrong : eqb (0 % 2) 1 ≡ true = subst (λ (x : ℕ). eqb (x % 2) 1 ≡ true) zero_is e in
    true≢false (sym wrong)

-- of one action: spare bits clear, deadline and mask in range, times in order
unfoldable pub orderly : List ℕ → ℕ → Bool
orderly s a =
    let F = profile s in
    eqb (spare_of s a) 0
    && (leb (F.deadline a) F.cycle
    && (ltb (F.mask a) (2 ^ F.n)
    && (all_pass (λ q. leb (F.average a q) (F.worst a q)) F.levels
    && (all_pass (λ q. leb (F.average a q) (F.average a (suc q))) (F.levels - 1) && all_pass (λ q. leb (F.worst a q) (F.worst a (suc q))) (F.levels - 1)))))

unfoldable pub plain : List ℕ → Bool
plain s =
    let F = profile s in
    leb 6 (length s)
    && (eqb (version s) 1
    && ((leb 1 F.n && leb F.n 64)
    && ((leb 1 F.levels && leb F.levels 8)
    && ((leb 1 F.cycle && leb F.cycle last_clock)
    && (eqb (length s) (image_bytes F.n F.levels) && (eqb (header_spare s) 0 && all_pass (orderly s) F.n))))))

within : (m n : ℕ) → leb m n ≡ true → n < m → ⊥
within m n h l = omega (arith, leb→le m n (pass _ h))

-- a time that each level's successor is tested against does not fall
no_fall : (time : ℕ → ℕ) (L : ℕ) → all_pass (λ q. leb (time q) (time (suc q))) (L - 1) ≡ true → Falls time L → ⊥
no_fall time L h (q, l, e) = within (time q) (time (suc q)) (all_pass-each _ (L - 1) h q (omega arith)) e

module _ (s : List ℕ) (ok : plain s ≡ true) where
  record Orderly (a : ℕ) : Type 0 where
    spare : spare_of s a ≡ 0
    deadline : (profile s).cycle < (profile s).deadline a → ⊥
    mask : (profile s).mask a < 2 ^ (profile s).n
    ordered : (q : ℕ) → q < (profile s).levels → (profile s).worst a q < (profile s).average a q → ⊥
    average : Falls ((profile s).average a) (profile s).levels → ⊥
    worst : Falls ((profile s).worst a) (profile s).levels → ⊥

  orderly-is : (a : ℕ) → orderly s a ≡ true → Orderly a
  unfolding orderly
  orderly-is a h =
      let F = profile s in
      let u = (and-true (eqb (spare_of s a) 0) _).0 h in
      let v = (and-true (leb (F.deadline a) F.cycle) _).0 u.1 in
      let w = (and-true (ltb (F.mask a) (2 ^ F.n)) _).0 v.1 in
      let x = (and-true (all_pass (λ q. leb (F.average a q) (F.worst a q)) F.levels) _).0 w.1 in
      let y = (and-true (all_pass (λ q. leb (F.average a q) (F.average a (suc q))) (F.levels - 1)) (all_pass (λ q. leb (F.worst a q) (F.worst a (suc q))) (F.levels - 1))).0 x.1 in
      record {
        spare = eqb-true _ _ u.0;
        deadline = within _ _ v.0;
        mask = ltb→lt _ _ (pass _ w.0);
        ordered = λ q l e. within _ _ (all_pass-each _ F.levels x.0 q l) e;
        average = no_fall (F.average a) F.levels y.0;
        worst = no_fall (F.worst a) F.levels y.1;
      }

  record Plain : Type 0 where
    short : Short s → ⊥
    version-is : Version s → ⊥
    count : Count (profile s) → ⊥
    size : Length s → ⊥
    header : header_spare s ≡ 0
    each : (a : ℕ) → a < (profile s).n → Orderly a

  plain-is : Plain
  unfolding plain
  plain-is =
      let F = profile s in
      let a = (and-true (leb 6 (length s)) _).0 ok in
      let b = (and-true (eqb (version s) 1) _).0 a.1 in
      let c = (and-true (leb 1 F.n && leb F.n 64) _).0 b.1 in
      let d = (and-true (leb 1 F.levels && leb F.levels 8) _).0 c.1 in
      let e = (and-true (leb 1 F.cycle && leb F.cycle last_clock) _).0 d.1 in
      let f = (and-true (eqb (length s) (image_bytes F.n F.levels)) _).0 e.1 in
      let g = (and-true (eqb (header_spare s) 0) (all_pass (orderly s) F.n)).0 f.1 in
      record {
        short = within _ _ a.0;
        version-is = λ ne. ne (eqb-true _ _ b.0);
        count = counts ((and-true _ _).0 c.0) ((and-true _ _).0 d.0) ((and-true _ _).0 e.0);
        size = λ ne. ne (eqb-true _ _ f.0);
        header = eqb-true _ _ g.0;
        each = λ x l. orderly-is x (all_pass-each (orderly s) F.n g.1 x l);
      }
    where
      counts : (leb 1 (profile s).n ≡ true) × (leb (profile s).n 64 ≡ true) → (leb 1 (profile s).levels ≡ true) × (leb (profile s).levels 8 ≡ true)
          → (leb 1 (profile s).cycle ≡ true) × (leb (profile s).cycle last_clock ≡ true) → Count (profile s) → ⊥
      counts n L c (inl (inl h)) = within _ _ n.0 h
      counts n L c (inl (inr (inl h))) = within _ _ n.1 h
      counts n L c (inl (inr (inr (inl h)))) = within _ _ L.0 h
      counts n L c (inl (inr (inr (inr h)))) = within _ _ L.1 h
      counts n L c (inr (inl h)) = within _ _ c.0 h
      counts n L c (inr (inr h)) = within _ _ c.1 h

  spares : Spare s → ⊥
  spares (inl h) = h plain-is.header
  spares (inr (a, l, h)) = h (plain-is.each a l).spare

  ranges : Range (profile s) → ⊥
  ranges (a, l, inl h) = (plain-is.each a l).deadline h
  ranges (a, l, inr (b, m, h)) = none_named _ _ b (plain-is.each a l).mask m h

  table : Table (profile s) → ⊥
  table (a, l, inl (q, m, h)) = (plain-is.each a l).ordered q m h
  table (a, l, inr (inl h)) = (plain-is.each a l).average h
  table (a, l, inr (inr h)) = (plain-is.each a l).worst h

  -- With an order, all that is left is refusal 9, by limit (0, 0).
  pub number : (o : Order (profile s).n) → TheOrder (profile s) o → (b : Bool) → le_z (pos 0) (limit (tables (profile s) o) 0 0) ≡ b
      → {k : ℕ} → cond b 0 9 ≡ k → First (image_checks s) k
  number o x b e same =
      subst (First (image_checks s)) same
      (inr (plain-is.short, inr (plain-is.version-is, inr (plain-is.count, inr (plain-is.size, inr (spares, inr (ranges, inr (table, inr (order_loopless x, last b e)))))))))
    where
      fit : (pos 0 ≤ℤ limit (tables (profile s) o) 0 0) ↔ Fit (profile s)
      fit = fit_limit x (some_level (profile s) o plain-is.count) table policy_2008 (some_action (profile s) o plain-is.count) 0

      last : (b : Bool) → le_z (pos 0) (limit (tables (profile s) o) 0 0) ≡ b → First (refused_unfit when Unfit (profile s) ∷ []) (cond b 0 9)
      last true e = inr ((λ unfit. unfit (fit.0 (record { le = pass _ e }))), refl)
      last false e = inl ((λ f. true≢false (sym (passed _ (fit.1 f).le) ∙ e)), refl)

-- ---- the claim

-- the level that the manager gives, and whether it is late, computed
given_is : (P : Plan) (t i q : ℕ) (late : Bool) → 0 < P.levels → level_given P t i ≡ q → not (fits P t i) ≡ late → Gives P t i q × ((late ≡ true) ↔ Late P t i)
given_is P t i q late some e f =
    (subst (Gives P t i) e (level_given-gives P t i some), ((λ h. (fits-exact P t i some).0 (no_fit (f ∙ h))), (λ h. sym f ∙ ap not ((fits-exact P t i some).1 h))))
  where
    no_fit : not (fits P t i) ≡ true → fits P t i ≡ false
    no_fit h = failed (fits P t i) ((not-true (fits P t i)).0 h)

-- 0, 1, 2 and 0, 2, 1
abbrev chain : ℕ → ℕ
chain k = k

abbrev swapped : ℕ → ℕ
swapped k = get_or (0 ∷ 2 ∷ 1 ∷ []) k 0

-- the cases but for the first so many
abbrev past : ℕ → List Case → List Case
past zero l = l
past (suc k) [] = []
past (suc k) (c ∷ l) = past k l

-- Every listed case holds, a few at a time, so that one that does not is told by itself.
past_20 : AllHold (past 20 cases)
unfolding placed action_at all_pass has due plain orderly
    cat image header_of record_image level_image profile header version actions levels cycle header_spare record_bytes record_at image_bytes mask_of deadline_of spare_of average_of worst_of
    sum greatest_of least_of last_passing margin mixed limit limit_2005 coast_bound
    level_given fits qualifies left_granted begun decides given ended step before frame_bytes frames long_entry line_of lowest_of lowest_given dry_end lent ran_of totals_from with_line with_frame quotient room reading reading_by div of_int round
past_20 = (
  (named falling chain refl, named-is falling chain refl, refl),
  (
    (named falling chain refl, named-is falling chain refl, (refl, (refl, refl))),
    ((named falling chain refl, named-is falling chain refl, (refl, (refl, refl))), tt),
  ),
)

past_16 : AllHold (past 16 cases)
unfolding placed action_at all_pass has due plain orderly
    cat image header_of record_image level_image profile header version actions levels cycle header_spare record_bytes record_at image_bytes mask_of deadline_of spare_of average_of worst_of
    sum greatest_of least_of last_passing margin mixed limit limit_2005 coast_bound
    level_given fits qualifies left_granted begun decides given ended step before frame_bytes frames long_entry line_of lowest_of lowest_given dry_end lent ran_of totals_from with_line with_frame quotient room reading reading_by div of_int round
past_16 = (
  (number (image eight) refl (named (profile (image eight)) swapped refl) (named-is (profile (image eight)) swapped refl) true refl refl),
  (
    (named (unrolled (three 40) 2) chain refl, named-is (unrolled (three 40) 2) chain refl, refl),
    (
      (named (three 20) chain refl, named-is (three 20) chain refl, refl),
      ((named (three 20) chain refl, named-is (three 20) chain refl, (given_is _ 7 1 1 false (omega arith) refl refl)), past_20),
    ),
  ),
)

past_12 : AllHold (past 12 cases)
unfolding placed action_at all_pass has due plain orderly
    cat image header_of record_image level_image profile header version actions levels cycle header_spare record_bytes record_at image_bytes mask_of deadline_of spare_of average_of worst_of
    sum greatest_of least_of last_passing margin mixed limit limit_2005 coast_bound
    level_given fits qualifies left_granted begun decides given ended step before frame_bytes frames long_entry line_of lowest_of lowest_given dry_end lent ran_of totals_from with_line with_frame quotient room reading reading_by div of_int round
past_12 = (
  (number (image (three 20)) refl (named (profile (image (three 20))) chain refl) (named-is (profile (image (three 20))) chain refl) true refl refl),
  (
    (number (image (three 12)) refl (named (profile (image (three 12))) chain refl) (named-is (profile (image (three 12))) chain refl) true refl refl),
    (
      (number (image (three 11)) refl (named (profile (image (three 11))) chain refl) (named-is (profile (image (three 11))) chain refl) false refl refl),
      ((named eight swapped refl, named-is eight swapped refl, refl), past_16),
    ),
  ),
)

past_8 : AllHold (past 8 cases)
unfolding placed action_at all_pass has due plain orderly
    cat image header_of record_image level_image profile header version actions levels cycle header_spare record_bytes record_at image_bytes mask_of deadline_of spare_of average_of worst_of
    sum greatest_of least_of last_passing margin mixed limit limit_2005 coast_bound
    level_given fits qualifies left_granted begun decides given ended step before frame_bytes frames long_entry line_of lowest_of lowest_given dry_end lent ran_of totals_from with_line with_frame quotient room reading reading_by div of_int round
past_8 = (
  (named (three 20) chain refl, named-is (three 20) chain refl, (given_is _ 12 1 0 false (omega arith) refl refl)),
  (
    (named (three 20) chain refl, named-is (three 20) chain refl, (given_is _ 13 1 0 true (omega arith) refl refl)),
    (
      (named (three 20) chain refl, named-is (three 20) chain refl, refl),
      ((named (three 20) chain refl, named-is (three 20) chain refl, refl), past_12),
    ),
  ),
)

past_4 : AllHold (past 4 cases)
unfolding placed action_at all_pass has due plain orderly
    cat image header_of record_image level_image profile header version actions levels cycle header_spare record_bytes record_at image_bytes mask_of deadline_of spare_of average_of worst_of
    sum greatest_of least_of last_passing margin mixed limit limit_2005 coast_bound
    level_given fits qualifies left_granted begun decides given ended step before frame_bytes frames long_entry line_of lowest_of lowest_given dry_end lent ran_of totals_from with_line with_frame quotient room reading reading_by div of_int round
past_4 = (
  (named (three 20) chain refl, named-is (three 20) chain refl, (refl, (refl, refl))),
  (
    (named (three 20) chain refl, named-is (three 20) chain refl, (refl, refl)),
    (
      (named (three 20) chain refl, named-is (three 20) chain refl, (given_is _ 6 1 1 false (omega arith) refl refl)),
      ((named (three 20) chain refl, named-is (three 20) chain refl, (given_is _ 7 1 0 false (omega arith) refl refl)), past_8),
    ),
  ),
)

-- Every listed case holds.
pub every_case : AllHold cases
unfolding placed action_at all_pass has due plain orderly
    cat image header_of record_image level_image profile header version actions levels cycle header_spare record_bytes record_at image_bytes mask_of deadline_of spare_of average_of worst_of
    sum greatest_of least_of last_passing margin mixed limit limit_2005 coast_bound
    level_given fits qualifies left_granted begun decides given ended step before frame_bytes frames long_entry line_of lowest_of lowest_given dry_end lent ran_of totals_from with_line with_frame quotient room reading reading_by div of_int round
every_case = (
  refl,
  (
    (named (three 20) chain refl, named-is (three 20) chain refl, refl),
    (
      (named (three 20) chain refl, named-is (three 20) chain refl, (refl, (refl, refl))),
      ((named (three 20) chain refl, named-is (three 20) chain refl, (refl, (refl, refl))), past_4),
    ),
  ),
)

-- ---- the action at fault

pub around-refused : AroundRefused
unfolding has
around-refused = refuses_blamed refused_loop low (omega arith) (omega arith)
  where
    -- nothing comes before 0
    unled : (a : ℕ) → MustFollow 4 (Before around) a 0 → ⊥
    unled a (MustFollow.next l h) = none_named 0 0 a (omega arith) zero-le h
    unled a (MustFollow.through {b = b} l h f) = unled b f

    low : LowestFault (LoopFault around) 4 1
    low = record {
      most = omega arith;
      fault = λ l. MustFollow.through {b = 2} (omega arith) refl (MustFollow.next {b = 1} (omega arith) refl);
      before = λ a l h. unled a (subst (MustFollow 4 (Before around) a) (only a l) h);
    }
      where
        only : (a : ℕ) → a < 1 → a ≡ 0
        only a l = omega arith
