-- The coast of a decision on lent summaries, whoever wrote them: the longest there may be by its ends, or found from below, up to the first length
-- that does not qualify. Assumes nothing.
use Prim.Native.Nat.{ℕ, suc, ◌+◌, ◌-◌, ◌*◌, ◌%◌, ◌≤◌, ◌<◌, min}
use mathlib.Core.Path.{◌≡◌, refl, subst}
use mathlib.Core.Bool.{Bool, true, false, cond}
use mathlib.Core.Logic.{◌⊎◌, inl, inr, ⊎_elim, ⊎_map}
use native.Mathlib.Decide.{dec_le}
use native.Mathlib.Omega.{arith}
use lib.IntN.{ℤ, pos, ◌-ℤ◌}
use lib.Dec.{leb, eqb}
use lib.Signed.{le_z, ◌≤ℤ◌}
use borrow.Author.Tests.{leb-true, eqb-true, le-leb, eq-eqb}
use Rattle.rules.specs.Numbers.{longest_coast}
use Rattle.rules.specs.Words.{span, maxZ}
use Rattle.rules.specs.Run.{Qualifies, Grants, left_granted}
use Rattle.rules.specs.Dry.{cell}
use Rattle.rules.specs.Repeat.{LentBody, positions, stretch_at, rest_lent, mix_from, limit_from, ends_mix, by_ends, lent_each, lent_plan}
use Rattle.rules.specs.declared.Body.{Body}
use Rattle.rules.proofs.Differences.{not-above}
use Rattle.rules.proofs.Tests.{pass, passed, not-both, and-true}
use Rattle.rules.proofs.Limits.Signed.{AtMost, at-most-max, at-most-less, time_at-most, time-less, least_all, all_least}
use Rattle.rules.proofs.Demand.Asked.{left_granted_grants, grants_one}

module _ (b : Body) (T : LentBody) (t i q : ℕ) where
  -- the worst times of the coast before position j, and the time when it begins if all of them are taken
  abbrev spent : ℕ → ℕ
  spent j = span (λ p. cell T.worst b.levels (p % b.n) q) i j

  abbrev pub begins : ℕ → ℕ
  begins j = t + span (λ p. cell T.worst b.levels (p % b.n) q) i j

  -- A coast of x actions and one more qualifies: the level fits at each position as late as it may begin, and the level above at none.
  pub record Coasting (x : ℕ) : Type 0 where
    pub room : i + suc x ≤ positions b
    pub most : suc x ≤ longest_coast
    pub under : (j : ℕ) → i ≤ j → j ≤ i + x → le_z (pos (begins j)) ((lent_plan b T).limit j q) ≡ true
    pub above : suc q < b.levels → (j : ℕ) → i ≤ j → j ≤ i + x → le_z (pos t) ((lent_plan b T).limit j (suc q)) ≡ false

  pub coasting_one : i < positions b → le_z (pos t) ((lent_plan b T).limit i q) ≡ true
      → (suc q < b.levels → le_z (pos t) ((lent_plan b T).limit i (suc q)) ≡ false) → Coasting 0
  coasting_one l fits low = record {
    room = omega arith;
    most = omega arith;
    under = λ j u v.
        let e : j ≡ i = omega arith in
        let s : begins i ≡ t = omega arith in
        rw (e, s) fits;
    above = λ top j u v. let e : j ≡ i = omega arith in rw e (low top);
  }

  pub coasting_more : (x : ℕ) → Coasting x → i + suc (suc x) ≤ positions b → suc (suc x) ≤ longest_coast
      → le_z (pos (begins (i + suc x))) ((lent_plan b T).limit (i + suc x) q) ≡ true
      → (suc q < b.levels → le_z (pos t) ((lent_plan b T).limit (i + suc x) (suc q)) ≡ false) → Coasting (suc x)
  coasting_more x c room most fits low = record {
    room = room;
    most = most;
    under = λ j u v. by j u v (dec_le j (i + x));
    above = λ top j u v. upper top j u v (dec_le j (i + x));
  }
    where
      by : (j : ℕ) → i ≤ j → j ≤ i + suc x → Dec (j ≤ i + x) → le_z (pos (begins j)) ((lent_plan b T).limit j q) ≡ true
      by j u v (yes l) = c.under j u l
      by j u v (no l) = let e : i + suc x ≡ j = omega arith in subst (λ (k : ℕ). le_z (pos (begins k)) ((lent_plan b T).limit k q) ≡ true) e fits

      upper : suc q < b.levels → (j : ℕ) → i ≤ j → j ≤ i + suc x → Dec (j ≤ i + x) → le_z (pos t) ((lent_plan b T).limit j (suc q)) ≡ false
      upper top j u v (yes l) = c.above top j u l
      upper top j u v (no l) = let e : i + suc x ≡ j = omega arith in subst (λ (k : ℕ). le_z (pos t) ((lent_plan b T).limit k (suc q)) ≡ false) e (low top)

  -- one term of the coast bound
  abbrev term : ℕ → ℤ
  term j = limit_from b (λ k r. stretch_at T.summaries (k * b.levels + r)) j q -ℤ pos (spent j)

  qualifies : (x : ℕ) → Coasting x → Qualifies longest_coast (lent_each b T) t i q (suc x)
  unfolding lent_plan lent_each
  qualifies x c = record {
    some = omega arith;
    most = c.most;
    room = c.room;
    under = (time_at-most t _).1 (all_least term t 0 i (suc x - 1) (λ j u v.
        (time_at-most t (term j)).0 ((time-less t (limit_from b (λ k r. stretch_at T.summaries (k * b.levels + r)) j q) (spent j)).1
        (record { le = pass _ (c.under j u (omega arith)) }))));
    above = λ top j u v h. not-both (passed _ h.le) (c.above top j u (omega arith));
  }

  -- No longer coast qualifies, for one of three reasons.
  abbrev Stops : ℕ → Type 0
  Stops x = (r : ℕ) → suc x < r → Qualifies longest_coast (lent_each b T) t i q r → ⊥

  -- the level above fits at the next position
  pub stops_rising : (x : ℕ) → suc q < b.levels → le_z (pos t) ((lent_plan b T).limit (i + suc x) (suc q)) ≡ true → Stops x
  unfolding lent_plan lent_each
  stops_rising x top h r l Q = Q.above top (i + suc x) (omega arith) (omega arith) (record { le = pass _ h })

  -- the level does not fit there, as late as it may begin
  pub stops-falling : (x : ℕ) → le_z (pos (begins (i + suc x))) ((lent_plan b T).limit (i + suc x) q) ≡ false → Stops x
  unfolding lent_plan lent_each
  stops-falling x h r l Q =
      let all = least_all term t 0 i (r - 1) ((time_at-most t _).0 Q.under) (i + suc x) (omega arith) (omega arith) in
      let late = (time-less t (limit_from b (λ k r. stretch_at T.summaries (k * b.levels + r)) (i + suc x) q) (spent (i + suc x))).0
      ((time_at-most t (term (i + suc x))).1 all) in
      not-both (passed _ late.le) h

  -- it is the longest there may be
  pub stops_ending : (x : ℕ) → suc x ≡ min longest_coast (positions b - i) → Stops x
  unfolding lent_each
  stops_ending x e r l Q = omega (arith, Q.most, Q.room)

  pub granted : (x : ℕ) → Coasting x → Stops x → x ≡ left_granted longest_coast (lent_each b T) t i q
  unfolding lent_each
  granted x c stops =
      let same = grants_one (lent_each b T) (record { is = inl (qualifies x c); greatest = λ r Q. not-above (λ l. stops r l Q) })
      (left_granted_grants (lent_each b T) t i q longest_coast (omega arith) (omega (arith, c.room))) in
      omega (arith, same)

  -- ---- by the ends as well

  -- the longest coast there may be, at the top level, for which the cycle has room by its ends
  pub record Ends (r : ℕ) : Type 0 where
    pub top : b.levels ≤ suc q
    pub longest : r ≡ min longest_coast (positions b - i)
    pub room : t + ends_mix b (rest_lent b T) i q r ≤ b.cycle

  ends-said : (r : ℕ) → by_ends b i q r ≡ true → (b.levels ≤ suc q) × (r ≡ min longest_coast (positions b - i))
  ends-said r e =
      let both = (and-true (leb b.levels (suc q)) (eqb r (min longest_coast (positions b - i)))).0 e in
      (leb-true _ _ both.0, eqb-true _ _ both.1)

  -- a time is at most the greater bound if it is at most either
  within : (c : Bool) (k : ℕ) (z : ℤ) → AtMost t 0 (cond c (maxZ (pos b.cycle -ℤ pos k) z) z) → AtMost t 0 z ⊎ ((c ≡ true) × (t + k ≤ b.cycle))
  within true k z h = ⊎_elim (λ u. inr (refl, omega (arith, (at-most-less t 0 (pos b.cycle) k).0 u))) (λ u. inl u)
      ((at-most-max t 0 (pos b.cycle -ℤ pos k) z).0 h)
  within false k z h = inl h

  -- what qualifies at each position or by its ends, and nothing else
  from-plan : (r : ℕ) → Qualifies longest_coast (lent_plan b T) t i q r → Qualifies longest_coast (lent_each b T) t i q r ⊎ Ends r
  unfolding lent_plan lent_each
  from-plan r Q = ⊎_elim
      (λ u. inl (record { some = Q.some; most = Q.most; room = Q.room; under = (time_at-most t _).1 u; above = Q.above }))
      (λ u. let e = ends-said r u.0 in inr (record { top = e.0; longest = e.1; room = u.1 }))
      (within (by_ends b i q r) _ _ ((time_at-most t _).0 Q.under))

  each-plan : (r : ℕ) → Qualifies longest_coast (lent_each b T) t i q r → Qualifies longest_coast (lent_plan b T) t i q r
  unfolding lent_plan lent_each
  each-plan r Q = record {
    some = Q.some;
    most = Q.most;
    room = Q.room;
    under = (time_at-most t _).1 (by (by_ends b i q r) (pos b.cycle -ℤ pos (ends_mix b (rest_lent b T) i q r)) ((lent_each b T).bound i q r)
        ((time_at-most t _).0 Q.under));
    above = Q.above;
  }
    where
      by : (c : Bool) (y z : ℤ) → AtMost t 0 z → AtMost t 0 (cond c (maxZ y z) z)
      by true y z h = (at-most-max t 0 y z).1 (inr h)
      by false y z h = h

  -- by its ends it is the longest
  pub granted_ends : (x : ℕ) → i < positions b → Ends (suc x) → x ≡ left_granted longest_coast (lent_plan b T) t i q
  unfolding lent_plan
  granted_ends x l e =
      let same = grants_one (lent_plan b T) (record { is = inl long; greatest = λ r Q. omega (arith, Q.most, Q.room, e.longest) })
      (left_granted_grants (lent_plan b T) t i q longest_coast (omega arith) l) in
      omega (arith, same)
    where
      read : by_ends b i q (suc x) ≡ true
      read = (and-true (leb b.levels (suc q)) (eqb (suc x) (min longest_coast (positions b - i)))).1 (le-leb _ _ e.top, eq-eqb _ _ e.longest)

      most : ℕ
      most = ends_mix b (rest_lent b T) i q (suc x)

      long : Qualifies longest_coast (lent_plan b T) t i q (suc x)
      long = record {
        some = omega arith;
        most = omega (arith, e.longest);
        room = omega (arith, e.longest);
        under = (time_at-most t _).1 (rw read ((at-most-max t 0 (pos b.cycle -ℤ pos most) ((lent_each b T).bound i q (suc x))).1
            (inl ((at-most-less t 0 (pos b.cycle) most).1 (omega (arith, e.room))))));
        above = λ top. absurd (omega (arith, top, e.top));
      }

  -- and where it is not so by its ends, each position tells
  pub granted_each : i < positions b → (Ends (min longest_coast (positions b - i)) → ⊥)
      → left_granted longest_coast (lent_each b T) t i q ≡ left_granted longest_coast (lent_plan b T) t i q
  unfolding lent_plan lent_each
  granted_each l none =
      let same = grants_one (lent_plan b T) (record { is = is; greatest = λ r Q. G.greatest r (back r Q) })
      (left_granted_grants (lent_plan b T) t i q longest_coast (omega arith) l) in
      omega (arith, same)
    where
      G : Grants longest_coast (lent_each b T) t i q (suc (left_granted longest_coast (lent_each b T) t i q))
      G = left_granted_grants (lent_each b T) t i q longest_coast (omega arith) l

      back : (r : ℕ) → Qualifies longest_coast (lent_plan b T) t i q r → Qualifies longest_coast (lent_each b T) t i q r
      back r Q = ⊎_elim (λ u. u) (λ e. absurd (none (subst Ends e.longest e))) (from-plan r Q)

      is : Qualifies longest_coast (lent_plan b T) t i q (suc (left_granted longest_coast (lent_each b T) t i q))
          ⊎ ((suc (left_granted longest_coast (lent_each b T) t i q) ≡ 1) × ((r : ℕ) → Qualifies longest_coast (lent_plan b T) t i q r → ⊥))
      is = ⊎_map (each-plan _) (λ n. (n.0, λ r Q. n.1 r (back r Q))) G.is

  -- where the level does not fit at all, nothing is left to coast
  pub granted_none : i < positions b → le_z (pos t) ((lent_plan b T).limit i q) ≡ false → 0 ≡ left_granted longest_coast (lent_plan b T) t i q
  unfolding lent_plan lent_each
  granted_none l h = by (left_granted_grants (lent_plan b T) t i q longest_coast (omega arith) l).is
    where
      each_none : (r : ℕ) → Qualifies longest_coast (lent_each b T) t i q r → ⊥
      each_none r Q =
          let all = least_all term t 0 i (r - 1) ((time_at-most t _).0 Q.under) i (omega arith) (omega arith) in
          let late = (time-less t (limit_from b (λ k r. stretch_at T.summaries (k * b.levels + r)) i q) (spent i)).0 ((time_at-most t (term i)).1 all) in
          let s : begins i ≡ t = omega arith in
          let fit = subst (λ (y : ℕ). pos y ≤ℤ limit_from b (λ k r. stretch_at T.summaries (k * b.levels + r)) i q) s late in
          not-both (passed _ fit.le) h

      ends-none : (r : ℕ) → Ends r → ⊥
      ends-none r e =
          let fit = (time-less t (pos b.cycle) (mix_from b (rest_lent b T) i q)).1 ((time_at-most _ (pos b.cycle)).1 (omega (arith, e.room))) in
          not-both (passed _ fit.le) h

      none : (r : ℕ) → Qualifies longest_coast (lent_plan b T) t i q r → ⊥
      none r Q = ⊎_elim (each_none r) (ends-none r) (from-plan r Q)

      by : {m : ℕ} → Qualifies longest_coast (lent_plan b T) t i q (suc m) ⊎ ((suc m ≡ 1) × ((x : ℕ) → Qualifies longest_coast (lent_plan b T) t i q x → ⊥)) → 0 ≡ m
      by (inl Q) = absurd (none _ Q)
      by (inr e) = omega (arith, e.0)
