-- Refreshing averages: which record is at fault, one pass over the trace, and that the new averages obey the table rule.
use mathlib.Core.Path.{◌≡◌, refl, subst}
use mathlib.Core.Bool.{Bool, true, false, cond}
use mathlib.Core.List.{List, [], ◌∷◌}
use mathlib.Core.Logic.Iff
use mathlib.Core.Logic.{◌↔◌, ◌⊎◌, inl, inr, ⊎_elim}
use Prim.Native.Nat.{ℕ, zero, suc, ◌+◌, ◌*◌, ◌/◌, ◌≤◌, ◌<◌}
use native.Mathlib.Nat.{le_refl, le_trans, le-max_left, max-le, div-le_of_le-mul, not-le_of_lt, lt_of_lt_of_le}
use native.Mathlib.Decide.{dec_le, dec_lt}
use native.Mathlib.Omega.{arith}
use borrow.Author.Count.{below_more}
use borrow.Author.Tests.{eqb-true, ne_eqb}
use lib.Dec.{ltb, eqb, lit<, ltb→lt}
use Rattle.rules.specs.Numbers.{last_clock, refused_trace, refused_name, refused_duration, refused_room}
use Rattle.rules.specs.Words.{sum}
use Rattle.rules.specs.Image.{Profile, due, profile}
use Rattle.rules.specs.Refusals.{Ground, ◌when◌, First, Count, Range, Table, Looped, Unfit, Tight}
use Rattle.rules.specs.Refresh.{records, open_of, action_of, level_of, duration_of, measures, counted, summed, unmeasured, measured, raised, new_average, refreshed, Trace, Name, Duration, Fault, FirstFault, refresh_call}
use Rattle.rules.proofs.Differences.{not-above}
use Rattle.rules.proofs.Terms.{sum-within}
use Rattle.rules.proofs.Tests.{pass, failed, and-true}
use Rattle.rules.proofs.Refusals.{None, first-none, Sound, accepted_parts}
use Rattle.rules.proofs.Faults.{TimeOut}

-- ---- the first record at fault

abbrev pub NoFault : Profile → List ℕ → Type 0
NoFault F trace = (r : ℕ) → r < records trace → Fault F trace r → ⊥

-- 15: the first record at fault names an absent action or level.
abbrev pub Named : Profile → List ℕ → Type 0
Named F trace = (r : ℕ) × FirstFault F trace r × Name F trace r

-- 16: it names a level of an action, and is longer than that worst time.
abbrev pub Longer : Profile → List ℕ → Type 0
Longer F trace = (r : ℕ) × FirstFault F trace r × (Name F trace r → ⊥) × Duration F trace r

module _ (F : Profile) (trace : List ℕ) where
  name? : (r : ℕ) → Dec (Name F trace r)
  name? r = go (dec_le F.n (action_of trace r)) (dec_le F.levels (level_of trace r))
    where
      go : Dec (F.n ≤ action_of trace r) → Dec (F.levels ≤ level_of trace r) → Dec (Name F trace r)
      go (yes h) d = yes (inl h)
      go (no h) (yes k) = yes (inr k)
      go (no h) (no k) = no (⊎_elim h k)

  fault? : (r : ℕ) → Dec (Fault F trace r)
  fault? r = go (name? r) (dec_lt (F.worst (action_of trace r) (level_of trace r)) (duration_of trace r))
    where
      go : Dec (Name F trace r) → Dec (Duration F trace r) → Dec (Fault F trace r)
      go (yes h) d = yes (inl h)
      go (no h) (yes k) = yes (inr k)
      go (no h) (no k) = no (⊎_elim h k)

  -- Either no record is at fault, or there is a first one.
  pub first-fault : NoFault F trace ⊎ ((r : ℕ) × FirstFault F trace r)
  first-fault = scan (records trace) (le_refl (records trace))
    where
      more : (m : ℕ) → m < records trace → ((e : ℕ) → e < m → Fault F trace e → ⊥) → Dec (Fault F trace m)
          → ((e : ℕ) → e < suc m → Fault F trace e → ⊥) ⊎ ((r : ℕ) × FirstFault F trace r)
      more m l none (yes f) = inr (m, (l, (f, none)))
      more m l none (no f) = inl (λ e h. below_more (λ r. Fault F trace r → ⊥) m none f e (omega arith))

      scan : (m : ℕ) → m ≤ records trace → ((e : ℕ) → e < m → Fault F trace e → ⊥) ⊎ ((r : ℕ) × FirstFault F trace r)
      scan zero l = inl (λ e h. absurd (omega arith))
      scan (suc m) l = ⊎_elim (λ none. more m l none (fault? m)) inr (scan m (omega arith))

  -- There is one first record at fault.
  pub fault-one : (r e : ℕ) → FirstFault F trace r → FirstFault F trace e → r ≡ e
  fault-one r e f g = omega (arith, not-above (λ l. f.1.1 e l g.1.0), not-above (λ l. g.1.1 r l f.1.0))

  -- So 15 and 16 exclude one another.
  pub named-not_longer : Named F trace → Longer F trace → ⊥
  named-not_longer (r, f, named) (e, g, present, _) = present (subst (Name F trace) (fault-one r e f g) named)

-- A refresh without a refusal has a sound image and no record at fault.
pub refresh_sound : (s trace : List ℕ) (rooms : List (ℕ × ℕ)) → First (refresh_call s trace rooms) 0 → Sound s × NoFault (profile s) trace
refresh_sound s trace rooms p = ⊎_elim (λ refused. absurd (refused.1 refl)) (λ own. (own.0, whole (none.0 own.1))) (accepted_parts s row 0 p)
  where
    row : List Ground
    row =
        refused_trace when Trace trace
        ∷ refused_name when Named (profile s) trace
        ∷ refused_duration when ((r : ℕ) × FirstFault (profile s) trace r)
        ∷ refused_room when Tight rooms
        ∷ []

    none : First row 0 ↔ None row
    none = first-none row (lit< tt, (lit< tt, (lit< tt, (lit< tt, tt))))

    whole : None row → NoFault (profile s) trace
    whole h = ⊎_elim (λ x. x) (λ x. absurd (h.1.1.0 x)) (first-fault (profile s) trace)

-- ---- one pass over the trace

module _ (trace : List ℕ) (a q : ℕ) where
  -- A measurement of a at q is an open record of it.
  pub measures-only : (r : ℕ) → measures trace a q r ≡ true → (open_of trace r ≡ true) × (action_of trace r ≡ a) × (level_of trace r ≡ q)
  unfolding measures
  measures-only r h =
      let (o, rest) = (and-true (open_of trace r) _).0 h in
      let (e, f) = (and-true (eqb (action_of trace r) a) _).0 ((and-true (ltb 0 (duration_of trace r)) _).0 rest).1 in
      (o, eqb-true (action_of trace r) a e, eqb-true (level_of trace r) q f)

  -- Its duration is above 0.
  pub measures-above : (r : ℕ) → measures trace a q r ≡ true → 0 < duration_of trace r
  unfolding measures
  measures-above r h =
      let (_, rest) = (and-true (open_of trace r) _).0 h in
      ltb→lt 0 (duration_of trace r) (pass _ ((and-true (ltb 0 (duration_of trace r)) _).0 rest).0)

  -- One record more.
  pub counted_step : (m : ℕ) → counted trace a q (suc m) ≡ counted trace a q m + cond (measures trace a q m) 1 0
  unfolding counted sum
  counted_step m = refl

  pub summed-step : (m : ℕ) → summed trace a q (suc m) ≡ summed trace a q m + cond (measures trace a q m) (duration_of trace m) 0
  unfolding summed sum
  summed-step m = refl

  -- How large the two can be.
  pub counted-most : (m : ℕ) → counted trace a q m ≤ m
  unfolding counted
  counted-most m = omega (arith, sum-within m 1 (λ r. cond (measures trace a q r) 1 0) (λ r l. one (measures trace a q r)))
    where
      one : (b : Bool) → cond b 1 0 ≤ 1
      one true = omega arith
      one false = omega arith

  pub summed-most : (m : ℕ) → summed trace a q m ≤ m * last_clock
  unfolding summed duration_of
  summed-most m = sum-within m last_clock (λ r. cond (measures trace a q r) (duration_of trace r) 0) (λ r l. one (measures trace a q r) r)
    where
      one : (b : Bool) (r : ℕ) → cond b (duration_of trace r) 0 ≤ last_clock
      one true r = omega arith
      one false r = omega arith

  -- An action and level whose open records all are 0 counts as having none.
  pub skipped_none : (m : ℕ)
      → ((r : ℕ) → r < m → open_of trace r ≡ true → action_of trace r ≡ a → level_of trace r ≡ q → duration_of trace r ≡ 0)
      → counted trace a q m ≡ 0
  unfolding counted
  skipped_none m skipped = omega (arith, sum-within m 0 (λ r. cond (measures trace a q r) 1 0) none)
    where
      none : (r : ℕ) → r < m → cond (measures trace a q r) 1 0 ≤ 0
      none r l =
          let not-here : measures trace a q r ≡ false =
          failed (measures trace a q r) (λ h. let (o, action, level) = measures-only r h in omega (arith, measures-above r h, skipped r l o action level)) in
          rw not-here (le_refl 0)

-- ---- what is measured

module _ (F : Profile) (trace : List ℕ) (a : ℕ) where
  pub measured-none : (q : ℕ) → counted trace a q (records trace) ≡ 0 → measured F trace a q ≡ F.average a q
  unfolding measured unmeasured
  measured-none q h = rw h

  pub measured-some : (q : ℕ) → 0 < counted trace a q (records trace)
      → measured F trace a q ≡ summed trace a q (records trace) / counted trace a q (records trace)
  unfolding measured
  measured-some q h = rw (ne_eqb (counted trace a q (records trace)) 0 (λ e. omega arith))

-- ---- the table rule

-- New averages do not fall.
pub new_rises : (F : Profile) (trace : List ℕ) (a q : ℕ) → new_average F trace a q ≤ new_average F trace a (suc q)
unfolding new_average raised
new_rises F trace a q = le-max_left (raised (measured F trace a) q) (measured F trace a (suc q))

module _ (F : Profile) (trace : List ℕ) (rule : Table F → ⊥) (sound : NoFault F trace) where
  -- Every measured duration is at most the worst time.
  summed-worst : (a q m : ℕ) → m ≤ records trace → summed trace a q m ≤ counted trace a q m * F.worst a q
  unfolding summed counted sum
  summed-worst a q zero l = omega arith
  summed-worst a q (suc m) l = go (measures trace a q m) refl (summed-worst a q m (omega arith))
    where
      go : (b : Bool) → measures trace a q m ≡ b → summed trace a q m ≤ counted trace a q m * F.worst a q
          → summed trace a q m + cond b (duration_of trace m) 0 ≤ (counted trace a q m + cond b 1 0) * F.worst a q
      go true e h =
          let (_, action, level) = measures-only trace a q m e in
          let short : duration_of trace m ≤ F.worst (action_of trace m) (level_of trace m) = not-above (λ d. sound m l (inr d)) in
          omega (arith, rw (action, level) at short)
      go false e h = omega arith

  measured-worst : (a q : ℕ) → a < F.n → q < F.levels → measured F trace a q ≤ F.worst a q
  measured-worst a q l level = go (dec_lt 0 (counted trace a q (records trace)))
    where
      go : Dec (0 < counted trace a q (records trace)) → measured F trace a q ≤ F.worst a q
      go (yes h) =
          rw (measured-some F trace a q h)
          (div-le_of_le-mul (counted trace a q (records trace)) (summed-worst a q (records trace) (le_refl (records trace))))
      go (no h) = rw (measured-none F trace a q (omega arith)) (not-above (λ d. rule (a, l, inl (q, level, d))))

  -- A new average is at most the worst time.
  pub new-worst : (a q : ℕ) → a < F.n → q < F.levels → new_average F trace a q ≤ F.worst a q
  unfolding new_average raised
  new-worst a zero l level = measured-worst a 0 l level
  new-worst a (suc q) l level =
      let up : F.worst a q ≤ F.worst a (suc q) = not-above (λ h. rule (a, l, inr (inr (q, level, h)))) in
      max-le (le_trans (new-worst a q l (omega arith)) up) (measured-worst a (suc q) l level)

  pub refreshed-table : Table (refreshed F trace) → ⊥
  unfolding refreshed
  refreshed-table (a, l, inl (q, level, h)) = not-le_of_lt h (new-worst a q l level)
  refreshed-table (a, l, inr (inl (q, level, h))) = not-le_of_lt h (new_rises F trace a q)
  refreshed-table (a, l, inr (inr h)) = rule (a, l, inr (inr h))

  -- So its times stay in their range.
  pub refreshed-times : (TimeOut F → ⊥) → TimeOut (refreshed F trace) → ⊥
  unfolding refreshed
  refreshed-times times (a, l, (q, level, inl h)) = times (a, l, (q, level, inr (lt_of_lt_of_le h (new-worst a q l level))))
  refreshed-times times (a, l, (q, level, inr h)) = times (a, l, (q, level, inr h))

-- ---- the other grounds

-- They do not speak of averages, so that they hold of the new profile exactly if they hold of the old one.
pub record SameGrounds (F G : Profile) : Type 0 where
  pub count : Count F ↔ Count G
  pub range : Range F ↔ Range G
  pub looped : Looped F ↔ Looped G
  pub unfit : Unfit F ↔ Unfit G

pub refreshed-grounds : (F : Profile) (trace : List ℕ) → SameGrounds (refreshed F trace) F
unfolding refreshed due
refreshed-grounds F trace = record { count = Iff.rfl; range = Iff.rfl; looped = Iff.rfl; unfit = Iff.rfl }
