-- The lowest action at fault: how a scan finds it, and what it says of the profile. Writing's 6 in two, and the times that 7 looks at.
use mathlib.Core.Path.{◌≡◌}
use mathlib.Core.Logic.{◌↔◌, ◌⊎◌, inl, inr, ⊎_map}
use Prim.Native.Nat.{ℕ, suc, ◌≤◌, ◌<◌}
use native.Mathlib.Nat.{le_refl}
use native.Mathlib.Decide.{dec_lt}
use native.Mathlib.Omega.{arith}
use Rattle.rules.specs.Words.{Some}
use Rattle.rules.specs.Image.{Profile}
use Rattle.rules.specs.Numbers.{most_actions}
use Rattle.rules.specs.Refusals.{LowestFault, Range, LongTime, WriteRange, Falls, RowBreaks}

-- ---- the lowest action at fault

-- no action below a is at fault
abbrev pub Faultless : (ℕ → Type 0) → ℕ → Type 0
Faultless Fault a = (k : ℕ) → k < a → Fault k → ⊥

module _ {Fault : ℕ → Type 0} where
  -- how a scan ends: at an action at fault, or past the last one
  pub lowest-here : {n a : ℕ} → a < n → Faultless Fault a → Fault a → LowestFault Fault n a
  lowest-here l sound h = record { most = omega arith; fault = λ m. h; before = sound }

  pub lowest-none : {n a : ℕ} → n ≤ a → Faultless Fault a → LowestFault Fault n n
  lowest-none l sound = record { most = le_refl _; fault = λ m. absurd (omega arith); before = λ k m. sound k (omega arith) }

  -- an action is at fault exactly if the lowest one is below n
  pub some-fault : {n r : ℕ} → LowestFault Fault n r → (r < n) ↔ Some Fault n
  some-fault {n} {r} x = ((λ l. (r, l, x.fault l)), (λ w. below w.0 w.2 (dec_lt r n) w.1))
    where
      below : (a : ℕ) → Fault a → Dec (r < n) → a < n → r < n
      below a h (yes l) m = l
      below a h (no l) m = absurd (x.before a (omega arith) h)

  -- there is one lowest
  pub lowest-one : {n r t : ℕ} → LowestFault Fault n r → LowestFault Fault n t → r ≡ t
  lowest-one {n} {r} {t} x y = omega (arith, not-below x y, not-below y x)
    where
      not-below : {r t : ℕ} → LowestFault Fault n r → LowestFault Fault n t → t ≤ r
      not-below {r} {t} x y = by (dec_lt r t)
        where
          by : Dec (r < t) → t ≤ r
          by (yes l) = absurd (y.before r l (x.fault (omega (arith, y.most))))
          by (no l) = omega arith

  -- As a refusal names it, which knows no n: the lowest action below n at fault, 64 if none is.
  pub named-below : {n r : ℕ} → n ≤ most_actions → LowestFault Fault n r → r < n → LowestFault (λ a. (a < n) × Fault a) most_actions r
  named-below few x l = record { most = omega arith; fault = λ m. (l, x.fault l); before = λ a m h. x.before a m h.1 }

  pub named_none : {n r : ℕ} → LowestFault Fault n r → n ≤ r → LowestFault (λ a. (a < n) × Fault a) most_actions most_actions
  named_none x l = record { most = le_refl _; fault = λ m. absurd (omega arith); before = λ a m h. x.before a (omega (arith, h.0)) h.1 }

-- where the same actions are at fault
pub lowest-alike : {Fault Fault' : ℕ → Type 0} {n r : ℕ} → ((a : ℕ) → a < n → Fault a ↔ Fault' a) → LowestFault Fault n r → LowestFault Fault' n r
lowest-alike same x = record {
  most = x.most;
  fault = λ l. (same _ l).0 (x.fault l);
  before = λ a l h. x.before a l ((same a (omega (arith, x.most))).1 h);
}

-- what it says where the lowest one is not below n
pub no_fault : {P : Type 0} {n r : ℕ} → (r < n) ↔ P → n ≤ r → P → ⊥
no_fault t l p = let m = t.1 p in omega arith

-- ---- 6, on writing

-- some time is above 16,777,215
abbrev pub TimeOut : Profile → Type 0
TimeOut F = Some (λ a. LongTime F.levels (F.average a) (F.worst a)) F.n

-- Some action is out of range or has a time too long: some is out of range, or some has a time too long.
pub write_range : (F : Profile) → WriteRange F ↔ (Range F ⊎ TimeOut F)
write_range F = (to, from)
  where
    to : WriteRange F → Range F ⊎ TimeOut F
    to (a, l, inl h) = inl (a, l, h)
    to (a, l, inr h) = inr (a, l, h)

    from : Range F ⊎ TimeOut F → WriteRange F
    from (inl (a, l, h)) = (a, l, inl h)
    from (inr (a, l, h)) = (a, l, inr h)

-- ---- 7

-- It looks at the times of L levels.
pub breaks_same : {L : ℕ} {average average' worst worst' : ℕ → ℕ} → ((q : ℕ) → q < L → average q ≡ average' q)
    → ((q : ℕ) → q < L → worst q ≡ worst' q) → RowBreaks L average worst → RowBreaks L average' worst'
breaks_same {L} {average} {average'} {worst} {worst'} a w = ⊎_map above (⊎_map (falls a) (falls w))
  where
    above : (q : ℕ) × (q < L) × (worst q < average q) → (q : ℕ) × (q < L) × (worst' q < average' q)
    above (q, l, h) = (q, l, omega (arith, a q l, w q l))

    falls : {f g : ℕ → ℕ} → ((q : ℕ) → q < L → f q ≡ g q) → Falls f L → Falls g L
    falls same (q, l, h) = (q, l, omega (arith, same q (omega arith), same (suc q) l))
