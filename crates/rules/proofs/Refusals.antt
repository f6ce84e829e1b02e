-- A row of grounds settles its number; an accepted image is one of which no ground from 1 to 9 holds.
use mathlib.Core.Path.{◌≡◌, refl, sym, ◌∙◌}
use mathlib.Core.Bool.{Bool, true, false, cond, false≢true}
use mathlib.Core.List.{List, [], ◌∷◌, ◌++◌}
use mathlib.Core.Logic.{◌↔◌, ◌⊎◌, inl, inr, ⊎_map, ◌≢◌}
use Prim.Native.Nat.{ℕ, ◌≤◌, ◌<◌}
use native.Mathlib.Nat.{le_refl}
use native.Mathlib.Omega.{arith}
use lib.Dec.{lit<}
use Rattle.rules.specs.Numbers.{most_actions}
use Rattle.rules.specs.Image.{profile}
use Rattle.rules.specs.declared.Fault.{Fault}
use Rattle.rules.specs.Refusals.{LowestFault, Ground, ◌when◌, ◌blames◌below◌, First, AtFault, Refuses, Test, first, Count, Range, Table, Looped, Unfit, Short, Version, Length, Spare, loop_checks, image_checks, Accepted}
use Rattle.rules.proofs.Faults.{some-fault, no_fault, lowest-one, lowest-alike, named-below}

-- ---- the row settles the number

pub first_one : (row : List Ground) (k m : ℕ) → First row k → First row m → k ≡ m
first_one [] k m p q = p ∙ sym q
first_one (g ∷ row) k m (inl p) (inl q) = p.1 ∙ sym q.1
first_one (g ∷ row) k m (inl p) (inr q) = absurd (q.0 p.0)
first_one (g ∷ row) k m (inr p) (inl q) = absurd (p.0 q.0)
first_one (g ∷ row) k m (inr p) (inr q) = first_one row k m p.1 q.1

-- Tests as grounds: `first` of the tests is the number of the first that fails.
abbrev pub grounds : List Test → List Ground
grounds [] = []
grounds (t ∷ row) = (t.number when (t.fails ≡ true)) ∷ grounds row

pub first-is : (row : List Test) → First (grounds row) (first row)
unfolding first
first-is [] = refl
first-is (t ∷ row) = go t.fails (first-is row)
  where
    go : (b : Bool) → First (grounds row) (first row)
        → ((b ≡ true) × (cond b t.number (first row) ≡ t.number)) ⊎ (((b ≡ true) → ⊥) × First (grounds row) (cond b t.number (first row)))
    go true r = inl (refl, refl)
    go false r = inr (false≢true, r)

-- ---- none of a row

-- every number of the row is above 0
abbrev pub Numbered : List Ground → Type 0
Numbered [] = Unit
Numbered (g ∷ row) = (0 < g.number) × Numbered row

-- no ground of the row holds
abbrev pub None : List Ground → Type 0
None [] = Unit
None (g ∷ row) = (g.holds → ⊥) × None row

-- 0 stands for none.
pub first-none : (row : List Ground) → Numbered row → First row 0 ↔ None row
first-none row m = (only row m, all row)
  where
    only : (row : List Ground) → Numbered row → First row 0 → None row
    only [] m p = tt
    only (g ∷ row) m (inl p) = absurd (omega arith)
    only (g ∷ row) m (inr p) = (p.0, only row m.1 p.1)

    all : (row : List Ground) → None row → First row 0
    all [] p = refl
    all (g ∷ row) p = inr (p.0, all row p.1)

-- ---- a row and the rest after it

-- What a row gives stands, whatever comes after it.
pub first_stops : (row rest : List Ground) (k : ℕ) → First row k → k ≢ 0 → First (row ++ rest) k
first_stops [] rest k p some = absurd (some p)
first_stops (g ∷ row) rest k (inl p) some = inl p
first_stops (g ∷ row) rest k (inr p) some = inr (p.0, first_stops row rest k p.1 some)

-- After a row that gives none it is the rest that gives.
pub first-goes_on : (row rest : List Ground) (k : ℕ) → Numbered row → First row 0 → First rest k → First (row ++ rest) k
first-goes_on [] rest k m p r = r
first-goes_on (g ∷ row) rest k m (inl p) r = absurd (omega arith)
first-goes_on (g ∷ row) rest k m (inr p) r = inr (p.0, first-goes_on row rest k m.1 p.1 r)

-- There is no third way.
pub first_parts : (row rest : List Ground) (k : ℕ) → Numbered row → First (row ++ rest) k → (First row k × (k ≢ 0)) ⊎ (First row 0 × First rest k)
first_parts [] rest k m p = inr (refl, p)
first_parts (g ∷ row) rest k m (inl p) = inl (inl p, omega arith)
first_parts (g ∷ row) rest k m (inr p) = go (first_parts row rest k m.1 p.1)
  where
    go : (First row k × (k ≢ 0)) ⊎ (First row 0 × First rest k) → (First (g ∷ row) k × (k ≢ 0)) ⊎ (First (g ∷ row) 0 × First rest k)
    go (inl r) = inl (inr (p.0, r.0), r.1)
    go (inr r) = inr (inr (p.0, r.0), r.1)

-- ---- the action at fault

-- The row settles it.
pub at_fault-one : (row : List Ground) (a b : ℕ) → AtFault row a → AtFault row b → a ≡ b
at_fault-one [] a b p q = p ∙ sym q
at_fault-one (g ∷ row) a b (inl p) (inl q) = lowest-one p.1 q.1
at_fault-one (g ∷ row) a b (inl p) (inr q) = absurd (q.0 p.0)
at_fault-one (g ∷ row) a b (inr p) (inl q) = absurd (p.0 q.0)
at_fault-one (g ∷ row) a b (inr p) (inr q) = at_fault-one row a b p.1 q.1

pub refuses-one : (row : List Ground) (f h : Fault) → Refuses row f → Refuses row h → f ≡ h
refuses-one row f h p q = rw (first_one row f.number h.number p.number q.number, at_fault-one row f.action h.action p.action q.action)

-- Without a refusal none is named.
pub none-at_fault : (row : List Ground) → Numbered row → First row 0 → AtFault row most_actions
none-at_fault [] m p = refl
none-at_fault (g ∷ row) m (inl p) = absurd (omega arith)
none-at_fault (g ∷ row) m (inr p) = inr (p.0, none-at_fault row m.1 p.1)

-- no action is at fault for any ground of the row
abbrev pub Blameless : List Ground → Type 0
Blameless [] = Unit
Blameless (g ∷ row) = ((a : ℕ) → g.at_fault a → ⊥) × Blameless row

pub none_named : (row : List Ground) (f : Fault) → Numbered row → Refuses row f → f.number ≡ 0 → f.action ≡ most_actions
none_named row f m p e = at_fault-one row f.action most_actions p.action (none-at_fault row m (rw e at p.number))

none-lowest : {Faulty : ℕ → Type 0} → ((a : ℕ) → Faulty a → ⊥) → LowestFault Faulty most_actions most_actions
none-lowest never = record { most = le_refl _; fault = λ l. absurd (omega arith); before = λ a l. never a }

-- So whatever such a row gives, it names none.
pub blameless : (row : List Ground) (k : ℕ) → Blameless row → First row k → Refuses row (record { number = k; action = most_actions })
blameless row k m p = record { number = p; action = nobody row m p }
  where
    nobody : (row : List Ground) → Blameless row → First row k → AtFault row most_actions
    nobody [] m p = refl
    nobody (g ∷ row) m (inl p) = inl (p.0, none-lowest m.0)
    nobody (g ∷ row) m (inr p) = inr (p.0, nobody row m.1 p.1)

-- Where a call's own grounds are such, the action is the image's, whether the image is refused or not: a call hands on what the check answered,
pub handed_on : (row own : List Ground) (k a : ℕ) → Blameless own → AtFault row a → First (row ++ own) k → AtFault (row ++ own) a
handed_on [] own k a m p q = rw p (blameless own k m q).action
handed_on (g ∷ row) own k a m (inl p) q = inl p
handed_on (g ∷ row) own k a m (inr p) (inl q) = absurd (p.0 q.0)
handed_on (g ∷ row) own k a m (inr p) (inr q) = inr (p.0, handed_on row own k a m p.1 q.1)

-- and from what a call answered another one has the image's.
pub handed_back : (row own : List Ground) (a : ℕ) → Blameless own → AtFault (row ++ own) a → AtFault row a
handed_back [] own a m p = nobody own m p
  where
    nobody : (own : List Ground) → Blameless own → AtFault own a → a ≡ most_actions
    nobody [] m p = p
    nobody (g ∷ own) m (inl p) = lowest-one p.1 (none-lowest m.0)
    nobody (g ∷ own) m (inr p) = nobody own m.1 p.1
handed_back (g ∷ row) own a m (inl p) = inl p
handed_back (g ∷ row) own a m (inr p) = inr (p.0, handed_back row own a m p.1)

-- A row and the rest after it, as of the number.
pub refuses-stops : (row rest : List Ground) (f : Fault) → Refuses row f → f.number ≢ 0 → Refuses (row ++ rest) f
refuses-stops row rest f p some = record { number = first_stops row rest f.number p.number some; action = stops row p.number p.action }
  where
    stops : (row : List Ground) → First row f.number → AtFault row f.action → AtFault (row ++ rest) f.action
    stops [] z q = absurd (some z)
    stops (g ∷ row) z (inl q) = inl q
    stops (g ∷ row) (inl z) (inr q) = absurd (q.0 z.0)
    stops (g ∷ row) (inr z) (inr q) = inr (q.0, stops row z.1 q.1)

pub refuses-goes_on : (row rest : List Ground) (f : Fault) → Numbered row → First row 0 → Refuses rest f → Refuses (row ++ rest) f
refuses-goes_on row rest f m p r = record { number = first-goes_on row rest f.number m p r.number; action = goes_on row m p }
  where
    goes_on : (row : List Ground) → Numbered row → First row 0 → AtFault (row ++ rest) f.action
    goes_on [] m p = r.action
    goes_on (g ∷ row) m (inl p) = absurd (omega arith)
    goes_on (g ∷ row) m (inr p) = inr (p.0, goes_on row m.1 p.1)

-- ---- one row for another

-- the two grounds give the same number for the same, and blame the same actions
pub record Same (g h : Ground) : Type 0 where
  pub number : g.number ≡ h.number
  pub holds : g.holds ↔ h.holds
  pub at_fault : (a : ℕ) → g.at_fault a ↔ h.at_fault a

abbrev pub AllSame : List Ground → List Ground → Type 0
AllSame [] [] = Unit
AllSame (g ∷ row) (h ∷ other) = Same g h × AllSame row other
AllSame [] (h ∷ other) = ⊥
AllSame (g ∷ row) [] = ⊥

pub refuses-same : (row other : List Ground) (f : Fault) → AllSame row other → Refuses row f → Refuses other f
refuses-same row other f same p = record { number = first row other same p.number; action = action row other same p.action }
  where
    first : (row other : List Ground) → AllSame row other → First row f.number → First other f.number
    first [] [] same p = p
    first [] (h ∷ other) same p = absurd same
    first (g ∷ row) [] same p = absurd same
    first (g ∷ row) (h ∷ other) same (inl p) = inl (same.0.holds.0 p.0, p.1 ∙ same.0.number)
    first (g ∷ row) (h ∷ other) same (inr p) = inr ((λ x. p.0 (same.0.holds.1 x)), first row other same.1 p.1)

    action : (row other : List Ground) → AllSame row other → AtFault row f.action → AtFault other f.action
    action [] [] same p = p
    action [] (h ∷ other) same p = absurd same
    action (g ∷ row) [] same p = absurd same
    action (g ∷ row) (h ∷ other) same (inl p) = inl (same.0.holds.0 p.0, lowest-alike (λ a l. same.0.at_fault a) p.1)
    action (g ∷ row) (h ∷ other) same (inr p) = inr ((λ x. p.0 (same.0.holds.1 x)), action row other same.1 p.1)

-- ---- a refusal, ground by ground

pub refuses-none : Refuses [] (record { number = 0; action = most_actions })
refuses-none = record { number = refl; action = refl }

pub refuses_when : {A : Type 0} (k : ℕ) {row : List Ground} → A → Refuses (k when A ∷ row) (record { number = k; action = most_actions })
refuses_when k h = record { number = inl (h, refl); action = inl (h, none-lowest (λ a x. x)) }

pub refuses_on : {g : Ground} {row : List Ground} {f : Fault} → (g.holds → ⊥) → Refuses row f → Refuses (g ∷ row) f
refuses_on never p = record { number = inr (never, p.number); action = inr (never, p.action) }

-- by the scan that looks for the lowest action at fault
module _ {Faulty : ℕ → Type 0} {n r : ℕ} (k : ℕ) {row : List Ground} (low : LowestFault Faulty n r) where
  pub refuses_blamed : n ≤ most_actions → r < n → Refuses (k blames Faulty below n ∷ row) (record { number = k; action = r })
  refuses_blamed few l = record { number = inl ((some-fault low).0 l, refl); action = inl ((some-fault low).0 l, named-below few low l) }

  pub refuses_unblamed : {f : Fault} → n ≤ r → Refuses row f → Refuses (k blames Faulty below n ∷ row) f
  refuses_unblamed l = refuses_on (no_fault (some-fault low) l)

-- ---- of an image

pub loop-numbered : (s : List ℕ) → Numbered (loop_checks s)
loop-numbered s = (lit< tt, (lit< tt, (lit< tt, (lit< tt, (lit< tt, (lit< tt, (lit< tt, (lit< tt, tt))))))))

pub image-numbered : (s : List ℕ) → Numbered (image_checks s)
image-numbered s = (lit< tt, (lit< tt, (lit< tt, (lit< tt, (lit< tt, (lit< tt, (lit< tt, (lit< tt, (lit< tt, tt)))))))))

-- No ground of refusal 1 to 9 holds of the image.
pub record Sound (s : List ℕ) : Type 0 where
  pub not_short : Short s → ⊥
  pub not_version : Version s → ⊥
  pub not_count : Count (profile s) → ⊥
  pub not_length : Length s → ⊥
  pub not_spare : Spare s → ⊥
  pub not_range : Range (profile s) → ⊥
  pub not_table : Table (profile s) → ⊥
  pub not_looped : Looped (profile s) → ⊥
  pub not_unfit : Unfit (profile s) → ⊥

-- An image is accepted exactly if none does.
pub accepted-sound : (s : List ℕ) → Accepted s ↔ Sound s
accepted-sound s = ((λ a. sound (none.0 a)), (λ h. none.1 (all h)))
  where
    none : First (image_checks s) 0 ↔ None (image_checks s)
    none = first-none (image_checks s) (image-numbered s)

    sound : None (image_checks s) → Sound s
    sound (short, (version, (count, (length, (spare, (range, (table, (looped, (unfit, _))))))))) = record {
      not_short = short;
      not_version = version;
      not_count = count;
      not_length = length;
      not_spare = spare;
      not_range = range;
      not_table = table;
      not_looped = looped;
      not_unfit = unfit;
    }

    all : Sound s → None (image_checks s)
    all h = (
      h.not_short,
      (h.not_version, (h.not_count, (h.not_length, (h.not_spare, (h.not_range, (h.not_table, (h.not_looped, (h.not_unfit, tt)))))))),
    )

-- A call on an image that starts with the image's refusals: either it gives the image's number, or the image is sound and its own part gives.
pub accepted_parts : (s : List ℕ) (own : List Ground) (k : ℕ) → First (image_checks s ++ own) k
    → (First (image_checks s) k × (k ≢ 0)) ⊎ (Sound s × First own k)
accepted_parts s own k p = ⊎_map (λ x. x) (λ x. ((accepted-sound s).0 x.0, x.1)) (first_parts (image_checks s) own k (image-numbered s) p)
