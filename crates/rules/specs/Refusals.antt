-- Numbers of refusal.
use Rattle.std.specs.Prelude.{ℕ, suc, ◌≤◌, ◌<◌, ◌≡◌, Bool, true, cond, List, [], ◌∷◌, ◌++◌, ◌⊎◌, ◌≢◌, eqb, length, Option, None, Some as found}
use Rattle.rules.specs.Numbers.{most_actions, most_levels, last_clock, longest_time, policy_2008, policy_2005, first_version, header_bytes, refused_short, refused_version, refused_count, refused_length, refused_spare, refused_range, refused_table, refused_loop, refused_unfit, refused_name, refused_room, refused_policy}
use Rattle.rules.specs.Words.{Some}
use Rattle.rules.specs.Image.{Profile, has, version, header_spare, spare_of, image_bytes, profile}
use Rattle.rules.specs.Order.{OnLoop, Before, Fit}
use Rattle.rules.specs.declared.Fault.{Fault}

-- ---- the action at fault

-- r is the lowest action below n at fault, n if none is.
pub record LowestFault (Faulty : ℕ → Type 0) (n r : ℕ) : Type 0 where
  pub most : r ≤ n
  pub fault : r < n → Faulty r
  pub before : (a : ℕ) → a < r → Faulty a → ⊥

-- The same where none may be at fault.
abbrev pub Lowest : (ℕ → Type 0) → ℕ → Option ℕ → Type 0
Lowest Faulty n None = LowestFault Faulty n n
Lowest Faulty n (found a) = LowestFault Faulty n a × (a < n)

-- ---- in which order

-- A number with what it is given for, and the actions that are at fault for it.
pub record Ground : Type 1 where
  pub number : ℕ
  pub holds : Type 0
  pub at_fault : ℕ → Type 0

-- Given for something that no action is at fault for,
infix 70 ◌when◌
abbrev pub ◌when◌ : ℕ → Type 0 → Ground
k when A = record { number = k; holds = A; at_fault = λ a. ⊥ }

-- where some action below n is at fault,
infix 70 ◌blames◌below◌
abbrev pub ◌blames◌below◌ : ℕ → (ℕ → Type 0) → ℕ → Ground
k blames Faulty below n = record { number = k; holds = Some Faulty n; at_fault = λ a. (a < n) × Faulty a }

-- or for something else besides.
infix 69 ◌or_when◌
abbrev pub ◌or_when◌ : Ground → Type 0 → Ground
g or_when A = record { number = g.number; holds = A ⊎ g.holds; at_fault = g.at_fault }

-- k is the number of the first ground in the row that holds, 0 where none does.
abbrev pub First : List Ground → ℕ → Type 0
First [] k = k ≡ 0
First (g ∷ row) k = (g.holds × (k ≡ g.number)) ⊎ ((g.holds → ⊥) × First row k)

-- a is the lowest action at fault for it, 64 where none is: with a ground that no action is at fault for, and where none holds.
abbrev pub AtFault : List Ground → ℕ → Type 0
AtFault [] a = a ≡ most_actions
AtFault (g ∷ row) a = (g.holds × LowestFault g.at_fault most_actions a) ⊎ ((g.holds → ⊥) × AtFault row a)

-- What a call on an image, and writing, answer of a refusal: both.
pub record Refuses (row : List Ground) (f : Fault) : Type 0 where
  pub number : First row f.number
  pub action : AtFault row f.action

-- The same where each ground is a test.
pub record Test : Type 0 where
  pub number : ℕ
  pub fails : Bool

infix 70 ◌if◌
abbrev pub ◌if◌ : ℕ → Bool → Test
k if b = record { number = k; fails = b }

unfoldable pub first : List Test → ℕ
first [] = 0
first (t ∷ row) = cond t.fails t.number (first row)

-- ---- given exactly when, of a profile: of an action, and so of the profile where some action is at fault

-- 3 Count: n, L or cycle outside its range
abbrev pub CountsOut : ℕ → ℕ → Type 0
CountsOut n L = (n < 1) ⊎ ((most_actions < n) ⊎ ((L < 1) ⊎ (most_levels < L)))

abbrev pub CountOut : ℕ → ℕ → ℕ → Type 0
CountOut n L cycle = CountsOut n L ⊎ ((cycle < 1) ⊎ (last_clock < cycle))

abbrev pub Count : Profile → Type 0
Count F = CountOut F.n F.levels F.cycle

-- 6 Range: deadline above the cycle, or a mask names action n or more
abbrev pub OutOfRange : ℕ → ℕ → ℕ → ℕ → Type 0
OutOfRange n cycle mask deadline = (cycle < deadline) ⊎ ((b : ℕ) × (n ≤ b) × (has mask b ≡ true))

abbrev pub RangeFault : Profile → ℕ → Type 0
RangeFault F a = OutOfRange F.n F.cycle (F.mask a) (F.deadline a)

abbrev pub Range : Profile → Type 0
Range F = Some (RangeFault F) F.n

-- on writing, also a time above 16,777,215
abbrev pub LongTime : ℕ → (ℕ → ℕ) → (ℕ → ℕ) → Type 0
LongTime L average worst = (q : ℕ) × (q < L) × ((longest_time < average q) ⊎ (longest_time < worst q))

abbrev pub WriteFault : Profile → ℕ → Type 0
WriteFault F a = RangeFault F a ⊎ LongTime F.levels (F.average a) (F.worst a)

abbrev pub WriteRange : Profile → Type 0
WriteRange F = Some (WriteFault F) F.n

-- 7 Table: average above worst, or a time that falls with the level
abbrev pub Falls : (ℕ → ℕ) → ℕ → Type 0
Falls time L = (q : ℕ) × (suc q < L) × (time (suc q) < time q)

abbrev pub RowBreaks : ℕ → (ℕ → ℕ) → (ℕ → ℕ) → Type 0
RowBreaks L average worst = ((q : ℕ) × (q < L) × (worst q < average q)) ⊎ (Falls average L ⊎ Falls worst L)

abbrev pub TableFault : Profile → ℕ → Type 0
TableFault F a = RowBreaks F.levels (F.average a) (F.worst a)

abbrev pub Table : Profile → Type 0
Table F = Some (TableFault F) F.n

-- 8 Loop: the masks contain a loop, a single action included
abbrev pub LoopFault : Profile → ℕ → Type 0
LoopFault F = OnLoop F.n (Before F)

abbrev pub Looped : Profile → Type 0
Looped F = Some (LoopFault F) F.n

-- 9 Unfit: no permitted order meets all deadlines at level 0 worst times
abbrev pub Unfit : Profile → Type 0
Unfit F = Fit F → ⊥

-- ---- given exactly when, of an image

-- 1 Short, 2 Version, 4 Length
abbrev pub Short : List ℕ → Type 0
Short s = length s < header_bytes

abbrev pub Version : List ℕ → Type 0
Version s = version s ≢ first_version

abbrev pub Length : List ℕ → Type 0
Length s = length s ≢ image_bytes (profile s).n (profile s).levels

-- 5 Spare: a spare bit is set, of the header or of an action's record
abbrev pub SpareFault : List ℕ → ℕ → Type 0
SpareFault s a = spare_of s a ≢ 0

abbrev pub Spare : List ℕ → Type 0
Spare s = (header_spare s ≢ 0) ⊎ Some (SpareFault s) (profile s).n

-- Image checks go over the whole image in the order 1 to 9. Up to 8 they are those of a body too, however often it is repeated.
abbrev pub loop_checks : List ℕ → List Ground
loop_checks s =
    refused_short when Short s
    ∷ refused_version when Version s
    ∷ refused_count when Count (profile s)
    ∷ refused_length when Length s
    ∷ refused_spare blames SpareFault s below (profile s).n or_when (header_spare s ≢ 0)
    ∷ refused_range blames RangeFault (profile s) below (profile s).n
    ∷ refused_table blames TableFault (profile s) below (profile s).n
    ∷ refused_loop blames LoopFault (profile s) below (profile s).n
    ∷ []

abbrev pub image_checks : List ℕ → List Ground
image_checks s = loop_checks s ++ (refused_unfit when Unfit (profile s) ∷ [])

-- An accepted image.
abbrev pub Accepted : List ℕ → Type 0
Accepted s = First (image_checks s) 0

-- ---- the calls' own

-- A refusal leaves every lent slice untouched: what is there after a call is the new without a refusal, the old with one.
abbrev pub kept {ℓ} : {A : Type ℓ} → ℕ → A → A → A
kept refusal new old = cond (eqb refusal 0) new old

-- 17 Room: a lent slice shorter than needed. Each pair is a slice's length and what is needed of it.
abbrev pub Tight : List (ℕ × ℕ) → Type 0
Tight [] = ⊥
Tight (r ∷ rest) = (r.0 < r.1) ⊎ Tight rest

-- Reading: the image's, then 17.
abbrev pub image_call : List ℕ → List (ℕ × ℕ) → List Ground
image_call s rooms = image_checks s ++ (refused_room when Tight rooms ∷ [])

-- 20 Policy: a policy other than those of 2008 and 2005
abbrev pub UnknownPolicy : ℕ → Type 0
UnknownPolicy policy = (policy ≢ policy_2008) × (policy ≢ policy_2005)

-- Planning by a policy: the image's, 20, then 17.
abbrev pub plan_call : List ℕ → ℕ → List (ℕ × ℕ) → List Ground
plan_call s policy rooms = image_checks s ++ (refused_policy when UnknownPolicy policy ∷ refused_room when Tight rooms ∷ [])

-- Lookup of action a: the image's, then 15.
abbrev pub lookup_call : List ℕ → ℕ → List Ground
lookup_call s a = image_checks s ++ (refused_name when ((profile s).n ≤ a) ∷ [])

-- Writing: 3, 17, 6, 7, 8, 9.
abbrev pub write_call : Profile → List (ℕ × ℕ) → List Ground
write_call F rooms =
    refused_count when Count F
    ∷ refused_room when Tight rooms
    ∷ refused_range blames WriteFault F below F.n
    ∷ refused_table blames TableFault F below F.n
    ∷ refused_loop blames LoopFault F below F.n
    ∷ refused_unfit when Unfit F
    ∷ []
