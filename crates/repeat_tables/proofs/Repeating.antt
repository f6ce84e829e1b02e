-- What decides on repeating a body: its level 0 worst times, and its deadlines. Assumes nothing.
use Prim.Native.Nat.{ℕ, ◌+◌, ◌*◌, ◌≤◌}
use mathlib.Core.Path.{◌≡◌, refl}
use mathlib.Core.Bool.{Bool, true, false, cond}
use mathlib.Core.List.{List}
use mathlib.Core.Logic.{◌≢◌, ◌↔◌}
use native.Mathlib.Numerals.{add-one}
use borrow.Author.Tests.{ne_eqb}
use lib.Dec.{eqb}
use Rattle.rules.specs.Numbers.{longest_time}
use Rattle.rules.specs.Words.{sum}
use Rattle.rules.specs.Image.{Profile, due, profile, worst_of}
use Rattle.rules.specs.Repeat.{OwnDeadline}
use Rattle.rules.proofs.Terms.{sum-within}
use Rattle.fields.proofs.Bytes.{Bytes}
use Rattle.image_fields.proofs.Reading.{worst-short}

-- ---- the level 0 worst times

-- of the actions below a
abbrev pub total_below : List ℕ → ℕ → ℕ
total_below s a = sum a (λ k. (profile s).worst k 0)

pub total-none : (s : List ℕ) → 0 ≡ total_below s 0
unfolding sum
total-none s = refl

pub total-more : (s : List ℕ) (a : ℕ) {t w : ℕ} → w ≡ worst_of s a 0 → t ≡ total_below s a → t + w ≡ total_below s (a + 1)
unfolding sum profile
total-more s a e was = rw (e, was, add-one)

pub total-within : (s : List ℕ) (a : ℕ) → Bytes s → total_below s a ≤ a * longest_time
unfolding profile
total-within s a bytes = sum-within a longest_time (λ k. worst_of s k 0) (λ k l. worst-short s k 0 bytes)

-- ---- a deadline of its own

-- is one that does not count as the cycle
pub own-due : (F : Profile) (a : ℕ) → OwnDeadline F a ↔ (due F a ≢ F.cycle)
unfolding due
own-due F a = (
  (λ own e. own.1 (rw (ne_eqb (F.deadline a) 0 own.0) at e)),
  (λ h. ((λ e. h (rw e)), (λ e. h (either (eqb (F.deadline a) 0) e)))),
)
  where
    either : (b : Bool) → F.deadline a ≡ F.cycle → cond b F.cycle (F.deadline a) ≡ F.cycle
    either true e = refl
    either false e = e
