-- A record of a trace by its fields: how large they are, how they stand in its bytes, and which records are measurements. Assumes
-- nothing.
use Prim.Native.Nat.{ℕ, zero, suc, ◌+◌, ◌*◌, ◌/◌, ◌%◌, ◌^◌, ◌<◌}
use mathlib.Core.Path.{◌≡◌, refl, sym, ap, ◌∙◌}
use mathlib.Core.Bool.{true, false, not, ◌&&◌}
use mathlib.Core.List.{List}
use native.Mathlib.Nat.{div-div-eq-div-mul}
use native.Mathlib.Omega.{arith}
use borrow.Author.Tests.{eq-eqb, ne_eqb, lt-ltb}
use lib.Dec.{ltb, eqb}
use Rattle.rules.specs.Numbers.{most_actions, most_levels, duration_said}
use Rattle.rules.specs.Image.{be}
use Rattle.rules.specs.Refresh.{entry, open_of, action_of, level_of, duration_of, measures}
use Rattle.rules.proofs.Tests.{failed}
use Rattle.rules.proofs.Refresh.{measures-above}
use Rattle.trace.specs.Trace.{cells, cell_of, IsRecord, Measures}
use Rattle.trace.specs.declared.Entry.{Entry}

-- An action has 6 bits, a level 3 and a duration 30.
pub action-lt : (trace : List ℕ) (r : ℕ) → action_of trace r < most_actions
unfolding action_of
action-lt trace r = omega arith

pub level-lt : (trace : List ℕ) (r : ℕ) → level_of trace r < most_levels
unfolding level_of
level-lt trace r = omega arith

pub duration-lt : (trace : List ℕ) (r : ℕ) → duration_of trace r < duration_said
unfolding duration_of
duration-lt trace r = omega arith

pub cell-lt : {trace : List ℕ} {r : ℕ} {e : Entry} → IsRecord trace r e → e.cell < cells
cell-lt {trace} {r} is = omega (arith, is.in_cell, action-lt trace r, level-lt trace r)

-- Its five bytes as one number.
module _ (trace : List ℕ) (r e : ℕ) (is : e ≡ be trace (r * 5) 5) where
  pub opened : eqb (e / 2 ^ 39) 1 ≡ open_of trace r
  unfolding open_of entry
  opened = ap (λ (x : ℕ). eqb (x / 2 ^ 39) 1) is

  pub in_cell : e / duration_said % cells ≡ cell_of (action_of trace r) (level_of trace r)
  unfolding action_of level_of entry
  in_cell =
      let above : e / 2 ^ 33 ≡ e / 2 ^ 30 / 8 = sym (div-div-eq-div-mul e (2 ^ 30) 8) in
      rw (sym is, above) (digits (e / 2 ^ 30))
    where
      digits : (x : ℕ) → x % 512 ≡ x / 8 % 64 * 8 + x % 8
      digits x = omega arith

  pub lasts : e % duration_said ≡ duration_of trace r
  unfolding duration_of entry
  lasts = ap (λ (x : ℕ). x % 2 ^ 30) is

-- ---- which records are measurements

-- One of duration 0 is none.
pub skipped_measures : (e : Entry) → e.duration ≡ 0 → Measures e false
skipped_measures e none trace r is = sym (failed _ (λ h. omega (arith, none, is.duration, measures-above trace _ _ r h)))

-- A closed record is none.
pub closed_measures : (e : Entry) → e.«open» ≡ false → Measures e e.«open»
unfolding measures
closed_measures e closed trace r is = closed ∙ rw (sym is.opened ∙ closed) refl

-- An open one is one if its duration is above 0.
pub open_measures : (e : Entry) → e.«open» ≡ true → Measures e (not (eqb e.duration 0))
unfolding measures
open_measures e is_open trace r is =
    rw (sym is.opened ∙ is_open, eq-eqb (action_of trace r) _ refl, eq-eqb (level_of trace r) _ refl, is.duration) (some (duration_of trace r))
  where
    some : (d : ℕ) → not (eqb d 0) ≡ true && (ltb 0 d && (true && true))
    some zero = refl
    some (suc d) = rw (ne_eqb (suc d) 0 (λ e. omega arith), lt-ltb 0 (suc d) (omega arith)) refl
