-- The length of a recording, judged by the header's counts. Assumes nothing.
use Prim.Native.Nat.{ℕ, ◌*◌, ◌/◌, ◌%◌, ◌≤◌, ◌<◌}
use mathlib.Core.Path.{◌≡◌, refl, subst}
use mathlib.Core.Bool.{Bool, true, false, ◌&&◌, true≢false, false≢true}
use mathlib.Core.List.{List}
use mathlib.Core.Logic.{◌⊎◌, inl, inr, ⊎_elim}
use native.Mathlib.Nat.{mul-pos, mul-le-mul}
use native.Mathlib.Decide.{dec_le}
use native.Mathlib.Omega.{arith}
use borrow.Author.Tests.{leb-true, leb-false, eqb-true, eqb-false}
use lib.Dec.{leb, eqb}
use Rattle.rules.specs.Numbers.{most_frames}
use Rattle.rules.specs.Image.{actions, levels, profile}
use Rattle.rules.specs.Refusals.{CountsOut}
use Rattle.rules.specs.Recording.{frame_bytes}
use Rattle.image_fields.specs.declared.Header.{Header}
use Rattle.image_fields.specs.Reading.{HeaderOf}
use Rattle.recording.specs.Recording.{LengthFits}

few_actions : (s : List ℕ) → actions s < 128
unfolding actions
few_actions s = omega arith

few_levels : (s : List ℕ) → levels s < 16
unfolding levels
few_levels s = omega arith

module _ {s : List ℕ} {h : Header} (H : HeaderOf s h) where
  -- no product wraps
  pub few-cells : h.n * h.levels ≤ 127 * 15
  few-cells =
      let n : h.n ≤ 127 = omega (arith, few_actions s, H.n) in
      let L : h.levels ≤ 15 = omega (arith, few_levels s, H.levels) in
      mul-le-mul n L

  size_is : h.n * h.levels * 4 ≡ frame_bytes (profile s).n (profile s).levels
  unfolding frame_bytes profile
  size_is = rw (H.n, H.levels)

  module _ (bytes : ℕ) where
    pub none-measured : h.n * h.levels * 4 ≡ 0 → LengthFits s bytes false
    unfolding profile
    none-measured e = record { fits = λ z. absurd (false≢true z); fails = λ _. inr (inl (out (dec_le 1 (actions s)) (dec_le 1 (levels s)))) }
      where
        out : Dec (1 ≤ actions s) → Dec (1 ≤ levels s) → CountsOut (actions s) (levels s)
        out (no a) b = inl (omega arith)
        out (yes a) (no b) = inr (inr (inl (omega arith)))
        out (yes a) (yes b) =
            let some : 0 < h.n * h.levels = mul-pos (omega (arith, H.n)) (omega (arith, H.levels)) in
            absurd (omega arith)

    abbrev size : ℕ
    size = h.n * h.levels * 4

    judged : (b c : Bool) → eqb (bytes % size) 0 ≡ b → leb (bytes / size) most_frames ≡ c → 0 < size → LengthFits s bytes (b && c)
    judged true true p q some = record {
      fits = λ _. (
        subst (λ (x : ℕ). 0 < x) size_is some,
        subst (λ (x : ℕ). (bytes % x ≡ 0 → ⊥) ⊎ (most_frames < bytes / x) → ⊥) size_is
            (⊎_elim (λ w. w (eqb-true (bytes % size) 0 p)) (λ w. omega (arith, w, leb-true (bytes / size) most_frames q))),
      );
      fails = λ e. absurd (true≢false e);
    }
    judged true false p q some = record {
      fits = λ e. absurd (false≢true e);
      fails = λ _. inr (inr (inr (subst (λ (x : ℕ). most_frames < bytes / x) size_is (leb-false (bytes / size) most_frames q))));
    }
    judged false c p q some = record {
      fits = λ e. absurd (false≢true e);
      fails = λ _. inr (inr (inl (subst (λ (x : ℕ). bytes % x ≡ 0 → ⊥) size_is (eqb-false (bytes % size) 0 p))));
    }

    pub measured : 0 < h.n * h.levels * 4
        → LengthFits s bytes (eqb (bytes % (h.n * h.levels * 4)) 0 && leb (bytes / (h.n * h.levels * 4)) most_frames)
    measured some = judged (eqb (bytes % size) 0) (leb (bytes / size) most_frames) refl refl some
