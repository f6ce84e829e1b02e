-- Where an unrolled position stands: its place in its body, and the whole bodies after that one. Assumes nothing.
use Prim.Native.Nat.{ℕ, suc, ◌+◌, ◌-◌, ◌*◌, ◌/◌, ◌%◌, ◌≤◌, ◌<◌}
use mathlib.Core.Path.{◌≡◌, ap, sym, ◌∙◌}
use mathlib.Core.Logic.{◌≢◌}
use native.Mathlib.Nat.{div-add-mod'}
use native.Mathlib.Omega.{arith}
use Rattle.rules.specs.declared.Body.{Body}
use Rattle.repeat_laws.specs.Standing.{Standing}
use Rattle.repeat_laws.proofs.Places.{row_of, place_of, place-lt, row_lt, inside}

module _ {b : Body} (some : 0 < b.n) where
  -- a place and fewer bodies after it than there are repeats are those of a position
  pub stands : (a m : ℕ) → a < b.n → m < b.repeats → Standing b ((b.repeats - 1 - m) * b.n + a) a m
  stands a m l h = record {
    present = inside some (omega arith) l;
    place_is = sym (place_of some (b.repeats - 1 - m) l);
    after_is = omega (arith, row_of some (b.repeats - 1 - m) l);
  }

  module _ {y a m : ℕ} (s : Standing b y a m) where
    pub place_in : a < b.n
    place_in = omega (arith, s.place_is, place-lt some y)

    pub fewer : m < b.repeats
    fewer = omega (arith, s.after_is, row_lt some s.present)

    -- The next position is the next place of the same body,
    pub next_place : suc a ≢ b.n → Standing b (suc y) (suc a) m
    next_place ne =
        let more : suc a < b.n = omega (arith, place_in) in
        let at : y / b.n * b.n + suc a ≡ suc y = omega (arith, div-add-mod' y b.n, s.place_is) in
        record {
          present = omega (arith, ap (λ (x : ℕ). x) at, inside some (row_lt some s.present) more);
          place_is = sym (place_of some (y / b.n) more) ∙ ap (λ (x : ℕ). x % b.n) at;
          after_is = omega (arith, s.after_is, ap (λ (x : ℕ). x / b.n) at, row_of some (y / b.n) more);
        }

    -- and after the last place the first of the next body, where there is one.
    pub next-body : suc a ≡ b.n → suc y < b.repeats * b.n → (0 < m) × Standing b (suc y) 0 (m - 1)
    next-body e l =
        let at : suc (y / b.n) * b.n + 0 ≡ suc y = omega (arith, div-add-mod' y b.n, s.place_is) in
        let row : suc y / b.n ≡ suc (y / b.n) = ap (λ (x : ℕ). x / b.n) (sym at) ∙ row_of some (suc (y / b.n)) some in
        let lower = row_lt some l in (
          omega (arith, s.after_is, row, lower),
          record {
            present = l;
            place_is = sym (place_of some (suc (y / b.n)) some) ∙ ap (λ (x : ℕ). x % b.n) at;
            after_is = omega (arith, s.after_is, row);
          },
        )

    -- So many positions on it is as many places on, past the bodies between.
    pub further : (k : ℕ) → y + k < b.repeats * b.n → ((a + k) / b.n ≤ m) × Standing b (y + k) ((a + k) % b.n) (m - (a + k) / b.n)
    further k l =
        let p : ℕ = (a + k) / b.n in
        let low : (a + k) % b.n < b.n = place-lt some (a + k) in
        let at : (y / b.n + p) * b.n + (a + k) % b.n ≡ y + k = omega (arith, div-add-mod' y b.n, div-add-mod' (a + k) b.n, s.place_is) in
        let row : (y + k) / b.n ≡ y / b.n + p = ap (λ (x : ℕ). x / b.n) (sym at) ∙ row_of some (y / b.n + p) low in
        let lower = row_lt some l in (
          omega (arith, s.after_is, row, lower),
          record {
            present = l;
            place_is = sym (place_of some (y / b.n + p) low) ∙ ap (λ (x : ℕ). x % b.n) at;
            after_is = omega (arith, s.after_is, row, lower);
          },
        )

    -- What is left of the frame.
    pub rest-left : b.repeats * b.n - y ≡ m * b.n + (b.n - a)
    rest-left =
        let rows : (b.repeats - 1 - m) * b.n ≡ y / b.n * b.n =
        (let e : b.repeats - 1 - m ≡ y / b.n = omega (arith, s.after_is, row_lt some s.present) in ap (λ (x : ℕ). x * b.n) e) in
        let whole : (b.repeats - 1 - m + 1 + m) * b.n ≡ b.repeats * b.n =
        (let e : b.repeats - 1 - m + 1 + m ≡ b.repeats = omega (arith, fewer) in ap (λ (x : ℕ). x * b.n) e) in
        omega (arith, rows, whole, div-add-mod' y b.n, s.place_is, place_in)
