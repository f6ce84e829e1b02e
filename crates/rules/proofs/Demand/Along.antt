-- A cycle is judged by its own positions: durations and levels that agree along it keep the same. Assumes nothing.
use Prim.Native.Nat.{ℕ, suc, ◌+◌, ◌≤◌, ◌<◌}
use mathlib.Core.Path.{◌≡◌, ap, sym, subst}
use native.Mathlib.Omega.{arith}
use Rattle.rules.specs.Limits.{Tables, Gives}
use Rattle.rules.specs.Demand.{Policy, plan_of, clock, Coast, Way, over, decide, Kept}
use Rattle.rules.proofs.Sums.{sum_same}

clock-alike : (n t : ℕ) (d e : ℕ → ℕ) → ((j : ℕ) → j < n → d j ≡ e j) → (i : ℕ) → i ≤ n → clock t d i ≡ clock t e i
clock-alike n t d e same i l = ap (λ (x : ℕ). t + x) (sum_same i d e (λ j m. same j (omega arith)))

way_alike : {S : Tables} {cap : ℕ} {P : Policy S} {t : ℕ} {d : ℕ → ℕ} (e : ℕ → ℕ) → ((j : ℕ) → j < S.n → d j ≡ e j) → {i m : ℕ} → Way cap P t d i m
    → Way cap P t e i m
way_alike e same (over end) = over end
way_alike {S} {cap} {P} {t} {d} e same {i} (decide r c w) =
    decide r (subst (λ (x : ℕ). Coast cap P x i r) (clock-alike S.n t d e same i (omega (arith, c.room))) c) (way_alike e same w)

pub kept-alike : {S : Tables} {cap : ℕ} {P : Policy S} {t : ℕ} {d got : ℕ → ℕ} {m : ℕ} (e gets : ℕ → ℕ) → ((j : ℕ) → j < S.n → d j ≡ e j)
    → ((j : ℕ) → j < S.n → got j ≡ gets j) → Kept cap P t d got m → Kept cap P t e gets m
kept-alike {S} {cap} {P} {t} {d} {got} e gets same levels k = record {
  meets = λ j l. subst (λ (x : ℕ). x ≤ S.deadline j) (clock-alike S.n t d e same (suc j) l) (k.meets j l);
  asked = λ j l.
      subst (Gives (plan_of P) (clock t e j) j) (levels j l)
      (subst (λ (x : ℕ). Gives (plan_of P) x j (got j)) (clock-alike S.n t d e same j (omega arith)) (k.asked j l));
  coasts = way_alike e same k.coasts;
  fewest = λ w x. k.fewest w (way_alike d (λ j l. sym (same j l)) x);
}
