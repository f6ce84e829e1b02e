-- What a yes or a no says. Assumes nothing.
use mathlib.Core.Path.{◌≡◌}
use mathlib.Core.Bool.{true}
use mathlib.Core.List.{List, [], ◌∷◌, ◌++◌}
use mathlib.Core.Logic.{◌⊎◌, inl, inr, ⊎_elim, ⊎_map, ◌↔◌}
use Prim.Native.Nat.{ℕ, ◌<◌}
use lib.Dec.{ltb}
use borrow.Author.Tests.{ltb-true, lt-ltb}
use Rattle.rules.specs.Refusals.{Tight}

pub less-says : (a b : ℕ) → (ltb a b ≡ true) ↔ (a < b)
less-says a b = (ltb-true a b, lt-ltb a b)

-- one slice more
pub tight_and : (rooms : List (ℕ × ℕ)) (last : ℕ × ℕ) → (Tight rooms ⊎ (last.0 < last.1)) ↔ Tight (rooms ++ (last ∷ []))
tight_and [] last = (⊎_elim absurd inl, ⊎_elim inr absurd)
tight_and (room ∷ rest) last =
    let more = tight_and rest last in
    (⊎_elim (⊎_elim inl (λ t. inr (more.0 (inl t)))) (λ l. inr (more.0 (inr l))), ⊎_elim (λ l. inl (inl l)) (λ t. ⊎_map inr (λ l. l) (more.1 t)))
