-- Where the speed reading answers a ratio, it is at most 1 exactly if t is at most deadline (k) - mixed (i, k, q). Assumes nothing.
use Prim.Native.Nat.{ℕ}
use mathlib.Core.Path.{◌≡◌, refl, sym, ap, ◌∙◌}
use mathlib.Core.Bool.{Bool, true, false, false≢true, not}
use mathlib.Core.List.{List}
use mathlib.Core.Logic.{◌⊎◌, inl, inr}
use native.Mathlib.Decide.{ℕ_discrete}
use native.Mathlib.Omega.{arith}
use lib.IntN.{ℤ, pos, ◌-ℤ◌}
use lib.Signed.{le_z, lt_z, ◌≤ℤ◌, ◌<ℤ◌, le_z_yes, lt_z_yes, lt_z_no, clash_ℤ}
use lib.Ieee.{Float}
use Rattle.rules.specs.Image.{profile}
use Rattle.rules.specs.Order.{Order, TheOrder}
use Rattle.rules.specs.Limits.{tables, mixed}
use Rattle.rules.specs.Speed.{room, ratio, spent, reading, at_most_one, speed_call}
use Rattle.rules.proofs.Refusals.{first_one}
use Rattle.rules.proofs.Order.OfProfile.{order_settled}
use Rattle.rules.proofs.Tests.{passed, pass, true_or_false}
use Rattle.rules.proofs.Speed.Reading.{Exact, reading-spent, image-exact}
use Rattle.rules.specs.declared.Fault.{Fault}
use Rattle.speed_stretch.specs.declared.Reading.TheVariants.{Ratio, Spent, Refused}
use Rattle.speed_stretch.specs.Answer.{gives, refuses}
use Rattle.speed.specs.Speed.{ReadsSpeed, Tells}
use Rattle.speed.proofs.Alike.{same-actions, on_time-same}
use Rattle.speed.proofs.Listed.{Bytes}
use Rattle.speed.proofs.Answers.{read-range}

-- a reading is not a refusal
gives-not : {x : _} {f : Fault} → gives x ≡ refuses f → ⊥
gives-not e = let z : ◌≡◌ {A = ℕ} 0 1 = cc in omega arith

above? : (z : ℤ) → (pos 0 <ℤ z) ⊎ (z ≤ℤ pos 0)
above? z = elim (true_or_false (lt_z (pos 0) z)) [
  | inl e ↦ inl (lt_z_yes (pass _ e))
  | inr e ↦ inr (lt_z_no (pass _ (ap not e)))
]

-- ---- a ratio

-- By the profile's order room is above 0, and x is at most 1 exactly if t is at most deadline (k) - mixed (i, k, q).
pub record ExactRatio (s : List ℕ) (i k q t : ℕ) (x : Float) : Type 0 where
  pub o : Order (profile s).n
  pub the_order : TheOrder (profile s) o
  pub above : pos 0 <ℤ room (tables (profile s) o) i k q t
  pub exact : at_most_one x ≡ le_z (pos t) (pos ((tables (profile s) o).deadline k) -ℤ pos (mixed (tables (profile s) o) i k q))

module _ {s : List ℕ} {i k q t : ℕ} where
  -- what is answered without a refusal is so by its number
  ratio-none : {v : Float} (x : ReadsSpeed s i k q t (Ratio v)) → x.refusal.number ≡ 0
  ratio-none x = elim (ℕ_discrete x.refusal.number 0) [ yes e ↦ e | no some ↦ absurd (gives-not (x.refused some)) ]

  spent-none : (x : ReadsSpeed s i k q t Spent) → x.refusal.number ≡ 0
  spent-none x = elim (ℕ_discrete x.refusal.number 0) [ yes e ↦ e | no some ↦ absurd (gives-not (x.refused some)) ]

  -- Of a ratio that the call answers: the theorem of the rules, for the image's own tables.
  pub reads-exact : {v : Float} → Bytes s → ReadsSpeed s i k q t (Ratio v) → ExactRatio s i k q t v
  reads-exact {v} byte x = by (above? (room (tables (profile s) o) i k q t))
    where
      o : Order (profile s).n
      o = (x.read (ratio-none x)).0

      is : gives (ratio v) ≡ gives (reading (tables (profile s) o) i k q t)
      is = (x.read (ratio-none x)).2

      exact : Exact (tables (profile s) o) i k q t → pos 0 <ℤ room (tables (profile s) o) i k q t → ExactRatio s i k q t v
      exact e above =
          let same : v ≡ e.x = cc is in
          record { o = o; the_order = (x.read (ratio-none x)).1; above = above; exact = ap at_most_one same ∙ e.signed }

      by : (pos 0 <ℤ room (tables (profile s) o) i k q t) ⊎ (room (tables (profile s) o) i k q t ≤ℤ pos 0) → ExactRatio s i k q t v
      by (inl above) =
          let (sound, range) = read-range s i k q t (rw (ratio-none x) at x.given.number) in
          exact (image-exact s byte sound o i k q t range.position range.level above) above
      by (inr below) =
          let none = (reading-spent (tables (profile s) o) i k q t).1 below in
          let z : ◌≡◌ {A = ℕ} 0 1 = cc is in
          absurd (omega arith)

  -- Of spent: room is at or below 0.
  pub reads-spent : ReadsSpeed s i k q t Spent
      → (o : Order (profile s).n) × TheOrder (profile s) o × (room (tables (profile s) o) i k q t ≤ℤ pos 0)
  reads-spent x =
      let (o, the, is) = x.read (spent-none x) in
      let e : reading (tables (profile s) o) i k q t ≡ spent = cc in
      (o, the, (reading-spent (tables (profile s) o) i k q t).0 e)

  -- ---- whether it is a ratio of at most 1

  pub ratio_tells : {v : Float} {b : Bool} → Bytes s → ReadsSpeed s i k q t (Ratio v) → b ≡ at_most_one v → Tells s i k q t b
  ratio_tells byte x e =
      let r = reads-exact byte x in
      let test = e ∙ r.exact in
      record {
        number = x.refusal.number;
        given = x.given.number;
        refused = λ some. absurd (some (ratio-none x));
        read = λ _. (r.o, r.the_order, ((λ y. (r.above, le_z_yes (pass _ (sym test ∙ y)))), (λ w. test ∙ passed _ w.1.le)));
      }

  pub spent_tells : ReadsSpeed s i k q t Spent → Tells s i k q t false
  spent_tells x =
      let (o, the, below) = reads-spent x in
      record {
        number = x.refusal.number;
        given = x.given.number;
        refused = λ _. refl;
        read = λ _. (o, the, ((λ e. absurd (false≢true e)), (λ w. clash_ℤ w.0 below)));
      }

  pub refused_tells : {f : Fault} → ReadsSpeed s i k q t (Refused f) → Tells s i k q t false
  refused_tells x = record {
    number = x.refusal.number;
    given = x.given.number;
    refused = λ _. refl;
    read = λ none. absurd (gives-not (sym (x.read none).2));
  }

-- The contract settles the answer.
pub tells_settled : {s : List ℕ} {i k q t : ℕ} (b b' : Bool) → Tells s i k q t b → Tells s i k q t b' → b ≡ b'
tells_settled {s} {i} {k} {q} {t} b b' x y = go (ℕ_discrete x.number 0)
  where
    one : x.number ≡ y.number
    one = first_one (speed_call s i k q t) x.number y.number x.given y.given

    both : (a c : Bool) → (a ≡ true → c ≡ true) → (c ≡ true → a ≡ true) → a ≡ c
    both true c to from = sym (to refl)
    both false true to from = from refl
    both false false to from = refl

    go : Dec (x.number ≡ 0) → b ≡ b'
    go (no some) = x.refused some ∙ sym (y.refused (λ e. some (one ∙ e)))
    go (yes none) =
        let range = (read-range s i k q t (rw none at x.given)).1 in
        let (o, the, tells) = x.read none in
        let (p, the', tells') = y.read (sym one ∙ none) in
        let there = same-actions (profile s) o.at p.at k q (λ j l. order_settled the the' j (omega (arith, range.position))) in
        let back = same-actions (profile s) p.at o.at k q (λ j l. order_settled the' the j (omega (arith, range.position))) in
        both b b' (λ e. tells'.1 (on_time-same there i t range.ordered (tells.0 e)))
        (λ e. tells.1 (on_time-same back i t range.ordered (tells'.0 e)))
