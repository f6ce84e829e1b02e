-- The order of the unrolled system is the body's order repeat by repeat, and it has a loop exactly if the body has one.
use Prim.Native.Nat.{ℕ, ◌+◌, ◌*◌, ◌/◌, ◌%◌, ◌≤◌, ◌<◌}
use mathlib.Core.Path.{◌≡◌, refl, ap, sym, subst, ◌∙◌}
use mathlib.Core.Bool.{Bool, true, false, cond}
use mathlib.Core.Logic.{◌⊎◌, inl, inr, ◌↔◌}
use native.Mathlib.Nat.{le_refl, le_of_eq, div-add-mod'}
use native.Mathlib.Decide.{dec_lt}
use native.Mathlib.Omega.{arith}
use lib.Dec.{eqb}
use Rattle.rules.specs.Image.{Profile, due}
use Rattle.rules.specs.Order.{Order, MustFollow, Urgency, Ready, ByUrgency, Before, TheOrder}
use Rattle.rules.specs.Refusals.{Looped}
use Rattle.rules.proofs.Order.Best.{follower_present}
use Rattle.rules.proofs.Order.Unique.{one-urgency, same-urgency}
use Rattle.repeat_laws.proofs.Repeatable.{Repeatable}
use Rattle.rules.specs.Repeat.{unrolled}
use Rattle.repeat_laws.proofs.Places.{row_ends, row_of, place_of, place-lt, row_lt, inside, rows_rise}
use Rattle.repeat_laws.proofs.Masks.{before_there, before_back}

-- ---- all deadlines are one

pub due-one : {F : Profile} → Repeatable F → (a : ℕ) → a < F.n → due F a ≡ F.cycle
unfolding due
due-one {F} body a l = go (body.one a l)
  where
    by : (b : Bool) → cond b F.cycle F.cycle ≡ F.cycle
    by true = refl
    by false = refl

    go : (F.deadline a ≡ 0) ⊎ (F.deadline a ≡ F.cycle) → cond (eqb (F.deadline a) 0) F.cycle (F.deadline a) ≡ F.cycle
    go (inl e) = rw e
    go (inr e) = rw e (by (eqb F.cycle 0))

pub due-unrolled : {F : Profile} → Repeatable F → (N x : ℕ) → due (unrolled F N) x ≡ F.cycle
unfolding due
due-unrolled {F} body N x = due-one body (x % F.n) (place-lt body.some x)

-- so are all urgencies
one-deadline : {n : ℕ} {before : ℕ → ℕ → Type 0} {D : ℕ → ℕ} {c : ℕ} → ((a : ℕ) → a < n → D a ≡ c) → (a : ℕ) → a < n → Urgency n before D a c
one-deadline same a l = record {
  own = le_of_eq (sym (same a l));
  later = λ b f. le_of_eq (sym (same b (follower_present f)));
  met = inl (sym (same a l));
}

-- ---- repeat by repeat

-- position j n + k has action j n + the body's action at k
pub repeated : {n : ℕ} → 0 < n → (N : ℕ) → Order n → Order (N * n)
repeated {n} some N o = record {
  at = λ k. k / n * n + o.at (k % n);
  pos = λ a. a / n * n + o.pos (a % n);
  at_lt = λ k l. inside some (row_lt some l) (o.at_lt (k % n) (place-lt some k));
  pos_lt = λ a l. inside some (row_lt some l) (o.pos_lt (a % n) (place-lt some a));
  pos_at = λ k l. turn o.at o.pos o.at_lt o.pos_at k;
  at_pos = λ a l. turn o.pos o.at o.pos_lt o.at_pos a;
}
  where
    turn : (f g : ℕ → ℕ) → ((k : ℕ) → k < n → f k < n) → ((k : ℕ) → k < n → g (f k) ≡ k)
        → (k : ℕ) → (k / n * n + f (k % n)) / n * n + g ((k / n * n + f (k % n)) % n) ≡ k
    turn f g low back k =
        let l = place-lt some k in
        let m = low (k % n) l in
        rw (row_of some (k / n) m, place_of some (k / n) m, back (k % n) l) (div-add-mod' k n)

pub repeated_is : {n : ℕ} (some : 0 < n) (N : ℕ) (o : Order n) (x : ℕ) → (repeated some N o).at x ≡ x / n * n + o.at (x % n)
unfolding repeated
repeated_is some N o x = refl

pub repeated_at : {n : ℕ} (some : 0 < n) (N : ℕ) (o : Order n) (j k : ℕ) → k < n → (repeated some N o).at (j * n + k) ≡ j * n + o.at k
unfolding repeated
repeated_at some N o j k l = rw (row_of some j l, place_of some j l)

module _ {F : Profile} (body : Repeatable F) (N : ℕ) {o : Order F.n} (x : TheOrder F o) where
  -- the body's order is by number alone
  by_number : ByUrgency F.n (Before F) (λ a. F.cycle) o
  by_number = same-urgency F.n (Before F) x.urgency (λ a. F.cycle)
      (λ a l. one-urgency (x.urgent a l) (one-deadline (due-one body) a l)) o x.by_urgency

  -- Of what is ready the action of the first unfinished repeat has the lowest number.
  unrolled-lowest : (k a : ℕ) → Ready (N * F.n) (Before (unrolled F N)) (repeated body.some N o) k a → (repeated body.some N o).at k ≤ a
  unfolding repeated
  unrolled-lowest k a r = go (dec_lt (k / F.n) (a / F.n))
    where
      some : 0 < F.n
      some = body.some

      later : k / F.n ≤ a / F.n
      later = rows_rise some (place-lt some k) (o.pos_lt (a % F.n) (place-lt some a)) (omega (arith, div-add-mod' k F.n, r.waits))

      go : Dec (k / F.n < a / F.n) → k / F.n * F.n + o.at (k % F.n) ≤ a
      go (yes l) = omega (arith, row_ends F.n l, o.at_lt (k % F.n) (place-lt some k), div-add-mod' a F.n)
      go (no l) = omega (arith, one-row, div-add-mod' a F.n, by_number.lowest (k % F.n) (a % F.n) (place-lt some k) ready refl)
        where
          one : k / F.n ≡ a / F.n
          one = omega (arith, later)

          one-row : k / F.n * F.n ≡ a / F.n * F.n
          one-row = ap (λ (y : ℕ). y * F.n) one

          ready : Ready F.n (Before F) o (k % F.n) (a % F.n)
          ready = record {
            present = place-lt some a;
            waits = omega (arith, one-row, div-add-mod' k F.n, r.waits);
            free = λ b l h.
                let row = row_of some (a / F.n) l in
                let place = place_of some (a / F.n) l in
                let there : Before (unrolled F N) (a / F.n * F.n + b) a = before_back body N (a / F.n * F.n + b) a row (rw place h) in
                let done = r.free (a / F.n * F.n + b) (inside some (row_lt some r.present) l) there in
                omega (arith, one-row, div-add-mod' k F.n, ap (λ (y : ℕ). y * F.n) row, ap o.pos place, done);
          }

  unrolled-ready : (k : ℕ) → k < N * F.n → Ready (N * F.n) (Before (unrolled F N)) (repeated body.some N o) k ((repeated body.some N o).at k)
  unfolding repeated
  unrolled-ready k l = record {
    present = p.at_lt k l;
    waits = le_of_eq (sym (p.pos_at k l));
    free = λ b m h.
        let some = body.some in
        let t = before_there body N b (p.at k) h in
        let low = o.at_lt (k % F.n) (place-lt some k) in
        let row : b / F.n ≡ k / F.n = t.0 ∙ row_of some (k / F.n) low in
        let first : Before F (b % F.n) (o.at (k % F.n)) = subst (Before F (b % F.n)) (place_of some (k / F.n) low) t.1 in
        omega (
          arith,
          ap (λ (y : ℕ). y * F.n) row,
          div-add-mod' k F.n,
          (by_number.ready (k % F.n) (place-lt some k)).free (b % F.n) (place-lt some b) first,
        );
  }
    where
      p : Order (N * F.n)
      p = repeated body.some N o

  -- The order of the unrolled system is the body's order repeat by repeat.
  pub repeated_order : TheOrder (unrolled F N) (repeated body.some N o)
  repeated_order = record {
    urgency = λ a. F.cycle;
    urgent = one-deadline (λ a l. due-unrolled body N a);
    by_urgency = record {
      ready = unrolled-ready;
      least = λ k a l r. le_refl _;
      lowest = λ k a l r e. unrolled-lowest k a r;
    };
  }

-- ---- loops

module _ {F : Profile} (body : Repeatable F) (N : ℕ) where
  follow_there : {x y : ℕ} → MustFollow (N * F.n) (Before (unrolled F N)) x y → MustFollow F.n (Before F) (x % F.n) (y % F.n)
  follow_there {x} {y} (MustFollow.next m h) = MustFollow.next (place-lt body.some y) (before_there body N x y h).1
  follow_there {x} (MustFollow.through {b = z} m h f) = MustFollow.through (place-lt body.some z) (before_there body N x z h).1 (follow_there f)

  module _ (j : ℕ) (l : j < N) where
    step_back : (a b : ℕ) → a < F.n → b < F.n → Before F a b → Before (unrolled F N) (j * F.n + a) (j * F.n + b)
    step_back a b u v h =
        let some = body.some in
        before_back body N (j * F.n + a) (j * F.n + b) (row_of some j u ∙ sym (row_of some j v)) (rw (place_of some j u, place_of some j v) h)

    follow_back : {a b : ℕ} → a < F.n → MustFollow F.n (Before F) a b → MustFollow (N * F.n) (Before (unrolled F N)) (j * F.n + a) (j * F.n + b)
    follow_back {a} {b} u (MustFollow.next m h) = MustFollow.next (inside body.some l m) (step_back a b u m h)
    follow_back {a} u (MustFollow.through {b = c} m h f) =
        MustFollow.through (inside body.some l m) (step_back a c u m h) (follow_back m f)

  -- The unrolled system has a loop exactly if the body has one.
  pub loop-exact : 0 < N → Looped (unrolled F N) ↔ Looped F
  loop-exact h = (
    (λ s. (s.0 % F.n, place-lt body.some s.0, follow_there s.2)),
    (λ s. (0 * F.n + s.0, inside body.some h s.1, follow_back 0 h s.1 s.2)),
  )
