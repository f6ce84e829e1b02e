-- The ranges of a record of a body repeated, as facts. Assumes nothing.
use Prim.Native.Nat.{ℕ, ◌+◌, ◌*◌, ◌%◌, ◌≤◌, ◌<◌}
use mathlib.Core.Path.{◌≡◌, refl, sym, ap}
use mathlib.Core.Bool.{Bool, true, false, not, cond, ◌||◌}
use mathlib.Core.List.{List}
use mathlib.Core.Logic.{◌≢◌}
use native.Mathlib.Nat.{mul-le-mul_right}
use native.Mathlib.Omega.{arith}
use lib.Dec.{eqb, ltb, lit<}
use lib.ListN.{length}
use borrow.Author.Tests.{eqb-true, eq-eqb, ne_eqb, ltb-false, eqb-false, not-false}
use Rattle.rules.specs.Numbers.{summary_numbers}
use Rattle.rules.specs.Words.{every, one_if}
use Rattle.std.specs.Prelude.{Result, Ok, Err}
use Rattle.std.specs.Result.{is_ok, is_err}
use Rattle.rules.specs.Refusals.{first}
use Rattle.rules.specs.Reasons.{number}
use Rattle.rules.specs.declared.Reason.{Reason}
use Rattle.rules.specs.Run.{Run, in_cycle}
use Rattle.rules.specs.Repeat.{LentBody, positions, body_tests, body_in_range, body_ask_refusal, body_report_refusal}
use Rattle.rules.specs.declared.Body.{Body}
use Rattle.rules.proofs.Tests.{failed, and-true, neither}
use Rattle.rules.proofs.Calls.{InCycle, in_cycle_facts, facts_in_cycle}
use Rattle.rules.proofs.Reasons.{some_number}
use Rattle.repeat_laws.proofs.Places.{place-lt}
use Rattle.repeat_limits.specs.Limits.{CountsIn}
use Rattle.repeat_limits.proofs.Refusing.{counts_in, Products, products}
use Rattle.repeat_run.specs.Calls.{MayDecide}

-- ---- refused or not

pub ok-number : {A : Type 0} (r : Result A Reason) → eqb (number r) 0 ≡ is_ok r
ok-number (Ok _) = refl
ok-number (Err reason) = ne_eqb _ _ (some_number reason)

pub none-ok : {A : Type 0} (r : Result A Reason) → is_err r ≡ false → number r ≡ 0
none-ok (Ok _) e = refl
none-ok (Err _) e = cc

pub some-err : {A : Type 0} (r : Result A Reason) → is_err r ≡ true → number r ≢ 0
some-err (Ok _) e = cc
some-err (Err reason) e = some_number reason

-- ---- in range

pub record Ranged (b : Body) (r : Run) : Type 0 where
  pub none : first (body_tests b) ≡ 0
  pub counts : CountsIn b
  pub products : Products b
  pub cycle : InCycle r

pub ranged : (b : Body) (r : Run) → body_in_range b r ≡ true → Ranged b r
unfolding body_in_range
ranged b r h =
    let both = (and-true (eqb (first (body_tests b)) 0) (every (in_cycle r))).0 h in
    let none = eqb-true _ _ both.0 in
    let counts = counts_in b (sym none) in
    record { none = none; counts = counts; products = products counts; cycle = in_cycle_facts r both.1 }

pub is-ranged : (b : Body) (r : Run) → first (body_tests b) ≡ 0 → InCycle r → true ≡ body_in_range b r
unfolding body_in_range
is-ranged b r none C = sym ((and-true (eqb (first (body_tests b)) 0) (every (in_cycle r))).1 (eq-eqb _ _ none, facts_in_cycle r C))

pub not-ranged : (b : Body) (r : Run) → (first (body_tests b) ≡ 0 → InCycle r → ⊥) → false ≡ body_in_range b r
not-ranged b r out = sym (failed _ (λ h. let is = ranged b r h in out is.none is.cycle))

-- ---- not refused

-- a row of refusals that gives none: its first test failed, and the rest gives none
clear : (b : Bool) (k m : ℕ) → 0 < k → 0 ≡ cond b k m → (b ≡ false) × (0 ≡ m)
clear true k m p e = absurd (omega arith)
clear false k m p e = (refl, e)

module _ (b : Body) (T : LentBody) (r : Run) where
  pub record Askable : Type 0 where
    pub ranged : Ranged b r
    pub ordered : b.n ≤ length T.order
    pub may : MayDecide T b r

  pub askable : 0 ≡ body_ask_refusal b T r → r.n ≡ positions b → Askable
  unfolding body_ask_refusal first
  askable e n =
      let a = clear (not (body_in_range b r)) 11 _ (lit< tt) e in
      let is = ranged b r (not-false _ a.0) in
      let cells = b.n * b.levels in
      let room = clear (ltb (length T.order) b.n || ltb (length T.summaries) (cells * summary_numbers) || ltb (length T.worst) cells) 17 _ (lit< tt) a.1 in
      let two = neither _ (ltb (length T.worst) cells) room.0 in
      let one = neither (ltb (length T.order) b.n) (ltb (length T.summaries) (cells * summary_numbers)) two.0 in
      let waits = clear r.running 11 _ (lit< tt) room.1 in
      let more = eqb-false r.position r.n (clear (eqb r.position r.n) 10 0 (lit< tt) waits.1).0 in
      record {
        ranged = is;
        ordered = ltb-false _ _ one.0;
        may = record {
          counts = is.counts;
          summed = ltb-false _ _ one.1;
          timed = ltb-false _ _ two.1;
          more = omega (arith, is.cycle.position);
          early = omega (arith, is.cycle.clock);
          counted = omega (arith, is.cycle.decisions, ap one_if waits.0);
        };
      }

module _ (b : Body) (worst : List ℕ) (t : ℕ) (r : Run) where
  pub record Reportable : Type 0 where
    pub ranged : Ranged b r
    pub timed : b.n * b.levels ≤ length worst
    pub more : r.position < r.n
    pub onward : r.clock ≤ t

  pub reportable : 0 ≡ body_report_refusal b worst t r → Reportable
  unfolding body_report_refusal first
  reportable e =
      let a = clear (not (body_in_range b r)) 11 _ (lit< tt) e in
      let is = ranged b r (not-false _ a.0) in
      let room = clear (ltb (length worst) (b.n * b.levels)) 17 _ (lit< tt) a.1 in
      let runs = clear (not r.running) 11 _ (lit< tt) room.1 in
      let back = clear (ltb t r.clock) 12 _ (lit< tt) runs.1 in
      record {
        ranged = is;
        timed = ltb-false _ _ room.0;
        more = omega (arith, is.cycle.running, ap one_if (not-false r.running runs.0));
        onward = ltb-false _ _ back.0;
      }

-- the entry of a place and a level
pub cell_in : (b : Body) → CountsIn b → (x : ℕ) → x % b.n * b.levels + b.levels ≤ b.n * b.levels
cell_in b c x = omega (arith, mul-le-mul_right b.levels (place-lt c.some_action x))
