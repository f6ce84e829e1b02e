-- What is known where asking and reporting are not refused. Assumes nothing.
use Prim.Native.Nat.{ℕ, ◌+◌, ◌*◌, ◌≤◌, ◌<◌}
use mathlib.Core.Path.{◌≡◌, refl, ap}
use mathlib.Core.Bool.{Bool, true, false, not, cond, ◌||◌}
use mathlib.Core.List.{List, []}
use mathlib.Core.Logic.{◌≢◌}
use native.Mathlib.Nat.{mul-le-mul, mul-le-mul_right}
use native.Mathlib.Omega.{arith}
use lib.Dec.{ltb, eqb, lit<}
use lib.ListN.{length}
use borrow.Author.Tests.{ltb-false, eqb-false, not-false}
use Rattle.rules.specs.Numbers.{last_clock}
use Rattle.rules.specs.Words.{one_if}
use Rattle.rules.specs.Limits.{LentTables}
use Rattle.rules.specs.Refusals.{first}
use Rattle.rules.specs.Run.{Run, in_range, lent, ask_refusal, report_refusal}
use Rattle.rules.proofs.Tests.{neither}
use Rattle.rules.proofs.Calls.{InRange, in_range_facts}
use Rattle.run.specs.Calls.{Open}

-- a row of refusals that gives none: its first test failed, and the rest gives none
clear : (b : Bool) (k m : ℕ) → 0 < k → 0 ≡ cond b k m → (b ≡ false) × (0 ≡ m)
clear true k m p e = absurd (omega arith)
clear false k m p e = (refl, e)

-- ---- asking

-- What a decision reads of the tables, and that the plan is read of it alone.
abbrev pub read : LentTables → LentTables
read T = record { order = []; limits = T.limits; worst = []; bounds = T.bounds }

pub read-alone : (n L : ℕ) (T : LentTables) → lent n L (read T) ≡ lent n L T
unfolding lent
read-alone n L T = refl

module _ (T : LentTables) (r : Run) where
  pub record Askable : Type 0 where
    pub is_open : Open (read T) r
    pub orders : r.n ≤ length T.order

  pub askable : 0 ≡ ask_refusal T r → Askable
  unfolding ask_refusal first
  askable e =
      let ordered = ltb (length T.order) r.n in
      let limited = ltb (length T.limits) (r.n * r.levels) in
      let a = clear (not (in_range r)) 11 _ (lit< tt) e in
      let b = clear (ordered || limited || ltb (length T.bounds) (r.n * r.levels * 16)) 17 _ (lit< tt) a.1 in
      let c = clear r.running 11 _ (lit< tt) b.1 in
      let d = clear (eqb r.position r.n) 10 0 (lit< tt) c.1 in
      let p = neither (ordered || limited) _ b.0 in
      let q = neither ordered limited p.0 in
      let h = not-false (in_range r) a.0 in
      let ne : (r.position ≢ r.n) = eqb-false r.position r.n d.0 in
      record {
        is_open = record {
          ranged = h;
          waits = c.0;
          more = omega (arith, (in_range_facts r h).position);
          limited = ltb-false _ _ q.1;
          bounded = ltb-false _ _ p.1;
        };
        orders = ltb-false _ _ q.0;
      }

-- ---- reporting

module _ (worst : List ℕ) (t : ℕ) (r : Run) where
  pub record Reportable : Type 0 where
    pub ranged : InRange r
    pub runs : r.running ≡ true
    pub room : r.n * r.levels ≤ length worst
    pub onward : r.clock ≤ t
    pub in_time : t ≤ last_clock
    pub more : r.position < r.n
    pub row : r.position * r.levels + r.levels ≤ r.n * r.levels
    pub few : r.n * r.levels ≤ 512

  pub reportable : 0 ≡ report_refusal worst t r → Reportable
  unfolding report_refusal first
  reportable e =
      let a = clear (not (in_range r)) 11 _ (lit< tt) e in
      let b = clear (ltb (length worst) (r.n * r.levels)) 17 _ (lit< tt) a.1 in
      let c = clear (not r.running) 11 _ (lit< tt) b.1 in
      let d = clear (ltb t r.clock) 12 _ (lit< tt) c.1 in
      let g = clear (ltb last_clock t) 13 0 (lit< tt) d.1 in
      let f = in_range_facts r (not-false (in_range r) a.0) in
      let runs = not-false r.running c.0 in
      let more : r.position < r.n = omega (arith, f.running, ap one_if runs) in
      record {
        ranged = f;
        runs = runs;
        room = ltb-false _ _ b.0;
        onward = ltb-false _ _ d.0;
        in_time = ltb-false _ _ g.0;
        more = more;
        row = omega (arith, mul-le-mul_right r.levels more);
        few = mul-le-mul f.few f.few_levels;
      }
