-- Tables that agree where a cycle reads them run the same cycle. Assumes nothing.
use Prim.Native.Nat.{ℕ, zero, suc, ◌+◌, ◌-◌, ◌≤◌, ◌<◌, min}
use mathlib.Core.Path.{◌≡◌, refl, ap, sym, ◌∙◌}
use mathlib.Core.Bool.{Bool, true, false, not, cond, ◌&&◌, ◌||◌}
use native.Mathlib.Nat.{le_refl}
use native.Mathlib.Omega.{arith}
use borrow.Author.Tests.{le-leb}
use native.Mathlib.Decide.{dec_le}
use lib.Dec.{leb}
use lib.IntN.{ℤ, pos}
use lib.Signed.{le_z}
use Rattle.rules.specs.Words.{last_passing, all_pass}
use Rattle.rules.specs.Limits.{Plan}
use Rattle.rules.specs.Run.{Run, level_given, fits, qualifies, left_granted, begun, decide, coast, decides, given, ended}
use Rattle.rules.specs.Dry.{step, before}
use Rattle.rules.proofs.Tests.{last_is}
use Rattle.rules.proofs.Demand.Record.{position-is}

-- what a cycle of coasts of at most `cap` reads
pub record Alike (cap : ℕ) (P Q : Plan) : Type 0 where
  pub n : P.n ≡ Q.n
  pub levels : P.levels ≡ Q.levels
  pub limit : (i q : ℕ) → i < P.n → q < P.levels → P.limit i q ≡ Q.limit i q
  pub bound : (i q r : ℕ) → q < P.levels → 0 < r → r ≤ cap → i + r ≤ P.n → P.bound i q r ≡ Q.bound i q r

last-alike : (f g : ℕ → Bool) (m : ℕ) → ((x : ℕ) → x < m → f x ≡ g x) → last_passing f m ≡ last_passing g m
unfolding last_passing
last-alike f g zero h = refl
last-alike f g (suc m) h =
    ap (λ (b : Bool). cond b m (last_passing f m)) (h m (le_refl _)) ∙ ap (cond (g m) m) (last-alike f g m (λ x l. h x (omega arith)))

all_alike : (f g : ℕ → Bool) (m : ℕ) → ((x : ℕ) → x < m → f x ≡ g x) → all_pass f m ≡ all_pass g m
unfolding all_pass
all_alike f g zero h = refl
all_alike f g (suc m) h =
    ap (λ (b : Bool). b && f m) (all_alike f g m (λ x l. h x (omega arith))) ∙ ap (λ (b : Bool). all_pass g m && b) (h m (le_refl _))

module _ {cap : ℕ} {P Q : Plan} (A : Alike cap P Q) (some : 0 < P.levels) where
  level-alike : (t i : ℕ) → i < P.n → level_given P t i ≡ level_given Q t i
  unfolding level_given
  level-alike t i l =
      last-alike _ _ P.levels (λ q m. ap (le_z (pos t)) (A.limit i q l m))
      ∙ ap (last_passing (λ q. le_z (pos t) (Q.limit i q))) A.levels

  level-low : (t i : ℕ) → level_given P t i < P.levels
  unfolding level_given
  level-low t i = (last_is (λ q. le_z (pos t) (P.limit i q)) P.levels).below some

  pub fits-alike : (t i : ℕ) → i < P.n → fits P t i ≡ fits Q t i
  unfolding fits
  fits-alike t i l =
      ap (le_z (pos t)) (A.limit i (level_given P t i) l (level-low t i)) ∙ ap (λ (q : ℕ). le_z (pos t) (Q.limit i q)) (level-alike t i l)

  qualifies-alike : (t i q r : ℕ) → q < P.levels → 0 < r → r ≤ cap → i + r ≤ P.n → qualifies P t i q r ≡ qualifies Q t i q r
  unfolding qualifies
  qualifies-alike t i q r m a b c =
      ap (λ (z : ℤ). le_z (pos t) z && (leb P.levels (suc q) || above P)) (A.bound i q r m a b c)
      ∙ ap (λ (x : Bool). le_z (pos t) (Q.bound i q r) && x) (top (dec_le P.levels (suc q)))
    where
      above : Plan → Bool
      above R = all_pass (λ j. not (le_z (pos t) (R.limit (i + j) (suc q)))) r

      top : Dec (P.levels ≤ suc q) → (leb P.levels (suc q) || above P) ≡ (leb Q.levels (suc q) || above Q)
      top (yes h) =
          ap (λ (x : Bool). x || above P) (le-leb P.levels (suc q) h)
          ∙ sym (ap (λ (x : Bool). x || above Q) (le-leb Q.levels (suc q) (omega (arith, A.levels))))
      top (no h) =
          ap (λ (L : ℕ). leb L (suc q) || above P) A.levels
          ∙ ap (λ (x : Bool). leb Q.levels (suc q) || x)
          (all_alike _ _ r (λ j l. ap (λ (z : ℤ). not (le_z (pos t) z)) (A.limit (i + j) (suc q) (omega arith) (omega arith))))

  left-alike : (t i q : ℕ) → q < P.levels → left_granted cap P t i q ≡ left_granted cap Q t i q
  unfolding left_granted
  left-alike t i q m =
      last-alike _ _ (min cap (P.n - i)) (λ x l. qualifies-alike t i q (suc x) m (omega arith) (omega arith) (omega arith))
      ∙ ap (λ (n : ℕ). last_passing (λ x. qualifies Q t i q (suc x)) (min cap (n - i))) A.n

  decide-alike : (r : Run) → r.position < P.n → decide cap P r ≡ decide cap Q r
  decide-alike r l =
      ap (λ (x : ℕ). made (level_given P c i) x (fits P c i)) (left-alike c i (level_given P c i) (level-low c i))
      ∙ ap (λ (q : ℕ). made q (left_granted cap Q c i q) (fits P c i)) (level-alike c i l)
      ∙ ap (made (level_given Q c i) (left_granted cap Q c i (level_given Q c i))) (fits-alike c i l)
    where
      c : ℕ
      c = r.clock

      i : ℕ
      i = r.position

      made : ℕ → ℕ → Bool → Run
      made q x f = record {
        n = r.n;
        levels = r.levels;
        position = r.position;
        clock = r.clock;
        running = true;
        level = q;
        left = x;
        decisions = suc r.decisions;
        overrun = r.overrun;
        late = r.late || not f;
      }

  pub given-alike : (r : Run) → r.position < P.n → given cap P r ≡ given cap Q r
  unfolding given
  given-alike r l = ap (λ (s : Run). cond (decides r) s (coast r)) (decide-alike r l)

  given-low : (r : Run) → r.level < P.levels → (given cap P r).level < P.levels
  unfolding given
  given-low r h = by (decides r)
    where
      by : (b : Bool) → (cond b (decide cap P r) (coast r)).level < P.levels
      by true = level-low r.clock r.position
      by false = h

  module _ (w v d : ℕ → ℕ → ℕ) (worst : (i q : ℕ) → i < P.n → q < P.levels → w i q ≡ v i q) (t : ℕ) where
    level_at : (i : ℕ) → (before cap P w d t i).level < P.levels
    unfolding before begun step ended
    level_at zero = some
    level_at (suc i) = given-low (before cap P w d t i) (level_at i)

    step-alike : (r : Run) → r.position < P.n → r.level < P.levels → step cap P w d r ≡ step cap Q v d r
    unfolding step
    step-alike r l m =
        ap (λ (x : ℕ). ended x (r.clock + d r.position (given cap P r).level) (given cap P r)) (worst r.position (given cap P r).level l (given-low r m))
        ∙ ap (λ (s : Run). ended (v r.position s.level) (r.clock + d r.position s.level) s) (given-alike r l)

    -- the records of the two cycles
    pub before-alike : (i : ℕ) → i ≤ P.n → before cap P w d t i ≡ before cap Q v d t i
    unfolding before
    before-alike zero l = ap (λ (n : ℕ). begun n P.levels t) A.n ∙ ap (λ (L : ℕ). begun Q.n L t) A.levels
    before-alike (suc i) l =
        step-alike (before cap P w d t i) (omega (arith, position-is cap P w d t i)) (level_at i)
        ∙ ap (step cap Q v d) (before-alike i (omega arith))
