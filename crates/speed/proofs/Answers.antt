-- What the speed reading answers: a refusal, or the reading by the profile's order; and that its contract settles it. Assumes nothing.
use Prim.Native.Nat.{ℕ, ◌≤◌, ◌<◌}
use mathlib.Core.Path.{◌≡◌, refl, sym, ap, ◌∙◌}
use mathlib.Core.List.{List}
use mathlib.Core.Logic.{◌≢◌, inl, inr}
use native.Mathlib.Nat.{lt_of_not-le}
use native.Mathlib.Decide.{ℕ_discrete}
use native.Mathlib.Omega.{arith}
use lib.Dec.{lit<}
use lib.IntN.{pos, ◌-ℤ◌}
use lib.ListN.{get_or}
use Rattle.rules.specs.Numbers.{most_actions, last_clock}
use Rattle.rules.specs.Image.{due, profile}
use Rattle.rules.specs.Refusals.{First, Refuses, image_checks}
use Rattle.rules.specs.Speed.{reading_by, speed_call}
use Rattle.rules.proofs.Differences.{not-above}
use Rattle.rules.proofs.Refusals.{Sound, first-none, blameless, refuses-one, refuses-stops, refuses-goes_on, image-numbered, accepted_parts}
use Rattle.rules.proofs.Order.OfProfile.{order_settled}
use Rattle.rules.specs.declared.Fault.{Fault}
use Rattle.image_check.specs.declared.Checked.{Checked}
use Rattle.image_check.specs.Checks.{Judged}
use Rattle.std.specs.Prelude.{Ok}
use Rattle.image_fields.proofs.Reading.{has_record}
use Rattle.image_check.proofs.Answers.{accepted-records}
use Rattle.speed_stretch.specs.declared.Reading.{Reading}
use Rattle.speed_stretch.specs.declared.Reading.TheVariants.{Refused}
use Rattle.speed_stretch.specs.declared.Stretch.{Stretch}
use Rattle.speed_stretch.specs.Answer.{gives, refuses, reading_of}
use Rattle.speed_stretch.specs.Stretch.{StretchOf}
use Rattle.speed_stretch.proofs.Answers.{reading-one}
use Rattle.speed_stretch.proofs.Stretches.{reading-is}
use Rattle.speed.specs.Speed.{ReadsSpeed, own_checks, listed, Readable}
use Rattle.speed.proofs.Alike.{same-actions, reading-same}

-- ---- the call's own refusals

-- with neither 18 nor 13 the positions, the level and the clock are in range
pub record InRange (n levels i k q t : ℕ) : Type 0 where
  pub ordered : i ≤ k
  pub position : k < n
  pub level : q < levels
  pub clock : t ≤ last_clock

pub in_range : (n levels i k q t : ℕ) → First (own_checks n levels i k q t) 0 → InRange n levels i k q t
in_range n levels i k q t none =
    let (not-reading, (not-clock, _)) = (first-none (own_checks n levels i k q t) (lit< tt, (lit< tt, tt))).0 none in
    record {
      ordered = not-above (λ l. not-reading (inl l));
      position = lt_of_not-le (λ l. not-reading (inr (inl l)));
      level = lt_of_not-le (λ l. not-reading (inr (inr l)));
      clock = not-above not-clock;
    }

-- with no refusal the image is sound too
pub read-range : (s : List ℕ) (i k q t : ℕ) → First (speed_call s i k q t) 0 → Sound s × InRange (profile s).n (profile s).levels i k q t
read-range s i k q t none = elim (accepted_parts s (own_checks (profile s).n (profile s).levels i k q t) 0 none) [
  | inl x ↦ absurd (x.1 refl)
  | inr x ↦ (x.0, in_range (profile s).n (profile s).levels i k q t x.1)
]

-- ---- a refusal

pub refused-reads : {s : List ℕ} {i k q t : ℕ} {f : Fault} → Refuses (speed_call s i k q t) f → f.number ≢ 0 → ReadsSpeed s i k q t (Refused f)
refused-reads {f = f} p some = record { refusal = f; given = p; refused = λ _. refl; read = λ e. absurd (some e) }

pub image-refused : (s : List ℕ) (i k q t : ℕ) {f : Fault} → Refuses (image_checks s) f → f.number ≢ 0 → ReadsSpeed s i k q t (Refused f)
image-refused s i k q t {f} p some =
    refused-reads (refuses-stops (image_checks s) (own_checks (profile s).n (profile s).levels i k q t) f p some) some

-- ---- an accepted image

module _ {s : List ℕ} {c : Checked} (judged : Judged s (Ok c)) where
  -- 18 and 13 blame no action
  pub own-given : (i k q t m : ℕ) → First (own_checks c.n c.levels i k q t) m
      → Refuses (speed_call s i k q t) (record { number = m; action = most_actions })
  own-given i k q t m p =
      let found = judged.accepted in
      let own = own_checks (profile s).n (profile s).levels i k q t in
      refuses-goes_on (image_checks s) own _ (image-numbered s) judged.given.number
      (blameless own m ((λ a z. z), ((λ a z. z), tt)) (rw (found.n, found.levels) at p))

  module _ {i k q t : ℕ} (own : First (own_checks c.n c.levels i k q t) 0) where
    pub range : InRange c.n c.levels i k q t
    range = in_range c.n c.levels i k q t own

    pub readable : Readable s c.levels c.order i k q
    readable =
        let found = judged.accepted in
        let (o, _, lists) = found.order in
        let records = accepted-records c judged in
        record {
          ordered = range.ordered;
          few = omega (arith, range.position, records.few_actions);
          below = range.level;
          present = λ p l.
              let here : p < (profile s).n = omega (arith, range.position, found.n) in
              has_record _ records (omega (arith, lists p here, o.at_lt p here, found.n));
        }

    -- the stretch's average and margin and the deadline of position k give the reading by the order
    pub read-reads : (x : Stretch) (d : ℕ) (r : Reading) → StretchOf (listed s c.order) i k q x → d ≡ due (profile s) (get_or c.order k 0)
        → reading_of r ≡ gives (reading_by x.average (pos d -ℤ pos x.margin -ℤ pos t)) → ReadsSpeed s i k q t r
    read-reads x d r of e is =
        let found = judged.accepted in
        let (o, the, lists) = found.order in
        let same = same-actions (profile s) (λ p. get_or c.order p 0) o.at k q (λ p l. lists p (omega (arith, range.position, found.n))) in
        record {
          refusal = record { number = 0; action = most_actions };
          given = own-given i k q t 0 own;
          refused = λ some. absurd (some refl);
          read = λ _. (
            o,
            the,
            (rw e at is) ∙ ap gives (reading-is (listed s c.order) i k q x of range.ordered t ∙ reading-same same i t range.ordered),
          );
        }

-- ---- settled

-- The contract settles the answer.
pub reads_settled : {s : List ℕ} {i k q t : ℕ} (r r' : Reading) → ReadsSpeed s i k q t r → ReadsSpeed s i k q t r' → r ≡ r'
reads_settled {s} {i} {k} {q} {t} r r' x y = reading-one r r' (go (ℕ_discrete x.refusal.number 0))
  where
    one : x.refusal ≡ y.refusal
    one = refuses-one (speed_call s i k q t) x.refusal y.refusal x.given y.given

    number : x.refusal.number ≡ y.refusal.number
    number = ap (λ (f : Fault). f.number) one

    go : Dec (x.refusal.number ≡ 0) → reading_of r ≡ reading_of r'
    go (no some) = x.refused some ∙ ap refuses one ∙ sym (y.refused (λ e. some (number ∙ e)))
    go (yes none) =
        let range = (read-range s i k q t (rw none at x.given.number)).1 in
        let (o, the, is) = x.read none in
        let (p, the', is') = y.read (sym number ∙ none) in
        let same = same-actions (profile s) o.at p.at k q (λ j l. order_settled the the' j (omega (arith, range.position))) in
        is ∙ ap gives (reading-same same i t range.ordered) ∙ sym is'
