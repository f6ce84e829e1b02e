-- The fields are tested one by one; the product cannot wrap once the frames are few. Assumes nothing.
use Prim.Native.Nat.{◌*◌, ◌≤◌, ◌<◌}
use mathlib.Core.Path.{◌≡◌, refl, sym, ap, ◌∙◌}
use mathlib.Core.Bool.{Bool, true, false, ◌&&◌}
use borrow.Author.Tests.{le-leb, lt-leb}
use lib.Dec.{leb}
use Rattle.rules.specs.Numbers.{most_actions, most_frames}
use Rattle.rules.specs.Words.{every}
use Rattle.rules.specs.Recording.{Totals, totals_fit}
use Rattle.recording.proofs.in_range.Goals as goal

many : (T : Totals) → most_frames < T.frames → false ≡ totals_fit T
unfolding totals_fit every
many T h = sym (ap (λ (b : Bool). b && (leb T.decisions (most_actions * T.frames) && (leb T.overruns T.frames && (leb T.lates T.frames && true)))) (lt-leb T.frames most_frames h))

three : (a b c : Bool) → (a && b) && c ≡ a && (b && (c && true))
three true true true = refl
three true true false = refl
three true false c = refl
three false b c = refl

few : (T : Totals) → T.frames ≤ most_frames
    → (leb T.decisions (most_actions * T.frames) && leb T.overruns T.frames) && leb T.lates T.frames ≡ totals_fit T
unfolding totals_fit every
few T h =
    three (leb T.decisions (most_actions * T.frames)) (leb T.overruns T.frames) (leb T.lates T.frames)
    ∙ sym (ap (λ (b : Bool). b && (leb T.decisions (most_actions * T.frames) && (leb T.overruns T.frames && (leb T.lates T.frames && true)))) (le-leb T.frames most_frames h))

pub returns-then-totals-gt-MOST_FRAMES : goal.returns-then-totals-gt-MOST_FRAMES
returns-then-totals-gt-MOST_FRAMES c = many _ c.if-totals-gt-MOST_FRAMES.true

pub returns : goal.returns
returns c = few _ c.if-totals-gt-MOST_FRAMES.false
