-- No frame of an accepted image is longer than the buffer.
use Rattle.std.proofs.Common.{ℕ, ◌≤◌, ◌≡◌, List, [], ◌∷◌, arith}
use mathlib.Core.Path.{refl}
use mathlib.Core.Logic.{⊎_elim}
use Rattle.rules.specs.Numbers.{refused_trace, refused_room, refused_policy}
use Rattle.rules.specs.Image.{profile}
use Rattle.rules.specs.Limits.{LentTables}
use Rattle.rules.specs.Refusals.{Ground, ◌when◌, Tight, UnknownPolicy}
use Rattle.rules.specs.Recording.{frame_bytes, NotFrames}
use Rattle.rules.proofs.Refusals.{Sound, accepted_parts}
use Rattle.planner.specs.Planning.{plan_rooms}
use Rattle.recording.specs.declared.Opened.{Opened}
use Rattle.recording.specs.Recording.{Opens}
use Rattle.print.proofs.Plans.{few}
use Rattle.rehearsal.proofs.rehearse.Goals as goal

module _ {s : List ℕ} {policy bytes : ℕ} {before after : LentTables} {r : Opened} (opens : Opens s policy bytes before after r) (none : r.refusal.number ≡ 0) where
  abbrev own : List Ground
  own =
      refused_policy when UnknownPolicy policy
      ∷ refused_trace when NotFrames (profile s).n (profile s).levels bytes
      ∷ refused_room when Tight (plan_rooms (profile s).n (profile s).levels before)
      ∷ []

  sound : Sound s
  sound = ⊎_elim (λ x. absurd (x.1 none)) (λ x. x.0) (accepted_parts s own r.refusal.number opens.number)

  frame-fits : r.frame_bytes ≤ 2048
  unfolding frame_bytes
  frame-fits = rw (rw none at opens.a_frame) (omega (arith, (few sound).cells))

pub rehearse_frames-requires : goal.rehearse_frames-requires
rehearse_frames-requires g c = frame-fits c.in-Ok.ensures refl
