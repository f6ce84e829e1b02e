-- Two Results that satisfy a call's contract on one input are equal, and so is what they leave in what is lent. Assumes nothing.
use Prim.Native.Nat.{ℕ}
use mathlib.Core.Path.{◌≡◌, refl, sym, ◌∙◌}
use mathlib.Core.List.{List}
use Rattle.std.specs.Prelude.{Result, ℤ, pos}
use Rattle.rules.specs.Image.{ProfileTables}
use Rattle.rules.specs.Limits.{LentTables}
use Rattle.rules.specs.Repeat.{LentBody}
use Rattle.rules.specs.Refusals.{Ground, First, Refuses, kept}
use Rattle.rules.specs.Reasons.{number, fault}
use Rattle.rules.specs.declared.Reason.{Reason}
use Rattle.rules.specs.declared.blame.Blame.{Blame}
use Rattle.rules.specs.declared.Body.{Body}
use Rattle.rules.specs.declared.Counts.{Counts}
use Rattle.rules.specs.declared.Fault.{Fault}
use Rattle.rules.proofs.Refusals.{first_one, refuses-one}
use Rattle.image_write.specs.Writing.{Writes, written}
use Rattle.profile.specs.Calls.{ReadsImage, unpacked, Places, placed}
use Rattle.profile.specs.declared.Part.{Part}
use Rattle.profile.proofs.Settled.{reads-one, place-one, written_one}
use Rattle.planner.specs.Planning.{Plans, planned}
use Rattle.planner.proofs.Settled.{plan_settled, kept-one}
use Rattle.run.specs.Dry.{DryLists, Dries, dried}
use Rattle.run.specs.declared.dry.Dry.{Dry}
use Rattle.run.proofs.dry.Drying.{lists-one, dried_one}
use Rattle.dry_frame.specs.Frame.{FrameLists, Frames, framed}
use Rattle.dry_frame.specs.declared.Frame.{Frame}
use Rattle.dry_frame.proofs.Settled as frame
use Rattle.recording.specs.Recording.{Opens, opened, totals_of, Rehearses, counted}
use Rattle.recording.specs.declared.Recording.{Recording}
use Rattle.recording.specs.declared.Rehearsed.{Rehearsed}
use Rattle.recording.specs.declared.Totals.{Totals}
use Rattle.recording.proofs.Settled.{open_settled, rehearse_settled}
use Rattle.repeat_limits.specs.Limits.{LimitAnswers, BoundAnswers, limited}
use Rattle.repeat_limits.specs.declared.Limited.{Limited}
use Rattle.repeat_planner.specs.PlanningBody.{PlansBody, body_planned}
use Rattle.repeat_planner.proofs.Settled.{plans_settled}
use Rattle.repeat_frame.specs.BodyFrame.{BodyFrames, body_framed}
use Rattle.repeat_frame.specs.declared.BodyFrame.{BodyFrame}
use Rattle.repeat_frame.proofs.Settled as body
use Rattle.refresh.specs.Refresh.{Refreshes, written_bytes}
use Rattle.refresh.specs.declared.Refreshed.{Refreshed}
use Rattle.refresh.proofs.Answers.{refreshes_one}
use Rattle.result_laws.proofs.Told.{number_tells, fault_tells, written_tells, unpacked_tells, placed_tells, planned_tells, dried_tells, framed_tells, opened_tells, counted_tells, limited_tells, body_planned_tells, body_framed_tells, refreshed_tells}

-- ---- calls that answer a refusal or nothing, as a check and a lookup's refusal

pub refusal_one : (row : List Ground) (r t : Result (Unit {0}) Reason) → First row (number r) → First row (number t) → r ≡ t
refusal_one row r t x y = number_tells r t (first_one row (number r) (number t) x y)

pub check_one : (row : List Ground) (r t : Result (Unit {0}) Blame) → Refuses row (fault r) → Refuses row (fault t) → r ≡ t
check_one row r t x y = fault_tells r t (refuses-one row (fault r) (fault t) x y)

-- ---- the profile image

pub read_one : {s : List ℕ} {T T' T'' : ProfileTables} (r t : Result Counts Blame) → ReadsImage s T T' (unpacked r) → ReadsImage s T T'' (unpacked t)
    → (r ≡ t) × (T'.masks ≡ T''.masks) × (T'.deadlines ≡ T''.deadlines) × (T'.averages ≡ T''.averages) × (T'.worst ≡ T''.worst)
read_one r t x y =
    let (e, masks, deadlines, averages, worst) = reads-one x y in
    (unpacked_tells r t e, masks, deadlines, averages, worst)

pub place_one : {s : List ℕ} {a : ℕ} (r t : Result Part Blame) → Places s a (placed r) → Places s a (placed t) → r ≡ t
place_one r t x y = placed_tells r t (place-one x y)

pub write_one : {n L cycle : ℕ} {T : ProfileTables} {before after after' : List ℕ} (r t : Result ℕ Blame)
    → Writes n L cycle T before after (written r).refusal (written r).bytes
    → Writes n L cycle T before after' (written t).refusal (written t).bytes → (r ≡ t) × (after ≡ after')
write_one r t x y =
    let (e, left) = written_one {r = written r} {t = written t} x y in
    (written_tells r t e, left)

-- ---- planning, a cycle and a frame run dry

pub plan_one : {s : List ℕ} {policy : ℕ} {before after after' : LentTables} (r t : Result Counts Blame)
    → Plans s policy before after (planned r) → Plans s policy before after' (planned t) → (r ≡ t) × (after ≡ after')
plan_one r t x y =
    let (e, left) = plan_settled x y in
    (planned_tells r t e, left)

pub dry_one : {n L : ℕ} {T : LentTables} {durations : List ℕ} {before after after' : DryLists} (r t : Result Dry Reason)
    → Dries n L T durations before after (dried r) → Dries n L T durations before after' (dried t) → (r ≡ t) × (after ≡ after')
dry_one r t x y = (dried_tells r t (dried_one x y), lists-one x y)

pub frame_one : {s : List ℕ} {policy : ℕ} {durations : List ℕ} {before after after' : FrameLists} (r t : Result Frame Blame)
    → Frames s policy durations before after (framed r) → Frames s policy durations before after' (framed t) → (r ≡ t) × (after ≡ after')
frame_one r t x y =
    let (e, left) = frame.frame_settled x y in
    (framed_tells r t e, left)

-- ---- a recording

pub open_one : {s : List ℕ} {policy bytes : ℕ} {before after after' : LentTables} (r t : Result Recording Blame)
    → Opens s policy bytes before after (opened r) → Opens s policy bytes before after' (opened t) → (r ≡ t) × (after ≡ after')
open_one r t x y =
    let (e, left) = open_settled x y in
    (opened_tells r t e, left)

pub rehearse_one : {n L : ℕ} {T : LentTables} {frame : List ℕ} (before : Totals) (r t : Result Rehearsed Reason)
    → Rehearses n L T frame (totals_of before) (counted before r) → Rehearses n L T frame (totals_of before) (counted before t) → r ≡ t
rehearse_one before r t x y = counted_tells before r t (rehearse_settled x y)

-- ---- a body repeated

-- answers of one number, with one limit where it is none of a refusal
limits_one : (x y : Limited) (limit : ℤ) → x.refusal.number ≡ y.refusal.number → x.limit ≡ kept x.refusal.number limit (pos 0)
    → y.limit ≡ kept y.refusal.number limit (pos 0) → x ≡ y
limits_one x y limit e f g = made e (kept-one _ _ limit limit (pos 0) e (λ _. refl) f g)
  where
    made : {k m : ℕ} {u v : ℤ} → k ≡ m → u ≡ v
        → ◌≡◌ {A = Limited} (record { refusal = record { number = k }; limit = u }) (record { refusal = record { number = m }; limit = v })
    made p q = cc

pub limit_one : {b : Body} {summaries : List ℕ} {i q : ℕ} (r t : Result ℤ Reason)
    → LimitAnswers b summaries i q (limited r) → LimitAnswers b summaries i q (limited t) → r ≡ t
limit_one r t x y = limited_tells r t (limits_one (limited r) (limited t) _ (x.number ∙ sym y.number) x.limit_is y.limit_is)

pub bound_one : {b : Body} {lent : LentBody} {i q length : ℕ} (r t : Result ℤ Reason)
    → BoundAnswers b lent i q length (limited r) → BoundAnswers b lent i q length (limited t) → r ≡ t
bound_one r t x y = limited_tells r t (limits_one (limited r) (limited t) _ (x.number ∙ sym y.number) x.bound_is y.bound_is)

pub plan_body_one : {s : List ℕ} {N policy : ℕ} {before after after' : LentBody} (r t : Result Body Blame)
    → PlansBody s N policy before after (body_planned r) → PlansBody s N policy before after' (body_planned t) → (r ≡ t) × (after ≡ after')
plan_body_one r t x y =
    let (e, left) = plans_settled x y in
    (body_planned_tells r t e, left)

pub body_frame_one : {s : List ℕ} {N policy : ℕ} {durations : List ℕ} {before after after' : FrameLists} (r t : Result BodyFrame Blame)
    → BodyFrames s N policy durations before after (body_framed r) → BodyFrames s N policy durations before after' (body_framed t)
    → (r ≡ t) × (after ≡ after')
body_frame_one r t x y =
    let (e, left) = body.frame_settled x y in
    (body_framed_tells r t e, left)

-- ---- a refresh

pub refresh_one : {s trace before after after' : List ℕ} (r t : Result ℕ Blame) → Refreshes s trace before after (fault r) (written_bytes r)
    → Refreshes s trace before after' (fault t) (written_bytes t) → (r ≡ t) × (after ≡ after')
refresh_one r t x y =
    let (refusal, bytes, left) = refreshes_one x y in
    (refreshed_tells r t (made_one refusal bytes), left)
  where
    made_one : {f g : Fault} {m n : ℕ} → f ≡ g → m ≡ n → ◌≡◌ {A = Refreshed} (record { refusal = f; bytes = m }) (record { refusal = g; bytes = n })
    made_one p q = cc
