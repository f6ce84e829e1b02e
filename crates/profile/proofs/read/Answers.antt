-- Assumes nothing.
use mathlib.Core.List.{List}
use Prim.Native.Nat.{ℕ}
use Rattle.std.proofs.lemmas.Result.{err_from_is_err_and}
use Rattle.rules.specs.Numbers.{refused_room}
use Rattle.rules.specs.Image.{ProfileTables, profile}
use Rattle.rules.specs.Refusals.{Tight}
use Rattle.rules.specs.Reasons.{fault_of}
use Rattle.rules.specs.declared.blame.Blame.{Blame}
use Rattle.rules.proofs.Reasons.{some_number}
use Rattle.image_check.proofs.Answers.{accepted-records}
use Rattle.image_fields.proofs.Faults.{denied}
use Rattle.image_write.specs.Writing.{table_rooms}
use Rattle.profile.proofs.Answers.{image-refusal, own-refusal, none-refused, found-rooms, refused-reads, accepted-reads}
use Rattle.profile.proofs.read.Goals as goal

-- the call's own ground: a slice is too short by the profile's counts
abbrev Room : List ℕ → ProfileTables → Type 0
Room s T = Tight (table_rooms (profile s).n (profile s).levels T)

pub returns-in_err-n : goal.returns-in_err-n
returns-in_err-n c =
    let x = c.args in
    let T : ProfileTables = record { masks = x.masks.now; deadlines = x.deadlines.now; averages = x.averages.now; worst = x.worst.now } in
    let p = err_from_is_err_and c.from_residual.result c.from_residual.ensures.1 in
    let blame : Blame = c.in_err-n.field-0.0 in
    rw (p.1, p.2)
    (refused-reads blame (image-refusal x.image.now refused_room (Room x.image.now T) (fault_of blame) c.in_err-n.ensures.given (some_number blame.reason)))

pub returns-then-tight : goal.returns-then-tight
returns-then-tight c =
    let x = c.args in
    let T : ProfileTables = record { masks = x.masks.now; deadlines = x.deadlines.now; averages = x.averages.now; worst = x.worst.now } in
    let judged = c.in_ok-n.ensures in
    let short = (found-rooms T judged.accepted).0 (c.tight.ensures.0 c.if-tight.true) in
    refused-reads c.from.result (rw (c.from.ensures.0, c.from.ensures.1) (own-refusal x.image.now refused_room (Room x.image.now T) judged.given.number short))

pub unpack-requires-clause-has_records : goal.unpack-requires-clause-has_records
unpack-requires-clause-has_records c = accepted-records _ c.in_ok-n.ensures

pub returns : goal.returns
returns c =
    let x = c.args in
    let T : ProfileTables = record { masks = x.masks.now; deadlines = x.deadlines.now; averages = x.averages.now; worst = x.worst.now } in
    let judged = c.in_ok-n.ensures in
    let f = judged.accepted in
    let done = c.unpack.ensures in
    accepted-reads (none-refused x.image.now refused_room (Room x.image.now T) judged.given (λ h. denied c.tight.ensures c.if-tight.false ((found-rooms T f).1 h))) f.n f.levels f.cycle
    done.masks_after done.deadlines_after done.averages_after done.worst_after
