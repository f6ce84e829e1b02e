-- What reading and lookup answer, and what reading leaves in the lent slices.
use Rattle.std.specs.Prelude.{ℕ, ◌+◌, ◌≡◌, List, [], Result, Ok, Err}
use Rattle.std.specs.Borrow.{Bor}
use Rattle.rules.specs.Numbers.{most_actions}
use Rattle.rules.specs.Words.{tab, rows}
use Rattle.rules.specs.Image.{ProfileTables, profile, record_at, record_bytes}
use Rattle.rules.specs.Refusals.{First, Refuses, kept, image_call, lookup_call}
use Rattle.rules.specs.Reasons.{fault_of}
use Rattle.rules.specs.declared.blame.Blame.{Blame}
use Rattle.rules.specs.declared.Counts.{Counts}
use Rattle.fields.specs.Fields.{splice, part}
use Rattle.image_write.specs.Writing.{table_rooms}
use Rattle.profile.specs.declared.Unpacked.{Unpacked}
use Rattle.profile.specs.declared.Part.{Part}
use Rattle.profile.specs.declared.Place.{Place}

-- ---- reading

-- Reading the image s into the tables T answers r and leaves the tables T': the masks, the deadlines, the averages and the worst times of the
-- profile, each followed by the tail that was there; with a refusal what was there.
pub record ReadsImage (s : List ℕ) (T T' : ProfileTables) (r : Unpacked) : Type 0 where
  pub given : Refuses (image_call s (table_rooms (profile s).n (profile s).levels T)) r.refusal
  pub n : r.n ≡ kept r.refusal.number (profile s).n 0
  pub levels : r.levels ≡ kept r.refusal.number (profile s).levels 0
  pub cycle : r.cycle ≡ kept r.refusal.number (profile s).cycle 0
  pub masks : T'.masks ≡ kept r.refusal.number (splice T.masks 0 (tab (profile s).mask (profile s).n)) T.masks
  pub deadlines : T'.deadlines ≡ kept r.refusal.number (splice T.deadlines 0 (tab (profile s).deadline (profile s).n)) T.deadlines
  pub averages : T'.averages
      ≡ kept r.refusal.number (splice T.averages 0 (rows (profile s).average (profile s).n (profile s).levels)) T.averages
  pub worst : T'.worst ≡ kept r.refusal.number (splice T.worst 0 (rows (profile s).worst (profile s).n (profile s).levels)) T.worst

-- What C takes of it: the refusal with no counts, or no refusal with the counts.
abbrev pub unpacked : Result Counts Blame → Unpacked
unpacked (Ok c) = record { refusal = record { number = 0; action = most_actions }; n = c.n; levels = c.levels; cycle = c.cycle }
unpacked (Err b) = record { refusal = fault_of b; n = 0; levels = 0; cycle = 0 }

-- ---- lookup

-- The record of action a in the image s.
abbrev pub record_of : List ℕ → ℕ → List ℕ
record_of s a = part s (record_at (profile s).levels a) (record_bytes (profile s).levels)

-- Where the record of action a lies in the image s; with a refusal nowhere.
pub record Places (s : List ℕ) (a : ℕ) (r : Place) : Type 0 where
  pub given : Refuses (lookup_call s a) r.refusal
  pub start : r.start ≡ kept r.refusal.number (record_at (profile s).levels a) 0
  pub length : r.length ≡ kept r.refusal.number (record_bytes (profile s).levels) 0

-- What C takes of it: the refusal with no place, or no refusal with the place.
abbrev pub placed : Result Part Blame → Place
placed (Ok p) = record { refusal = record { number = 0; action = most_actions }; start = p.start; length = p.length }
placed (Err b) = record { refusal = fault_of b; start = 0; length = 0 }

-- Looking action a up in the image hands back its record, the part of the image itself from the record's start on; with a refusal an empty part.
pub record LooksUp (image : Bor (List ℕ)) (a : ℕ) (found : Bor (List ℕ)) : Type 0 where
  pub refusal : ℕ
  pub given : First (lookup_call image.now a) refusal
  pub is : found.now ≡ kept refusal (record_of image.now a) []
  pub lies : found.ref_ptr ≡ (image.ref_ptr.0, image.ref_ptr.1 + kept refusal (record_at (profile image.now).levels a) 0)
