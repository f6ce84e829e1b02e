-- Writing packs lent tables into a lent image.
use Rattle.std.specs.Prelude.{ℕ, ◌*◌, ◌≡◌, List, [], ◌∷◌, ◌++◌, length, Result, Ok, Err}
use Rattle.rules.specs.Numbers.{most_actions}
use Rattle.rules.specs.Image.{ProfileTables, image_bytes, of_tables, image}
use Rattle.rules.specs.Reasons.{fault_of}
use Rattle.rules.specs.Refusals.{Ground, Refuses, kept, write_call}
use Rattle.rules.specs.declared.blame.Blame.{Blame}
use Rattle.rules.specs.declared.Fault.{Fault}
use Rattle.fields.specs.Fields.{splice}
use Rattle.image_write.specs.declared.Written.{Written}

-- The lengths of the lent tables, each with what n actions at L levels need of it.
abbrev pub table_rooms : ℕ → ℕ → ProfileTables → List (ℕ × ℕ)
table_rooms n L T =
    (length T.masks, n) ∷ (length T.deadlines, n) ∷ (length T.averages, n * L) ∷ (length T.worst, n * L) ∷ []

-- The same with the image, whose length is `room`.
abbrev pub write_rooms : ℕ → ℕ → ProfileTables → ℕ → List (ℕ × ℕ)
write_rooms n L T room = table_rooms n L T ++ ((room, image_bytes n L) ∷ [])

-- The grounds for refusing to write the tables.
abbrev pub writing : ℕ → ℕ → ℕ → ProfileTables → ℕ → List Ground
writing n L cycle T room = write_call (of_tables n L cycle T) (write_rooms n L T room)

-- What writing answers, and what it leaves of the lent image: the tail is kept, and with a refusal all of it.
pub record Writes (n L cycle : ℕ) (T : ProfileTables) (before after : List ℕ) (refusal : Fault) (bytes : ℕ) : Type 0 where
  pub given : Refuses (writing n L cycle T (length before)) refusal
  pub written : after ≡ kept refusal.number (splice before 0 (image (of_tables n L cycle T))) before
  pub count : bytes ≡ kept refusal.number (image_bytes n L) 0

-- What C takes of it: the refusal with no bytes, or no refusal with the bytes.
abbrev pub written : Result ℕ Blame → Written
written (Ok bytes) = record { refusal = record { number = 0; action = most_actions }; bytes = bytes }
written (Err b) = record { refusal = fault_of b; bytes = 0 }
