-- The encoder's profile: the chain in the listed order, deadlines 0, cycle 320,000, and the times of source document 001, figure 5.
use Rattle.std.specs.Prelude.{ℕ, List, [], ◌∷◌, get_or, replicate}
use Rattle.rules.specs.Words.{rows}
use Rattle.rules.specs.Image.{Profile, ProfileTables, of_tables}

unfoldable pub masks : List ℕ
masks = 0 ∷ 1 ∷ 2 ∷ 4 ∷ 8 ∷ 16 ∷ 32 ∷ 64 ∷ 128 ∷ []

unfoldable pub deadlines : List ℕ
deadlines = replicate 9 0

-- an average and a worst time
abbrev pair : ℕ → ℕ → List ℕ
pair average worst = average ∷ worst ∷ []

-- the same at each level
abbrev alike : ℕ → ℕ → List (List ℕ)
alike average worst = replicate 8 (pair average worst)

-- Motion's, by level
abbrev motion : List (List ℕ)
motion =
    pair 215 1000 ∷
    pair 30000 100000 ∷
    pair 50000 200000 ∷
    pair 95000 350000 ∷
    pair 110000 500000 ∷
    pair 120000 1200000 ∷
    pair 150000 1200000 ∷
    pair 200000 1500000 ∷
    []

-- The average and the worst time, by action, then level.
unfoldable pub times : List (List (List ℕ))
times =
    alike 12000 24000 ∷  -- Grab
    motion ∷
    alike 16000 16000 ∷  -- Transform
    alike 6000 13000 ∷  -- Quantize
    alike 4000 4000 ∷  -- Intra
    alike 5000 50000 ∷  -- Compress
    alike 4000 5000 ∷  -- Inverse quantize
    alike 20000 50000 ∷  -- Inverse transform
    alike 10000 13000 ∷  -- Reconstruct
    []

-- A column of such a table, by action, then level: 0 the averages, 1 the worst times.
unfoldable pub column : List (List (List ℕ)) → ℕ → List ℕ
column table which = rows (λ a q. get_or (get_or (get_or table a []) q []) which 0) 9 8

abbrev pub encoder_tables : ProfileTables
encoder_tables = record { masks = masks; deadlines = deadlines; averages = column times 0; worst = column times 1 }

unfoldable pub encoder : Profile
encoder = of_tables 9 8 320000 encoder_tables
