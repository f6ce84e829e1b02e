-- What is counted of cases: how many agree with their files, of how many.
use Rattle.std.specs.Prelude.{ℕ, ◌+◌, min, Bool, cond}
use Rattle.test_kit.specs.declared.Tally.{Tally}

-- one more; the largest number of 64 bits has none after it
abbrev pub more : ℕ → ℕ
more n = min (n + 1) 18446744073709551615

-- a case more, which agrees or not
abbrev pub counted : Bool → Tally → Tally
counted agrees t = record { agreed = cond agrees (more t.agreed) t.agreed; all = more t.all }
