-- Writing to a list and reading a part of it.
use Rattle.std.specs.Prelude.{ℕ, ◌+◌, List, ◌++◌, length, take, drop}

-- l with vs written from index at; what stands before and after stays
unfoldable pub splice : {A : Type 0} → List A → ℕ → List A → List A
splice l at vs = take at l ++ (vs ++ drop (at + length vs) l)

-- the elements of l from index at, as many as `size`
abbrev pub part : {A : Type 0} → List A → ℕ → ℕ → List A
part l at size = take size (drop at l)
