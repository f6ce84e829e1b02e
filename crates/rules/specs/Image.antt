-- Profile image.
use Rattle.std.specs.Prelude.{ℕ, zero, suc, ◌+◌, ◌*◌, ◌/◌, ◌%◌, ◌^◌, Bool, cond, List, [], ◌∷◌, ◌++◌, eqb, get_or}
use Rattle.rules.specs.Numbers.{first_version, version_worth, actions_worth, levels_worth, cycle_worth, actions_said, levels_said, cycle_said, deadline_worth}
use Rattle.rules.specs.Numbers.{header_bytes, head_bytes, level_bytes, deadline_at, average_at, worst_at}
use Rattle.rules.specs.Words.{cat}

-- ---- a profile

-- n actions, levels 0 to L - 1 and a cycle; by action its predecessor mask and its deadline, by action and level its average and its worst
-- time.
pub record Profile : Type 0 where
  pub n : ℕ
  pub levels : ℕ
  pub cycle : ℕ
  pub mask : ℕ → ℕ
  pub deadline : ℕ → ℕ
  pub average : ℕ → ℕ → ℕ
  pub worst : ℕ → ℕ → ℕ

-- the set s has b: the bit worth 2 ^ b is set
unfoldable pub has : ℕ → ℕ → Bool
has s b = eqb (s / 2 ^ b % 2) 1

-- Deadline 0 stands for the cycle length.
unfoldable pub due : Profile → ℕ → ℕ
due F a = cond (eqb (F.deadline a) 0) F.cycle (F.deadline a)

-- ---- bits, most significant first

-- the number that the w bytes from byte `at` say
abbrev pub be : List ℕ → ℕ → ℕ → ℕ
be s at zero = 0
be s at (suc zero) = get_or s at 0
be s at (suc (suc w)) = be s at (suc w) * 256 + get_or s (at + suc w) 0

-- the w bytes that say the number v
abbrev pub bytes : ℕ → ℕ → List ℕ
bytes zero v = []
bytes (suc zero) v = v % 256 ∷ []
bytes (suc (suc w)) v = v / 256 ^ suc w % 256 ∷ bytes (suc w) v

-- ---- the header, 48 bits: version 4, actions 7, levels 4, cycle 30, spare 3

unfoldable pub header : List ℕ → ℕ
header s = be s 0 header_bytes

unfoldable pub version : List ℕ → ℕ
version s = header s / version_worth

unfoldable pub actions : List ℕ → ℕ
actions s = header s / actions_worth % actions_said

unfoldable pub levels : List ℕ → ℕ
levels s = header s / levels_worth % levels_said

unfoldable pub cycle : List ℕ → ℕ
cycle s = header s / cycle_worth % cycle_said

unfoldable pub header_spare : List ℕ → ℕ
header_spare s = header s % cycle_worth

-- ---- the records: predecessor mask 64, deadline 30, spare 2, then per level from 0: average 24, worst 24

-- the bytes of a record with L levels, and where the record of action a starts
unfoldable pub record_bytes : ℕ → ℕ
record_bytes L = head_bytes + level_bytes * L

unfoldable pub record_at : ℕ → ℕ → ℕ
record_at L a = header_bytes + a * record_bytes L

-- an image has exactly 6 + n (12 + 6 L) bytes
unfoldable pub image_bytes : ℕ → ℕ → ℕ
image_bytes n L = header_bytes + n * record_bytes L

unfoldable pub mask_of : List ℕ → ℕ → ℕ
mask_of s a = be s (record_at (levels s) a) 8

unfoldable pub deadline_of : List ℕ → ℕ → ℕ
deadline_of s a = be s (record_at (levels s) a + deadline_at) 4 / deadline_worth

unfoldable pub spare_of : List ℕ → ℕ → ℕ
spare_of s a = be s (record_at (levels s) a + deadline_at) 4 % deadline_worth

unfoldable pub average_of : List ℕ → ℕ → ℕ → ℕ
average_of s a q = be s (record_at (levels s) a + average_at + level_bytes * q) 3

unfoldable pub worst_of : List ℕ → ℕ → ℕ → ℕ
worst_of s a q = be s (record_at (levels s) a + worst_at + level_bytes * q) 3

-- ---- reading and writing

-- Reading unpacks an image.
unfoldable pub profile : List ℕ → Profile
profile s = record {
  n = actions s;
  levels = levels s;
  cycle = cycle s;
  mask = mask_of s;
  deadline = deadline_of s;
  average = average_of s;
  worst = worst_of s;
}

-- a table of times, by action, then level
abbrev pub time_at : ℕ → List ℕ → ℕ → ℕ → ℕ
time_at L table a q = get_or table (a * L + q) 0

-- The tables of a profile: masks and deadlines by action, averages and worst times by action, then level.
pub record ProfileTables : Type 0 where
  pub masks : List ℕ
  pub deadlines : List ℕ
  pub averages : List ℕ
  pub worst : List ℕ

-- What they say of n actions at L levels.
unfoldable pub of_tables : ℕ → ℕ → ℕ → ProfileTables → Profile
of_tables n L cycle T = record {
  n = n;
  levels = L;
  cycle = cycle;
  mask = λ a. get_or T.masks a 0;
  deadline = λ a. get_or T.deadlines a 0;
  average = time_at L T.averages;
  worst = time_at L T.worst;
}

-- the header's 48 bits of version 1, spare bits zero
unfoldable pub header_of : Profile → ℕ
header_of F = ((first_version * actions_said + F.n) * levels_said + F.levels) * levels_worth + F.cycle * cycle_worth

-- the bytes of a level, and of an action's record, spare bits zero
unfoldable pub level_image : Profile → ℕ → ℕ → List ℕ
level_image F a q = bytes 3 (F.average a q) ++ bytes 3 (F.worst a q)

unfoldable pub record_image : Profile → ℕ → List ℕ
record_image F a = bytes 8 (F.mask a) ++ (bytes 4 (F.deadline a * deadline_worth) ++ cat (level_image F a) F.levels)

-- Writing packs a profile.
unfoldable pub image : Profile → List ℕ
image F = bytes header_bytes (header_of F) ++ cat (record_image F) F.n
