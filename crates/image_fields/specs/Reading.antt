-- What is read of an image.
use Rattle.std.specs.Prelude.{ℕ, ◌+◌, ◌≤◌, ◌<◌, ◌≡◌, List, length, get_or}
use Rattle.rules.specs.Numbers.{most_actions, most_levels}
use Rattle.rules.specs.Image.{version, actions, levels, cycle, header_spare, record_bytes, record_at, image_bytes, mask_of, deadline_of, worst_of}
use Rattle.image_fields.specs.declared.Header.{Header}

-- r has the fields of the header of s
pub record HeaderOf (s : List ℕ) (r : Header) : Type 0 where
  pub version : r.version ≡ version s
  pub n : r.n ≡ actions s
  pub levels : r.levels ≡ levels s
  pub cycle : r.cycle ≡ cycle s
  pub spare : r.spare ≡ header_spare s

-- s has the record of action a, with L levels
pub record HasRecord (s : List ℕ) (L a : ℕ) : Type 0 where
  pub said : L ≡ levels s
  pub few_levels : L ≤ most_levels
  pub few_actions : a < most_actions
  pub within : record_at L a + record_bytes L ≤ length s

-- s has the records of n actions with L levels, and nothing after them
pub record HasRecords (s : List ℕ) (L n : ℕ) : Type 0 where
  pub said : L ≡ levels s
  pub some_level : 1 ≤ L
  pub few_levels : L ≤ most_levels
  pub few_actions : n ≤ most_actions
  pub long : length s ≡ image_bytes n L

-- h is the header of s, whose records are there
pub record Opened (s : List ℕ) (h : Header) : Type 0 where
  pub header : HeaderOf s h
  pub records : HasRecords s h.levels h.n

-- the column has f a for each action a below n
pub record Column (f : ℕ → ℕ) (n : ℕ) (column : List ℕ) : Type 0 where
  pub room : n ≤ length column
  pub each : (a : ℕ) → a < n → get_or column a 0 ≡ f a

-- the columns of the first n actions: masks m, deadlines d, level 0 worst times w
pub record Columns (s : List ℕ) (n : ℕ) (m d w : List ℕ) : Type 0 where
  pub masks : Column (mask_of s) n m
  pub deadlines : Column (deadline_of s) n d
  pub worst : Column (λ a. worst_of s a 0) n w
