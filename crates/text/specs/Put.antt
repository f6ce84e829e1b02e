-- Text put into a buffer, after the bytes that are counted already.
use Rattle.std.specs.Prelude.{ℕ, ◌+◌, min, ◌≡◌, List, length, take}
use Rattle.io.specs.Counts.{IsPrefixLen}
use Rattle.fields.specs.Fields.{splice}

-- The buffer `out` has the text from index at on, and r bytes are counted then. The text is cut at the buffer's end: what does not fit is left
-- out. What the text does not reach stays. That r counts bytes of the buffer follows; a caller that lends them asks for it.
pub record Puts (out : List ℕ) (at : ℕ) (text out' : List ℕ) (r : ℕ) : Type 0 where
  pub written : out' ≡ take (length out) (splice out at text)
  pub count : r ≡ min (at + length text) (length out)
  pub counts : IsPrefixLen r out'
