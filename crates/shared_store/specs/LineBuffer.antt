-- What a line buffer holds.
use Rattle.std.specs.Prelude.{◌≡◌, ◌≤◌, ◌<◌, ℕ, List, length, take, true, false}
use Rattle.shared_store.specs.declared.line.LineBuffer.{LineBuffer}

-- the buffer holds the line: its first 1,024 bytes, and whether there are more
pub record HoldsLine (buffer : LineBuffer) (line : List ℕ) : Type 0 where
  pub kept : buffer.kept.items ≡ take 1024 line
  pub short : length line ≤ 1024 → buffer.is_long ≡ false
  pub long : 1024 < length line → buffer.is_long ≡ true
