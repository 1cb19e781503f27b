-- What the steps of Write ask for. Assumes nothing.
use Rattle.std.specs.Prelude.{List, ℕ, ◌≤◌, length}
use Rattle.cube.specs.Calls.{widest, most_rows}
use Rattle.listfile.specs.File.{one_byte_count, file_length}

-- a width and a list that are not refused, and a buffer with room for their file
pub record Writable (n : ℕ) (vs out : List ℕ) : Type 0 where
  pub width : n ≤ widest
  pub few : length vs ≤ most_rows
  pub room : file_length one_byte_count (length vs) ≤ length out
