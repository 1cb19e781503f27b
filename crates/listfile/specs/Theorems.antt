-- The list file by positions, for two arrays of one length; and that Write and Read undo each other, stated of any two calls that keep their promises.
-- `proofs/Theorems.antt` and `proofs/RoundTrips.antt` prove it. Assumes nothing.
use Rattle.std.specs.Prelude.{◌≡◌, Result, Ok, List, ℕ, ◌+◌, ◌<◌, ◌≤◌, length, take, get_or}
use Rattle.cube.specs.declared.Refusal.{Refusal}
use Rattle.listfile.specs.File.{one_byte_count, file_length, file_of}
use Rattle.listfile.specs.Write.{Writes}
use Rattle.listfile.specs.Read.{Reads}
use Rattle.listfile.specs.declared.Header.{Header}

-- what each byte of the file holds
pub record Layout (n : ℕ) (vs ws : List ℕ) (equal : length vs ≡ length ws) : Type 0 where
  -- "Byte 0 width"
  pub width : get_or (file_of one_byte_count n vs ws) 0 0 ≡ n
  -- "byte 1 row count"
  pub rows : get_or (file_of one_byte_count n vs ws) 1 0 ≡ length vs
  -- "The values go into the buffer from byte 2,"
  pub values : (i : ℕ) → i < length vs → get_or (file_of one_byte_count n vs ws) (2 + i) 0 ≡ get_or vs i 0
  -- "the cares right behind them."
  pub cares : (i : ℕ) → i < length vs → get_or (file_of one_byte_count n vs ws) (2 + length vs + i) 0 ≡ get_or ws i 0
  -- "The answer is 2 + 2 × rows."
  pub answer : length (file_of one_byte_count n vs ws) ≡ file_length one_byte_count (length vs)

-- the list's width and count are answered, and its rows are in the first places
pub record ComesBack (n : ℕ) (vs ws values' cares' : List ℕ) (r : Result Header Refusal) : Type 0 where
  pub answer : r ≡ Ok (record { width = n; count = length vs })
  pub values : take (length vs) values' ≡ vs
  pub cares : take (length vs) cares' ≡ ws

-- "Written lists come back unchanged": where Write answers a count, Read of that many bytes gives the list, in any two arrays with a place for each row
abbrev pub WrittenComesBack : Type 0
WrittenComesBack =
    (n : ℕ) (vs ws out out' : List ℕ) (bytes : ℕ) → Writes one_byte_count n vs ws out out' (Ok bytes)
    → (values cares values' cares' : List ℕ) (r : Result Header Refusal) → length vs ≤ length values → length vs ≤ length cares
    → Reads one_byte_count (take bytes out') values cares values' cares' r → ComesBack n vs ws values' cares' r

-- the file's length is answered, and its bytes are in the first places
pub record SameBytes (file out' : List ℕ) (r : Result ℕ Refusal) : Type 0 where
  pub answer : r ≡ Ok (length file)
  pub bytes : take (length file) out' ≡ file

-- "a file that is read and written again has the same bytes": where Read answers a width and a count, Write of that width and of the first places, as many as
-- the count, gives the file, in any buffer with room for it
abbrev pub ReadIsWrittenAgain : Type 0
ReadIsWrittenAgain =
    (file values cares values' cares' : List ℕ) (n count : ℕ) → Reads one_byte_count file values cares values' cares' (Ok (record { width = n; count = count }))
    → (out out' : List ℕ) (r : Result ℕ Refusal) → length file ≤ length out
    → Writes one_byte_count n (take count values') (take count cares') out out' r → SameBytes file out' r
