-- What the steps of Essentials hold: the word of each prime, the columns that one word alone has, and the primes that have such a column.
-- Assumes nothing.
use Rattle.std.specs.Prelude.{◌≡◌, ℕ, ◌<◌, false, cond, Bool, List, eqb, leb, length, get_or}
use Rattle.numbers.specs.Below.{those}
use Rattle.cube.specs.Words.{prime}
use Rattle.matrix.specs.Sets.{has, Meeting}
use Rattle.chart_arrays.specs.Columns.{columns_of}

-- the word of cube q: the columns of a prime, none for another cube
abbrev pub prime_word : ℕ → List ℕ → ℕ → ℕ
prime_word n t q = cond (prime n t q) (columns_of n t q) 0

-- how many of the first m words have column c: the entries of the column
abbrev pub entries : List ℕ → ℕ → ℕ → ℕ
entries words m c = length (those m (λ q. has (get_or words q 0) c))

-- once and twice hold the columns that at least one, and at least two, of the first m words have
pub record Seen (words : List ℕ) (m once twice : ℕ) : Type 0 where
  pub one : (c : ℕ) → has once c ≡ leb 1 (entries words m c)
  pub two : (c : ℕ) → has twice c ≡ leb 2 (entries words m c)

-- the columns that one of the first m words alone has
abbrev pub SoleColumns : List ℕ → ℕ → ℕ → Type 0
SoleColumns words m sole = (c : ℕ) → has sole c ≡ eqb (entries words m c) 1

-- the marks of the first m words: a word is marked if it has one of the columns `sole`
abbrev pub HolderMarks : List ℕ → ℕ → List Bool → ℕ → Type 0
HolderMarks words sole marks m = (q : ℕ) → q < m → Meeting (get_or words q 0) sole (get_or marks q false)
