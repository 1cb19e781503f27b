-- Demand 3: which lists are shortest; the minimum sums of document 000, which are the same lists; and how many rows they have. Assumes nothing.
use Rattle.std.specs.Prelude.{◌≡◌, ◌⊎◌, ◌↔◌, false, List, ℕ, ◌-◌, ◌^◌, ◌%◌, ◌<◌, ◌≤◌, T, length}
use Rattle.numbers.specs.Below.{tabulate}
use Rattle.cube.specs.Words.{Cover, ones, each_row, all_formed, implements, cover_literals, number_of, prime}
use Rattle.cube.specs.Calls.{bad_cell}

-- "has at least as many rows. Where it has equally many, it has at least as many tested bits.": no rival with these counts is better
abbrev pub NoBetter : ℕ → ℕ → ℕ → ℕ → Type 0
NoBetter rivalRows rivalBits rows bits = (rows < rivalRows) ⊎ ((rows ≡ rivalRows) × (bits ≤ rivalBits))

-- a shortest list of the table (a minimum cover)
pub record Minimum (n : ℕ) (t : List ℕ) (list : Cover) : Type 0 where
  -- "a list of rows of the table's width"
  pub formed : T (all_formed n list)
  -- "that matches every wanted mark and no barred one"
  pub right : T (implements n t list)
  -- "Every other list of rows of that width that does so, whether its rows are prime or not and in whatever order"
  pub least : (rival : Cover) → T (all_formed n rival) → T (implements n t rival)
      → NoBetter (length rival) (cover_literals n rival) (length list) (cover_literals n list)

-- ---- document 000, section 2

-- "other equivalent sum functions: that is, other sum functions which correspond to the same table of combinations"
pub record EquivalentSum (n : ℕ) (t : List ℕ) (terms : Cover) : Type 0 where
  pub products : T (all_formed n terms)
  pub same_table : T (implements n t terms)

-- "The sum functions which have the fewest terms of all equivalent sum functions"
pub record FewestTerms (n : ℕ) (t : List ℕ) (terms : Cover) : Type 0 where
  pub equivalent : EquivalentSum n t terms
  pub fewest : (other : Cover) → EquivalentSum n t other → length terms ≤ length other

-- "only those functions which involve the fewest literals will be called minimum sums"
pub record MinimumSum (n : ℕ) (t : List ℕ) (terms : Cover) : Type 0 where
  pub fewest_terms : FewestTerms n t terms
  pub fewest_literals : (other : Cover) → FewestTerms n t other → cover_literals n terms ≤ cover_literals n other

-- ---- what follows

-- for every shortest list of a table, whatever the width and the table
pub record Shortest (n : ℕ) (t : List ℕ) : Type 0 where
  -- any two have the same counts
  pub counts : (a b : Cover) → Minimum n t a → Minimum n t b → (length a ≡ length b) × (cover_literals n a ≡ cover_literals n b)
  -- every row is prime
  pub primes : (a : Cover) → Minimum n t a → T (each_row (λ r. prime n t (number_of n r)) a)
  -- "a shortest list has at most 2^(n−1) rows, since codes can be taken in pairs" (document 02); at width 0, which has one code, at most one
  pub rows : (a : Cover) → Minimum n t a → length a ≤ 2 ^ (n - 1)
  -- the shortest lists are the minimum sums of document 000
  pub sums : (a : Cover) → Minimum n t a ↔ MinimumSum n t a

-- the table whose wanted codes are those with an odd number of ones, all others barred (the parity function)
abbrev pub odd_ones : ℕ → List ℕ
odd_ones n = tabulate (2 ^ n) 0 (λ c. ones n c % 2)

-- No number smaller than 2^(n-1) would do.
pub record Filled (n : ℕ) : Type 0 where
  -- "2^n bytes, one cell per code", and none above 2
  pub cells : length (odd_ones n) ≡ 2 ^ n
  pub good : bad_cell (odd_ones n) ≡ false
  -- at a width from 1 up, no list that is right for it has fewer rows
  pub rows : 1 ≤ n → (list : Cover) → T (all_formed n list) → T (implements n (odd_ones n) list) → 2 ^ (n - 1) ≤ length list
