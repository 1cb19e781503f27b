-- Document 000 (McCluskey 1956) in its own words: binary characters and how they combine (section 3), the prime implicant table (section 4) and
-- d-terms (section 10). Then the theorems that its p-terms and d-terms are document 01's wanted and free codes, its prime implicants and single
-- asterisk rows the primes and essentials, its rows with a cross the primes that are reported, and its basis rows the rows of the shortest lists.
-- A binary character of n positions is a cube number, below 3^n, and digit k is at the position of weight 2^k.
-- `McCluskey`, `Removal` and `Basis` of `proofs/` prove the theorems. Assumes nothing.
use Rattle.std.specs.Prelude.{◌≡◌, ◌↔◌, Bool, false, not, ◌||◌, List, map, ℕ, ◌+◌, ◌^◌, ◌/◌, ◌%◌, ◌<◌, ◌≤◌, T, eqb, length}
use Rattle.numbers.specs.Below.{flag, count, among, EachOnce}
use Rattle.cube.specs.Words.{on_set, off_set, dont_care, Cover, cover_literals, digit, cube_matches, row_of, number_of, implicant, prime, essential, primes_of, essentials_of, serving_primes_of}
use Rattle.cube.specs.Calls.{bad_cell}
use Rattle.cube.specs.Minimum.{Minimum, FewestTerms}

-- ---- section 3: prime implicants

-- "using the symbols 0, 1 and - instead of primed and unprimed variables": the dash is digit 2
abbrev pub dash : ℕ
dash = 2

-- "list in a column [..] the binary equivalents of the decimal numbers which specify the function": q is the binary equivalent of c
pub record BinaryEquivalent (n c q : ℕ) : Type 0 where
  pub row : c < 2 ^ n
  pub below : q < 3 ^ n
  pub digits : (k : ℕ) → k < n → digit k q ≡ c / 2 ^ k % 2

-- section 10: "These d-terms should be included in the list of p-terms which are used to form the prime implicants.": all but the barred codes;
-- `Terms` below says that these are the p-terms with the d-terms
abbrev pub is_term : List ℕ → ℕ → Bool
is_term t c = not (off_set t c)

-- "identical in all positions except one"
abbrev pub IdenticalExcept : ℕ → ℕ → ℕ → ℕ → Type 0
IdenticalExcept n position a b = (k : ℕ) → k < n → (k ≡ position → ⊥) → digit k a ≡ digit k b

-- "the two characters can be replaced by a single character": a and b by r
pub record Combination (n a b r : ℕ) : Type 0 where
  -- "If two binary characters are identical in all positions except one,"
  pub position : ℕ
  pub inside : position < n
  pub identical : IdenticalExcept n position a b
  pub differ : digit position a ≡ digit position b → ⊥
  -- "and if neither character has a dash in the position in which they differ,"
  pub first_undashed : digit position a ≡ dash → ⊥
  pub second_undashed : digit position b ≡ dash → ⊥
  -- "a single character which has a dash in the position in which the original characters differ"
  pub below : r < 3 ^ n
  pub dashed : digit position r ≡ dash
  -- "and which is identical with the original characters in all other positions."
  pub others : IdenticalExcept n position r a

-- "This procedure is repeated and new columns are formed, Table II(d), until no further combinations are possible.": a character of any column
pub data Character (n : ℕ) (t : List ℕ) : ℕ → Type 0 where
  p_term : {c q : ℕ} → T (is_term t c) → BinaryEquivalent n c q → Character n t q
  combined : {a b r : ℕ} → Character n t a → Character n t b → Combination n a b r → Character n t r

-- "A check mark is placed next to each number which is used in forming a new character."
pub record CheckMarked (n : ℕ) (t : List ℕ) (q : ℕ) : Type 0 where
  pub other : ℕ
  pub other_character : Character n t other
  pub new : ℕ
  pub combination : Combination n q other new

-- "The unchecked characters, which have not entered into any combinations, represent the prime implicants."
pub record PrimeImplicant (n : ℕ) (t : List ℕ) (q : ℕ) : Type 0 where
  pub character : Character n t q
  pub unchecked : CheckMarked n t q → ⊥

-- ---- section 4: prime implicant tables

-- "Each row of the prime implicant table represents a prime implicant.": `rows` below says that these are the prime implicants
abbrev pub table_rows : ℕ → List ℕ → List ℕ
table_rows n t = primes_of n t

-- "Each column [..] corresponds to a row of the table of combinations for which the transmission is to have the value one."
-- Section 10: "columns corresponding to the d-terms should not be included".
pub record Column (n : ℕ) (t : List ℕ) (c : ℕ) : Type 0 where
  pub row : c < 2 ^ n
  pub one : T (on_set t c)

-- "If a prime implicant equals "one" for a given row of the table of combinations, a cross is placed at the intersection"
abbrev pub cross : ℕ → ℕ → ℕ → Bool
cross n c q = cube_matches n q c

-- "McCluskey's primes after that removal" (document 02): a prime implicant that has a cross in some column
pub record CrossedRow (n : ℕ) (t : List ℕ) (q : ℕ) : Type 0 where
  pub row : PrimeImplicant n t q
  pub column : ℕ
  pub is_column : Column n t column
  pub entry : T (cross n column q)

-- "place an asterisk next to each row which contains the sole entry of any column"
pub record SingleAsterisk (n : ℕ) (t : List ℕ) (q : ℕ) : Type 0 where
  pub row : PrimeImplicant n t q
  pub column : ℕ
  pub is_column : Column n t column
  pub entry : T (cross n column q)
  pub sole : (p : ℕ) → PrimeImplicant n t p → T (cross n column p) → p ≡ q

-- how many crosses a column has
abbrev pub crosses : ℕ → List ℕ → ℕ → ℕ
crosses n t c = count (cross n c) (table_rows n t)

-- "selecting [..] rows such that each column has a cross in at least one selected row"
pub record Selection (n : ℕ) (t selected : List ℕ) : Type 0 where
  pub rows : (q : ℕ) → T (among q selected) → PrimeImplicant n t q
  pub columns : (c : ℕ) → Column n t c → (q : ℕ) × T (among q selected) × T (cross n c q)

-- "A minimum sum is determined from the prime implicant table by selecting the fewest rows such that each column has a cross in at least one
-- selected row. The selected rows are called basis rows"
pub record BasisRows (n : ℕ) (t selected : List ℕ) : Type 0 where
  pub selection : Selection n t selected
  pub fewest : (other : List ℕ) → Selection n t other → length selected ≤ length other

-- the sum of the prime implicants of some rows
abbrev pub sum_of : ℕ → List ℕ → Cover
sum_of n selected = map (row_of n) selected

-- ---- documents 000 and 01 agree, whatever the width and the table

-- on the terms of a table that has no cell above 2
pub record Terms (t : List ℕ) : Type 0 where
  -- section 10: "The p-terms which correspond to d-entries in the table of combinations will be called d-terms.": the list is the p-terms of the wanted
  -- codes with the d-terms, which are the free codes
  pub p_terms_and_d_terms : bad_cell t ≡ false → (c : ℕ) → is_term t c ≡ (on_set t c || dont_care t c)
  -- the entry of each row is 0, 1 or d: a code is either barred or wanted or free
  pub one_entry : bad_cell t ≡ false → (c : ℕ) → flag (off_set t c) + flag (on_set t c) + flag (dont_care t c) ≡ 1

-- on prime implicants and essential ones
pub record Agreement (n : ℕ) (t : List ℕ) : Type 0 where
  -- it does not matter which of the two characters is named first
  pub either_first : (a b r : ℕ) → Combination n a b r → Combination n b a r
  -- the characters are the implicants
  pub characters : (q : ℕ) → Character n t q ↔ ((q < 3 ^ n) × T (implicant n t q))
  -- demand 2: "exactly the prime implicants of McCluskey's 1956 paper"
  pub primes : (q : ℕ) → q < 3 ^ n → T (prime n t q) ↔ PrimeImplicant n t q
  -- "and the essential ones exactly his"
  pub essentials : (q : ℕ) → q < 3 ^ n → T (essential n t q) ↔ SingleAsterisk n t q
  -- a row with a cross in a column has the sole entry there exactly when the column has one cross
  pub one_cross : (c q : ℕ) → PrimeImplicant n t q → T (cross n c q) → ((p : ℕ) → PrimeImplicant n t p → T (cross n c p) → p ≡ q) ↔ (crosses n t c ≡ 1)
  -- so the rows of his table are his prime implicants
  pub rows : EachOnce (table_rows n t) (PrimeImplicant n t)
  -- the primes listed are his rows that have a cross in some column, and the essentials listed his single asterisk rows
  pub crossed : EachOnce (serving_primes_of n t) (CrossedRow n t)
  pub single_asterisks : EachOnce (essentials_of n t) (SingleAsterisk n t)

-- ---- his table without the rows that have no cross

-- a single asterisk row of what is left: its cross is the sole entry of that column
pub record SingleAsteriskLeft (n : ℕ) (t : List ℕ) (q : ℕ) : Type 0 where
  pub row : CrossedRow n t q
  pub sole : (p : ℕ) → CrossedRow n t p → T (cross n row.column p) → p ≡ q

-- a selection of rows that are left
pub record SelectionLeft (n : ℕ) (t selected : List ℕ) : Type 0 where
  pub selection : Selection n t selected
  pub left : (q : ℕ) → T (among q selected) → CrossedRow n t q

-- basis rows of what is left
pub record BasisRowsLeft (n : ℕ) (t selected : List ℕ) : Type 0 where
  pub selection : SelectionLeft n t selected
  pub fewest : (other : List ℕ) → SelectionLeft n t other → length selected ≤ length other

-- the removal changes neither his single asterisk rows nor his basis rows
pub record Removal (n : ℕ) (t : List ℕ) : Type 0 where
  -- the rows that are not listed are those that have no cross
  pub no_cross : (q : ℕ) → PrimeImplicant n t q → (count (eqb q) (serving_primes_of n t) ≡ 0) ↔ ((c : ℕ) → Column n t c → T (cross n c q) → ⊥)
  -- those of his table are those of what is left
  pub single_asterisks : (q : ℕ) → SingleAsterisk n t q ↔ SingleAsteriskLeft n t q
  pub basis_rows : (selected : List ℕ) → BasisRows n t selected ↔ BasisRowsLeft n t selected

-- ---- documents 000 and 01 on the shortest lists

-- basis rows belong to the shortest lists
pub record Basis (n : ℕ) (t : List ℕ) : Type 0 where
  -- "If any column has only one entry, the row in which this entry occurs must be a basis row.": each essential prime is among them
  pub sole_entries : (selected : List ℕ) → BasisRows n t selected → (q : ℕ) → SingleAsterisk n t q → T (among q selected)
  -- "the prime implicants corresponding to the basis rows are the ms-terms": the rows of every shortest list are basis rows
  pub ms_terms : (list : Cover) → Minimum n t list → BasisRows n t (map (number_of n) list)
  -- all basis rows give a sum with the fewest terms, whether the terms of the others are prime implicants or not
  pub fewest_terms : (selected : List ℕ) → BasisRows n t selected → FewestTerms n t (sum_of n selected)
  -- and those with the fewest literals give the shortest lists
  pub minimum_sums : (selected : List ℕ) → BasisRows n t selected
      → Minimum n t (sum_of n selected) ↔ ((other : List ℕ) → BasisRows n t other → cover_literals n (sum_of n selected) ≤ cover_literals n (sum_of n other))
