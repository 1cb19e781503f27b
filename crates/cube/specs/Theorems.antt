-- What is proved about the words, as statements over any width: the position forms, the one-to-one correspondence of rows and cubes, the cube with
-- every digit 2, and what each test of `Words` says as a sentence. Proved, in this order, by `Positions`, `Rows`, `AllTwos` and `Theorems` of
-- `proofs/`. Assumes nothing.
use Rattle.std.specs.Prelude.{◌≡◌, ◌↔◌, List, ℕ, ◌-◌, ◌^◌, ◌/◌, ◌%◌, ◌<◌, ◌≤◌, T, eqb, length}
use Rattle.numbers.specs.Below.{flag, those}
use Rattle.cube.specs.Words.{on_set, off_set, Row, Cover, row_matches, formed, ones, row_literals, cover_matches, implements, fits, tested, digit, cube_matches, cube_literals, value_of, care_of, row_of, number_of, implicant, prime, essential, serves, within}

-- "Variable x1 has the highest weight, 2^(n−1); xn has weight 1 (001).": the bit of variable xk
abbrev pub bit_of_variable : ℕ → ℕ → ℕ → ℕ
bit_of_variable n k c = c / 2 ^ (n - k) % 2

-- "n base-3 digits, x1's first": the digit of variable xk
abbrev pub digit_of_variable : ℕ → ℕ → ℕ → ℕ
digit_of_variable n k q = q / 3 ^ (n - k) % 3

-- the variables are x1 to xn
abbrev pub Variable : ℕ → ℕ → Type 0
Variable n k = (1 ≤ k) × (k ≤ n)

-- the words by positions
pub record Positions (n : ℕ) : Type 0 where
  -- digit k, counted from the last, has the weight 3^k
  pub digits : (k q : ℕ) → digit k q ≡ q / 3 ^ k % 3
  -- a cube matches a code exactly when the digit of each variable fits its bit
  pub matches : (q c : ℕ) → T (cube_matches n q c) ↔ ((k : ℕ) → Variable n k → T (fits (digit_of_variable n k q) (bit_of_variable n k c)))
  -- the value has a one exactly at each digit 1, the care at each tested digit
  pub value : (q k : ℕ) → Variable n k → bit_of_variable n k (value_of n q) ≡ flag (eqb (digit_of_variable n k q) 1)
  pub care : (q k : ℕ) → Variable n k → bit_of_variable n k (care_of n q) ≡ flag (tested (digit_of_variable n k q))
  -- the literals of a cube are its tested digits, those of a care its ones
  pub literals : (q : ℕ) → cube_literals n q ≡ length (those n (λ i. tested (digit_of_variable n (n - i) q)))
  pub ones_in : (w : ℕ) → ones n w ≡ length (those n (λ i. eqb (bit_of_variable n (n - i) w) 1))

-- "Formed rows and cubes correspond one to one."
pub record OneToOne (n : ℕ) : Type 0 where
  pub row_formed : (q : ℕ) → T (formed n (row_of n q))
  pub number_below : (r : Row) → number_of n r < 3 ^ n
  pub there : (q : ℕ) → q < 3 ^ n → number_of n (row_of n q) ≡ q
  pub back : (r : Row) → T (formed n r) → row_of n (number_of n r) ≡ r
  pub same_codes : (r : Row) → T (formed n r) → (c : ℕ) → row_matches r c ≡ cube_matches n (number_of n r) c
  pub same_literals : (r : Row) → cube_literals n (number_of n r) ≡ row_literals n r

-- "004 leaves out the number with every digit 2; here it is a cube and matches every code."
pub record EveryDigitTwo (n : ℕ) : Type 0 where
  pub digits : (k : ℕ) → k < n → digit k (3 ^ n - 1) ≡ 2
  pub matches : (c : ℕ) → T (cube_matches n (3 ^ n - 1) c)

-- the tests as sentences
pub record Meanings (n : ℕ) (t : List ℕ) : Type 0 where
  pub implements_is : (rs : Cover)
      → T (implements n t rs)
      ↔ (((c : ℕ) → c < 2 ^ n → T (on_set t c) → T (cover_matches rs c)) × ((c : ℕ) → c < 2 ^ n → T (off_set t c) → T (cover_matches rs c) → ⊥))
  pub implicant_is : (q : ℕ) → T (implicant n t q) ↔ ((c : ℕ) → c < 2 ^ n → T (cube_matches n q c) → T (off_set t c) → ⊥)
  pub within_is : (q p : ℕ) → T (within n q p) ↔ ((c : ℕ) → c < 2 ^ n → T (cube_matches n q c) → T (cube_matches n p c))
  pub prime_is : (q : ℕ)
      → T (prime n t q)
      ↔ (T (implicant n t q) × ((p : ℕ) → p < 3 ^ n → T (implicant n t p) → cube_literals n p < cube_literals n q → T (within n q p) → ⊥))
  pub essential_is : (q : ℕ)
      → T (essential n t q)
      ↔ (T (prime n t q) × ((c : ℕ) × (c < 2 ^ n) × T (on_set t c) × T (cube_matches n q c) × ((p : ℕ) → p < 3 ^ n → T (prime n t p) → T (cube_matches n p c) → p ≡ q)))
  pub serves_is : (q : ℕ) → T (serves n t q) ↔ ((c : ℕ) × (c < 2 ^ n) × T (on_set t c) × T (cube_matches n q c))
