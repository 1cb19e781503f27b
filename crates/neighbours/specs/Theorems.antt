-- What is proved over any width and table: neighbours and vicinities by positions, document 02's sentences about essential primes, that 002's Theorem 4 does not
-- hold as it is printed, and that two calls that keep the promise of Essentials write the same. Proved, in this order, by `Flipping`, `Vicinity` and `Theorems`
-- of `proofs/`. Assumes nothing.
use Rattle.std.specs.Prelude.{◌≡◌, ◌↔◌, Result, List, [], ◌∷◌, ℕ, ◌-◌, ◌^◌, ◌/◌, ◌%◌, ◌<◌, T, length}
use Rattle.cube.specs.Words.{on_set, off_set, digit, cube_matches, implicant, essential, essentials_of}
use Rattle.cube.specs.Calls.{Listed}
use Rattle.cube.specs.declared.Refusal.{Refusal}
use Rattle.tables.specs.Listing.{primes_refuses}
use Rattle.neighbours.specs.Vicinity.{neighbour, vicinity}

-- ---- by positions: bit k of code c is c / 2 ^ k % 2

-- a neighbour is a code of the same width that differs in the one bit
pub record Neighbours (n : ℕ) : Type 0 where
  pub inside : (k c : ℕ) → k < n → c < 2 ^ n → neighbour k c < 2 ^ n
  pub flipped : (k c : ℕ) → neighbour k c / 2 ^ k % 2 ≡ 1 - c / 2 ^ k % 2
  pub others : (k j c : ℕ) → (j ≡ k → ⊥) → neighbour k c / 2 ^ j % 2 ≡ c / 2 ^ j % 2

-- the digits of the cube: the code's own bit where it is kept, and 2 where it is not
pub record VicinityDigits (n : ℕ) (t : List ℕ) (c : ℕ) : Type 0 where
  pub below : vicinity n t c < 3 ^ n
  pub kept : (k : ℕ) → k < n → T (off_set t (neighbour k c)) → digit k (vicinity n t c) ≡ c / 2 ^ k % 2
  pub untested : (k : ℕ) → k < n → (T (off_set t (neighbour k c)) → ⊥) → digit k (vicinity n t c) ≡ 2

-- ---- the request's sentences

-- a wanted code whose vicinity is q
pub record FromWanted (n : ℕ) (t : List ℕ) (q : ℕ) : Type 0 where
  pub code : ℕ
  pub below : code < 2 ^ n
  pub wanted : T (on_set t code)
  pub cube : vicinity n t code ≡ q

pub record EssentialsFromNeighbours (n : ℕ) (t : List ℕ) : Type 0 where
  -- "For a wanted code [..] The cube of those bits is essential exactly when it matches no barred code." (002, Theorem 3)
  pub exactly : (c : ℕ) → c < 2 ^ n → T (on_set t c)
      → T (essential n t (vicinity n t c)) ↔ ((b : ℕ) → b < 2 ^ n → T (off_set t b) → T (cube_matches n (vicinity n t c) b) → ⊥)
  -- "Every essential prime arises so."
  pub every_one : (q : ℕ) → q < 3 ^ n → T (essential n t q) → FromWanted n t q
  -- both together: the essential primes are the implicants that are vicinities of wanted codes
  pub essentials : (q : ℕ) → q < 3 ^ n → T (essential n t q) ↔ (T (implicant n t q) × FromWanted n t q)

-- ---- "002's printed Theorem 4 leaves out that the cube is an implicant; the sentence here decides."

-- 002, Theorem 4: "A product term A is an essential prime implicant if and only if there is a minterm M such that M ⊂ f1 and A is the vicinity of M.", with
-- document 01's essential primes
abbrev pub PrintedTheorem : ℕ → List ℕ → Type 0
PrintedTheorem n t = (q : ℕ) → q < 3 ^ n → T (essential n t q) ↔ FromWanted n t q

-- codes 0, 1 and 2 are wanted, 3 is barred
abbrev pub three_wanted : List ℕ
three_wanted = 1 ∷ 1 ∷ 1 ∷ 0 ∷ []

-- no neighbour of code 0 is barred there, so no bit of it is kept: its vicinity is 22, which matches 3
pub record NotAsPrinted : Type 0 where
  pub vicinity_of_0 : vicinity 2 three_wanted 0 ≡ 8
  pub matches_3 : T (cube_matches 2 8 3)
  pub fails : PrintedTheorem 2 three_wanted → ⊥

-- ---- both calls

-- what two calls leave and answer is the same
pub record SameReport (new other : List ℕ) (r s : Result ℕ Refusal) : Type 0 where
  pub places : new ≡ other
  pub answers : r ≡ s

-- "Both must write the same places and counts for every table, refused ones included.": any two calls that keep the promise of Essentials do
abbrev pub WriteTheSame : ℕ → List ℕ → List ℕ → Type 0
WriteTheSame n t old =
    (new other : List ℕ) (r s : Result ℕ Refusal) → Listed (primes_refuses n t (length old)) (essentials_of n t) old new r
    → Listed (primes_refuses n t (length old)) (essentials_of n t) old other s → SameReport new other r s
