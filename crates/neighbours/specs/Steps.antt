-- What the steps of the call hold: the bits and digits read so far, the cubes that are found at the first codes, and a number that is put into an ascending
-- list. Assumes nothing.
use Rattle.std.specs.Prelude.{◌≡◌, ℕ, ◌+◌, ◌*◌, ◌^◌, ◌/◌, ◌%◌, ◌≤◌, Bool, cond, ◌&&◌, List, [], ◌∷◌, ◌++◌, eqb, ltb, length, take, drop}
use Rattle.std.specs.Int.Bits.{bit_and}
use Rattle.numbers.specs.Below.{flag, some, those}
use Rattle.cube.specs.Words.{on_set, off_set, digit_of, implicant}
use Rattle.neighbours.specs.Vicinity.{neighbour, kept_bits, vicinity}
use Rattle.neighbours.specs.declared.vicinities.Kept.{Kept}

-- one bit more, and one digit more
pub record WithBit (t : List ℕ) (c k : ℕ) (kept r : Kept) : Type 0 where
  pub bits : r.bits ≡ kept.bits * 2 + flag (off_set t (neighbour k c))
  pub cube : r.cube ≡ kept.cube * 3 + digit_of (c / 2 ^ k % 2) (flag (off_set t (neighbour k c)))

-- the bits that a code keeps, and their cube
pub record KeptOf (n : ℕ) (t : List ℕ) (c : ℕ) (r : Kept) : Type 0 where
  pub bits : r.bits ≡ kept_bits n t c
  pub cube : r.cube ≡ vicinity n t c

-- code x agrees with code c in these bits
abbrev pub agrees : ℕ → ℕ → ℕ → Bool
agrees c bits x = eqb (bit_and x bits) (bit_and c bits)

-- code x is barred, and agrees with code c in these bits
abbrev pub barred_match : List ℕ → ℕ → ℕ → ℕ → Bool
barred_match t c bits x = off_set t x && agrees c bits x

-- cube q is found at code c: the code is wanted, and q is its vicinity and an implicant
abbrev pub found_at : ℕ → List ℕ → ℕ → ℕ → Bool
found_at n t c q = (on_set t c && implicant n t (vicinity n t c)) && eqb q (vicinity n t c)

-- the cubes that are found at the codes below m, ascending
unfoldable pub found_below : ℕ → List ℕ → ℕ → List ℕ
found_below n t m = those (3 ^ n) (λ q. some m (λ c. found_at n t c q))

-- a number put before the first one that is not below it, unless that is the number itself
unfoldable pub inserted : ℕ → List ℕ → List ℕ
inserted q [] = q ∷ []
inserted q (x ∷ xs) = cond (ltb x q) (x ∷ inserted q xs) (cond (eqb x q) (x ∷ xs) (q ∷ x ∷ xs))

-- a number put at a place of a list
abbrev pub inserted_at : ℕ → ℕ → List ℕ → List ℕ
inserted_at at q xs = take at xs ++ (q ∷ drop at xs)

-- the first places list what is found at the codes below c, and there is room for all cubes
pub record FoundSoFar (n : ℕ) (t out : List ℕ) (c count : ℕ) : Type 0 where
  pub room : 3 ^ n ≤ length out
  pub counts : count ≡ length (found_below n t c)
  pub listed : take count out ≡ found_below n t c
