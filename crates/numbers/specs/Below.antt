-- The numbers below a bound: whether every one of them passes a test, whether one of them does, which of them do, as a list and as the bits of a number,
-- and a function's values over them; and of a list of numbers, how many pass, whether a number is in it, and that it holds some numbers once each and no
-- others. `Below` and `Bits` of `proofs/` have the laws. Assumes nothing.
use Rattle.std.specs.Prelude.{◌≡◌, ℕ, zero, suc, ◌+◌, ◌*◌, ◌^◌, Bool, true, false, cond, ◌&&◌, ◌||◌, List, [], ◌∷◌, ◌++◌, eqb}

-- 1 for true, 0 for false
abbrev pub flag : Bool → ℕ
flag true = 1
flag false = 0

-- every number below m passes
unfoldable pub every : ℕ → (ℕ → Bool) → Bool
every zero f = true
every (suc m) f = f m && every m f

-- some number below m passes
unfoldable pub some : ℕ → (ℕ → Bool) → Bool
some zero f = false
some (suc m) f = f m || some m f

-- the numbers below m that pass, ascending
unfoldable pub those : ℕ → (ℕ → Bool) → List ℕ
those zero f = []
those (suc m) f = those m f ++ cond (f m) (m ∷ []) []

-- how many of a list pass
unfoldable pub count : (ℕ → Bool) → List ℕ → ℕ
count f [] = 0
count f (x ∷ xs) = flag (f x) + count f xs

-- the number is in the list
unfoldable pub among : ℕ → List ℕ → Bool
among x [] = false
among x (y ∷ ys) = eqb x y || among x ys

-- the list holds each number of which P is true, once, and no other number
pub record EachOnce (xs : List ℕ) (P : ℕ → Type 0) : Type 0 where
  pub each : (q : ℕ) → P q → count (eqb q) xs ≡ 1
  pub no_other : (q : ℕ) → (P q → ⊥) → count (eqb q) xs ≡ 0

-- m values of f, from f i on
unfoldable pub tabulate : ℕ → ℕ → (ℕ → ℕ) → List ℕ
tabulate zero i f = []
tabulate (suc m) i f = f i ∷ tabulate m (suc i) f

-- the number whose bit i is one for each i below m that passes
unfoldable pub word_of : ℕ → (ℕ → Bool) → ℕ
word_of zero f = 0
word_of (suc m) f = word_of m f + flag (f m) * 2 ^ m
