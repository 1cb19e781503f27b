-- The words of document 01, "Words and layouts", as definitions that compute. The width n is open: nothing here knows how wide a mark is.
-- Each recursion is on the width and splits off the last variable xn, whose weight is 1: its bit is c % 2 and its digit q % 3, and c / 2 and
-- q / 3 are the code and the cube of the variables before it. `Theorems` gives the same by positions, x1 first.
-- `docs/WORDS.md` has the paper's words, the field's terms and these names side by side. Assumes nothing.
use Rattle.std.specs.Prelude.{ℕ, zero, suc, ◌+◌, ◌*◌, ◌^◌, ◌/◌, ◌%◌, Bool, true, false, cond, not, ◌&&◌, ◌||◌, List, [], ◌∷◌, eqb, ltb, get_or, take}
use Rattle.std.specs.Int.Bits.{bit_and}
use Rattle.numbers.specs.Below.{flag, every, some, those}
use Rattle.cube.specs.declared.Row as declared

-- ---- tables

-- "A table is 2^n bytes, one cell per code": the cell of code c. (A code is the field's minterm.)
abbrev pub cell : List ℕ → ℕ → ℕ
cell t c = get_or t c 0

-- "0 barred": the off-set
abbrev pub off_set : List ℕ → ℕ → Bool
off_set t c = eqb (cell t c) 0

-- "1 wanted": the on-set
abbrev pub on_set : List ℕ → ℕ → Bool
on_set t c = eqb (cell t c) 1

-- "2 free": the don't-care set. "A free code may be matched or not."
abbrev pub dont_care : List ℕ → ℕ → Bool
dont_care t c = eqb (cell t c) 2

-- ---- rows and lists of rows

-- "A row is a value byte and a care byte." (a product term): the struct of the code, with the fields `value` and `care`
abbrev pub Row : Type 0
Row = declared.Row

-- "A row matches code c when (c AND care) equals value."
unfoldable pub row_matches : Row → ℕ → Bool
row_matches r c = eqb (bit_and c r.care) r.value

-- "It is formed when care is below 2^n and value has no one outside care."
unfoldable pub formed : ℕ → Row → Bool
formed n r = ltb r.care (2 ^ n) && eqb (bit_and r.value r.care) r.value

-- the ones among the low n bits of w
unfoldable pub ones : ℕ → ℕ → ℕ
ones zero w = 0
ones (suc n) w = ones n (w / 2) + w % 2

-- "Its tested bits (literals) are the ones in care."
abbrev pub row_literals : ℕ → Row → ℕ
row_literals n r = ones n r.care

-- "A list of rows of width n is any number of rows formed at that width, possibly none, in any order and with repeats allowed." (a cover)
abbrev pub Cover : Type 0
Cover = List Row

-- each row of the list passes
unfoldable pub each_row : (Row → Bool) → Cover → Bool
each_row f [] = true
each_row f (r ∷ rs) = f r && each_row f rs

-- "rows formed at that width"
abbrev pub all_formed : ℕ → Cover → Bool
all_formed n rs = each_row (formed n) rs

-- "It matches a code when one of its rows does."
unfoldable pub cover_matches : Cover → ℕ → Bool
cover_matches [] c = false
cover_matches (r ∷ rs) c = row_matches r c || cover_matches rs c

-- "Its tested bits are the sum over its rows, a repeated row counted each time."
unfoldable pub cover_literals : ℕ → Cover → ℕ
cover_literals n [] = 0
cover_literals n (r ∷ rs) = row_literals n r + cover_literals n rs

-- "In two arrays, row i is place i of the value array with place i of the care array."
unfoldable pub rows_of : List ℕ → List ℕ → Cover
rows_of [] ws = []
rows_of (v ∷ vs) [] = []
rows_of (v ∷ vs) (w ∷ ws) = record { value = v; care = w } ∷ rows_of vs ws

-- "take from the first place of each as many places as the row count returned."
abbrev pub first_rows : ℕ → List ℕ → List ℕ → Cover
first_rows count vs ws = rows_of (take count vs) (take count ws)

-- code c is as the table asks: matched where wanted, not matched where barred
abbrev pub asked : List ℕ → Cover → ℕ → Bool
asked t rs c = (not (on_set t c) || cover_matches rs c) && (not (off_set t c) || not (cover_matches rs c))

-- "it matches every wanted mark and no barred one": the list is right for the table (the cover implements the function)
unfoldable pub implements : ℕ → List ℕ → Cover → Bool
implements n t rs = every (2 ^ n) (asked t rs)

-- ---- cubes

-- A digit: "0 the bit must be 0, 1 it must be 1, 2 not tested."
abbrev pub fits : ℕ → ℕ → Bool
fits d b = eqb d 2 || eqb d b

-- a digit is tested: it stands for a literal
abbrev pub tested : ℕ → Bool
tested d = not (eqb d 2)

-- "A cube number (004) has n base-3 digits, x1's first": digit k, counted from the last, whose k is 0
unfoldable pub digit : ℕ → ℕ → ℕ
digit zero q = q % 3
digit (suc k) q = digit k (q / 3)

-- cube q matches code c: each of its n digits fits its bit
unfoldable pub cube_matches : ℕ → ℕ → ℕ → Bool
cube_matches zero q c = true
cube_matches (suc n) q c = fits (q % 3) (c % 2) && cube_matches n (q / 3) (c / 2)

-- the tested digits of cube q
unfoldable pub cube_literals : ℕ → ℕ → ℕ
cube_literals zero q = 0
cube_literals (suc n) q = cube_literals n (q / 3) + flag (tested (q % 3))

-- the value that spells a cube: a one at each digit 1
unfoldable pub value_of : ℕ → ℕ → ℕ
value_of zero q = 0
value_of (suc n) q = value_of n (q / 3) * 2 + flag (eqb (q % 3) 1)

-- the care that spells a cube: a one at each tested digit
unfoldable pub care_of : ℕ → ℕ → ℕ
care_of zero q = 0
care_of (suc n) q = care_of n (q / 3) * 2 + flag (tested (q % 3))

-- "Formed rows and cubes correspond one to one": the row that spells a cube
abbrev pub row_of : ℕ → ℕ → Row
row_of n q = record { value = value_of n q; care = care_of n q }

-- the digit of a value bit v under a care bit w
abbrev pub digit_of : ℕ → ℕ → ℕ
digit_of v w = cond (eqb w 0) 2 v

-- and the cube that a row spells
unfoldable pub cube_of : ℕ → ℕ → ℕ → ℕ
cube_of zero v w = 0
cube_of (suc n) v w = cube_of n (v / 2) (w / 2) * 3 + digit_of (v % 2) (w % 2)

-- the cube number of a row
abbrev pub number_of : ℕ → Row → ℕ
number_of n r = cube_of n r.value r.care

-- "the codes that a cube matches, ascending"
unfoldable pub codes_of : ℕ → ℕ → List ℕ
codes_of n q = those (2 ^ n) (cube_matches n q)

-- ---- implicants, primes, essentials

-- p matches everything that q matches
unfoldable pub within : ℕ → ℕ → ℕ → Bool
within n q p = every (2 ^ n) (λ c. not (cube_matches n q c) || cube_matches n p c)

-- "An implicant is a cube matching no barred code."
unfoldable pub implicant : ℕ → List ℕ → ℕ → Bool
implicant n t q = every (2 ^ n) (λ c. not (cube_matches n q c) || not (off_set t c))

-- p is an implicant with fewer tested bits than q that matches everything that q matches
abbrev pub wider : ℕ → List ℕ → ℕ → ℕ → Bool
wider n t q p = implicant n t p && (ltb (cube_literals n p) (cube_literals n q) && within n q p)

-- "It is prime when no implicant with fewer tested bits matches everything that it matches."
unfoldable pub prime : ℕ → List ℕ → ℕ → Bool
prime n t q = implicant n t q && not (some (3 ^ n) (wider n t q))

-- of all primes q alone matches code c
unfoldable pub alone : ℕ → List ℕ → ℕ → ℕ → Bool
alone n t q c = cube_matches n q c && not (some (3 ^ n) (λ p. (prime n t p && cube_matches n p c) && not (eqb p q)))

-- "A prime is essential when it alone of all primes matches some wanted code."
unfoldable pub essential : ℕ → List ℕ → ℕ → Bool
essential n t q = prime n t q && some (2 ^ n) (λ c. on_set t c && alone n t q c)

-- code c is wanted, and cube q matches it: "Free and barred codes are never columns."
abbrev pub column : ℕ → List ℕ → ℕ → ℕ → Bool
column n t q c = on_set t c && cube_matches n q c

-- "match a wanted code" (document 02): the cube serves
unfoldable pub serves : ℕ → List ℕ → ℕ → Bool
serves n t q = some (2 ^ n) (column n t q)

-- "all primes, ascending by cube number": all of document 01's primes, whether they serve or not
unfoldable pub primes_of : ℕ → List ℕ → List ℕ
primes_of n t = those (3 ^ n) (prime n t)

-- "only primes that match a wanted code" (document 02)
abbrev pub serving_prime : ℕ → List ℕ → ℕ → Bool
serving_prime n t q = prime n t q && serves n t q

-- "Primes and Chart give only primes that match a wanted code", ascending by cube number: what the two calls report
unfoldable pub serving_primes_of : ℕ → List ℕ → List ℕ
serving_primes_of n t = those (3 ^ n) (serving_prime n t)

-- "the essential primes, as Primes does"
unfoldable pub essentials_of : ℕ → List ℕ → List ℕ
essentials_of n t = those (3 ^ n) (essential n t)
