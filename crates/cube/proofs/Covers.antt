-- Lists of rows: what a joined list matches and counts, and how many bits a list tests. Assumes nothing.
use mathlib.Core.Path.{◌≡◌, refl, sym, ap, ◌∙◌}
use mathlib.Core.Bool.{Bool, ◌&&◌, ◌||◌, and_assoc, or_assoc}
use mathlib.Core.List.{[], ◌∷◌, ◌++◌}
use Prim.Native.Nat.{ℕ, zero, suc, ◌+◌, ◌*◌, ◌/◌, ◌≤◌}
use native.Mathlib.Omega.{arith}
use lib.ListN.{length}
use Rattle.cube.specs.Words.{Row, Cover, row_matches, ones, each_row, cover_matches, cover_literals}
use Rattle.cube.proofs.Digits.{bit_lt}

-- ---- joined lists

pub each_append : (f : Row → Bool) (a b : Cover) → each_row f (a ++ b) ≡ (each_row f a && each_row f b)
unfolding each_row
each_append f [] b = refl
each_append f (r ∷ a) b = ap (λ (x : Bool). f r && x) (each_append f a b) ∙ sym (and_assoc (f r) (each_row f a) (each_row f b))

pub matches_append : (a b : Cover) (c : ℕ) → cover_matches (a ++ b) c ≡ (cover_matches a c || cover_matches b c)
unfolding cover_matches
matches_append [] b c = refl
matches_append (r ∷ a) b c = ap (λ (x : Bool). row_matches r c || x) (matches_append a b c) ∙ sym (or_assoc (row_matches r c) (cover_matches a c) (cover_matches b c))

pub literals_append : (n : ℕ) (a b : Cover) → cover_literals n (a ++ b) ≡ cover_literals n a + cover_literals n b
unfolding cover_literals
literals_append n [] b = omega arith
literals_append n (r ∷ a) b = omega (arith, literals_append n a b)

pub ones-le : (n w : ℕ) → ones n w ≤ n
unfolding ones
ones-le zero w = omega arith
ones-le (suc n) w = omega (arith, ones-le n (w / 2), bit_lt w)

-- a list tests at most n bits a row
pub literals_most : (n : ℕ) (rs : Cover) → cover_literals n rs ≤ n * length rs
unfolding cover_literals
literals_most n [] = omega arith
literals_most n (r ∷ rs) = omega (arith, literals_most n rs, ones-le n r.care)
