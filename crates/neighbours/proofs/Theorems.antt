-- The theorems of `specs/Theorems.antt` about essential primes, about 002's Theorem 4 and about two calls that keep one promise. Assumes nothing.
use mathlib.Core.Path.{◌≡◌, refl, subst, subst⁻¹}
use mathlib.Core.List.{List}
use Prim.Native.Nat.{ℕ}
use lib.Dec.{T, lit<}
use Rattle.numbers.specs.Below.{word_of}
use Rattle.cube.specs.Words.{cube_matches, cube_of, implicant, essential}
use Rattle.cube.proofs.Calls.{listed_alike}
use Rattle.cube.proofs.Implicants.{implicant_at, implicant_by, prime-implicant}
use Rattle.cube.proofs.Theorems.{meanings}
use Rattle.neighbours.specs.Vicinity.{kept_bits, vicinity}
use Rattle.neighbours.specs.Theorems.{FromWanted, EssentialsFromNeighbours, PrintedTheorem, three_wanted, NotAsPrinted, WriteTheSame}
use Rattle.neighbours.proofs.Vicinity.{vicinity-essential, from_wanted}

-- ---- document 02's sentences

essential-implicant : (n : ℕ) (t : List ℕ) (q : ℕ) → T (essential n t q) → T (implicant n t q)
essential-implicant n t q h = prime-implicant n t q (((meanings n t).essential_is q).0 h).0

wanted_essential : (n : ℕ) (t : List ℕ) (q : ℕ) → T (implicant n t q) → FromWanted n t q → T (essential n t q)
wanted_essential n t q i f =
    subst (λ (p : ℕ). T (essential n t p)) f.cube
    (vicinity-essential n t f.code f.below (subst⁻¹ (λ (p : ℕ). T (implicant n t p)) f.cube i) f.wanted)

pub essentials_from_neighbours : (n : ℕ) (t : List ℕ) → EssentialsFromNeighbours n t
essentials_from_neighbours n t = record {
  exactly = λ c l w. (
    λ h b m o y. implicant_at n t (vicinity n t c) (essential-implicant n t (vicinity n t c) h) b m y o,
    λ f. vicinity-essential n t c l (implicant_by n t (vicinity n t c) (λ b m y o. f b m o y)) w,
  );
  every_one = from_wanted n t;
  essentials = λ q l. (λ h. (essential-implicant n t q h, from_wanted n t q l h), λ r. wanted_essential n t q r.0 r.1);
}

-- ---- 002's Theorem 4

vicinity_of_0 : vicinity 2 three_wanted 0 ≡ 8
unfolding vicinity kept_bits word_of cube_of
vicinity_of_0 = refl

matches_3 : T (cube_matches 2 8 3)
unfolding cube_matches
matches_3 = tt

from_0 : FromWanted 2 three_wanted 8
from_0 = record { code = 0; below = lit< tt; wanted = tt; cube = vicinity_of_0 }

fails : PrintedTheorem 2 three_wanted → ⊥
fails f = implicant_at 2 three_wanted 8 (essential-implicant 2 three_wanted 8 ((f 8 (lit< tt)).1 from_0)) 3 (lit< tt) matches_3 tt

pub not_as_printed : NotAsPrinted
not_as_printed = record { vicinity_of_0 = vicinity_of_0; matches_3 = matches_3; fails = fails }

-- ---- two calls that keep one promise

pub write_the_same : (n : ℕ) (t old : List ℕ) → WriteTheSame n t old
write_the_same n t old new other r s p q = let a = listed_alike r s p q in record { places = a.0; answers = a.1 }
