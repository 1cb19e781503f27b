-- Demand 2's sentence about the call: what follows from the promise of Essentials, "the essential primes, as Primes does. Refuses 1, 2, 3, then 4 below
-- 3^n places.", for the first places, as many as the count returned. `proofs/Theorems.antt` proves it. Assumes nothing.
use Rattle.std.specs.Prelude.{List, ℕ, length}
use Rattle.cube.specs.Words.{essentials_of}
use Rattle.cube.specs.McCluskey.{SingleAsterisk}
use Rattle.tables.specs.Listing.{primes_refuses}
use Rattle.primes.specs.Theorems.{Reports}

-- "and the essential ones exactly his."
abbrev pub ReportsEssentials : ℕ → List ℕ → List ℕ → List ℕ → Type 0
ReportsEssentials n t old new = Reports (SingleAsterisk n t) (primes_refuses n t (length old)) (essentials_of n t) old new
