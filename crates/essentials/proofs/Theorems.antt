-- The theorem of `specs/Theorems.antt`: the essentials are McCluskey's single asterisk rows. Assumes nothing.
use mathlib.Core.List.{List}
use Prim.Native.Nat.{ℕ}
use lib.ListN.{length}
use Rattle.cube.specs.Words.{essentials_of}
use Rattle.cube.specs.McCluskey.{SingleAsterisk}
use Rattle.cube.proofs.McCluskey.{agreement}
use Rattle.tables.specs.Listing.{primes_refuses}
use Rattle.primes.proofs.Theorems.{reports}
use Rattle.essentials.specs.Theorems.{ReportsEssentials}

pub reports_essentials : (n : ℕ) (t old new : List ℕ) → ReportsEssentials n t old new
reports_essentials n t old new = reports (SingleAsterisk n t) (primes_refuses n t (length old)) (essentials_of n t) old new (agreement n t).single_asterisks
