-- Primes: "all primes, ascending by cube number, into 16-bit places; the answer is the count.", of which document 02 leaves "only primes that match a wanted
-- code". What it lists is `serving_primes_of`. Demand 2's sentence about the call: what follows from its promise for the first places, as many as the count
-- returned. `proofs/Theorems.antt` proves it. Assumes nothing.
use Rattle.std.specs.Prelude.{◌≡◌, List, ℕ, Result, Ok, length, take, drop}
use Rattle.numbers.specs.Below.{EachOnce}
use Rattle.cube.specs.Words.{serving_primes_of}
use Rattle.cube.specs.Calls.{Listed}
use Rattle.cube.specs.McCluskey.{CrossedRow}
use Rattle.cube.specs.declared.Refusal.{Refusal}
use Rattle.tables.specs.Listing.{primes_refuses}

-- the places hold a report of the cubes of which P is true, before and after a call that returned this count
pub record Report (P : ℕ → Type 0) (old new : List ℕ) (count : ℕ) : Type 0 where
  -- the first places, as many as the count, list each such cube once and no other number
  pub terms : EachOnce (take count new) P
  -- "On success, places past the count are unchanged."
  pub behind : drop count new ≡ drop count old

-- the answer to a call that is not refused: a count, and the places hold the report
pub record Reported (P : ℕ → Type 0) (old new : List ℕ) (r : Result ℕ Refusal) : Type 0 where
  pub count : ℕ
  pub answer : r ≡ Ok count
  pub report : Report P old new count

-- what follows for a call that lists cubes, from what it promises about a refusal and about a list
pub record Reports (P : ℕ → Type 0) (refusal : ℕ) (list old new : List ℕ) : Type 0 where
  -- where a count is returned, the places hold the report
  pub counted : (k : ℕ) → Listed refusal list old new (Ok k) → Report P old new k
  -- where nothing refuses, there is a count
  pub accepted : (r : Result ℕ Refusal) → refusal ≡ 0 → Listed refusal list old new r → Reported P old new r

-- "The product terms reported are exactly the prime implicants of McCluskey's 1956 paper", which document 02 compares "after that removal"
abbrev pub ReportsPrimes : ℕ → List ℕ → List ℕ → List ℕ → Type 0
ReportsPrimes n t old new = Reports (CrossedRow n t) (primes_refuses n t (length old)) (serving_primes_of n t) old new
