-- The theorem of `specs/Theorems.antt`, for a call that lists the cubes of a kind, each once: the first places are the list that it promises.
-- Assumes nothing.
use mathlib.Core.Path.{◌≡◌, subst, subst⁻¹}
use mathlib.Core.List.{List}
use Prim.Native.Nat.{ℕ}
use lib.ListN.{length}
use Rattle.std.specs.Prelude.{Result, Ok}
use Rattle.numbers.specs.Below.{EachOnce}
use Rattle.cube.specs.Words.{serving_primes_of}
use Rattle.cube.specs.Calls.{Listed}
use Rattle.cube.specs.McCluskey.{CrossedRow}
use Rattle.cube.specs.declared.Refusal.{Refusal}
use Rattle.cube.proofs.Calls.{listed_front, listed_behind, listed_counts}
use Rattle.cube.proofs.McCluskey.{agreement}
use Rattle.tables.specs.Listing.{primes_refuses}
use Rattle.primes.specs.Theorems.{Report, Reported, Reports, ReportsPrimes}

module _ (P : ℕ → Type 0) (refusal : ℕ) (list old new : List ℕ) (each : EachOnce list P) where
  report : (k : ℕ) → Listed refusal list old new (Ok k) → Report P old new k
  report k p = record { terms = subst⁻¹ (λ (l : List ℕ). EachOnce l P) (listed_front p) each; behind = listed_behind p }

  reported : (r : Result ℕ Refusal) → refusal ≡ 0 → Listed refusal list old new r → Reported P old new r
  reported r e p =
      let k = listed_counts r e p in
      record { count = k.0; answer = k.1; report = report k.0 (subst (Listed refusal list old new) k.1 p) }

  pub reports : Reports P refusal list old new
  reports = record { counted = report; accepted = reported }

pub reports_primes : (n : ℕ) (t old new : List ℕ) → ReportsPrimes n t old new
reports_primes n t old new = reports (CrossedRow n t) (primes_refuses n t (length old)) (serving_primes_of n t) old new (agreement n t).crossed
