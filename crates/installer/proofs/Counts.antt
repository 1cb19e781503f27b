-- A count fits the 32 bits that C gets: a call that does not refuse has a width in range, so it lists at most the 2^n codes or the 3^n cubes, and a
-- list file has at most 255 rows. Assumes nothing.
use mathlib.Core.Path.{◌≡◌, subst⁻¹}
use mathlib.Core.List.{List}
use Prim.Native.Nat.{ℕ, ◌^◌, ◌<◌, ◌≤◌}
use native.Mathlib.Omega.{arith}
use lib.ListN.{length, length-map}
use Rattle.std.specs.Prelude.{Result, Ok, Err, IfOk}
use Rattle.cube.specs.Words.{codes_of, serving_primes_of, essentials_of}
use Rattle.cube.specs.Calls.{Listed}
use Rattle.cube.specs.declared.Refusal.{Refusal}
use Rattle.cube.proofs.Calls.{width_first, codes_most, cubes_most, primes_most, essentials_most, answered_gives}
use Rattle.cube.proofs.Codes.{codes_length}
use Rattle.cube.proofs.Lists.{rows_length}
use Rattle.cells.specs.Cells.{cells_refuses}
use Rattle.tables.specs.Listing.{primes_refuses}
use Rattle.chart.specs.Rows.{chart_of}
use Rattle.listfile.specs.File.{one_byte_count, file_of}
use Rattle.listfile.specs.Write.{write_refuses}
use Rattle.listfile.proofs.Theorems.{file_length_lem}
use Rattle.listfile.proofs.Files.{write_accepted}
use Rattle.installer.specs.Steps.{IsFew}

-- ---- what is listed

pub few_codes : (n q places : ℕ) → cells_refuses n q places ≡ 0 → length (codes_of n q) < 2 ^ 31
few_codes n q places e = omega (arith, codes_length n q, codes_most n (width_first n _ e))

module _ (n : ℕ) (t : List ℕ) (places : ℕ) (e : primes_refuses n t places ≡ 0) where
  few_cubes : (m : ℕ) → m ≤ 3 ^ n → m < 2 ^ 31
  few_cubes m l = omega (arith, cubes_most n (width_first n _ e))

  pub few_primes : length (serving_primes_of n t) < 2 ^ 31
  few_primes = few_cubes (length (serving_primes_of n t)) (primes_most n t)

  pub few_chart : length (chart_of n t) < 2 ^ 31
  few_chart = few_cubes (length (chart_of n t)) (rw length-map (primes_most n t))

  pub few_essentials : length (essentials_of n t) < 2 ^ 31
  few_essentials = few_cubes (length (essentials_of n t)) (essentials_most n t)

pub few_bytes : (n : ℕ) (vs ws : List ℕ) (places : ℕ) → write_refuses one_byte_count n vs ws places ≡ 0 → length (file_of one_byte_count n vs ws) < 2 ^ 31
few_bytes n vs ws places e =
    let list = (write_accepted one_byte_count n vs ws places e).1 in
    omega (arith, file_length_lem n vs ws list.equal, rows_length vs ws list.equal, list.few)

-- ---- what is answered

pub few_counted : {A : Type 0} {refusal : ℕ} {list old new : List A} (r : Result ℕ Refusal) → Listed refusal list old new r → (refusal ≡ 0 → length list < 2 ^ 31) → IfOk r IsFew
few_counted (Err e) p few = tt
few_counted {refusal = refusal} {list} (Ok k) p few =
    let given = answered_gives refusal k (length list) p.answer in subst⁻¹ (λ (i : ℕ). i < 2 ^ 31) given.1 (few given.0)

-- so every count that is answered fits
pub ruleset counts = (few_counted, few_codes, few_primes, few_chart, few_essentials, few_bytes)
