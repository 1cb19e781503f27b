-- Wrong answers that the promises of Write and Read shut out, each on a named input: a refusal that is not the earliest, a file that is accepted, a place
-- past the count, a place on refusal. Assumes nothing.
use mathlib.Core.Path.{◌≡◌, ap, ◌∙◌}
use mathlib.Core.List.{List, [], ◌∷◌}
use Prim.Native.Nat.{ℕ}
use native.Mathlib.Omega.{arith}
use lib.ListN.{length, get_or, replicate}
use Rattle.std.specs.Prelude.{Result, Ok, Err}
use Rattle.cube.specs.Words.{formed, each_row, rows_of}
use Rattle.cube.specs.Calls.{refusal_number, written}
use Rattle.cube.specs.declared.Refusal.{Refusal}
use Rattle.cube.specs.declared.Refusal.TheVariants.{Width, ShortOutput, UnequalLengths, TooManyRows, UnformedRow}
use Rattle.cube.proofs.Calls.{answered_refuses, listed_number}
use Rattle.listfile.specs.File.{one_byte_count}
use Rattle.listfile.specs.Write.{Writes}
use Rattle.listfile.specs.Read.{read_refuses, width_and_count, Reads}
use Rattle.listfile.specs.declared.Header.{Header}
use Rattle.listfile.proofs.Files.{read_gives}

-- ---- Write

module _ (old new : List ℕ) where
  -- 5 for arrays of any length at width 7
  pub five_before_one : (vs ws : List ℕ) → Writes one_byte_count 7 vs ws old new (Err UnequalLengths) → ⊥
  five_before_one vs ws p = let z : ◌≡◌ {A = ℕ} 1 5 = listed_number UnequalLengths p in omega arith

  -- 6 for 256 values, where there are 257 cares
  pub six_before_five : Writes one_byte_count 1 (replicate 256 0) (replicate 257 0) old new (Err TooManyRows) → ⊥
  six_before_five p = let z : ◌≡◌ {A = ℕ} 5 6 = listed_number TooManyRows p in omega arith

  -- 7 for 256 rows with care 2 at width 1
  pub seven_before_six : Writes one_byte_count 1 (replicate 256 0) (replicate 256 2) old new (Err UnformedRow) → ⊥
  unfolding rows_of
  seven_before_six p = let z : ◌≡◌ {A = ℕ} 6 7 = listed_number UnformedRow p in omega arith

  -- 4 for a buffer of any length, where the row has care 2 at width 1
  pub four_before_seven : Writes one_byte_count 1 (0 ∷ []) (2 ∷ []) old new (Err ShortOutput) → ⊥
  unfolding rows_of each_row formed
  four_before_seven p = let z : ◌≡◌ {A = ℕ} 7 4 = listed_number ShortOutput p in omega arith

-- ---- Read

number : {file values cares values' cares' : List ℕ} (e : Refusal) → Reads one_byte_count file values cares values' cares' (Err e)
    → read_refuses one_byte_count file (length values) (length cares) ≡ refusal_number e
number {file} {values} {cares} e p =
    (answered_refuses (refusal_number e) (read_refuses one_byte_count file (length values) (length cares)) (width_and_count one_byte_count file) p.answer).0

module _ (values cares values' cares' : List ℕ) where
  -- 1 for a file of one byte, which is no width
  pub one_before_ten : Reads one_byte_count (7 ∷ []) values cares values' cares' (Err Width) → ⊥
  one_before_ten p = let z : ◌≡◌ {A = ℕ} 10 1 = number Width p in omega arith

  -- 7 for a file of width 7, where the row has care 128
  pub seven_before_one : Reads one_byte_count (7 ∷ 1 ∷ 0 ∷ 128 ∷ []) values cares values' cares' (Err UnformedRow) → ⊥
  seven_before_one p = let z : ◌≡◌ {A = ℕ} 1 7 = number UnformedRow p in omega arith

  -- 4 for arrays of any length, where the row has care 2 at width 1
  pub four_before_a_row : Reads one_byte_count (1 ∷ 1 ∷ 0 ∷ 2 ∷ []) values cares values' cares' (Err ShortOutput) → ⊥
  unfolding rows_of each_row formed
  four_before_a_row p = let z : ◌≡◌ {A = ℕ} 7 4 = number ShortOutput p in omega arith

  -- the empty list, for a file with a byte more
  pub longer_file : (n count : ℕ) → Reads one_byte_count (1 ∷ 0 ∷ 0 ∷ []) values cares values' cares' (Ok (record { width = n; count = count })) → ⊥
  longer_file n count p = let z : ◌≡◌ {A = ℕ} 10 0 = (read_gives p).not_refused in omega arith

-- the second place written, where the file has one row
pub place_past_count : (cares cares' : List ℕ) → Reads one_byte_count (1 ∷ 1 ∷ 0 ∷ 0 ∷ []) (5 ∷ 5 ∷ []) cares (0 ∷ 0 ∷ []) cares' (Ok (record { width = 1; count = 1 })) → ⊥
place_past_count cares cares' p =
    let holds = p.values_are ∙ ap (λ (k : ℕ). written k (0 ∷ []) (5 ∷ 5 ∷ [])) (read_gives p).not_refused in
    let z : ◌≡◌ {A = ℕ} 0 5 = ap (λ (l : List ℕ). get_or l 1 0) holds in omega arith

-- a place written, where the file has no byte
pub written_on_refusal : (cares cares' : List ℕ) (r : Result Header Refusal) → Reads one_byte_count [] (5 ∷ []) cares (0 ∷ []) cares' r → ⊥
written_on_refusal cares cares' r p = let z : ◌≡◌ {A = ℕ} 0 5 = ap (λ (l : List ℕ). get_or l 0 0) p.values_are in omega arith
