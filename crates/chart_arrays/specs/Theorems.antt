-- What a chart row's word tells, as a statement over any width. `proofs/Theorems.antt` proves it. Assumes nothing.
use Rattle.std.specs.Prelude.{◌≡◌, ◌↔◌, ◌&&◌, List, ℕ, ◌^◌, ◌/◌, ◌%◌, ◌<◌, T, ltb}
use Rattle.numbers.specs.Below.{flag}
use Rattle.cube.specs.Words.{on_set, cube_matches, serves, column}
use Rattle.chart_arrays.specs.Columns.{columns_of}

-- bit c of a word
abbrev pub bit : ℕ → ℕ → ℕ
bit word c = word / 2 ^ c % 2

-- the word of cube q, bit by bit
pub record WordTells (n : ℕ) (t : List ℕ) (q : ℕ) : Type 0 where
  -- "a 64-bit word": it has a bit for each code, and no other
  pub below : columns_of n t q < 2 ^ (2 ^ n)
  -- "whose bit c tells that wanted code c is matched"
  pub tells : (c : ℕ) → bit (columns_of n t q) c ≡ flag (ltb c (2 ^ n) && column n t q c)
  -- "Free and barred codes are never columns."
  pub only_wanted : (c : ℕ) → bit (columns_of n t q) c ≡ 1 → (c < 2 ^ n) × T (on_set t c) × T (cube_matches n q c)
  -- the word is empty exactly when the cube matches no wanted code
  pub not_empty : T (serves n t q) ↔ (0 < columns_of n t q)
