-- The vicinity of a code read from its first bit on: after the bits from k up, the kept bits are shifted by k, and the cube is that of the first n - k digits.
-- Assumes nothing.
use mathlib.Core.Path.{◌≡◌, sym, ap, ap₂, ◌∙◌}
use mathlib.Core.List.{List}
use Prim.Native.Nat.{ℕ, suc, ◌+◌, ◌*◌, ◌-◌, ◌^◌, ◌/◌, ◌%◌, ◌<◌, ◌≤◌}
use native.Mathlib.Nat.{div-one, div-eq_of_lt, div-le_self}
use native.Mathlib.Omega.{arith}
use lib.Pow.{shr-shr}
use Rattle.numbers.specs.Below.{flag}
use Rattle.cube.specs.Words.{off_set, digit_of, cube_of}
use Rattle.cube.specs.Calls.{widest}
use Rattle.numbers.proofs.Bits.{word_lt, bit_of}
use Rattle.cube.proofs.Calls.{codes_most, cubes_most}
use Rattle.cube.proofs.Rows.{cube_lt}
use Rattle.neighbours.specs.declared.vicinities.Kept.{Kept}
use Rattle.neighbours.specs.Vicinity.{neighbour, kept_bits, vicinity}
use Rattle.neighbours.specs.Steps.{WithBit, KeptOf}

-- ---- the bits from k up

pub record ReadTo (n : ℕ) (t : List ℕ) (c k : ℕ) (v : Kept) : Type 0 where
  pub bits : v.bits ≡ kept_bits n t c / 2 ^ k
  pub cube : v.cube ≡ cube_of (n - k) (c / 2 ^ k) (kept_bits n t c / 2 ^ k)

module _ (n : ℕ) (t : List ℕ) (c : ℕ) where
  pub kept_lt : kept_bits n t c < 2 ^ n
  unfolding kept_bits
  kept_lt = word_lt n (λ k. off_set t (neighbour k c))

  kept_bit : (k : ℕ) → k < n → kept_bits n t c / 2 ^ k % 2 ≡ flag (off_set t (neighbour k c))
  unfolding kept_bits
  kept_bit k l = bit_of n (λ k. off_set t (neighbour k c)) k l

  pub read_none : (v : Kept) → v.bits ≡ 0 → v.cube ≡ 0 → ReadTo n t c n v
  unfolding cube_of
  read_none v a b = record {
    bits = a ∙ sym (div-eq_of_lt kept_lt);
    cube = let e : n - n ≡ 0 = omega arith in b ∙ sym (ap (λ (m : ℕ). cube_of m (c / 2 ^ n) (kept_bits n t c / 2 ^ n)) e);
  }

  pub read_more : (k : ℕ) (v r : Kept) → k < n → ReadTo n t c (k + 1) v → WithBit t c k v r → ReadTo n t c k r
  unfolding cube_of
  read_more k v r l h s = record {
    bits = omega (arith, s.bits, h.bits, half (kept_bits n t c), kept_bit k l);
    cube =
        s.cube ∙ ap₂ (λ (x b : ℕ). x * 3 + digit_of (c / 2 ^ k % 2) b) (h.cube ∙ ap₂ (cube_of (n - (k + 1))) (sym (half c)) (sym (half (kept_bits n t c)))) (sym (kept_bit k l))
        ∙ ap (λ (m : ℕ). cube_of m (c / 2 ^ k) (kept_bits n t c / 2 ^ k)) left;
  }
    where
      half : (x : ℕ) → x / 2 ^ k / 2 ≡ x / 2 ^ (k + 1)
      half x = shr-shr x k 1

      left : suc (n - (k + 1)) ≡ n - k
      left = omega arith

  pub read_all : (v : Kept) → ReadTo n t c 0 v → KeptOf n t c v
  unfolding vicinity
  read_all v h = record {
    bits = h.bits ∙ div-one (kept_bits n t c);
    cube =
        let e : n - 0 ≡ n = omega arith in
        h.cube ∙ ap (λ (m : ℕ). cube_of m (c / 2 ^ 0) (kept_bits n t c / 2 ^ 0)) e ∙ ap₂ (cube_of n) (div-one c) (div-one (kept_bits n t c));
  }

  -- what was read is small
  module _ (w : n ≤ widest) (k : ℕ) (v : Kept) (h : ReadTo n t c k v) where
    pub kept_small : v.bits < 2 ^ widest
    kept_small = omega (arith, h.bits, div-le_self (kept_bits n t c) (2 ^ k), kept_lt, codes_most n w)

    pub cube_small : v.cube < 3 ^ widest
    cube_small = omega (arith, h.cube, cube_lt (n - k) (c / 2 ^ k) (kept_bits n t c / 2 ^ k), cubes_most (n - k) (omega arith))
