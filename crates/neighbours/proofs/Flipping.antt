-- Flipping a bit of a code, from the last bit on: the neighbour is a code of the same width, the bit becomes the other one, and every other bit stays.
-- Assumes nothing.
use mathlib.Core.Path.{◌≡◌, refl, sym, ap, ap₂, ◌∙◌}
use Prim.Native.Nat.{ℕ, zero, suc, ◌+◌, ◌*◌, ◌-◌, ◌^◌, ◌/◌, ◌%◌, ◌<◌}
use native.Mathlib.Nat.{pow-suc}
use native.Mathlib.Omega.{arith}
use lib.Bits.{bit_xor, differ, xor_step, xor_zero_r, xor_lt}
use lib.Pow.{pow-lt}
use Rattle.cube.proofs.Digits.{bit, bit_lt, bit-weight, last_bit, rest_bits}
use Rattle.neighbours.specs.Vicinity.{neighbour}
use Rattle.neighbours.specs.Theorems.{Neighbours}

pub neighbour_lt : (n k c : ℕ) → k < n → c < 2 ^ n → neighbour k c < 2 ^ n
neighbour_lt n k c l h = xor_lt n c (2 ^ k) h (pow-lt l)

-- the last bit, or one before it
flip_last : (c : ℕ) → neighbour 0 c ≡ c / 2 * 2 + (1 - c % 2)
flip_last c = xor_step c 1 ∙ ap₂ (λ (x b : ℕ). x * 2 + b) (xor_zero_r (c / 2)) (other (c % 2) (bit_lt c))
  where
    other : (b : ℕ) → b < 2 → differ b 1 ≡ 1 - b
    other zero l = refl
    other (suc zero) l = refl
    other (suc (suc b)) l = absurd (omega arith)

flip_rest : (k c : ℕ) → neighbour (suc k) c ≡ neighbour k (c / 2) * 2 + c % 2
flip_rest k c =
    let p : 2 ^ suc k ≡ 2 ^ k * 2 = pow-suc 2 k in
    let half : 2 ^ suc k / 2 ≡ 2 ^ k = omega arith in
    let even : 2 ^ suc k % 2 ≡ 0 = omega arith in
    xor_step c (2 ^ suc k) ∙ ap₂ (λ (x b : ℕ). x * 2 + b) (ap (bit_xor (c / 2)) half) (ap (differ (c % 2)) even ∙ same (c % 2))
  where
    same : (b : ℕ) → differ b 0 ≡ b
    same zero = refl
    same (suc b) = refl

pub flipped_bit : (k c : ℕ) → bit k (neighbour k c) ≡ 1 - bit k c
unfolding bit
flipped_bit zero c = ap (bit 0) (flip_last c) ∙ last_bit (c / 2) (1 - c % 2) (omega arith)
flipped_bit (suc k) c = ap (bit (suc k)) (flip_rest k c) ∙ ap (bit k) (rest_bits (neighbour k (c / 2)) (c % 2) (bit_lt c)) ∙ flipped_bit k (c / 2)

pub other_bit : (k j c : ℕ) → (j ≡ k → ⊥) → bit j (neighbour k c) ≡ bit j c
unfolding bit
other_bit zero zero c ne = absurd (ne refl)
other_bit zero (suc j) c ne = ap (bit (suc j)) (flip_last c) ∙ ap (bit j) (rest_bits (c / 2) (1 - c % 2) (omega arith))
other_bit (suc k) zero c ne = ap (bit 0) (flip_rest k c) ∙ last_bit (neighbour k (c / 2)) (c % 2) (bit_lt c)
other_bit (suc k) (suc j) c ne =
    ap (bit (suc j)) (flip_rest k c) ∙ ap (bit j) (rest_bits (neighbour k (c / 2)) (c % 2) (bit_lt c)) ∙ other_bit k j (c / 2) (λ e. ne (ap suc e))

pub neighbours : (n : ℕ) → Neighbours n
neighbours n = record {
  inside = neighbour_lt n;
  flipped = λ k c. sym (bit-weight k (neighbour k c)) ∙ flipped_bit k c ∙ ap (λ (b : ℕ). 1 - b) (bit-weight k c);
  others = λ k j c ne. sym (bit-weight j (neighbour k c)) ∙ other_bit k j c ne ∙ bit-weight j c;
}
