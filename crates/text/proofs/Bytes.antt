-- Nothing of a byte is left behind its eight bits. Assumes nothing.
use mathlib.Core.Path.{◌≡◌, sym, ap, ◌∙◌}
use Prim.Native.Nat.{ℕ, ◌^◌, ◌<◌, ◌≤◌, ◌/◌, ◌%◌, min}
use native.Mathlib.Decide.{dec_le}
use native.Mathlib.Nat.{pow-le-pow_right, div-eq_of_lt}
use native.Mathlib.Omega.{arith}
use Rattle.std.specs.Int.Bits.{bit_and}
use Rattle.std.proofs.lemmas.Nat.Bits.{shr_and_one}

shifted : (d x : ℕ) → x < 2 ^ 8 → x / 2 ^ min d 8 ≡ x / 2 ^ d
shifted d x l = go (dec_le d 8)
  where
    go : Dec (d ≤ 8) → x / 2 ^ min d 8 ≡ x / 2 ^ d
    go (yes h) = let e : min d 8 ≡ d = omega arith in ap (λ (m : ℕ). x / 2 ^ m) e
    go (no h) =
        let e : min d 8 ≡ 8 = omega arith in
        let long : 8 ≤ d = omega arith in
        let more : 2 ^ 8 ≤ 2 ^ d = pow-le-pow_right (omega arith) long in
        ap (λ (m : ℕ). x / 2 ^ m) e ∙ div-eq_of_lt l ∙ sym (div-eq_of_lt (omega (arith, l, more)))

-- bit d of a byte, by a shift of at most eight
pub byte_bit : (d x : ℕ) → x < 2 ^ 8 → bit_and (x / 2 ^ min d 8) 1 ≡ x / 2 ^ d % 2
byte_bit d x l = shr_and_one x (min d 8) ∙ ap (λ (y : ℕ). y % 2) (shifted d x l)
