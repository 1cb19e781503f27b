-- `cells::split_at_first` meets its contract: the halves are the cube with 0 and with 1 put at its first untested digit. Assumes nothing.
use mathlib.Core.Path.{◌≡◌, sym, ap, ◌∙◌, subst⁻¹}
use mathlib.Core.List.{[], ◌∷◌}
use Prim.Native.Nat.{ℕ, ◌+◌, ◌*◌, ◌^◌, ◌<◌}
use native.Mathlib.Omega.{arith}
use native.Mathlib.Nat.{one-le-pow}
use lib.Dec.{lit<}
use Rattle.std.specs.Prelude.{Some, None}
use Rattle.cube.specs.Words.{Row, digit, value_of}
use Rattle.cube.proofs.Digits.{put_digit, put_weight, value_lt}
use Rattle.cube.proofs.Codes.{codes_split, codes_one, untested_falls, literals_le}
use Rattle.spelling.specs.declared.Cube.{Cube}
use Rattle.cells.specs.Steps.{FirstUntested, Half, Splits}
use Rattle.cells.specs.declared.Split.TheVariants.{Code, Halves}
use Rattle.cells.proofs.split_at_first.Goals as goal

one_code : (n q v : ℕ) → FirstUntested n q None → v ≡ value_of n q → Splits n q (Code v)
one_code n q v f d = (
  subst⁻¹ (λ (i : ℕ). i < 2 ^ n) d (value_lt n q),
  codes_one n q f ∙ ap (λ (i : ℕ). i ∷ []) (sym d),
)

module _ (n q k : ℕ) (f : FirstUntested n q (Some k)) where
  -- the untested digit is worth twice its weight
  twice : digit k q * 3 ^ k ≡ 2 * 3 ^ k
  twice = ap (λ (i : ℕ). i * 3 ^ k) f.1

  positive : 0 < 3 ^ k
  positive = one-le-pow k 3 (lit< tt)

  half : (d : ℕ) → d < 2 → (p : Cube) → p.width ≡ n → p.number ≡ put_digit k d q → p.number < q → Half n q p
  half d m p w e lt = record {
    width = w;
    lower = lt;
    fewer = rw e (omega (arith, untested_falls n k d q f.0 m f.1, literals_le n q, literals_le n (put_digit k d q)));
  }

  two_halves : (low high : Cube) → low.width ≡ n → high.width ≡ n → low.number + digit k q * 3 ^ k ≡ q + 0 * 3 ^ k
      → high.number + digit k q * 3 ^ k ≡ q + 1 * 3 ^ k → Splits n q (Halves low high)
  two_halves low high v w d e =
      let low_is : low.number ≡ put_digit k 0 q = omega (arith, put_weight k 0 q) in
      let high_is : high.number ≡ put_digit k 1 q = omega (arith, put_weight k 1 q) in (
        half 0 (lit< tt) low v low_is (omega (arith, twice, positive)),
        half 1 (lit< tt) high w high_is (omega (arith, twice, positive)),
        rw (low_is, high_is) (codes_split n k q f.0 f.1 f.2),
      )

pub returns-in-None : goal.returns-in-None
returns-in-None c = one_code _ _ _ c.in-None.ensures (ap (λ (r : Row). r.value) c.row.ensures)

pub returns-in-Some : goal.returns-in-Some
returns-in-Some c =
    let low = c.with_digit.ensures in
    let high = c.with_digit-in-Some.ensures in
    two_halves _ _ _ c.in-Some.ensures _ _ low.width high.width low.number high.number
