-- `spelling::Cube::row` meets its contract: six digits spell the same value, and the same care in its low bits. Assumes nothing.
use mathlib.Core.Path.{◌≡◌, ap, ap₂, ◌∙◌}
use Prim.Native.Nat.{ℕ, ◌^◌, ◌%◌, ◌≤◌}
use Rattle.cube.specs.Words.{Row, care_of, row_of}
use Rattle.cube.specs.Calls.{widest}
use Rattle.cube.proofs.Spelling.{care_low, value_low}
use Rattle.spelling.proofs.Cube.row.Goals as goal

low_is : (n q m : ℕ) (r : Row) → n ≤ widest → r ≡ row_of widest q → m ≡ 2 ^ n → r.care % m ≡ care_of n q
low_is n q m r l r_is m_is = ap₂ (λ (s : Row) (i : ℕ). s.care % i) r_is m_is ∙ care_low n widest q l

pub returns : goal.returns
returns c =
    ap₂ (λ (v w : ℕ). record { value = v; care = w })
    (ap (λ (r : Row). r.value) c.of_six-row.ensures ∙ value_low c.args.self.width widest c.args.self.number c.args.self.narrow c.args.self.numbered)
    (ap (λ (i : ℕ). i % c.codes.result) c.from.ensures ∙ low_is _ _ _ _ c.args.self.narrow c.of_six-row.ensures c.codes.ensures)
