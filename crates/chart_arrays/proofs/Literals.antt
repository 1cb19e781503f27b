-- The ones of a care, as the processor counts them, are the tested digits of the cube that it spells. Assumes nothing.
use Rattle.std.proofs.Common.{◌≡◌, ℕ, zero, suc, ◌/◌, ◌^◌, ◌<◌, ap, ◌∙◌, arith}
use Rattle.std.proofs.Math.Nat.{pow-suc}
use Rattle.std.specs.Int.Count.{ones as ones_counted, ones_step}
use Rattle.cube.specs.Words.{ones, care_of, cube_literals}
use Rattle.cube.proofs.Rows.{row_of_literals, row_formed, formed_means}

-- the ones of a number of n bits
pub counted : (n w : ℕ) → w < 2 ^ n → ones_counted w ≡ ones n w
unfolding ones ones_counted
counted zero w h = let z : w ≡ 0 = omega arith in ap ones_counted z
counted (suc n) w h = omega (arith, ones_step w, counted n (w / 2) (omega (arith, pow-suc 2 n)))

pub literals : (n q w : ℕ) → q < 3 ^ n → w ≡ care_of n q → ones_counted w ≡ cube_literals n q
literals n q w l e = ap ones_counted e ∙ counted n (care_of n q) (formed_means n _ (row_formed n q)).care ∙ row_of_literals n q l
