-- A wrong refusal of Spell that its promise shuts out: the earlier condition wins. Assumes nothing.
use mathlib.Core.Path.{◌≡◌}
use Prim.Native.Nat.{ℕ}
use native.Mathlib.Omega.{arith}
use Rattle.std.specs.Prelude.{Err}
use Rattle.cube.specs.Words.{row_of}
use Rattle.cube.specs.Calls.{answer_of, answered}
use Rattle.cube.specs.declared.Refusal.TheVariants.{CubeNumber}
use Rattle.cube.proofs.Calls.{answered_refuses}
use Rattle.spelling.specs.Spell.{spell_refuses}

-- 8 for cube 2187 at width 7
pub eight_before_one : answer_of (Err CubeNumber) ≡ answered (spell_refuses 7 2187) (row_of 7 2187) → ⊥
eight_before_one e = let z : ◌≡◌ {A = ℕ} 1 8 = (answered_refuses 8 (spell_refuses 7 2187) (row_of 7 2187) e).0 in omega arith
