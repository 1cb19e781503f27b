-- `spelling::digit` meets its contract: digit k has weight 3^k. Assumes nothing.
use mathlib.Core.Path.{sym}
use native.Mathlib.Nat.{one-le-pow}
use lib.Dec.{lit<}
use Rattle.cube.proofs.Digits.{digit-weight}
use Rattle.spelling.proofs.digit.Goals as goal

pub nonzero_div-result : goal.nonzero_div-result
nonzero_div-result c = rw c.cubes.ensures (one-le-pow c.args.k 3 (lit< tt))

pub returns : goal.returns
returns c = rw c.cubes.ensures (sym (digit-weight c.args.k c.args.q))
