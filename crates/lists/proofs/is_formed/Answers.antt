-- `lists::is_formed` meets its contract: what is below 2^8 and 2^n is below 2^n. Assumes nothing.
use mathlib.Core.Path.{ap, sym}
use mathlib.Core.Bool.{Bool, ◌&&◌}
use Prim.Native.Nat.{ℕ, ◌^◌, ◌<◌, ◌≤◌, min}
use native.Mathlib.Nat.{pow-le-pow_right}
use native.Mathlib.Omega.{arith}
use lib.Dec.{eqb}
use borrow.Author.Tests.{lt-ltb}
use Rattle.std.specs.Int.Bits.{bit_and}
use Rattle.cube.specs.Words.{formed}
use Rattle.lists.proofs.is_formed.Goals as goal

below : (n x : ℕ) → x < 2 ^ min n 8 → x < 2 ^ n
below n x l = let more : 2 ^ min n 8 ≤ 2 ^ n = pow-le-pow_right (omega arith) (omega arith) in omega (arith, more)

pub returns-then-from-min : goal.returns-then-from-min
unfolding formed
returns-then-from-min c =
    let r = c.args.row in
    let small : r.care < 2 ^ c.args.n = below c.args.n r.care (grind (arith)) in
    ap (λ (b : Bool). b && eqb (bit_and r.value r.care) r.value) (sym (lt-ltb _ _ small))
