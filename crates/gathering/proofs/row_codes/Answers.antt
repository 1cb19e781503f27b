-- `gathering::row_codes` meets its contract: at each turn the set holds the codes that are the value but for untested bits below `bit`. Assumes nothing.
use mathlib.Core.Path.{◌≡◌, subst}
use mathlib.Core.Bool.{true}
use Prim.Native.Nat.{ℕ}
use native.Mathlib.Omega.{arith}
use Rattle.std.specs.Bool.{passes}
use Rattle.cube.specs.Words.{Row, formed}
use Rattle.cube.proofs.Calls.{codes_most}
use Rattle.cube.proofs.Rows.{Formed, formed_means}
use Rattle.gathering.proofs.RowCodes.{Agreeing, row_value_lt, row_more, row_exactly}
use Rattle.gathering.proofs.row_codes.Goals as goal

formed_at : (n : ℕ) (row : Row) → formed n row ≡ true → Formed n row.value row.care
formed_at n row e = formed_means n row (passes _ e)

pub only-matched-requires : goal.only-matched-requires
only-matched-requires c =
    let row = c.args.row in
    omega (arith, row_value_lt row.value row.care c.args.n (formed_at c.args.n row c.requires.1), codes_most c.args.n c.requires.0)

pub loop-bit-preserved : goal.loop-bit-preserved
loop-bit-preserved c =
    let row = c.args.row in
    let l = c.loop-bit in
    row_more row.value row.care c.args.n (formed_at c.args.n row c.requires.1) l.bit c.loop-bit-test.true (codes_most c.args.n c.requires.0) l.matched
    c.with_bit-matched.result l.invariant c.with_bit-matched.ensures

pub returns : goal.returns
returns c =
    let row = c.args.row in
    let l = c.loop-bit in
    let all : l.bit ≡ c.args.n = omega arith in
    row_exactly row.value row.care c.args.n (formed_at c.args.n row c.requires.1) l.matched (subst (Agreeing row.value row.care l.matched) all l.invariant)
