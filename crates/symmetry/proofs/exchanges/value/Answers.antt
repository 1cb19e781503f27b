-- `symmetry::exchanges::value` meets its contract: 1 << a is 2 ^ a, at most 32. Assumes nothing.
use Rattle.std.proofs.Common.{arith}
use lib.Pow.{pow_mono}
use Rattle.symmetry.proofs.exchanges.value.Goals as goal

pub returns : goal.returns
returns c =
    let least = pow_mono {i = c.args.a} {j = 5} (omega arith) in
    (omega arith, omega arith)
