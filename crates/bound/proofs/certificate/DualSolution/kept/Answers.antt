-- `bound::certificate::DualSolution::kept` meets its contract: what leaves out one more row loses no cover below the limit either. Assumes nothing.
use Rattle.bound.proofs.Pricing.{kept_turn}
use Rattle.bound.proofs.certificate.DualSolution.kept.Goals as goal

pub loop-i-preserved-then-excludes : goal.loop-i-preserved-then-excludes
loop-i-preserved-then-excludes c =
    kept_turn _ _ c.args.self.now.shows c.in-Some.i (c.excludes.ensures c.if-excludes.true) c.remove.ensures c.loop-i.invariant
