-- `bound::certificate::DualSolution::low` meets its contract: the total is a lower bound, and so is the total rounded up in rows. Assumes nothing.
use Rattle.bound.proofs.Pricing.{total_low}
use Rattle.bound.proofs.certificate.DualSolution.low.Goals as goal

pub returns : goal.returns
returns c = total_low _ _ c.args.self.now.shows c.rounded.ensures
