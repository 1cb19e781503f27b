-- `symmetry::exchanges::Exchange::of_set` meets its contract: the flags of the sets that are joined, at one column. Assumes nothing.
use Rattle.symmetry.proofs.Partners.{at_partner}
use Rattle.symmetry.proofs.exchanges.Exchange.of_set.Goals as goal

pub returns : goal.returns
returns c x =
    cc (
      c.bitor-3.ensures x,
      c.sub-2.ensures x,
      c.bitor-2.ensures x,
      c.bitor.ensures x,
      c.bitand-down.ensures x,
      c.sub.ensures x,
      c.shr.ensures x,
      c.bitand-up.ensures x,
      c.shl.ensures x,
      c.shl-high.ensures x,
      at_partner c.args.self c.args.set x,
    )
