-- `incumbent::Gathered::none` meets its contract: no row covers nothing and weighs nothing. Assumes nothing.
use Rattle.std.proofs.Common.{refl}
use Rattle.incumbent.proofs.Gathering.{counted_none}
use Rattle.incumbent.proofs.Gathered.none.Goals as goal

pub returns-clause-counted : goal.returns-clause-counted
returns-clause-counted c words weights = counted_none words weights _ c.none.ensures refl refl
