-- `essentials::essentials` meets its contract: there is a place for each cube. Assumes nothing.
use Rattle.cube.specs.Words.{essentials_of}
use Rattle.cube.proofs.Calls.{essentials_most}
use Rattle.tables.proofs.Listing.{listing_done}
use Rattle.essentials.proofs.essentials.Goals as goal

pub returns : goal.returns
returns c = listing_done essentials_of essentials_most c.in_ok-table.ensures.refusal c.in_ok-table.ensures.table c.list_essentials.ensures
