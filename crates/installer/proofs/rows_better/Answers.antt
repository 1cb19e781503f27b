-- `installer::rows_better` meets its contract: the promise of the call that builds both lists, and the number of its answer. Assumes nothing.
use Rattle.installer.specs.Numbers.{number_of_built, built_at}
use Rattle.installer.proofs.Reading.{told}
use Rattle.installer.proofs.Totals.{few_built, read_built}
use Rattle.installer.proofs.rows_better.Goals as goal

pub number_by-requires : goal.number_by-requires
number_by-requires c = few_built _ c.better.ensures

pub returns : goal.returns
returns c =
    let told = told number_of_built built_at read_built _ (few_built _ c.better.ensures) _ c.number_by.type_inv c.number_by.ensures in
    record { built = c.better.result; builds = c.better.ensures; number = told.0; read = told.1 }
