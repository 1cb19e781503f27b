-- `installer::rows_keep_out` meets its contract: the keep-out call's promise, and the number of its answer. Assumes nothing.
use Rattle.installer.specs.Numbers.{number_of_totals, totals_at}
use Rattle.installer.proofs.Reading.{told}
use Rattle.installer.proofs.Totals.{few_kept_out, read_totals}
use Rattle.installer.proofs.rows_keep_out.Goals as goal

pub number_by-requires : goal.number_by-requires
number_by-requires c = few_kept_out _ c.keep_out.ensures

pub returns : goal.returns
returns c =
    let told = told number_of_totals totals_at read_totals _ (few_kept_out _ c.keep_out.ensures) _ c.number_by.type_inv c.number_by.ensures in
    record { planned = c.keep_out.result; plans = c.keep_out.ensures; number = told.0; read = told.1 }
