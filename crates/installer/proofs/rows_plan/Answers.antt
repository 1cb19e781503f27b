-- `installer::rows_plan` meets its contract: Plan's promise, and the number of its answer. Assumes nothing.
use Rattle.installer.specs.Numbers.{number_of_totals, totals_at}
use Rattle.installer.proofs.Reading.{told}
use Rattle.installer.proofs.Totals.{few_totals, read_totals}
use Rattle.installer.proofs.rows_plan.Goals as goal

pub number_by-requires : goal.number_by-requires
number_by-requires c = few_totals _ c.plan.ensures

pub returns : goal.returns
returns c =
    let told = told number_of_totals totals_at read_totals _ (few_totals _ c.plan.ensures) _ c.number_by.type_inv c.number_by.ensures in
    record { planned = c.plan.result; plans = c.plan.ensures; number = told.0; read = told.1 }
