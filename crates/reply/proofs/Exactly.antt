-- Document 01's example: the four primes of case f are all in its shortest lists, so there is one list, and the checker computes its lines.
-- Assumes nothing.
use mathlib.Core.Path.{◌≡◌, refl, ap, ◌∙◌}
use native.Mathlib.Omega.{arith}
use lib.ListN.{length}
use Rattle.numbers.specs.Below.{every, some, those, among, tabulate}
use Rattle.cube.specs.Words.{Cover, value_of, care_of, cube_matches, cube_literals, within, implicant, prime, primes_of}
use Rattle.cube.specs.Calls.{bad_cell}
use Rattle.cube.specs.Cases.{table_of, Holds, case_f, cases}
use Rattle.cube.proofs.Cases.{all_cases}
use Rattle.cube.proofs.Minimum.{shortest}
use Rattle.plan.specs.Plan.{ascends_from}
use Rattle.plan.specs.Theorems.{MayWrite}
use Rattle.plan.proofs.Sole.{all_primes}
use Rattle.text.specs.Characters.{bytes}
use Rattle.text.specs.Input.{read, read_run}
use Rattle.text.specs.Output.{output_of}
use Rattle.text.specs.Theorems.{example_list}
use Rattle.text.proofs.Examples.{examples}
use Rattle.reply.specs.Theorems.{GivesExactly}

holds_f : Holds case_f
unfolding cases
holds_f = all_cases.1.1.1.1.1.0

the_list : (list : Cover) → MayWrite 4 (table_of case_f) list → list ≡ example_list
unfolding ascends_from among table_of every some those tabulate cube_matches cube_literals within implicant prime primes_of value_of care_of
the_list list w =
    let rows : length list ≡ 4 = ((shortest 4 (table_of case_f)).counts list holds_f.list w.minimum holds_f.minimum).0 ∙ holds_f.rows in
    all_primes 4 (table_of case_f) list w.minimum w.is_ascending tt (omega (arith, rows, holds_f.primes)) ∙ refl

pub gives_exactly : GivesExactly
unfolding read read_run bad_cell among table_of some tabulate
gives_exactly text p =
    let is = the_list p.list (p.is_written (record { width = 4; cells = table_of case_f }) refl refl) in
    p.is_output ∙ ap (output_of (bytes "4\n0000000101101111\n")) is ∙ examples.list
