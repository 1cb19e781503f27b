-- `text::output::line` meets its contract: at each turn the characters of the variables before xk are written. Assumes nothing.
use Rattle.std.proofs.Common.{◌≡◌, ◌++◌, ◌+◌, ◌-◌, ◌≤◌}
use Rattle.numbers.specs.Below.{tabulate}
use Rattle.text.specs.Output.{character_of_variable}
use Rattle.text.proofs.output.line.Given as goal

abbrev pub invariant-loop-k : goal.invariant-loop-k
invariant-loop-k g l = (l.k ≤ l.n + 1) × (l.out.bytes ≡ l.initial.out.bytes ++ tabulate (l.k - 1) 1 (character_of_variable l.n l.row))
