-- `neighbours::list_essentials` meets its contract: what is found at the codes before c is listed. Assumes nothing.
use Rattle.numbers.specs.Lent.{Puts}
use Rattle.neighbours.specs.Steps.{found_below}
use Rattle.neighbours.proofs.list_essentials.Given as goal

abbrev pub invariant-loop-c : goal.invariant-loop-c
invariant-loop-c l = Puts (found_below l.table.width l.table.cells.now l.c) l.initial.out 0 l.out l.count
