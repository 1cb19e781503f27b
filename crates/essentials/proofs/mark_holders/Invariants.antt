-- `essentials::mark_holders` meets its contract: the marks before q are right. Assumes nothing.
use Rattle.essentials.specs.Steps.{HolderMarks}
use Rattle.essentials.proofs.mark_holders.Given as goal

abbrev pub invariant-loop-q : goal.invariant-loop-q
invariant-loop-q l = HolderMarks l.words l.sole l.marks l.q
