-- `primes::note_kinds` meets its contract: the kinds of the cubes before q are there, and the next one is made from them. Assumes nothing.
use Rattle.primes.specs.Steps.{KindsOf}
use Rattle.primes.proofs.note_kinds.Given as goal

abbrev pub invariant-loop-q : goal.invariant-loop-q
invariant-loop-q l = KindsOf l.table.width l.table.cells.now l.kinds.items l.q
