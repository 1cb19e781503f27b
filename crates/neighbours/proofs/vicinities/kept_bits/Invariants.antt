-- `neighbours::vicinities::kept_bits` meets its contract: the bits from k up are read. Assumes nothing.
use Rattle.neighbours.proofs.Reading.{ReadTo}
use Rattle.neighbours.proofs.vicinities.kept_bits.Given as goal

abbrev pub invariant-loop-k : goal.invariant-loop-k
invariant-loop-k l = ReadTo l.table.width l.table.cells.now l.c l.k l.kept
