-- `streams::read_all` meets its contract: after each turn the state is the one after the pieces so far. Assumes nothing.
use Rattle.streams.specs.Steps.{ReadAll}
use Rattle.streams.proofs.read_all.Given as goal

abbrev pub invariant-loop : goal.invariant-loop
invariant-loop g l = ReadAll l.reader
