-- `text::input::Reader::feed` meets its contract: at each turn the bytes before it are read. Assumes nothing.
use Rattle.std.proofs.Common.{◌≡◌, take}
use Rattle.text.specs.Steps.{fed}
use Rattle.text.proofs.input.Reader.feed.Given as goal

abbrev pub invariant-loop-byte : goal.invariant-loop-byte
invariant-loop-byte l = l.self ≡ fed l.initial.self (take l.byte-index l.piece)
