-- `into_iter` of `matrix::words::Word` meets its contract: at first each bit is left, and the bits of a word are below 64. Assumes nothing.
use Rattle.std.proofs.Common.{ℕ, ap, refl}
use Rattle.numbers.proofs.Loops.{runs_below}
use Rattle.matrix.specs.Sets.{has_bit}
use Rattle.matrix.specs.Walks.{bits_end, bits_left}
use Rattle.matrix.proofs.Bits.{bits_within}
use Rattle.matrix.proofs.words.WordIntoIterator.into_iter.Goals as goal

pub returns : goal.returns
returns c = record {
  into_iter_gives = (c.self.view_is, λ b h. bits_within _ _ b h c.self.view_is c.self.invariant, runs_below bits_end bits_left _ refl (λ j. ap (λ (w : ℕ). has_bit w j) c.self.view_is));
}
