-- The examples of `specs/Examples.antt`, computed. Assumes nothing.
use mathlib.Core.Path.{refl}
use Rattle.numbers.specs.Below.{every, some, those, count, among, tabulate, word_of}
use Rattle.numbers.specs.Examples.{NumberExamples}

pub number_examples : NumberExamples
unfolding every some those count among tabulate word_of
number_examples = record { ascending = refl; not_every = refl; some_one = refl; counted = refl; stands = refl; values = refl; bits = refl }
