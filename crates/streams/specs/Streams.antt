-- What a program hands to standard output: the whole output for some input. Nothing is known of the bytes that a read delivers, so the promise cannot
-- say which; the proof takes what the reads put into their buffer, one piece after another. For a given text in memory `ProgramOutput`, of `text`, says it.
-- Assumes nothing.
use Rattle.std.specs.Prelude.{List, ℕ}

-- the text is the whole output of a program for some input
pub record WholeOutput (Output : List ℕ → List ℕ → Type 0) (text : List ℕ) : Type 0 where
  -- some input: in the proof the bytes that the reads delivered, or where a read failed a text that is not in form
  pub input : List ℕ
  pub output : Output input text
