-- What is left in lent places that a list was written into, from some place on. Assumes nothing.
use Rattle.std.specs.Prelude.{◌≡◌, List, ℕ, ◌+◌, length}
use Rattle.std.proofs.lemmas.List.Edits.{sets}

-- the list is in the lent places from place `at` on, all other places are as they were, and `next` is the place after it
pub record Puts {A : Type 0} (list old : List A) (at : ℕ) (new : List A) (next : ℕ) : Type 0 where
  pub behind : next ≡ at + length list
  pub places : new ≡ sets old at list
