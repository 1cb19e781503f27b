-- The definitions on one example: the odd numbers below 5. `proofs/Examples.antt` computes them. Assumes nothing.
use Rattle.std.specs.Prelude.{◌≡◌, Bool, true, false, [], ◌∷◌, ℕ, ◌+◌, ◌*◌, ◌^◌, ◌%◌, eqb}
use Rattle.numbers.specs.Below.{every, some, those, count, among, tabulate, word_of}

abbrev pub odd : ℕ → Bool
odd i = eqb (i % 2) 1

pub record NumberExamples : Type 0 where
  pub ascending : those 5 odd ≡ 1 ∷ 3 ∷ []
  pub not_every : every 5 odd ≡ false
  pub some_one : some 5 odd ≡ true
  pub counted : count odd (1 ∷ 2 ∷ 3 ∷ []) ≡ 2
  pub stands : among 3 (1 ∷ 3 ∷ []) ≡ true
  pub values : tabulate 3 1 (λ i. i * i) ≡ 1 ∷ 4 ∷ 9 ∷ []
  pub bits : word_of 5 odd ≡ 2 ^ 1 + 2 ^ 3
