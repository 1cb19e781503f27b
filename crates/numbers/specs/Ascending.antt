-- An iterator that gives numbers, ascending. Of its state, `end` is a bound of the numbers that are left, and `left` tells of each number below the bound
-- whether it is left. `Loops` of `proofs/` has what a loop over such an iterator may use. Assumes nothing.
use Rattle.std.specs.Prelude.{◌≡◌, ℕ, ◌+◌, ◌<◌, ◌≤◌, Bool, true, false, ◌&&◌, List, [], ◌∷◌, ◌++◌, length, Option, Some, MatchOption, ltb}
use Rattle.std.specs.Iterator.{Count, at_most}
use Rattle.std.specs.Iterator.Runs.{Run, AllItems}
use Rattle.numbers.specs.Below.{those}

module _ {S : Type 0} (end : S → ℕ) (left : S → ℕ → Bool) where
  -- x is the least number that was left, and those above it are left now
  pub record TakesLeast (s : S) (x : ℕ) (t : S) : Type 0 where
    pub within : x < end s
    pub here : left s x ≡ true
    pub before : (j : ℕ) → j < x → left s j ≡ false
    pub bound : end t ≡ end s
    pub above : (j : ℕ) → left t j ≡ (ltb x j && left s j)

  -- a call of `next` gave the least number that was left, or `None` where none was left
  abbrev pub YieldsBelow : S → Option ℕ → S → Type 0
  YieldsBelow s r t = MatchOption r ((j : ℕ) → j < end s → left s j ≡ false) (λ x. TakesLeast s x t)

  -- as many numbers as are left
  abbrev pub left_count : S → Count
  left_count s = at_most (length (those (end s) (left s)))

-- ---- a run of such an iterator

-- how far items have come: the number after the last one, or 0 where there is none
abbrev pub passed : List ℕ → ℕ
passed [] = 0
passed (x ∷ []) = x + 1
passed (x ∷ y ∷ ys) = passed (y ∷ ys)

module _ (n : ℕ) (p : ℕ → Bool) {S : Type 0} {steps : S → Option ℕ → S → Type 0} (r : Run steps) where
  -- its items are numbers below n that p holds of, and no more of them than n
  abbrev pub GivesThose : Type 0
  GivesThose = (r.len ≤ n) × AllItems r (λ x. (x < n) × (p x ≡ true))

  -- of each number that was passed over p does not hold
  abbrev pub GivesLeast : Type 0
  GivesLeast = (ys : List ℕ) (x : ℕ) → r.items ≡ ys ++ x ∷ [] → (passed (ys ++ x ∷ []) ≡ x + 1) × (passed ys ≤ x) × ((j : ℕ) → passed ys ≤ j → j < x → p j ≡ false)

  -- each number that was passed and that p holds of is an item
  abbrev pub GivesEach : Type 0
  GivesEach = (j : ℕ) → p j ≡ true → j < passed r.items → (k : ℕ) × (k < r.len) × (r.at k ≡ Some j)

  -- where it is whole, all of them are passed
  abbrev pub GivesAll : Type 0
  GivesAll = r.whole ≡ true → (passed r.items ≤ n) × ((j : ℕ) → p j ≡ true → j < n → j < passed r.items) × (r.items ≡ those n p)

  abbrev pub GivesBelow : Type 0
  GivesBelow = GivesThose × GivesLeast × GivesEach × GivesAll
