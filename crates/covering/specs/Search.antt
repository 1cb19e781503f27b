-- What the steps of a branch and bound must give: a reduction, and an answer below a limit. Definitions only. Assumes nothing.
use Rattle.std.specs.Prelude.{Bool, false, ◌||◌, ℕ, ◌+◌, ◌≤◌, ◌<◌, eqb}
use Rattle.covering.specs.Weighted.{AtLeast, SetCovers}

-- sets of rows: none, one, and those of either of two
abbrev pub none : ℕ → Bool
none i = false

abbrev pub only : ℕ → ℕ → Bool
only r i = eqb i r

abbrev pub ◌∪◌ : (ℕ → Bool) → (ℕ → Bool) → ℕ → Bool
◌∪◌ p q i = p i || q i

infixr 5 ◌∪◌
-- A reduction of the rows A and the columns U to A' and U', in which the rows `taken` of weight `cost` are taken: no more rows are live, a lower bound
-- of what is left bounds the whole, and a cover of what is left is one of the whole with the rows taken.
pub record Reduced (cov : ℕ → ℕ → Type 0) (w : ℕ → ℕ) (n : ℕ) (A U A' U' : ℕ → Type 0) (taken : ℕ → Bool) (cost : ℕ) : Type 0 where
  pub fewer : (i : ℕ) → A' i → A i
  pub low : (k : ℕ) → AtLeast cov w A' U' k → AtLeast cov w A U (cost + k)
  pub cover : (p : ℕ → Bool) (k : ℕ) → SetCovers cov w n A' U' p k → SetCovers cov w n A U (taken ∪ p) (cost + k)

-- the answer of a search below a limit: a lower bound k that is at most the limit, with a cover of that weight where it is below the limit
pub record Answers (cov : ℕ → ℕ → Type 0) (w : ℕ → ℕ) (n : ℕ) (A U : ℕ → Type 0) (limit k : ℕ) (p : ℕ → Bool) : Type 0 where
  pub low : AtLeast cov w A U k
  pub within : k ≤ limit
  pub cover : k < limit → SetCovers cov w n A U p k
