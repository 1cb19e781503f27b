-- Valid inequalities of the covers below a limit, and covers that have a given row. A price for each of some valid inequalities bounds those covers from
-- below, whatever the prices are. Definitions only. Assumes nothing.
use Rattle.std.specs.Prelude.{◌≡◌, List, [], ◌∷◌, ◌⊎◌, Bool, ℕ, ◌-◌, ◌≤◌, ◌<◌}
use Rattle.covering.specs.Sum.{if_set, sum}
use Rattle.covering.specs.Weighted.{Within, Covers, weight}

-- the row r is in a selection
abbrev pub Has : ℕ → List ℕ → Type 0
Has r [] = ⊥
Has r (x ∷ L) = (x ≡ r) ⊎ Has r L

-- sets of rows that a cover is asked to have: no row, and one
abbrev pub NoRow : ℕ → Type 0
NoRow i = ⊥

abbrev pub OnlyRow : ℕ → ℕ → Type 0
OnlyRow r i = i ≡ r

-- a rival: a cover of U by rows of A that weighs less than the limit and has the rows R
pub record Rival (cov : ℕ → ℕ → Type 0) (w : ℕ → ℕ) (A U : ℕ → Type 0) (limit : ℕ) (R : ℕ → Type 0) (L : List ℕ) : Type 0 where
  pub within : Within A L
  pub covers : Covers cov U L
  pub light : weight w L < limit
  pub has : (r : ℕ) → R r → Has r L

-- a valid inequality: the numbers a of the rows of each rival add up to b or more
pub record Valid (cov : ℕ → ℕ → Type 0) (w : ℕ → ℕ) (A U : ℕ → Type 0) (limit : ℕ) (R : ℕ → Type 0) (a : ℕ → ℕ) (b : ℕ) : Type 0 where
  pub bound : (L : List ℕ) → Rival cov w A U limit R L → b ≤ weight a L

-- every cover of U by rows of A below the limit has at least `need` rows
abbrev pub Needs : (ℕ → ℕ → Type 0) → (ℕ → ℕ) → (ℕ → Type 0) → (ℕ → Type 0) → ℕ → ℕ → Type 0
Needs cov w A U limit need = Valid cov w A U limit NoRow (λ i. 1) need

-- every cover of U by rows of A that has the row r weighs at least k
pub record AtLeastWith (cov : ℕ → ℕ → Type 0) (w : ℕ → ℕ) (A U : ℕ → Type 0) (r k : ℕ) : Type 0 where
  pub bound : (L : List ℕ) → Within A L → Covers cov U L → Has r L → k ≤ weight w L

-- what the rows of a set below n pay above their weights, where each pays `paid`
abbrev pub excess : (ℕ → ℕ) → ℕ → (ℕ → Bool) → (ℕ → ℕ) → ℕ
excess w n live paid = sum n (λ i. if_set (live i) (paid i - w i))
