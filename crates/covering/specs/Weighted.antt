-- Weighted covers. Rows and columns are numbers, `cov r c` says that the row r covers the column c, and `w r` is the weight of the row r. Sets of
-- rows and of columns are arbitrary predicates: nothing here says how many there are or how they are stored. Definitions only. Assumes nothing.
use Rattle.std.specs.Prelude.{◌≡◌, List, [], ◌∷◌, ◌⊎◌, Bool, true, ℕ, ◌+◌, ◌≤◌}
use Rattle.covering.specs.Sum.{if_set, sum}

-- A selection is a list of rows, in any order and with repeats. Each row of it is one of A.
abbrev pub Within : (ℕ → Type 0) → List ℕ → Type 0
Within A [] = Unit {0}
Within A (r ∷ L) = A r × Within A L

-- some row of the selection covers the column
abbrev pub Hits : (ℕ → ℕ → Type 0) → List ℕ → ℕ → Type 0
Hits cov [] c = ⊥
Hits cov (r ∷ L) c = cov r c ⊎ Hits cov L c

-- a cover of U: a selection that covers every column of U
abbrev pub Covers : (ℕ → ℕ → Type 0) → (ℕ → Type 0) → List ℕ → Type 0
Covers cov U L = (c : ℕ) → U c → Hits cov L c

-- what the rows of a selection weigh, a repeated row counted each time
abbrev pub weight : (ℕ → ℕ) → List ℕ → ℕ
weight w [] = 0
weight w (r ∷ L) = w r + weight w L

-- a lower bound: every cover of U by rows of A weighs at least k
pub record AtLeast (cov : ℕ → ℕ → Type 0) (w : ℕ → ℕ) (A U : ℕ → Type 0) (k : ℕ) : Type 0 where
  pub bound : (L : List ℕ) → Within A L → Covers cov U L → k ≤ weight w L

-- a minimum cover: a cover of U by rows of A, of weight k, and no cover of U by rows of A is lighter
pub record LeastCover (cov : ℕ → ℕ → Type 0) (w : ℕ → ℕ) (A U : ℕ → Type 0) (L : List ℕ) (k : ℕ) : Type 0 where
  pub within : Within A L
  pub covers : Covers cov U L
  pub weighs : weight w L ≡ k
  pub least : (M : List ℕ) → Within A M → Covers cov U M → k ≤ weight w M

-- what the rows of a set below n weigh, and how many there are
abbrev pub total : (ℕ → ℕ) → ℕ → (ℕ → Bool) → ℕ
total w n p = sum n (λ i. if_set (p i) (w i))

abbrev pub set_size : ℕ → (ℕ → Bool) → ℕ
set_size n p = total (λ i. 1) n p

-- the set p of rows below n is a cover of U by rows of A, of weight k
pub record SetCovers (cov : ℕ → ℕ → Type 0) (w : ℕ → ℕ) (n : ℕ) (A U : ℕ → Type 0) (p : ℕ → Bool) (k : ℕ) : Type 0 where
  pub live : (i : ℕ) → p i ≡ true → A i
  pub covers : (c : ℕ) → U c → (i : ℕ) × (p i ≡ true) × cov i c
  pub weighs : total w n p ≡ k
