-- Prices as a dual solution: each undecided column is an inequality, times its price. The bound is the sum of the prices, it is rounded up in rows, and a
-- row whose own weight with the bound of what it leaves reaches the limit is in no cover below the limit. Assumes nothing.
use Rattle.std.proofs.Common.{◌≡◌, ℕ, ◌+◌, ◌-◌, ◌*◌, ◌/◌, ◌<◌, ◌≤◌, max, Bool, true, false, not, ◌&&◌, eqb, ◌⊎◌, List, refl, ap, ◌∙◌, ap₂, inl, inr, mul-le-mul_right, arith}
use Rattle.std.specs.Int.{div_ceil}
use Rattle.std.proofs.lemmas.Grind.{div_ceil_times}
use Rattle.std.proofs.Math.Nat.{le-div_iff_mul-le, mul-le-mul_left}
use native.Mathlib.Decide.{dec_lt}
use Rattle.covering.specs.Sum.{if_set}
use Rattle.covering.specs.Weighted.{AtLeast}
use Rattle.numbers.proofs.Flags.{kept_of_lem}
use Rattle.covering.proofs.Sums.{sum_same, sum_mono, sum-add, if_set_mono}
use Rattle.covering.proofs.Bounds.{smaller, narrower, nothing, column, dual, in_rows, branch, useful}
use Rattle.matrix.specs.Sets.{ColumnSet, RowSet, column_limit, has, member, Member}
use Rattle.matrix.specs.Matrix.{row_count, covered, CoversColumn, weight_of, Low}
use Rattle.matrix.proofs.Without.{left_in, left_rest, covers_past}
use Rattle.pricing.specs.Prices.{price_of, worth}
use Rattle.bound.specs.Bound.{Kept}
use Rattle.bound.specs.Steps.{row_columns, Certificate, Ranges, Rounded}

-- ---- what columns are worth

module _ (prices : List ℕ) (p q : ℕ → Bool) where
  -- no more, where q holds of every column that p holds of
  worth_fewer : ((c : ℕ) → p c ≡ true → q c ≡ true) → worth prices p ≤ worth prices q
  worth_fewer f = sum_mono column_limit (λ c. if_set_mono (p c) (q c) (price_of prices c) (f c))

  -- the columns of q are those that p holds of as well, and the others
  worth_split : worth prices q ≡ worth prices (λ c. p c && q c) + worth prices (λ c. q c && not (p c))
  worth_split =
      sum_same column_limit (λ c l. split (p c) (q c) (price_of prices c))
      ∙ sum-add column_limit (λ c. if_set (p c && q c) (price_of prices c)) (λ c. if_set (q c && not (p c)) (price_of prices c))
    where
      split : (a b : Bool) (x : ℕ) → if_set b x ≡ if_set (a && b) x + if_set (b && not a) x
      split true true x = omega arith
      split true false x = omega arith
      split false true x = omega arith
      split false false x = omega arith

-- a quotient that std rounds up is no more than the one that covering rounds up
ceil_least : (low most : ℕ) → 0 < most → div_ceil low most ≤ (low + (most - 1)) / most
ceil_least low most pos = (le-div_iff_mul-le pos).1 (let b = (div_ceil_times low most pos).1 in omega arith)

module _ (words weights : List ℕ) where
  -- ---- the bound, of any columns p

  -- each live row pays for its columns among them
  PaidFor : RowSet → (ℕ → Bool) → List ℕ → Type 0
  PaidFor live p prices = (i : ℕ) → i < row_count words → Member live i → worth prices (λ c. has (covered words i) c && p c) ≤ weight_of weights i

  -- a live row is before the end, or covers nothing
  Row : RowSet → ℕ → Type 0
  Row live i = Member live i × (i < row_count words)

  before_end : (live : RowSet) (i : ℕ) → Member live i → Row live i ⊎ ((c : ℕ) → CoversColumn words i c → ⊥)
  unfolding Row
  before_end live i m = go (dec_lt i (row_count words))
    where
      go : Dec (i < row_count words) → Row live i ⊎ ((c : ℕ) → CoversColumn words i c → ⊥)
      go (yes l) = inl (m, l)
      go (no n) = inr (λ c h. covers_past words i c (omega arith) h)

  paid_low : (live : RowSet) (p : ℕ → Bool) (prices : List ℕ) → PaidFor live p prices → AtLeast (CoversColumn words) (weight_of weights) (Member live) (λ c. p c ≡ true) (worth prices p)
  unfolding Row PaidFor
  paid_low live p prices f =
      useful (CoversColumn words) (weight_of weights) (before_end live)
      (dual (CoversColumn words) column_limit (λ c i. if_set (has (covered words i) c && p c) (price_of prices c)) (λ c. if_set (p c) (price_of prices c)) (λ c. one c (p c) refl) (λ i r. f i r.1 r.0))
    where
      one : (c : ℕ) (b : Bool) → p c ≡ b
          → AtLeast (CoversColumn words) (λ i. if_set (has (covered words i) c && p c) (price_of prices c)) (Row live) (λ c. p c ≡ true) (if_set (p c) (price_of prices c))
      one c true e = column (CoversColumn words) c (if_set (p c) (price_of prices c)) e (λ i r h. if_set_mono (p c) (has (covered words i) c && p c) (price_of prices c) (λ k. ap₂ ◌&&◌ h k))
      one c false e = smaller (CoversColumn words) (omega (arith, ap (λ (b : Bool). if_set b (price_of prices c)) e)) (nothing (CoversColumn words))

  -- fewer rows and fewer columns
  paid_less : (live rest : RowSet) (p q : ℕ → Bool) (prices : List ℕ) → ((i : ℕ) → Member rest i → Member live i) → ((c : ℕ) → q c ≡ true → p c ≡ true)
      → PaidFor live p prices → PaidFor rest q prices
  unfolding PaidFor
  paid_less live rest p q prices g h f i l m =
      omega (arith, f i l (g i m), worth_fewer prices (λ c. has (covered words i) c && q c) (λ c. has (covered words i) c && p c) (λ c. widen (has (covered words i) c) (q c) (p c) (h c)))
    where
      widen : (a b d : Bool) → (b ≡ true → d ≡ true) → (a && b) ≡ true → (a && d) ≡ true
      widen true b d k e = k e
      widen false b d k e = e

  -- ---- rounding in rows

  in_rows_low : (live : RowSet) (u : ColumnSet) (low least most : ℕ) → Ranges weights live (row_count words) least most → Low words weights live u low
      → Low words weights live u (least * div_ceil low most)
  unfolding Row
  in_rows_low live u low least most r b =
      useful (CoversColumn words) (weight_of weights) (before_end live)
      (smaller (CoversColumn words) (mul-le-mul_left least (ceil_least low most r.positive))
      (in_rows (CoversColumn words) least most r.positive (λ i m. (r.above i m.1 m.0, r.below i m.1 m.0))
      (narrower (CoversColumn words) (λ i m. m.0) (λ c h. h) (omega arith) b)))

  pub rounded_low : (live : RowSet) (low least most : ℕ) → Ranges weights live (row_count words) least most
      → Rounded words weights live low (max low (least * div_ceil low most))
  rounded_low live low least most r u b =
      let d = in_rows_low live u low least most r b in record { bound = λ L l s. omega (arith, b.bound L l s, d.bound L l s) }

  -- ---- rows that no cover below the limit has

  module _ {u : ColumnSet} {limit : ℕ} where
    pub kept_then : {live rest last : RowSet} → Kept words weights live u limit rest → Kept words weights rest u limit last → Kept words weights live u limit last
    kept_then f g = record { fewer = λ i h. f.fewer i (g.fewer i h); low = λ k l b. f.low k l (g.low k l b) }

  -- ---- what a certificate shows

  module _ {u : ColumnSet} {limit total : ℕ} {live rest : RowSet} {prices : List ℕ} (h : Certificate words weights live u limit prices total) where
    -- it is one for fewer rows too
    pub certificate_kept : Kept words weights live u limit rest → Certificate words weights rest u limit prices total
    unfolding PaidFor
    certificate_kept k = record { limited = h.limited; valued = h.valued; feasible = paid_less live rest (has u) (has u) prices k.fewer (λ c m. m) h.feasible }

    -- what a row leaves is worth the total less what the row pays for its undecided columns
    pub kept_without : (i : ℕ) → limit + worth prices (row_columns words u i) ≤ weight_of weights i + total
        → ((j : ℕ) → member rest j ≡ (member live j && not (eqb j i))) → Kept words weights live u limit rest
    unfolding PaidFor
    kept_without i l e = record {
      fewer = left_in live rest i e;
      low = λ k m b. branch (CoversColumn words) (weight_of weights) i (left_rest live rest i e) k (λ c. kept_of_lem (has u c) (row c) refl)
          (paid_low rest left prices (paid_less live rest (has u) left prices (left_in live rest i e) (λ c n. (kept_of_lem (has u c) (row c) refl n).0) h.feasible)) b
          (omega (arith, worth_split prices row (has u))) (omega arith);
    }
      where
        row : ℕ → Bool
        row = has (covered words i)

        left : ℕ → Bool
        left c = has u c && not (row c)

  -- its total, rounded up, is a lower bound
  pub total_low : {u : ColumnSet} {limit total low : ℕ} {live : RowSet} {prices : List ℕ} → Certificate words weights live u limit prices total
      → Rounded words weights live total low → (k : ℕ) → k ≤ low → Low words weights live u k
  unfolding PaidFor
  total_low {u = u} {live = live} {prices = prices} h r k l =
      smaller (CoversColumn words) l (r u (smaller (CoversColumn words) (omega arith) (paid_low live (has u) prices h.feasible)))

  -- the row may be dropped from those that are left of the live ones
  pub kept_turn : {u : ColumnSet} {limit total : ℕ} {live rest last : RowSet} {prices : List ℕ} → Certificate words weights live u limit prices total
      → (i : ℕ) → limit + worth prices (row_columns words u i) ≤ weight_of weights i + total → ((j : ℕ) → member last j ≡ (member rest j && not (eqb j i)))
      → Kept words weights live u limit rest → Kept words weights live u limit last
  kept_turn h i l e k = kept_then k (kept_without (certificate_kept h k) i l e)

-- least * rows fits, where rows is a bound divided by a larger number
pub rows_small : (low least most : ℕ) → 0 < most → least ≤ most → least * div_ceil low most ≤ low + most
rows_small low least most pos l =
    let b = (div_ceil_times low most pos).1 in omega (arith, mul-le-mul_right (div_ceil low most) l)
