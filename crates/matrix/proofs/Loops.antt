-- Loops over sets, where an answer is written out: what an item and the end of a loop over the rows or the columns of a set tell, and a sum over the members
-- passed. Assumes nothing.
use mathlib.Core.Path.{◌≡◌, sym, ap, ap₂, ◌∙◌}
use mathlib.Core.List.{List, [], ◌∷◌, ◌++◌}
use mathlib.Core.Bool.{Bool}
use Prim.Native.Nat.{ℕ, ◌+◌}
use native.Mathlib.Numerals.{add-one}
use native.Mathlib.Omega.{arith}
use Rattle.std.specs.Prelude.{Option, None, Some}
use Rattle.std.specs.Iterator.{Yields}
use Rattle.std.proofs.lemmas.Bool.{false_from_ne_true}
use Rattle.covering.specs.Sum.{if_set, sum}
use Rattle.covering.proofs.Sums.{sum_skip, if_set_true, if_set_false}
use Rattle.numbers.specs.Below.{those}
use Rattle.numbers.specs.Ascending.{passed}
use Rattle.numbers.proofs.Below.{those_same}
use Rattle.numbers.proofs.Loops.{Turn, Ended, turn_in, end_has}
use Rattle.matrix.specs.Sets.{word_bits, has_bit, member}
use Rattle.matrix.specs.Walks.{bits_end, bits_left, YieldsBits, rows_end, rows_left, YieldsRows}
use Rattle.matrix.specs.declared.rows.Rows.{Rows}
use Rattle.matrix.specs.declared.words.Bits.{Bits}

-- ---- a loop over the rows of a set before `end`: a is its iterator, which `iter` gave as b

module _ (set : List ℕ) (end : ℕ) (a b s t : Rows) (ys : List ℕ) (r : Option ℕ) (e : a ≡ b) (n : b.end ≡ end) (p : (j : ℕ) → rows_left b j ≡ member set j)
    (y : Yields YieldsRows a ys s) (k : YieldsRows s r t) where
  left_is : (j : ℕ) → rows_left a j ≡ member set j
  left_is j = ap (λ (c : Rows). rows_left c j) e ∙ p j

  end_is : a.end ≡ end
  end_is = ap (λ (c : Rows). c.end) e ∙ n

  pub rows_turn : (x : ℕ) → r ≡ Some x → Turn end (member set) ys x
  rows_turn x i = let h = turn_in rows_end rows_left a s t ys r x y k i in record {
    within = omega (arith, h.within, end_is);
    here = sym (left_is x) ∙ h.here;
    above = h.above;
    between = λ j l m. sym (left_is j) ∙ h.between j l m;
    comes = h.comes;
  }

  pub rows_end_has : r ≡ None → Ended end (member set) ys
  rows_end_has i = let h = end_has rows_end rows_left a s t ys r y k i in record {
    within = omega (arith, h.within, end_is);
    all = λ j l m. h.all j (omega (arith, end_is)) (left_is j ∙ m);
    items = h.items ∙ those_same a.end (rows_left a) (member set) (λ j l. left_is j) ∙ ap (λ (m : ℕ). those m (member set)) end_is;
  }

-- ---- a loop over the columns of a set, whose iterator is a

module _ (set : ℕ) (a s t : Bits) (ys : List ℕ) (r : Option ℕ) (e : a.left ≡ set) (y : Yields YieldsBits a ys s) (k : YieldsBits s r t) where
  pub columns_turn : (x : ℕ) → r ≡ Some x → Turn word_bits (has_bit set) ys x
  columns_turn x i = rw (← e) (turn_in bits_end bits_left a s t ys r x y k i)

  pub columns_end_has : r ≡ None → Ended word_bits (has_bit set) ys
  columns_end_has i = rw (← e) (end_has bits_end bits_left a s t ys r y k i)

-- ---- a sum over the members passed

module _ (p : ℕ → Bool) (f : ℕ → ℕ) (n : ℕ) (ys : List ℕ) where
  pub sum_turn : (x : ℕ) → Turn n p ys x → sum (passed ys) (λ i. if_set (p i) (f i)) + f x ≡ sum (passed (ys ++ x ∷ [])) (λ i. if_set (p i) (f i))
  unfolding sum
  sum_turn x t =
      ap₂ ◌+◌ (sym (sum_skip (passed ys) x t.above (λ i l m. if_set_false (f i) (t.between i l m)))) (sym (if_set_true (f x) t.here))
      ∙ ap (λ (m : ℕ). sum m (λ i. if_set (p i) (f i))) (sym (t.comes ∙ add-one x))

  pub sum_all : Ended n p ys → sum (passed ys) (λ i. if_set (p i) (f i)) ≡ sum n (λ i. if_set (p i) (f i))
  sum_all t =
      sym (sum_skip (passed ys) n t.within (λ i l m. if_set_false (f i) (false_from_ne_true (p i) (λ h. omega (arith, t.all i m h)))))
