-- What the iterators over sets take, and how many rows there are. Assumes nothing.
use mathlib.Core.Path.{◌≡◌, refl, sym, ap, ap₂, ◌∙◌}
use mathlib.Core.List.{List, [], ◌∷◌}
use mathlib.Core.Bool.{Bool, true, false, cond, ◌&&◌}
use Prim.Native.Nat.{ℕ, zero, suc, ◌+◌, ◌-◌, ◌<◌}
use native.Mathlib.Omega.{arith}
use lib.Dec.{ltb}
use lib.ListN.{length, length-append}
use Rattle.covering.specs.Sum.{if_set, sum}
use Rattle.covering.specs.Weighted.{set_size}
use Rattle.numbers.specs.Below.{those}
use Rattle.numbers.specs.Ascending.{TakesLeast}
use Rattle.matrix.specs.Sets.{word_bits, has_bit, Next}
use Rattle.matrix.specs.Walks.{bits_end, bits_left, left_behind, rows_end, rows_left}
use Rattle.matrix.proofs.Members.{left_here, left_before, left_after}
use Rattle.matrix.specs.declared.rows.Rows.{Rows}

pub bit_taken : {w w' b : ℕ} → (b < word_bits) × Next (has_bit w) 0 word_bits b → ((b : ℕ) → Next (has_bit w) 0 word_bits b → (x : ℕ) → has_bit w' x ≡ (ltb b x && has_bit w x))
    → TakesLeast bits_end bits_left (record { left = w }) b (record { left = w' })
bit_taken {w} {w'} {b} n f = record { within = n.0; here = n.1.here n.0; before = λ j l. n.1.before j (omega arith) l; bound = refl; above = f b n.1 }

-- a word that is that of s
pub word_is : (s : Rows) (w : ℕ) → w ≡ s.word → (j : ℕ) → left_behind (w ∷ s.rest.now) s.base j ≡ rows_left s j
word_is s w i j = ap (λ (x : ℕ). left_behind (x ∷ s.rest.now) s.base j) i

-- a row of s, where as much is left as of a, and t has what is behind it
pub row_taken : (a s t : Rows) (w v b : ℕ) → (s.end ≡ a.end) × ((j : ℕ) → rows_left s j ≡ rows_left a j) → w ≡ s.word → (b < word_bits) × Next (has_bit w) 0 word_bits b
    → ((b : ℕ) → Next (has_bit w) 0 word_bits b → (x : ℕ) → has_bit v x ≡ (ltb b x && has_bit w x)) → t.word ≡ v → b < s.end - s.base → t.rest.now ≡ s.rest.now
    → t.base ≡ s.base → t.end ≡ s.end → TakesLeast rows_end rows_left a (s.base + b) t
row_taken a s t w v b h i n f k l p q r = record {
  within = omega (arith, h.0);
  here = sym (h.1 (s.base + b)) ∙ sym (word_is s w i (s.base + b)) ∙ left_here w s.rest.now s.base b n;
  before = λ j l. sym (h.1 j) ∙ sym (word_is s w i j) ∙ left_before w s.rest.now s.base b n j l;
  bound = r ∙ h.0;
  above = λ j.
      ap (λ (x : ℕ). left_behind (x ∷ t.rest.now) t.base j) k ∙ ap₂ (λ (z : List ℕ) (x : ℕ). left_behind (v ∷ z) x j) p q
      ∙ left_after w s.rest.now s.base b n v (f b n.1) j ∙ ap (λ (x : Bool). ltb (s.base + b) j && x) (word_is s w i j ∙ h.1 j);
}

-- no row is left of s, where as much is left as of a
pub none_left : (a s : Rows) (w : ℕ) → (s.end ≡ a.end) × ((j : ℕ) → rows_left s j ≡ rows_left a j) → w ≡ s.word
    → ((j : ℕ) → j < s.end → left_behind (w ∷ s.rest.now) s.base j ≡ false) → (j : ℕ) → j < a.end → rows_left a j ≡ false
none_left a s w h i f j l = sym (h.1 j) ∙ sym (word_is s w i j) ∙ f j (omega (arith, h.0))

-- ---- how many rows there are

those_size : (n : ℕ) (p : ℕ → Bool) → length (those n p) ≡ set_size n p
unfolding those sum
those_size zero p = refl
those_size (suc n) p = length-append (those n p) (cond (p n) (n ∷ []) []) ∙ ap₂ ◌+◌ (those_size n p) (go (p n))
  where
    go : (b : Bool) → length (cond b (n ∷ []) []) ≡ if_set b 1
    go true = refl
    go false = refl

pub rows_counted : (n : ℕ) (p : ℕ → Bool) (xs : List ℕ) (r : ℕ) → xs ≡ those n p → r ≡ length xs → r ≡ set_size n p
rows_counted n p xs r e h = h ∙ ap length e ∙ those_size n p
