-- Sets of rows as words: what a word put in changes, two sets joined word by word, and what is left of the rows while they are gone through. Assumes nothing.
use mathlib.Core.Path.{◌≡◌, refl, sym, ap, ap₂, ◌∙◌}
use mathlib.Core.List.{List, [], ◌∷◌}
use mathlib.Core.Bool.{Bool, true, false, not, ◌&&◌}
use Prim.Native.Nat.{ℕ, suc, ◌+◌, ◌-◌, ◌/◌, ◌%◌, ◌≤◌, ◌<◌}
use native.Mathlib.Decide.{ℕ_discrete, dec_lt}
use native.Mathlib.Omega.{arith}
use lib.Dec.{eqb, ltb}
use lib.ListN.{length, get_or, drop, set, replicate, length-replicate, get_or-replicate, get_or-eq_default}
use lib.Seq.{get_or-set_same, get_or-set_other}
use denote.Param.Members.{Mut, Called}
use Rattle.std.specs.Array.{IsFromFnResult}
use borrow.Author.Tests.{eq-eqb, ne_eqb, lt-ltb, le-ltb, le-leb, lt-leb}
use Rattle.std.proofs.lemmas.Bool.{false_from_ne_true}
use Rattle.matrix.specs.Sets.{word_bits, row_words, has_bit, member, Next}
use Rattle.matrix.specs.Walks.{left_behind}
use Rattle.matrix.proofs.Bits.{has_zero}
use Rattle.matrix.proofs.Made.{made}

-- past a list's end there is no row
pub member_past : (s : List ℕ) (j : ℕ) → length s ≤ j / word_bits → member s j ≡ false
unfolding member
member_past s j l = ap (λ (x : ℕ). has_bit x (j % word_bits)) (get_or-eq_default s 0 l) ∙ has_zero (j % word_bits)

pub member_none : (n j : ℕ) → member (replicate n 0) j ≡ false
unfolding member
member_none n j = go (dec_lt (j / word_bits) n)
  where
    go : Dec (j / word_bits < n) → has_bit (get_or (replicate n 0) (j / word_bits) 0) (j % word_bits) ≡ false
    go (yes l) = ap (λ (x : ℕ). has_bit x (j % word_bits)) (get_or-replicate n (j / word_bits) 0 0 l) ∙ has_zero (j % word_bits)
    go (no k) = member_past (replicate n 0) j (omega (arith, length-replicate {A = ℕ} n 0))

-- ---- a row put in or out: a word that differs in one bit

pub member_put : (op : Bool → Bool → Bool) → ((b : Bool) → op false b ≡ b) → (s : List ℕ) (i w : ℕ) → i / word_bits < length s
    → ((x : ℕ) → has_bit w x ≡ op (eqb x (i % word_bits)) (has_bit (get_or s (i / word_bits) 0) x)) → (j : ℕ) → member (set s (i / word_bits) w) j ≡ op (eqb j i) (member s j)
unfolding member
member_put op id s i w l e j = go (ℕ_discrete (j / word_bits) (i / word_bits)) (ℕ_discrete j i)
  where
    there : j / word_bits ≡ i / word_bits → has_bit (get_or (set s (i / word_bits) w) (j / word_bits) 0) (j % word_bits) ≡ op (eqb (j % word_bits) (i % word_bits)) (has_bit (get_or s (j / word_bits) 0) (j % word_bits))
    there d =
        ap (λ (x : ℕ). has_bit (get_or (set s (i / word_bits) w) x 0) (j % word_bits)) d
        ∙ ap (λ (x : ℕ). has_bit x (j % word_bits)) (get_or-set_same s (i / word_bits) w 0 l)
        ∙ e (j % word_bits)
        ∙ ap (λ (x : ℕ). op (eqb (j % word_bits) (i % word_bits)) (has_bit (get_or s x 0) (j % word_bits))) (sym d)

    go : Dec (j / word_bits ≡ i / word_bits) → Dec (j ≡ i) → has_bit (get_or (set s (i / word_bits) w) (j / word_bits) 0) (j % word_bits) ≡ op (eqb j i) (has_bit (get_or s (j / word_bits) 0) (j % word_bits))
    go (yes d) (yes f) = there d ∙ ap (λ (b : Bool). op b (has_bit (get_or s (j / word_bits) 0) (j % word_bits))) (eq-eqb (j % word_bits) (i % word_bits) (ap (λ (x : ℕ). x % word_bits) f) ∙ sym (eq-eqb j i f))
    go (yes d) (no f) = there d ∙ ap (λ (b : Bool). op b (has_bit (get_or s (j / word_bits) 0) (j % word_bits))) (ne_eqb (j % word_bits) (i % word_bits) (λ z. f (omega arith)) ∙ sym (ne_eqb j i f))
    go (no d) f =
        ap (λ (x : ℕ). has_bit x (j % word_bits)) (get_or-set_other s (i / word_bits) (j / word_bits) w 0 d)
        ∙ sym (id (has_bit (get_or s (j / word_bits) 0) (j % word_bits)))
        ∙ ap (λ (b : Bool). op b (has_bit (get_or s (j / word_bits) 0) (j % word_bits))) (sym (ne_eqb j i (λ z. d (ap (λ (x : ℕ). x / word_bits) z))))

-- ---- two sets joined word by word, by an operation on flags

-- of two flags the first alone
abbrev pub lacking : Bool → Bool → Bool
lacking x y = x && not y

module _ (op : Bool → Bool → Bool) (a b : List ℕ) where
  -- both sets are whole, and w is the word k of both joined
  abbrev pub Joins : ℕ → ℕ → Type 0
  Joins k w = (length a ≡ row_words) × (length b ≡ row_words) × ((x : ℕ) → has_bit w x ≡ op (has_bit (get_or a k 0) x) (has_bit (get_or b k 0) x))

  -- a closure that joins two words made s
  pub joined : op false false ≡ false → {F : Type 0} (g : Mut F (ℕ × Unit {0}) ℕ) (f : F) (s : List ℕ) → IsFromFnResult g f s row_words
      → ((k w : ℕ) (q : F) → Called g f (k, tt) w q → (q ≡ f) × Joins k w) → (j : ℕ) → member s j ≡ op (member a j) (member b j)
  unfolding member
  joined e g f s r step j = go (dec_lt (j / word_bits) row_words)
    where
      word : (k : ℕ) → k < row_words → Joins k (get_or s k 0)
      word k l = made g f s Joins step row_words 0 r.each k (omega arith) l 0

      go : Dec (j / word_bits < row_words) → has_bit (get_or s (j / word_bits) 0) (j % word_bits) ≡ op (has_bit (get_or a (j / word_bits) 0) (j % word_bits)) (has_bit (get_or b (j / word_bits) 0) (j % word_bits))
      go (yes l) = (word (j / word_bits) l).2 (j % word_bits)
      go (no n) = let h = word 0 (omega arith) in
          member_past s j (omega (arith, r.long)) ∙ sym e ∙ ap₂ op (sym (member_past a j (omega (arith, h.0)))) (sym (member_past b j (omega (arith, h.1))))

-- ---- going through the rows

-- a row in the first of some words, and behind it
member_first : (word : ℕ) (rest : List ℕ) (i : ℕ) → i < word_bits → member (word ∷ rest) i ≡ has_bit word i
unfolding member
member_first word rest i l =
    let d : i / word_bits ≡ 0 = omega arith in
    let m : i % word_bits ≡ i = omega arith in
    ap₂ (λ (k x : ℕ). has_bit (get_or (word ∷ rest) k 0) x) d m

member_behind : (word : ℕ) (rest : List ℕ) (i : ℕ) → word_bits ≤ i → member (word ∷ rest) i ≡ member rest (i - word_bits)
unfolding member
member_behind word rest i l =
    let d : i / word_bits ≡ suc ((i - word_bits) / word_bits) = omega arith in
    let m : i % word_bits ≡ (i - word_bits) % word_bits = omega arith in
    ap₂ (λ (k x : ℕ). has_bit (get_or (word ∷ rest) k 0) x) d m

-- at first each row of the set is left
pub left_first : (set : List ℕ) (w : ℕ) (rest : List ℕ) → w ≡ get_or set 0 0 → rest ≡ drop 1 set → (j : ℕ) → left_behind (w ∷ rest) 0 j ≡ member set j
left_first set w rest e f j =
    let i : j - 0 ≡ j = omega arith in
    ap (λ (b : Bool). b && member (w ∷ rest) (j - 0)) (le-leb 0 j (omega arith)) ∙ ap (member (w ∷ rest)) i ∙ ap₂ (λ (w : ℕ) (l : List ℕ). member (w ∷ l) j) e f
    ∙ whole set
  where
    whole : (set : List ℕ) → member (get_or set 0 0 ∷ drop 1 set) j ≡ member set j
    whole [] = member_none 1 j ∙ sym (member_past [] j (omega arith))
    whole (x ∷ words) = refl

module _ (word : ℕ) (rest : List ℕ) (base : ℕ) where
  -- what is left, of a row before the word, in it, and behind it
  module _ (j : ℕ) where
    left_no : j < base → left_behind (word ∷ rest) base j ≡ false
    left_no l = ap (λ (b : Bool). b && member (word ∷ rest) (j - base)) (lt-leb base j l)

    left_bit : base ≤ j → j - base < word_bits → left_behind (word ∷ rest) base j ≡ has_bit word (j - base)
    left_bit l m = ap (λ (b : Bool). b && member (word ∷ rest) (j - base)) (le-leb base j l) ∙ member_first word rest (j - base) m

    left_row : base ≤ j → word_bits ≤ j - base → left_behind (word ∷ rest) base j ≡ member rest (j - base - word_bits)
    left_row l m = ap (λ (b : Bool). b && member (word ∷ rest) (j - base)) (le-leb base j l) ∙ member_behind word rest (j - base) m

  module _ (none : (b : ℕ) → has_bit word b ≡ true → ⊥) where
    -- where no bit is left of the word, what is left begins with the next word
    pub left_next : (j : ℕ) → left_behind rest (base + word_bits) j ≡ left_behind (word ∷ rest) base j
    left_next j = go (dec_lt j base) (dec_lt j (base + word_bits))
      where
        off : (b : Bool) → b ≡ false → (b && member rest (j - (base + word_bits))) ≡ false
        off b e = ap (λ (b : Bool). b && member rest (j - (base + word_bits))) e

        go : Dec (j < base) → Dec (j < base + word_bits) → left_behind rest (base + word_bits) j ≡ left_behind (word ∷ rest) base j
        go (yes l) d = off _ (lt-leb (base + word_bits) j (omega arith)) ∙ sym (left_no j l)
        go (no n) (yes l) = off _ (lt-leb (base + word_bits) j l) ∙ sym (left_bit j (omega arith) (omega arith) ∙ false_from_ne_true _ (none (j - base)))
        go (no n) (no m) = let e : j - (base + word_bits) ≡ j - base - word_bits = omega arith in
            ap (λ (b : Bool). b && member rest (j - (base + word_bits))) (le-leb (base + word_bits) j (omega arith)) ∙ ap (member rest) e
            ∙ sym (left_row j (omega arith) (omega arith))

    -- and nothing is left where the word is the last before the end, or no word is behind it
    pub left_none : (j : ℕ) → j < base + word_bits → left_behind (word ∷ rest) base j ≡ false
    left_none j l = go (dec_lt j base)
      where
        go : Dec (j < base) → left_behind (word ∷ rest) base j ≡ false
        go (yes n) = left_no j n
        go (no n) = left_bit j (omega arith) (omega arith) ∙ false_from_ne_true _ (none (j - base))

    pub left_end : length rest ≡ 0 → (j : ℕ) → left_behind (word ∷ rest) base j ≡ false
    left_end e j = go (dec_lt j (base + word_bits))
      where
        go : Dec (j < base + word_bits) → left_behind (word ∷ rest) base j ≡ false
        go (yes l) = left_none j l
        go (no n) =
            left_row j (omega arith) (omega arith) ∙ member_past rest (j - base - word_bits) (omega arith)

  -- the first bit of the word is the first row that is left
  module _ (b : ℕ) (first : (b < word_bits) × Next (has_bit word) 0 word_bits b) where
    pub left_here : left_behind (word ∷ rest) base (base + b) ≡ true
    left_here = let e : base + b - base ≡ b = omega arith in left_bit (base + b) (omega arith) (omega (arith, first.0)) ∙ ap (has_bit word) e ∙ first.1.here first.0

    pub left_before : (j : ℕ) → j < base + b → left_behind (word ∷ rest) base j ≡ false
    left_before j l = go (dec_lt j base)
      where
        go : Dec (j < base) → left_behind (word ∷ rest) base j ≡ false
        go (yes n) = left_no j n
        go (no n) = left_bit j (omega arith) (omega (arith, first.0)) ∙ first.1.before (j - base) (omega arith) (omega arith)

    pub left_after : (w : ℕ) → ((x : ℕ) → has_bit w x ≡ (ltb b x && has_bit word x)) → (j : ℕ)
        → left_behind (w ∷ rest) base j ≡ (ltb (base + b) j && left_behind (word ∷ rest) base j)
    left_after w e j = go (dec_lt j base) (dec_lt j (base + word_bits))
      where
        same : base ≤ j → ltb b (j - base) ≡ ltb (base + b) j
        same d = at (dec_lt b (j - base))
          where
            at : Dec (b < j - base) → ltb b (j - base) ≡ ltb (base + b) j
            at (yes l) = lt-ltb b (j - base) l ∙ sym (lt-ltb (base + b) j (omega arith))
            at (no n) = le-ltb b (j - base) (omega arith) ∙ sym (le-ltb (base + b) j (omega arith))

        go : Dec (j < base) → Dec (j < base + word_bits) → left_behind (w ∷ rest) base j ≡ (ltb (base + b) j && left_behind (word ∷ rest) base j)
        go (yes l) d =
            ap (λ (t : Bool). t && member (w ∷ rest) (j - base)) (lt-leb base j l)
            ∙ sym (ap (λ (t : Bool). t && left_behind (word ∷ rest) base j) (le-ltb (base + b) j (omega arith)))
        go (no n) (yes l) =
            ap (λ (t : Bool). t && member (w ∷ rest) (j - base)) (le-leb base j (omega arith)) ∙ member_first w rest (j - base) (omega arith) ∙ e (j - base)
            ∙ ap (λ (t : Bool). t && has_bit word (j - base)) (same (omega arith))
            ∙ ap (λ (t : Bool). ltb (base + b) j && t) (sym (left_bit j (omega arith) (omega arith)))
        go (no n) (no m) =
            ap (λ (t : Bool). t && member (w ∷ rest) (j - base)) (le-leb base j (omega arith)) ∙ member_behind w rest (j - base) (omega arith)
            ∙ sym (left_row j (omega arith) (omega arith))
            ∙ sym (ap (λ (t : Bool). t && left_behind (word ∷ rest) base j) (lt-ltb (base + b) j (omega (arith, first.0))))
