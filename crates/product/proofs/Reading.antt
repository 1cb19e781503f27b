-- The text of a product is read in one way. Digits are read one by one until a character below `0`, and the characters behind a number, `'`, `+` and `)`,
-- are below `0`; then literals, sums and products in turn, each by its first character and what follows it. Assumes nothing.
use mathlib.Core.Path.{◌≡◌, refl, sym, ap, ap₂, ◌∙◌}
use mathlib.Core.Logic.{⊎_elim}
use mathlib.Core.Bool.{Bool, true, false, cond}
use mathlib.Core.List.{List, [], ◌∷◌, ◌++◌, append_assoc}
use Prim.Native.Char.{code}
use Prim.Native.Nat.{ℕ, zero, suc, ◌+◌, ◌-◌, ◌*◌, ◌/◌, ◌%◌, ◌<◌, ◌≤◌}
use native.Mathlib.Omega.{arith}
use lib.Dec.{ltb}
use borrow.Author.Tests.{le-ltb}
use Rattle.std.proofs.lemmas.Bool.{cases_lt}
use Rattle.text.specs.Characters.{bytes, digit_character}
use Rattle.text.specs.Output.{in_decimal}
use Rattle.text.proofs.Decimals.{decimals}
use Rattle.product.specs.Product.{Literal, Sum, Product, literal_text, joined_text, sum_text, sums_text}
use Rattle.product.specs.Theorems.{ReadOneWay}

abbrev head : List ℕ → ℕ
head [] = 0
head (b ∷ bs) = b

abbrev tail : List ℕ → List ℕ
tail [] = []
tail (b ∷ bs) = bs

-- ---- numbers

-- the number whose first digits are a, and what follows it
number : ℕ → List ℕ → ℕ × List ℕ
number a [] = (a, [])
number a (b ∷ bs) = cond (ltb b (code "0")) (a, b ∷ bs) (number (a * 10 + (b - code "0")) bs)

digit-read : (a d : ℕ) (s : List ℕ) → number a (digit_character d ∷ s) ≡ number (a * 10 + d) s
unfolding number
digit-read a d s =
    let back : digit_character d - code "0" ≡ d = omega arith in
    let goes_on = le-ltb (digit_character d) (code "0") (omega arith) in
    ap (λ (ends : Bool). cond ends (a, digit_character d ∷ s) (number (a * 10 + (digit_character d - code "0")) s)) goes_on
    ∙ ap (λ (e : ℕ). number (a * 10 + e) s) back

low_read : (x : ℕ) → x < 10 → (s : List ℕ) → number 0 (in_decimal x ++ s) ≡ number x s
low_read x l s =
    let same : 0 * 10 + x ≡ x = omega arith in
    ap (λ (digits : List ℕ). number 0 (digits ++ s)) ((decimals x).low l) ∙ digit-read 0 x s ∙ ap (λ (y : ℕ). number y s) same

-- k bounds the number of digits
decimal_read : (k x : ℕ) → x ≤ k → (s : List ℕ) → number 0 (in_decimal x ++ s) ≡ number x s
decimal_read zero x l s = low_read x (omega arith) s
decimal_read (suc k) x l s =
    let last : List ℕ = digit_character (x % 10) ∷ [] in
    let same : x / 10 * 10 + x % 10 ≡ x = omega arith in
    ⊎_elim (λ h. low_read x h s)
    (λ h.
    ap (λ (digits : List ℕ). number 0 (digits ++ s)) ((decimals x).high h) ∙ ap (number 0) (append_assoc (in_decimal (x / 10)) last s)
    ∙ decimal_read k (x / 10) (omega arith) (last ++ s) ∙ digit-read (x / 10) (x % 10) s ∙ ap (λ (y : ℕ). number y s) same)
    (cases_lt x 10)

-- ---- literals

abbrev mark : Bool → List ℕ
mark c = cond c (bytes "'") []

-- what follows a literal: those behind it, the bracket, and any text s
abbrev rest : Sum → List ℕ → List ℕ
rest ls s = joined_text ls ++ (code ")" ∷ s)

-- it begins with no `'`, and a number ends before it
no_mark : (ls : Sum) (s : List ℕ) → code "'" ≡ head (rest ls s) → ⊥
unfolding joined_text
no_mark [] s e = omega arith
no_mark (l ∷ ls) s e = omega arith

number_ends : (x : ℕ) (c : Bool) (ls : Sum) (s : List ℕ) → number x (mark c ++ rest ls s) ≡ (x, mark c ++ rest ls s)
unfolding number joined_text
number_ends x true ls s = refl
number_ends x false [] s = refl
number_ends x false (l ∷ ls) s = refl

mark_read : (c d : Bool) (ls ms : Sum) (s t : List ℕ) → mark c ++ rest ls s ≡ mark d ++ rest ms t → (c ≡ d) × (rest ls s ≡ rest ms t)
mark_read true true ls ms s t e = (refl, ap tail e)
mark_read true false ls ms s t e = absurd (no_mark ms t (ap head e))
mark_read false true ls ms s t e = absurd (no_mark ls s (sym (ap head e)))
mark_read false false ls ms s t e = (refl, e)

module _ (l : Literal) (ls : Sum) (s : List ℕ) where
  -- a literal and what follows it
  abbrev before : List ℕ
  before = literal_text l ++ joined_text ls ++ (code ")" ∷ s)

  literal_number : number 0 (tail before) ≡ (l.variable, mark l.complemented ++ rest ls s)
  literal_number =
      let x : ℕ = l.variable in
      let c : Bool = l.complemented in
      ap (number 0) (append_assoc (in_decimal x ++ mark c) (joined_text ls) (code ")" ∷ s) ∙ append_assoc (in_decimal x) (mark c) (rest ls s))
      ∙ decimal_read x x (omega arith) (mark c ++ rest ls s) ∙ number_ends x c ls s

literal_read : (l m : Literal) (ls ms : Sum) (s t : List ℕ) → before l ls s ≡ before m ms t → (l ≡ m) × (rest ls s ≡ rest ms t)
literal_read l m ls ms s t e =
    let same = sym (literal_number l ls s) ∙ ap (λ (text : List ℕ). number 0 (tail text)) e ∙ literal_number m ms t in
    let marks = mark_read l.complemented m.complemented ls ms s t (ap (λ (p : ℕ × List ℕ). p.1) same) in
    (ap₂ (λ (x : ℕ) (c : Bool). record { variable = x; complemented = c }) (ap (λ (p : ℕ × List ℕ). p.0) same) marks.0, marks.1)

-- ---- sums and products

joined_read : (ls ms : Sum) (s t : List ℕ) → rest ls s ≡ rest ms t → (ls ≡ ms) × (s ≡ t)
unfolding joined_text
joined_read [] [] s t e = (refl, ap tail e)
joined_read [] (m ∷ ms) s t e = absurd (omega (arith, ap head e))
joined_read (l ∷ ls) [] s t e = absurd (omega (arith, ap head e))
joined_read (l ∷ ls) (m ∷ ms) s t e =
    let first = literal_read l m ls ms s t (ap tail e) in
    let others = joined_read ls ms s t first.1 in
    (ap₂ ◌∷◌ first.0 others.0, others.1)

-- a sum begins as its literals behind a plus sign do, but for the first character
bracketed : (l : Literal) (ls : Sum) (s : List ℕ) → code "+" ∷ tail (sum_text (l ∷ ls) ++ s) ≡ rest (l ∷ ls) s
unfolding joined_text
bracketed l ls s = ap (λ (text : List ℕ). code "+" ∷ text) (append_assoc (literal_text l ++ joined_text ls) (bytes ")") s)

sum-read : (a b : Sum) (s t : List ℕ) → sum_text a ++ s ≡ sum_text b ++ t → (a ≡ b) × (s ≡ t)
sum-read [] [] s t e = (refl, ap tail e)
sum-read [] (m ∷ ms) s t e = absurd (omega (arith, ap head e))
sum-read (l ∷ ls) [] s t e = absurd (omega (arith, ap head e))
sum-read (l ∷ ls) (m ∷ ms) s t e =
    joined_read (l ∷ ls) (m ∷ ms) s t (sym (bracketed l ls s) ∙ ap (λ (text : List ℕ). code "+" ∷ tail text) e ∙ bracketed m ms t)

-- a sum begins with `(` or `0`
starts : (a : Sum) (s : List ℕ) → (code "(" ≤ head (sum_text a ++ s)) × (head (sum_text a ++ s) ≤ code "0")
starts [] s = (omega arith, omega arith)
starts (l ∷ ls) s = (omega arith, omega arith)

sums_read : (p q : Product) → sums_text p ≡ sums_text q → p ≡ q
unfolding sums_text
sums_read [] [] e = refl
sums_read [] (b ∷ q) e = absurd (omega (arith, ap head e, (starts b (sums_text q)).0))
sums_read (a ∷ p) [] e = absurd (omega (arith, ap head e, (starts a (sums_text p)).0))
sums_read (a ∷ p) (b ∷ q) e = let first = sum-read a b (sums_text p) (sums_text q) e in ap₂ ◌∷◌ first.0 (sums_read p q first.1)

pub read_one_way : ReadOneWay
unfolding sums_text
read_one_way [] [] e = refl
read_one_way [] (b ∷ q) e = absurd (omega (arith, ap head e, (starts b (sums_text q)).1))
read_one_way (a ∷ p) [] e = absurd (omega (arith, ap head e, (starts a (sums_text p)).1))
read_one_way (a ∷ p) (b ∷ q) e = sums_read (a ∷ p) (b ∷ q) e
