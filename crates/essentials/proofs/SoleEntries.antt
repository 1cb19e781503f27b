-- Counting the entries of a column by two words: which columns were met once, which twice. A prime that holds the sole entry of a column is a
-- single asterisk row of McCluskey's table, so it is essential. Assumes nothing.
use mathlib.Core.Path.{◌≡◌, refl, sym, ap, ap₂, ◌∙◌}
use mathlib.Core.Bool.{Bool, true, false, cond, ◌&&◌, ◌||◌}
use mathlib.Core.List.{List}
use Prim.Native.Nat.{ℕ, zero, suc, ◌+◌, ◌^◌, ◌<◌}
use native.Mathlib.Numerals.{add-one}
use native.Mathlib.Omega.{arith}
use lib.Dec.{T, eqb, leb, ltb, eqb→eq, ltb→lt, lt→ltb}
use lib.ListN.{length, get_or}
use borrow.Author.Tests.{le-leb, eq-eqb}
use Rattle.std.specs.Bool.{passes}
use Rattle.numbers.specs.Below.{flag, tabulate}
use Rattle.cube.specs.Words.{on_set, cube_matches, prime, essential, primes_of, column}
use Rattle.cube.specs.McCluskey as mccluskey
use Rattle.numbers.proofs.Bools.{and_l, and_r, and_i, is_true, is_false}
use Rattle.numbers.proofs.Below.{count_none, count_suc, count-those, those_same, tabulate_at}
use Rattle.cube.proofs.McCluskey.{agreement}
use Rattle.matrix.specs.Sets.{has, In, Meeting}
use Rattle.matrix.proofs.Bits.{has_zero}
use Rattle.chart_arrays.specs.Columns.{columns_of}
use Rattle.chart_arrays.proofs.Columns.{bit-has}
use Rattle.chart_arrays.proofs.Theorems.{word_tells}
use Rattle.essentials.specs.Steps.{prime_word, entries, Seen, SoleColumns}

-- ---- once and twice

one_more : (k : ℕ) (b : Bool) → (leb 1 k || b) ≡ leb 1 (k + flag b)
one_more zero true = refl
one_more zero false = refl
one_more (suc k) b = ap (λ (x : Bool). x || b) (le-leb 1 (suc k) (omega arith)) ∙ sym (le-leb 1 (suc k + flag b) (omega arith))

two_more : (k : ℕ) (b : Bool) → (leb 2 k || (leb 1 k && b)) ≡ leb 2 (k + flag b)
two_more zero true = refl
two_more zero false = refl
two_more (suc zero) true = refl
two_more (suc zero) false = refl
two_more (suc (suc k)) b =
    ap (λ (x : Bool). x || (leb 1 (suc (suc k)) && b)) (le-leb 2 (suc (suc k)) (omega arith)) ∙ sym (le-leb 2 (suc (suc k) + flag b) (omega arith))

pub seen_none : (words : List ℕ) (once twice : ℕ) → ((c : ℕ) → has once c ≡ false) → ((c : ℕ) → has twice c ≡ false) → Seen words 0 once twice
seen_none words once twice f g = record {
  one = λ c. f c ∙ sym (ap (leb 1) (count_none (λ q. has (get_or words q 0) c)));
  two = λ c. g c ∙ sym (ap (leb 2) (count_none (λ q. has (get_or words q 0) c)));
}

module _ (words : List ℕ) (m word once twice once' twice' : ℕ) (is : get_or words m 0 ≡ word) (s : Seen words m once twice) where
  entries_more : (c : ℕ) → entries words (m + 1) c ≡ entries words m c + flag (has word c)
  entries_more c =
      ap (λ (i : ℕ). entries words i c) (add-one m) ∙ count_suc (λ q. has (get_or words q 0) c) m
      ∙ ap (λ (x : ℕ). entries words m c + flag (has x c)) is

  pub seen_more : ((c : ℕ) → has once' c ≡ (has once c || has word c)) → ((c : ℕ) → has twice' c ≡ (has twice c || (has once c && has word c)))
      → Seen words (m + 1) once' twice'
  seen_more f g = record {
    one = λ c. f c ∙ ap (λ (x : Bool). x || has word c) (s.one c) ∙ one_more (entries words m c) (has word c) ∙ sym (ap (leb 1) (entries_more c));
    two = λ c.
        g c ∙ ap₂ (λ (x y : Bool). x || (y && has word c)) (s.two c) (s.one c) ∙ two_more (entries words m c) (has word c)
        ∙ sym (ap (leb 2) (entries_more c));
  }

-- ---- a prime with a sole entry is essential

module _ (n : ℕ) (t words : List ℕ) (sole : ℕ) (p : words ≡ tabulate (3 ^ n) 0 (prime_word n t)) (s : SoleColumns words (3 ^ n) sole) where
  -- the entries of the words are the entries of the table, in a wanted code
  has-prime : (q c : ℕ) → q < 3 ^ n → has (get_or words q 0) c ≡ (prime n t q && (ltb c (2 ^ n) && column n t q c))
  has-prime q c l = ap (λ (ws : List ℕ). has (get_or ws q 0) c) p ∙ ap (λ (x : ℕ). has x c) (tabulate_at (prime_word n t) (3 ^ n) q l) ∙ go (prime n t q)
    where
      go : (b : Bool) → has (cond b (columns_of n t q) 0) c ≡ (b && (ltb c (2 ^ n) && column n t q c))
      go true = bit-has (columns_of n t q) c (ltb c (2 ^ n) && column n t q c) ((word_tells n t q).tells c)
      go false = has_zero c

  at_column : (c q : ℕ) → c < 2 ^ n → T (on_set t c) → q < 3 ^ n → has (get_or words q 0) c ≡ (prime n t q && cube_matches n q c)
  at_column c q l w k =
      has-prime q c k
      ∙ ap₂ (λ (x y : Bool). prime n t q && (x && (y && cube_matches n q c))) (is_true (ltb c (2 ^ n)) (lt→ltb c (2 ^ n) l)) (is_true (on_set t c) w)

  entries_are : (c : ℕ) → c < 2 ^ n → T (on_set t c) → entries words (3 ^ n) c ≡ mccluskey.crosses n t c
  unfolding primes_of
  entries_are c l w =
      ap length (those_same (3 ^ n) (λ q. has (get_or words q 0) c) (λ q. prime n t q && cube_matches n q c) (λ q k. at_column c q l w k))
      ∙ sym (count-those (prime n t) (λ q. cube_matches n q c) (3 ^ n))

  module _ (q : ℕ) (l : q < 3 ^ n) where
    to : (c : ℕ) × In (get_or words q 0) c × In sole c → T (essential n t q)
    to r =
        let c = r.0 in
        let entry = passes (prime n t q && (ltb c (2 ^ n) && column n t q c)) (sym (has-prime q c l) ∙ r.1) in
        let inside = and_r (prime n t q) (ltb c (2 ^ n) && column n t q c) entry in
        let below : c < 2 ^ n = ltb→lt c (2 ^ n) (and_l (ltb c (2 ^ n)) (column n t q c) inside) in
        let wanted = and_l (on_set t c) (cube_matches n q c) (and_r (ltb c (2 ^ n)) (column n t q c) inside) in
        let matched = and_r (on_set t c) (cube_matches n q c) (and_r (ltb c (2 ^ n)) (column n t q c) inside) in
        let one = eqb→eq (entries words (3 ^ n) c) 1 (passes (eqb (entries words (3 ^ n) c) 1) (sym (s c) ∙ r.2)) in
        let row = ((agreement n t).primes q l).0 (and_l (prime n t q) (ltb c (2 ^ n) && column n t q c) entry) in
        ((agreement n t).essentials q l).1 (record {
          row = row;
          column = c;
          is_column = record { row = below; one = wanted };
          entry = matched;
          sole = ((agreement n t).one_cross c q row matched).1 (sym (entries_are c below wanted) ∙ one);
        })

    from : T (essential n t q) → (c : ℕ) × In (get_or words q 0) c × In sole c
    from h =
        let a = ((agreement n t).essentials q l).0 h in
        let c = a.column in
        let is_prime = ((agreement n t).primes q l).1 a.row in
        let entry : In (get_or words q 0) c = at_column c q a.is_column.row a.is_column.one l ∙ is_true (prime n t q && cube_matches n q c) (and_i (prime n t q) (cube_matches n q c) is_prime a.entry) in
        let one = ((agreement n t).one_cross c q a.row a.entry).0 a.sole in
        let alone : In sole c = s c ∙ eq-eqb (entries words (3 ^ n) c) 1 (entries_are c a.is_column.row a.is_column.one ∙ one) in
        (c, entry, alone)

    pub holder_is_essential : (b : Bool) → Meeting (get_or words q 0) sole b → b ≡ essential n t q
    holder_is_essential true h = sym (is_true (essential n t q) (to (h.some refl)))
    holder_is_essential false h = sym (is_false (essential n t q) (λ e. let a = from e in h.none refl a.0 a.1 a.2))
