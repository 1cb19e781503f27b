-- Document 000's terms are document 01's wanted and free codes, and its prime implicants and single asterisk rows the primes and essentials: the
-- theorems `Terms` and `Agreement` of `specs/McCluskey.antt`. A cell that is not above 2 is 0, 1 or 2.
-- The characters are the implicants: two that combine are the halves of what they form, and an implicant with a dash is formed of its halves. So a
-- character is checked exactly when a literal of it can be given up, and a prime is an implicant that has none. Assumes nothing.
use mathlib.Core.Path.{◌≡◌, refl, sym, ap, ◌∙◌, subst, subst⁻¹}
use mathlib.Core.Logic.{◌⊎◌, inl, inr, ⊎_elim}
use mathlib.Core.Bool.{Bool, true, false, not, ◌||◌}
use mathlib.Core.List.{List}
use Prim.Native.Nat.{ℕ, zero, suc, ◌+◌, ◌-◌, ◌^◌, ◌<◌, ◌≤◌}
use native.Mathlib.Omega.{arith}
use lib.Dec.{T, eqb, ltb, eqb→eq, lit<, T_not, not_T}
use lib.ListN.{length, get_or-eq_default}
use mir.Facts.{yes_eqb}
use borrow.Author.Tests.{ltb-false}
use Rattle.std.specs.Bool.{passes}
use Rattle.std.proofs.lemmas.Bool.{cases_lt}
use Rattle.numbers.specs.Below.{flag, some}
use Rattle.cube.specs.Words.{cell, tested, digit, cube_matches, cube_literals, value_of, implicant, prime, essential, primes_of, essentials_of, serves, serving_prime, serving_primes_of}
use Rattle.cube.specs.Calls.{bad_cell}
use Rattle.cube.specs.McCluskey.{is_term, BinaryEquivalent, IdenticalExcept, Combination, Character, CheckMarked, PrimeImplicant, cross, CrossedRow, SingleAsterisk, crosses, Terms, Agreement}
use Rattle.numbers.proofs.Bools.{and_l, and_r, and_i, is_false}
use Rattle.numbers.proofs.Below.{some_at, some_by, none_at, none_by, count_one, count-alone, those_each_once}
use Rattle.cube.proofs.Digits.{put_digit, two, digit_lt, bit, bit-weight, put_lt, put_digit_lem, put_other, put_between, put_narrower, value_lt, value_alone, fits_same}
use Rattle.cube.proofs.Codes.{untested_falls, literals_le}
use Rattle.cube.proofs.Implicants.{implicant_contained, implicant_split, implicant_code, expands, maximal, prime_is_maximal}
use Rattle.cube.proofs.Positions.{of_places, value_bit, one_is}
use Rattle.cube.proofs.Theorems.{meanings, serves_at, serves_by}

-- ---- terms

-- no cell is above 2, those past the end included, which are 0
cell_lt : (t : List ℕ) → bad_cell t ≡ false → (c : ℕ) → cell t c < 3
unfolding bad_cell
cell_lt t e c = ⊎_elim inside past (cases_lt c (length t))
  where
    above : ℕ → Bool
    above c = ltb 2 (cell t c)

    inside : c < length t → cell t c < 3
    inside l = omega (arith, ltb-false 2 (cell t c) (is_false (above c) (λ x. subst T e (some_by (length t) above c l x))))

    past : length t ≤ c → cell t c < 3
    past l = omega (arith, get_or-eq_default t 0 l)

pub terms : (t : List ℕ) → Terms t
terms t = record { p_terms_and_d_terms = λ e c. in_list (cell t c) (cell_lt t e c); one_entry = λ e c. one_of (cell t c) (cell_lt t e c) }
  where
    in_list : (x : ℕ) → x < 3 → not (eqb x 0) ≡ (eqb x 1 || eqb x 2)
    in_list zero l = refl
    in_list (suc zero) l = refl
    in_list (suc (suc zero)) l = refl
    in_list (suc (suc (suc x))) l = absurd (omega arith)

    one_of : (x : ℕ) → x < 3 → flag (eqb x 0) + flag (eqb x 1) + flag (eqb x 2) ≡ 1
    one_of zero l = refl
    one_of (suc zero) l = refl
    one_of (suc (suc zero)) l = refl
    one_of (suc (suc (suc x))) l = absurd (omega arith)

-- ---- combinations

-- the two halves of a cube combine to it
halves_combine : (n k q x y : ℕ) → k < n → q < 3 ^ n → x < 2 → y < 2 → (x ≡ y → ⊥) → Combination n (put_digit k x q) (put_digit k y q) (put_digit k 2 q)
halves_combine n k q x y l h a b ne =
    let there : (d : ℕ) → d < 3 → digit k (put_digit k d q) ≡ d = λ d m. put_digit_lem k d q m in
    let beside : (d : ℕ) → d < 3 → IdenticalExcept n k (put_digit k d q) q = λ d m j i f. put_other k j d q m f in
    record {
      position = k;
      inside = l;
      identical = λ j i f. beside x (omega arith) j i f ∙ sym (beside y (omega arith) j i f);
      differ = λ e. ne (sym (there x (omega arith)) ∙ e ∙ there y (omega arith));
      first_undashed = λ e. omega (arith, there x (omega arith));
      second_undashed = λ e. omega (arith, there y (omega arith));
      below = put_lt n k 2 q l (lit< tt) h;
      dashed = there 2 (lit< tt);
      others = λ j i f. beside 2 (lit< tt) j i f ∙ sym (beside x (omega arith) j i f);
    }

either_first : (n a b r : ℕ) → Combination n a b r → Combination n b a r
either_first n a b r g = record {
  position = g.position;
  inside = g.inside;
  identical = λ j i f. sym (g.identical j i f);
  differ = λ e. g.differ (sym e);
  first_undashed = g.second_undashed;
  second_undashed = g.first_undashed;
  below = g.below;
  dashed = g.dashed;
  others = λ j i f. g.others j i f ∙ g.identical j i f;
}

module _ (n : ℕ) (t : List ℕ) where
  -- ---- a character is an implicant

  -- a p-term matches only its code
  p_term_implicant : (c q : ℕ) → T (is_term t c) → BinaryEquivalent n c q → T (implicant n t q)
  p_term_implicant c q h e =
      let undashed : (k : ℕ) → k < n → digit k q ≡ 2 → ⊥ = λ k l x. omega (arith, e.digits k l) in
      let m : T (cube_matches n q c) = of_places n q c (λ k l. fits_same (digit k q) (bit k c) (e.digits k l ∙ sym (bit-weight k c))) in
      subst⁻¹ T (implicant_code n t q undashed) (subst (λ (i : ℕ). T (is_term t i)) (value_alone n q undashed c e.row m) h)

  -- two characters that combine are the halves of what they form
  combined_implicant : (a b r : ℕ) → a < 3 ^ n → b < 3 ^ n → T (implicant n t a) → T (implicant n t b) → Combination n a b r → T (implicant n t r)
  combined_implicant a b r la lb ia ib g = go (two (digit k a) (omega (arith, digit_lt k a))) (two (digit k b) (omega (arith, digit_lt k b)))
    where
      k : ℕ
      k = g.position

      half : (c d : ℕ) → c < 3 ^ n → T (implicant n t c) → IdenticalExcept n k r c → digit k c ≡ d → T (implicant n t (put_digit k d r))
      half c d l i f e =
          let own : c ≡ put_digit k (digit k c) r = put_between n k c r g.inside l g.below (λ j m x. sym (f j m x)) in
          subst (λ (p : ℕ). T (implicant n t p)) (own ∙ ap (λ (j : ℕ). put_digit k j r) e) i

      first : (d : ℕ) → digit k a ≡ d → T (implicant n t (put_digit k d r))
      first d = half a d la ia g.others

      second : (d : ℕ) → digit k b ≡ d → T (implicant n t (put_digit k d r))
      second d = half b d lb ib (λ j m x. g.others j m x ∙ g.identical j m x)

      joined : T (implicant n t (put_digit k 0 r)) → T (implicant n t (put_digit k 1 r)) → T (implicant n t r)
      joined x y = subst⁻¹ T (implicant_split n t k r g.inside g.dashed) (and_i (implicant n t (put_digit k 0 r)) (implicant n t (put_digit k 1 r)) x y)

      go : (digit k a ≡ 0) ⊎ (digit k a ≡ 1) → (digit k b ≡ 0) ⊎ (digit k b ≡ 1) → T (implicant n t r)
      go (inl x) (inl y) = absurd (g.differ (x ∙ sym y))
      go (inl x) (inr y) = joined (first 0 x) (second 1 y)
      go (inr x) (inl y) = joined (second 0 y) (first 1 x)
      go (inr x) (inr y) = absurd (g.differ (x ∙ sym y))

  character_is : {q : ℕ} → Character n t q → (q < 3 ^ n) × T (implicant n t q)
  character_is (Character.p_term {c} {q} h e) = (e.below, p_term_implicant c q h e)
  character_is (Character.combined {a} {b} {r} x y g) =
      let i = character_is x in
      let j = character_is y in
      (g.below, combined_implicant a b r i.0 j.0 i.1 j.1 g)

  -- ---- an implicant is a character

  -- with no dash it is the p-term of its value
  undashed_character : (q : ℕ) → ((k : ℕ) → k < n → digit k q ≡ 2 → ⊥) → q < 3 ^ n → T (implicant n t q) → Character n t q
  undashed_character q undashed l h = Character.p_term {c = value_of n q} (subst T (implicant_code n t q undashed) h) (record {
    row = value_lt n q;
    below = l;
    digits = λ k m. one_is (digit k q) (below k m) ∙ sym (value_bit n q k m) ∙ bit-weight k (value_of n q);
  })
    where
      below : (k : ℕ) → k < n → digit k q < 2
      below k m = let ne : digit k q ≡ 2 → ⊥ = undashed k m in omega (arith, digit_lt k q)

  -- with a dash at position k it is formed of its two halves, which are implicants
  dashed_character : (q k : ℕ) → k < n → digit k q ≡ 2 → q < 3 ^ n → Character n t (put_digit k 0 q) → Character n t (put_digit k 1 q) → Character n t q
  dashed_character q k m d l x y =
      let e : q ≡ put_digit k 2 q = put_between n k q q m l l (λ j i f. refl) ∙ ap (λ (i : ℕ). put_digit k i q) d in
      Character.combined x y
      (subst⁻¹ (λ (r : ℕ). Combination n (put_digit k 0 q) (put_digit k 1 q) r) e (halves_combine n k q 0 1 m l (lit< tt) (lit< tt) (λ z. omega arith)))

  half_implicant : (q k x : ℕ) → k < n → digit k q ≡ 2 → x < 2 → T (implicant n t q) → T (implicant n t (put_digit k x q))
  half_implicant q k x m d b h = implicant_contained n t (put_digit k x q) q (put_narrower n k x q m (omega arith) d) h

  -- this ends, since the halves have fewer dashes
  by_halves : (fuel q : ℕ) → n < cube_literals n q + fuel → q < 3 ^ n → T (implicant n t q) → Character n t q
  by_halves zero q f l h = absurd (omega (arith, literals_le n q))
  by_halves (suc fuel) q f l h = go (some n dashed) refl (by_halves fuel)
    where
      dashed : ℕ → Bool
      dashed k = eqb (digit k q) 2

      go : (b : Bool) → some n dashed ≡ b → ((p : ℕ) → n < cube_literals n p + fuel → p < 3 ^ n → T (implicant n t p) → Character n t p) → Character n t q
      go false e ih = undashed_character q (λ k m x. subst T e (some_by n dashed k m (yes_eqb x))) l h
      go true e ih = dashed_character q k m d l (half 0 (lit< tt)) (half 1 (lit< tt))
        where
          found : (k : ℕ) × (k < n) × T (dashed k)
          found = some_at n dashed (passes (some n dashed) e)

          k : ℕ
          k = found.0

          m : k < n
          m = found.1

          d : digit k q ≡ 2
          d = eqb→eq (digit k q) 2 found.2

          half : (x : ℕ) → x < 2 → Character n t (put_digit k x q)
          half x b = ih (put_digit k x q) (omega (arith, untested_falls n k x q m b d)) (put_lt n k x q m (omega arith) l) (half_implicant q k x m d b h)

  implicant_character : (q : ℕ) → q < 3 ^ n → T (implicant n t q) → Character n t q
  implicant_character q l h = by_halves (suc n) q (omega arith) l h

  -- ---- a character is checked exactly when a literal of it can be given up

  -- the character and its other half, at the position of that literal, combine
  expands_checked : (q k : ℕ) → q < 3 ^ n → k < n → T (expands n t q k) → CheckMarked n t q
  expands_checked q k l m h =
      let d : ℕ = digit k q in
      let p : ℕ = put_digit k 2 q in
      let lp : p < 3 ^ n = put_lt n k 2 q m (lit< tt) l in
      let ne : d ≡ 2 → ⊥ = λ e. T_not (eqb d 2) (and_l (tested d) (implicant n t p) h) (yes_eqb e) in
      let own : q ≡ put_digit k d p = put_between n k q p m l lp (λ j i f. sym (put_other k j 2 q (lit< tt) f)) in
      let other : ℕ = put_digit k (1 - d) p in
      let io : T (implicant n t other) = half_implicant p k (1 - d) m (put_digit_lem k 2 q (lit< tt)) (omega arith) (and_r (tested d) (implicant n t p) h) in
      record {
        other = other;
        other_character = implicant_character other (put_lt n k (1 - d) p m (omega arith) lp) io;
        new = put_digit k 2 p;
        combination = subst⁻¹ (λ (a : ℕ). Combination n a other (put_digit k 2 p)) own
            (halves_combine n k p d (1 - d) m lp (omega (arith, digit_lt k q)) (omega arith) (λ x. omega (arith, digit_lt k q)));
      }

  -- what it forms with another is itself with that digit given up
  checked_expands : (q : ℕ) → q < 3 ^ n → T (implicant n t q) → CheckMarked n t q → (k : ℕ) × (k < n) × T (expands n t q k)
  checked_expands q l h c =
      let g = c.combination in
      let k = g.position in
      let o = character_is c.other_character in
      let e : c.new ≡ put_digit k 2 q = put_between n k c.new q g.inside g.below l g.others ∙ ap (λ (i : ℕ). put_digit k i q) g.dashed in
      let i : T (implicant n t (put_digit k 2 q)) = subst (λ (r : ℕ). T (implicant n t r)) e (combined_implicant q c.other c.new l o.0 h o.1 g) in
      (k, g.inside, and_i (tested (digit k q)) (implicant n t (put_digit k 2 q)) (not_T (eqb (digit k q) 2) (λ x. g.first_undashed (eqb→eq (digit k q) 2 x))) i)

  -- ---- prime implicants

  prime_to : (q : ℕ) → q < 3 ^ n → T (prime n t q) → PrimeImplicant n t q
  unfolding maximal
  prime_to q l h =
      let m : T (maximal n t q) = subst T (prime_is_maximal n t q l) h in
      let i : T (implicant n t q) = and_l (implicant n t q) (not (some n (expands n t q))) m in
      record {
        character = implicant_character q l i;
        unchecked = λ c.
            let e = checked_expands q l i c in none_at n (expands n t q) (and_r (implicant n t q) (not (some n (expands n t q))) m) e.0 e.1 e.2;
      }

  pub prime_from : (q : ℕ) → PrimeImplicant n t q → (q < 3 ^ n) × T (prime n t q)
  unfolding maximal
  prime_from q p =
      let c = character_is p.character in (
        c.0,
        subst⁻¹ T (prime_is_maximal n t q c.0)
            (and_i (implicant n t q) (not (some n (expands n t q))) c.1 (none_by n (expands n t q) (λ k m x. p.unchecked (expands_checked q k c.0 m x)))),
      )

  -- ---- single asterisk rows

  essential_to : (q : ℕ) → q < 3 ^ n → T (essential n t q) → SingleAsterisk n t q
  essential_to q l h =
      let e = ((meanings n t).essential_is q).0 h in
      let s = e.1 in
      record {
        row = prime_to q l e.0;
        column = s.0;
        is_column = record { row = s.1; one = s.2 };
        entry = s.3;
        sole = λ p i x. let h = prime_from p i in s.4 p h.0 h.1 x;
      }

  essential_from : (q : ℕ) → SingleAsterisk n t q → (q < 3 ^ n) × T (essential n t q)
  essential_from q a =
      let p = prime_from q a.row in
      (p.0, ((meanings n t).essential_is q).1 (p.1, (a.column, a.is_column.row, a.is_column.one, a.entry, λ i l x y. a.sole i (prime_to i l x) y)))

  -- ---- rows with a cross

  pub crossed_by : (q : ℕ) → PrimeImplicant n t q → T (serves n t q) → CrossedRow n t q
  crossed_by q p h = let s = serves_at n t q h in record { row = p; column = s.0; is_column = record { row = s.1; one = s.2 }; entry = s.3 }

  crossed_to : (q : ℕ) → q < 3 ^ n → T (serving_prime n t q) → CrossedRow n t q
  crossed_to q l h = crossed_by q (prime_to q l (and_l (prime n t q) (serves n t q) h)) (and_r (prime n t q) (serves n t q) h)

  crossed_from : (q : ℕ) → CrossedRow n t q → (q < 3 ^ n) × T (serving_prime n t q)
  crossed_from q r =
      let p = prime_from q r.row in
      (p.0, and_i (prime n t q) (serves n t q) p.1 (serves_by n t q r.column r.is_column.row r.is_column.one r.entry))

  -- ---- the crosses of a column

  module _ (c q : ℕ) (i : PrimeImplicant n t q) (m : T (cross n c q)) where
    sole_counts : ((p : ℕ) → PrimeImplicant n t p → T (cross n c p) → p ≡ q) → crosses n t c ≡ 1
    unfolding primes_of
    sole_counts f = let h = prime_from q i in count_one (prime n t) (cross n c) (3 ^ n) q h.0 h.1 m (λ p l x y. f p (prime_to p l x) y)

    counts_sole : crosses n t c ≡ 1 → (p : ℕ) → PrimeImplicant n t p → T (cross n c p) → p ≡ q
    unfolding primes_of
    counts_sole e p j y =
        let h = prime_from q i in
        let k = prime_from p j in
        count-alone (prime n t) (cross n c) (3 ^ n) p q e k.0 h.0 k.1 y h.1 m

  pub agreement : Agreement n t
  unfolding primes_of essentials_of serving_primes_of
  agreement = record {
    either_first = either_first n;
    characters = λ q. (character_is, λ h. implicant_character q h.0 h.1);
    primes = λ q l. (prime_to q l, λ p. (prime_from q p).1);
    essentials = λ q l. (essential_to q l, λ a. (essential_from q a).1);
    one_cross = λ c q i m. (sole_counts c q i m, counts_sole c q i m);
    rows = those_each_once (3 ^ n) (prime n t) (PrimeImplicant n t) prime_to prime_from;
    crossed = those_each_once (3 ^ n) (serving_prime n t) (CrossedRow n t) crossed_to crossed_from;
    single_asterisks = those_each_once (3 ^ n) (essential n t) (SingleAsterisk n t) essential_to essential_from;
  }
