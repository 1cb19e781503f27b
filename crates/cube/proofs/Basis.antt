-- Document 000's basis rows belong to the shortest lists: the theorem `Basis` of `specs/McCluskey.antt`. A selection of rows is a right list of primes,
-- and each row of a right list lies within a prime that tests no more bits, so a right list gives a selection with as many rows. Assumes nothing.
use mathlib.Core.Path.{◌≡◌, refl, subst, subst⁻¹}
use mathlib.Core.Logic.{⊎_elim}
use mathlib.Core.List.{List, [], ◌∷◌, map}
use Prim.Native.Nat.{ℕ, ◌^◌, ◌<◌, ◌≤◌}
use native.Mathlib.Omega.{arith}
use lib.Dec.{T, eqb, eqb→eq, eqb_refl}
use lib.ListN.{length, length-map}
use Rattle.numbers.specs.Below.{among}
use Rattle.cube.specs.Words.{Cover, row_matches, formed, each_row, all_formed, cover_matches, cover_literals, cube_matches, row_of, number_of, implicant, prime}
use Rattle.cube.specs.Minimum.{Minimum, EquivalentSum, FewestTerms}
use Rattle.cube.specs.McCluskey.{SingleAsterisk, Selection, BasisRows, sum_of, Basis}
use Rattle.numbers.proofs.Bools.{and_l, and_r, and_i, or_e, or_l, or_r}
use Rattle.cube.proofs.Digits.{contained_matches, contained_literals}
use Rattle.cube.proofs.Implicants.{implicant_at, prime-implicant, prime_above}
use Rattle.cube.proofs.Rows.{one_to_one, row_of_matches, row_of_literals}
use Rattle.cube.proofs.Theorems.{implements_on, implements_by}
use Rattle.cube.proofs.Independent.{sound, rows_sound}
use Rattle.cube.proofs.Minimum.{shortest}
use Rattle.cube.proofs.McCluskey.{prime_from, agreement}

module _ (n : ℕ) (t : List ℕ) where
  -- ---- a selection is a right list

  module _ (selected : List ℕ) (s : Selection n t selected) where
    is_prime : (q : ℕ) → T (among q selected) → (q < 3 ^ n) × T (prime n t q)
    is_prime q a = prime_from n t q (s.rows q a)

  sum-formed : (qs : List ℕ) → T (all_formed n (sum_of n qs))
  unfolding each_row
  sum-formed [] = tt
  sum-formed (q ∷ qs) = and_i (formed n (row_of n q)) (all_formed n (sum_of n qs)) ((one_to_one n).row_formed q) (sum-formed qs)

  -- a code that one of the rows matches
  sum_matches : (qs : List ℕ) (q c : ℕ) → T (among q qs) → q < 3 ^ n → T (cube_matches n q c) → T (cover_matches (sum_of n qs) c)
  unfolding among cover_matches
  sum_matches [] q c a l m = absurd a
  sum_matches (p ∷ qs) q c a l m =
      ⊎_elim
      (λ x. or_l (row_matches (row_of n p) c) (cover_matches (sum_of n qs) c) (subst (λ (i : ℕ). T (row_matches (row_of n i) c)) (eqb→eq q p x) (subst⁻¹ T (row_of_matches n q c l) m)))
      (λ x. or_r (row_matches (row_of n p) c) (cover_matches (sum_of n qs) c) (sum_matches qs q c x l m)) (or_e (eqb q p) (among q qs) a)

  -- and which row it is
  matched_by : (qs : List ℕ) (c : ℕ) → ((q : ℕ) → T (among q qs) → q < 3 ^ n) → T (cover_matches (sum_of n qs) c) → (q : ℕ) × T (among q qs) × T (cube_matches n q c)
  unfolding among cover_matches
  matched_by [] c f m = absurd m
  matched_by (p ∷ qs) c f m =
      let here = or_l (eqb p p) (among p qs) (eqb_refl p) in
      ⊎_elim (λ x. (p, here, subst T (row_of_matches n p c (f p here)) x))
      (λ x. let r = matched_by qs c (λ q a. f q (or_r (eqb q p) (among q qs) a)) x in (r.0, or_r (eqb r.0 p) (among r.0 qs) r.1, r.2))
      (or_e (row_matches (row_of n p) c) (cover_matches (sum_of n qs) c) m)

  sum_right : (selected : List ℕ) → Selection n t selected → EquivalentSum n t (sum_of n selected)
  sum_right selected s = record {
    products = sum-formed selected;
    same_table = implements_by n t (sum_of n selected)
        (λ c l w.
        let r = s.columns c (record { row = l; one = w }) in
        sum_matches selected r.0 c r.1 (is_prime selected s r.0 r.1).0 r.2)
        (λ c l b m.
        let r = matched_by selected c (λ q a. (is_prime selected s q a).0) m in
        implicant_at n t r.0 (prime-implicant n t r.0 (is_prime selected s r.0 r.1).1) c l r.2 b);
  }

  -- ---- a right list gives a selection

  -- primes that contain the cubes of the rows, place by place
  record Above (rs : Cover) : Type 0 where
    cubes : List ℕ
    long : length cubes ≡ length rs
    light : cover_literals n (sum_of n cubes) ≤ cover_literals n rs
    primes : (q : ℕ) → T (among q cubes) → (q < 3 ^ n) × T (prime n t q)
    hits : (c : ℕ) → T (cover_matches rs c) → (q : ℕ) × T (among q cubes) × T (cube_matches n q c)

  above : (rs : Cover) → T (each_row (sound n t) rs) → Above rs
  unfolding each_row cover_matches cover_literals among
  above [] s = record { cubes = []; long = refl; light = omega arith; primes = λ q a. absurd a; hits = λ c m. absurd m }
  above (r ∷ rs) s =
      let own = and_l (sound n t r) (each_row (sound n t) rs) s in
      let f = and_l (formed n r) (implicant n t (number_of n r)) own in
      let p = prime_above n t (number_of n r) ((one_to_one n).number_below r) (and_r (formed n r) (implicant n t (number_of n r)) own) in
      let more = above rs (and_r (sound n t r) (each_row (sound n t) rs) s) in
      record {
        cubes = p.cube ∷ more.cubes;
        long = omega (arith, more.long);
        light = omega (
          arith,
          more.light,
          row_of_literals n p.cube p.below,
          contained_literals n (number_of n r) p.cube p.contains,
          (one_to_one n).same_literals r,
        );
        primes = λ q a.
            ⊎_elim (λ x. subst⁻¹ (λ (i : ℕ). (i < 3 ^ n) × T (prime n t i)) (eqb→eq q p.cube x) (p.below, p.is_prime)) (λ x. more.primes q x)
            (or_e (eqb q p.cube) (among q more.cubes) a);
        hits = λ c m.
            ⊎_elim
            (λ x. (
              p.cube,
              or_l (eqb p.cube p.cube) (among p.cube more.cubes) (eqb_refl p.cube),
              contained_matches n (number_of n r) p.cube c p.contains (subst T ((one_to_one n).same_codes r f c) x),
            ))
            (λ x. let h = more.hits c x in (h.0, or_r (eqb h.0 p.cube) (among h.0 more.cubes) h.1, h.2))
            (or_e (row_matches r c) (cover_matches rs c) m);
      }

  module _ (rs : Cover) (e : EquivalentSum n t rs) where
    primes_above : Above rs
    primes_above = above rs (rows_sound n t rs e.same_table rs (λ c m. m) e.products)

    above_selection : Selection n t primes_above.cubes
    unfolding primes_above
    above_selection = record {
      rows = λ q a. let p = primes_above.primes q a in ((agreement n t).primes q p.0).0 p.1;
      columns = λ c k. primes_above.hits c (implements_on n t rs e.same_table c k.row k.one);
    }

  -- ---- basis rows

  module _ (selected : List ℕ) (b : BasisRows n t selected) where
    basis_fewest : FewestTerms n t (sum_of n selected)
    basis_fewest = record {
      equivalent = sum_right selected b.selection;
      fewest = λ other e.
          omega (arith, length-map selected (row_of n), (primes_above other e).long, b.fewest (primes_above other e).cubes (above_selection other e));
    }

    -- only q has a cross in the column of its sole entry, so no other row was selected for it
    basis_sole : (q : ℕ) → SingleAsterisk n t q → T (among q selected)
    basis_sole q a =
        let r = b.selection.columns a.column a.is_column in
        subst (λ (i : ℕ). T (among i selected)) (a.sole r.0 (b.selection.rows r.0 r.1) r.2) r.1

  -- a sum with the fewest terms gives basis rows
  above_basis : (rs : Cover) (f : FewestTerms n t rs) → BasisRows n t (primes_above rs f.equivalent).cubes
  above_basis rs f = record {
    selection = above_selection rs f.equivalent;
    fewest = λ other s. omega (arith, (primes_above rs f.equivalent).long, f.fewest (sum_of n other) (sum_right other s), length-map other (row_of n));
  }

  -- ---- the rows of a shortest list

  numbers_prime : (rs : Cover) → T (each_row (λ r. prime n t (number_of n r)) rs) → (q : ℕ) → T (among q (map (number_of n) rs)) → (q < 3 ^ n) × T (prime n t q)
  unfolding each_row among
  numbers_prime [] f q a = absurd a
  numbers_prime (r ∷ rs) f q a =
      ⊎_elim
      (λ x. subst⁻¹ (λ (i : ℕ). (i < 3 ^ n) × T (prime n t i)) (eqb→eq q (number_of n r) x)
      ((one_to_one n).number_below r, and_l (prime n t (number_of n r)) (each_row (λ r. prime n t (number_of n r)) rs) f))
      (numbers_prime rs (and_r (prime n t (number_of n r)) (each_row (λ r. prime n t (number_of n r)) rs) f) q)
      (or_e (eqb q (number_of n r)) (among q (map (number_of n) rs)) a)

  numbers_match : (rs : Cover) (c : ℕ) → T (all_formed n rs) → T (cover_matches rs c) → (q : ℕ) × T (among q (map (number_of n) rs)) × T (cube_matches n q c)
  unfolding each_row among cover_matches
  numbers_match [] c f m = absurd m
  numbers_match (r ∷ rs) c f m =
      ⊎_elim
      (λ x. (
        number_of n r,
        or_l (eqb (number_of n r) (number_of n r)) (among (number_of n r) (map (number_of n) rs)) (eqb_refl (number_of n r)),
        subst T ((one_to_one n).same_codes r (and_l (formed n r) (all_formed n rs) f) c) x,
      ))
      (λ x. let h = numbers_match rs c (and_r (formed n r) (all_formed n rs) f) x in (h.0, or_r (eqb h.0 (number_of n r)) (among h.0 (map (number_of n) rs)) h.1, h.2))
      (or_e (row_matches r c) (cover_matches rs c) m)

  minimum_basis : (list : Cover) → Minimum n t list → BasisRows n t (map (number_of n) list)
  minimum_basis list m = record {
    selection = record {
      rows = λ q a. let p = numbers_prime list ((shortest n t).primes list m) q a in ((agreement n t).primes q p.0).0 p.1;
      columns = λ c k. numbers_match list c m.formed (implements_on n t list m.right c k.row k.one);
    };
    fewest = λ other s.
        omega (
          arith,
          length-map list (number_of n),
          length-map other (row_of n),
          (((shortest n t).sums list).0 m).fewest_terms.fewest (sum_of n other) (sum_right other s),
        );
  }

  pub basis : Basis n t
  basis = record {
    sole_entries = basis_sole;
    ms_terms = minimum_basis;
    fewest_terms = basis_fewest;
    minimum_sums = λ selected b. (
      λ m other d. (((shortest n t).sums (sum_of n selected)).0 m).fewest_literals (sum_of n other) (basis_fewest other d),
      λ f. ((shortest n t).sums (sum_of n selected)).1 (record {
        fewest_terms = basis_fewest selected b;
        fewest_literals = λ other g. omega (arith, f (primes_above other g.equivalent).cubes (above_basis other g), (primes_above other g.equivalent).light);
      }),
    );
  }
