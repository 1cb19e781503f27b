-- What follows for every shortest list. Two of them are rivals of each other, so their counts agree; the wanted codes in pairs are a rival, so there
-- are no more rows than pairs; and a row that is not prime could be exchanged for a wider implicant with fewer literals. Assumes nothing.
use mathlib.Core.Path.{◌≡◌, refl, subst, subst⁻¹}
use mathlib.Core.Logic.{◌⊎◌, inl, inr, ⊎_elim}
use mathlib.Core.Bool.{Bool, true, false, not, ◌&&◌}
use mathlib.Core.List.{List, [], ◌∷◌, ◌++◌, append_assoc}
use Prim.Native.Nat.{ℕ, ◌-◌, ◌^◌, ◌<◌, ◌≤◌}
use native.Mathlib.Nat.{eq-or-lt_of_le}
use native.Mathlib.Omega.{arith}
use lib.Dec.{T}
use lib.ListN.{length, length-append}
use Rattle.std.specs.Bool.{passes}
use Rattle.numbers.specs.Below.{some}
use Rattle.cube.specs.Words.{on_set, off_set, Row, Cover, row_matches, formed, each_row, all_formed, cover_matches, cover_literals, implements, row_of, number_of, implicant, wider, prime}
use Rattle.cube.specs.Minimum.{NoBetter, Minimum, EquivalentSum, MinimumSum, Shortest}
use Rattle.numbers.proofs.Bools.{and_l, and_r, and_i, or_e, or_l, or_r}
use Rattle.numbers.proofs.Below.{some_at}
use Rattle.cube.proofs.Digits.{contained_matches}
use Rattle.cube.proofs.Implicants.{implicant_at, wider-implicant, wider_fewer, wider_contains}
use Rattle.cube.proofs.Rows.{one_to_one, row_of_matches, row_of_literals}
use Rattle.cube.proofs.Theorems.{implements_on, implements_off, implements_by}
use Rattle.cube.proofs.Independent.{sound, rows_sound}
use Rattle.cube.proofs.Covers.{each_append, matches_append, literals_append}
use Rattle.cube.proofs.Pairs.{pair_by_pair}

no_more_rows : {r b rows bits : ℕ} → NoBetter r b rows bits → rows ≤ r
no_more_rows (inl l) = omega arith
no_more_rows (inr e) = omega (arith, e.0)

same_counts : {ra la rb lb : ℕ} → NoBetter rb lb ra la → NoBetter ra la rb lb → (ra ≡ rb) × (la ≡ lb)
same_counts (inl x) (inl y) = absurd (omega arith)
same_counts (inl x) (inr y) = absurd (omega (arith, y.0))
same_counts (inr x) (inl y) = absurd (omega (arith, x.0))
same_counts (inr x) (inr y) = (x.0, omega (arith, x.1, y.1))

module _ (n : ℕ) (t : List ℕ) where
  pub minimum_rows : (a : Cover) → Minimum n t a → length a ≤ 2 ^ (n - 1)
  minimum_rows a m = let s = pair_by_pair n t in omega (arith, no_more_rows (m.least s.list s.is_formed s.right), s.rows)

  -- ---- every row is prime

  -- a row in its place, and the row of cube p in that place
  module _ (before after : Cover) (r : Row) (p : ℕ) (l : p < 3 ^ n) (m : Minimum n t (before ++ (r ∷ after))) (w : T (wider n t (number_of n r) p)) where
    rival : Cover
    rival = before ++ (row_of n p ∷ after)

    its_form : T (formed n r)
    unfolding each_row
    its_form =
        and_l (formed n r) (all_formed n after)
        (and_r (all_formed n before) (all_formed n (r ∷ after)) (subst T (each_append (formed n) before (r ∷ after)) m.formed))

    others_formed : T (all_formed n before) × T (all_formed n after)
    unfolding each_row
    others_formed =
        let both = subst T (each_append (formed n) before (r ∷ after)) m.formed in
        (and_l (all_formed n before) (all_formed n (r ∷ after)) both, and_r (formed n r) (all_formed n after) (and_r (all_formed n before) (all_formed n (r ∷ after)) both))

    rival_formed : T (all_formed n rival)
    unfolding rival each_row
    rival_formed =
        subst⁻¹ T (each_append (formed n) before (row_of n p ∷ after))
        (and_i (all_formed n before) (all_formed n (row_of n p ∷ after)) others_formed.0
        (and_i (formed n (row_of n p)) (all_formed n after) ((one_to_one n).row_formed p) others_formed.1))

    -- what one of the three parts matches
    split : (x : Row) (c : ℕ) → T (cover_matches (before ++ (x ∷ after)) c) → T (cover_matches before c) ⊎ (T (row_matches x c) ⊎ T (cover_matches after c))
    unfolding cover_matches
    split x c h =
        ⊎_elim inl (λ y. inr (or_e (row_matches x c) (cover_matches after c) y))
        (or_e (cover_matches before c) (cover_matches (x ∷ after) c) (subst T (matches_append before (x ∷ after) c) h))

    joined : (x : Row) (c : ℕ) → T (cover_matches before c) ⊎ (T (row_matches x c) ⊎ T (cover_matches after c)) → T (cover_matches (before ++ (x ∷ after)) c)
    unfolding cover_matches
    joined x c h =
        subst⁻¹ T (matches_append before (x ∷ after) c)
        (⊎_elim (or_l (cover_matches before c) (cover_matches (x ∷ after) c))
        (λ y. or_r (cover_matches before c) (cover_matches (x ∷ after) c)
        (⊎_elim (or_l (row_matches x c) (cover_matches after c)) (or_r (row_matches x c) (cover_matches after c)) y)) h)

    -- the wider cube matches what the row matches
    row_wider : (c : ℕ) → T (row_matches r c) → T (row_matches (row_of n p) c)
    row_wider c h =
        subst⁻¹ T (row_of_matches n p c l)
        (contained_matches n (number_of n r) p c (wider_contains n t (number_of n r) p w) (subst T ((one_to_one n).same_codes r its_form c) h))

    rival_right : T (implements n t rival)
    unfolding rival
    rival_right =
        implements_by n t (before ++ (row_of n p ∷ after)) on off
      where
        on : (c : ℕ) → c < 2 ^ n → T (on_set t c) → T (cover_matches (before ++ (row_of n p ∷ after)) c)
        on c k h =
            joined (row_of n p) c
            (⊎_elim inl (λ y. inr (⊎_elim (λ z. inl (row_wider c z)) inr y)) (split r c (implements_on n t (before ++ (r ∷ after)) m.right c k h)))

        off : (c : ℕ) → c < 2 ^ n → T (off_set t c) → T (cover_matches (before ++ (row_of n p ∷ after)) c) → ⊥
        off c k h x =
            ⊎_elim (λ y. implements_off n t (before ++ (r ∷ after)) m.right c k h (joined r c (inl y)))
            (λ y. ⊎_elim (λ z. implicant_at n t p (wider-implicant n t (number_of n r) p w) c k (subst T (row_of_matches n p c l) z) h)
            (λ z. implements_off n t (before ++ (r ∷ after)) m.right c k h (joined r c (inr (inr z)))) y) (split (row_of n p) c x)

    not_wider : ⊥
    unfolding rival cover_literals
    not_wider =
        ⊎_elim (λ x. omega (arith, length-append before (r ∷ after), length-append before (row_of n p ∷ after)))
        (λ x. omega (
          arith,
          x.1,
          literals_append n before (r ∷ after),
          literals_append n before (row_of n p ∷ after),
          row_of_literals n p l,
          (one_to_one n).same_literals r,
          wider_fewer n t (number_of n r) p w,
        ))
        (m.least rival rival_formed rival_right)

  prime_row : (before after : Cover) (r : Row) → Minimum n t (before ++ (r ∷ after)) → T (implicant n t (number_of n r)) → T (prime n t (number_of n r))
  unfolding prime
  prime_row before after r m i = go (some (3 ^ n) (wider n t (number_of n r))) refl
    where
      go : (b : Bool) → some (3 ^ n) (wider n t (number_of n r)) ≡ b → T (implicant n t (number_of n r) && not (some (3 ^ n) (wider n t (number_of n r))))
      go true e =
          let s = some_at (3 ^ n) (wider n t (number_of n r)) (passes _ e) in
          absurd (not_wider before after r s.0 s.1 m s.2)
      go false e =
          and_i (implicant n t (number_of n r)) (not (some (3 ^ n) (wider n t (number_of n r)))) i (subst⁻¹ (λ (b : Bool). T (not b)) e tt)

  prime_rows : (before after : Cover) → Minimum n t (before ++ after) → T (each_row (sound n t) after) → T (each_row (λ r. prime n t (number_of n r)) after)
  unfolding each_row
  prime_rows before [] m s = tt
  prime_rows before (r ∷ after) m s =
      and_i (prime n t (number_of n r)) (each_row (λ r. prime n t (number_of n r)) after)
      (prime_row before after r m (and_r (formed n r) (implicant n t (number_of n r)) (and_l (sound n t r) (each_row (sound n t) after) s)))
      (prime_rows (before ++ (r ∷ [])) after (subst⁻¹ (Minimum n t) (append_assoc before (r ∷ []) after) m) (and_r (sound n t r) (each_row (sound n t) after) s))

  -- ---- the minimum sums of document 000

  to_sum : (a : Cover) → Minimum n t a → MinimumSum n t a
  to_sum a m =
      let own : EquivalentSum n t a = record { products = m.formed; same_table = m.right } in
      record {
        fewest_terms = record { equivalent = own; fewest = λ b e. no_more_rows (m.least b e.products e.same_table) };
        fewest_literals = λ b f.
            ⊎_elim (λ x. absurd (omega (arith, f.fewest a own))) (λ x. x.1) (m.least b f.equivalent.products f.equivalent.same_table);
      }

  from_sum : (a : Cover) → MinimumSum n t a → Minimum n t a
  from_sum a s =
      let f = s.fewest_terms in
      record {
        formed = f.equivalent.products;
        right = f.equivalent.same_table;
        least = λ b x y.
            let e : EquivalentSum n t b = record { products = x; same_table = y } in
            ⊎_elim
            (λ k. inr (k, s.fewest_literals b (record { equivalent = e; fewest = λ d z. subst (λ (i : ℕ). i ≤ length d) k (f.fewest d z) })))
            (λ k. inl k) (eq-or-lt_of_le (f.fewest b e));
      }

  pub shortest : Shortest n t
  shortest = record {
    counts = λ a b x y. same_counts (x.least b y.formed y.right) (y.least a x.formed x.right);
    primes = λ a x. prime_rows [] a x (rows_sound n t a x.right a (λ c m. m) x.formed);
    rows = minimum_rows;
    sums = λ a. (to_sum a, from_sum a);
  }
