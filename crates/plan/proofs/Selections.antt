-- From the minimum cover of the chart to a shortest list. Each row of a rival lies within a prime that tests no more bits, and one that does not serve can be
-- left out, so the rival gives a selection of chart rows that covers every wanted code and weighs no more; the minimum selection weighs least, and the
-- weight orders lists. Assumes nothing.
use mathlib.Core.Path.{◌≡◌, refl, sym, ap, ◌∙◌, subst, subst⁻¹}
use mathlib.Core.Logic.{inl, inr, ⊎_elim}
use mathlib.Core.Bool.{Bool, true, false, ◌&&◌}
use mathlib.Core.List.{List, [], ◌∷◌, map}
use Prim.Native.Nat.{ℕ, zero, suc, ◌+◌, ◌-◌, ◌*◌, ◌^◌, ◌<◌, ◌≤◌}
use native.Mathlib.Nat.{not-suc-le-zero, le_of_suc-le-suc}
use native.Mathlib.Omega.{arith}
use lib.Dec.{T, ltb, leb, lt→ltb, le→leb, leb→le}
use lib.ListN.{length, get_or}
use Rattle.std.specs.Bool.{passes}
use Rattle.cube.specs.Words.{on_set, off_set, Row, Cover, row_matches, formed, each_row, all_formed, cover_matches, cover_literals, implements, cube_matches, cube_literals, row_of, number_of, implicant, prime, serves, serving_prime, serving_primes_of, column}
use Rattle.cube.specs.Minimum as lists
use Rattle.numbers.proofs.Bools.{and_l, and_r, and_i, or_e, or_l, or_r, is_true}
use Rattle.numbers.proofs.Below.{those_at, those_ascend, those_place}
use Rattle.cube.proofs.Digits.{contained_matches, contained_literals}
use Rattle.cube.proofs.Implicants.{implicant_at, prime-implicant, PrimeAbove, prime_above}
use Rattle.cube.proofs.Rows.{cube_lt, row_is_cube, row_literals_lem, row_formed, row_of_matches, row_of_literals}
use Rattle.cube.proofs.Theorems.{implements_on, implements_by, serves_by}
use Rattle.cube.proofs.Independent.{sound, rows_sound}
use Rattle.cube.proofs.Covers.{literals_most}
use Rattle.cube.proofs.Pairs.{pair_by_pair}
use Rattle.covering.specs.Weighted.{Within, Hits, weight, LeastCover}
use Rattle.covering.proofs.Bounds.{hitter}
use Rattle.matrix.specs.Sets.{has, In}
use Rattle.matrix.specs.Matrix.{CoversColumn, weight_of}
use Rattle.chart_arrays.specs.Columns.{columns_of}
use Rattle.chart_arrays.proofs.Columns.{bit-has}
use Rattle.chart_arrays.proofs.Theorems.{word_tells}
use Rattle.plan.specs.Plan.{ascends_from, ascending}
use Rattle.plan.specs.Steps.{row_weight, weight_of_cube, rows_of_cubes}
use Rattle.plan.proofs.Weights.{rows_most, weight_orders}

-- the chart on two lists: the word and the weight of each prime that serves, in the primes' order
pub record ChartOf (n : ℕ) (t words weights : List ℕ) : Type 0 where
  pub word : (i : ℕ) → i < length (serving_primes_of n t) → get_or words i 0 ≡ columns_of n t (get_or (serving_primes_of n t) i 0)
  pub weight : (i : ℕ) → i < length (serving_primes_of n t) → get_or weights i 0 ≡ weight_of_cube n (get_or (serving_primes_of n t) i 0)

module _ (n : ℕ) (t words weights : List ℕ) (chart : ChartOf n t words weights) where
  -- a chart row, and its cube
  abbrev pub ChartRow : ℕ → Type 0
  ChartRow i = i < length (serving_primes_of n t)

  abbrev pub cube_at : ℕ → ℕ
  cube_at i = get_or (serving_primes_of n t) i 0

  cube_at_lem : (i : ℕ) → ChartRow i → (cube_at i < 3 ^ n) × T (prime n t (cube_at i))
  unfolding serving_primes_of
  cube_at_lem i l = let p = those_at (serving_prime n t) (3 ^ n) i l in (p.0, and_l (prime n t (cube_at i)) (serves n t (cube_at i)) p.1)

  -- a chart row covers the wanted codes that its cube matches
  covers_is : (i c : ℕ) → ChartRow i → has (get_or words i 0) c ≡ (ltb c (2 ^ n) && column n t (cube_at i) c)
  covers_is i c l =
      ap (λ (w : ℕ). has w c) (chart.word i l)
      ∙ bit-has (columns_of n t (cube_at i)) c (ltb c (2 ^ n) && column n t (cube_at i) c) ((word_tells n t (cube_at i)).tells c)

  covers_by : (i c : ℕ) → ChartRow i → c < 2 ^ n → T (on_set t c) → T (cube_matches n (cube_at i) c) → CoversColumn words i c
  covers_by i c l k a m =
      covers_is i c l
      ∙ is_true (ltb c (2 ^ n) && column n t (cube_at i) c)
      (and_i (ltb c (2 ^ n)) (column n t (cube_at i) c) (lt→ltb c (2 ^ n) k) (and_i (on_set t c) (cube_matches n (cube_at i) c) a m))

  covers_matches : (i c : ℕ) → ChartRow i → CoversColumn words i c → T (cube_matches n (cube_at i) c)
  covers_matches i c l h =
      and_r (on_set t c) (cube_matches n (cube_at i) c)
      (and_r (ltb c (2 ^ n)) (column n t (cube_at i) c) (passes (ltb c (2 ^ n) && column n t (cube_at i) c) (sym (covers_is i c l) ∙ h)))

  -- ---- the list of a selection

  abbrev pub list_of : List ℕ → Cover
  list_of L = rows_of_cubes n (map cube_at L)

  list_formed : (L : List ℕ) → T (all_formed n (list_of L))
  unfolding each_row
  list_formed [] = tt
  list_formed (i ∷ L) = and_i (formed n (row_of n (cube_at i))) (all_formed n (list_of L)) (row_formed n (cube_at i)) (list_formed L)

  list_hits : (L : List ℕ) (c : ℕ) → Within ChartRow L → Hits (CoversColumn words) L c → T (cover_matches (list_of L) c)
  unfolding cover_matches
  list_hits [] c w h = absurd h
  list_hits (i ∷ L) c w (inl h) =
      or_l (row_matches (row_of n (cube_at i)) c) (cover_matches (list_of L) c)
      (subst⁻¹ T (row_of_matches n (cube_at i) c (cube_at_lem i w.0).0) (covers_matches i c w.0 h))
  list_hits (i ∷ L) c w (inr h) = or_r (row_matches (row_of n (cube_at i)) c) (cover_matches (list_of L) c) (list_hits L c w.1 h)

  list_clear : (L : List ℕ) (c : ℕ) → Within ChartRow L → c < 2 ^ n → T (off_set t c) → T (cover_matches (list_of L) c) → ⊥
  unfolding cover_matches
  list_clear [] c w l b m = m
  list_clear (i ∷ L) c w l b m =
      ⊎_elim
      (λ x. implicant_at n t (cube_at i) (prime-implicant n t (cube_at i) (cube_at_lem i w.0).1) c l (subst T (row_of_matches n (cube_at i) c (cube_at_lem i w.0).0) x) b)
      (list_clear L c w.1 l b) (or_e (row_matches (row_of n (cube_at i)) c) (cover_matches (list_of L) c) m)

  pub list_weight : (L : List ℕ) → Within ChartRow L → weight (weight_of weights) L ≡ row_weight * length (list_of L) + cover_literals n (list_of L)
  unfolding cover_literals
  list_weight [] w = refl
  list_weight (i ∷ L) w = omega (arith, chart.weight i w.0, row_of_literals n (cube_at i) (cube_at_lem i w.0).0, list_weight L w.1)

  -- ---- the selection of a rival

  record Selected (rs : Cover) : Type 0 where
    rows : List ℕ
    within : Within ChartRow rows
    light : weight (weight_of weights) rows ≤ row_weight * length rs + cover_literals n rs
    hits : (c : ℕ) → c < 2 ^ n → T (on_set t c) → T (cover_matches rs c) → Hits (CoversColumn words) rows c

  -- the row's cube is an implicant, so it lies within a prime that tests no more bits
  module _ (r : Row) (s : T (sound n t r)) where
    above : PrimeAbove n t (number_of n r)
    above = prime_above n t (number_of n r) (cube_lt n r.value r.care) (and_r (formed n r) (implicant n t (number_of n r)) s)

    above_matches : (c : ℕ) → T (row_matches r c) → T (cube_matches n above.cube c)
    above_matches c m =
        contained_matches n (number_of n r) above.cube c above.contains
        (subst T (row_is_cube n r (and_l (formed n r) (implicant n t (number_of n r)) s) c) m)

    above_light : weight_of_cube n above.cube ≤ row_weight + cover_literals n (r ∷ [])
    unfolding cover_literals
    above_light = omega (arith, contained_literals n (number_of n r) above.cube above.contains, row_literals_lem n r.value r.care)

  -- a rival with one row more: the prime is selected where it serves, and else no wanted code is lost without it
  module _ (r : Row) (s : T (sound n t r)) (rs : Cover) (more : Selected rs) where
    with_prime : T (serves n t (above r s).cube) → Selected (r ∷ rs)
    unfolding serving_primes_of cover_matches cover_literals
    with_prime h =
        let p = above r s in
        let i = those_place (serving_prime n t) (3 ^ n) p.cube p.below (and_i (prime n t p.cube) (serves n t p.cube) p.is_prime h) in
        record {
          rows = i.0 ∷ more.rows;
          within = (i.1, more.within);
          light = omega (arith, chart.weight i.0 i.1, ap (cube_literals n) i.2, above_light r s, more.light);
          hits = λ c l a m.
              ⊎_elim (λ x. inl (covers_by i.0 c i.1 l a (subst⁻¹ (λ (q : ℕ). T (cube_matches n q c)) i.2 (above_matches r s c x))))
              (λ x. inr (more.hits c l a x)) (or_e (row_matches r c) (cover_matches rs c) m);
        }

    without_prime : (T (serves n t (above r s).cube) → ⊥) → Selected (r ∷ rs)
    unfolding cover_matches cover_literals
    without_prime h = record {
      rows = more.rows;
      within = more.within;
      light = omega (arith, more.light);
      hits = λ c l a m.
          ⊎_elim (λ x. absurd (h (serves_by n t (above r s).cube c l a (above_matches r s c x)))) (more.hits c l a) (or_e (row_matches r c) (cover_matches rs c) m);
    }

    one_more : Selected (r ∷ rs)
    one_more = go (serves n t (above r s).cube) refl
      where
        go : (b : Bool) → serves n t (above r s).cube ≡ b → Selected (r ∷ rs)
        go true e = with_prime (passes (serves n t (above r s).cube) e)
        go false e = without_prime (λ x. subst T e x)

  selected : (rs : Cover) → T (each_row (sound n t) rs) → Selected rs
  unfolding each_row cover_matches cover_literals
  selected [] s = record { rows = []; within = tt; light = omega arith; hits = λ c l a m. absurd m }
  selected (r ∷ rs) s =
      one_more r (and_l (sound n t r) (each_row (sound n t) rs) s) rs (selected rs (and_r (sound n t r) (each_row (sound n t) rs) s))

  -- each wanted code has a row
  pub coverable : (c : ℕ) → c < 2 ^ n → T (on_set t c) → (i : ℕ) × ChartRow i × CoversColumn words i c
  coverable c l a =
      let each = pair_by_pair n t in
      let s = selected each.list (rows_sound n t each.list each.right each.list (λ d x. x) each.is_formed) in
      hitter (CoversColumn words) s.rows c s.within (s.hits c l a (implements_on n t each.list each.right c l a))

  -- ---- the minimum selection's list is shortest

  module _ (small : n * 2 ^ (n - 1) < row_weight) (u k : ℕ) (columns : (c : ℕ) → In u c → (c < 2 ^ n) × T (on_set t c)) (wanted : (c : ℕ) → c < 2 ^ n → T (on_set t c) → In u c)
      (L : List ℕ) (m : LeastCover (CoversColumn words) (weight_of weights) ChartRow (In u) L k) where
    -- no list that is right weighs less
    no_lighter : (rs : Cover) → T (all_formed n rs) → T (implements n t rs)
        → row_weight * length (list_of L) + cover_literals n (list_of L) ≤ row_weight * length rs + cover_literals n rs
    no_lighter rs f g =
        let s = selected rs (rows_sound n t rs g rs (λ c x. x) f) in
        omega (
          arith,
          list_weight L m.within,
          m.weighs,
          s.light,
          m.least s.rows s.within (λ c x. let d = columns c x in s.hits c d.0 d.1 (implements_on n t rs g c d.0 d.1)),
        )

    few : length (list_of L) ≤ 2 ^ (n - 1)
    few =
        let s = pair_by_pair n t in
        rows_most n (length (list_of L)) (cover_literals n (list_of L)) (length s.list) (cover_literals n s.list) small (no_lighter s.list s.is_formed s.right)
        s.rows (literals_most n s.list)

    pub minimum_list : lists.Minimum n t (list_of L)
    minimum_list = record {
      formed = list_formed L;
      right = implements_by n t (list_of L) (λ c l a. list_hits L c m.within (m.covers c (wanted c l a))) (λ c l b x. list_clear L c m.within l b x);
      least = λ rs f g.
          weight_orders n (length (list_of L)) (cover_literals n (list_of L)) (length rs) (cover_literals n rs) small (no_lighter rs f g) few (literals_most n rs);
    }

  -- ---- the cubes of a selection

  pub cubes_below : (L : List ℕ) → Within ChartRow L → (i : ℕ) → i < length (map cube_at L) → get_or (map cube_at L) i 0 < 3 ^ n
  cubes_below [] w i l = absurd (not-suc-le-zero l)
  cubes_below (j ∷ L) w zero l = (cube_at_lem j w.0).0
  cubes_below (j ∷ L) w (suc i) l = cubes_below L w.1 i (le_of_suc-le-suc l)

  -- ---- ascending rows have ascending cubes

  cubes_ascend : (b i : ℕ) (L : List ℕ) → T (ascends_from i L) → Within ChartRow L → ((j : ℕ) → i ≤ j → ChartRow j → b ≤ cube_at j) → T (ascends_from b (map cube_at L))
  unfolding ascends_from serving_primes_of
  cubes_ascend b i [] a w f = tt
  cubes_ascend b i (j ∷ L) a w f =
      and_i (leb b (cube_at j)) (ascends_from (suc (cube_at j)) (map cube_at L)) (le→leb b (cube_at j) (f j (leb→le i j (and_l (leb i j) (ascends_from (suc j) L) a)) w.0))
      (cubes_ascend (suc (cube_at j)) (suc j) L (and_r (leb i j) (ascends_from (suc j) L) a) w.1 (λ h l x. those_ascend (serving_prime n t) (3 ^ n) j h l x))

  pub ascending_list : (L : List ℕ) → T (ascending L) → Within ChartRow L → T (ascending (map cube_at L))
  ascending_list L a w = cubes_ascend 0 0 L a w (λ j l x. omega arith)
