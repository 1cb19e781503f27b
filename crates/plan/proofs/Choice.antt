-- The chosen list: the cubes of the picked rows are those of a shortest list, and its counts are read off the weight. Assumes nothing.
use mathlib.Core.Path.{◌≡◌, refl, sym, ap, ap₂, ◌∙◌, subst₂, subst⁻¹}
use mathlib.Core.Bool.{Bool, ◌&&◌}
use mathlib.Core.List.{List, [], ◌∷◌, map}
use Prim.Native.Nat.{ℕ, suc, ◌+◌, ◌*◌, ◌-◌, ◌^◌, ◌<◌, ◌≤◌}
use native.Mathlib.Nat.{mul-le-mul_left}
use native.Mathlib.Omega.{arith}
use lib.Dec.{T, leb, le→leb, ltb, ltb→lt, lt→ltb}
use lib.ListN.{length, length-map, get_or}
use Rattle.std.proofs.lemmas.List.{get_or-map}
use Rattle.std.specs.Bool.{passes}
use Rattle.numbers.specs.Below.{those, word_of}
use Rattle.cube.specs.Words.{on_set, Cover, cover_literals, row_of, serving_primes_of}
use Rattle.cube.specs.Calls.{widest}
use Rattle.cube.specs.Minimum.{Minimum}
use Rattle.numbers.proofs.Bools.{and_l, and_r, and_i, is_true}
use Rattle.numbers.proofs.Below.{those_ascend}
use Rattle.cube.proofs.Calls.{code_pairs_most}
use Rattle.cube.proofs.Minimum.{minimum_rows}
use Rattle.covering.specs.Weighted.{Within, LeastCover}
use Rattle.matrix.specs.Sets.{has, In, member}
use Rattle.matrix.specs.Matrix.{CoversColumn, weight_of}
use Rattle.chart_arrays.specs.Rows.{chart_row, chart_of}
use Rattle.chart_arrays.specs.declared.ChartRow.{ChartRow}
use Rattle.chart_arrays.proofs.Columns.{has_word}
use Rattle.plan.specs.Plan.{ascends_from, ascending}
use Rattle.plan.specs.Steps.{row_weight, words_of, weights_of, cubes_of, rows_of_cubes, Lightest, Cubes, Chosen, picked_cubes}
use Rattle.search.specs.Search.{Coverable}
use Rattle.incumbent.specs.declared.Cover.{Cover as PickedRows}
use Rattle.plan.proofs.Selections.{ChartOf, cube_at, list_of, list_weight, minimum_list, coverable, cubes_below, ascending_list}

-- the wanted codes
module _ (n : ℕ) (t : List ℕ) where
  abbrev pub wanted_word : ℕ
  wanted_word = word_of (2 ^ n) (on_set t)

  wanted_is : (c : ℕ) → has wanted_word c ≡ (ltb c (2 ^ n) && on_set t c)
  wanted_is c = has_word (2 ^ n) (on_set t) c

  wanted_columns : (c : ℕ) → In wanted_word c → (c < 2 ^ n) × T (on_set t c)
  wanted_columns c h =
      let b = passes (ltb c (2 ^ n) && on_set t c) (sym (wanted_is c) ∙ h) in
      (ltb→lt c (2 ^ n) (and_l (ltb c (2 ^ n)) (on_set t c) b), and_r (ltb c (2 ^ n)) (on_set t c) b)

  columns_wanted : (c : ℕ) → c < 2 ^ n → T (on_set t c) → In wanted_word c
  columns_wanted c l a =
      wanted_is c ∙ is_true (ltb c (2 ^ n) && on_set t c) (and_i (ltb c (2 ^ n)) (on_set t c) (lt→ltb c (2 ^ n) l) a)

map_same : (A : ℕ → Type 0) (f g : ℕ → ℕ) → ((i : ℕ) → A i → f i ≡ g i) → (L : List ℕ) → Within A L → map f L ≡ map g L
map_same A f g e [] w = refl
map_same A f g e (i ∷ L) w = ap₂ (λ (x : ℕ) (xs : List ℕ). x ∷ xs) (e i w.0) (map_same A f g e L w.1)

-- those that pass ascend
ascends_by : (b : ℕ) (xs : List ℕ) → ((i : ℕ) → i < length xs → b ≤ get_or xs i 0) → ((i j : ℕ) → i < j → j < length xs → get_or xs i 0 < get_or xs j 0) → T (ascends_from b xs)
unfolding ascends_from
ascends_by b [] l a = tt
ascends_by b (x ∷ xs) l a =
    and_i (leb b x) (ascends_from (suc x) xs) (le→leb b x (l 0 (omega arith)))
    (ascends_by (suc x) xs (λ i k. a 0 (suc i) (omega arith) (omega arith)) (λ i j h k. a (suc i) (suc j) (omega arith) (omega arith)))

those-ascending : (m : ℕ) (p : ℕ → Bool) → T (ascending (those m p))
those-ascending m p = ascends_by 0 (those m p) (λ i l. omega arith) (those_ascend p m)

-- a cube is listed for each picked row
pub picked_count : (picked : List ℕ) (rows : List ChartRow) → length (picked_cubes picked rows) ≡ length (those (length rows) (member picked))
picked_count picked rows = length-map (those (length rows) (member picked)) (λ (i : ℕ). get_or (cubes_of rows) i 0)

small_lists : (n : ℕ) → n ≤ widest → n * 2 ^ (n - 1) < row_weight
small_lists n w = omega (arith, mul-le-mul_left n (code_pairs_most n w))

-- a field of the rows of a chart, place by place
field_at : (n : ℕ) (t : List ℕ) (f : ChartRow → ℕ) (i : ℕ) → i < length (serving_primes_of n t)
    → get_or (map f (chart_of n t)) i 0 ≡ f (chart_row n t (get_or (serving_primes_of n t) i 0))
field_at n t f i l =
    get_or-map f (chart_of n t) i (chart_row n t 0) 0 (omega (arith, length-map (serving_primes_of n t) (chart_row n t)))
    ∙ ap f (get_or-map (chart_row n t) (serving_primes_of n t) i 0 (chart_row n t 0) l)

-- what the rows that the search picks tell: they are no more than the places of a list, and their cubes are a shortest list, whose counts the weight has
pub record Picked (n : ℕ) (t : List ℕ) (rows : List ChartRow) (found : PickedRows) : Type 0 where
  pub room : length (those (length rows) (member found.rows)) ≤ 2 ^ (widest - 1)
  pub weighs : row_weight * length (picked_cubes found.rows rows) ≤ found.weight
  pub chosen : Chosen n t (picked_cubes found.rows rows) (found.weight - row_weight * length (picked_cubes found.rows rows))

module _ (n : ℕ) (t : List ℕ) where
  abbrev rows : List ChartRow
  rows = chart_of n t

  abbrev words : List ℕ
  words = words_of (chart_of n t)

  abbrev weights : List ℕ
  weights = weights_of (chart_of n t)

  rows_are : length rows ≡ length (serving_primes_of n t)
  rows_are = length-map (serving_primes_of n t) (chart_row n t)

  words_are : length words ≡ length (serving_primes_of n t)
  words_are = length-map rows (λ (r : ChartRow). r.word) ∙ rows_are

  of_chart : ChartOf n t words weights
  of_chart = record { word = field_at n t (λ r. r.word); weight = field_at n t (λ r. row_weight + r.literals) }

  each_column : Coverable words (wanted_word n t)
  each_column c h =
      let d = wanted_columns n t c h in
      let r = coverable n t words weights of_chart c d.0 d.1 in
      (r.0, omega (arith, r.1, words_are), r.2)

  module _ (width : n ≤ widest) (found : PickedRows) (light : Lightest (chart_of n t) (wanted_word n t) found) where
    L : List ℕ
    L = those (length rows) (member found.rows)

    minimum_selection : LeastCover (CoversColumn words) (weight_of weights) (λ i. i < length (serving_primes_of n t)) (In (wanted_word n t)) L found.weight
    unfolding L
    minimum_selection =
        subst₂ (λ (k j : ℕ). LeastCover (CoversColumn words) (weight_of weights) (λ i. i < k) (In (wanted_word n t)) (those j (member found.rows)) found.weight)
        words_are (words_are ∙ sym rows_are) light

    list : Cover
    list = list_of n t words weights of_chart L

    list_minimum : Minimum n t list
    unfolding list
    list_minimum =
        minimum_list n t words weights of_chart (small_lists n width) (wanted_word n t) found.weight (wanted_columns n t)
        (columns_wanted n t) L minimum_selection

    count_is : length list ≡ length (those (length rows) (member found.rows))
    unfolding list L
    count_is = length-map (map (cube_at n t words weights of_chart) L) (row_of n) ∙ length-map L (cube_at n t words weights of_chart)

    weight_is : found.weight ≡ row_weight * length list + cover_literals n list
    unfolding list
    weight_is = sym minimum_selection.weighs ∙ list_weight n t words weights of_chart L minimum_selection.within

    picked_are : picked_cubes found.rows rows ≡ map (cube_at n t words weights of_chart) L
    unfolding L
    picked_are =
        map_same (λ i. i < length (serving_primes_of n t)) (λ (i : ℕ). get_or (cubes_of rows) i 0) (cube_at n t words weights of_chart) (field_at n t (λ r. r.cube))
        (those (length rows) (member found.rows)) minimum_selection.within

    picked : Picked n t rows found
    unfolding list L
    picked = record {
      room = omega (arith, count_is, minimum_rows n t list list_minimum, code_pairs_most n width);
      weighs = omega (arith, count_is, weight_is, picked_count found.rows rows);
      chosen = record {
        below = subst⁻¹ (Cubes n) picked_are (cubes_below n t words weights of_chart L minimum_selection.within);
        minimum = subst⁻¹ (λ (qs : List ℕ). Minimum n t (rows_of_cubes n qs)) picked_are list_minimum;
        is_ascending =
            subst⁻¹ (λ (qs : List ℕ). T (ascending qs)) picked_are
            (ascending_list n t words weights of_chart L (those-ascending (length rows) (member found.rows)) minimum_selection.within);
        counts =
            omega (arith, weight_is, count_is, picked_count found.rows rows)
            ∙ ap (λ (qs : List ℕ). cover_literals n (rows_of_cubes n qs)) (sym picked_are);
      };
    }

-- ---- as code has it: of rows that are the chart, and of columns that are the wanted codes

-- each wanted code has a row
pub chart_covers : (n : ℕ) (t : List ℕ) (rows : List ChartRow) (u : ℕ) → rows ≡ chart_of n t → u ≡ wanted_word n t → Coverable (words_of rows) u
chart_covers n t rows u chart u-is = rw (chart, u-is) (each_column n t)

pub picked_rows : (n : ℕ) (t : List ℕ) → n ≤ widest → (rows : List ChartRow) → rows ≡ chart_of n t → (u : ℕ) → u ≡ wanted_word n t → (found : PickedRows)
    → Lightest rows u found → Picked n t rows found
picked_rows n t width rows chart u u-is found light = rw chart (picked n t width found (subst₂ (λ (r : List ChartRow) (x : ℕ). Lightest r x found) chart u-is light))
