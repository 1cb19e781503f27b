-- The wanted codes taken in pairs: a right list of at most 2^(n-1) rows. The codes i * 2 and i * 2 + 1 differ in the last bit alone, and a pair that
-- holds a wanted code gets one row, the pair's cube where neither code is barred, and else the one code that is not. Assumes nothing.
use mathlib.Core.Path.{◌≡◌, sym, ap, ◌∙◌, subst, subst⁻¹}
use mathlib.Core.Logic.{⊎_elim}
use mathlib.Core.Bool.{Bool, true, false, cond, not, ◌&&◌, ◌||◌}
use mathlib.Core.List.{List, [], ◌∷◌}
use Prim.Native.Nat.{ℕ, zero, suc, ◌+◌, ◌-◌, ◌*◌, ◌^◌, ◌/◌, ◌%◌, ◌<◌, ◌≤◌}
use native.Mathlib.Nat.{not-suc-le-zero, le_of_suc-le-suc, eq-or-lt_of_le, mod-eq_of_lt, pow-suc}
use native.Mathlib.Omega.{arith}
use lib.Bits.{bit_and, and_mask}
use lib.Dec.{T, eqb, ltb, eqb→eq, eqb_refl, lt→ltb, lit<, T_not, not_T}
use lib.ListN.{length}
use lib.Pow.{pow_pos}
use mir.Facts.{yes_eqb}
use Rattle.cube.specs.Words.{on_set, off_set, Row, Cover, row_matches, formed, each_row, all_formed, cover_matches, implements, fits, row_of, number_of}
use Rattle.numbers.proofs.Bools.{and_l, and_r, and_i, or_e, or_l, or_r}
use Rattle.cube.proofs.Digits.{bit_lt, matches_at}
use Rattle.cube.proofs.Rows.{cube_lt, row_is_cube, row_formed, row_of_matches}
use Rattle.cube.proofs.Theorems.{not_barred, implements_by}

-- ---- a row for each number below m that passes

-- a code that no row matches
none_matches : (rs : Cover) (c : ℕ) → T (each_row (λ r. not (row_matches r c)) rs) → T (cover_matches rs c) → ⊥
unfolding each_row cover_matches
none_matches [] c e h = h
none_matches (r ∷ rs) c e h =
    ⊎_elim (T_not (row_matches r c) (and_l (not (row_matches r c)) (each_row (λ r. not (row_matches r c)) rs) e))
    (none_matches rs c (and_r (not (row_matches r c)) (each_row (λ r. not (row_matches r c)) rs) e)) (or_e (row_matches r c) (cover_matches rs c) h)

module _ (row : ℕ → Row) (f : ℕ → Bool) where
  rows_below : ℕ → Cover
  rows_below zero = []
  rows_below (suc m) = cond (f m) (row m ∷ rows_below m) (rows_below m)

  below_length : (m : ℕ) → length (rows_below m) ≤ m
  unfolding rows_below
  below_length zero = omega arith
  below_length (suc m) = go (f m) (below_length m)
    where
      go : (b : Bool) → length (rows_below m) ≤ m → length (cond b (row m ∷ rows_below m) (rows_below m)) ≤ suc m
      go true l = omega arith
      go false l = omega arith

  below_each : (g : Row → Bool) (m : ℕ) → ((i : ℕ) → i < m → T (f i) → T (g (row i))) → T (each_row g (rows_below m))
  unfolding rows_below each_row
  below_each g zero h = tt
  below_each g (suc m) h = go (f m) (h m (omega arith)) (below_each g m (λ i l. h i (omega arith)))
    where
      go : (b : Bool) → (T b → T (g (row m))) → T (each_row g (rows_below m)) → T (each_row g (cond b (row m ∷ rows_below m) (rows_below m)))
      go true here rest = and_i (g (row m)) (each_row g (rows_below m)) (here tt) rest
      go false here rest = rest

  below_matches : (m i c : ℕ) → i < m → T (f i) → T (row_matches (row i) c) → T (cover_matches (rows_below m) c)
  unfolding rows_below cover_matches
  below_matches zero i c l p h = absurd (not-suc-le-zero l)
  below_matches (suc m) i c l p h =
      ⊎_elim (λ e. last (f m) (subst (λ (j : ℕ). T (f j)) e p) (subst (λ (j : ℕ). T (row_matches (row j) c)) e h))
      (λ x. before (f m) (below_matches m i c x p h)) (eq-or-lt_of_le (le_of_suc-le-suc l))
    where
      last : (b : Bool) → T b → T (row_matches (row m) c) → T (cover_matches (cond b (row m ∷ rows_below m) (rows_below m)) c)
      last true p h = or_l (row_matches (row m) c) (cover_matches (rows_below m) c) h
      last false p h = absurd p

      before : (b : Bool) → T (cover_matches (rows_below m) c) → T (cover_matches (cond b (row m ∷ rows_below m) (rows_below m)) c)
      before true h = or_r (row_matches (row m) c) (cover_matches (rows_below m) c) h
      before false h = h

  -- the list is right where each wanted code is matched by one of the rows, and none of them matches a barred code
  below_right : (n : ℕ) (t : List ℕ) (m : ℕ) → ((c : ℕ) → c < 2 ^ n → T (on_set t c) → (i : ℕ) × (i < m) × T (f i) × T (row_matches (row i) c))
      → ((i c : ℕ) → i < m → c < 2 ^ n → T (f i) → T (off_set t c) → T (row_matches (row i) c) → ⊥) → T (implements n t (rows_below m))
  below_right n t m on off =
      implements_by n t (rows_below m) (λ c k w. let r = on c k w in below_matches m r.0 c r.1 r.2 r.3) λ c k b.
      none_matches (rows_below m) c (below_each (λ r. not (row_matches r c)) m (λ i l p. not_T (row_matches (row i) c) (off i c l k p b)))

-- ---- one code

-- the row that tests every bit of a code
abbrev single : ℕ → ℕ → Row
single n c = record { value = c; care = 2 ^ n - 1 }

masked : (n c : ℕ) → c < 2 ^ n → bit_and c (2 ^ n - 1) ≡ c
masked n c l = and_mask c n ∙ mod-eq_of_lt l

single_formed : (n c : ℕ) → c < 2 ^ n → T (formed n (single n c))
unfolding formed
single_formed n c l =
    and_i (ltb (2 ^ n - 1) (2 ^ n)) (eqb (bit_and c (2 ^ n - 1)) c) (lt→ltb (2 ^ n - 1) (2 ^ n) (omega (arith, pow_pos n))) (yes_eqb (masked n c l))

single_matches : (n c d : ℕ) → d < 2 ^ n → row_matches (single n c) d ≡ eqb d c
unfolding row_matches
single_matches n c d l = ap (λ (i : ℕ). eqb i c) (masked n d l)

-- ---- a pair of codes

-- the row with the bits of i and then the digit d: i * 2 alone for 0, i * 2 + 1 alone for 1, and both for 2
abbrev pair_row : ℕ → ℕ → ℕ → Row
pair_row n i d = row_of (suc n) (number_of n (single n i) * 3 + d)

pair_matches : (n i d c : ℕ) → i < 2 ^ n → d < 3 → c < 2 ^ suc n → row_matches (pair_row n i d) c ≡ (fits d (c % 2) && eqb (c / 2) i)
pair_matches n i d c l m k =
    let q : ℕ = number_of n (single n i) in
    let half : c / 2 < 2 ^ n = omega (arith, pow-suc 2 n) in
    row_of_matches (suc n) (q * 3 + d) c (omega (arith, pow-suc 3 n, cube_lt n i (2 ^ n - 1)))
    ∙ matches_at n q d m c
    ∙ ap (λ (b : Bool). fits d (c % 2) && b) (sym (row_is_cube n (single n i) (single_formed n i l) (c / 2)) ∙ single_matches n i (c / 2) half)

-- the digit for a pair, by which of its two codes are barred: that of the code that is not, or 2
abbrev last_digit : Bool → Bool → ℕ
last_digit x y = cond x 1 (cond y 0 2)

last_digit_lt : (x y : Bool) → last_digit x y < 3
last_digit_lt true y = lit< tt
last_digit_lt false true = lit< tt
last_digit_lt false false = lit< tt

-- the row matches a code that is not barred, and where one of the two is not, no code that is
first_in : (x y : Bool) → (T x → ⊥) → T (fits (last_digit x y) 0)
first_in true y h = absurd (h tt)
first_in false true h = tt
first_in false false h = tt

second_in : (x y : Bool) → (T y → ⊥) → T (fits (last_digit x y) 1)
second_in x true h = absurd (h tt)
second_in true false h = tt
second_in false false h = tt

first_out : (x y : Bool) → T x → T (fits (last_digit x y) 0) → ⊥
first_out true y b h = h
first_out false y b h = b

second_out : (x y : Bool) → T y → (T x → ⊥) → T (fits (last_digit x y) 1) → ⊥
second_out true y b f h = f tt
second_out false true b f h = h
second_out false false b f h = b

-- ---- the list

-- a right list with a row for each pair of codes, at most
pub record PairByPair (n : ℕ) (t : List ℕ) : Type 0 where
  pub list : Cover
  pub is_formed : T (all_formed n list)
  pub right : T (implements n t list)
  pub rows : length list ≤ 2 ^ (n - 1)

module _ (n : ℕ) (t : List ℕ) where
  -- the codes of pair i are i * 2 + 0 and i * 2 + 1: whether one of them is wanted, and the pair's row
  abbrev holds_wanted : ℕ → Bool
  holds_wanted i = on_set t (i * 2 + 0) || on_set t (i * 2 + 1)

  abbrev digit_for : ℕ → ℕ
  digit_for i = last_digit (off_set t (i * 2 + 0)) (off_set t (i * 2 + 1))

  abbrev row_for : ℕ → Row
  row_for i = pair_row n i (digit_for i)

  row_for_lem : (i c : ℕ) → i < 2 ^ n → c < 2 ^ suc n → row_matches (row_for i) c ≡ (fits (digit_for i) (c % 2) && eqb (c / 2) i)
  row_for_lem i c l k = pair_matches n i (digit_for i) c l (last_digit_lt (off_set t (i * 2 + 0)) (off_set t (i * 2 + 1))) k

  module _ (i : ℕ) where
    held : (b : ℕ) → b < 2 → T (on_set t (i * 2 + b)) → T (holds_wanted i)
    held zero l w = or_l (on_set t (i * 2 + 0)) (on_set t (i * 2 + 1)) w
    held (suc zero) l w = or_r (on_set t (i * 2 + 0)) (on_set t (i * 2 + 1)) w
    held (suc (suc b)) l w = absurd (omega arith)

    wanted_in : (b : ℕ) → b < 2 → T (on_set t (i * 2 + b)) → T (fits (digit_for i) b)
    wanted_in zero l w = first_in (off_set t (i * 2 + 0)) (off_set t (i * 2 + 1)) (not_barred t (i * 2 + 0) w)
    wanted_in (suc zero) l w = second_in (off_set t (i * 2 + 0)) (off_set t (i * 2 + 1)) (not_barred t (i * 2 + 1) w)
    wanted_in (suc (suc b)) l w = absurd (omega arith)

    -- where one code is wanted, not both are barred
    not_both : T (holds_wanted i) → T (off_set t (i * 2 + 1)) → T (off_set t (i * 2 + 0)) → ⊥
    not_both w y x =
        ⊎_elim (λ z. not_barred t (i * 2 + 0) z x) (λ z. not_barred t (i * 2 + 1) z y) (or_e (on_set t (i * 2 + 0)) (on_set t (i * 2 + 1)) w)

    barred_out : (b : ℕ) → b < 2 → T (holds_wanted i) → T (off_set t (i * 2 + b)) → T (fits (digit_for i) b) → ⊥
    barred_out zero l w x h = first_out (off_set t (i * 2 + 0)) (off_set t (i * 2 + 1)) x h
    barred_out (suc zero) l w y h = second_out (off_set t (i * 2 + 0)) (off_set t (i * 2 + 1)) y (not_both w y) h
    barred_out (suc (suc b)) l w x h = omega arith

  -- each wanted code is matched by the row of its pair
  matched : (c : ℕ) → c < 2 ^ suc n → T (on_set t c) → (i : ℕ) × (i < 2 ^ n) × T (holds_wanted i) × T (row_matches (row_for i) c)
  matched c k w =
      let half : c / 2 < 2 ^ n = omega (arith, pow-suc 2 n) in
      let parts : c / 2 * 2 + c % 2 ≡ c = omega arith in
      let wanted : T (on_set t (c / 2 * 2 + c % 2)) = subst⁻¹ (λ (d : ℕ). T (on_set t d)) parts w in (
        c / 2,
        half,
        held (c / 2) (c % 2) (bit_lt c) wanted,
        subst⁻¹ T (row_for_lem (c / 2) c half k)
            (and_i (fits (digit_for (c / 2)) (c % 2)) (eqb (c / 2) (c / 2)) (wanted_in (c / 2) (c % 2) (bit_lt c) wanted) (eqb_refl (c / 2))),
      )

  -- and no barred code by any
  unmatched : (i c : ℕ) → i < 2 ^ n → c < 2 ^ suc n → T (holds_wanted i) → T (off_set t c) → T (row_matches (row_for i) c) → ⊥
  unmatched i c l k w b h =
      let m = subst T (row_for_lem i c l k) h in
      let e : c / 2 ≡ i = eqb→eq (c / 2) i (and_r (fits (digit_for i) (c % 2)) (eqb (c / 2) i) m) in
      let parts : i * 2 + c % 2 ≡ c = omega arith in
      barred_out i (c % 2) (bit_lt c) w (subst⁻¹ (λ (d : ℕ). T (off_set t d)) parts b) (and_l (fits (digit_for i) (c % 2)) (eqb (c / 2) i) m)

  pairs : PairByPair (suc n) t
  pairs =
      let less : suc n - 1 ≡ n = omega arith in
      record {
        list = rows_below row_for holds_wanted (2 ^ n);
        is_formed = below_each row_for holds_wanted (formed (suc n)) (2 ^ n) (λ i l w. row_formed (suc n) (number_of n (single n i) * 3 + digit_for i));
        right = below_right row_for holds_wanted (suc n) t (2 ^ n) matched unmatched;
        rows = subst⁻¹ (λ (k : ℕ). length (rows_below row_for holds_wanted (2 ^ n)) ≤ 2 ^ k) less (below_length row_for holds_wanted (2 ^ n));
      }

-- at width 0 there is one code, and it is its own row
sole : (t : List ℕ) → PairByPair 0 t
sole t = record {
  list = rows_below (single 0) (on_set t) 1;
  is_formed = below_each (single 0) (on_set t) (formed 0) 1 (λ c l w. single_formed 0 c l);
  right = below_right (single 0) (on_set t) 0 t 1 (λ c l w. (c, l, w, subst⁻¹ T (single_matches 0 c c l) (eqb_refl c))) λ c d l k w b h.
      not_barred t c w (subst (λ (i : ℕ). T (off_set t i)) (eqb→eq d c (subst T (single_matches 0 c d k) h)) b);
  rows = below_length (single 0) (on_set t) 1;
}

pub pair_by_pair : (n : ℕ) (t : List ℕ) → PairByPair n t
pair_by_pair zero t = sole t
pair_by_pair (suc n) t = pairs n t
