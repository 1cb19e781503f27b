-- A lower bound for every list: wanted codes are independent when no implicant matches two of them. Each of them takes a row of its own, and a row
-- that matches a code tests at least as many bits as the least implicant of that code. Assumes nothing.
use mathlib.Core.Path.{◌≡◌, refl, ap, subst, subst⁻¹}
use mathlib.Core.Logic.{◌⊎◌, inl, inr, ⊎_elim}
use mathlib.Core.Bool.{Bool, true, not, ◌&&◌, ◌||◌}
use mathlib.Core.List.{List, [], ◌∷◌}
use Prim.Native.Nat.{ℕ, suc, ◌+◌, ◌^◌, ◌<◌, ◌≤◌}
use native.Mathlib.Omega.{arith}
use lib.Dec.{T, ltb, leb, leb→le, ltb→lt, lt→ltb}
use lib.ListN.{length}
use Rattle.numbers.specs.Below.{every}
use Rattle.cube.specs.Words.{on_set, Row, Cover, row_matches, formed, row_literals, each_row, all_formed, cover_matches, cover_literals, implements, cube_matches, cube_literals, number_of, implicant}
use Rattle.numbers.proofs.Bools.{and_l, and_r, and_i, or_e, or_l, or_r, imp_e, nand_e, nand_i}
use Rattle.numbers.proofs.Below.{every_at, every_by}
use Rattle.cube.proofs.Implicants.{implicant_by}
use Rattle.cube.proofs.Rows.{one_to_one}
use Rattle.cube.proofs.Theorems.{implements_on, implements_off}

-- a wanted code, and the least number of literals of an implicant that matches it
pub record Mark : Type 0 where
  pub code : ℕ
  pub least : ℕ

-- no implicant matches both codes
abbrev pub apart : ℕ → List ℕ → ℕ → ℕ → Bool
apart n t c d = every (3 ^ n) (λ p. not (implicant n t p) || not (cube_matches n p c && cube_matches n p d))

-- the least of a mark is right: every implicant that matches its code has at least that many literals
abbrev pub least_right : ℕ → List ℕ → Mark → Bool
least_right n t m = every (3 ^ n) (λ p. not (implicant n t p && cube_matches n p m.code) || leb m.least (cube_literals n p))

-- code c is apart from the code of each mark
unfoldable pub apart_from : ℕ → List ℕ → ℕ → List Mark → Bool
apart_from n t c [] = true
apart_from n t c (d ∷ ds) = apart n t c d.code && apart_from n t c ds

-- the codes are wanted, the least of each is right, and any two are apart
unfoldable pub independent : ℕ → List ℕ → List Mark → Bool
independent n t [] = true
independent n t (m ∷ ms) = ((ltb m.code (2 ^ n) && on_set t m.code) && (least_right n t m && apart_from n t m.code ms)) && independent n t ms

-- codes are apart, and one more mark is independent of others
pub apart_by : (n : ℕ) (t : List ℕ) (c d : ℕ) → ((p : ℕ) → T (implicant n t p) → T (cube_matches n p c) → T (cube_matches n p d) → ⊥) → T (apart n t c d)
apart_by n t c d f = every_by (3 ^ n) (λ p. not (implicant n t p) || not (cube_matches n p c && cube_matches n p d)) λ p l.
    nand_i (implicant n t p) (cube_matches n p c && cube_matches n p d) λ i m.
    f p i (and_l (cube_matches n p c) (cube_matches n p d) m) (and_r (cube_matches n p c) (cube_matches n p d) m)

pub independent_more : (n : ℕ) (t : List ℕ) (m : Mark) (ms : List Mark) → m.code < 2 ^ n → T (on_set t m.code) → T (least_right n t m) → T (apart_from n t m.code ms)
    → T (independent n t ms) → T (independent n t (m ∷ ms))
unfolding independent
independent_more n t m ms l w b a i =
    and_i ((ltb m.code (2 ^ n) && on_set t m.code) && (least_right n t m && apart_from n t m.code ms)) (independent n t ms)
    (and_i (ltb m.code (2 ^ n) && on_set t m.code) (least_right n t m && apart_from n t m.code ms)
    (and_i (ltb m.code (2 ^ n)) (on_set t m.code) (lt→ltb m.code (2 ^ n) l) w)
    (and_i (least_right n t m) (apart_from n t m.code ms) b a))
    i

-- their least literals, summed
unfoldable pub least_literals : List Mark → ℕ
least_literals [] = 0
least_literals (m ∷ ms) = m.least + least_literals ms

-- a formed row whose cube is an implicant
abbrev pub sound : ℕ → List ℕ → Row → Bool
sound n t r = formed n r && implicant n t (number_of n r)

-- the list matches the code of each mark
unfoldable met : Cover → List Mark → Bool
met rs [] = true
met rs (m ∷ ms) = cover_matches rs m.code && met rs ms

-- a row that matches c, taken out of the list
record Pulled (f : Row → Bool) (n c : ℕ) (rs : Cover) : Type 0 where
  row : Row
  rest : Cover
  passes : T (f row)
  others : T (each_row f rest)
  matches : T (row_matches row c)
  shorter : length rs ≡ suc (length rest)
  lighter : cover_literals n rs ≡ row_literals n row + cover_literals n rest
  either : (d : ℕ) → T (cover_matches rs d) → T (row_matches row d) ⊎ T (cover_matches rest d)

pull : (f : Row → Bool) (n c : ℕ) (rs : Cover) → T (each_row f rs) → T (cover_matches rs c) → Pulled f n c rs
unfolding each_row cover_matches cover_literals
pull f n c [] e m = absurd m
pull f n c (r ∷ rs) e m = ⊎_elim here (λ x. there (pull f n c rs (and_r (f r) (each_row f rs) e) x)) (or_e (row_matches r c) (cover_matches rs c) m)
  where
    here : T (row_matches r c) → Pulled f n c (r ∷ rs)
    here x = record {
      row = r;
      rest = rs;
      passes = and_l (f r) (each_row f rs) e;
      others = and_r (f r) (each_row f rs) e;
      matches = x;
      shorter = refl;
      lighter = refl;
      either = λ d h. or_e (row_matches r d) (cover_matches rs d) h;
    }

    there : Pulled f n c rs → Pulled f n c (r ∷ rs)
    there p = record {
      row = p.row;
      rest = r ∷ p.rest;
      passes = p.passes;
      others = and_i (f r) (each_row f p.rest) (and_l (f r) (each_row f rs) e) p.others;
      matches = p.matches;
      shorter = ap suc p.shorter;
      lighter = omega (arith, p.lighter);
      either = λ d h.
          ⊎_elim (λ x. inr (or_l (row_matches r d) (cover_matches p.rest d) x))
          (λ x. ⊎_elim (λ y. inl y) (λ y. inr (or_r (row_matches r d) (cover_matches p.rest d) y)) (p.either d x))
          (or_e (row_matches r d) (cover_matches rs d) h);
    }

module _ (n : ℕ) (t : List ℕ) where
  -- what a sound row is
  module _ (r : Row) (s : T (sound n t r)) where
    its_cube : T (implicant n t (number_of n r))
    its_cube = and_r (formed n r) (implicant n t (number_of n r)) s

    its_cube_matches : (c : ℕ) → T (row_matches r c) → T (cube_matches n (number_of n r) c)
    its_cube_matches c m = subst T ((one_to_one n).same_codes r (and_l (formed n r) (implicant n t (number_of n r)) s) c) m

    -- it matches no two codes that are apart
    not_both : (c d : ℕ) → T (apart n t c d) → T (row_matches r c) → T (row_matches r d) → ⊥
    not_both c d a x y =
        let q : ℕ = number_of n r in
        nand_e (implicant n t q) (cube_matches n q c && cube_matches n q d)
        (every_at (3 ^ n) (λ p. not (implicant n t p) || not (cube_matches n p c && cube_matches n p d)) a q ((one_to_one n).number_below r)) its_cube
        (and_i (cube_matches n q c) (cube_matches n q d) (its_cube_matches c x) (its_cube_matches d y))

    -- and tests at least as many bits as the least of a code that it matches
    at_least : (m : Mark) → T (least_right n t m) → T (row_matches r m.code) → m.least ≤ row_literals n r
    at_least m a x =
        let q : ℕ = number_of n r in
        omega (
          arith,
          (one_to_one n).same_literals r,
          leb→le m.least (cube_literals n q)
              (imp_e (implicant n t q && cube_matches n q m.code) (leb m.least (cube_literals n q))
              (every_at (3 ^ n) (λ p. not (implicant n t p && cube_matches n p m.code) || leb m.least (cube_literals n p)) a q ((one_to_one n).number_below r))
              (and_i (implicant n t q) (cube_matches n q m.code) its_cube (its_cube_matches m.code x))),
        )

  -- the marks that are apart from c are matched by the other rows
  still_met : (c : ℕ) (rs : Cover) (p : Pulled (sound n t) n c rs) (ds : List Mark) → T (apart_from n t c ds) → T (met rs ds) → T (met p.rest ds)
  unfolding apart_from met
  still_met c rs p [] a m = tt
  still_met c rs p (d ∷ ds) a m =
      and_i (cover_matches p.rest d.code) (met p.rest ds)
      (⊎_elim (λ x. absurd (not_both p.row p.passes c d.code (and_l (apart n t c d.code) (apart_from n t c ds) a) p.matches x)) (λ x. x)
      (p.either d.code (and_l (cover_matches rs d.code) (met rs ds) m)))
      (still_met c rs p ds (and_r (apart n t c d.code) (apart_from n t c ds) a) (and_r (cover_matches rs d.code) (met rs ds) m))

  -- the parts of the test of the first mark
  module _ (m : Mark) (ms : List Mark) (i : T (independent n t (m ∷ ms))) where
    its_code : T (ltb m.code (2 ^ n) && on_set t m.code)
    unfolding independent
    its_code =
        and_l (ltb m.code (2 ^ n) && on_set t m.code) (least_right n t m && apart_from n t m.code ms)
        (and_l ((ltb m.code (2 ^ n) && on_set t m.code) && (least_right n t m && apart_from n t m.code ms)) (independent n t ms) i)

    its_bounds : T (least_right n t m && apart_from n t m.code ms)
    unfolding independent
    its_bounds =
        and_r (ltb m.code (2 ^ n) && on_set t m.code) (least_right n t m && apart_from n t m.code ms)
        (and_l ((ltb m.code (2 ^ n) && on_set t m.code) && (least_right n t m && apart_from n t m.code ms)) (independent n t ms) i)

    the_others : T (independent n t ms)
    unfolding independent
    the_others = and_r ((ltb m.code (2 ^ n) && on_set t m.code) && (least_right n t m && apart_from n t m.code ms)) (independent n t ms) i

  bound : (ms : List Mark) (rs : Cover) → T (independent n t ms) → T (each_row (sound n t) rs) → T (met rs ms)
      → (length ms ≤ length rs) × (least_literals ms ≤ cover_literals n rs)
  unfolding met least_literals
  bound [] rs i s h = (omega arith, omega arith)
  bound (m ∷ ms) rs i s h =
      let p = pull (sound n t) n m.code rs s (and_l (cover_matches rs m.code) (met rs ms) h) in
      let far = and_r (least_right n t m) (apart_from n t m.code ms) (its_bounds m ms i) in
      let ih = bound ms p.rest (the_others m ms i) p.others (still_met m.code rs p ms far (and_r (cover_matches rs m.code) (met rs ms) h)) in
      let own = at_least p.row p.passes m (and_l (least_right n t m) (apart_from n t m.code ms) (its_bounds m ms i)) p.matches in
      (omega (arith, p.shorter, ih.0), omega (arith, p.lighter, ih.1, own))

  -- the rows of a right list are sound and meet every mark
  module _ (rs : Cover) (g : T (implements n t rs)) where
    pub rows_sound : (ps : Cover) → ((c : ℕ) → T (cover_matches ps c) → T (cover_matches rs c)) → T (all_formed n ps) → T (each_row (sound n t) ps)
    unfolding each_row cover_matches
    rows_sound [] h f = tt
    rows_sound (r ∷ ps) h f =
        let q : ℕ = number_of n r in
        let fr : T (formed n r) = and_l (formed n r) (all_formed n ps) f in
        and_i (sound n t r) (each_row (sound n t) ps)
        (and_i (formed n r) (implicant n t q) fr
        (implicant_by n t q (λ c l x y. implements_off n t rs g c l y (h c (or_l (row_matches r c) (cover_matches ps c) (subst⁻¹ T ((one_to_one n).same_codes r fr c) x))))))
        (rows_sound ps (λ c m. h c (or_r (row_matches r c) (cover_matches ps c) m)) (and_r (formed n r) (all_formed n ps) f))

    all_met : (ms : List Mark) → T (independent n t ms) → T (met rs ms)
    unfolding met
    all_met [] i = tt
    all_met (m ∷ ms) i =
        let k = its_code m ms i in
        and_i (cover_matches rs m.code) (met rs ms)
        (implements_on n t rs g m.code (ltb→lt _ _ (and_l (ltb m.code (2 ^ n)) (on_set t m.code) k)) (and_r (ltb m.code (2 ^ n)) (on_set t m.code) k))
        (all_met ms (the_others m ms i))

    pub bounded : (ms : List Mark) → T (independent n t ms) → T (all_formed n rs) → (length ms ≤ length rs) × (least_literals ms ≤ cover_literals n rs)
    bounded ms i f = bound ms rs i (rows_sound rs (λ c m. m) f) (all_met ms i)
