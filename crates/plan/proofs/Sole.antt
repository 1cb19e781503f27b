-- Where a shortest list has as many rows as there are primes, all primes are in it: an ascending list all of whose numbers stand in another ascending
-- list, and which is at least as long, is that other list. Assumes nothing.
use mathlib.Core.Path.{◌≡◌, refl, ap, ap₂, subst⁻¹, ◌∙◌, sym}
use mathlib.Core.Logic.{⊎_elim}
use mathlib.Core.List.{List, [], ◌∷◌, map}
use Prim.Native.Nat.{ℕ, zero, suc, ◌<◌, ◌≤◌, ◌^◌}
use native.Mathlib.Nat.{le_of_suc-le-suc}
use native.Mathlib.Omega.{arith}
use lib.Dec.{T, eqb, leb, eqb→eq, leb→le, eqb_refl}
use lib.ListN.{length, length-map, get_or}
use Rattle.cube.specs.Words.{Row, Cover, formed, each_row, all_formed, number_of, prime, primes_of}
use Rattle.cube.specs.Minimum.{Minimum}
use Rattle.numbers.specs.Below.{among}
use Rattle.numbers.proofs.Bools.{and_l, and_r, or_e, or_l, or_r}
use Rattle.numbers.proofs.Below.{those_place}
use Rattle.cube.proofs.Minimum.{shortest}
use Rattle.cube.proofs.Rows.{cube_lt, row_back}
use Rattle.plan.specs.Plan.{ascends_from, ascending}
use Rattle.plan.specs.Steps.{rows_of_cubes}

-- ---- ascending lists

abbrev AllAmong : List ℕ → List ℕ → Type 0
AllAmong [] ys = Unit {0}
AllAmong (x ∷ xs) ys = T (among x ys) × AllAmong xs ys

among_from : (b : ℕ) (ys : List ℕ) (x : ℕ) → T (ascends_from b ys) → T (among x ys) → b ≤ x
unfolding ascends_from among
among_from b [] x a m = absurd m
among_from b (y ∷ ys) x a m =
    let h : b ≤ y = leb→le b y (and_l (leb b y) (ascends_from (suc y) ys) a) in
    ⊎_elim (λ e. omega (arith, h, eqb→eq x y e)) (λ k. omega (arith, h, among_from (suc y) ys x (and_r (leb b y) (ascends_from (suc y) ys) a) k))
    (or_e (eqb x y) (among x ys) m)

-- numbers above y stand behind it
behind : (y c : ℕ) (ys xs : List ℕ) → y < c → T (ascends_from c xs) → AllAmong xs (y ∷ ys) → AllAmong xs ys
unfolding ascends_from among
behind y c ys [] l a m = tt
behind y c ys (x ∷ xs) l a m =
    let h : c ≤ x = leb→le c x (and_l (leb c x) (ascends_from (suc x) xs) a) in (
      ⊎_elim (λ e. absurd (omega (arith, h, eqb→eq x y e))) (λ k. k) (or_e (eqb x y) (among x ys) m.0),
      behind y (suc x) ys xs (omega (arith, h)) (and_r (leb c x) (ascends_from (suc x) xs) a) m.1,
    )

abbrev SameAs : ℕ → List ℕ → Type 0
SameAs b ys = (c : ℕ) (xs : List ℕ) → T (ascends_from b ys) → T (ascends_from c xs) → AllAmong xs ys → length ys ≤ length xs → xs ≡ ys

same_list : (b : ℕ) (ys : List ℕ) → SameAs b ys
unfolding ascends_from among
same_list b [] c [] a d m l = refl
same_list b [] c (x ∷ xs) a d m l = absurd m.0
same_list b (y ∷ ys) c [] a d m l = absurd (omega arith)
same_list b (y ∷ ys) c (x ∷ xs) a d m l = ⊎_elim (first (same_list (suc y) ys)) (later (same_list (suc y) ys)) (or_e (eqb x y) (among x ys) m.0)
  where
    above : T (ascends_from (suc y) ys)
    above = and_r (leb b y) (ascends_from (suc y) ys) a

    rest : T (ascends_from (suc x) xs)
    rest = and_r (leb c x) (ascends_from (suc x) xs) d

    first : SameAs (suc y) ys → T (eqb x y) → ◌≡◌ {A = List ℕ} (x ∷ xs) (y ∷ ys)
    first ih e =
        let z : x ≡ y = eqb→eq x y e in
        ap₂ (λ (i : ℕ) (is : List ℕ). i ∷ is) z (ih (suc x) xs above rest (behind y (suc x) ys xs (omega arith) rest m.1) (omega arith))

    later : SameAs (suc y) ys → T (among x ys) → ◌≡◌ {A = List ℕ} (x ∷ xs) (y ∷ ys)
    later ih k =
        let h : suc y ≤ x = among_from (suc y) ys x above k in
        let e : ◌≡◌ {A = List ℕ} (x ∷ xs) ys = ih c (x ∷ xs) above d (k, behind y (suc x) ys xs (omega arith) rest m.1) (omega arith) in
        let z : suc (length xs) ≡ length ys = ap length e in
        absurd (omega arith)

-- ---- the primes of a shortest list

among_place : (ys : List ℕ) (i q : ℕ) → i < length ys → get_or ys i 0 ≡ q → T (among q ys)
unfolding among
among_place [] i q l e = absurd (omega arith)
among_place (y ∷ ys) zero q l e = or_l (eqb q y) (among q ys) (subst⁻¹ (λ (x : ℕ). T (eqb q x)) e (eqb_refl q))
among_place (y ∷ ys) (suc i) q l e = or_r (eqb q y) (among q ys) (among_place ys i q (le_of_suc-le-suc l) e)

module _ (n : ℕ) where
  all_among : (t : List ℕ) (rs : Cover) → T (each_row (λ r. prime n t (number_of n r)) rs) → AllAmong (map (number_of n) rs) (primes_of n t)
  unfolding each_row primes_of
  all_among t [] h = tt
  all_among t (r ∷ rs) h =
      let here = and_l (prime n t (number_of n r)) (each_row (λ r. prime n t (number_of n r)) rs) h in
      let at = those_place (prime n t) (3 ^ n) (number_of n r) (cube_lt n r.value r.care) here in
      (among_place (primes_of n t) at.0 (number_of n r) at.1 at.2, all_among t rs (and_r (prime n t (number_of n r)) (each_row (λ r. prime n t (number_of n r)) rs) h))

  rows_back : (rs : Cover) → T (all_formed n rs) → rows_of_cubes n (map (number_of n) rs) ≡ rs
  unfolding each_row
  rows_back [] f = refl
  rows_back (r ∷ rs) f =
      ap₂ (λ (x : Row) (xs : Cover). x ∷ xs) (row_back n r (and_l (formed n r) (each_row (formed n) rs) f)) (rows_back rs (and_r (formed n r) (each_row (formed n) rs) f))

  -- the list is that of all primes
  pub all_primes : (t : List ℕ) (list : Cover) → Minimum n t list → T (ascending (map (number_of n) list)) → T (ascending (primes_of n t))
      → length (primes_of n t) ≤ length list → list ≡ rows_of_cubes n (primes_of n t)
  all_primes t list m a p l =
      sym (rows_back list m.formed)
      ∙ ap (rows_of_cubes n)
      (same_list 0 (primes_of n t) 0 (map (number_of n) list) p a (all_among t list ((shortest n t).primes list m)) (omega (arith, length-map list (number_of n))))
