-- The tests of the words as sentences: the theorem `Meanings` of `specs/Theorems.antt`. Each test runs over all codes or all cubes, and its sentence
-- says what that tells of each one. And no code is both wanted and barred. Assumes nothing.
use mathlib.Core.Path.{◌≡◌}
use mathlib.Core.Logic.{⊎_elim}
use mathlib.Core.Bool.{Bool, not, ◌&&◌, ◌||◌}
use mathlib.Core.List.{List}
use Prim.Native.Nat.{ℕ, ◌^◌, ◌<◌}
use native.Mathlib.Omega.{arith}
use lib.Dec.{T, eqb, ltb, eqb→eq, lt→ltb, T_not, not_T}
use mir.Facts.{yes_eqb}
use Rattle.std.proofs.lemmas.Bool.{cases_eq}
use Rattle.numbers.specs.Below.{some}
use Rattle.cube.specs.Words.{cell, on_set, off_set, Cover, cover_matches, asked, implements, cube_matches, cube_literals, implicant, within, wider, prime, alone, essential, column, serves}
use Rattle.cube.specs.Theorems.{Meanings}
use Rattle.numbers.proofs.Bools.{and_l, and_r, and_i, imp_e, imp_i, nand_e, nand_i}
use Rattle.numbers.proofs.Below.{every_at, every_by, some_at, some_by, none_at, none_by}
use Rattle.cube.proofs.Digits.{matches_contained}
use Rattle.cube.proofs.Implicants.{implicant_at, implicant_by, within_at, contained_within, wider-implicant, wider_fewer, wider_contains, prime-implicant}

-- no code is both wanted and barred
pub not_barred : (t : List ℕ) (c : ℕ) → T (on_set t c) → T (off_set t c) → ⊥
not_barred t c w b = omega (arith, eqb→eq (cell t c) 1 w, eqb→eq (cell t c) 0 b)

module _ (n : ℕ) (t : List ℕ) where
  module _ (rs : Cover) where
    pub implements_on : T (implements n t rs) → (c : ℕ) → c < 2 ^ n → T (on_set t c) → T (cover_matches rs c)
    unfolding implements
    implements_on h c l =
        imp_e (on_set t c) (cover_matches rs c)
        (and_l (not (on_set t c) || cover_matches rs c) (not (off_set t c) || not (cover_matches rs c)) (every_at (2 ^ n) (asked t rs) h c l))

    pub implements_off : T (implements n t rs) → (c : ℕ) → c < 2 ^ n → T (off_set t c) → T (cover_matches rs c) → ⊥
    unfolding implements
    implements_off h c l =
        nand_e (off_set t c) (cover_matches rs c)
        (and_r (not (on_set t c) || cover_matches rs c) (not (off_set t c) || not (cover_matches rs c)) (every_at (2 ^ n) (asked t rs) h c l))

    pub implements_by : ((c : ℕ) → c < 2 ^ n → T (on_set t c) → T (cover_matches rs c)) → ((c : ℕ) → c < 2 ^ n → T (off_set t c) → T (cover_matches rs c) → ⊥)
        → T (implements n t rs)
    unfolding implements
    implements_by f g =
        every_by (2 ^ n) (asked t rs) λ c l.
        and_i (not (on_set t c) || cover_matches rs c) (not (off_set t c) || not (cover_matches rs c)) (imp_i (on_set t c) (cover_matches rs c) (f c l))
        (nand_i (off_set t c) (cover_matches rs c) (g c l))

  module _ (q : ℕ) where
    prime-only : T (prime n t q) → (p : ℕ) → p < 3 ^ n → T (implicant n t p) → cube_literals n p < cube_literals n q → T (within n q p) → ⊥
    unfolding prime
    prime-only h p l i f w =
        none_at (3 ^ n) (wider n t q) (and_r (implicant n t q) (not (some (3 ^ n) (wider n t q))) h) p l
        (and_i (implicant n t p) (ltb (cube_literals n p) (cube_literals n q) && within n q p) i
        (and_i (ltb (cube_literals n p) (cube_literals n q)) (within n q p) (lt→ltb _ _ f) w))

    prime_by : T (implicant n t q) → ((p : ℕ) → p < 3 ^ n → T (implicant n t p) → cube_literals n p < cube_literals n q → T (within n q p) → ⊥) → T (prime n t q)
    unfolding prime
    prime_by i f =
        and_i (implicant n t q) (not (some (3 ^ n) (wider n t q))) i
        (none_by (3 ^ n) (wider n t q) (λ p l w. f p l (wider-implicant n t q p w) (wider_fewer n t q p w) (contained_within n q p (wider_contains n t q p w))))

    others : ℕ → ℕ → Bool
    others c p = (prime n t p && cube_matches n p c) && not (eqb p q)

    pub alone_at : (c : ℕ) → T (alone n t q c) → T (cube_matches n q c) × ((p : ℕ) → p < 3 ^ n → T (prime n t p) → T (cube_matches n p c) → p ≡ q)
    unfolding alone others
    alone_at c h = (and_l (cube_matches n q c) (not (some (3 ^ n) (others c))) h, only)
      where
        only : (p : ℕ) → p < 3 ^ n → T (prime n t p) → T (cube_matches n p c) → p ≡ q
        only p l a b = ⊎_elim (λ e. e) (λ ne. absurd
            (none_at (3 ^ n) (others c) (and_r (cube_matches n q c) (not (some (3 ^ n) (others c))) h) p l
            (and_i (prime n t p && cube_matches n p c) (not (eqb p q)) (and_i (prime n t p) (cube_matches n p c) a b) (not_T (eqb p q) (λ x. ne (eqb→eq p q x)))))) (cases_eq p q)

    pub alone_by : (c : ℕ) → T (cube_matches n q c) → ((p : ℕ) → p < 3 ^ n → T (prime n t p) → T (cube_matches n p c) → p ≡ q) → T (alone n t q c)
    unfolding alone others
    alone_by c m f =
        and_i (cube_matches n q c) (not (some (3 ^ n) (others c))) m
        (none_by (3 ^ n) (others c) λ p l x.
        let both = and_l (prime n t p && cube_matches n p c) (not (eqb p q)) x in
        T_not (eqb p q) (and_r (prime n t p && cube_matches n p c) (not (eqb p q)) x)
        (yes_eqb (f p l (and_l (prime n t p) (cube_matches n p c) both) (and_r (prime n t p) (cube_matches n p c) both))))

    sole : ℕ → Bool
    sole c = on_set t c && alone n t q c

    Sole : Type 0
    Sole = (c : ℕ) × (c < 2 ^ n) × T (on_set t c) × T (cube_matches n q c) × ((p : ℕ) → p < 3 ^ n → T (prime n t p) → T (cube_matches n p c) → p ≡ q)

    essential_at : T (essential n t q) → T (prime n t q) × Sole
    unfolding essential sole Sole
    essential_at h =
        let s = some_at (2 ^ n) sole (and_r (prime n t q) (some (2 ^ n) sole) h) in
        let c = s.0 in
        let a = alone_at c (and_r (on_set t c) (alone n t q c) s.2) in
        (and_l (prime n t q) (some (2 ^ n) sole) h, (c, s.1, and_l (on_set t c) (alone n t q c) s.2, a.0, a.1))

    essential_by : T (prime n t q) × Sole → T (essential n t q)
    unfolding essential sole Sole
    essential_by h =
        let s = h.1 in
        let c = s.0 in
        and_i (prime n t q) (some (2 ^ n) sole) h.0 (some_by (2 ^ n) sole c s.1 (and_i (on_set t c) (alone n t q c) s.2 (alone_by c s.3 s.4)))

    pub serves_at : T (serves n t q) → (c : ℕ) × (c < 2 ^ n) × T (on_set t c) × T (cube_matches n q c)
    unfolding serves
    serves_at h =
        let s = some_at (2 ^ n) (column n t q) h in (s.0, s.1, and_l (on_set t s.0) (cube_matches n q s.0) s.2, and_r (on_set t s.0) (cube_matches n q s.0) s.2)

    pub serves_by : (c : ℕ) → c < 2 ^ n → T (on_set t c) → T (cube_matches n q c) → T (serves n t q)
    unfolding serves
    serves_by c l w m = some_by (2 ^ n) (column n t q) c l (and_i (on_set t c) (cube_matches n q c) w m)

  pub meanings : Meanings n t
  unfolding Sole
  meanings = record {
    implements_is = λ rs. (λ h. (implements_on rs h, implements_off rs h), λ h. implements_by rs h.0 h.1);
    implicant_is = λ q. (implicant_at n t q, implicant_by n t q);
    within_is = λ q p. (within_at n q p, λ f. contained_within n q p (matches_contained n q p f));
    prime_is = λ q. (λ h. (prime-implicant n t q h, prime-only q h), λ h. prime_by q h.0 h.1);
    essential_is = λ q. (essential_at q, essential_by q);
    serves_is = λ q. (serves_at q, λ s. serves_by q s.0 s.1 s.2 s.3);
  }
