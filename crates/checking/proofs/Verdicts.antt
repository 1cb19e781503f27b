-- The verdict by the lowest wrong code: right where there is none, otherwise that code is named, as missed where it is wanted and as stray where it is
-- barred. Assumes nothing.
use mathlib.Core.Path.{◌≡◌, sym, ap, ap₂, ◌∙◌}
use mathlib.Core.Logic.{⊎_elim}
use mathlib.Core.Bool.{Bool, true, false, cond, not, ◌&&◌}
use mathlib.Core.List.{List}
use Prim.Native.Nat.{ℕ, ◌^◌, ◌<◌}
use native.Mathlib.Omega.{arith}
use lib.Dec.{T}
use borrow.Author.Tests.{eq-eqb, ne_eqb}
use Rattle.std.specs.Bool.{passes}
use Rattle.cube.specs.Words.{cell, on_set, off_set, Cover, cover_matches}
use Rattle.numbers.proofs.Bools.{and_l, or_l, or_r, or_e, same}
use Rattle.numbers.proofs.Below.{those_none, Lowest, those_lowest}
use Rattle.cube.proofs.Theorems.{not_barred}
use Rattle.checking.specs.Check.{is_missed, is_stray, is_wrong, named, verdict}
use Rattle.checking.specs.declared.Verdict.TheVariants.{Right, Missed, Stray}

module _ (n : ℕ) (t : List ℕ) (rs : Cover) where
  pub verdict_right : ((c : ℕ) → c < 2 ^ n → T (is_wrong t rs c) → ⊥) → verdict n t rs ≡ Right
  unfolding verdict
  verdict_right none = ap (named t rs) (those_none (2 ^ n) (is_wrong t rs) none)

  pub verdict-named : (c : ℕ) → Lowest (2 ^ n) (is_wrong t rs) c → verdict n t rs ≡ cond (is_missed t rs c) (Missed c) (Stray c)
  unfolding verdict
  verdict-named c low = ap (named t rs) (those_lowest (2 ^ n) (is_wrong t rs) c low).1

  -- a wrong code is missed where it is wanted
  pub verdict_wanted : (c : ℕ) → Lowest (2 ^ n) (is_wrong t rs) c → verdict n t rs ≡ cond (on_set t c) (Missed c) (Stray c)
  verdict_wanted c low = verdict-named c low ∙ ap (λ (b : Bool). cond b (Missed c) (Stray c)) (same (is_missed t rs c) (on_set t c) is_wanted is_missed_lem)
    where
      is_wanted : T (is_missed t rs c) → T (on_set t c)
      is_wanted = and_l (on_set t c) (not (cover_matches rs c))

      is_missed_lem : T (on_set t c) → T (is_missed t rs c)
      is_missed_lem h =
          ⊎_elim (λ x. x) (λ x. absurd (not_barred t c h (and_l (off_set t c) (cover_matches rs c) x)))
          (or_e (is_missed t rs c) (is_stray t rs c) low.passes)

  -- a code below which none is wrong is named where it is wanted and unmatched, and where it is barred and matched
  module _ (c : ℕ) (l : c < 2 ^ n) (lower : (k : ℕ) → k < c → T (is_wrong t rs k) → ⊥) (m : Bool) (e : m ≡ cover_matches rs c) where
    lowest : T (is_wrong t rs c) → Lowest (2 ^ n) (is_wrong t rs) c
    lowest w = record { below = l; passes = w; none_lower = lower }

    pub missed_named : cell t c ≡ 1 → m ≡ false → Missed c ≡ verdict n t rs
    missed_named w u =
        let x : is_missed t rs c ≡ true = ap₂ (λ (a b : Bool). a && not b) (eq-eqb (cell t c) 1 w) (sym e ∙ u) in
        sym (verdict-named c (lowest (or_l (is_missed t rs c) (is_stray t rs c) (passes _ x))) ∙ ap (λ (b : Bool). cond b (Missed c) (Stray c)) x)

    pub stray_named : cell t c ≡ 0 → m ≡ true → Stray c ≡ verdict n t rs
    stray_named w u =
        let x : is_stray t rs c ≡ true = ap₂ ◌&&◌ (eq-eqb (cell t c) 0 w) (sym e ∙ u) in
        let y : is_missed t rs c ≡ false = ap (λ (a : Bool). a && not (cover_matches rs c)) (ne_eqb (cell t c) 1 (λ d. omega arith)) in
        sym (verdict-named c (lowest (or_r (is_missed t rs c) (is_stray t rs c) (passes _ x))) ∙ ap (λ (b : Bool). cond b (Missed c) (Stray c)) y)
