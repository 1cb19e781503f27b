-- The theorem of `specs/Theorems.antt`: what the verdict says is true, and a verdict that says something true is the one given. Assumes nothing.
use mathlib.Core.Path.{◌≡◌, refl, sym, ap, ◌∙◌, subst, subst⁻¹}
use mathlib.Core.Logic.{◌↔◌, ⊎_elim}
use mathlib.Core.Bool.{Bool, true, false, cond, not, ◌&&◌}
use mathlib.Core.List.{List}
use Prim.Native.Nat.{ℕ, ◌^◌, ◌<◌}
use lib.Dec.{T, T_not, not_T}
use Rattle.std.specs.Bool.{passes}
use Rattle.cube.specs.Words.{on_set, off_set, Cover, cover_matches, implements, rows_of}
use Rattle.cube.specs.Calls.{gives, answered}
use Rattle.numbers.proofs.Bools.{and_l, and_r, and_i, or_e, or_l, or_r, is_true, is_false}
use Rattle.numbers.proofs.Below.{Lowest, lowest_or_none}
use Rattle.cube.proofs.Calls.{same_value}
use Rattle.cube.proofs.Theorems.{not_barred, implements_on, implements_off, implements_by}
use Rattle.checking.specs.Check.{check_refuses, is_missed, is_stray, is_wrong, verdict, check_of}
use Rattle.checking.specs.declared.Verdict.{Verdict}
use Rattle.checking.specs.declared.Verdict.TheVariants.{Right, Missed, Stray}
use Rattle.checking.specs.Theorems.{NamedMissed, NamedStray, CheckMeans}
use Rattle.checking.proofs.Verdicts.{verdict_right, verdict-named}

matched_where : (a m : Bool) → (T (a && not m) → ⊥) → T a → T m
matched_where true true f x = tt
matched_where true false f x = absurd (f tt)
matched_where false m f x = absurd x

module _ (n : ℕ) (t : List ℕ) (rs : Cover) where
  NoneWrong : Type 0
  NoneWrong = (c : ℕ) → c < 2 ^ n → T (is_wrong t rs c) → ⊥

  implements_none : T (implements n t rs) → NoneWrong
  unfolding NoneWrong
  implements_none h c l w =
      ⊎_elim (λ x. T_not (cover_matches rs c) (and_r (on_set t c) (not (cover_matches rs c)) x) (implements_on n t rs h c l (and_l (on_set t c) (not (cover_matches rs c)) x)))
      (λ x. implements_off n t rs h c l (and_l (off_set t c) (cover_matches rs c) x) (and_r (off_set t c) (cover_matches rs c) x))
      (or_e (is_missed t rs c) (is_stray t rs c) w)

  none_implements : NoneWrong → T (implements n t rs)
  unfolding NoneWrong
  none_implements none =
      implements_by n t rs (λ c l. matched_where (on_set t c) (cover_matches rs c) (λ x. none c l (or_l (is_missed t rs c) (is_stray t rs c) x)))
      (λ c l b m. none c l (or_r (is_missed t rs c) (is_stray t rs c) (and_i (off_set t c) (cover_matches rs c) b m)))

  -- what a verdict says
  abbrev Says : Verdict → Type 0
  Says Right = T (implements n t rs)
  Says (Missed c) = NamedMissed n t rs c
  Says (Stray c) = NamedStray n t rs c

  -- of the lowest wrong code
  module _ (c : ℕ) (low : Lowest (2 ^ n) (is_wrong t rs) c) where
    says_missed : T (is_missed t rs c) → NamedMissed n t rs c
    says_missed x = record {
      code = low.below;
      wanted = and_l (on_set t c) (not (cover_matches rs c)) x;
      unmatched = T_not (cover_matches rs c) (and_r (on_set t c) (not (cover_matches rs c)) x);
      lowest = low.none_lower;
    }

    says_stray : T (is_stray t rs c) → NamedStray n t rs c
    says_stray x = record {
      code = low.below;
      barred = and_l (off_set t c) (cover_matches rs c) x;
      matched = and_r (off_set t c) (cover_matches rs c) x;
      lowest = low.none_lower;
    }

    says_named : Says (cond (is_missed t rs c) (Missed c) (Stray c))
    says_named = go (is_missed t rs c) refl
      where
        go : (b : Bool) → is_missed t rs c ≡ b → Says (cond b (Missed c) (Stray c))
        go true e = says_missed (passes (is_missed t rs c) e)
        go false e =
            says_stray (⊎_elim (λ x. absurd (subst T e x)) (λ x. x) (or_e (is_missed t rs c) (is_stray t rs c) low.passes))

  says : Says (verdict n t rs)
  unfolding NoneWrong
  says =
      ⊎_elim (λ r. subst⁻¹ Says (verdict-named n t rs r.0 r.1) (says_named r.0 r.1))
      (λ none. subst⁻¹ Says (verdict_right n t rs none) (none_implements none)) (lowest_or_none (2 ^ n) (is_wrong t rs))

  stray_not_missed : (c : ℕ) → T (off_set t c) → is_missed t rs c ≡ false
  stray_not_missed c b = is_false (is_missed t rs c) (λ x. not_barred t c (and_l (on_set t c) (not (cover_matches rs c)) x) b)

  is_verdict : (v : Verdict) → Says v → verdict n t rs ≡ v
  unfolding NoneWrong
  is_verdict Right h = verdict_right n t rs (implements_none h)
  is_verdict (Missed c) h =
      let x : T (is_missed t rs c) = and_i (on_set t c) (not (cover_matches rs c)) h.wanted (not_T (cover_matches rs c) h.unmatched) in
      verdict-named n t rs c (record { below = h.code; passes = or_l (is_missed t rs c) (is_stray t rs c) x; none_lower = h.lowest })
      ∙ ap (λ (b : Bool). cond b (Missed c) (Stray c)) (is_true (is_missed t rs c) x)
  is_verdict (Stray c) h =
      let x : T (is_stray t rs c) = and_i (off_set t c) (cover_matches rs c) h.barred h.matched in
      verdict-named n t rs c (record { below = h.code; passes = or_r (is_missed t rs c) (is_stray t rs c) x; none_lower = h.lowest })
      ∙ ap (λ (b : Bool). cond b (Missed c) (Stray c)) (stray_not_missed c h.barred)

module _ (n : ℕ) (t vs ws : List ℕ) (e : check_refuses n t vs ws ≡ 0) where
  answer_is : check_of n t vs ws ≡ gives (verdict n t (rows_of vs ws))
  answer_is = ap (λ (k : ℕ). answered k (verdict n t (rows_of vs ws))) e

  same_verdict : (v : Verdict) → check_of n t vs ws ≡ gives v → verdict n t (rows_of vs ws) ≡ v
  same_verdict v h = same_value (verdict n t (rows_of vs ws)) v (sym answer_is ∙ h)

  when_so : (v : Verdict) → check_of n t vs ws ≡ gives v ↔ Says n t (rows_of vs ws) v
  when_so v = (λ h. subst (Says n t (rows_of vs ws)) (same_verdict v h) (says n t (rows_of vs ws)), λ h. answer_is ∙ ap gives (is_verdict n t (rows_of vs ws) v h))

  pub check_means : CheckMeans n t vs ws e
  check_means = record { right_when = when_so Right; missed_when = λ c. when_so (Missed c); stray_when = λ c. when_so (Stray c) }
