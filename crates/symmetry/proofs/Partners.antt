-- An exchange of columns on sets: the columns that go up, those that go down and those that stay are together those whose partners are in the set. The flags
-- of a column are taken apart by whether it is one of the high and one of the low columns. Assumes nothing.
use mathlib.Core.Path.{◌≡◌, refl, ap, ◌∙◌}
use mathlib.Core.Bool.{Bool, true, false, cond, not, ◌&&◌, ◌||◌, and-true, and-false, or-true, or-false}
use Prim.Native.Nat.{ℕ, ◌+◌, ◌-◌}
use lib.Dec.{ltb, leb}
use Rattle.std.proofs.lemmas.Bool.{and_parts}
use Rattle.matrix.specs.Sets.{column_limit, has, has_raised}
use Rattle.symmetry.specs.Steps.{partner}
use Rattle.symmetry.specs.declared.exchanges.Exchange.{Exchange}

-- the flag of a column that is high or not and low or not, of what comes up, what comes down and what stays
chosen : (h l up down stays : Bool) → (((up && h) || (down && (l && not h))) || (stays && not (l || h))) ≡ cond h up (cond l down stays)
chosen true l up down stays = simp (and-true, and-false, or-true, or-false)
chosen false true up down stays = simp (and-true, and-false, or-false)
chosen false false up down stays = simp (and-true, and-false)

asked : (p : ℕ → Bool) (b : Bool) (x y : ℕ) → cond b (p x) (p y) ≡ p (cond b x y)
asked p true x y = refl
asked p false x y = refl

module _ (e : Exchange) (set c : ℕ) where
  -- at a high column, the set raised has what the set has at the partner
  raised_at : (h : Bool) → has_raised e.low e.distance c ≡ h → (x : Bool) → cond h (has_raised set e.distance c) x ≡ cond h (has set (c - e.distance)) x
  raised_at true k x =
      let below = and_parts (ltb c column_limit) (leb e.distance c && has e.low (c - e.distance)) k in
      let above = and_parts (leb e.distance c) (has e.low (c - e.distance)) below.1 in
      rw (below.0, above.0)
  raised_at false k x = refl

  pub at_partner : (((has_raised set e.distance c && has_raised e.low e.distance c) || (has set (c + e.distance) && (has e.low c && not (has_raised e.low e.distance c))))
      || (has set c && not (has e.low c || has_raised e.low e.distance c))) ≡ has set (partner e c)
  unfolding partner
  at_partner =
      let h = has_raised e.low e.distance c in
      let l = has e.low c in
      chosen h l (has_raised set e.distance c) (has set (c + e.distance)) (has set c)
      ∙ raised_at h refl (cond l (has set (c + e.distance)) (has set c))
      ∙ ap (cond h (has set (c - e.distance))) (asked (has set) l (c + e.distance) c)
      ∙ asked (has set) h (c - e.distance) (cond l (c + e.distance) c)
