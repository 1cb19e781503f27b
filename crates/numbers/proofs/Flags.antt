-- Tests as equations, `b ≡ true` for a flag that is set, as code hands them over: what a flag that is `or` or `and not` of two others tells of
-- these. `Bools` has tests as propositions. Each by cases. Assumes nothing.
use mathlib.Core.Path.{◌≡◌, refl, sym, ◌∙◌}
use mathlib.Core.Logic.{◌⊎◌, inl, inr}
use mathlib.Core.Bool.{Bool, true, false, not, ◌&&◌, ◌||◌, true≢false}

pub clash : {A : Type 0} {b : Bool} → b ≡ true → b ≡ false → A
clash e f = absurd (true≢false (sym e ∙ f))

-- ---- a flag that is a or b

pub either_of : (a b : Bool) → (a || b) ≡ true → (a ≡ true) ⊎ (b ≡ true)
either_of true b e = inl refl
either_of false b e = inr e

-- ---- a flag that is a, unless b

pub kept_of_lem : (a b : Bool) {r : Bool} → r ≡ (a && not b) → r ≡ true → (a ≡ true) × (b ≡ true → ⊥)
kept_of_lem true true e h = clash h e
kept_of_lem true false e h = (refl, λ x. clash x refl)
kept_of_lem false b e h = clash h e

pub kept_or : (a b : Bool) {r : Bool} → r ≡ (a && not b) → a ≡ true → (b ≡ true) ⊎ (r ≡ true)
kept_or true true e h = inl refl
kept_or true false e h = inr e
kept_or false b e h = clash h refl
