-- Tests as propositions, by `T`: what &&, || and not say. `Flags` has tests as equations. Assumes nothing.
use mathlib.Core.Path.{◌≡◌, refl}
use mathlib.Core.Logic.{◌⊎◌, inl, inr}
use mathlib.Core.Bool.{Bool, true, false, not, ◌&&◌, ◌||◌}
use lib.Dec.{T}

pub and_l : (a b : Bool) → T (a && b) → T a
and_l true b h = tt
and_l false b h = h

pub and_r : (a b : Bool) → T (a && b) → T b
and_r true b h = h
and_r false b h = absurd h

pub and_i : (a b : Bool) → T a → T b → T (a && b)
and_i true b x y = y
and_i false b x y = x

pub or_e : (a b : Bool) → T (a || b) → T a ⊎ T b
or_e true b h = inl h
or_e false b h = inr h

pub or_l : (a b : Bool) → T a → T (a || b)
or_l true b h = tt
or_l false b h = absurd h

pub or_r : (a b : Bool) → T b → T (a || b)
or_r true b h = tt
or_r false b h = h

pub or_exchange : (a b c : Bool) → (a || (b || c)) ≡ (b || (a || c))
or_exchange true true c = refl
or_exchange true false c = refl
or_exchange false b c = refl

pub not_and : (a b : Bool) → not (a && b) ≡ (not a || not b)
not_and true b = refl
not_and false b = refl

pub not_or : (a b : Bool) → not (a || b) ≡ (not a && not b)
not_or true b = refl
not_or false b = refl

-- `not a || b` is a → b
pub imp_e : (a b : Bool) → T (not a || b) → T a → T b
imp_e true b h x = h
imp_e false b h x = absurd x

pub imp_i : (a b : Bool) → (T a → T b) → T (not a || b)
imp_i true b f = f tt
imp_i false b f = tt

-- `not a || not b`: not both hold
pub nand_e : (a b : Bool) → T (not a || not b) → T a → T b → ⊥
nand_e true true h x y = h
nand_e true false h x y = y
nand_e false b h x y = x

pub nand_i : (a b : Bool) → (T a → T b → ⊥) → T (not a || not b)
nand_i true true f = f tt tt
nand_i true false f = tt
nand_i false b f = tt

-- two tests that hold in the same cases are the same
pub same : (a b : Bool) → (T a → T b) → (T b → T a) → a ≡ b
same true true f g = refl
same true false f g = absurd (f tt)
same false true f g = absurd (g tt)
same false false f g = refl

pub is_true : (a : Bool) → T a → a ≡ true
is_true true h = refl
is_true false h = absurd h

pub is_false : (a : Bool) → (T a → ⊥) → a ≡ false
is_false true h = absurd (h tt)
is_false false h = refl

pub holds_or_not : (a : Bool) → T a ⊎ (T a → ⊥)
holds_or_not true = inl tt
holds_or_not false = inr (λ h. h)
