-- A walk over the rows of a list: where it ends, and what holds of each row. Assumes nothing.
use mathlib.Core.Path.{◌≡◌, refl, ap}
use mathlib.Core.Bool.{Bool, ◌&&◌}
use mathlib.Core.List.{List, [], ◌∷◌}
use Prim.Native.Nat.{ℕ}
use Rattle.std.specs.List.{list_all}
use Rattle.cube.specs.Words.{Row, Cover, each_row, rows_of}

-- without cares there is no row
pub no_care : (vs ws : List ℕ) → ws ≡ [] → rows_of vs ws ≡ []
unfolding rows_of
no_care [] ws e = refl
no_care (v ∷ vs) ws e = ap (rows_of (v ∷ vs)) e

-- each row of the list passes where all items do
pub each_is : (f : Row → Bool) (rs : Cover) → list_all f rs ≡ each_row f rs
unfolding each_row
each_is f [] = refl
each_is f (r ∷ rs) = ap (λ (b : Bool). f r && b) (each_is f rs)
