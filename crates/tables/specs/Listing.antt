-- Primes "Refuses 1, 2, 3, then 4 below 3^n places." So do Chart, which says rows for places, Essentials and the call that finds the essential primes
-- from the neighbours. Assumes nothing.
use Rattle.std.specs.Prelude.{ℕ, ◌^◌, List, [], ◌∷◌, ◌++◌}
use Rattle.cube.specs.Calls.{short, when, first_of, table_conditions}

-- the number that Primes refuses with, or 0, for this many places
abbrev pub primes_refuses : ℕ → List ℕ → ℕ → ℕ
primes_refuses n t places = first_of (table_conditions n t ++ (when (short places (3 ^ n)) 4 ∷ []))
