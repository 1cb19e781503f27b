-- What the steps note of each cube: its kind, that is whether it is an implicant and whether an implicant serves; then whether it is a prime that serves.
-- Assumes nothing.
use Rattle.std.specs.Prelude.{◌≡◌, ℕ, ◌+◌, ◌*◌, ◌-◌, ◌^◌, ◌<◌, ◌≤◌, Bool, true, false, cond, not, ◌&&◌, ◌||◌, List, length, get_or}
use Rattle.numbers.specs.Below.{some}
use Rattle.cube.specs.Words.{tested, digit, implicant, serves}
use Rattle.primes.specs.declared.Kind.{Kind}
use Rattle.primes.specs.declared.Kind.TheVariants.{NoImplicant, Idle, Serving}

-- what a kind tells: the cube is no implicant, it is one that matches free codes alone, it is one that serves
abbrev pub kind : Bool → Bool → Kind
kind isImplicant doesServe = cond isImplicant (cond doesServe Serving Idle) NoImplicant

-- the kind of cube q
abbrev pub kind_of : ℕ → List ℕ → ℕ → Kind
kind_of n t q = kind (implicant n t q) (serves n t q)

-- the kinds of the cubes below m
abbrev pub Kinds : ℕ → List ℕ → List Kind → ℕ → Type 0
Kinds n t kinds m = (q : ℕ) → q < m → get_or kinds q NoImplicant ≡ kind_of n t q

-- a list of the kinds of the first m cubes, one for each
pub record KindsOf (n : ℕ) (t : List ℕ) (kinds : List Kind) (m : ℕ) : Type 0 where
  pub each : length kinds ≡ m
  pub right : Kinds n t kinds m

-- the kind of a cube by the kinds of its halves: it is an implicant if both are, and serves if either does
abbrev pub Joins : Kind → Kind → Kind → Type 0
Joins low high r = (i s j u : Bool) → low ≡ kind i s → high ≡ kind j u → r ≡ kind (i && j) (s || u)

-- the numbers below m that pass are marked, and no other one: each has the mark that is put for the answer of the test
abbrev pub Marks : {A : Type 0} → (Bool → A) → (ℕ → Bool) → List A → ℕ → Type 0
Marks mark f marks m = (q : ℕ) → q < m → get_or marks q (mark false) ≡ mark (f q)

-- the marks from m on are as they were
abbrev pub KeptFrom : {A : Type 0} → A → ℕ → List A → List A → Type 0
KeptFrom none m old new = (q : ℕ) → m ≤ q → get_or new q none ≡ get_or old q none

-- the marks of the numbers below m are those of a test, and all others are as they were
pub record MarksBelow {A : Type 0} (mark : Bool → A) (m : ℕ) (f : ℕ → Bool) (old new : List A) : Type 0 where
  pub marks : Marks mark f new m
  pub kept : KeptFrom (mark false) m old new

-- q is marked, where `none` stands past the last mark
abbrev pub is_marked : {A : Type 0} → (A → Bool) → A → List A → ℕ → Bool
is_marked is_mark none marks q = is_mark (get_or marks q none)

-- the number of cube q with digit k made 2
abbrev pub freed : ℕ → ℕ → ℕ
freed k q = q + (2 - digit k q) * 3 ^ k

-- a kind is that of an implicant
abbrev pub of_implicant : Kind → Bool
of_implicant NoImplicant = false
of_implicant Idle = true
of_implicant Serving = true

-- a kind is that of an implicant that serves
abbrev pub of_serving : Kind → Bool
of_serving NoImplicant = false
of_serving Idle = false
of_serving Serving = true

-- by the kinds, digit k of q is a literal that can be given up
abbrev pub expands_by : List Kind → ℕ → ℕ → Bool
expands_by kinds q k = tested (digit k q) && of_implicant (get_or kinds (freed k q) NoImplicant)

-- by the kinds, q is an implicant that serves and of which no literal can be given up
unfoldable pub serving_prime_by : ℕ → List Kind → ℕ → Bool
serving_prime_by n kinds q = of_serving (get_or kinds q NoImplicant) && not (some n (expands_by kinds q))
