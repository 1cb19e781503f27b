-- What a reader stands for: a state of the grammar, whose cells are in its list. Assumes nothing.
use Rattle.std.specs.Prelude.{◌≡◌, ℕ, List, [], Option, Some, None}
use Rattle.text.specs.Steps.{State, at_start, after_digit, in_run, at_end, wrong}
use Rattle.text.specs.declared.input.Next.{Next}
use Rattle.text.specs.declared.input.Next.TheVariants.{Width, LineFeed, Cell, End}

-- the state in which this comes next, with these cells
abbrev pub state_of : Option Next → List ℕ → State
state_of (Some Width) cells = at_start
state_of (Some (LineFeed n)) cells = after_digit n
state_of (Some (Cell n)) cells = in_run n cells
state_of (Some (End n)) cells = at_end n cells
state_of None cells = wrong

-- no cells are kept before the run
abbrev pub Kept : Option Next → List ℕ → Type 0
Kept (Some Width) cells = cells ≡ []
Kept (Some (LineFeed n)) cells = cells ≡ []
Kept (Some (Cell n)) cells = Unit {0}
Kept (Some (End n)) cells = Unit {0}
Kept None cells = Unit {0}
