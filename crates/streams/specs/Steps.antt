-- What the steps of a program promise: one read, and all reads. No promise of a program cites it. Assumes nothing.
use Rattle.std.specs.Prelude.{◌≡◌, ◌≤◌, Bool, true, false, List, ℕ, zero, suc, is_some, Result, Ok, Err, take}
use Rattle.std.specs.ControlFlow.{break_value}
use Rattle.std.specs.declared.ops.ControlFlow.{ControlFlow}
use Rattle.text.specs.Steps.{most_cells, State, at_start, wrong, fed, cells_kept}

-- A read answers how many bytes it put at the start of the piece: none at the end of the input, and an error where it fails.
abbrev pub ends_input : {E : Type 0} → Result ℕ E → Bool
ends_input (Ok zero) = true
ends_input (Ok (suc k)) = false
ends_input (Err e) = true

-- the state after it; a text that cannot be read is not in form
abbrev pub after_read : {E : Type 0} → State → Result ℕ E → List ℕ → State
after_read s (Ok k) piece = fed s (take k piece)
after_read s (Err e) piece = wrong

-- what a read that answered `got` leads to, and whether it is the last
pub record Turned {E : Type 0} (old : State) (got : Result ℕ E) (piece : List ℕ) (turn : ControlFlow (Unit {0}) (Unit {0})) (new : State) : Type 0 where
  pub state : new ≡ after_read old got piece
  pub last : is_some (break_value turn) ≡ ends_input got

-- the state after some input, in which no more cells are kept than may be
pub record ReadAll (state : State) : Type 0 where
  pub input : List ℕ
  pub is_state : state ≡ fed at_start input
  pub few : cells_kept state ≤ most_cells
