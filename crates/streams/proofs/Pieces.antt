-- Piece by piece: where a state is the one after the pieces so far, one more turn leads to the state after these and the next. Assumes nothing.
use Rattle.std.proofs.Common.{ℕ, ◌≤◌, ◌≡◌, List, [], ◌∷◌, ◌++◌, Result, Ok, Err, take, arith, sym, ap, subst, ◌∙◌}
use Rattle.text.specs.Steps.{most_cells, State, at_start, wrong, fed, cells_kept}
use Rattle.text.proofs.Stepping.{fed_append}
use Rattle.text.proofs.Keeping.{fed_few}
use Rattle.streams.specs.Steps.{after_read, ReadAll}

-- the state after an input
after : {state : State} (input : List ℕ) → state ≡ fed at_start input → ReadAll state
after input e = record {
  input = input;
  is_state = e;
  few = subst (λ (s : State). cells_kept s ≤ most_cells) (sym e) (fed_few at_start input (omega arith));
}

pub read_none : {state : State} → state ≡ at_start → ReadAll state
unfolding fed
read_none e = after [] e

-- a text that is not in form, for what cannot be read
pub read_wrong : {state : State} → state ≡ wrong → ReadAll state
unfolding fed
read_wrong e = after (0 ∷ []) e

pub read_more : {E : Type 0} {old new : State} (got : Result ℕ E) (piece : List ℕ) → new ≡ after_read old got piece → ReadAll old → ReadAll new
read_more {old = old} (Ok k) piece e before =
    after (before.input ++ take k piece)
    (e ∙ ap (λ (s : State). fed s (take k piece)) before.is_state ∙ sym (fed_append at_start before.input (take k piece)))
read_more (Err x) piece e before = read_wrong e
