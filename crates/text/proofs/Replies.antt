-- What a program prints for what was read of an input is its output for the whole input, whatever way it shows lists and whichever it may show.
-- Assumes nothing.
use Rattle.std.proofs.Common.{ℕ, ◌≡◌, List, [], ap, ◌∙◌, subst}
use Rattle.cube.specs.Words.{Cover}
use Rattle.text.specs.Output.{ProgramOutput}
use Rattle.text.specs.Steps.{keep, kept_of, State, at_start, fed, PrintsState}
use Rattle.text.proofs.Stepping.{stepping}
use Rattle.text.proofs.Keeping.{keeping, same_output}

pub input_said : {shown : ℕ → Cover → List ℕ} {May : ℕ → List ℕ → Cover → Type 0} {input text : List ℕ} {state : State} → state ≡ fed at_start input
    → PrintsState shown May state text → ProgramOutput shown May input text
input_said {shown} {May} {input} {text} e said =
    let p : PrintsState shown May (fed at_start input) text = subst (λ (s : State). PrintsState shown May s text) e said in
    record {
      list = p.list;
      is_written = λ x z a.
          let k = keeping x.width x.cells in
          subst (λ (cells : List ℕ). May x.width cells p.list) (k.whole a)
          (p.is_written (record { width = x.width; cells = keep x.cells }) (stepping input ∙ ap kept_of z) (k.refusal [] ∙ a));
      is_output = p.is_output ∙ same_output shown input p.list;
    }
