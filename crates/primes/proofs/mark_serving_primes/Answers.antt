-- `primes::mark_serving_primes` meets its contract: the test by the kinds is the test of a prime that serves. Assumes nothing.
use mathlib.Core.Path.{ap, ◌∙◌, subst⁻¹}
use mathlib.Core.List.{List}
use Prim.Native.Nat.{◌^◌}
use Rattle.primes.specs.Steps.{KindsOf}
use Rattle.primes.specs.declared.Kind.{Kind}
use Rattle.primes.proofs.Marking.{serving_by_kinds}
use Rattle.primes.proofs.mark_serving_primes.Goals as goal

pub returns : goal.returns
returns g c =
    let n = c.args.table.width in
    let t = c.args.table.cells.now in
    let kinds = subst⁻¹ (λ (l : List Kind). KindsOf n t l (3 ^ n)) c.as_slice.ensures.value c.note_kinds.ensures in
    let maximal = c.mark_maximal.ensures in
    record {
      marks = λ q l. maximal.marks q l ∙ ap g.T.Mark.mark_of (serving_by_kinds n t c.as_slice.result.now kinds.right q l);
      kept = maximal.kept;
    }
