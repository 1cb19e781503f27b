-- `next` of `matrix::rows::Rows` meets its contract. The invariant: what is left is what was left at first. Assumes nothing.
use mathlib.Core.Path.{refl, sym, ap, ◌∙◌}
use mathlib.Core.List.{List, ◌∷◌}
use Prim.Native.Nat.{ℕ, ◌+◌}
use native.Mathlib.Omega.{arith}
use Rattle.numbers.proofs.Loops.{progress}
use Rattle.matrix.specs.Sets.{word_bits}
use Rattle.matrix.specs.Walks.{left_behind}
use Rattle.matrix.proofs.Members.{left_none, left_end, left_next, left_before}
use Rattle.matrix.proofs.Sets.{word_is, row_taken, none_left}
use Rattle.matrix.proofs.rows.RowsIterator.next.Goals as goal

pub returns-then-saturating_sub-le-BITS-clause-steps : goal.returns-then-saturating_sub-le-BITS-clause-steps
returns-then-saturating_sub-le-BITS-clause-steps c =
    let s = c.loop-word.self in
    none_left c.args.self.now s _ c.loop-word.invariant c.from.ensures (λ j l. left_none _ s.rest.now s.base (c.loop-word-test.ensures.none refl) j (omega arith))

pub returns-in_err-word-clause-steps : goal.returns-in_err-word-clause-steps
returns-in_err-word-clause-steps c =
    let s = c.loop-word.self in
    rw c.from_residual.ensures
    (none_left c.args.self.now s _ c.loop-word.invariant c.from.ensures (λ j l. left_end _ s.rest.now s.base (c.loop-word-test.ensures.none refl) c.in_err-word.ensures.cases j))

pub loop-word-preserved : goal.loop-word-preserved
loop-word-preserved c =
    let s = c.loop-word.self in
    let next = left_next c.from.result s.rest.now s.base (c.loop-word-test.ensures.none refl) in (
      c.loop-word.invariant.0,
      λ j.
          ap (λ (w : ℕ). left_behind (w ∷ c.in_ok-word.rest.now) (s.base + word_bits) j) c.from-self.ensures
          ∙ ap (λ (words : List ℕ). left_behind words (s.base + word_bits) j) (sym c.in_ok-word.ensures.cases.0) ∙ next j
          ∙ word_is s _ c.from.ensures j ∙ c.loop-word.invariant.1 j,
    )

pub returns-then-b-saturating_sub-clause-steps : goal.returns-then-b-saturating_sub-clause-steps
returns-then-b-saturating_sub-clause-steps c =
    row_taken _ c.loop-word.self _ c.from-word.result c.without_first.result c.in_ok-b.b c.loop-word.invariant c.from-word.ensures c.in_ok-b.ensures.first
    c.without_first.ensures c.from-self-2.ensures (omega arith) refl refl refl

pub returns-then-b-saturating_sub-clause-goes : goal.returns-then-b-saturating_sub-clause-goes
returns-then-b-saturating_sub-clause-goes c =
    progress (λ s. tt)
    (row_taken _ c.loop-word.self _ c.from-word.result c.without_first.result c.in_ok-b.b c.loop-word.invariant c.from-word.ensures c.in_ok-b.ensures.first
    c.without_first.ensures c.from-self-2.ensures (omega arith) refl refl refl)

pub returns-else-b-saturating_sub-clause-steps : goal.returns-else-b-saturating_sub-clause-steps
returns-else-b-saturating_sub-clause-steps c =
    let s = c.loop-word.self in
    none_left c.args.self.now s _ c.loop-word.invariant c.from-word.ensures (λ j l. left_before _ s.rest.now s.base c.in_ok-b.b c.in_ok-b.ensures.first j (omega arith))
