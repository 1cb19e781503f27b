-- `incumbent::greedy::gather` meets its contract. The invariant: the rows taken are live ones. Each turn takes one more, which covers an open column.
-- Assumes nothing.
use Rattle.std.proofs.Common.{◌≡◌, ℕ, false, arith, rules}
use Rattle.numbers.proofs.Flags.{clash}
use Rattle.matrix.specs.Sets.{row_limit, In, member}
use Rattle.matrix.specs.Matrix.{CoversColumn}
use Rattle.matrix.proofs.Without.{size_most}
use Rattle.incumbent.proofs.Gathering.{row_new, spent, size_more}
use Rattle.incumbent.proofs.greedy.gather.Goals as goal

pub loop-i-init : goal.loop-i-init
loop-i-init c = record { counted = c.none-taken.ensures.counted _ _; live = λ i h. clash h (c.none-taken.ensures.rows i) }

pub add-requires-clause-new : goal.add-requires-clause-new
add-requires-clause-new c =
    let meets : (x : ℕ) × CoversColumn c.args.problem.now.matrix.words.now c.in-Some.i x × In c.sub-open.result x = let p = c.in-Some.ensures.2 in search rules in
    row_new _ _ _ _ _ _ c.loop-i.invariant.counted c.sub-open.ensures meets

pub returns-in-None-clause-spent : goal.returns-in-None-clause-spent
returns-in-None-clause-spent c =
    spent _ _ _ _ _ c.sub-open.ensures
    (λ i l m.
    let none : (x : ℕ) → CoversColumn c.args.problem.now.matrix.words.now i x → In c.sub-open.result x → ⊥ =
    let p = c.in-None.ensures i (omega (arith, c.rows.ensures.is)) m in search rules in none)

pub loop-i-smaller : goal.loop-i-smaller
loop-i-smaller c =
    let r = c.in-Some.i in
    let meets : (x : ℕ) × CoversColumn c.args.problem.now.matrix.words.now r x × In c.sub-open.result x = let p = c.in-Some.ensures.2 in search rules in
    let new : member c.loop-i.taken.rows r ≡ false = row_new _ _ _ _ _ _ c.loop-i.invariant.counted c.sub-open.ensures meets in
    omega (arith, size_more r _ _ (omega (arith, c.in-Some.ensures.0, c.rows.ensures.few)) new c.add.ensures.rows, size_most row_limit c.add.new.self.rows)
