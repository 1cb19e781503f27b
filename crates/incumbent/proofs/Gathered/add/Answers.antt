-- `incumbent::Gathered::add` meets its contract: the row adds its columns and its weight. Assumes nothing.
use Rattle.std.proofs.Common.{◌≡◌, ℕ, ◌||◌, arith, refl}
use Rattle.matrix.specs.Sets.{has}
use Rattle.matrix.specs.Matrix.{covered}
use Rattle.incumbent.proofs.Gathering.{counted_more, counted_below}
use Rattle.incumbent.proofs.Gathered.add.Goals as goal

pub overflow_add-self : goal.overflow_add-self
overflow_add-self c = let b = counted_below _ _ _ c.requires.counted in omega (arith, c.weight.ensures.small)

pub returns-clause-counted : goal.returns-clause-counted
returns-clause-counted c =
    let more : (x : ℕ) → has c.bitor_assign.new.self x ≡ (has c.args.self.now.columns x || has (covered c.args.matrix.words.now c.args.i) x) =
    rw c.columns_of.ensures at c.bitor_assign.ensures.after in
    counted_more _ _ _ _ _ _ (omega (arith, c.args.matrix.sizes.few)) c.requires.new c.weight.ensures.is c.weight.ensures.small c.insert.ensures more refl c.requires.counted
