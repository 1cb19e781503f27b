-- `neighbours::vicinities::kept_bits` meets its contract: the bits from k up are read. Assumes nothing.
use mathlib.Core.Path.{◌≡◌, refl, subst}
use Prim.Native.Nat.{ℕ, ◌+◌, ◌-◌}
use native.Mathlib.Omega.{arith}
use Rattle.neighbours.proofs.Reading.{ReadTo, read_none, read_more, read_all, kept_small, cube_small}
use Rattle.neighbours.proofs.vicinities.kept_bits.Goals as goal

pub loop-k-init : goal.loop-k-init
loop-k-init c = read_none _ _ _ _ refl refl

pub with_bit-kept-requires : goal.with_bit-kept-requires
with_bit-kept-requires c =
    let i = c.loop-k.invariant in
    let s = c.args in record {
      bit = omega arith;
      code = c.requires;
      small = (
        kept_small s.table.width s.table.cells.now s.c s.table.narrow c.loop-k.k _ i,
        cube_small s.table.width s.table.cells.now s.c s.table.narrow c.loop-k.k _ i,
      );
    }

pub loop-k-preserved : goal.loop-k-preserved
loop-k-preserved c =
    let s = c.args in
    let e : c.loop-k.k ≡ c.loop-k.k - 1 + 1 = omega arith in
    read_more s.table.width s.table.cells.now s.c (c.loop-k.k - 1) _ _ (omega arith) (subst (λ (j : ℕ). ReadTo s.table.width s.table.cells.now s.c j c.loop-k.kept) e c.loop-k.invariant) c.with_bit-kept.ensures

pub returns : goal.returns
returns c =
    let s = c.args in
    let e : c.loop-k.k ≡ 0 = omega arith in
    read_all s.table.width s.table.cells.now s.c _ (subst (λ (j : ℕ). ReadTo s.table.width s.table.cells.now s.c j c.loop-k.kept) e c.loop-k.invariant)
