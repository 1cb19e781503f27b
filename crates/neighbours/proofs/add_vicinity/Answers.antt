-- `neighbours::add_vicinity` meets its contract: the cube is listed already, or it is put where it belongs if it is an implicant. Assumes nothing.
use Prim.Native.Nat.{ℕ, ◌^◌, ◌<◌, ◌≤◌}
use native.Mathlib.Omega.{arith}
use mathlib.Core.Path.{◌≡◌, sym, ◌∙◌}
use mathlib.Core.List.{List}
use Rattle.neighbours.specs.Vicinity.{vicinity}
use Rattle.cube.specs.Calls.{widest}
use Rattle.cube.proofs.Calls.{cubes_most}
use Rattle.neighbours.proofs.Vicinity.{vicinity_digits}
use Rattle.neighbours.proofs.Finding.{listed_already, before_inside, room_for_one, barred_matched, listed_before}
use Rattle.neighbours.proofs.add_vicinity.Goals as goal

-- the cube is one of the widest width
small : (n : ℕ) (t : List ℕ) (c q : ℕ) → n ≤ widest → q ≡ vicinity n t c → q < 3 ^ widest
small n t c q l e = omega (arith, e, (vicinity_digits n t c).below, cubes_most n l)

pub overflow_cast-cube : goal.overflow_cast-cube
overflow_cast-cube c =
    omega (arith, small c.args.table.width c.args.table.cells.now c.args.c _ c.args.table.narrow c.kept_bits-kept.ensures.cube)

pub returns-in-Ok : goal.returns-in-Ok
returns-in-Ok c =
    let s = c.args in
    listed_already s.table.width s.table.cells.now s.out.now s.c s.count s.table.sized c.requires.found c.requires.wanted _ c.kept_bits-kept.ensures.cube _ c.in-Ok.ensures.position

pub returns-in-Err : goal.returns-in-Err
returns-in-Err c =
    let s = c.args in
    let kept = c.kept_bits-kept.ensures in
    barred_matched s.table.width s.table.cells.now s.out.now s.c s.count s.table.sized c.requires.found c.requires.wanted _ kept.cube _ c.in-Err.ensures.position _ kept.bits
    (sym c.matches_barred.ensures ∙ c.if-matches_barred.true)

pub insert_at-requires : goal.insert_at-requires
insert_at-requires c =
    let s = c.args in
    let kept = c.kept_bits-kept.ensures in (
      before_inside s.table.width s.table.cells.now s.out.now s.c s.count s.table.sized c.requires.found c.requires.wanted _ kept.cube _ c.in-Err.ensures.position,
      room_for_one s.table.width s.table.cells.now s.out.now s.c s.count s.table.sized c.requires.found c.requires.wanted _ kept.cube _ c.in-Err.ensures.position,
    )

pub returns-in-Err-2 : goal.returns-in-Err-2
returns-in-Err-2 c =
    let s = c.args in
    let kept = c.kept_bits-kept.ensures in
    listed_before s.table.width s.table.cells.now s.out.now s.c s.count s.table.sized c.requires.found c.requires.wanted _ kept.cube _ c.in-Err.ensures.position _ _ _ kept.bits
    (sym c.matches_barred.ensures ∙ c.if-matches_barred.false) c.insert_at.ensures
