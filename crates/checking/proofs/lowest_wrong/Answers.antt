-- `checking::lowest_wrong` meets its contract: at each turn no code before c is wrong. Assumes nothing.
use mathlib.Core.Path.{sym}
use Prim.Native.Nat.{◌^◌, ◌<◌}
use native.Mathlib.Omega.{arith}
use Rattle.cube.proofs.Calls.{codes_most}
use Rattle.checking.proofs.Verdicts.{verdict_right, missed_named, stray_named}
use Rattle.checking.proofs.lowest_wrong.Goals as goal

pub contains-requires : goal.contains-requires
contains-requires c = let t = c.args.table in omega (arith, t.sized, codes_most t.width t.narrow)

pub returns-in-1-false : goal.returns-in-1-false
returns-in-1-false c = λ rs e.
    let t = c.args.table in
    let below : c.loop-c.c < 2 ^ t.width = omega (arith, t.sized) in
    missed_named t.width t.cells.now rs c.loop-c.c below (c.loop-c.invariant rs e) _ (e c.loop-c.c below) c.in-1-false.is-0 (sym c.in-1-false.ensures)

pub returns-in-0-true : goal.returns-in-0-true
returns-in-0-true c = λ rs e.
    let t = c.args.table in
    let below : c.loop-c.c < 2 ^ t.width = omega (arith, t.sized) in
    stray_named t.width t.cells.now rs c.loop-c.c below (c.loop-c.invariant rs e) _ (e c.loop-c.c below) c.in-0-true.is-0 (sym c.in-0-true.ensures)

pub returns : goal.returns
returns c = λ rs e.
    let t = c.args.table in
    sym (verdict_right t.width t.cells.now rs (λ k l. c.loop-c.invariant rs e k (omega (arith, t.sized))))
