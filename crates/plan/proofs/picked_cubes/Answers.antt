-- `plan::picked_cubes` meets its contract: no cube before the first item, and an item adds its own. Assumes nothing.
use Rattle.std.proofs.Common.{rules, ℕ, [], ◌∷◌, ◌++◌, get_or, sym, ap, ◌∙◌, arith}
use Rattle.std.proofs.lemmas.List.{get_or-map}
use Rattle.numbers.specs.Below.{those}
use Rattle.chart_arrays.specs.declared.ChartRow.{ChartRow}
use Rattle.matrix.proofs.Loops.{rows_turn, rows_end_has}
use Rattle.plan.specs.Steps.{cubes_of}
use Rattle.plan.proofs.Picked.{picked_turn, picked_room, picked_all}
use Rattle.plan.proofs.picked_cubes.Goals as goal

pub loop-i-init : goal.loop-i-init
unfolding those
loop-i-init c = c.new-cubes.ensures

pub push-requires : goal.push-requires
push-requires c =
    let t = rows_turn _ _ _ _ _ _ _ _ c.into_iter-i-iterator.ensures.into_iter_gives c.iter-i-items.ensures.end c.iter-i-items.ensures.set c.loop-i.yielded_by c.next.ensures.steps c.in-Some.i c.in-Some.is in
    (search rules, omega (arith, picked_room (λ (k : ℕ). get_or (cubes_of c.args.rows.now) k 0) t c.loop-i.invariant, c.requires.room))

pub loop-i-preserved : goal.loop-i-preserved
loop-i-preserved c =
    let t = rows_turn _ _ _ _ _ _ _ _ c.into_iter-i-iterator.ensures.into_iter_gives c.iter-i-items.ensures.end c.iter-i-items.ensures.set c.loop-i.yielded_by c.next.ensures.steps c.in-Some.i c.in-Some.is in
    picked_turn (λ (k : ℕ). get_or (cubes_of c.args.rows.now) k 0) t c.loop-i.invariant
    (c.push.ensures.items ∙ ap (λ q. c.loop-i.cubes.items ++ (q ∷ [])) (sym (get_or-map (λ (r : ChartRow). r.cube) c.args.rows.now c.in-Some.i _ 0 t.within)))

pub returns : goal.returns
returns c =
    let t = rows_end_has _ _ _ _ _ _ _ _ c.into_iter-i-iterator.ensures.into_iter_gives c.iter-i-items.ensures.end c.iter-i-items.ensures.set c.loop-i.yielded_by c.next.ensures.steps c.in-None.is in
    picked_all (λ (k : ℕ). get_or (cubes_of c.args.rows.now) k 0) t c.loop-i.invariant
