-- `better::better` meets its contract: it refuses as Plan does, or both lists stand in arrays of their own and the better one is copied. Assumes nothing.
use Rattle.std.proofs.Common.{rules, ◌≡◌, true, false, sym}
use Rattle.keep_out.proofs.Theorems.{plans_exchanged}
use Rattle.better.specs.Better.{is_better}
use Rattle.better.proofs.Endings.{stands, better_refused, list_drafted, fits, keep_out_done, ordinary_done}
use Rattle.better.proofs.better.Goals as goal

pub returns-in_err-accept : goal.returns-in_err-accept
returns-in_err-accept c = search (rules, better_refused)

pub returns-in_err-list : goal.returns-in_err-list
returns-in_err-list c =
    absurd (list_drafted c.args.n c.args.table.now c.args.values.now c.args.cares.now (sym c.in_ok-accept.ensures.refusal) _ (search rules) (search rules) c.in_err-list.ensures)

pub write-requires : goal.write-requires
write-requires c =
    fits c.args.n c.args.table.now c.args.values.now c.args.cares.now (sym c.in_ok-accept.ensures.refusal) _
    (stands ((plans_exchanged c.args.n c.args.table.now _ _ _ _ _).0 c.in_ok-excluding.ensures))

pub returns-then-lt : goal.returns-then-lt
returns-then-lt c =
    let better : is_better c.in_ok-excluding.field-0 c.in_ok-list.field-0 ≡ true = search rules in
    keep_out_done c.args.n c.args.table.now c.args.values.now c.args.cares.now (sym c.in_ok-accept.ensures.refusal)
    (stands c.in_ok-list.ensures)
    (stands ((plans_exchanged c.args.n c.args.table.now _ _ _ _ _).0 c.in_ok-excluding.ensures)) _ _ better
    c.write.ensures.values_after c.write.ensures.cares_after

pub write-requires-2 : goal.write-requires-2
write-requires-2 c =
    fits c.args.n c.args.table.now c.args.values.now c.args.cares.now (sym c.in_ok-accept.ensures.refusal) _ (stands c.in_ok-list.ensures)

pub returns : goal.returns
returns c =
    let no_better : is_better c.in_ok-excluding.field-0 c.in_ok-list.field-0 ≡ false = search rules in
    ordinary_done c.args.n c.args.table.now c.args.values.now c.args.cares.now (sym c.in_ok-accept.ensures.refusal)
    (stands c.in_ok-list.ensures)
    (stands ((plans_exchanged c.args.n c.args.table.now _ _ _ _ _).0 c.in_ok-excluding.ensures)) _ _ no_better
    c.write-2.ensures.values_after c.write-2.ensures.cares_after
