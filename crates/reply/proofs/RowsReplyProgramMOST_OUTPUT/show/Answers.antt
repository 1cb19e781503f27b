-- `reply::RowsReply::show` meets its contract: Plan's answer is shown. Assumes nothing.
use Rattle.std.proofs.Common.{lit≤, rules}
use Rattle.reply.proofs.Printed.{shows, refuses}
use Rattle.reply.proofs.RowsReplyProgramMOST_OUTPUT.show.Goals as goal

pub returns-in_err-totals-clause-refusal : goal.returns-in_err-totals-clause-refusal
returns-in_err-totals-clause-refusal c = search (rules, refuses)

pub returns-clause-text : goal.returns-clause-text
returns-clause-text c = shows c.args.text.width c.args.text.cells.now _ _ _ _ (lit≤ tt) (lit≤ tt) _ c.in_ok-totals.ensures c.list.ensures
