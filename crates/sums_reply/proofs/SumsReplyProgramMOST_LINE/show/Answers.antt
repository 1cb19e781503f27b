-- `sums_reply::SumsReply::show` meets its contract: the answer of the keep-out call is shown. Assumes nothing.
use Rattle.std.proofs.Common.{lit<, lit≤, rules}
use Rattle.sums_reply.proofs.Printed.{line_room, shows_line, refuses_keep_out}
use Rattle.sums_reply.proofs.SumsReplyProgramMOST_LINE.show.Goals as goal

pub returns-in_err-totals-clause-refusal : goal.returns-in_err-totals-clause-refusal
returns-in_err-totals-clause-refusal c = search (rules, refuses_keep_out)

pub line-requires : goal.line-requires
line-requires c = (lit< tt, line_room c.args.text.width c.args.text.cells.now _ _ _ _ (lit≤ tt) (lit≤ tt) _ c.in_ok-totals.ensures)

pub returns-clause-text : goal.returns-clause-text
returns-clause-text c = shows_line c.args.text.width c.args.text.cells.now _ _ _ _ (lit≤ tt) (lit≤ tt) _ c.in_ok-totals.ensures c.line.ensures
