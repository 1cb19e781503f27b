-- `text::output::lines` meets its contract: at each turn the lines of the rows that are left are left to write. Assumes nothing.
use Rattle.std.proofs.Common.{rules, ℕ, ◌+◌, ◌≤◌, List, ◌++◌, length, arith, ap, sym, ◌∙◌, length-append}
use Rattle.cube.specs.Words.{Cover, rows_of}
use Rattle.text.specs.Output.{row_line, list_lines}
use Rattle.text.proofs.Lines.{line_length}
use Rattle.text.proofs.Rows.{next_room}
use Rattle.text.proofs.output.lines.Goals as goal

pub line-requires : goal.line-requires
unfolding list_lines
line-requires g c =
    let n = c.args.n in
    let out : List ℕ = c.loop-row.out.bytes in
    let all : List ℕ = list_lines n (rows_of c.args.rows.values.now c.args.rows.cares.now) in
    let room : length out + length (row_line n c.in-Some.row) ≤ length (c.args.out.now.bytes ++ all) =
    next_room _ _ _ (ap (λ (rs : Cover). out ++ list_lines n rs) (sym c.in-Some.ensures.steps) ∙ c.loop-row.invariant) in
    (search rules, omega (arith, room, line_length n c.in-Some.row, length-append c.args.out.now.bytes all, c.requires))
