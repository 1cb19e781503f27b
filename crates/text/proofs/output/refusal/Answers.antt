-- `text::output::refusal` meets its contract: there is room for a number of three digits. Assumes nothing.
use Rattle.std.proofs.Common.{rules, length, arith, ap, length-append, lit<}
use Rattle.std.proofs.lemmas.Str.{encode_ascii}
use Rattle.text.specs.Characters.{bytes, line_feed}
use Rattle.text.specs.Output.{in_decimal}
use Rattle.text.proofs.Lines.{number_length}
use Rattle.text.proofs.output.refusal.Goals as goal

pub push-requires : goal.push-requires
push-requires g c = (
  search rules,
  omega (
    arith,
    ap length c.number.ensures,
    length-append c.push_str.new.self.bytes (in_decimal c.from.result),
    number_length c.from.result (omega arith),
    ap length c.push_str.ensures.bytes,
    length-append c.new-out.result.bytes (bytes "refused "),
    ap length c.new-out.ensures,
    ap length (encode_ascii line_feed (lit< tt)),
    c.requires,
  ),
)
