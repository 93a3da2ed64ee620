use Rattle.std.proofs.Common.{rules}
use Rattle.std.proofs.lemmas.Str.Parse.{parse_plain, numerals_by_value, tells_all_ascii_digits}
use Rattle.console.proofs.number.decimal.Goals as goal

pub returns : goal.returns
returns c = search (rules, parse_plain (numerals_by_value _ tells_all_ascii_digits) 64 c.args.text.now _ c.parse.ensures.value.0)
