use Rattle.std.proofs.Common.{◌≡◌, decimal, length, ap, arith}
use Rattle.std.proofs.lemmas.Fmt.{decimal_digit}
use Rattle.report.proofs.line.put_field.Goals as goal

pub returns-clause-digit : goal.returns-clause-digit
returns-clause-digit c small = let one : length (decimal c.args.n) ≡ 1 = ap length (decimal_digit c.args.n small) in omega arith
