use Rattle.std.proofs.Common.{◌≡◌, ◌-◌, ◌++◌, List, ℕ, length, replicate, ap, rules, ◌∙◌}
use Rattle.std.proofs.lemmas.List.{drop-replicate}
use Rattle.report.specs.Line.{row_of}
use Rattle.report.proofs.line.row_of.Goals as goal

zeros_behind : (text front : List ℕ) (n : ℕ) → front ≡ text → n ≡ length text → front ++ replicate (128 - n) 0 ≡ row_of text
zeros_behind text front n e f = rw (e, f)

pub returns-clause-row : goal.returns-clause-row
returns-clause-row c = ap (λ back. c.copy_from_slice.new.self ++ back) (drop-replicate _ _ _) ∙ zeros_behind c.args.line.now.bytes c.copy_from_slice.new.self c.len.result (search rules) (search rules)
