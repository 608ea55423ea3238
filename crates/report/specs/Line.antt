-- The texts of a refusal and of a report, and the row of 128 bytes that a text stands in.
use Rattle.std.specs.Prelude.{ℕ, ◌-◌, List, [], ◌∷◌, ◌++◌, length, replicate, codes, decimal, nat_eq, Option, None, Some}
use Rattle.std.specs.List.{before_first}
use Rattle.report.specs.declared.Refusal.{Refusal}
use Rattle.report.specs.declared.Report.{Report}
use Rattle.report.specs.Answers.{verdict_word, document_word, cause_number}

-- a number behind a blank
abbrev pub field : ℕ → List ℕ
field n = codes " " ++ decimal n

abbrev line_feed : List ℕ
line_feed = 10 ∷ []

abbrev pub refusal_text : Refusal → List ℕ
refusal_text refusal = codes "refused " ++ document_word refusal.document ++ field refusal.number ++ field refusal.place ++ line_feed

abbrev pub first_line : Report → List ℕ
first_line report = verdict_word report.verdict ++ field (cause_number report.cause) ++ field report.count ++ field report.tick ++ line_feed

-- a second line follows where a refusal stands beside the report
abbrev pub report_text : Report → Option Refusal → List ℕ
report_text report None = first_line report
report_text report (Some refusal) = first_line report ++ refusal_text refusal

-- the text, and zeros behind it
abbrev pub row_of : List ℕ → List ℕ
row_of text = text ++ replicate (128 - length text) 0

-- the text of a row: what stands before its first zero
abbrev pub text_of : List ℕ → List ℕ
text_of row = before_first (λ b. nat_eq b 0) row
