use Rattle.std.proofs.Common.{◌≡◌, ℕ, List, Option, Some, None, sym, ap, ◌∙◌, subst}
use Rattle.std.specs.Prelude.{Result, Ok, Err}
use Rattle.report.specs.Line.{refusal_text, report_text, row_of}
use Rattle.report.specs.declared.Refusal.{Refusal}
use Rattle.report.specs.declared.Report.{Report}
use Rattle.judge.specs.declared.Fault.{Fault}
use Rattle.judge.specs.Answers.{text_of}
use Rattle.judge.specs.Judging.{Judged}
use Rattle.judge.proofs.judge.Goals as goal

-- the line of what the run came to is judged as that is
line_judged : (sheet recording line : List ℕ) (x y : Result (Report × Option Fault) Fault) → Judged sheet recording (row_of (text_of x)) → x ≡ y → line ≡ row_of (text_of y) → Judged sheet recording line
line_judged sheet recording line x y j e is = subst (Judged sheet recording) (ap (λ z. row_of (text_of z)) e ∙ sym is) j

pub returns-in-Ok-default-None : goal.returns-in-Ok-default-None
returns-in-Ok-default-None c =
    let report = c.in-Ok-default-None.report in
    record { judged = line_judged _ _ _ c.run.result (Ok (report, None)) c.run.ensures.judged (cc) c.report_line.ensures.row }

pub returns-in-Ok-default-Some : goal.returns-in-Ok-default-Some
returns-in-Ok-default-Some c =
    let report = c.in-Ok-default-Some.report in
    let row = c.report_line-in-Ok-default-Some.ensures.row in
    record { judged = line_judged _ _ _ c.run.result (Ok (report, Some c.in-Ok-default-Some.fault)) c.run.ensures.judged (cc) (row ∙ ap (λ (r : Refusal). row_of (report_text report (Some r))) c.into.ensures) }

pub returns-in-Err : goal.returns-in-Err
returns-in-Err c =
    record { judged = line_judged _ _ _ c.run.result (Err c.in-Err.fault) c.run.ensures.judged (cc) (c.refusal_line.ensures.row ∙ ap (λ (r : Refusal). row_of (refusal_text r)) c.into-in-Err.ensures) }
