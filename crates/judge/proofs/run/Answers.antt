use Rattle.std.proofs.Common.{Option, sym, ap, ◌∙◌, arith}
use Rattle.std.specs.Prelude.{Result, Err}
use Rattle.std.proofs.lemmas.Result.{err_from_is_err_and}
use Rattle.network.specs.Answers.{sheet_rule, sheet_place}
use Rattle.network.specs.Networks.{model_of}
use Rattle.report.specs.Line.{row_of}
use Rattle.report.specs.declared.Report.{Report}
use Rattle.judge.specs.declared.Fault.{Fault}
use Rattle.judge.specs.Answers.{text_of}
use Rattle.judge.specs.Judging.{sheet_refused, watched}
use Rattle.judge.proofs.run.Goals as goal

pub returns-in_err-read_sheet : goal.returns-in_err-read_sheet
returns-in_err-read_sheet c =
    let fault = c.in_err-read_sheet.field-0.0 in
    let p = err_from_is_err_and c.from_residual.result c.from_residual.ensures.1 in
    record {
      judged =
          sheet_refused (omega arith) (omega arith) (sheet_rule fault) (sheet_place fault) (sym c.in_err-read_sheet.ensures.first_refusal_or_network)
          (ap (λ (x : Result (Report × Option Fault) Fault). row_of (text_of x)) p.1 ∙ ap (λ (f : Fault). row_of (text_of (Err f))) p.2);
    }

pub returns : goal.returns
returns c =
    record { judged = watched (omega arith) (omega arith) (model_of c.read_sheet.new.place) (sym c.in_ok-read_sheet.ensures.first_refusal_or_network) c.follow.ensures.watched }
