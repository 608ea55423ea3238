use Rattle.std.proofs.Common.{ap, refl}
use Rattle.network.specs.Networks.{model_of}
use Rattle.report.specs.Line.{report_text, row_of}
use Rattle.monitor.specs.Following.{stopped}
use Rattle.time.specs.Whole.{whole_had, whole_admits, whole_reach}
use Rattle.judge.proofs.Courses.{rows_enough, opened_rows, no_open_refused, no_follow_refused, stop_from_the_first, gave_stopped, opened_watched}
use Rattle.judge.proofs.follow.Goals as goal

pub returns-in_err-watch : goal.returns-in_err-watch
returns-in_err-watch c =
    let N = model_of c.args.network.now in
    record { watched = λ d. absurd (no_open_refused whole_had whole_admits whole_reach N d _ _ 40 c.in_err-watch.field-0.0 _ _ (c.in_err-watch.ensures.opens d) (rows_enough N c.args.network.now.sound _ _ refl refl)) }

pub returns-in-Ended : goal.returns-in-Ended
returns-in-Ended c =
    let new = c.new-recording in
    record {
      watched = λ d.
          opened_watched c.open.ensures.verdicts_by_runs c.open.ensures.fits_by_cause c.args.network.now d c.args.recording.now new.result.bytes.now new.result.at new.ensures.same_bytes new.ensures.at_the_first_byte _ _ _ _ _ _ _ _ (c.in_ok-watch.ensures.opens d) _ (c.in-Ended.ensures.follows d)
          c.in-Ended.report refl _ refl;
    }

pub returns-in-Stopped : goal.returns-in-Stopped
returns-in-Stopped c =
    let new = c.new-recording in
    let report = c.in-Stopped.report in
    let stop = c.in-Stopped.stop in
    record {
      watched = λ d.
          opened_watched c.open.ensures.verdicts_by_runs c.open.ensures.fits_by_cause c.args.network.now d c.args.recording.now new.result.bytes.now new.result.at new.ensures.same_bytes new.ensures.at_the_first_byte _ _ _ _ _ _ _ _ (c.in_ok-watch.ensures.opens d) (stopped report stop) (c.in-Stopped.ensures.follows d)
          report (gave_stopped report stop) _
          (ap (λ x. row_of (report_text report x)) (stop_from_the_first new.result.bytes.now c.args.recording.now new.result.at new.ensures.same_bytes new.ensures.at_the_first_byte report stop c.into.result c.into.ensures c.in-Stopped.ensures.whole_fault));
    }

pub returns-in-Refused : goal.returns-in-Refused
returns-in-Refused c =
    let N = model_of c.args.network.now in
    record {
      watched = λ d.
          absurd (no_follow_refused whole_had whole_admits whole_reach N d _ _ _ _ _ _ _ _ _ (c.in-Refused.ensures.follows d) (opened_rows whole_had whole_admits whole_reach N d _ _ 40 _ _ _ _ (c.in_ok-watch.ensures.opens d)) _ _ _ refl);
    }
