use Rattle.std.proofs.Common.{rules}
use Rattle.monitor.proofs.Opening.{begun_opens}
use Rattle.monitor.proofs.Whole.{verdicts_by_runs}
use Rattle.monitor.proofs.Decided.{words_decide}
use Rattle.monitor.proofs.Places.{fits_by_cause}
use Rattle.monitor.proofs.Counting.{counts_items}
use Rattle.monitor.proofs.watch.open.Goals as goal

pub returns-then-not-has_rows-clause-verdicts_by_runs : goal.returns-then-not-has_rows-clause-verdicts_by_runs
returns-then-not-has_rows-clause-verdicts_by_runs g c = verdicts_by_runs g.met.T.TimeKind.laws

pub returns-then-not-has_rows-clause-words_decide : goal.returns-then-not-has_rows-clause-words_decide
returns-then-not-has_rows-clause-words_decide g c = words_decide g.met.T.TimeKind.laws

pub returns-then-not-has_rows-clause-fits_by_cause : goal.returns-then-not-has_rows-clause-fits_by_cause
returns-then-not-has_rows-clause-fits_by_cause g c = fits_by_cause _ _ _

pub returns-then-not-has_rows-clause-counts_items : goal.returns-then-not-has_rows-clause-counts_items
returns-then-not-has_rows-clause-counts_items g c = counts_items _ _ _

pub returns : goal.returns
returns g c =
    let m = g.T.TimeKind in
    record {
      opens = λ d. begun_opens m.had m.admits m.reach _ c.begin.new.self d (c.begin.ensures.begun d) c.args.entries _ _ (search rules) (search rules) (c.if-not-has_rows.ensures.tells.yes tt) c.begin.ensures.left_alone;
      verdicts_by_runs = verdicts_by_runs g.met.T.TimeKind.laws;
      words_decide = words_decide g.met.T.TimeKind.laws;
      fits_by_cause = fits_by_cause _ _ _;
      counts_items = counts_items _ _ _;
    }
