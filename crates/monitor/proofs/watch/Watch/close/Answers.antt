use Rattle.monitor.proofs.Examples.{example_shifts}
use Rattle.monitor.proofs.watch.Watch.close.Goals as goal

pub returns-clause-example_shifts : goal.returns-clause-example_shifts
returns-clause-example_shifts c = example_shifts
