use Rattle.network.specs.Networks.{model_of}
use Rattle.monitor.proofs.Determinate.{wait_determined}
use Rattle.monitor.proofs.watch.Watch.wait.Goals as goal

pub returns-then-not-has_rows-clause-one_reply : goal.returns-then-not-has_rows-clause-one_reply
returns-then-not-has_rows-clause-one_reply g c = wait_determined g.T.TimeKind.had g.T.TimeKind.admits g.T.TimeKind.reach (model_of c.args.network.now) c.args.self c.args.slip c.args.ticks

pub returns-clause-one_reply : goal.returns-clause-one_reply
returns-clause-one_reply g c = wait_determined g.T.TimeKind.had g.T.TimeKind.admits g.T.TimeKind.reach (model_of c.args.network.now) c.args.self c.args.slip c.args.ticks
