use Rattle.monitor.proofs.Following.{takes_wait, takes_see}
use Rattle.monitor.proofs.watch.Watch.take.Goals as goal

pub returns-in-Wait : goal.returns-in-Wait
returns-in-Wait g c = record { takes = λ d. takes_wait _ _ _ _ d c.args.self c.args.slip _ _ c.args.item c.in-Wait.ticks _ _ _ c.in-Wait.is (c.wait.ensures.waits d) }

pub returns-in-See : goal.returns-in-See
returns-in-See g c = record { takes = λ d. takes_see _ _ _ _ d c.args.self c.args.slip _ _ c.args.item c.in-See.channel _ _ _ c.in-See.is (c.see.ensures.sees d) }
