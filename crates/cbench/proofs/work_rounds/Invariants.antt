use Rattle.estimate.specs.Stores.{HasRoom}
use Rattle.cbench.proofs.work_rounds.Given as goal

abbrev pub invariant-loop : goal.invariant-loop
invariant-loop g l = HasRoom l.store 256
