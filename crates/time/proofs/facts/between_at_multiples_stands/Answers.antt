use Rattle.time.specs.Between.{between_at_multiples}
use Rattle.time.proofs.facts.between_at_multiples_stands.Goals as goal

pub returns-clause-stands : goal.returns-clause-stands
returns-clause-stands g c = between_at_multiples g.met.K.TimeKind.laws
