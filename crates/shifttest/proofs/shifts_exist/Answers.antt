use Rattle.shifttest.proofs.Witnesses.{opening_shows}
use Rattle.shifttest.proofs.shifts_exist.Goals as goal

pub returns-in-Ok : goal.returns-in-Ok
returns-in-Ok g c = record { shifts_exist = λ d h. opening_shows _ _ _ g.met.T.TimeKind.laws c.args.network.now d c.args.entries _ _ _ _ c.open.result (c.open.ensures.opens d) h }

pub returns-in_default : goal.returns-in_default
returns-in_default g c = record { shifts_exist = λ d h. opening_shows _ _ _ g.met.T.TimeKind.laws c.args.network.now d c.args.entries _ _ _ _ c.open.result (c.open.ensures.opens d) h }
