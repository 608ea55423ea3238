use Rattle.std.proofs.Common.{◌≡◌, ◌+◌, ◌^◌, ◌<◌, length}
use Rattle.examine.specs.Tallies.{capped, waits_in, sees_in, ticks_in}
use Rattle.examine.proofs.tally_of.Given as goal

abbrev pub invariant-loop-d : goal.invariant-loop-d
invariant-loop-d g l =
    (capped (l.waits + waits_in (g.S.TraceSource.items l.source)) ≡ capped (waits_in (g.S.TraceSource.items l.initial.source))) × (capped (l.sees + sees_in (g.S.TraceSource.items l.source)) ≡ capped (sees_in (g.S.TraceSource.items l.initial.source))) × (capped (l.ticks + ticks_in (g.S.TraceSource.items l.source)) ≡ capped (ticks_in (g.S.TraceSource.items l.initial.source))) × (g.S.TraceSource.ending l.source ≡ g.S.TraceSource.ending l.initial.source) × ((l.waits < 2 ^ 64) × (l.sees < 2 ^ 64) × (l.ticks < 2 ^ 64))

abbrev pub decreases-loop-d : goal.decreases-loop-d
decreases-loop-d g l = length (g.S.TraceSource.items l.source)
