use Rattle.std.proofs.Common.{◌≡◌, ℕ, List, length}
use Rattle.network.specs.Networks.{model_of}
use Rattle.monitor.specs.Following.{Answer, Gives, meets_end}
use Rattle.monitor.proofs.watch.Watch.give.Given as goal

-- whatever the watch here comes to, the watch at the beginning comes to
abbrev pub invariant-loop-item : goal.invariant-loop-item
invariant-loop-item g l = record {
  gives : (d : g.row.T.Denot) (y : Answer) (bs : List (g.row.T.Denot)) (ls : List ℕ) → Gives g.T.TimeKind.had g.T.TimeKind.admits g.T.TimeKind.reach (model_of l.network) d (meets_end (g.S.TraceSource.ending l.source)) y bs ls l.watch l.slip l.bounds l.locations (g.S.TraceSource.items l.source) → Gives g.T.TimeKind.had g.T.TimeKind.admits g.T.TimeKind.reach (model_of l.network) d (meets_end (g.S.TraceSource.ending l.initial.source)) y bs ls l.initial.watch l.initial.slip l.initial.bounds l.initial.locations (g.S.TraceSource.items l.initial.source);
  ending : g.S.TraceSource.ending l.source ≡ g.S.TraceSource.ending l.initial.source;
}

abbrev pub decreases-loop-item : goal.decreases-loop-item
decreases-loop-item g l = length (g.S.TraceSource.items l.source)
