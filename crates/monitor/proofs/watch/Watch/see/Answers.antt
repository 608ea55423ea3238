use Rattle.std.proofs.Common.{sym, ap, ◌∙◌, rules}
use Rattle.network.specs.Networks.{model_of}
use Rattle.runs.specs.Moves.{channel_at}
use Rattle.monitor.proofs.Determinate.{see_determined}
use Rattle.monitor.proofs.Seeing.{see_sees}
use Rattle.monitor.proofs.watch.Watch.see.Goals as goal

pub returns : goal.returns
returns g c =
    let m = g.T.TimeKind in
    let N = model_of c.args.network.now in
    let x = c.see_in.ensures in
    let e = c.in-Some.ensures.seen in
    record {
      one_reply = see_determined m.had m.admits m.reach N c.args.self c.args.slip c.args.channel;
      sees = λ d.
          see_sees m.had m.admits m.reach N d c.args.self c.args.slip c.see_in.result c.args.bounds.now c.see_in.new.store.bounds.now c.args.locations.now c.see_in.new.store.locations.now c.in-Some.k c.args.channel e.0 _ _ (search rules) (search rules) (c.if-not-has_rows.ensures.tells.yes tt) e.2 c.if-items-ge-MOST.false x.left_alone
          (x.taken (e.1 ∙ ap (channel_at N) (sym e.0)) d);
    }

pub returns-then-not-has_rows-clause-one_reply : goal.returns-then-not-has_rows-clause-one_reply
returns-then-not-has_rows-clause-one_reply g c = see_determined g.T.TimeKind.had g.T.TimeKind.admits g.T.TimeKind.reach (model_of c.args.network.now) c.args.self c.args.slip c.args.channel
