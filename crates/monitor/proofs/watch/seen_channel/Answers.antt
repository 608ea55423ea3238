use Rattle.std.proofs.Common.{ℕ, ◌<◌, IfNone, Option, sym, ◌∙◌, subst}
use Rattle.model.specs.declared.ChannelKind.{ChannelKind}
use Rattle.network.specs.Networks.{model_of}
use Rattle.monitor.specs.Calls.{Visible}
use Rattle.monitor.proofs.Seeing.{none_unless, past_channels}
use Rattle.monitor.proofs.watch.seen_channel.Goals as goal

pub returns-in_err-k-clause-none_only_unseen : goal.returns-in_err-k-clause-none_only_unseen
returns-in_err-k-clause-none_only_unseen c =
    let n = c.args.network.now in
    let k = c.args.channel in
    subst (λ (r : Option (ℕ × ChannelKind)). IfNone r (¬ (Visible (model_of c.args.network.now) c.args.channel))) (sym c.from_residual.ensures)
    (past_channels (model_of n) n.sound k (none_unless c.try_from.result (c.args.channel < 256) k c.try_from.ensures (sym c.ok.ensures.value ∙ c.in_err-k.was)))
