use Rattle.std.proofs.Common.{◌≡◌, ℕ, ◌+◌, cond, ◌∙◌, ap₂, rules}
use Rattle.report.specs.declared.Verdict.{Verdict}
use Rattle.report.specs.declared.Verdict.TheVariants.{Fail, Inconclusive}
use Rattle.report.specs.declared.Cause.TheVariants.{BrokenWait}
use Rattle.monitor.specs.declared.growing.Waited.TheVariants.{Reached, Broken, Overrun}
use Rattle.monitor.specs.declared.watch.Reply.TheVariants.{Going, Ended}
use Rattle.monitor.proofs.Waits.{wait_taken}
use Rattle.monitor.proofs.watch.Watch.wait_in.Goals.{then-loosely, else-loosely}
use Rattle.monitor.proofs.watch.Watch.wait_in.Goals as goal

pub returns-in-Reached-clause-taken : goal.returns-in-Reached-clause-taken
returns-in-Reached-clause-taken g c d own =
    let w = c.args.self in
    let e = c.wait.ensures in
    wait_taken g.met.T.TimeKind.laws w c.args.slip c.args.ticks c.args.store.now c.wait.new.store e.left_alone e.same_store c.requires.range c.requires.below d own c.in-Some.w.count c.in-Some.ensures.later.0 Reached c.in-Reached.ensures.waits _
    (ap₂ (λ (t s : ℕ). Going (record { entries = w.entries; estimate = w.estimate; tick = w.tick + t; since = s; items = w.items + 1 }) c.args.slip) c.from.ensures (c.count.ensures.value ∙ c.in-Some.ensures.later.0))

pub returns-after-loosely-clause-taken : goal.returns-after-loosely-clause-taken
returns-after-loosely-clause-taken g c d own =
    let w = c.args.self in
    let e = c.wait.ensures in
    let verdict : c.if-loosely.verdict ≡ cond c.in-Broken.loosely Fail Inconclusive = elim c.if-loosely.branch [ then-loosely x ↦ search rules | else-loosely x ↦ search rules ] in
    wait_taken g.met.T.TimeKind.laws w c.args.slip c.args.ticks c.args.store.now c.wait.new.store e.left_alone e.same_store c.requires.range c.requires.below d own c.in-Some.w.count c.in-Some.ensures.later.0 (Broken c.in-Broken.at c.in-Broken.loosely) c.in-Broken.ensures.waits c.end.result
    (c.end.ensures.ended ∙ ap₂ (λ (v : Verdict) (t : ℕ). Ended (record { verdict = v; cause = BrokenWait; count = w.items + 1; tick = t + c.in-Broken.at })) verdict c.saturating_sub.ensures)

pub returns-in-Overrun-clause-taken : goal.returns-in-Overrun-clause-taken
returns-in-Overrun-clause-taken g c d own =
    let e = c.wait.ensures in
    wait_taken g.met.T.TimeKind.laws c.args.self c.args.slip c.args.ticks c.args.store.now c.wait.new.store e.left_alone e.same_store c.requires.range c.requires.below d own c.in-Some.w.count c.in-Some.ensures.later.0 Overrun c.in-Overrun.ensures.waits c.overrun-in-Overrun.result c.overrun-in-Overrun.ensures.ended
