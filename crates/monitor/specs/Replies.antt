-- What calls answer: each case by its number and its values, and watches and reports by name.
use Rattle.std.specs.Prelude.{◌≡◌, ℕ, ◌+◌, ◌-◌, Bool, false, cond}
use Rattle.model.specs.declared.ChannelKind.{ChannelKind}
use Rattle.model.specs.declared.ChannelKind.TheVariants.{Input, Output, Hidden}
use Rattle.report.specs.declared.Verdict.{Verdict}
use Rattle.report.specs.declared.Verdict.TheVariants.{Pass, Fail, Inconclusive}
use Rattle.report.specs.declared.Cause.TheVariants.{Closed, BrokenSee, BrokenWait, Overrun}
use Rattle.report.specs.declared.Document.TheVariants.{Watch as WatchWord}
use Rattle.report.specs.declared.Refusal.{Refusal}
use Rattle.report.specs.declared.Report.{Report}
use Rattle.monitor.specs.declared.fault.WatchFault.{WatchFault}
use Rattle.monitor.specs.declared.fault.WatchFault.TheVariants.{Rows, Channel, Range}
use Rattle.monitor.specs.declared.growing.Waited.{Waited}
use Rattle.monitor.specs.declared.growing.Waited.TheVariants as outcome
use Rattle.monitor.specs.declared.watch.Watch.{Watch}
use Rattle.monitor.specs.declared.watch.Slip.{Slip}
use Rattle.monitor.specs.declared.watch.Reply.{Reply}
use Rattle.monitor.specs.declared.watch.Reply.TheVariants.{Going, Ended}

-- the most ticks that a watch may reach, and the most items that it may take
abbrev pub most : ℕ
most = 1_000_000_000_000

-- ---- refusals: the number of each, and its place, the items taken so far

abbrev pub fault_values : WatchFault → ℕ × ℕ
fault_values (Rows items) = (8, items)
fault_values (Channel items) = (9, items)
fault_values (Range items) = (10, items)

abbrev pub Refuses : WatchFault → Refusal → Type 0
Refuses fault refusal = (refusal.document ≡ WatchWord) × (refusal.number ≡ (fault_values fault).0) × (refusal.place ≡ (fault_values fault).1)

-- ---- watches

abbrev pub opened : ℕ → Watch
opened entries = record { entries = entries; estimate = 1; tick = 0; since = 0; items = 0 }

-- after a wait of so many ticks that it went through
abbrev pub waited : Watch → ℕ → Watch
waited w ticks = record { entries = w.entries; estimate = w.estimate; tick = w.tick + ticks; since = w.since + ticks; items = w.items + 1 }

-- after a see that left so many entries
abbrev pub seen : Watch → ℕ → Watch
seen w count = record { entries = w.entries; estimate = count; tick = w.tick; since = 0; items = w.items + 1 }

abbrev pub unspent : Slip
unspent = record { spent = false }

-- ---- reports

abbrev pub closing : Watch → Report
closing w = record { verdict = Pass; cause = Closed; count = w.items; tick = w.tick }

-- an overrun, at an item that counts
abbrev pub overrunning : Watch → Report
overrunning w = record { verdict = Inconclusive; cause = Overrun; count = w.items + 1; tick = w.tick }

-- a broken wait, at the break tick, so many ticks after the last see; fail where a loose run reaches it
abbrev pub breaking_wait : Watch → ℕ → Bool → Report
breaking_wait w at loosely = record { verdict = cond loosely Fail Inconclusive; cause = BrokenWait; count = w.items + 1; tick = w.tick - w.since + at }

abbrev pub see_verdict : ChannelKind → Verdict
see_verdict Input = Inconclusive
see_verdict Output = Fail
see_verdict Hidden = Inconclusive

-- a broken see, of a channel of this kind
abbrev pub breaking_see : Watch → ChannelKind → Report
breaking_see w kind = record { verdict = see_verdict kind; cause = BrokenSee; count = w.items + 1; tick = w.tick }

-- ---- replies

-- to a wait, by what the estimate came to
abbrev pub wait_reply : Watch → Slip → ℕ → Waited → Reply
wait_reply w s ticks outcome.Reached = Going (waited w ticks) s
wait_reply w s ticks (outcome.Broken at loosely) = Ended (breaking_wait w at loosely)
wait_reply w s ticks outcome.Overrun = Ended (overrunning w)
