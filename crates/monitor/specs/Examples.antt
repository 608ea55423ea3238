-- A table of example shifts, told by what the calls promise: every sequence of calls that takes such items has such a report, whatever the rows.
use Rattle.std.specs.Prelude.{◌≡◌, ℕ, Bool, true, false, List, [], ◌∷◌, negsuc, Ok, ℤ}
use Rattle.time.specs.Whole.{whole_had, whole_admits, whole_reach}
use Rattle.time.specs.Split.{split_had, split_admits, split_reach}
use Rattle.source.specs.declared.Item.{Item}
use Rattle.source.specs.declared.Item.TheVariants.{Wait, See}
use Rattle.model.specs.declared.ChannelKind.TheVariants.{Input, Output}
use Rattle.model.specs.declared.Side.TheVariants.{Environment, System}
use Rattle.model.specs.declared.Label.{Label}
use Rattle.model.specs.declared.Label.TheVariants.{Alone, Send, Receive}
use Rattle.model.specs.declared.Limit.{Limit}
use Rattle.model.specs.declared.Condition.{Condition}
use Rattle.model.specs.Model.{ModelProcess, ModelEdge, Model}
use Rattle.report.specs.declared.Verdict.{Verdict}
use Rattle.report.specs.declared.Verdict.TheVariants.{Pass, Fail, Inconclusive}
use Rattle.report.specs.declared.Cause.{Cause}
use Rattle.report.specs.declared.Cause.TheVariants.{Closed, BrokenSee, BrokenWait, Overrun}
use Rattle.report.specs.declared.Report.{Report}
use Rattle.monitor.specs.declared.watch.Watch.{Watch}
use Rattle.monitor.specs.declared.watch.Slip.{Slip}
use Rattle.monitor.specs.declared.watch.Reply.{Reply}
use Rattle.monitor.specs.declared.watch.Reply.TheVariants.{Going, Ended, Refused}
use Rattle.monitor.specs.Calls.{Opens, Waits, Sees, Closes}

-- ---- what every sequence of calls comes to

-- the reply to an item: the watch and its slip go on to what is next, or a report ends them; none is refused
abbrev pub Replied : (Report → Type 0) → Reply → (Watch → Slip → Type 0) → Type 0
Replied End (Going w s) Next = Next w s
Replied End (Ended r) Next = End r
Replied End (Refused w s fault) Next = ⊥

-- each item is given to a wait or a see, in order, with the watch, slip and rows that the call before it left: a watch
-- that has taken all of them is as Left says, and one that ended at an item has a report as End says
module _ {B : Type 0} (had : ℕ → Type 0) (admits : B → ℕ → ℤ → Type 0) (reach : B → ℕ) (N : Model) (d : B) (Left : Watch → Type 0) (End : Report → Type 0) where
  abbrev pub ComesTo : List Item → Watch → Slip → List B → List ℕ → Type 0
  ComesTo [] w s bs ls = Left w
  ComesTo (Wait ticks ∷ items) w s bs ls = (r : Reply) (bs' : List B) (ls' : List ℕ) → Waits had admits reach N d w s bs ls ticks r bs' ls' → Replied End r (λ w' s'. ComesTo items w' s' bs' ls')
  ComesTo (See k ∷ items) w s bs ls = (r : Reply) (bs' : List B) (ls' : List ℕ) → Sees had admits reach N d w s bs ls k r bs' ls' → Replied End r (λ w' s'. ComesTo items w' s' bs' ls')

module _ {B : Type 0} (had : ℕ → Type 0) (admits : B → ℕ → ℤ → Type 0) (reach : B → ℕ) (N : Model) where
  -- the items, and then a close where they have not ended the watch, come to this report
  abbrev pub ReportOf : B → List Item → Report → Watch → Slip → List B → List ℕ → Type 0
  ReportOf d items report = ComesTo had admits reach N d (λ w. (r : Report) → Closes w r → r ≡ report) (λ r. r ≡ report) items

  -- the items leave the watch open
  abbrev pub GoesOn : B → List Item → Watch → Slip → List B → List ℕ → Type 0
  GoesOn d items = ComesTo had admits reach N d (λ w. Unit {0}) (λ r. ⊥) items

  -- a watch that is opened with so many entries, over whatever rows
  abbrev pub EveryShift : (B → Watch → Slip → List B → List ℕ → Type 0) → ℕ → Type 0
  EveryShift X entries = (d : B) (bs : List B) (ls : List ℕ) (w : Watch) (s : Slip) (bs' : List B) (ls' : List ℕ) → Opens had admits reach N d bs ls entries (Ok (w, s)) bs' ls' → X d w s bs' ls'

  abbrev pub EveryShiftReports : ℕ → List Item → Report → Type 0
  EveryShiftReports entries items report = EveryShift (λ d. ReportOf d items report) entries

  abbrev pub EveryShiftGoesOn : ℕ → List Item → Type 0
  EveryShiftGoesOn entries items = EveryShift (λ d. GoesOn d items) entries

-- ---- the networks: one clock; an environment that sends input 0, and a system that then sends output 1

-- the clock is at most, or where strict less than, so many ticks
abbrev pub upto : Bool → ℕ → Limit
upto strict ticks = record { clock = 1; strict = strict; ticks = ticks }

-- the clock is at least, or where strict more than, so many ticks: zero less the clock is at most, or less than, minus that
abbrev pub from : Bool → ℤ → Condition
from strict minus = record { left = 0; right = 1; strict = strict; ticks = minus }

abbrev pub edge : ℕ → ℕ → ℕ → Label → List Condition → ℕ → ModelEdge
edge process here there label conditions resets = record { process = process; from = here; to = there; label = label; conditions = conditions; resets = resets }

abbrev pub one_clock : List ModelProcess → List ModelEdge → Model
one_clock processes edges = record { head = record { clocks = 1; channels = Input ∷ Output ∷ []; processes = processes }; edges = edges }

abbrev pub environment : List (List Limit) → ModelProcess
environment locations = record { side = Environment; locations = locations }

abbrev pub system : List (List Limit) → ModelProcess
system locations = record { side = System; locations = locations }

-- 0 is received with a reset; while the system has it the clock is at most 5, and 1 is sent when it is at least 3
abbrev pub bell : Model
bell =
    one_clock
    (environment ([] ∷ []) ∷ system ([] ∷ (upto false 5 ∷ []) ∷ []) ∷ [])
    (edge 0 0 0 (Send 0) [] 0 ∷ edge 0 0 0 (Receive 1) [] 0 ∷ edge 1 0 1 (Receive 0) [] 1 ∷ edge 1 1 0 (Send 1) (from false (negsuc 2) ∷ []) 0 ∷ [])

-- sending 0 takes the environment to a location where the clock is at most 4
abbrev pub gentle_bell : Model
gentle_bell =
    one_clock
    (environment ([] ∷ (upto false 4 ∷ []) ∷ []) ∷ system ([] ∷ (upto false 5 ∷ []) ∷ []) ∷ [])
    (edge 0 0 1 (Send 0) [] 0 ∷ edge 0 0 0 (Receive 1) [] 0 ∷ edge 0 1 1 (Receive 1) [] 0 ∷ edge 1 0 1 (Receive 0) [] 1 ∷ edge 1 1 0 (Send 1) (from false (negsuc 2) ∷ []) 0 ∷ [])

-- the system's clock is less than 4, and when it is more than 3 an edge alone leads to a location that sends 1
abbrev pub tight_bell : Model
tight_bell =
    one_clock
    (environment ([] ∷ []) ∷ system ([] ∷ (upto true 4 ∷ []) ∷ [] ∷ []) ∷ [])
    (edge 0 0 0 (Send 0) [] 0 ∷ edge 0 0 0 (Receive 1) [] 0 ∷ edge 1 0 1 (Receive 0) [] 1 ∷ edge 1 1 2 Alone (from true (negsuc 2) ∷ []) 0 ∷ edge 1 2 0 (Send 1) (from false (negsuc 2) ∷ []) 0 ∷ [])

-- ---- the table

abbrev pub report : Verdict → Cause → ℕ → ℕ → Report
report verdict cause count tick = record { verdict = verdict; cause = cause; count = count; tick = tick }

abbrev pub InWhole : Model → ℕ → List Item → Report → Type 0
InWhole = EveryShiftReports whole_had whole_admits whole_reach

abbrev pub InSplit : Model → ℕ → List Item → Report → Type 0
InSplit = EveryShiftReports split_had split_admits split_reach

abbrev pub ClosedAtOnce : Type 0
ClosedAtOnce = InWhole bell 40 [] (report Pass Closed 0 0)

abbrev pub AnsweredInTime : Type 0
AnsweredInTime = InWhole bell 40 (See 0 ∷ Wait 5 ∷ See 1 ∷ []) (report Pass Closed 3 5)

abbrev pub AnsweredTooEarly : Type 0
AnsweredTooEarly = InWhole bell 40 (See 0 ∷ Wait 2 ∷ See 1 ∷ []) (report Fail BrokenSee 3 2)

abbrev pub NeverAnswered : Type 0
NeverAnswered = InWhole bell 40 (See 0 ∷ Wait 3 ∷ Wait 3 ∷ []) (report Fail BrokenWait 3 6)

abbrev pub AnsweredUnasked : Type 0
AnsweredUnasked = InWhole bell 40 (See 1 ∷ []) (report Fail BrokenSee 1 0)

abbrev pub AskedTwice : Type 0
AskedTwice = InWhole bell 40 (See 0 ∷ See 0 ∷ []) (report Inconclusive BrokenSee 2 0)

abbrev pub EnvironmentStops : Type 0
EnvironmentStops = InWhole gentle_bell 40 (See 0 ∷ Wait 5 ∷ []) (report Inconclusive BrokenWait 2 5)

abbrev pub BetweenTicksInWhole : Type 0
BetweenTicksInWhole = InWhole tight_bell 40 (See 0 ∷ Wait 4 ∷ []) (report Fail BrokenWait 2 4)

abbrev pub BetweenTicksInSplit : Type 0
BetweenTicksInSplit = InSplit tight_bell 40 (See 0 ∷ Wait 4 ∷ See 1 ∷ []) (report Pass Closed 3 4)

abbrev pub TwoEntriesOverrun : Type 0
TwoEntriesOverrun = InWhole bell 2 (See 0 ∷ []) (report Inconclusive Overrun 1 0)

abbrev pub ThreeEntriesGoOn : Type 0
ThreeEntriesGoOn = EveryShiftGoesOn whole_had whole_admits whole_reach bell 3 (See 0 ∷ [])

abbrev pub ExampleShifts : Type 0
ExampleShifts =
    ClosedAtOnce × AnsweredInTime × AnsweredTooEarly × NeverAnswered × AnsweredUnasked × AskedTwice × EnvironmentStops × BetweenTicksInWhole × BetweenTicksInSplit × TwoEntriesOverrun × ThreeEntriesGoOn
