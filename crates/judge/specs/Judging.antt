-- What the line of a run says: the first refusal of its files, or where the shift on them stands.
use Rattle.std.specs.Prelude.{◌≡◌, ℕ, ◌<◌, ◌≤◌, ◌⊎◌, ◌↔◌, List, ◌++◌, length, Option, Some, None, Result, Ok, Err}
use Rattle.wire.specs.Reading.{taken, refused}
use Rattle.model.specs.Model.{Model}
use Rattle.model.specs.Sheet.{read_sheet}
use Rattle.report.specs.Line.{refusal_text, report_text, row_of}
use Rattle.report.specs.declared.Cause.TheVariants.{Overrun}
use Rattle.report.specs.declared.Refusal.{Refusal}
use Rattle.report.specs.declared.Report.{Report}
use Rattle.source.specs.Reading.{items_at, ending_at}
use Rattle.source.specs.declared.Item.{Item}
use Rattle.source.specs.declared.recorded.RecordingFault.{RecordingFault}
use Rattle.time.specs.Whole.{whole_had, whole_admits, whole_reach}
use Rattle.time.specs.declared.whole.WholeTicks.{WholeTicks}
use Rattle.runs.specs.Kinds.{kind}
use Rattle.monitor.specs.declared.watch.Slip.{Slip}
use Rattle.monitor.specs.declared.watch.Watch.{Watch}
use Rattle.monitor.specs.Calls.{Opens}
use Rattle.monitor.specs.Following.{Answer, ended, stopped_by_source, stopped_by_item, returned, meets_end, Follows}
use Rattle.monitor.specs.Shifts.{Stage, Shift, shift_opens, shift_follows, followed, follow_leaves, Fits, Reports, IsClosed, ByRuns}
use Rattle.judge.specs.Answers.{too_long_refusal, sheet_refusal, recording_refusal, watch_refusal}

-- the refusal that stands beside the report of a follow: that of the fault behind the items, or of the item, that stopped it
abbrev pub beside : Result (Unit {0}) RecordingFault → Answer → Option Refusal
beside ending (ended r) = None
beside (Ok _) (stopped_by_source r) = None
beside (Err fault) (stopped_by_source r) = Some (recording_refusal fault)
beside ending (stopped_by_item r fault) = Some (watch_refusal fault)
beside ending (returned w s fault) = None

-- `d` stands for a bound that a row lacks
module _ (N : Model) (d : WholeTicks) (recording : List ℕ) where
  -- a watch on the network N, in whole ticks: opened for 40 entries, and then given to a follow, with the items and the ending of the recording
  pub record Course : Type 0 where
    pub bounds : List WholeTicks
    pub locations : List ℕ
    pub watch : Watch
    pub slip : Slip
    pub opened_bounds : List WholeTicks
    pub opened_locations : List ℕ
    pub opens : Opens whole_had whole_admits whole_reach N d bounds locations 40 (Ok (watch, slip)) opened_bounds opened_locations
    pub answer : Answer
    pub left_bounds : List WholeTicks
    pub left_locations : List ℕ
    pub follows : Follows whole_had whole_admits whole_reach N d watch slip opened_bounds opened_locations (items_at recording 0) (meets_end (ending_at recording 0)) answer left_bounds left_locations

  -- the items that it took, and where it stands
  abbrev pub trace_of : Course → List Item
  trace_of x = followed whole_had whole_admits whole_reach N d x.follows

  abbrev pub stage_of : Course → Stage WholeTicks
  stage_of x = follow_leaves whole_had whole_admits whole_reach N d x.follows

  -- it is a shift
  abbrev pub shift_of : (x : Course) → Shift whole_had whole_admits whole_reach N d (trace_of x) (stage_of x)
  shift_of x = shift_follows (shift_opens x.bounds x.locations 40 x.watch x.slip x.opened_bounds x.opened_locations x.opens) (items_at recording 0) (meets_end (ending_at recording 0)) x.answer x.left_bounds x.left_locations x.follows

  pub record WatchedBy (line : List ℕ) : Type 0 where
    pub course : Course
    -- the line is the report of where it stands, and the refusal that stopped it, if one did
    pub report : Report
    pub reports : Reports (stage_of course) report
    pub line_is : line ≡ row_of (report_text report (beside (ending_at recording 0) course.answer))
    -- its trace is the recording's, from the front, and all of it to its end where the shift was closed
    pub front : (rest : List Item) × (items_at recording 0 ≡ trace_of course ++ rest)
    pub whole : IsClosed (stage_of course) → (items_at recording 0 ≡ trace_of course) × (ending_at recording 0 ≡ Ok tt)
    -- its growth fits exactly when the line says no overrun, and then the verdict is by runs
    pub fits : Fits whole_had whole_admits whole_reach N d (shift_of course) ↔ (¬ (report.cause ≡ Overrun))
    pub by_runs : ¬ (report.cause ≡ Overrun) → ByRuns (kind WholeTicks whole_had whole_admits) N (trace_of course) (stage_of course)

-- so it is, whatever stands for a bound that a row lacks
abbrev pub Watched : Model → List ℕ → List ℕ → Type 0
Watched N recording line = (d : WholeTicks) → WatchedBy N d recording line

-- both files are held to their length first; then the sheet is read, to its end or its first refusal; and then its network is watched
pub data Judged (sheet recording line : List ℕ) : Type 0 where
  too_long : (16384 < length sheet) ⊎ (16384 < length recording) → line ≡ row_of (refusal_text too_long_refusal) → Judged sheet recording line
  sheet_refused : length sheet ≤ 16384 → length recording ≤ 16384 → (rule place : ℕ) → read_sheet sheet ≡ refused rule place → line ≡ row_of (refusal_text (sheet_refusal rule place)) → Judged sheet recording line
  watched : length sheet ≤ 16384 → length recording ≤ 16384 → (N : Model) → read_sheet sheet ≡ taken N (length sheet) → Watched N recording line → Judged sheet recording line
