-- The refusals that a run may come to, and the texts that it writes.
use Rattle.std.specs.Prelude.{ℕ, List, Option, Some, None, Result, Ok, Err}
use Rattle.examine.specs.Answers.{fault_document, fault_rule, fault_place}
use Rattle.monitor.specs.Replies.{fault_values}
use Rattle.monitor.specs.declared.fault.WatchFault.{WatchFault}
use Rattle.monitor.specs.declared.follow.Stop.{Stop}
use Rattle.monitor.specs.declared.follow.Stop.TheVariants.{Source, Item}
use Rattle.report.specs.Line.{refusal_text, report_text}
use Rattle.report.specs.declared.Document.TheVariants.{Sheet as SheetWord, Watch as WatchWord}
use Rattle.report.specs.declared.Refusal.{Refusal}
use Rattle.report.specs.declared.Report.{Report}
use Rattle.source.specs.declared.recorded.RecordingFault.{RecordingFault}
use Rattle.examine.specs.declared.Fault.TheVariants.{TooLong, Recording}
use Rattle.judge.specs.declared.Fault.{Fault}
use Rattle.judge.specs.declared.Fault.TheVariants.{Files, Watch}

abbrev pub sheet_refusal : ℕ → ℕ → Refusal
sheet_refusal rule place = record { document = SheetWord; number = rule; place = place }

abbrev pub watch_refusal : WatchFault → Refusal
watch_refusal fault = record { document = WatchWord; number = (fault_values fault).0; place = (fault_values fault).1 }

-- ---- of the faults of a run

-- the fault that a stopped follow comes to, whole
abbrev pub fault_of : Stop RecordingFault → Fault
fault_of (Source fault) = Files (Recording fault)
fault_of (Item fault) = Watch fault

abbrev pub refusal_of : Fault → Refusal
refusal_of (Files fault) = record { document = fault_document fault; number = fault_rule fault; place = fault_place fault }
refusal_of (Watch fault) = watch_refusal fault

-- a file is too long: the place is the length that it may have
abbrev pub too_long_refusal : Refusal
too_long_refusal = refusal_of (Files TooLong)

abbrev pub recording_refusal : RecordingFault → Refusal
recording_refusal fault = refusal_of (Files (Recording fault))

-- a refusal alone, or a report and the refusal that stands beside it
abbrev pub text_of : Result (Report × Option Fault) Fault → List ℕ
text_of (Ok (report, None)) = report_text report None
text_of (Ok (report, Some fault)) = report_text report (Some (refusal_of fault))
text_of (Err fault) = refusal_text (refusal_of fault)
