-- What each answer is called in a line.
use Rattle.std.specs.Prelude.{ℕ, List, codes}
use Rattle.report.specs.declared.Verdict.{Verdict}
use Rattle.report.specs.declared.Verdict.TheVariants.{Pass, Fail, Inconclusive}
use Rattle.report.specs.declared.Document.{Document}
use Rattle.report.specs.declared.Document.TheVariants.{Program, Sheet, Recording, Watch}
use Rattle.report.specs.declared.Cause.{Cause}
use Rattle.report.specs.declared.Cause.TheVariants.{Closed, BrokenSee, BrokenWait, Overrun, Refused}

abbrev pub verdict_word : Verdict → List ℕ
verdict_word Pass = codes "pass"
verdict_word Fail = codes "fail"
verdict_word Inconclusive = codes "inconclusive"

abbrev pub document_word : Document → List ℕ
document_word Program = codes "program"
document_word Sheet = codes "sheet"
document_word Recording = codes "recording"
document_word Watch = codes "watch"

abbrev pub cause_number : Cause → ℕ
cause_number Closed = 0
cause_number BrokenSee = 1
cause_number BrokenWait = 2
cause_number Overrun = 3
cause_number Refused = 4
