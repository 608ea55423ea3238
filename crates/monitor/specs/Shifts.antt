-- Shifts: calls on one watch whose steps are the very relations that the calls promise, and what is said of all of them.
use Rattle.std.specs.Prelude.{◌≡◌, ℕ, ◌+◌, ◌<◌, ◌≤◌, Bool, true, false, ◌⊎◌, ◌↔◌, List, [], ◌∷◌, ◌++◌, length, ℤ, Ok}
use Rattle.std.specs.List.{AllByRecursion}
use Rattle.source.specs.declared.Item.{Item}
use Rattle.source.specs.declared.Item.TheVariants.{Wait, See}
use Rattle.model.specs.declared.ChannelKind.TheVariants.{Output}
use Rattle.model.specs.Model.{Model}
use Rattle.network.specs.declared.Network.{Network}
use Rattle.network.specs.Networks.{model_of}
use Rattle.report.specs.declared.Verdict.TheVariants.{Pass, Fail}
use Rattle.report.specs.declared.Cause.TheVariants.{BrokenSee, BrokenWait, Overrun}
use Rattle.report.specs.declared.Report.{Report}
use Rattle.runs.specs.Kinds.{Kind, kind}
use Rattle.runs.specs.Moves.{channel_at}
use Rattle.runs.specs.Traces.{ticks, sees, HasTrace, LooselyTo, BreakTick}
use Rattle.runs.specs.Growth.{Entries, GrowsIn, Overruns, OverrunsSeeing}
use Rattle.runs.specs.Estimates.{Latest}
use Rattle.monitor.specs.declared.fault.WatchFault.{WatchFault}
use Rattle.monitor.specs.declared.watch.Watch.{Watch}
use Rattle.monitor.specs.declared.watch.Slip.{Slip}
use Rattle.monitor.specs.declared.watch.Reply.TheVariants.{Going, Ended, Refused}
use Rattle.monitor.specs.Replies.{most}
use Rattle.monitor.specs.Rows.{estimate_of, room}
use Rattle.monitor.specs.Calls.{Visible, Opens, Closes}
use Rattle.monitor.specs.Following.{Answer, Takes, stopping, Gives, at_end, at_fault, goes_on, ends, refuses, Follows, follow_without_rows, follows}

-- where a shift stands
pub data Stage (B : Type 0) : Type 0 where
  -- its watch is open, with this slip, over these rows
  standing : Watch → Slip → List B → List ℕ → Stage B
  -- it was closed: by close, or by a follow that met its source's end
  closed : Report → Stage B
  -- it ended otherwise: at a break or an overrun, or in a follow at its source's fault or a refused item
  broken_off : Report → Stage B

-- ---- the calls of a shift

module _ {B : Type 0} (had : ℕ → Type 0) (admits : B → ℕ → ℤ → Type 0) (reach : B → ℕ) (N : Model) (d : B) where
  -- the items that a follow took: one at which it broke or overran too, none that was refused
  abbrev pub taken : {ending : Bool} {y : Answer} {bs' : List B} {ls' : List ℕ} {w : Watch} {s : Slip} {bs : List B} {ls : List ℕ} {is : List Item} → Gives had admits reach N d ending y bs' ls' w s bs ls is → List Item
  taken (at_end e r c a u) = []
  taken (at_fault e a u) = []
  taken (goes_on i x g) = i ∷ taken g
  taken (ends i r x a) = i ∷ []
  taken (refuses i w' s' fault x a) = []

  -- and where it left the shift: closed exactly where it met the end
  abbrev pub leaves : {ending : Bool} {y : Answer} {bs' : List B} {ls' : List ℕ} {w : Watch} {s : Slip} {bs : List B} {ls : List ℕ} {is : List Item} → Gives had admits reach N d ending y bs' ls' w s bs ls is → Stage B
  leaves (at_end e r c a u) = closed r
  leaves (at_fault {w = w} e a u) = broken_off (stopping w)
  leaves (goes_on i x g) = leaves g
  leaves (ends i r x a) = broken_off r
  leaves (refuses i w' s' fault x a) = broken_off (stopping w')

  -- the same of a follow that may itself be refused
  abbrev pub followed : {w : Watch} {s : Slip} {bs : List B} {ls : List ℕ} {is : List Item} {ending : Bool} {y : Answer} {bs' : List B} {ls' : List ℕ} → Follows had admits reach N d w s bs ls is ending y bs' ls' → List Item
  followed (follow_without_rows h a u) = []
  followed (follows h g) = taken g

  -- and where that left the shift
  abbrev pub follow_leaves : {w : Watch} {s : Slip} {bs : List B} {ls : List ℕ} {is : List Item} {ending : Bool} {y : Answer} {bs' : List B} {ls' : List ℕ} → Follows had admits reach N d w s bs ls is ending y bs' ls' → Stage B
  follow_leaves {w} {s} {bs} {ls} {is} {ending} {y} {bs'} {ls'} (follow_without_rows h a u) = standing w s bs' ls'
  follow_leaves (follows h g) = leaves g

  -- a shift with this trace, and where it stands: an open that is not refused, over any rows, and calls on its watch, network and rows, each on what the one before left
  pub data Shift : List Item → Stage B → Type 0 where
    -- the open
    shift_opens : (bs : List B) (ls : List ℕ) (entries : ℕ) (w : Watch) (s : Slip) (bs' : List B) (ls' : List ℕ) → Opens had admits reach N d bs ls entries (Ok (w, s)) bs' ls' → Shift [] (standing w s bs' ls')
    -- a wait or see that goes on
    shift_goes_on : {t : List Item} {w : Watch} {s : Slip} {bs : List B} {ls : List ℕ} → Shift t (standing w s bs ls) → (i : Item) (w' : Watch) (s' : Slip) (bs' : List B) (ls' : List ℕ) → Takes had admits reach N d w s bs ls i (Going w' s') bs' ls' → Shift (t ++ (i ∷ [])) (standing w' s' bs' ls')
    -- one that breaks or overruns
    shift_ends : {t : List Item} {w : Watch} {s : Slip} {bs : List B} {ls : List ℕ} → Shift t (standing w s bs ls) → (i : Item) (r : Report) (bs' : List B) (ls' : List ℕ) → Takes had admits reach N d w s bs ls i (Ended r) bs' ls' → Shift (t ++ (i ∷ [])) (broken_off r)
    -- one that is refused is no item of the trace
    shift_refuses : {t : List Item} {w : Watch} {s : Slip} {bs : List B} {ls : List ℕ} → Shift t (standing w s bs ls) → (i : Item) (w' : Watch) (s' : Slip) (fault : WatchFault) (bs' : List B) (ls' : List ℕ) → Takes had admits reach N d w s bs ls i (Refused w' s' fault) bs' ls' → Shift t (standing w' s' bs' ls')
    -- a close
    shift_closes : {t : List Item} {w : Watch} {s : Slip} {bs : List B} {ls : List ℕ} → Shift t (standing w s bs ls) → (r : Report) → Closes w r → Shift t (closed r)
    -- a follow, to whatever it comes
    shift_follows : {t : List Item} {w : Watch} {s : Slip} {bs : List B} {ls : List ℕ} → Shift t (standing w s bs ls) → (is : List Item) (ending : Bool) (y : Answer) (bs' : List B) (ls' : List ℕ) (f : Follows had admits reach N d w s bs ls is ending y bs' ls') → Shift (t ++ followed f) (follow_leaves f)

  -- ---- growth that fits

  -- every entry to be added by the wait or see has a place: by a wait's growth, and if it breaks by the loose growth to the break tick; by a see's growth, and by its results
  abbrev pub FitsItem : Watch → List B → List ℕ → Item → Type 0
  FitsItem w bs ls (Wait ticks) =
      ¬ (Overruns (kind B had admits) N false (w.since + ticks) (estimate_of had admits reach N d w bs ls) (room w)) ×
      ((G : Entries (kind B had admits) N) (latest : ℕ) → GrowsIn (kind B had admits) N false (w.since + ticks) (estimate_of had admits reach N d w bs ls) (room w) G → Latest (kind B had admits) N G latest → latest < w.since + ticks → ¬ (Overruns (kind B had admits) N true (latest + 1) (estimate_of had admits reach N d w bs ls) (room w)))
  FitsItem w bs ls (See k) = ¬ (OverrunsSeeing (kind B had admits) N k w.since (estimate_of had admits reach N d w bs ls) (room w))

  -- so has every entry to be added in a follow
  abbrev pub FitsGives : {ending : Bool} {y : Answer} {bs' : List B} {ls' : List ℕ} {w : Watch} {s : Slip} {bs : List B} {ls : List ℕ} {is : List Item} → Gives had admits reach N d ending y bs' ls' w s bs ls is → Type 0
  FitsGives (at_end e r c a u) = Unit {0}
  FitsGives (at_fault e a u) = Unit {0}
  FitsGives (goes_on {w = w} {bs = bs} {ls = ls} i x g) = FitsItem w bs ls i × FitsGives g
  FitsGives (ends {w = w} {bs = bs} {ls = ls} i r x a) = FitsItem w bs ls i
  FitsGives (refuses i w' s' fault x a) = Unit {0}

  -- a follow that is itself refused adds none
  abbrev pub FitsFollow : {w : Watch} {s : Slip} {bs : List B} {ls : List ℕ} {is : List Item} {ending : Bool} {y : Answer} {bs' : List B} {ls' : List ℕ} → Follows had admits reach N d w s bs ls is ending y bs' ls' → Type 0
  FitsFollow (follow_without_rows h a u) = Unit {0}
  FitsFollow (follows h g) = FitsGives g

  -- and in a shift; what is refused adds none
  abbrev pub Fits : {t : List Item} {stage : Stage B} → Shift t stage → Type 0
  Fits (shift_opens bs ls entries w s bs' ls' o) = Unit {0}
  Fits (shift_goes_on {w = w} {bs = bs} {ls = ls} h i w' s' bs' ls' x) = Fits h × FitsItem w bs ls i
  Fits (shift_ends {w = w} {bs = bs} {ls = ls} h i r bs' ls' x) = Fits h × FitsItem w bs ls i
  Fits (shift_refuses h i w' s' fault bs' ls' x) = Fits h
  Fits (shift_closes h r c) = Fits h
  Fits (shift_follows h is ending y bs' ls' f) = Fits h × FitsFollow f

-- ---- what is said of where a shift stands

module _ {B : Type 0} where
  -- it has ended with the report r
  abbrev pub Reports : Stage B → Report → Type 0
  Reports (standing w s bs ls) r = ⊥
  Reports (closed q) r = q ≡ r
  Reports (broken_off q) r = q ≡ r

  -- it was closed
  abbrev pub IsClosed : Stage B → Type 0
  IsClosed (standing w s bs ls) = ⊥
  IsClosed (closed r) = Unit {0}
  IsClosed (broken_off r) = ⊥

  -- no call has answered an overrun: only the last could
  abbrev pub NoOverrun : Stage B → Type 0
  NoOverrun stage = (r : Report) → Reports stage r → ¬ (r.cause ≡ Overrun)

  -- it was ended by a break
  pub record Broke (stage : Stage B) : Type 0 where
    pub report : Report
    pub reports : Reports stage report
    pub cause : (report.cause ≡ BrokenSee) ⊎ (report.cause ≡ BrokenWait)

  -- it is given the trace t, where its own is u: it takes the items of t in order and no others, to a break, or all of them and is closed
  pub data Given (t u : List Item) (stage : Stage B) : Type 0 where
    to_a_break : (rest : List Item) → t ≡ u ++ rest → Broke stage → Given t u stage
    to_the_end : t ≡ u → IsClosed stage → Given t u stage

-- two reports say the same, but for how many items were counted
pub record SameReport (r r' : Report) : Type 0 where
  pub verdict : r.verdict ≡ r'.verdict
  pub cause : r.cause ≡ r'.cause
  pub tick : r.tick ≡ r'.tick

-- ---- by runs

module _ (K : Kind) (N : Model) where
  -- a break at the item i, after the trace t, is the system's fault: at a see of an output, or at a wait whose break tick a loose run reaches
  abbrev pub Blames : List Item → Item → Type 0
  Blames t (See k) = channel_at N k ≡ Output
  Blames t (Wait d) = (b : ℕ) × BreakTick K N t b × LooselyTo K N t b

  module _ {B : Type 0} (t : List Item) (stage : Stage B) where
    -- a shift with the trace t broke at its last item, and by the system's fault
    pub record FailedBy : Type 0 where
      pub broke : Broke stage
      pub before : List Item
      pub item : Item
      pub split : t ≡ before ++ (item ∷ [])
      pub blames : Blames before item

    -- where a shift with the trace t broke, and what it reports, is as the runs say
    pub record ByRuns : Type 0 where
      -- an item of the trace breaks it exactly when no run has the trace up to and with that item
      pub breaks : (before after : List Item) (i : Item) → t ≡ before ++ (i ∷ after) → (Broke stage × (after ≡ [])) ↔ (¬ (HasTrace K N (before ++ (i ∷ []))))
      -- it fails exactly when it broke by the system's fault
      pub fails : (r : Report) → Reports stage r → (r.verdict ≡ Fail) ↔ FailedBy
      -- it passes exactly when it was closed and some run has its trace
      pub passes : (r : Report) → Reports stage r → (r.verdict ≡ Pass) ↔ (IsClosed stage × HasTrace K N t)
      -- the tick of a broken wait is the break tick of the trace before it
      pub tick : (r : Report) → Reports stage r → r.cause ≡ BrokenWait → (before : List Item) (i : Item) → t ≡ before ++ (i ∷ []) → BreakTick K N before r.tick

-- a see names an input or an output
abbrev pub Names : Model → Item → Type 0
Names N (Wait d) = Unit {0}
Names N (See k) = Visible N k

-- it names inputs and outputs of the network only, and has no more items and ticks than a watch may take
pub record LawfulTrace (N : Model) (t : List Item) : Type 0 where
  pub named : AllByRecursion (Names N) t
  pub items : length t ≤ most
  pub waited : ticks t ≤ most

-- ---- of a kind of time

module _ {B : Type 0} (had : ℕ → Type 0) (admits : B → ℕ → ℤ → Type 0) (reach : B → ℕ) where
  -- of every shift whose growth fits: break, fail, pass and the break tick are as the runs say
  abbrev pub VerdictsByRuns : Type 0
  VerdictsByRuns =
      (network : Network) (d : B) (t : List Item) (stage : Stage B) (h : Shift had admits reach (model_of network) d t stage) → Fits had admits reach (model_of network) d h → ByRuns (kind B had admits) (model_of network) t stage

  -- it changes nothing how waits are cut: two lawful traces see the same channels in order, with equal ticks before each and in all; two shifts are each given one of them, whatever their rows and their counts of entries, and the growth of both fits; then both report the same verdict, cause and tick
  abbrev pub WordsDecide : Type 0
  WordsDecide =
      (network : Network) (t t' : List Item) → LawfulTrace (model_of network) t → LawfulTrace (model_of network) t' → sees t ≡ sees t' → ticks t ≡ ticks t' →
      (d d' : B) (u u' : List Item) (stage stage' : Stage B) (h : Shift had admits reach (model_of network) d u stage) (h' : Shift had admits reach (model_of network) d' u' stage') → Fits had admits reach (model_of network) d h → Fits had admits reach (model_of network) d' h' → Given t u stage → Given t' u' stage' →
      (r r' : Report) → Reports stage r → Reports stage' r' → SameReport r r'

  -- the growth of a shift fits exactly when no call of it answers an overrun
  abbrev pub FitsByCause : Type 0
  FitsByCause =
      (network : Network) (d : B) (t : List Item) (stage : Stage B) (h : Shift had admits reach (model_of network) d t stage) → Fits had admits reach (model_of network) d h ↔ (NoOverrun stage)

  -- what any shift reports counts the items of its trace, one at which it broke or overran too
  abbrev pub CountsItems : Type 0
  CountsItems =
      (network : Network) (d : B) (t : List Item) (stage : Stage B) → Shift had admits reach (model_of network) d t stage → (r : Report) → Reports stage r → r.count ≡ length t
