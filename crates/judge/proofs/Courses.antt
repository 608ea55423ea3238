-- Courses: what the opening and the follow of one say of its line.
use Rattle.std.proofs.Common.{◌≡◌, ℕ, ◌*◌, ◌≤◌, Bool, true, ◌↔◌, List, [], ◌∷◌, ◌++◌, length, ℤ, Some, sym, refl, ap, ◌∙◌, subst, arith}
use Rattle.std.specs.Prelude.{Result, Ok, Err}
use Rattle.std.proofs.lemmas.Nat.{mul-le}
use Rattle.model.specs.Model.{Model}
use Rattle.model.specs.Sound.{Sound}
use Rattle.network.specs.declared.Network.{Network}
use Rattle.network.specs.Networks.{model_of}
use Rattle.report.specs.Line.{report_text, row_of}
use Rattle.report.specs.declared.Cause.TheVariants.{Overrun}
use Rattle.report.specs.declared.Report.{Report}
use Rattle.source.specs.Reading.{items_at, ending_at}
use Rattle.source.specs.declared.Item.{Item}
use Rattle.source.specs.declared.recorded.RecordingFault.{RecordingFault}
use Rattle.time.specs.Whole.{whole_had, whole_admits, whole_reach}
use Rattle.time.specs.declared.whole.WholeTicks.{WholeTicks}
use Rattle.runs.specs.Moves.{side}
use Rattle.monitor.specs.declared.fault.WatchFault.{WatchFault}
use Rattle.monitor.specs.declared.follow.Stop.{Stop}
use Rattle.monitor.specs.declared.follow.Stop.TheVariants as why
use Rattle.monitor.specs.declared.watch.Slip.{Slip}
use Rattle.monitor.specs.declared.watch.Watch.{Watch}
use Rattle.monitor.specs.Replies.{opened, unspent}
use Rattle.monitor.specs.Rows.{HasRows}
use Rattle.monitor.specs.Calls.{Opens, open_refused, opens}
use Rattle.monitor.specs.Following.{Answer, ended, stopped_by_source, stopped_by_item, returned, stopped, meets_end, IsFault, Gives, at_end, at_fault, goes_on, ends, refuses, Follows, follow_without_rows, follows}
use Rattle.monitor.specs.Shifts.{Stage, standing, closed, broken_off, taken, leaves, followed, follow_leaves, Reports, IsClosed, NoOverrun, VerdictsByRuns, FitsByCause}
use Rattle.judge.specs.declared.Fault.{Fault}
use Rattle.judge.specs.Answers.{fault_of, refusal_of}
use Rattle.judge.specs.Judging.{beside, Course, trace_of, stage_of, shift_of, WatchedBy}

-- the rows of a judge hold forty entries of any sound network
few_clocks : (s : ℕ) → s ≤ 10 → s * s ≤ 100
few_clocks s h = mul-le s s 10 10 h h

pub rows_enough : {B : Type 0} (N : Model) → Sound N → (bs : List B) (ls : List ℕ) → length bs ≡ 4100 → length ls ≡ 320 → HasRows N 40 bs ls
unfolding Sound
rows_enough N sound bs ls long wide = record {
  some = omega arith;
  few = omega arith;
  bounds = (let few : side N * side N ≤ 100 = few_clocks (side N) (omega (arith, sound.0.0)) in omega (arith, few, long));
  locations = omega (arith, wide);
}

-- a report that an answer gives
abbrev pub Gave : Answer → Report → Type 0
Gave (ended q) r = q ≡ r
Gave (stopped_by_source q) r = q ≡ r
Gave (stopped_by_item q fault) r = q ≡ r
Gave (returned w s fault) r = ⊥

module _ {B : Type 0} (had : ℕ → Type 0) (admits : B → ℕ → ℤ → Type 0) (reach : B → ℕ) (N : Model) (d : B) where
  -- an opened watch has its rows
  pub opened_rows : (bs : List B) (ls : List ℕ) (entries : ℕ) (w : Watch) (s : Slip) (bs' : List B) (ls' : List ℕ) → Opens had admits reach N d bs ls entries (Ok (w, s)) bs' ls' → HasRows N w.entries bs' ls'
  opened_rows bs ls entries w s bs' ls' (open_refused h e u) = absurd (let no : ⊥ = cc in no)
  opened_rows bs ls entries w s bs' ls' (opens h e z b a) = subst (λ (x : Watch). HasRows N x.entries bs' ls') (let same : (w, s) ≡ (opened entries, unspent) = cc in sym (ap (λ (p : Watch × Slip). p.0) same)) b.rows

  -- over rows that are long enough no opening is refused
  pub no_open_refused : (bs : List B) (ls : List ℕ) (entries : ℕ) (fault : WatchFault) (bs' : List B) (ls' : List ℕ) → Opens had admits reach N d bs ls entries (Err fault) bs' ls' → HasRows N entries bs ls → ⊥
  no_open_refused bs ls entries fault bs' ls' (open_refused h e u) rows = h rows
  no_open_refused bs ls entries fault bs' ls' (opens h e z b a) rows = cc

  -- what a follow answers is where it leaves its shift
  gave_left : (ending : Bool) (y : Answer) (bs' : List B) (ls' : List ℕ) (w : Watch) (s : Slip) (bs : List B) (ls : List ℕ) (is : List Item) (g : Gives had admits reach N d ending y bs' ls' w s bs ls is) (r : Report) → Gave y r → Reports (leaves had admits reach N d g) r
  gave_left ending y bs' ls' w s bs ls is (at_end e q c a u) r h = subst (λ z. Gave z r) a h
  gave_left ending y bs' ls' w s bs ls is (at_fault e a u) r h = subst (λ z. Gave z r) a h
  gave_left ending y bs' ls' w s bs ls is (goes_on {w' = w₁} {s' = s₁} {bs' = bs₁} {ls' = ls₁} {is = js} i x g) r h = gave_left ending y bs' ls' w₁ s₁ bs₁ ls₁ js g r h
  gave_left ending y bs' ls' w s bs ls is (ends i q x a) r h = subst (λ z. Gave z r) a h
  gave_left ending y bs' ls' w s bs ls is (refuses i w₁ s₁ fault x a) r h = subst (λ z. Gave z r) a h

  pub follow_left : (w : Watch) (s : Slip) (bs : List B) (ls : List ℕ) (is : List Item) (ending : Bool) (y : Answer) (bs' : List B) (ls' : List ℕ) (f : Follows had admits reach N d w s bs ls is ending y bs' ls') (r : Report) → HasRows N w.entries bs ls → Gave y r → Reports (follow_leaves had admits reach N d f) r
  follow_left w s bs ls is ending y bs' ls' (follow_without_rows short a u) r rows h = absurd (short rows)
  follow_left w s bs ls is ending y bs' ls' (follows enough g) r rows h = gave_left ending y bs' ls' w s bs ls is g r h

  -- a follow takes items from the front of those to come, and all of them to the end where it closes
  gave_front : (ending : Bool) (y : Answer) (bs' : List B) (ls' : List ℕ) (w : Watch) (s : Slip) (bs : List B) (ls : List ℕ) (is : List Item) (g : Gives had admits reach N d ending y bs' ls' w s bs ls is) → (rest : List Item) × (is ≡ taken had admits reach N d g ++ rest)
  gave_front ending y bs' ls' w s bs ls is (at_end e q c a u) = ([], refl)
  gave_front ending y bs' ls' w s bs ls is (at_fault e a u) = ([], refl)
  gave_front ending y bs' ls' w s bs ls is (goes_on {w' = w₁} {s' = s₁} {bs' = bs₁} {ls' = ls₁} {is = js} i x g) =
      let f = gave_front ending y bs' ls' w₁ s₁ bs₁ ls₁ js g in
      (f.0, ap (λ us. i ∷ us) f.1)
  gave_front ending y bs' ls' w s bs ls is (ends {is = js} i q x a) = (js, refl)
  gave_front ending y bs' ls' w s bs ls is (refuses {is = js} i w₁ s₁ fault x a) = (i ∷ js, refl)

  pub follow_front : (w : Watch) (s : Slip) (bs : List B) (ls : List ℕ) (is : List Item) (ending : Bool) (y : Answer) (bs' : List B) (ls' : List ℕ) (f : Follows had admits reach N d w s bs ls is ending y bs' ls') → (rest : List Item) × (is ≡ followed had admits reach N d f ++ rest)
  follow_front w s bs ls is ending y bs' ls' (follow_without_rows short a u) = (is, refl)
  follow_front w s bs ls is ending y bs' ls' (follows enough g) = gave_front ending y bs' ls' w s bs ls is g

  gave_whole : (ending : Bool) (y : Answer) (bs' : List B) (ls' : List ℕ) (w : Watch) (s : Slip) (bs : List B) (ls : List ℕ) (is : List Item) (g : Gives had admits reach N d ending y bs' ls' w s bs ls is) → IsClosed (leaves had admits reach N d g) → (is ≡ taken had admits reach N d g) × (ending ≡ true)
  gave_whole ending y bs' ls' w s bs ls is (at_end e q c a u) k = (refl, e)
  gave_whole ending y bs' ls' w s bs ls is (at_fault e a u) k = absurd k
  gave_whole ending y bs' ls' w s bs ls is (goes_on {w' = w₁} {s' = s₁} {bs' = bs₁} {ls' = ls₁} {is = js} i x g) k =
      let f = gave_whole ending y bs' ls' w₁ s₁ bs₁ ls₁ js g k in
      (ap (λ us. i ∷ us) f.0, f.1)
  gave_whole ending y bs' ls' w s bs ls is (ends i q x a) k = absurd k
  gave_whole ending y bs' ls' w s bs ls is (refuses i w₁ s₁ fault x a) k = absurd k

  pub follow_whole : (w : Watch) (s : Slip) (bs : List B) (ls : List ℕ) (is : List Item) (ending : Bool) (y : Answer) (bs' : List B) (ls' : List ℕ) (f : Follows had admits reach N d w s bs ls is ending y bs' ls') → IsClosed (follow_leaves had admits reach N d f) → (is ≡ followed had admits reach N d f) × (ending ≡ true)
  follow_whole w s bs ls is ending y bs' ls' (follow_without_rows short a u) k = absurd k
  follow_whole w s bs ls is ending y bs' ls' (follows enough g) k = gave_whole ending y bs' ls' w s bs ls is g k

  -- over rows that are long enough no follow is refused
  gives_no_return : (ending : Bool) (y : Answer) (bs' : List B) (ls' : List ℕ) (w : Watch) (s : Slip) (bs : List B) (ls : List ℕ) (is : List Item) (g : Gives had admits reach N d ending y bs' ls' w s bs ls is) (w₀ : Watch) (s₀ : Slip) (fault : WatchFault) → y ≡ returned w₀ s₀ fault → ⊥
  gives_no_return ending y bs' ls' w s bs ls is (at_end e q c a u) w₀ s₀ fault h = cc
  gives_no_return ending y bs' ls' w s bs ls is (at_fault e a u) w₀ s₀ fault h = cc
  gives_no_return ending y bs' ls' w s bs ls is (goes_on {w' = w₁} {s' = s₁} {bs' = bs₁} {ls' = ls₁} {is = js} i x g) w₀ s₀ fault h = gives_no_return ending y bs' ls' w₁ s₁ bs₁ ls₁ js g w₀ s₀ fault h
  gives_no_return ending y bs' ls' w s bs ls is (ends i q x a) w₀ s₀ fault h = cc
  gives_no_return ending y bs' ls' w s bs ls is (refuses i w₁ s₁ fault' x a) w₀ s₀ fault h = cc

  pub no_follow_refused : (w : Watch) (s : Slip) (bs : List B) (ls : List ℕ) (is : List Item) (ending : Bool) (y : Answer) (bs' : List B) (ls' : List ℕ) (f : Follows had admits reach N d w s bs ls is ending y bs' ls') → HasRows N w.entries bs ls → (w₀ : Watch) (s₀ : Slip) (fault : WatchFault) → y ≡ returned w₀ s₀ fault → ⊥
  no_follow_refused w s bs ls is ending y bs' ls' (follow_without_rows short a u) rows w₀ s₀ fault h = short rows
  no_follow_refused w s bs ls is ending y bs' ls' (follows enough g) rows w₀ s₀ fault h = gives_no_return ending y bs' ls' w s bs ls is g w₀ s₀ fault h

ends_well : (ending : Result (Unit {0}) RecordingFault) → meets_end ending ≡ true → ending ≡ Ok tt
ends_well (Ok tt) e = refl
ends_well (Err fault) e = cc

-- where a report is given, none of an overrun is one whose cause is no overrun
no_overrun : {B : Type 0} (stage : Stage B) (r : Report) → Reports stage r → (NoOverrun stage) ↔ (¬ (r.cause ≡ Overrun))
no_overrun (standing w s bs ls) r h = absurd h
no_overrun (closed q) r h = (λ no. no r h, λ no p e. subst (λ (x : Report). ¬ (x.cause ≡ Overrun)) (sym h ∙ e) no)
no_overrun (broken_off q) r h = (λ no. no r h, λ no p e. subst (λ (x : Report). ¬ (x.cause ≡ Overrun)) (sym h ∙ e) no)

-- beside the report of a stopped follow stands the refusal of the fault that it carries
stop_beside : (ending : Result (Unit {0}) RecordingFault) (r : Report) (stop : Stop RecordingFault) → IsFault ending stop → Some (refusal_of (fault_of stop)) ≡ beside ending (stopped r stop)
stop_beside ending r (why.Source fault) e = ap (λ x. beside x (stopped_by_source r)) (sym e)
stop_beside (Ok u) r (why.Item fault) e = refl
stop_beside (Err x) r (why.Item fault) e = refl

pub gave_stopped : (r : Report) (stop : Stop RecordingFault) → Gave (stopped r stop) r
gave_stopped r (why.Source fault) = refl
gave_stopped r (why.Item fault) = refl

pub stop_from_the_first : (bytes recording : List ℕ) (at : ℕ) → bytes ≡ recording → at ≡ 0 → (r : Report) (stop : Stop RecordingFault) (fault : Fault) → fault ≡ fault_of stop → IsFault (ending_at bytes at) stop → Some (refusal_of fault) ≡ beside (ending_at recording 0) (stopped r stop)
stop_from_the_first bytes recording at same first r stop fault is carries =
    let P : List ℕ → ℕ → Type 0 = λ xs k. IsFault (ending_at xs k) stop in
    ap (λ f. Some (refusal_of f)) is ∙ stop_beside (ending_at recording 0) r stop (subst (P recording) first (subst (λ xs. P xs at) same carries))

-- a course with this report is the watch that its line tells of
course_watched : VerdictsByRuns whole_had whole_admits whole_reach → FitsByCause whole_had whole_admits whole_reach → (network : Network) (d : WholeTicks) (recording line : List ℕ) (x : Course (model_of network) d recording) (r : Report) → Gave x.answer r → line ≡ row_of (report_text r (beside (ending_at recording 0) x.answer)) → WatchedBy (model_of network) d recording line
course_watched verdicts fits_by network d recording line x r gave is =
    let N = model_of network in
    let rows = opened_rows whole_had whole_admits whole_reach N d x.bounds x.locations 40 x.watch x.slip x.opened_bounds x.opened_locations x.opens in
    let reports = follow_left whole_had whole_admits whole_reach N d x.watch x.slip x.opened_bounds x.opened_locations (items_at recording 0) (meets_end (ending_at recording 0)) x.answer x.left_bounds x.left_locations x.follows r rows gave in
    let no = no_overrun (stage_of N d recording x) r reports in
    let fit = fits_by network d (trace_of N d recording x) (stage_of N d recording x) (shift_of N d recording x) in
    record {
      course = x;
      report = r;
      reports = reports;
      line_is = is;
      front = follow_front whole_had whole_admits whole_reach N d x.watch x.slip x.opened_bounds x.opened_locations (items_at recording 0) (meets_end (ending_at recording 0)) x.answer x.left_bounds x.left_locations x.follows;
      whole = λ k. (let all = follow_whole whole_had whole_admits whole_reach N d x.watch x.slip x.opened_bounds x.opened_locations (items_at recording 0) (meets_end (ending_at recording 0)) x.answer x.left_bounds x.left_locations x.follows k in (all.0, ends_well (ending_at recording 0) all.1));
      fits = (λ f. no.0 (fit.0 f), λ o. fit.1 (no.1 o));
      by_runs = λ o. verdicts network d (trace_of N d recording x) (stage_of N d recording x) (shift_of N d recording x) (fit.1 (no.1 o));
    }

-- so is a watch that was opened for forty entries, and followed a recording that stood at its first byte
module _ (verdicts : VerdictsByRuns whole_had whole_admits whole_reach) (fits_by : FitsByCause whole_had whole_admits whole_reach) (network : Network) (d : WholeTicks) (recording bytes : List ℕ) (at : ℕ) (same : bytes ≡ recording) (first : at ≡ 0) where
  pub opened_watched : (bs bs₁ bs₂ : List WholeTicks) (ls ls₁ ls₂ : List ℕ) (w : Watch) (s : Slip) → Opens whole_had whole_admits whole_reach (model_of network) d bs ls 40 (Ok (w, s)) bs₁ ls₁ → (y : Answer) → Follows whole_had whole_admits whole_reach (model_of network) d w s bs₁ ls₁ (items_at bytes at) (meets_end (ending_at bytes at)) y bs₂ ls₂ → (r : Report) → Gave y r → (line : List ℕ) → line ≡ row_of (report_text r (beside (ending_at recording 0) y)) → WatchedBy (model_of network) d recording line
  opened_watched bs bs₁ bs₂ ls ls₁ ls₂ w s o y f r gave line is =
      let P : List ℕ → ℕ → Type 0 = λ xs k. Follows whole_had whole_admits whole_reach (model_of network) d w s bs₁ ls₁ (items_at xs k) (meets_end (ending_at xs k)) y bs₂ ls₂ in
      course_watched verdicts fits_by network d recording line
      (record {
        bounds = bs;
        locations = ls;
        watch = w;
        slip = s;
        opened_bounds = bs₁;
        opened_locations = ls₁;
        opens = o;
        answer = y;
        left_bounds = bs₂;
        left_locations = ls₂;
        follows = subst (P recording) first (subst (λ xs. P xs at) same f);
      })
      r gave is
