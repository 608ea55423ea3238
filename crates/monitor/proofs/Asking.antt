-- Shifts on a network of one clock that begin with input 0, which resets the clock.
use Rattle.std.proofs.Common.{◌≡◌, ℕ, zero, suc, ◌+◌, ◌<◌, ◌≤◌, false, List, [], ◌∷◌, ℤ, pos, refl, subst, arith}
use Rattle.std.proofs.lemmas.Int.{ints}
use Rattle.time.specs.Grains.{Grain}
use Rattle.source.specs.declared.Item.{Item}
use Rattle.source.specs.declared.Item.TheVariants.{Wait, See}
use Rattle.model.specs.Model.{ModelProcess, ModelEdge, Model}
use Rattle.report.specs.declared.Report.{Report}
use Rattle.runs.specs.Moves.{Move, home, VisibleMove, From, to, Allowed, Keeps}
use Rattle.runs.specs.Kinds.{Kind, kind, ◌·◌}
use Rattle.runs.specs.Runs.{later, moved, zeros}
use Rattle.runs.specs.Points.{Pts, Spread, Arrives, In}
use Rattle.runs.specs.Growth.{order}
use Rattle.monitor.specs.declared.watch.Watch.{Watch}
use Rattle.monitor.specs.declared.watch.Slip.{Slip}
use Rattle.monitor.specs.declared.watch.Reply.{Reply}
use Rattle.monitor.specs.Replies.{opened, waited, seen, unspent, overrunning}
use Rattle.monitor.specs.Rows.{estimate_of}
use Rattle.monitor.specs.Calls.{Sees}
use Rattle.monitor.specs.Examples.{Replied, ReportOf, EveryShiftReports, one_clock}
use Rattle.monitor.proofs.Able.{ables}
use Rattle.monitor.proofs.Known.{hidden_able, visible_able}
use Rattle.monitor.proofs.Ones.{Some}
use Rattle.monitor.proofs.Clock.{arrives_part, arrives_zero}
use Rattle.monitor.proofs.Stands.{Stands, opens_there, wait_stays, see_without_place, see_resets}

-- what holds at 0 and 1 holds below 2
pub two : (P : ℕ → Type 0) → P 0 → P 1 → (i : ℕ) → i < 2 → P i
two P a b zero h = a
two P a b (suc zero) h = b
two P a b (suc (suc i)) h = absurd (omega arith)

-- from the locations p, no hidden move leads; m is the one move on channel 0, which nothing hinders, and which resets the clock
pub record Asking (N : Model) (m : Move) (p : List ℕ) : Type 0 where
  pub quiet : ables (hidden_able N p) (order N) ≡ []
  pub able : ables (visible_able N 0 p) (order N) ≡ m ∷ []
  pub visible : VisibleMove N 0 m
  pub from : From N m p
  pub keeps : (g : ℕ) → Keeps N false p g (later 0 zeros)
  pub allowed : (g : ℕ) → Allowed N m g (later 0 zeros)
  pub moves : (u : ℕ → ℤ) → (moved N m u 0 ≡ u 0) × (moved N m u 1 ≡ pos 0)
  pub kept : (g : ℕ) → 1 ≤ g → Keeps N false (to N m p) g zeros

-- asked, after being opened with so many entries
abbrev pub asked_of : ℕ → Watch
asked_of entries = seen (opened entries) 1

module _ {B : Type 0} (had : ℕ → Type 0) (admits : B → ℕ → ℤ → Type 0) (reach : B → ℕ) (unit : Grain had 1) where
  -- the items to come lead to the report
  abbrev pub Then : Model → B → List Item → Report → List B → List ℕ → Watch → Slip → Type 0
  Then N d items r bs ls w s = ReportOf had admits reach N d items r w s bs ls

  module _ (processes : List ModelProcess) (edges : List ModelEdge) where
    abbrev N : Model
    N = one_clock processes edges

    abbrev K : Kind
    K = kind B had admits

    abbrev pub On : B → Watch → List B → List ℕ → List ℕ → Type 0
    On d w bs ls p = Stands had admits reach unit processes edges d w bs ls p

    pub shift : (entries : ℕ) (items : List Item) (r : Report) → ((d : B) (bs : List B) (ls : List ℕ) → On d (opened entries) bs ls (home N) → Then N d items r bs ls (opened entries) unspent) → EveryShiftReports had admits reach N entries items r
    shift entries items r f d bs ls w s bs' ls' x = opens_there had admits reach unit processes edges d (Then N d items r bs' ls') bs ls entries w s bs' ls' x (f d bs' ls')

    module _ (m : Move) (asking : Asking N m (home N)) where
      module _ (d : B) (entries : ℕ) (bs : List B) (ls : List ℕ) (st : On d (opened entries) bs ls (home N)) where
        abbrev P : Pts
        P = In K N ((estimate_of had admits reach N d (opened entries) bs ls).zone 0)

        abbrev Q : Pts
        Q = Arrives K N 0 m (home N) (Spread K N false 0 (home N) P)

        lands : (g : ℕ) → Grain had g → Q g zeros
        lands g hg =
            arrives_part K unit processes edges (home N) P st.alone.zero 0 m g 0 hg (omega (arith, ints)) (asking.keeps g) (asking.allowed g) zeros
            (two (λ i. moved N m (later 0 zeros) i ≡ 1 · pos 0) (asking.moves (later 0 zeros)).0 (asking.moves (later 0 zeros)).1) refl (asking.kept g hg.from_one)

        some : Some K Q
        some = record { grain = 1; is_grain = unit; point = zeros; «in» = lands 1 unit }

        -- there is a place for the growth alone
        pub ask_without_place : (End : Report → Type 0) (Next : Watch → Slip → Type 0) → entries ≡ 2 → (r : Reply) (bs' : List B) (ls' : List ℕ) → Sees had admits reach N d (opened entries) unspent bs ls 0 r bs' ls' → End (overrunning (opened entries)) → Replied End r Next
        ask_without_place End Next h r bs' ls' x f =
            see_without_place had admits reach unit processes edges d End (opened entries) unspent bs ls (home N) st (omega arith) asking.quiet (omega arith)
            0 (λ e. cc) (asking.keeps 1) Next r bs' ls' x m asking.able asking.visible asking.from some (omega arith) f

        pub ask : (End : Report → Type 0) (Next : Watch → Slip → Type 0) → 3 ≤ entries → (r : Reply) (bs' : List B) (ls' : List ℕ) → Sees had admits reach N d (opened entries) unspent bs ls 0 r bs' ls' → (On d (asked_of entries) bs' ls' (to N m (home N)) → Next (asked_of entries) unspent) → Replied End r Next
        ask End Next h r bs' ls' x f =
            see_resets had admits reach unit processes edges d End (opened entries) unspent bs ls (home N) st (omega arith) asking.quiet (omega arith)
            0 (λ e. cc) (asking.keeps 1) Next r bs' ls' x m asking.able asking.visible asking.from some (omega arith)
            (arrives_zero K unit processes edges (home N) P st.alone.zero 0 m asking.moves lands) f

      -- asked, of 40 entries
      pub asked_first : (items : List Item) (r : Report) → ((d : B) (bs : List B) (ls : List ℕ) → On d (asked_of 40) bs ls (to N m (home N)) → Then N d items r bs ls (asked_of 40) unspent) → EveryShiftReports had admits reach N 40 (See 0 ∷ items) r
      asked_first items r f = shift 40 (See 0 ∷ items) r (λ d bs ls st r' bs' ls' x. ask d 40 bs ls st (λ c. c ≡ r) (Then N d items r bs' ls') (omega arith) r' bs' ls' x (f d bs' ls'))

      -- and then so many ticks
      pub asked_and_waited : ables (hidden_able N (to N m (home N))) (order N) ≡ [] → (ticks : ℕ) → ticks ≤ 1000 → Keeps N false (to N m (home N)) 1 (later ticks zeros) → (items : List Item) (r : Report) → ((d : B) (bs : List B) (ls : List ℕ) → On d (waited (asked_of 40) ticks) bs ls (to N m (home N)) → Then N d items r bs ls (waited (asked_of 40) ticks) unspent) → EveryShiftReports had admits reach N 40 (See 0 ∷ Wait ticks ∷ items) r
      asked_and_waited quiet ticks h k items r f =
          asked_first (Wait ticks ∷ items) r
          (λ d bs ls st r' bs' ls' x.
          wait_stays had admits reach unit processes edges d
          (λ c. c ≡ r) (asked_of 40) unspent bs ls (to N m (home N)) st (omega arith) quiet (omega arith)
          ticks (omega arith) (Then N d items r bs' ls') r' bs' ls' x
          (let e : ticks ≡ 0 + ticks = omega arith in subst (λ n. Keeps N false (to N m (home N)) 1 (later n zeros)) e k) (f d bs' ls'))
