-- Where a shift on a network of one clock stands: right after a see that set the clock to zero, or the opening.
use Rattle.std.proofs.Common.{◌≡◌, ℕ, ◌+◌, ◌<◌, ◌≤◌, true, false, List, [], ◌∷◌, length, Ok, ℤ, sym, ap, ◌∙◌, refl, subst, arith}
use Rattle.time.specs.Grains.{Grain}
use Rattle.model.specs.Model.{ModelProcess, ModelEdge, Model}
use Rattle.report.specs.declared.Report.{Report}
use Rattle.runs.specs.Kinds.{Kind, kind}
use Rattle.runs.specs.Moves.{Move, VisibleMove, From, to, channel_at, home, Keeps}
use Rattle.runs.specs.Runs.{later, zeros}
use Rattle.runs.specs.Points.{Pts, Spread, Arrives, In}
use Rattle.runs.specs.Growth.{Entries, Alike, SeenFrom, OverrunsSeeing, order}
use Rattle.estimate.specs.Rows.{entries_of}
use Rattle.monitor.specs.declared.watch.Watch.{Watch}
use Rattle.monitor.specs.declared.watch.Slip.{Slip}
use Rattle.monitor.specs.declared.watch.Reply.{Reply}
use Rattle.monitor.specs.Replies.{most, opened, waited, seen, unspent, overrunning, breaking_wait, breaking_see}
use Rattle.monitor.specs.Rows.{Belongs, estimate_of, room}
use Rattle.monitor.specs.Calls.{Visible, Zeros, Opens, Waits, Sees}
use Rattle.monitor.specs.Examples.{Replied, one_clock}
use Rattle.monitor.proofs.Able.{ables}
use Rattle.monitor.proofs.Known.{hidden_able, visible_able}
use Rattle.monitor.proofs.Ones.{Some, None, One}
use Rattle.monitor.proofs.CallByCall.{Stops, opened_with, wait_on, wait_fails, wait_is_open, see_finds_no_place, see_broken, see_on}
use Rattle.monitor.proofs.Clock.{AtZero, at_zero_as, EndsBefore, reaches_one, stops_one, misses_one, see_fits_one, sees_none, sees_missed, sees_one, sees_no_place}

module _ {B : Type 0} (had : ℕ → Type 0) (admits : B → ℕ → ℤ → Type 0) (reach : B → ℕ) (unit : Grain had 1) (processes : List ModelProcess) (edges : List ModelEdge) (d : B) where
  abbrev K : Kind
  K = kind B had admits

  abbrev N : Model
  N = one_clock processes edges

  -- E is one entry, with the locations p, and the point at zero alone
  pub record Alone (E : Entries K N) (p : List ℕ) : Type 0 where
    pub one : One K N E p (In K N (E.zone 0))
    pub zero : AtZero K unit processes edges (In K N (E.zone 0))

  pub record Stands (w : Watch) (bs : List B) (ls : List ℕ) (p : List ℕ) : Type 0 where
    pub belongs : Belongs had admits reach N d w bs ls
    pub alone : Alone (estimate_of had admits reach N d w bs ls) p

  alone_alike : (F E : Entries K N) (p : List ℕ) (P : Pts) → Alike K N F E → One K N F p P → AtZero K unit processes edges P → Alone E p
  alone_alike F E p P a o z =
      let h : 0 < F.count = omega (arith, o.count) in
      record {
        one = record { count = sym a.count ∙ o.count; placed = sym (a.places 0 h) ∙ o.placed; points = λ g v hg. (λ x. x, λ x. x) };
        zero = at_zero_as K unit processes edges P (In K N (E.zone 0)) (λ g v hg. (λ x. (a.points 0 g v h hg).0 ((o.points g v hg).1 x), λ x. (o.points g v hg).0 ((a.points 0 g v h hg).1 x))) z;
      }

  opened_alone : (bs : List B) (ls : List ℕ) → Zeros had admits reach N d bs ls → Alone (entries_of had admits N d bs ls 0 1) (home N)
  opened_alone bs ls z =
      record {
        one = record { count = refl; placed = z.places; points = λ g v hg. (λ x. x, λ x. x) };
        zero = record {
          only = λ g v hg x. let y = (z.points g v hg).0 x in (y.0, y.1 1 (omega arith), y.1 2 (omega arith));
          some = λ g hg. (z.points g zeros hg).1 (refl, λ i h. refl);
        };
      }

  pub opens_there : (X : Watch → Slip → Type 0) (bs : List B) (ls : List ℕ) (entries : ℕ) (w : Watch) (s : Slip) (bs' : List B) (ls' : List ℕ) → Opens had admits reach N d bs ls entries (Ok (w, s)) bs' ls' → (Stands (opened entries) bs' ls' (home N) → X (opened entries) unspent) → X w s
  opens_there X bs ls entries w s bs' ls' x f = opened_with had admits reach N d X bs ls entries w s bs' ls' x (λ z b. f (record { belongs = b; alone = opened_alone bs' ls' z }))

  module _ (End : Report → Type 0) (w : Watch) (s : Slip) (bs : List B) (ls : List ℕ) (p : List ℕ) (st : Stands w bs ls p) (few : w.items + 1 ≤ most) (quiet : ables (hidden_able N p) (order N) ≡ []) (places : 1 ≤ room w) where
    abbrev E : Entries K N
    E = estimate_of had admits reach N d w bs ls

    abbrev P : Pts
    P = In K N (E.zone 0)

    -- ---- waits

    module _ (ticks : ℕ) (early : w.tick + ticks ≤ most) (Next : Watch → Slip → Type 0) (r : Reply) (bs' : List B) (ls' : List ℕ) (x : Waits had admits reach N d w s bs ls ticks r bs' ls') where
      pub wait_stays : Keeps N false p 1 (later (w.since + ticks) zeros) → (Stands (waited w ticks) bs' ls' p → Next (waited w ticks) s) → Replied End r Next
      wait_stays k f =
          wait_on had admits reach N d End w s bs ls st.belongs few ticks early
          (reaches_one K unit processes edges E p P st.alone.one st.alone.zero quiet (room w) places false (w.since + ticks) k)
          Next r bs' ls' x (λ b e. f (record { belongs = b; alone = subst (λ (F : Entries K N). Alone F p) (sym e) st.alone }))

      module _ (c : ℕ) (h : c < w.since + ticks) (k : Keeps N false p 1 (later c zeros)) (ends : EndsBefore K unit processes edges false p (c + 1)) where
        stops : Stops K N E (room w) (w.since + ticks) c
        stops = stops_one K unit processes edges E p P st.alone.one st.alone.zero quiet (room w) places (w.since + ticks) c (omega arith) k ends

        pub wait_ends_failed : Keeps N true p 1 (later (c + 1) zeros) → End (breaking_wait w (c + 1) true) → Replied End r Next
        wait_ends_failed l =
            wait_fails had admits reach N d End w s bs ls st.belongs few ticks early c h stops
            (reaches_one K unit processes edges E p P st.alone.one st.alone.zero quiet (room w) places true (c + 1) l)
            Next r bs' ls' x

        pub wait_ends_open : Keeps N true p 1 (later c zeros) → EndsBefore K unit processes edges true p (c + 1) → End (breaking_wait w (c + 1) false) → Replied End r Next
        wait_ends_open l e =
            wait_is_open had admits reach N d End w s bs ls st.belongs few ticks early c h stops
            (misses_one K unit processes edges E p P st.alone.one st.alone.zero quiet (room w) places (c + 1) c (omega arith) l e)
            Next r bs' ls' x

    -- ---- sees

    module _ (k : ℕ) (v : Visible N k) (keeps : Keeps N false p 1 (later w.since zeros)) (Next : Watch → Slip → Type 0) (r : Reply) (bs' : List B) (ls' : List ℕ) (x : Sees had admits reach N d w s bs ls k r bs' ls') where
      fits : length (ables (visible_able N k p) (order N)) < room w → ¬ (OverrunsSeeing K N k w.since E (room w))
      fits = see_fits_one K unit processes edges E p P st.alone.one st.alone.zero quiet (room w) places k w.since w.since (omega arith) keeps

      pub see_of_no_move : ables (visible_able N k p) (order N) ≡ [] → 1 ≤ room w → End (breaking_see w (channel_at N k)) → Replied End r Next
      see_of_no_move e h =
          see_broken had admits reach N d End w s bs ls st.belongs few k v Next (fits (omega (arith, ap (λ xs. length xs) e)))
          (sees_none K unit processes edges E p P st.alone.one st.alone.zero quiet (room w) places k w.since w.since (omega arith) keeps e)
          r bs' ls' x

      module _ (m : Move) (e : ables (visible_able N k p) (order N) ≡ m ∷ []) (vis : VisibleMove N k m) (from : From N m p) where
        abbrev Q : Pts
        Q = Arrives K N w.since m p (Spread K N false w.since p P)

        pub see_too_soon : 2 ≤ room w → None K Q → End (breaking_see w (channel_at N k)) → Replied End r Next
        see_too_soon h n =
            see_broken had admits reach N d End w s bs ls st.belongs few k v Next (fits (omega (arith, ap (λ xs. length xs) e)))
            (sees_missed K unit processes edges E p P st.alone.one st.alone.zero quiet (room w) places k w.since w.since (omega arith) keeps m e vis from n)
            r bs' ls' x

        module _ (some : Some K Q) where
          result : (F : Entries K N) → SeenFrom K N k w.since E (room w) F → One K N F (to N m p) Q
          result = sees_one K unit processes edges E p P st.alone.one st.alone.zero quiet (room w) places k w.since w.since (omega arith) keeps m e vis from some

          pub see_without_place : room w ≡ 1 → End (overrunning w) → Replied End r Next
          see_without_place h =
              see_finds_no_place had admits reach N d End w s bs ls st.belongs few k v Next
              (sees_no_place K unit processes edges E p P st.alone.one st.alone.zero quiet (room w) places k w.since w.since (omega arith) keeps m e vis from h some)
              r bs' ls' x

          pub see_passes : 2 ≤ room w → ((count : ℕ) → Next (seen w count) s) → Replied End r Next
          see_passes h f =
              see_on had admits reach N d End w s bs ls st.belongs few k v Next (fits (omega (arith, ap (λ xs. length xs) e)))
              (λ F y n. omega (arith, n, (result F y).count))
              r bs' ls' x (λ count F y a b. f count)

          pub see_resets : 2 ≤ room w → AtZero K unit processes edges Q → (Stands (seen w 1) bs' ls' (to N m p) → Next (seen w 1) s) → Replied End r Next
          see_resets h z f =
              see_on had admits reach N d End w s bs ls st.belongs few k v Next (fits (omega (arith, ap (λ xs. length xs) e)))
              (λ F y n. omega (arith, n, (result F y).count))
              r bs' ls' x
              (λ count F y a b. next count F (result F y) a b)
            where
              next : (count : ℕ) (F : Entries K N) → One K N F (to N m p) Q → Alike K N F (entries_of had admits N d bs' ls' 0 count) → Belongs had admits reach N d (seen w count) bs' ls' → Next (seen w count) s
              next count F o a b =
                  let c : 1 ≡ count = omega (arith, o.count, a.count) in
                  subst (λ n. (Stands (seen w n) bs' ls' (to N m p) → Next (seen w n) s)) c f (record { belongs = b; alone = alone_alike F (entries_of had admits N d bs' ls' 0 count) (to N m p) Q a o z })
