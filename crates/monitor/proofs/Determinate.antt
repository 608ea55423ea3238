-- A wait and a see have one reply.
use Rattle.std.proofs.Common.{◌≡◌, ℕ, ◌+◌, ◌<◌, ◌≤◌, ◌⊎◌, List, ℤ, sym, ap, ◌∙◌, subst, ⊎_elim, arith}
use Rattle.model.specs.Model.{Model}
use Rattle.runs.specs.Kinds.{kind}
use Rattle.runs.specs.Moves.{channel_at}
use Rattle.runs.specs.Growth.{Entries, Alike, SeenFrom, OverrunsSeeing}
use Rattle.runs.proofs.Alikes.{alike_sym, alike_trans}
use Rattle.runs.proofs.SeeingDetermined.{seeing_determined}
use Rattle.estimate.specs.Rows.{entries_of}
use Rattle.report.specs.declared.Report.{Report}
use Rattle.monitor.specs.declared.fault.WatchFault.{WatchFault}
use Rattle.monitor.specs.declared.fault.WatchFault.TheVariants.{Channel, Range}
use Rattle.monitor.specs.declared.watch.Watch.{Watch}
use Rattle.monitor.specs.declared.watch.Slip.{Slip}
use Rattle.monitor.specs.declared.watch.Reply.{Reply}
use Rattle.monitor.specs.declared.watch.Reply.TheVariants.{Going, Ended, Refused}
use Rattle.monitor.specs.Replies.{most, seen, wait_reply, overrunning, breaking_see}
use Rattle.monitor.specs.Rows.{estimate_of, room}
use Rattle.monitor.specs.Calls.{wait_without_rows, wait_out_of_range, waits, SeeTaken, see_overruns, see_breaks, see_goes_on, Sees, see_without_rows, see_of_no_channel, see_out_of_range, sees, AlikeRows, WaitDetermined, SeeDetermined}
use Rattle.monitor.proofs.OneReply.{waited_one}

module _ {B : Type 0} (had : ℕ → Type 0) (admits : B → ℕ → ℤ → Type 0) (reach : B → ℕ) (N : Model) (w : Watch) (s : Slip) where
  -- what is too much once is too much again
  too_much : (ticks : ℕ) → (most < w.tick + ticks) ⊎ (most < w.items + 1) → w.tick + ticks ≤ most → w.items + 1 ≤ most → ⊥
  too_much ticks x t i = ⊎_elim (λ l. absurd (omega arith)) (λ l. absurd (omega arith)) x

  pub wait_determined : (ticks : ℕ) → WaitDetermined had admits reach N w s ticks
  wait_determined ticks d d' bs bs' bs₁ bs₁' ls ls' ls₁ ls₁' r r' a (wait_without_rows n e u) y = absurd (n a.first.rows)
  wait_determined ticks d d' bs bs' bs₁ bs₁' ls ls' ls₁ ls₁' r r' a (wait_out_of_range h x e u) (wait_without_rows n f v) = absurd (n a.second.rows)
  wait_determined ticks d d' bs bs' bs₁ bs₁' ls ls' ls₁ ls₁' r r' a (wait_out_of_range h x e u) (wait_out_of_range h' x' f v) = e ∙ sym f
  wait_determined ticks d d' bs bs' bs₁ bs₁' ls ls' ls₁ ls₁' r r' a (wait_out_of_range h x e u) (waits h' t i al y) = absurd (too_much ticks x t i)
  wait_determined ticks d d' bs bs' bs₁ bs₁' ls ls' ls₁ ls₁' r r' a (waits h t i al x) (wait_without_rows n f v) = absurd (n a.second.rows)
  wait_determined ticks d d' bs bs' bs₁ bs₁' ls ls' ls₁ ls₁' r r' a (waits h t i al x) (wait_out_of_range h' y f v) = absurd (too_much ticks y t i)
  wait_determined ticks d d' bs bs' bs₁ bs₁' ls ls' ls₁ ls₁' r r' a (waits h t i al x) (waits h' t' i' al' y) =
      let p = x a.first in
      let q = y a.second in
      p.reply ∙ ap (wait_reply w s ticks) (waited_one (kind B had admits) N (estimate_of had admits reach N d w bs ls) (estimate_of had admits reach N d' w bs' ls') (room w) a.alike (w.since + ticks) p.comes_to q.comes_to p.waited_to q.waited_to) ∙ sym q.reply

  -- ---- a see on k

  module _ (k : ℕ) (d d' : B) (bs bs' bs₁ bs₁' : List B) (ls ls' ls₁ ls₁' : List ℕ) (r r' : Reply) (a : AlikeRows had admits reach N w d d' bs ls bs' ls') where
    abbrev pub E : Entries (kind B had admits) N
    E = estimate_of had admits reach N d w bs ls

    abbrev pub E' : Entries (kind B had admits) N
    E' = estimate_of had admits reach N d' w bs' ls'

    abbrev pub Same : Type 0
    Same = (r ≡ r') × ((v : Watch) → r ≡ Going v s → Alike (kind B had admits) N (entries_of had admits N d bs₁ ls₁ 0 v.estimate) (entries_of had admits N d' bs₁' ls₁' 0 v.estimate))

    -- a reply that does not go on leaves nothing to compare
    ended : (q : Report) → r ≡ Ended q → r' ≡ Ended q → Same
    ended q e f = (e ∙ sym f, λ v g. absurd (not_going q v (sym e ∙ g)))
      where
        not_going : (q : Report) (v : Watch) → ¬ (Ended q ≡ Going v s)
        not_going q v h = let z : ◌≡◌ {A = ℕ} 0 1 = cc in omega arith

    refused : (q : WatchFault) → r ≡ Refused w s q → r' ≡ Refused w s q → Same
    refused q e f = (e ∙ sym f, λ v g. absurd (not_going q v (sym e ∙ g)))
      where
        not_going : (q : WatchFault) (v : Watch) → ¬ (Refused w s q ≡ Going v s)
        not_going q v h = let z : ◌≡◌ {A = ℕ} 0 1 = cc in omega arith

    results : (F F' : Entries (kind B had admits) N) → SeenFrom (kind B had admits) N k w.since E (room w) F → SeenFrom (kind B had admits) N k w.since E' (room w) F' → Alike (kind B had admits) N F F'
    results F F' x y = (seeing_determined (kind B had admits) N k w.since).alike E E' F F' (room w) (room w) a.alike x y

    fits_second : (F : Entries (kind B had admits) N) → SeenFrom (kind B had admits) N k w.since E (room w) F → ¬ (OverrunsSeeing (kind B had admits) N k w.since E' (room w))
    fits_second F x = (seeing_determined (kind B had admits) N k w.since).fits E E' F (room w) a.alike x

    fits_first : (F : Entries (kind B had admits) N) → SeenFrom (kind B had admits) N k w.since E' (room w) F → ¬ (OverrunsSeeing (kind B had admits) N k w.since E (room w))
    fits_first F x = (seeing_determined (kind B had admits) N k w.since).fits E' E F (room w) (alike_sym (kind B had admits) N E E' a.alike) x

    seen_one : SeeTaken had admits reach N d w s bs ls k r bs₁ ls₁ → SeeTaken had admits reach N d' w s bs' ls' k r' bs₁' ls₁' → Same
    seen_one (see_overruns o e al) (see_overruns o' e' al') = ended (overrunning w) e e'
    seen_one (see_overruns o e al) (see_breaks F x z e' al') = absurd (fits_first F x o)
    seen_one (see_overruns o e al) (see_goes_on n h F x m e' b) = absurd (fits_first F x o)
    seen_one (see_breaks F x z e al) (see_overruns o e' al') = absurd (fits_second F x o)
    seen_one (see_breaks F x z e al) (see_breaks F' x' z' e' al') = ended (breaking_see w (channel_at N k)) e e'
    seen_one (see_breaks F x z e al) (see_goes_on n h F' x' m e' b) = absurd (let c = (results F F' x x').count in let f = m.count in omega arith)
    seen_one (see_goes_on n h F x m e b) (see_overruns o e' al') = absurd (fits_second F x o)
    seen_one (see_goes_on n h F x m e b) (see_breaks F' x' z' e' al') = absurd (let c = (results F F' x x').count in let f = m.count in omega arith)
    seen_one (see_goes_on n h F x m e b) (see_goes_on n' h' F' x' m' e' b') = both
      where
        one : n ≡ n'
        one = let c = (results F F' x x').count in let f = m.count in let g = m'.count in omega arith

        both : Same
        both = (e ∙ ap (λ c. Going (seen w c) s) one ∙ sym e', λ v g. subst (λ j. Alike (kind B had admits) N (entries_of had admits N d bs₁ ls₁ 0 j) (entries_of had admits N d' bs₁' ls₁' 0 j)) (count_is v (sym e ∙ g)) (alike_trans (kind B had admits) N (entries_of had admits N d bs₁ ls₁ 0 n) F (entries_of had admits N d' bs₁' ls₁' 0 n) (alike_sym (kind B had admits) N F (entries_of had admits N d bs₁ ls₁ 0 n) m) (alike_trans (kind B had admits) N F F' (entries_of had admits N d' bs₁' ls₁' 0 n) (results F F' x x') (subst (λ j. Alike (kind B had admits) N F' (entries_of had admits N d' bs₁' ls₁' 0 j)) (sym one) m'))))
          where
            count_is : (v : Watch) → Going (seen w n) s ≡ Going v s → n ≡ v.estimate
            count_is v h = cc

    pub see_one : Sees had admits reach N d w s bs ls k r bs₁ ls₁ → Sees had admits reach N d' w s bs' ls' k r' bs₁' ls₁' → Same
    see_one (see_without_rows n e u) y = absurd (n a.first.rows)
    see_one (see_of_no_channel h n e u) (see_without_rows m f v) = absurd (m a.second.rows)
    see_one (see_of_no_channel h n e u) (see_of_no_channel h' m f v) = refused (Channel w.items) e f
    see_one (see_of_no_channel h n e u) (see_out_of_range h' c o f v) = absurd (n c)
    see_one (see_of_no_channel h n e u) (sees h' c i al x) = absurd (n c)
    see_one (see_out_of_range h c o e u) (see_without_rows m f v) = absurd (m a.second.rows)
    see_one (see_out_of_range h c o e u) (see_of_no_channel h' m f v) = absurd (m c)
    see_one (see_out_of_range h c o e u) (see_out_of_range h' c' o' f v) = refused (Range w.items) e f
    see_one (see_out_of_range h c o e u) (sees h' c' i al x) = absurd (omega (arith, o, i))
    see_one (sees h c i al x) (see_without_rows m f v) = absurd (m a.second.rows)
    see_one (sees h c i al x) (see_of_no_channel h' m f v) = absurd (m c)
    see_one (sees h c i al x) (see_out_of_range h' c' o f v) = absurd (omega (arith, o, i))
    see_one (sees h c i al x) (sees h' c' i' al' y) = seen_one (x a.first) (y a.second)

  pub see_determined : (k : ℕ) → SeeDetermined had admits reach N w s k
  see_determined k d d' bs bs' bs₁ bs₁' ls ls' ls₁ ls₁' r r' a x y = see_one k d d' bs bs' bs₁ bs₁' ls ls' ls₁ ls₁' r r' a x y
