-- What a shift reports counts the items of its trace.
use Rattle.std.proofs.Common.{◌≡◌, ℕ, ◌+◌, Bool, List, [], ◌∷◌, ◌++◌, length, ℤ, sym, refl, ap, ◌∙◌, subst, append_assoc, append-nil, arith}
use Rattle.source.specs.declared.Item.{Item}
use Rattle.source.specs.declared.Item.TheVariants.{Wait, See}
use Rattle.model.specs.Model.{Model}
use Rattle.network.specs.Networks.{model_of}
use Rattle.report.specs.declared.Report.{Report}
use Rattle.monitor.specs.declared.fault.WatchFault.{WatchFault}
use Rattle.monitor.specs.declared.growing.Waited.{Waited}
use Rattle.monitor.specs.declared.growing.Waited.TheVariants.{Reached, Broken, Overrun}
use Rattle.monitor.specs.declared.watch.Watch.{Watch}
use Rattle.monitor.specs.declared.watch.Slip.{Slip}
use Rattle.monitor.specs.declared.watch.Reply.{Reply}
use Rattle.monitor.specs.declared.watch.Reply.TheVariants.{Going, Ended, Refused}
use Rattle.monitor.specs.Replies.{opened, unspent, wait_reply}
use Rattle.monitor.specs.Rows.{Belongs}
use Rattle.monitor.specs.Calls.{opens, open_refused, wait_without_rows, wait_out_of_range, waits, SeeTaken, see_overruns, see_breaks, see_goes_on, see_without_rows, see_of_no_channel, see_out_of_range, sees as sees_it}
use Rattle.monitor.specs.Following.{Answer, Takes, Gives, at_end, at_fault, goes_on, ends, refuses, Follows, follow_without_rows, follows}
use Rattle.monitor.specs.Shifts.{Stage, standing, closed, broken_off, taken, leaves, followed, follow_leaves, Shift, shift_opens, shift_goes_on, shift_ends, shift_refuses, shift_closes, shift_follows, Reports, CountsItems}
use Rattle.monitor.proofs.Rows.{on_belongs, refused_keeps, in_order}
use Rattle.monitor.proofs.Words.{length_more}

-- the watch has taken, or the report counts, so many items
abbrev Counts : {B : Type 0} → Stage B → ℕ → Type 0
Counts (standing w s bs ls) n = w.items ≡ n
Counts (closed r) n = r.count ≡ n
Counts (broken_off r) n = r.count ≡ n

-- one item more than the watch had, by what the item is answered
abbrev OneMore : Watch → Reply → Type 0
OneMore w (Going w' s') = w'.items ≡ w.items + 1
OneMore w (Ended r) = r.count ≡ w.items + 1
OneMore w (Refused w' s' fault) = Unit {0}

wait_counts : (w : Watch) (s : Slip) (n : ℕ) (a : Waited) → OneMore w (wait_reply w s n a)
wait_counts w s n Reached = refl
wait_counts w s n (Broken at loosely) = refl
wait_counts w s n Overrun = refl

module _ {B : Type 0} (had : ℕ → Type 0) (admits : B → ℕ → ℤ → Type 0) (reach : B → ℕ) (N : Model) (d : B) where
  module _ (w : Watch) (s : Slip) (bs : List B) (ls : List ℕ) where
    see_counts : (k : ℕ) (r : Reply) (bs' : List B) (ls' : List ℕ) → SeeTaken had admits reach N d w s bs ls k r bs' ls' → OneMore w r
    see_counts k r bs' ls' (see_overruns o e a) = subst (OneMore w) (sym e) refl
    see_counts k r bs' ls' (see_breaks R y none e a) = subst (OneMore w) (sym e) refl
    see_counts k r bs' ls' (see_goes_on count some R y alike e bel) = subst (OneMore w) (sym e) refl

    take_counts : Belongs had admits reach N d w bs ls → (i : Item) (r : Reply) (bs' : List B) (ls' : List ℕ) → Takes had admits reach N d w s bs ls i r bs' ls' → OneMore w r
    take_counts bel (Wait n) r bs' ls' (wait_without_rows h e u) = subst (OneMore w) (sym e) tt
    take_counts bel (Wait n) r bs' ls' (wait_out_of_range h q e u) = subst (OneMore w) (sym e) tt
    take_counts bel (Wait n) r bs' ls' (waits h p q a f) = let x = f bel in subst (OneMore w) (sym x.reply) (wait_counts w s n x.comes_to)
    take_counts bel (See k) r bs' ls' (see_without_rows h e u) = subst (OneMore w) (sym e) tt
    take_counts bel (See k) r bs' ls' (see_of_no_channel h v e u) = subst (OneMore w) (sym e) tt
    take_counts bel (See k) r bs' ls' (see_out_of_range h v q e u) = subst (OneMore w) (sym e) tt
    take_counts bel (See k) r bs' ls' (sees_it h v q a f) = see_counts k r bs' ls' (f bel)

    refused_counts : (i : Item) (w' : Watch) (s' : Slip) (fault : WatchFault) (bs' : List B) (ls' : List ℕ) → Belongs had admits reach N d w bs ls → Takes had admits reach N d w s bs ls i (Refused w' s' fault) bs' ls' → (n : ℕ) → w.items ≡ n → w'.items ≡ n
    refused_counts i w' s' fault bs' ls' bel x n e = refused_keeps had admits reach N d w s bs ls bel i w' s' fault bs' ls' x (λ (v : Watch) (xs : List B) (ys : List ℕ). v.items ≡ n) e

  gives_count : (ending : Bool) (y : Answer) (bs' : List B) (ls' : List ℕ) (w : Watch) (s : Slip) (bs : List B) (ls : List ℕ) (is : List Item) (g : Gives had admits reach N d ending y bs' ls' w s bs ls is) → Belongs had admits reach N d w bs ls → (t : List Item) → w.items ≡ length t → Counts (leaves had admits reach N d g) (length (t ++ taken had admits reach N d g))
  gives_count ending y bs' ls' w s bs ls is (at_end e r c a u) bel t h = ap (λ (x : Report). x.count) c ∙ h ∙ ap length (sym (append-nil t))
  gives_count ending y bs' ls' w s bs ls is (at_fault e a u) bel t h = h ∙ ap length (sym (append-nil t))
  gives_count ending y bs' ls' w s bs ls is (goes_on {w' = w₁} {s' = s₁} {bs' = bs₁} {ls' = ls₁} {is = js} i x g) bel t h =
      subst (λ u. Counts (leaves had admits reach N d g) (length u)) (append_assoc t (i ∷ []) (taken had admits reach N d g))
      (gives_count ending y bs' ls' w₁ s₁ bs₁ ls₁ js g (on_belongs had admits reach N d w s bs ls bel i w₁ s₁ bs₁ ls₁ x) (t ++ (i ∷ [])) (let c = take_counts w s bs ls bel i (Going w₁ s₁) bs₁ ls₁ x in omega (arith, length_more t i)))
  gives_count ending y bs' ls' w s bs ls is (ends i r x a) bel t h = let c = take_counts w s bs ls bel i (Ended r) bs' ls' x in omega (arith, length_more t i)
  gives_count ending y bs' ls' w s bs ls is (refuses i w₁ s₁ fault x a) bel t h = refused_counts w s bs ls i w₁ s₁ fault bs' ls' bel x (length t) h ∙ ap length (sym (append-nil t))

  follow_counts : (w : Watch) (s : Slip) (bs : List B) (ls : List ℕ) (is : List Item) (ending : Bool) (y : Answer) (bs' : List B) (ls' : List ℕ) (f : Follows had admits reach N d w s bs ls is ending y bs' ls') → Belongs had admits reach N d w bs ls → (t : List Item) → w.items ≡ length t → Counts (follow_leaves had admits reach N d f) (length (t ++ followed had admits reach N d f))
  follow_counts w s bs ls is ending y bs' ls' (follow_without_rows h a u) bel t e = e ∙ ap length (sym (append-nil t))
  follow_counts w s bs ls is ending y bs' ls' (follows h g) bel t e = gives_count ending y bs' ls' w s bs ls is g bel t e

  shift_counts : (t : List Item) (stage : Stage B) → Shift had admits reach N d t stage → Counts stage (length t)
  shift_counts t stage (shift_opens bs₀ ls₀ entries w s bs ls (open_refused h e u)) = cc
  shift_counts t stage (shift_opens bs₀ ls₀ entries w s bs ls (opens h e z bel a)) =
      let p : ◌≡◌ {A = Watch × Slip} (w, s) (opened entries, unspent) = cc in
      ap (λ (x : Watch × Slip). x.0.items) p
  shift_counts t stage (shift_goes_on {t = u} {w = w} {s = s} {bs = bs} {ls = ls} h i w' s' bs' ls' x) =
      let e : w.items ≡ length u = shift_counts u (standing w s bs ls) h in
      let c = take_counts w s bs ls (in_order had admits reach N d u (standing w s bs ls) h) i (Going w' s') bs' ls' x in
      omega (arith, length_more u i)
  shift_counts t stage (shift_ends {t = u} {w = w} {s = s} {bs = bs} {ls = ls} h i r bs' ls' x) =
      let e : w.items ≡ length u = shift_counts u (standing w s bs ls) h in
      let c = take_counts w s bs ls (in_order had admits reach N d u (standing w s bs ls) h) i (Ended r) bs' ls' x in
      omega (arith, length_more u i)
  shift_counts t stage (shift_refuses {t = u} {w = w} {s = s} {bs = bs} {ls = ls} h i w' s' fault bs' ls' x) =
      refused_counts w s bs ls i w' s' fault bs' ls' (in_order had admits reach N d u (standing w s bs ls) h) x (length u) (shift_counts u (standing w s bs ls) h)
  shift_counts t stage (shift_closes {t = u} {w = w} {s = s} {bs = bs} {ls = ls} h r c) = ap (λ (x : Report). x.count) c ∙ shift_counts u (standing w s bs ls) h
  shift_counts t stage (shift_follows {t = u} {w = w} {s = s} {bs = bs} {ls = ls} h is ending y bs' ls' f) =
      follow_counts w s bs ls is ending y bs' ls' f (in_order had admits reach N d u (standing w s bs ls) h) u (shift_counts u (standing w s bs ls) h)

  reported : (stage : Stage B) (n : ℕ) → Counts stage n → (r : Report) → Reports stage r → r.count ≡ n
  reported (standing w s bs ls) n c r e = absurd e
  reported (closed q) n c r e = ap (λ (x : Report). x.count) (sym e) ∙ c
  reported (broken_off q) n c r e = ap (λ (x : Report). x.count) (sym e) ∙ c

-- for every kind of time; this asks for none of the laws
pub counts_items : {B : Type 0} (had : ℕ → Type 0) (admits : B → ℕ → ℤ → Type 0) (reach : B → ℕ) → CountsItems had admits reach
counts_items had admits reach network d t stage h r e = reported had admits reach (model_of network) d stage (length t) (shift_counts had admits reach (model_of network) d t stage h) r e
