-- Items given one after another.
use Rattle.std.proofs.Common.{◌≡◌, ℕ, true, List, [], ◌∷◌, ℤ, Some, None, refl, sym, ap, subst}
use Rattle.std.specs.Prelude.{Result, Ok, Err}
use Rattle.source.specs.declared.Item.{Item}
use Rattle.source.specs.declared.Item.TheVariants.{Wait, See}
use Rattle.source.specs.Steps.{next_of, rest_of}
use Rattle.model.specs.Model.{Model}
use Rattle.report.specs.declared.Report.{Report}
use Rattle.monitor.specs.declared.fault.WatchFault.{WatchFault}
use Rattle.monitor.specs.declared.watch.Watch.{Watch}
use Rattle.monitor.specs.declared.watch.Slip.{Slip}
use Rattle.monitor.specs.declared.watch.Reply.{Reply}
use Rattle.monitor.specs.declared.watch.Reply.TheVariants.{Going, Ended, Refused}
use Rattle.monitor.specs.Calls.{Waits, Sees, Closes}
use Rattle.monitor.specs.Following.{Answer, ended, stopped_by_source, stopped_by_item, Takes, stopping, Gives, at_end, at_fault, goes_on, ends, refuses, meets_end}

-- what a source's answer says of its items to come, and of the ending behind them
module _ {F : Type 0} where
  got : (is : List Item) (e : Result (Unit {0}) F) (i : Item) → Ok (Some i) ≡ next_of is e → is ≡ i ∷ rest_of is
  got [] (Ok u) i q = cc
  got [] (Err f) i q = cc
  got (j ∷ is) e i q = cc

  none_left : (is : List Item) (e : Result (Unit {0}) F) → Ok None ≡ next_of is e → is ≡ []
  none_left [] e q = refl
  none_left (j ∷ is) e q = cc

  at_its_end : (is : List Item) (e : Result (Unit {0}) F) → Ok None ≡ next_of is e → meets_end e ≡ true
  at_its_end [] (Ok u) q = refl
  at_its_end [] (Err f) q = cc
  at_its_end (j ∷ is) e q = cc

  none_left_at_fault : (is : List Item) (e : Result (Unit {0}) F) (f : F) → Err f ≡ next_of is e → is ≡ []
  none_left_at_fault [] e f q = refl
  none_left_at_fault (j ∷ is) e f q = cc

  pub its_fault : (is : List Item) (e : Result (Unit {0}) F) (f : F) → Err f ≡ next_of is e → e ≡ Err f
  its_fault [] (Ok u) f q = cc
  its_fault [] (Err h) f q = cc
  its_fault (j ∷ is) e f q = cc

module _ {B : Type 0} (had : ℕ → Type 0) (admits : B → ℕ → ℤ → Type 0) (reach : B → ℕ) (N : Model) (d : B) (w : Watch) (s : Slip) (bs : List B) (ls : List ℕ) where
  pub takes_wait : (i : Item) (ticks : ℕ) (r : Reply) (bs' : List B) (ls' : List ℕ) → i ≡ Wait ticks → Waits had admits reach N d w s bs ls ticks r bs' ls' → Takes had admits reach N d w s bs ls i r bs' ls'
  takes_wait i ticks r bs' ls' e x = subst (λ j. Takes had admits reach N d w s bs ls j r bs' ls') (sym e) x

  pub takes_see : (i : Item) (k : ℕ) (r : Reply) (bs' : List B) (ls' : List ℕ) → i ≡ See k → Sees had admits reach N d w s bs ls k r bs' ls' → Takes had admits reach N d w s bs ls i r bs' ls'
  takes_see i k r bs' ls' e x = subst (λ j. Takes had admits reach N d w s bs ls j r bs' ls') (sym e) x

  -- one turn of a follow of a source, from the source's answer
  module _ {F : Type 0} (is : List Item) (e : Result (Unit {0}) F) (y : Answer) (bs'' : List B) (ls'' : List ℕ) where
    pub gives_end : Ok None ≡ next_of is e → (r : Report) → Closes w r → y ≡ ended r → bs'' ≡ bs → ls'' ≡ ls → Gives had admits reach N d (meets_end e) y bs'' ls'' w s bs ls is
    gives_end q r c a b l = subst (Gives had admits reach N d (meets_end e) y bs'' ls'' w s bs ls) (sym (none_left is e q)) (at_end (at_its_end is e q) r c a (b, l))

    pub gives_fault : (f : F) → Err f ≡ next_of is e → y ≡ stopped_by_source (stopping w) → bs'' ≡ bs → ls'' ≡ ls → Gives had admits reach N d (meets_end e) y bs'' ls'' w s bs ls is
    gives_fault f q a b l = subst (Gives had admits reach N d (meets_end e) y bs'' ls'' w s bs ls) (sym (none_left_at_fault is e f q)) (at_fault (ap meets_end (its_fault is e f q)) a (b, l))

    pub gives_on : (i : Item) → Ok (Some i) ≡ next_of is e → (w' : Watch) (s' : Slip) (bs' : List B) (ls' : List ℕ) (r : Reply) → r ≡ Going w' s' → Takes had admits reach N d w s bs ls i r bs' ls' → (is' : List Item) → is' ≡ rest_of is → (e' : Result (Unit {0}) F) → e' ≡ e → Gives had admits reach N d (meets_end e') y bs'' ls'' w' s' bs' ls' is' → Gives had admits reach N d (meets_end e) y bs'' ls'' w s bs ls is
    gives_on i q w' s' bs' ls' r u x is' rest e' same g =
        subst (Gives had admits reach N d (meets_end e) y bs'' ls'' w s bs ls) (sym (got is e i q))
        (goes_on i (subst (λ z. Takes had admits reach N d w s bs ls i z bs' ls') u x)
        (subst (Gives had admits reach N d (meets_end e) y bs'' ls'' w' s' bs' ls') rest (subst (λ z. Gives had admits reach N d (meets_end z) y bs'' ls'' w' s' bs' ls' is') same g)))

    pub gives_last : (i : Item) → Ok (Some i) ≡ next_of is e → (report : Report) (r : Reply) → r ≡ Ended report → y ≡ ended report → Takes had admits reach N d w s bs ls i r bs'' ls'' → Gives had admits reach N d (meets_end e) y bs'' ls'' w s bs ls is
    gives_last i q report r u a x = subst (Gives had admits reach N d (meets_end e) y bs'' ls'' w s bs ls) (sym (got is e i q)) (ends i report (subst (λ z. Takes had admits reach N d w s bs ls i z bs'' ls'') u x) a)

    pub gives_refused : (i : Item) → Ok (Some i) ≡ next_of is e → (w' : Watch) (s' : Slip) (fault : WatchFault) (r : Reply) → r ≡ Refused w' s' fault → y ≡ stopped_by_item (stopping w') fault → Takes had admits reach N d w s bs ls i r bs'' ls'' → Gives had admits reach N d (meets_end e) y bs'' ls'' w s bs ls is
    gives_refused i q w' s' fault r u a x = subst (Gives had admits reach N d (meets_end e) y bs'' ls'' w s bs ls) (sym (got is e i q)) (refuses i w' s' fault (subst (λ z. Takes had admits reach N d w s bs ls i z bs'' ls'') u x) a)
