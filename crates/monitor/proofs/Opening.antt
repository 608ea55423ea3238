-- What the rows hold when a watch is opened.
use Rattle.std.proofs.Common.{◌≡◌, ℕ, ◌+◌, ◌*◌, ◌≤◌, false, List, [], ℤ, sym, refl, ap, ◌∙◌, subst, subst₂, Ok, arith}
use Rattle.source.specs.declared.Item.{Item}
use Rattle.model.specs.Model.{Model}
use Rattle.runs.specs.Kinds.{kind}
use Rattle.runs.specs.Moves.{home}
use Rattle.runs.specs.Points.{In}
use Rattle.runs.specs.Traces.{sees}
use Rattle.runs.specs.Growth.{Entries, Covered}
use Rattle.runs.specs.Estimates.{Exact}
use Rattle.runs.proofs.Fair.{Fair}
use Rattle.runs.proofs.Finer.{keeps_scale}
use Rattle.runs.proofs.OnwardPoints.{after_keeps}
use Rattle.runs.proofs.Exactness.{zero_estimated, estimated_zero}
use Rattle.steps.specs.Limits.{place_of}
use Rattle.estimate.specs.declared.Store.{Store}
use Rattle.estimate.specs.Rows.{area, place_at, entries_of, Aside}
use Rattle.estimate.specs.Stores.{network_in, LeftAlone}
use Rattle.estimate.specs.Growths.{Begun}
use Rattle.estimate.proofs.Parts.{part_take}
use Rattle.estimate.proofs.Grown.{fair_in}
use Rattle.monitor.specs.Replies.{opened, unspent}
use Rattle.monitor.specs.Rows.{HasRows, Fresh, Belongs}
use Rattle.monitor.specs.Calls.{Zeros, Opens, opens}

-- rows that keep their lengths have room for as many entries
pub rows_kept : {B : Type 0} (N : Model) (entries used : ℕ) (bs bs' : List B) (ls ls' : List ℕ) → HasRows N entries bs ls → Aside N entries used bs ls bs' ls' → HasRows N entries bs' ls'
rows_kept N entries used bs bs' ls ls' h a = record {
  some = h.some;
  few = h.few;
  bounds = subst (λ n. area N * (entries + 1) ≤ n) (sym a.long) h.bounds;
  locations = subst (λ n. 8 * entries ≤ n) (sym a.wide) h.locations;
}

module _ {B : Type 0} (had : ℕ → Type 0) (admits : B → ℕ → ℤ → Type 0) (reach : B → ℕ) (N : Model) (F : Fair N) (d : B) where
  -- what is exact is fresh
  exact_fresh : (t : List Item) (E : Entries (kind B had admits) N) → Exact (kind B had admits) N t E → Fresh had admits reach N d E
  exact_fresh t E ex i hi g v hg x =
      let K = kind B had admits in
      let z = (ex (E.place i) g v hg).0 (record { entry = i; below = hi; placed = refl; «in» = x }) in
      (z.zeroed, (keeps_scale N F false (E.place i) z.multiple.times g z.at z.readings v z.multiple.some z.multiple.is z.same).1 (after_keeps K N F (sees t) (E.place i) z.at z.readings z.multiple.grain z.after))

  -- the one entry of the start is all of zeros
  module _ (bs : List B) (ls : List ℕ) (begins : place_at N ls 0 ≡ home N) (ex : Exact (kind B had admits) N [] (entries_of had admits N d bs ls 0 1)) where
    abbrev E : Entries (kind B had admits) N
    E = entries_of had admits N d bs ls 0 1

    begins_home : E.place 0 ≡ home N
    begins_home = ap (place_of N) (part_take 8 ls 0 1 (omega arith)) ∙ begins

    first_of : (p : List ℕ) (g : ℕ) (v : ℕ → ℤ) → Covered (kind B had admits) N E p g v → In (kind B had admits) N (E.zone 0) g v
    first_of p g v c = let b = c.below in let e : c.entry ≡ 0 = omega arith in subst (λ i. In (kind B had admits) N (E.zone i) g v) e c.«in»

    begun_zeros : Zeros had admits reach N d bs ls
    begun_zeros = record {
      places = begins_home;
      points = λ g v hg.
          let x = ex (home N) g v hg in (
            (λ p. let z = (estimated_zero (kind B had admits) N (home N) g v (x.0 (record { entry = 0; below = omega arith; placed = begins_home; «in» = p }))).1 in (z 0 (omega arith), z)),
            (λ z. first_of (home N) g v (x.1 (zero_estimated (kind B had admits) N g v hg z.1))),
          );
    }

module _ {B : Type 0} (had : ℕ → Type 0) (admits : B → ℕ → ℤ → Type 0) (reach : B → ℕ) (a b : Store B) (d : B) (begun : Begun had admits reach a b d) where
  begun_belongs : (entries : ℕ) → HasRows (network_in a) entries a.bounds.now a.locations.now → LeftAlone entries 0 a b → Belongs had admits reach (network_in a) d (opened entries) b.bounds.now b.locations.now
  begun_belongs entries h l = record {
    rows = rows_kept (network_in a) entries 0 a.bounds.now b.bounds.now a.locations.now b.locations.now h l;
    estimated = omega arith;
    within = h.some;
    since = omega arith;
    ticks = omega arith;
    items = omega arith;
    fine = begun.fine;
    fresh = exact_fresh had admits reach (network_in a) (fair_in a) d [] _ begun.exact;
  }

  -- rows that are those of the store at the end
  pub begun_opens : (entries : ℕ) (bs' : List B) (ls' : List ℕ) → bs' ≡ b.bounds.now → ls' ≡ b.locations.now → HasRows (network_in a) entries a.bounds.now a.locations.now → LeftAlone entries 0 a b → Opens had admits reach (network_in a) d a.bounds.now a.locations.now entries (Ok (opened entries, unspent)) bs' ls'
  begun_opens entries bs' ls' eb el h l =
      subst₂ (λ xs ys. Opens had admits reach (network_in a) d a.bounds.now a.locations.now entries (Ok (opened entries, unspent)) xs ys) (sym eb) (sym el)
      (opens h refl (begun_zeros had admits reach (network_in a) (fair_in a) d b.bounds.now b.locations.now begun.home begun.exact) (begun_belongs entries h l) l)
