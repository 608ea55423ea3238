-- What has the sees and ticks of a run has those of its earlier parts.
use Rattle.std.proofs.Common.{◌≡◌, ℕ, ◌+◌, ◌*◌, ◌≤◌, false, List, [], ◌∷◌, ◌++◌, sym, subst, subst₂, inl, inr, append_assoc, append-nil, mul-le-mul_left, arith}
use Rattle.source.specs.declared.Item.{Item}
use Rattle.model.specs.Model.{Model}
use Rattle.runs.specs.Kinds.{Kind}
use Rattle.runs.specs.Runs.{last_tick, RunHas}
use Rattle.runs.specs.Traces.{ticks, sees_from, sees, HasTrace, BreakTick}
use Rattle.runs.proofs.Scales.{le_or_lt}
use Rattle.runs.proofs.Fair.{Fair}
use Rattle.runs.proofs.Running.{has_run}
use Rattle.runs.proofs.AfterSee.{came_right}
use Rattle.runs.proofs.Onwards.{run_onward, onward_run}
use Rattle.runs.proofs.Cutting.{cut_to}
use Rattle.monitor.proofs.Words.{next_tick, next_after, ticks_more, sees_more, last_see_within}

module _ (K : Kind) (N : Model) where
  -- a run is at any earlier tick, from its last see on
  pub run_earlier : Fair N → (S : List (ℕ × ℕ)) (T U : ℕ) → last_tick S ≤ U → U ≤ T → RunHas K N S T → RunHas K N S U
  run_earlier F S T U h l r =
      let o = cut_to K N F false r.grain r.is_grain S r.place r.readings (r.grain * T) U h (mul-le-mul_left r.grain l) (run_onward N r.grain S r.place r.readings (r.grain * T) (has_run N K S T r)) in
      let z = onward_run N o.grain S o.place o.readings (o.grain * U) o.onward in
      record { grain = o.grain; is_grain = o.is_grain; acts = z.acts; place = o.place; readings = o.readings; run = z.leads; word = z.word }

  -- right after its last see it was one too
  pub run_last : (S : List (ℕ × ℕ)) (T : ℕ) → RunHas K N S T → RunHas K N S (last_tick S)
  run_last S T r =
      let o = run_onward N r.grain S r.place r.readings (r.grain * T) (has_run N K S T r) in
      record { grain = r.grain; is_grain = r.is_grain; acts = o.after.acts; place = o.place; readings = o.readings; run = o.after.run; word = o.after.word }

  -- and before that see one with the sees before
  run_before : (S : List (ℕ × ℕ)) (x : ℕ × ℕ) (T : ℕ) → RunHas K N (S ++ (x ∷ [])) T → RunHas K N S x.0
  run_before S x T r =
      let o = run_onward N r.grain (S ++ (x ∷ [])) r.place r.readings (r.grain * T) (has_run N K (S ++ (x ∷ [])) T r) in
      let c = came_right N r.grain S x o.place o.readings o.after in
      record { grain = r.grain; is_grain = r.is_grain; acts = c.way.acts; place = c.place; readings = c.readings; run = c.way.leads; word = c.way.word }

  -- so with any sees before
  pub run_part : (S R : List (ℕ × ℕ)) (T : ℕ) → RunHas K N (S ++ R) T → RunHas K N S (next_tick R T)
  run_part S [] T r = subst (λ X. RunHas K N X T) (append-nil S) r
  run_part S (x ∷ R) T r = run_before S x (next_tick R T) (run_part (S ++ (x ∷ [])) R T (subst (λ X. RunHas K N X T) (sym (append_assoc S (x ∷ []) R)) r))

  module _ (F : Fair N) where
    -- so it is with traces
    pub trace_part : (t u : List Item) → HasTrace K N (t ++ u) → HasTrace K N t
    trace_part t u r =
        run_earlier F (sees t) (next_tick (sees_from (ticks t) u) (ticks t + ticks u)) (ticks t) (last_see_within t) (next_after (ticks t) u)
        (run_part (sees t) (sees_from (ticks t) u) (ticks t + ticks u) (subst₂ (RunHas K N) (sees_more t u) (ticks_more t u) r))

    -- no run goes past the break tick
    pub not_past : (t : List Item) (b T : ℕ) → BreakTick K N t b → b ≤ T → ¬ (RunHas K N (sees t) T)
    not_past t b T x l r = x.never (run_earlier F (sees t) T b x.after l r)

  -- there is one break tick
  pub one_break : (t : List Item) (b c : ℕ) → BreakTick K N t b → BreakTick K N t c → b ≡ c
  one_break t b c x y =
      elim (le_or_lt b c) [
        | inl p ↦ elim (le_or_lt c b) [ inl q ↦ omega arith | inr q ↦ absurd (x.never (y.before b x.after q)) ]
        | inr p ↦ absurd (y.never (x.before c y.after p))
      ]
