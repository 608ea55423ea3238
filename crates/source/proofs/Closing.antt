-- A recording has the end for its ending exactly when its bytes are laid out, and is refused behind its items.
use Rattle.std.proofs.Common.{◌≡◌, ℕ, zero, suc, ◌+◌, ◌<◌, ◌≤◌, ◌&&◌, eqb, leb, List, [], ◌∷◌, ◌++◌, length, drop, Option, Some, None, Result, Ok, Err, sym, refl, ap, ◌∙◌, add-zero, zero-add, arith, length-append}
use Rattle.std.specs.List.{flat_map}
use Rattle.std.proofs.lemmas.List.{append_assoc, drop_at, drop-drop}
use Rattle.std.proofs.lemmas.Bool.{cond_both}
use Rattle.wire.specs.Numbers.{largest, written}
use Rattle.wire.specs.Reading.{Outcome, taken, refused, Groups, whole, cut, endless, judged, groups_in, number_at, shortest}
use Rattle.wire.proofs.Inverse.{takes_what_is_written, takes_only_what_is_written}
use Rattle.source.specs.declared.Item.{Item}
use Rattle.source.specs.declared.Item.TheVariants.{Wait, See}
use Rattle.source.specs.declared.recorded.RecordingFault.{RecordingFault}
use Rattle.source.specs.Answers.{item_kind, item_number, recording_rule, recording_place, fault_of, ending_answer}
use Rattle.source.specs.Layout.{Octets, record_bytes, recording_layout, Writable}
use Rattle.source.specs.Reading.{item_record, last_record, record_by, record_at, Trace, trace_by, trace_from, trace_at, items_at, ending_at}
use Rattle.source.specs.Closing.{ClosesBehindItsItems, EndsOnlyAsLaidOut, EndsAsLaidOut}
use Rattle.source.proofs.Found.{tail_is, item_found, item_within, last_found}
use Rattle.source.proofs.Traces.{items_more, ending_more, items_last, ending_last}

-- a refusal's rule and place are those of its fault
abbrev Told : {X : Type 0} → Outcome X → Type 0
Told (taken x next) = Unit {0}
Told (refused rule place) = (recording_rule (fault_of rule place) ≡ rule) × (recording_place (fault_of rule place) ≡ place)

number_told : (len at : ℕ) (g : Groups) → Told (judged len at g)
number_told len at (whole v u) = cond_both (shortest v u && leb v largest) (taken v (at + u)) (refused 3 at) (Told {X = ℕ}) (λ _. tt) (λ _. (refl, refl))
number_told len at cut = (refl, refl)
number_told len at endless = (refl, refl)

item_told : (item : ℕ → Item) (o : Outcome ℕ) → Told o → Told (item_record item o)
item_told item (taken n next) h = tt
item_told item (refused rule place) h = h

last_told : (p : ℕ) (more : List ℕ) → Told (last_record p more)
last_told p [] = tt
last_told p (b ∷ more) = (refl, refl)

record_told : (bytes : List ℕ) (at : ℕ) (front : List ℕ) → Told (record_by bytes at front)
record_told bytes at [] = (refl, refl)
record_told bytes at (b ∷ more) =
    let n = number_told (length bytes) (at + 1) (groups_in 5 (drop (at + 1) bytes)) in
    cond_both (eqb b 0) _ _ (Told {X = Option Item}) (λ _. item_told Wait (number_at bytes (at + 1)) n) (λ _.
    cond_both (eqb b 1) _ _ (Told {X = Option Item}) (λ _. item_told See (number_at bytes (at + 1)) n) (λ _.
    cond_both (eqb b 2) _ _ (Told {X = Option Item}) (λ _. last_told (at + 1) more) (λ _. (refl, refl))))

fault_answer : (bytes : List ℕ) (at rule place behind : ℕ) → record_at bytes at ≡ refused rule place → record_at bytes at ≡ ending_answer behind (Err (fault_of rule place))
fault_answer bytes at rule place behind e =
    let t : Told {X = Option Item} (refused rule place) = rw e at (record_told bytes at (drop at bytes)) in
    e ∙ rw (t.0, t.1)

-- from a place on: the records of the items, what stands behind them, and that each number can be written
abbrev Closes : List ℕ → ℕ → List Item → Result (Unit {0}) RecordingFault → Type 0
Closes bytes at items ending =
    let p = at + length (flat_map record_bytes items) in
    (drop at bytes ≡ flat_map record_bytes items ++ drop p bytes) × (record_at bytes p ≡ ending_answer (p + 1) ending) × Writable items

-- the record of this item stands at a place, up to the next
abbrev Stands : List ℕ → ℕ → Item → ℕ → Type 0
Stands bytes at i next = (item_number i ≤ largest) × (drop at bytes ≡ record_bytes i ++ drop next bytes) × (next ≡ at + length (record_bytes i))

module _ (bytes : List ℕ) (octets : Octets bytes) where
  stands : (at next : ℕ) (i : Item) → record_at bytes at ≡ taken (Some i) next → Stands bytes at i next
  stands at next i e =
      let f = item_found bytes at next i e in
      let w = takes_only_what_is_written bytes (at + 1) (item_number i) next octets f.1 in
      (w.0, f.0 ∙ ap (λ xs. item_kind i ∷ xs) w.1, omega (arith, w.2))

  closes_by : (at : ℕ) (o : Outcome (Option Item)) (later : ℕ → Trace) → record_at bytes at ≡ o → ((i : Item) (next : ℕ) → record_at bytes at ≡ taken (Some i) next → Closes bytes next (later next).items (later next).ending) → Closes bytes at (trace_by o later).items (trace_by o later).ending
  closes_by at (taken (Some i) next) later e again =
      let s = stands at next i e in
      let c = again i next e in
      let js : List ℕ = flat_map record_bytes (later next).items in
      let p : at + length (record_bytes i ++ js) ≡ next + length js = rw (length-append (record_bytes i) js) (omega (arith, s.2)) in
      (s.1 ∙ rw (append_assoc (record_bytes i) js (drop (at + length (record_bytes i ++ js)) bytes), p) (ap (λ xs. record_bytes i ++ xs) c.0), rw p c.1, (s.0, c.2))
  closes_by at (taken None next) later e again = (rw (add-zero at), rw (add-zero at) (e ∙ ap (λ n. taken None n) (last_found bytes at next e).1), tt)
  closes_by at (refused rule place) later e again = (rw (add-zero at), rw (add-zero at) (fault_answer bytes at rule place (at + 1) e), tt)

  closes_from : (n at : ℕ) → at ≤ length bytes → length bytes < at + n → Closes bytes at (trace_from n bytes at).items (trace_from n bytes at).ending
  unfolding trace_from
  closes_from zero at h p = absurd (omega arith)
  closes_from (suc n) at h p =
      closes_by at (record_at bytes at) (trace_from n bytes) refl (λ i next e. let w = item_within bytes at next i e in closes_from n next w.1 (omega (arith, w.0)))

  closes_whole : Closes bytes 0 (items_at bytes 0) (ending_at bytes 0)
  unfolding items_at ending_at trace_at
  closes_whole = closes_from (suc (length bytes)) 0 (omega arith) (omega arith)

  pub closes_behind_its_items : ClosesBehindItsItems bytes (items_at bytes 0) (ending_at bytes 0)
  closes_behind_its_items =
      let z : 0 + length (flat_map record_bytes (items_at bytes 0)) ≡ length (flat_map record_bytes (items_at bytes 0)) = zero-add (length (flat_map record_bytes (items_at bytes 0))) in
      (rw z at closes_whole.0, rw z at closes_whole.1)

  pub ends_only_as_laid_out : EndsOnlyAsLaidOut bytes (items_at bytes 0) (ending_at bytes 0)
  ends_only_as_laid_out end =
      let p = length (flat_map record_bytes (items_at bytes 0)) in
      let c = closes_behind_its_items in
      let l = last_found bytes p (p + 1) (c.1 ∙ ap (ending_answer (p + 1)) end) in
      (c.0 ∙ ap (λ xs. flat_map record_bytes (items_at bytes 0) ++ xs) l.0, closes_whole.2)

  item_read : (i : Item) (at : ℕ) (more : List ℕ) → item_number i ≤ largest → drop at bytes ≡ record_bytes i ++ more → record_at bytes at ≡ taken (Some i) (at + 1 + length (written (item_number i)))
  item_read (Wait ticks) at more h e =
      rw (e, takes_what_is_written bytes (at + 1) ticks more h (sym (tail_is bytes at 0 (written ticks ++ more) e)))
  item_read (See channel) at more h e =
      rw (e, takes_what_is_written bytes (at + 1) channel more h (sym (tail_is bytes at 1 (written channel ++ more) e)))

  laid_from : (laid : List Item) (at : ℕ) → Writable laid → drop at bytes ≡ recording_layout laid → (items_at bytes at ≡ laid) × (ending_at bytes at ≡ (Ok tt))
  laid_from [] at w e = let r : record_at bytes at ≡ taken None (at + 1) = rw e in (items_last bytes at (at + 1) r, ending_last bytes at (at + 1) r)
  laid_from (i ∷ is) at w e =
      let len = length (written (item_number i)) in
      let d : drop at bytes ≡ record_bytes i ++ recording_layout is = e ∙ append_assoc (record_bytes i) (flat_map record_bytes is) (2 ∷ []) in
      let r : record_at bytes at ≡ taken (Some i) (at + 1 + len) = item_read i at (recording_layout is) w.0 d in
      let rest : drop (at + 1) bytes ≡ written (item_number i) ++ recording_layout is = sym (tail_is bytes at (item_kind i) (written (item_number i) ++ recording_layout is) d) in
      let more : drop (at + 1 + len) bytes ≡ recording_layout is = sym (drop-drop len (at + 1) bytes) ∙ ap (drop len) rest ∙ drop_at (written (item_number i)) (recording_layout is) len refl in
      let t = laid_from is (at + 1 + len) w.1 more in
      (items_more bytes at (at + 1 + len) i r ∙ ap (λ xs. i ∷ xs) t.0, ending_more bytes at (at + 1 + len) i r ∙ t.1)

  pub ends_as_laid_out : EndsAsLaidOut bytes (items_at bytes 0) (ending_at bytes 0)
  ends_as_laid_out laid w e = laid_from laid 0 w e
