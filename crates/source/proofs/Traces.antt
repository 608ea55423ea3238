-- The trace of a recording, record by record.
use Rattle.std.proofs.Common.{◌≡◌, ℕ, zero, suc, ◌+◌, ◌<◌, List, [], ◌∷◌, length, Option, Some, None, Ok, Err, sym, refl, ap, ◌∙◌, arith}
use Rattle.std.proofs.lemmas.List.{drop_all}
use Rattle.wire.specs.Reading.{Outcome, taken, refused}
use Rattle.wire.specs.declared.ByteFault.TheVariants.{Ends, Form}
use Rattle.source.specs.declared.Item.{Item}
use Rattle.source.specs.declared.recorded.RecordingFault.{RecordingFault}
use Rattle.source.specs.declared.recorded.RecordingFault.TheVariants.{Byte, FirstByte, LeftOver}
use Rattle.source.specs.Answers.{recording_rule, recording_place, fault_of}
use Rattle.source.specs.Reading.{record_at, Trace, trace_by, trace_from, trace_at, items_at, ending_at}
use Rattle.source.proofs.Found.{item_within}

fault_again : (f : RecordingFault) → fault_of (recording_rule f) (recording_place f) ≡ f
fault_again (Byte (Ends place)) = refl
fault_again (Byte (Form place)) = refl
fault_again (FirstByte place) = refl
fault_again (LeftOver place) = refl

by_record : (o : Outcome (Option Item)) (X Y : ℕ → Trace) → ((i : Item) (next : ℕ) → o ≡ taken (Some i) next → X next ≡ Y next) → trace_by o X ≡ trace_by o Y
by_record (taken (Some i) next) X Y same = rw (same i next refl)
by_record (taken None next) X Y same = refl
by_record (refused rule place) X Y same = refl

module _ (bytes : List ℕ) where
  none_past : (m at : ℕ) → length bytes < at → trace_from (suc m) bytes at ≡ trace_from 0 bytes at
  unfolding trace_from
  none_past m at h = rw (drop_all at bytes (omega arith))

  -- any bound above the count of the bytes that are left gives the same trace
  enough : (n m at : ℕ) → length bytes < at + n → length bytes < at + m → trace_from n bytes at ≡ trace_from m bytes at
  unfolding trace_from
  enough zero zero at p q = refl
  enough zero (suc m) at p q = sym (none_past m at (omega arith))
  enough (suc n) zero at p q = none_past n at (omega arith)
  enough (suc n) (suc m) at p q =
      by_record (record_at bytes at) (trace_from n bytes) (trace_from m bytes) (λ i next e. let w = item_within bytes at next i e in enough n m next (omega (arith, w.0)) (omega (arith, w.0)))

  module _ (at : ℕ) where
    trace_more : (next : ℕ) (i : Item) → record_at bytes at ≡ taken (Some i) next → trace_at bytes at ≡ record { items = i ∷ (trace_at bytes next).items; ending = (trace_at bytes next).ending }
    unfolding trace_at trace_from
    trace_more next i e =
        let w = item_within bytes at next i e in
        rw (e, enough (length bytes) (suc (length bytes)) next (omega (arith, w.0)) (omega arith))

    trace_last : (next : ℕ) → record_at bytes at ≡ taken None next → trace_at bytes at ≡ record { items = []; ending = (Ok tt) }
    unfolding trace_at trace_from
    trace_last next e = rw e

    trace_refused : (rule place : ℕ) → record_at bytes at ≡ refused rule place → trace_at bytes at ≡ record { items = []; ending = Err (fault_of rule place) }
    unfolding trace_at trace_from
    trace_refused rule place e = rw e

    -- an item comes first
    module _ (next : ℕ) (i : Item) (e : record_at bytes at ≡ taken (Some i) next) where
      pub items_more : items_at bytes at ≡ i ∷ items_at bytes next
      unfolding items_at
      items_more = ap (λ (t : Trace). t.items) (trace_more next i e)

      pub ending_more : ending_at bytes at ≡ ending_at bytes next
      unfolding ending_at
      ending_more = ap (λ (t : Trace). t.ending) (trace_more next i e)

      pub not_none : items_at bytes at ≡ [] → ⊥
      not_none none =
          let some : i ∷ items_at bytes next ≡ [] = sym items_more ∙ none in
          grind arith

    -- the last record comes first
    module _ (next : ℕ) (e : record_at bytes at ≡ taken None next) where
      pub items_last : items_at bytes at ≡ []
      unfolding items_at
      items_last = ap (λ (t : Trace). t.items) (trace_last next e)

      pub ending_last : ending_at bytes at ≡ (Ok tt)
      unfolding ending_at
      ending_last = ap (λ (t : Trace). t.ending) (trace_last next e)

    -- what comes first is refused
    module _ (f : RecordingFault) (e : record_at bytes at ≡ refused (recording_rule f) (recording_place f)) where
      pub items_refused : items_at bytes at ≡ []
      unfolding items_at
      items_refused = ap (λ (t : Trace). t.items) (trace_refused (recording_rule f) (recording_place f) e)

      pub ending_refused : ending_at bytes at ≡ Err f
      unfolding ending_at
      ending_refused = ap (λ (t : Trace). t.ending) (trace_refused (recording_rule f) (recording_place f) e) ∙ ap Err (fault_again f)
