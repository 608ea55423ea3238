use Rattle.std.proofs.Common.{◌≡◌, ℕ, ◌≤◌, List, [], length, Option, Some, None, Ok, true, false, sym, refl, ap, ◌∙◌, arith}
use Rattle.std.specs.Option.{is_some}
use Rattle.std.proofs.lemmas.Result.{err_from_is_err_and}
use Rattle.wire.specs.Reading.{taken}
use Rattle.source.specs.declared.Item.{Item}
use Rattle.source.specs.Answers.{step_answer}
use Rattle.source.specs.Reading.{record_at, items_at, ending_at}
use Rattle.source.specs.Steps.{next_of, rest_of}
use Rattle.source.proofs.Found.{item_within, last_found}
use Rattle.source.proofs.Traces.{items_more, ending_more, not_none, items_last, ending_last, items_refused, ending_refused}
use Rattle.source.proofs.recorded.RecordingTraceSource.next.Goals as goal

-- the record is an item's, or it is the last one
module _ (bytes : List ℕ) (at behind : ℕ) where
  item_taken : (r : Option Item) → record_at bytes at ≡ taken r behind → true ≡ is_some r → (Ok r ≡ next_of (items_at bytes at) (ending_at bytes at)) × (items_at bytes behind ≡ rest_of (items_at bytes at)) × (ending_at bytes behind ≡ ending_at bytes at) × (items_at bytes at ≡ [] → ⊥) × (step_answer behind (Ok r) ≡ record_at bytes at) × (behind ≤ length bytes)
  item_taken (Some item) e t =
      let i = items_more bytes at behind item e in
      (rw i, rw i, sym (ending_more bytes at behind item e), not_none bytes at behind item e, sym e, (item_within bytes at behind item e).1)
  item_taken None e t = absurd (grind arith)

  last_taken : (r : Option Item) → record_at bytes at ≡ taken r behind → false ≡ is_some r → (Ok r ≡ next_of (items_at bytes at) (ending_at bytes at)) × (items_at bytes at ≡ rest_of (items_at bytes at)) × (step_answer at (Ok r) ≡ record_at bytes at)
  last_taken (Some item) e t = absurd (grind arith)
  last_taken None e t =
      let i = items_last bytes at behind e in
      (rw (i, ending_last bytes at behind e), rw i, sym (e ∙ ap (taken None) (last_found bytes at behind e).1))

pub returns-in_err-item : goal.returns-in_err-item
returns-in_err-item c =
    let p = err_from_is_err_and c.from_residual.result c.from_residual.ensures.1 in
    let bytes = c.args.self.now.bytes.now in
    let at = c.args.self.now.at in
    let e = c.in_err-item.ensures.reads_the_record in
    let i = items_refused bytes at c.in_err-item.field-0.0 (sym e) in
    rw (p.1, p.2) record {
      answer = rw (i, ending_refused bytes at c.in_err-item.field-0.0 (sym e));
      rest = rw i;
      ending = refl;
      stays = λ _. refl;
      same_bytes = refl;
      reads_one_record = e;
    }

pub returns-then-is_some : goal.returns-then-is_some
returns-then-is_some c =
    let t = item_taken c.args.self.now.bytes.now c.args.self.now.at c.in_ok-item.behind c.in_ok-item.item (sym c.in_ok-item.ensures.reads_the_record) c.if-is_some.ensures in
    record { answer = t.0; rest = t.1; ending = t.2; stays = λ none. absurd (t.3 none); same_bytes = refl; reads_one_record = t.4 }

pub returns-else-is_some : goal.returns-else-is_some
returns-else-is_some c =
    let t = last_taken c.args.self.now.bytes.now c.args.self.now.at c.in_ok-item.behind c.in_ok-item.item (sym c.in_ok-item.ensures.reads_the_record) c.if-is_some.ensures in
    record { answer = t.0; rest = t.1; ending = refl; stays = λ _. refl; same_bytes = refl; reads_one_record = t.2 }

pub invariant_of-self : goal.invariant_of-self
invariant_of-self c = record { within = (item_taken c.args.self.now.bytes.now c.args.self.now.at c.in_ok-item.behind c.in_ok-item.item (sym c.in_ok-item.ensures.reads_the_record) c.if-is_some.ensures).5 }
