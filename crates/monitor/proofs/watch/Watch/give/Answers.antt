use Rattle.std.proofs.Common.{refl, sym, ap, ◌∙◌}
use Rattle.std.specs.Prelude.{Ok}
use Rattle.monitor.specs.Following.{stopped_by_source, stopped_by_item}
use Rattle.monitor.proofs.Following.{gives_end, gives_fault, gives_on, gives_last, gives_refused}
use Rattle.monitor.proofs.watch.Watch.give.Goals as goal

pub loop-item-preserved : goal.loop-item-preserved
loop-item-preserved g c =
    let l = c.loop-item in
    record {
      gives = λ d y bs ls later. l.invariant.gives d y bs ls (gives_on _ _ _ _ d l.watch l.slip l.bounds l.locations (g.S.TraceSource.items l.source) (g.S.TraceSource.ending l.source) y bs ls c.in-Ok-Some.item (ap (λ x. Ok x) (sym c.in-Ok-Some.field-0-is) ∙ c.in-Ok-Some.ensures.answer) c.in-Going.w c.in-Going.s _ _ c.take.result c.in-Going.is (c.take.ensures.takes d) _ c.next.ensures.rest _ c.next.ensures.ending later);
      ending = c.next.ensures.ending ∙ l.invariant.ending;
    }

pub returns-in-Ended-clause-gives : goal.returns-in-Ended-clause-gives
returns-in-Ended-clause-gives g c d =
    let l = c.loop-item in
    l.invariant.gives d _ _ _ (gives_last _ _ _ _ d l.watch l.slip l.bounds l.locations (g.S.TraceSource.items l.source) (g.S.TraceSource.ending l.source) _ _ _ c.in-Ok-Some.item (ap (λ x. Ok x) (sym c.in-Ok-Some.field-0-is) ∙ c.in-Ok-Some.ensures.answer) c.in-Ended.report c.take.result c.in-Ended.is refl (c.take.ensures.takes d))

pub returns-in-Refused-clause-gives : goal.returns-in-Refused-clause-gives
returns-in-Refused-clause-gives g c d =
    let l = c.loop-item in
    l.invariant.gives d _ _ _ (gives_refused _ _ _ _ d l.watch l.slip l.bounds l.locations (g.S.TraceSource.items l.source) (g.S.TraceSource.ending l.source) _ _ _ c.in-Ok-Some.item (ap (λ x. Ok x) (sym c.in-Ok-Some.field-0-is) ∙ c.in-Ok-Some.ensures.answer) c.in-Refused.w c.in-Refused.s c.in-Refused.fault c.take.result c.in-Refused.is (ap (λ r. stopped_by_item r c.in-Refused.fault) c.stop.ensures.stops) (c.take.ensures.takes d))

pub returns-in-Ok-None-clause-gives : goal.returns-in-Ok-None-clause-gives
returns-in-Ok-None-clause-gives g c d =
    let l = c.loop-item in
    l.invariant.gives d _ _ _ (gives_end _ _ _ _ d l.watch l.slip l.bounds l.locations (g.S.TraceSource.items l.source) (g.S.TraceSource.ending l.source) _ _ _ (ap (λ x. Ok x) (sym c.in-Ok-None.field-0-is) ∙ c.in-Ok-None.ensures.answer) c.close.result c.close.ensures.closes refl refl refl)

pub returns-in-Err-clause-gives : goal.returns-in-Err-clause-gives
returns-in-Err-clause-gives g c d =
    let l = c.loop-item in
    l.invariant.gives d _ _ _ (gives_fault _ _ _ _ d l.watch l.slip l.bounds l.locations (g.S.TraceSource.items l.source) (g.S.TraceSource.ending l.source) _ _ _ c.in-Err.fault c.in-Err.ensures.answer (ap stopped_by_source c.stop-in-Err.ensures.stops) refl refl)
