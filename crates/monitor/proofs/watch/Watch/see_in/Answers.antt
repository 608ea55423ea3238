use Rattle.monitor.proofs.Seeing.{broken_reply, taken_overrun, taken_break, taken_on}
use Rattle.monitor.proofs.watch.Watch.see_in.Goals as goal

pub returns-in-None-clause-taken : goal.returns-in-None-clause-taken
returns-in-None-clause-taken g c q d own =
    let m = g.T.TimeKind in
    let x = c.in-None.ensures in
    taken_overrun m.had m.admits m.reach c.args.store.now c.see.new.self c.args.self c.args.slip c.args.channel c.in-Some.since.count c.in-Some.ensures.so_many d own _ x.exactly_the_see c.overrun-in-None.ensures.ended x.left_alone

pub returns-in-Some-eq0-clause-taken : goal.returns-in-Some-eq0-clause-taken
returns-in-Some-eq0-clause-taken g c q d own =
    let m = g.T.TimeKind in
    let x = c.in-Some-eq0.ensures in
    let e = broken_reply c.args.self c.args.kind _ c.verdict_of.result c.end.result c.verdict_of.ensures.verdict q c.end.ensures.ended in
    taken_break m.had m.admits m.reach c.args.store.now c.see.new.self c.args.self c.args.slip c.args.channel c.in-Some.since.count c.in-Some.ensures.so_many d own _ c.in-Some-eq0.field-0 c.in-Some-eq0.field-0-test x.exactly_the_see e x.left_alone

pub returns-in-Some-see-clause-taken : goal.returns-in-Some-see-clause-taken
returns-in-Some-see-clause-taken g c q d own =
    let m = g.T.TimeKind in
    let x = c.in-Some-see.ensures in
    taken_on m.had m.admits m.reach c.args.store.now c.see.new.self c.args.self c.args.slip c.args.channel c.in-Some.since.count c.in-Some.ensures.so_many d own c.in-Some-see.count c.in-Some-see.count-test.1 x.room c.requires.below x.exactly_the_see x.left_alone
