use Rattle.std.proofs.Common.{◌≡◌, ◌+◌, Option, Some, None, ℤ, inl, inr, sym, subst, arith}
use Rattle.std.proofs.lemmas.Int.{ints}
use Rattle.time.specs.Differences.{Same, Sum, ReachRange}
use Rattle.time.specs.Numbers.{added, added_small, small_fits}
use Rattle.timetest.specs.Limit.{limit_had, limit_admits, limit_reach}
use Rattle.timetest.specs.LimitLaws.{free, ending, limit_sum_free, limit_sum_to}
use Rattle.timetest.proofs.LimitTimeKind.sum.Goals as goal

abbrev both_added : Option ℤ → Option ℤ → Option ℤ
both_added None p = None
both_added (Some a) None = None
both_added (Some a) (Some b) = Some (added a b)

means : (o p : Option ℤ) → ReachRange (limit_reach (record { last = o }) + limit_reach (record { last = p })) → Same limit_had (limit_admits (record { last = both_added o p })) (Sum limit_had (limit_admits (record { last = o })) (limit_admits (record { last = p })))
means None p l = limit_sum_free free (record { last = p }) (inl tt)
means (Some a) None l = limit_sum_free (ending a) free (inr tt)
means (Some a) (Some b) l = limit_sum_to a b (added a b) (added_small a b (small_fits a (omega arith)) (small_fits b (omega arith)) l)

pub returns-clause-means : goal.returns-clause-means
returns-clause-means c l =
    let e : c.map.result ≡ both_added c.args.self.last c.args.other.last = grind (arith, ints) in
    subst (λ (o : Option ℤ). Same limit_had (limit_admits (record { last = o })) (Sum limit_had (limit_admits c.args.self) (limit_admits c.args.other))) (sym e) (means c.args.self.last c.args.other.last l)
