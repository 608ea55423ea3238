use Rattle.std.proofs.Common.{◌≡◌, Option, Some, None, ℤ, Bool, true, false, not, inl, sym, subst, arith}
use Rattle.std.specs.Prelude.{int_lt}
use Rattle.std.proofs.lemmas.Int.{ints}
use Rattle.time.specs.Differences.{Within, Tells}
use Rattle.timetest.specs.Limit.{limit_had, limit_admits}
use Rattle.timetest.specs.LimitLaws.{limit_covers, limit_covered, limit_uncovered}
use Rattle.timetest.proofs.LimitTimeKind.covers.Goals as goal

abbrev no_less : Option ℤ → Option ℤ → Bool
no_less None p = true
no_less (Some a) None = false
no_less (Some a) (Some b) = not (int_lt a b)

told : (o p : Option ℤ) → Tells (no_less o p) (Within limit_had (limit_admits (record { last = p })) (limit_admits (record { last = o })))
told None p = record { yes = λ t g h d x. inl tt; no = λ w. tt }
told (Some a) None = record { yes = λ t. elim t [ ]; no = λ w. limit_uncovered a w }
told (Some a) (Some b) = record {
  yes = λ t. limit_covers a b (grind (arith, ints));
  no = λ w. let l = limit_covered a b w in grind (arith, ints);
}

pub returns : goal.returns
returns c =
    let e : c.is_none_or.result ≡ no_less c.args.self.last c.args.other.last = grind (arith, ints) in
    record { tells_within = subst (λ (r : Bool). Tells r (Within limit_had (limit_admits c.args.other) (limit_admits c.args.self))) (sym e) (told c.args.self.last c.args.other.last) }
