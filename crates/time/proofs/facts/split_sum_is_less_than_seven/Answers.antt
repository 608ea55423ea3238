use Rattle.std.proofs.Common.{true, false, pos, arith}
use Rattle.time.specs.Differences.{LessThan, AtMost, Same, Sum}
use Rattle.time.specs.Split.{split_had}
use Rattle.time.specs.Sets.{same_trans, sum_same}
use Rattle.time.specs.MarkedSum.{upto_sum}
use Rattle.time.specs.SplitLaws.{split_parts}
use Rattle.time.proofs.facts.split_sum_is_less_than_seven.Goals as goal

seven : Same split_had (Sum split_had (LessThan (pos 4)) (AtMost (pos 3))) (LessThan (pos 7))
seven = record { to = upto_sum split_had true false (pos 4) (pos 3); from = split_parts true false (pos 4) (pos 3) }

pub returns : goal.returns
returns c =
    let near-four = c.less_than.ensures.near (omega arith) in
    let near-three = c.at_most.ensures.near (omega arith) in
    let summed = same_trans (c.sum.ensures.means (omega (arith, near-four, near-three))) (sum_same (c.less_than.ensures.means (omega arith)) (c.at_most.ensures.means (omega arith))) in
    record { less_than_seven = same_trans summed seven; of_the_sum = summed }
