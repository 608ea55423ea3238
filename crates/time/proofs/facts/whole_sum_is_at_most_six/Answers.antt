use Rattle.std.proofs.Common.{false, pos, arith}
use Rattle.time.specs.Differences.{AtMost, LessThan, Same, Sum}
use Rattle.time.specs.Whole.{whole_had}
use Rattle.time.specs.Sets.{same_trans, sum_same}
use Rattle.time.specs.MarkedSum.{upto_sum}
use Rattle.time.specs.WholeLaws.{whole_parts, whole_less}
use Rattle.time.proofs.facts.whole_sum_is_at_most_six.Goals as goal

threes : Same whole_had (Sum whole_had (AtMost (pos 3)) (AtMost (pos 3))) (AtMost (pos 6))
threes = record { to = upto_sum whole_had false false (pos 3) (pos 3); from = whole_parts (pos 3) (pos 3) }

-- less than 4 is at most 3
six : Same whole_had (Sum whole_had (LessThan (pos 4)) (AtMost (pos 3))) (AtMost (pos 6))
six = same_trans (sum_same (whole_less (pos 4)) (record { to = λ g h d l. l; from = λ g h d l. l })) threes

pub returns : goal.returns
returns c =
    let near-four = c.less_than.ensures.near (omega arith) in
    let near-three = c.at_most.ensures.near (omega arith) in
    let summed = same_trans (c.sum.ensures.means (omega (arith, near-four, near-three))) (sum_same (c.less_than.ensures.means (omega arith)) (c.at_most.ensures.means (omega arith))) in
    record { at_most_six = same_trans summed six; of_the_sum = summed }
