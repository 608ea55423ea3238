use Rattle.std.proofs.Common.{◌≡◌, ◌≢◌, ℕ, ◌<◌, ◌≤◌, List, length, take, get_or, nat_eq, sym, ap, ◌∙◌, arith, rules}
use Rattle.std.proofs.lemmas.List.Sums.{position_or_len_is}
use Rattle.report.specs.Line.{text_of}
use Rattle.report.proofs.text.Goals as goal

front_is_text : (row front : List ℕ) (n : ℕ) → front ≡ take n row → n ≤ length row → ((k : ℕ) → k < n → get_or row k 0 ≢ 0) → (n < length row → get_or row n 0 ≡ 0) → front ≡ text_of row
front_is_text row front n e within none zero =
    e ∙ ap (λ m. take m row) (sym (position_or_len_is (λ b. nat_eq b 0) row n 0 within (λ k l. grind (arith, none k l)) (λ l. grind (arith, zero l))))

pub returns-clause-before_zero : goal.returns-clause-before_zero
returns-clause-before_zero c =
    let told = c.text_length.ensures in
    front_is_text c.args.row.now _ c.text_length.result (search rules) told.within told.no_zero_before told.then_zero
