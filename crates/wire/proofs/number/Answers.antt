use Rattle.std.proofs.Common.{◌≡◌, ℕ, ◌+◌, ◌*◌, ◌<◌, ◌≤◌, List, length, get_or, drop, get_or-drop, sym, ap, ◌∙◌, inl, inr, arith, rules, mul-le-mul_right}
use Rattle.wire.specs.Reading.{Outcome, judged, groups_in, number_at}
use Rattle.wire.specs.Inverse.{TakesWhatIsWritten, TakesOnlyWhatIsWritten}
use Rattle.wire.proofs.Inverse.{takes_what_is_written, takes_only_what_is_written}
use Rattle.wire.proofs.Groupwise.{pow_more, power_small, ends_there, goes_on, next_group, in_shortest_form, zero_last, above_largest}
use Rattle.wire.proofs.number.Goals as goal
use Rattle.wire.proofs.number.Goals.{After-from}

-- a group's share of the value stays far below the type's range
module _ (c : After-from) where
  share : (c.loop-i.weight ≤ 268435456) × (c.from.result * c.loop-i.weight ≤ 127 * c.loop-i.weight)
  share =
      let w : c.loop-i.weight ≤ 268435456 = rw c.loop-i.invariant.weight (power_small c.loop-i.i c.loop-i.invariant.few) in
      (w, mul-le-mul_right c.loop-i.weight (omega (arith, c.from.ensures)))

pub overflow_mul-value : goal.overflow_mul-value
overflow_mul-value c = let s = share c in search rules

pub overflow_add-value : goal.overflow_add-value
overflow_add-value c = let s = share c in let p = power_small c.loop-i.i c.loop-i.invariant.few in search rules

pub overflow_mul-weight : goal.overflow_mul-weight
overflow_mul-weight c = let s = share (goal.at-overflow_mul-weight c).After-from in search rules

pub loop-i-preserved : goal.loop-i-preserved
loop-i-preserved c =
    let v = c.loop-i.invariant in
    let s = share (goal.at-loop-i-preserved c).After-from in
    let p = pow_more c.loop-i.i in
    record {
      there = v.there;
      few = grind (arith, c.if-i-eq-MOST_BYTES.false);
      so_far = next_group 0 0 _ _ _ _ v.so_far v.weight c.from.result (c.type_inv.byte-items c.loop-i.i).fits c.from.ensures v.few c.loop-i-test.true c.if-byte-lt128.false;
      weight = ap (λ w. w * 128) v.weight ∙ sym p;
      below = omega (arith, p, s.1, v.weight, v.below);
    }

-- what is judged as the definition has it keeps what is said of the writer
keeps : (bytes : List ℕ) (at : ℕ) (rest : List ℕ) (o : Outcome ℕ) → ((i : ℕ) → get_or bytes i 0 < 256) → rest ≡ drop at bytes → judged (length bytes) at (groups_in 5 rest) ≡ o → record { reads : o ≡ number_at bytes at; takes_what_is_written : TakesWhatIsWritten bytes at o; takes_only_what_is_written : TakesOnlyWhatIsWritten bytes at o }
keeps bytes at rest o small r j =
    let e : o ≡ number_at bytes at = sym (rw (sym r) j) in
    record {
      reads = e;
      takes_what_is_written = λ n rest h d. e ∙ takes_what_is_written bytes at n rest h d;
      takes_only_what_is_written = λ n next h. takes_only_what_is_written bytes at n next small (sym e ∙ h);
    }

pub returns-then-i-gt0 : goal.returns-then-i-gt0
returns-then-i-gt0 c =
    let v = c.loop-i.invariant in
    keeps c.args.bytes.now c.args.at c.unwrap_or-byte-items.result.now _ (λ i. (c.type_inv.bytes i).fits) v.there (zero_last _ _ _ _ _ _ v.so_far v.weight c.from.result (omega arith) c.from.ensures v.few c.loop-i-test.true c.if-byte-lt128.true v.below c.if-byte-eq0.true c.if-i-gt0.true)

pub returns-in-Ok : goal.returns-in-Ok
returns-in-Ok c =
    let v = c.loop-i.invariant in
    let first : get_or c.unwrap_or-byte-items.result.now c.loop-i.i 0 ≡ 0 → c.loop-i.i ≡ 0 =
    λ z. elim c.else-byte-eq0.either [ inl w ↦ omega (arith, w.1) | inr w ↦ absurd (w z) ] in
    keeps c.args.bytes.now c.args.at c.unwrap_or-byte-items.result.now _ (λ i. (c.type_inv.bytes i).fits) v.there (in_shortest_form _ _ _ _ _ _ v.so_far v.weight c.from.result (omega arith) c.from.ensures v.few c.loop-i-test.true c.if-byte-lt128.true v.below c.in-Ok.n (omega (arith, c.in-Ok.ensures.0)) c.in-Ok.ensures.1 first)

pub returns-in-Err : goal.returns-in-Err
returns-in-Err c =
    let v = c.loop-i.invariant in
    keeps c.args.bytes.now c.args.at c.unwrap_or-byte-items.result.now _ (λ i. (c.type_inv.bytes i).fits) v.there (above_largest _ _ _ _ _ _ v.so_far v.weight c.from.result (omega arith) c.from.ensures v.few c.loop-i-test.true c.if-byte-lt128.true v.below (grind (arith, c.in-Err.ensures)))

pub returns-then-i-eq-MOST_BYTES : goal.returns-then-i-eq-MOST_BYTES
returns-then-i-eq-MOST_BYTES c =
    let v = c.loop-i.invariant in
    let octet : get_or c.unwrap_or-byte-items.result.now c.loop-i.i 0 < 256 = rw (v.there, get_or-drop) (c.type_inv.bytes (c.args.at + c.loop-i.i)).fits in
    keeps c.args.bytes.now c.args.at c.unwrap_or-byte-items.result.now _ (λ i. (c.type_inv.bytes i).fits) v.there (goes_on _ _ _ _ _ _ v.so_far v.weight c.from.result octet c.from.ensures v.few c.loop-i-test.true c.if-byte-lt128.false (omega arith))

pub returns : goal.returns
returns c =
    let v = c.loop-i.invariant in
    keeps c.args.bytes.now c.args.at c.unwrap_or-byte-items.result.now _ (λ i. (c.type_inv.bytes i).fits) v.there (ends_there _ _ _ _ _ _ v.so_far v.weight v.few (omega arith))
