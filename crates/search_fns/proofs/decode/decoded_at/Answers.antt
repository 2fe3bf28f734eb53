use Rattle.std.{proofs.Common.{◌≡◌, ◌+◌, ◌∙◌, ap, sym, map, Ok, Err, w64, rules}, specs.List.{range_with_len}, proofs.lemmas.Int.{to_z-of_z}}
use Rattle.item_fns.specs.Items.{number_item}
use Rattle.search_fns.{specs.Decode.{radix_at, digit_at, decoded, decode_item}, specs.DecodedRows.{with_one_more}, proofs.Worths.{digit_pair, all_digits}, proofs.DecodedRows.{IsOnTheWay, one_further, no_further}, proofs.decode.decoded_at.Goals.{After-with_digit}}
use Rattle.search_fns.proofs.decode.decoded_at.Goals as goal

so_far : (c : After-with_digit) → IsOnTheWay c.args.radices.now c.args.array.now c.args.index.now c.digit_count-count.result c.loop-before.before c.loop-before.value
so_far c = record { is = rw c.loop-before.value-is at c.loop-before.invariant.is }

pub loop-before-init : goal.loop-before-init
loop-before-init c = record { is = all_digits c.args.radices.now c.args.array.now c.args.index.now c.digit_count-count.result }

pub loop-before-preserved : goal.loop-before-preserved
loop-before-preserved c =
    let k = c.loop-before.before in
    let next = with_one_more c.loop-before.value (radix_at c.args.radices.now (k + 1)) (digit_at c.args.array.now c.args.index.now (k + 1)) in
    let gave : Ok c.in_ok-value.value ≡ next = rw c.loop-before.value-is at c.in_ok-value.ensures in
    rw (to_z-of_z w64 c.in_ok-value.value (search rules))
    (one_further _ _ _ _ k c.loop-before.value c.in_ok-value.value c.loop-before-test.true (sym gave) (so_far (goal.at.loop-before-preserved c).After-with_digit))

pub returns-in_err-value : goal.returns-in_err-value
returns-in_err-value c =
    let a = c.args.radices.now in
    let b = c.args.array.now in
    let index = c.args.index.now in
    let k = c.loop-before.before in
    let e = c.in_err-value.field-0.0 in
    let gave : Err e ≡ with_one_more c.loop-before.value (radix_at a (k + 1)) (digit_at b index (k + 1)) = rw c.loop-before.value-is at c.in_err-value.ensures in
    let failed : decode_item a b index ≡ Err e =
    ap (λ n. number_item (decoded (map (digit_pair a b index) (range_with_len 1 n)))) (sym c.digit_count-count.ensures)
    ∙ ap number_item (no_further a b index _ k c.loop-before.value e c.loop-before-test.true (sym gave) (so_far (goal.at.returns-in_err-value c).After-with_digit)) in
    (search rules) ∙ sym failed
