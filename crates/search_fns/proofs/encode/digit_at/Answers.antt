use Rattle.std.{proofs.Common.{◌≡◌, ◌-◌, List, ℕ, true, take, drop, length, get_or, ap, sym, ◌∙◌, w64, SFits, arith, rules}, proofs.lemmas.Int.{to_z-of_z}, proofs.lemmas.List.{length-drop, take_all, get_or_default}}
use Rattle.{arrays_core.{specs.Shapes.{is_index_of}, specs.Arrays.{item_of}}, index_region.specs.Arguments.{numbers, number_of}}
use Rattle.{change_core.proofs.UsedWays.{index-drop}, item_fns.specs.Items.{number_item}}
use Rattle.search_fns.{specs.Encode.{digit}, proofs.Radices.{InFront, encode_inside, encode_rank, in_front}, proofs.encode.digit_at.Goals.{Else-rank-eq0}}
use Rattle.search_fns.proofs.encode.digit_at.Goals as goal

the_rest : (index : List ℕ) → take (length index - 1) (drop 1 index) ≡ drop 1 index
the_rest index = take_all (length index - 1) (drop 1 index) (omega (arith, length-drop 1 index))

module _ (c : Else-rank-eq0) where
  -- the radices are a vector
  one : length c.args.radices.now.shape ≡ 1
  one = omega (arith, encode_rank c.args.radices.now c.args.array.now c.args.index.now c.requires, c.if-rank-eq0.false, c.len-rank.ensures.value, ap length c.shape.ensures.is)

  front : InFront c.args.radices.now.shape c.args.index.now
  front = in_front _ c.args.array.now.shape _ one (encode_inside c.args.radices.now c.args.array.now c.args.index.now c.requires)

pub number_at-requires-2 : goal.number_at-requires-2
number_at-requires-2 c =
    let inside = encode_inside c.args.radices.now c.args.array.now c.args.index.now c.requires in
    let rest : is_index_of c.args.array.now.shape (drop 1 c.args.index.now) ≡ true =
    rw (one (goal.at.number_at-requires-2 c).Else-rank-eq0) at (index-drop c.args.radices.now.shape c.args.array.now.shape c.args.index.now inside) in
    rw the_rest (search rules)

pub digit-requires-2-clause-low : goal.digit-requires-2-clause-low
digit-requires-2-clause-low c = (front (goal.at.digit-requires-2-clause-low c).Else-rank-eq0).low

pub digit-requires-2-clause-high : goal.digit-requires-2-clause-high
digit-requires-2-clause-high c = omega (arith, (front (goal.at.digit-requires-2-clause-high c).Else-rank-eq0).high, c.shape.ensures.sound.one_item_a_place)

pub returns : goal.returns
returns c =
    let here = (goal.at.returns c).Else-rank-eq0 in
    let a = c.args.radices.now in
    let b = c.args.array.now in
    let index = c.args.index.now in
    let fits : SFits w64 c.number_at-2.result = record { sfits = c.number_at-2.type_inv } in
    let number = c.number_at-2.ensures ∙ ap (λ at. number_of (item_of b at)) (the_rest index) in
    rw (one here) (ap number_item (rw (to_z-of_z w64 _ fits) at c.digit-2.ensures) ∙ ap (λ z. number_item (digit (numbers a) (get_or index 0 0) z)) number
    ∙ ap (λ k. number_item (digit (numbers a) k (number_of (item_of b (drop 1 index))))) (sym (get_or_default index 0 1 0 (front here).some)))
