use Rattle.std.{proofs.lemmas.Result.{IfOk-weaker}, proofs.Common.{◌≡◌, ◌≤◌, ◌%◌, ◌∙◌, ap, length, get_or, arith}, proofs.lemmas.List.FromFn.{length-map-range_with_len}}
use Rattle.{arrays_core.{specs.Items.{fill}, specs.Building.{listed}, specs.Shapes.{size}}, structural_fns.proofs.Runs.{built_long, all_built, all_alike}}
use Rattle.structural_fns.proofs.reshape.recycled.Goals as goal

pub into_array-requires-clause-one_item_a_place : goal.into_array-requires-clause-one_item_a_place
into_array-requires-clause-one_item_a_place c =
    built_long c.extend_with.new.self.items c.in_ok-items.items.items c.size-places.result _ c.in_ok-extend_with.ensures.items (ap (λ b. b.items) c.in_ok-items.ensures)
    ∙ c.size-places.ensures ∙ ap size c.as_slice.ensures

pub repeat_to-requires-clause-more : goal.repeat_to-requires-clause-more
repeat_to-requires-clause-more c =
    let long = built_long c.extend_run.new.items.items c.in_ok-items.items.items c.places-round.result _ c.in_ok-extend_run.ensures.items (ap (λ b. b.items) c.in_ok-items.ensures) in
    omega (arith, long, c.size-places.ensures ∙ ap size c.as_slice.ensures, c.places-round.ensures.is, c.requires.more)

pub into_array-requires-2-clause-one_item_a_place : goal.into_array-requires-2-clause-one_item_a_place
into_array-requires-2-clause-one_item_a_place c =
    ap length c.in_ok-repeat_to.ensures.items
    ∙ length-map-range_with_len (λ k. get_or c.extend_run.new.items.items (k % length c.extend_run.new.items.items) (fill c.extend_run.new.items.item_type)) 0 c.size-places.result
    ∙ c.size-places.ensures ∙ ap size c.as_slice.ensures

pub returns-then-round-le1 : goal.returns-then-round-le1
returns-then-round-le1 c =
    let b = c.args.array.now in
    let few : length b.items ≤ 1 = let test = c.if-round-le1.true in omega (arith, c.places-round.ensures.is) in
    let alike = all_alike c.extend_with.new.self.items c.in_ok-items.items.items b.items c.only_item.result (fill b.item_type) c.size-places.result c.in_ok-extend_with.ensures.items
    (ap (λ x. x.items) c.in_ok-items.ensures) c.only_item.ensures.is few in
    let typed : c.extend_with.new.self.item_type ≡ b.item_type = c.in_ok-extend_with.ensures.typed ∙ ap (λ x. x.item_type) c.in_ok-items.ensures ∙ c.item_type.ensures.is in
    IfOk-weaker c.into_array.result _ _ (λ made is. is
    ∙ ap (λ t. record { item_type = t; shape = c.args.shape.now.items; items = c.extend_with.new.self.items }) typed
    ∙ ap (λ xs. record { item_type = b.item_type; shape = c.args.shape.now.items; items = xs })
    (alike ∙ ap (λ n. listed n (λ k. get_or b.items (k % length b.items) (fill b.item_type))) (c.size-places.ensures ∙ ap size c.as_slice.ensures)))
    c.into_array.ensures

pub returns : goal.returns
returns c =
    let b = c.args.array.now in
    let all = all_built c.extend_run.new.items.items c.in_ok-items.items.items b.items (fill b.item_type) c.places-round.result c.in_ok-extend_run.ensures.items (ap (λ x. x.items) c.in_ok-items.ensures)
    c.places-round.ensures.is in
    let typed : c.extend_run.new.items.item_type ≡ b.item_type = c.in_ok-extend_run.ensures.typed ∙ ap (λ x. x.item_type) c.in_ok-items.ensures ∙ c.item_type.ensures.is in
    IfOk-weaker c.into_array-2.result _ _ (λ made is. is
    ∙ ap (λ t. record { item_type = t; shape = c.args.shape.now.items; items = c.repeat_to.new.self.items }) (c.in_ok-repeat_to.ensures.typed ∙ typed)
    ∙ ap (λ xs. record { item_type = b.item_type; shape = c.args.shape.now.items; items = xs })
    (c.in_ok-repeat_to.ensures.items
    ∙ ap (λ xs. listed c.size-places.result (λ k. get_or xs (k % length xs) (fill c.extend_run.new.items.item_type))) all
    ∙ ap (λ t. listed c.size-places.result (λ k. get_or b.items (k % length b.items) (fill t))) typed
    ∙ ap (λ n. listed n (λ k. get_or b.items (k % length b.items) (fill b.item_type))) (c.size-places.ensures ∙ ap size c.as_slice.ensures)))
    c.into_array-2.ensures
