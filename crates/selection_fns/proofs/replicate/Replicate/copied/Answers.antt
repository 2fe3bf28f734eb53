use Rattle.std.{proofs.Common.{rules, ℕ, List, All, Ok, map, ◌≡◌, ◌+◌, ◌<◌, ◌≤◌, length, get_or, subst, sym, ap, ◌∙◌, arith}, specs.Prelude.{max, sum}}
use Rattle.{arrays_core.{specs.declared.item.ItemType.{ItemType}, specs.Items.{fill}, specs.Arrays.{ArrayValue}}, function_names.specs.Axes.{axis_at}}
use Rattle.index_region.{specs.Axes.{places_along}, specs.Checks.{form_of}}
use Rattle.selection_fns.{specs.Replicate.{times, copied_place, replicate_form}, proofs.Picked.{picked_long, picked_copies}, specs.Laws.CopiedPlaces.{ReplicateGives, replicate_gives, exchanged_there}, proofs.Copies.{copies_within}, proofs.replicate.Replicate.copied.Goals.{After-deref, In_ok-before, In_ok-shape}}
use Rattle.selection_fns.proofs.replicate.Replicate.copied.Goals as goal

-- the checks have passed
passed : (c : In_ok-shape) → ReplicateGives c.args.self.along c.args.counts.now c.args.array.now c.in_ok-shape.shape.items c.in_ok-shape.item_type
passed c = replicate_gives c.args.self.along c.args.counts.now c.args.array.now c.in_ok-shape.shape.items c.in_ok-shape.item_type c.in_ok-shape.ensures.0

form_is : (c : In_ok-shape) → replicate_form c.args.self.along c.args.counts.now c.args.array.now ≡ Ok (form_of c.in_ok-shape.shape.items c.args.array.now.item_type)
form_is c = c.in_ok-shape.ensures.0 ∙ ap (λ (t : ItemType). Ok (form_of c.in_ok-shape.shape.items t)) (passed c).typed

-- the shape of the result has the axis, with a place for each copy
copies_there : (c : After-deref) → (c.axis_at-axis.result < length c.deref.result.now)
    × (get_or c.deref.result.now c.axis_at-axis.result 0 ≡ sum (times c.args.counts.now (places_along c.args.array.now.shape (axis_at (max 1 (length c.args.array.now.shape)) c.args.self.along))))
copies_there c =
    let along = c.args.self.along in
    let shape = c.args.array.now.shape in
    let known = passed (goal.at-After-deref c).In_ok-shape in
    let axis : c.axis_at-axis.result ≡ axis_at (max 1 (length shape)) along = search rules in
    let place = exchanged_there along shape (sum (times c.args.counts.now (places_along shape (axis_at (max 1 (length shape)) along)))) known.axis in
    (rw (axis, c.deref.ensures, known.shaped) place.there, rw (axis, c.deref.ensures, known.shaped) place.is)

-- the list has an entry for each copy: the number of places before it
before_is : (c : In_ok-before)
    → (length c.in_ok-before.before.items ≡ sum (times c.args.counts.now (places_along c.args.array.now.shape (axis_at (max 1 (length c.args.array.now.shape)) c.args.self.along))))
    × ((i : ℕ) → i < length c.in_ok-before.before.items
    → get_or c.in_ok-before.before.items i 0 + 1 ≡ copied_place c.args.counts.now (places_along c.args.array.now.shape (axis_at (max 1 (length c.args.array.now.shape)) c.args.self.along)) (i + 1))
before_is c =
    let items = c.in_ok-before.before.items in
    let places : c.places_along-places.result ≡ places_along c.args.array.now.shape (axis_at (max 1 (length c.args.array.now.shape)) c.args.self.along) = search rules in (
      c.in_ok-before.ensures.long ∙ (copies_there (goal.at-In_ok-before c).After-deref).1,
      subst (λ m. (i : ℕ) → i < length items → get_or items i 0 + 1 ≡ copied_place c.args.counts.now m (i + 1)) places
          (λ i h. c.in_ok-before.ensures.is i (omega (arith, c.in_ok-before.ensures.long, h))),
    )

pub bounds-deref-axis : goal.bounds-deref-axis
bounds-deref-axis c = (copies_there (goal.at.bounds-deref-axis c).After-deref).0

pub before_each_copy-requires-clause-total : goal.before_each_copy-requires-clause-total
before_each_copy-requires-clause-total c =
    let places : c.places_along-places.result ≡ places_along c.args.array.now.shape (axis_at (max 1 (length c.args.array.now.shape)) c.args.self.along) = search rules in
    rw places (copies_there (goal.at.before_each_copy-requires-clause-total c).After-deref).1

pub invariant_of-copies : goal.invariant_of-copies
invariant_of-copies c =
    let a = c.args.counts.now in
    let n = places_along c.args.array.now.shape (axis_at (max 1 (length c.args.array.now.shape)) c.args.self.along) in
    let items = c.in_ok-before.before.items in
    let here = goal.at.invariant_of-copies c in
    let places : c.places_along-places.result ≡ n = search rules in
    let before : c.as_slice-2.result.now ≡ items = search rules in
    let told = before_is here.In_ok-before in
    let within : All (λ m. m ≤ 1048576) items =
    copies_within a n (sum (times a n)) items (subst (λ m. m ≤ 1048576) places c.places_along-places.ensures.within) c.before_each_copy.ensures.few told.0 (λ i h. told.1 i (omega (arith, told.0, h))) in
    record {
      form = form_is here.In_ok-shape;
      long = rw before told.0;
      is = subst (λ xs. (i : ℕ) → i < length xs → get_or xs i 0 + 1 ≡ copied_place a n (i + 1)) (sym before) told.1;
      within = subst (λ (xs : List ℕ). All (λ m. m ≤ 1048576) xs) (sym before) within;
      rank = search rules;
    }

pub picked-requires-clause-one_item_a_place : goal.picked-requires-clause-one_item_a_place
picked-requires-clause-one_item_a_place c =
    let before : c.as_slice-then-len-le1.result.now ≡ c.in_ok-before.before.items = search rules in
    let told = before_is (goal.at.picked-requires-clause-one_item_a_place c).In_ok-before in
    rw before (picked_long c.args.self.along c.args.counts.now c.args.array.now c.in_ok-shape.shape.items c.in_ok-before.before.items c.in_ok-shape.item_type
    (search rules) c.shape-axes.ensures.sound.one_item_a_place c.in_ok-shape.ensures.0 told.0 told.1)

pub returns-then-len-le1 : goal.returns-then-len-le1
returns-then-len-le1 c =
    let b = c.args.array.now in
    let before : c.as_slice-then-len-le1.result.now ≡ c.in_ok-before.before.items = search rules in
    let few : length b.shape ≤ 1 = search rules in
    let told = before_is (goal.at.returns-then-len-le1 c).In_ok-before in
    picked_copies c.args.self.along c.args.counts.now b c.in_ok-shape.shape.items c.in_ok-before.before.items c.in_ok-shape.item_type
    few c.shape-axes.ensures.sound.one_item_a_place c.in_ok-shape.ensures.0 told.0 told.1
    ∙ sym (ap (λ (r : ArrayValue). Ok r) c.in_ok-picked.ensures
    ∙ ap (λ (xs : List ℕ). Ok (record { item_type = b.item_type; shape = c.in_ok-shape.shape.items; items = map (λ k. get_or b.items k (fill b.item_type)) xs })) before)
