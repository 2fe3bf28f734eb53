use Rattle.std.proofs.Common.{◌≡◌, ◌∙◌, ◌+◌, ◌-◌, ◌/◌, ◌++◌, ◌∷◌, [], ap, sym, subst, arith, length, take, drop, slice_index_or, ℕ, List}
use Rattle.{arrays_core.{specs.Arrays.{ArrayValue}, specs.Shapes.{size}}, index_region.specs.Boxes.{Interval, box_size}}
use Rattle.change_core.{proofs.Filling.{few_places, vector_within}, specs.Parts.{items_in}}
use Rattle.search_fns.{specs.Encode.{encode_item}, specs.Digits.{AreColumns}, proofs.BoxDigits.{DigitBox, AreDigits, digit_box, columns_in, digits_hold, digits_long, digits_typed}, proofs.digits.digits_at_once.Goals.{After-as_slice, After-size-places, After-shape_of-left, After-shape_of-shape}}
use Rattle.search_fns.proofs.digits.digits_at_once.Goals as goal

one_axis : (shape : List ℕ) (n : ℕ) → shape ≡ n ∷ [] → size shape ≡ n
one_axis shape n is = rw is (omega arith)

box : (c : After-as_slice) → DigitBox c.args.radices.now.shape c.args.array.now.shape (length c.args.radices.now.items) c.as_slice.result.now c.args.region.now
box c = digit_box _ _ _ _ _ c.requires.vector c.requires.sound.one_item_a_place c.requires.fit c.as_slice.ensures.is

-- the columns of the box
row : (c : After-size-places) → DigitBox c.args.radices.now.shape c.args.array.now.shape (length c.args.radices.now.items) c.as_slice.result.now c.args.region.now
    → c.size-places.result / ((slice_index_or c.as_slice.result.now 0 (0, 0)).1 + 1 - (slice_index_or c.as_slice.result.now 0 (0, 0)).0) ≡ box_size (drop 1 c.args.region.now)
row c whole =
    ap (λ (t : Interval). c.size-places.result / (t.1 + 1 - t.0)) whole.read_is ∙ ap (λ n. n / (whole.first.1 + 1 - whole.first.0)) (c.size-places.ensures ∙ ap box_size whole.is)
    ∙ columns_in whole.first whole.later whole.order whole.some ∙ sym (ap (λ (r : List Interval). box_size (drop 1 r)) whole.is)

-- the radices from the first one of the box on
left : (c : After-shape_of-left) (whole : DigitBox c.args.radices.now.shape c.args.array.now.shape (length c.args.radices.now.items) c.as_slice.result.now c.args.region.now)
    → c.shape_of-left.result.items ≡ (whole.count + 1 - whole.first.0) ∷ []
left c whole = c.shape_of-left.ensures.items ∙ ap (λ k. k ∷ []) (omega (arith, c.places.ensures.is, whole.many, ap (λ (t : Interval). t.0) whole.read_is))

module _ (c : After-shape_of-shape)
    (whole : DigitBox c.args.radices.now.shape c.args.array.now.shape (length c.args.radices.now.items) c.as_slice.result.now c.args.region.now) where
  are : c.shape_of-left.result.items ≡ (whole.count + 1 - whole.first.0) ∷ []
      → AreDigits c.args.radices.now c.args.array.now c.in-Ok.after c.in_ok-numbers.numbers c.in-Ok-encoded.digits c.as_slice.result.now c.args.region.now whole
  are left = record {
    left_shape = ap (λ (d : ArrayValue). d.shape) c.in-Ok.ensures ∙ left;
    left_items = ap (λ (d : ArrayValue). d.items) c.in-Ok.ensures
        ∙ ap (λ k. take k (drop ((slice_index_or c.as_slice.result.now 0 (0, 0)).0 - 1) c.args.radices.now.items)) (one_axis _ _ left)
        ∙ ap (λ (t : Interval). take (whole.count + 1 - whole.first.0) (drop (t.0 - 1) c.args.radices.now.items)) whole.read_is;
    columns = subst (λ (r : List Interval). AreColumns c.args.array.now (drop 1 r) c.in_ok-numbers.numbers) whole.is c.in_ok-numbers.ensures;
    made = rw c.in-Ok-encoded.is at c.encoded.ensures;
  }

  all : size c.shape_of-shape.result.items ≡ box_size (whole.first ∷ whole.later)
  all = one_axis _ _ c.shape_of-shape.ensures.items ∙ c.size-places.ensures ∙ ap box_size whole.is

pub size-places-requires : goal.size-places-requires
size-places-requires c = omega (arith, few_places c.args.region.now (c.args.radices.now.shape ++ c.args.array.now.shape) c.requires.fit c.requires.within)

pub overflow_cast-places : goal.overflow_cast-places
overflow_cast-places c =
    omega (arith, few_places c.args.region.now (c.args.radices.now.shape ++ c.args.array.now.shape) c.requires.fit c.requires.within, c.size-places.ensures)

pub column_numbers-requires-clause-row : goal.column_numbers-requires-clause-row
column_numbers-requires-clause-row c =
    let here = goal.at.column_numbers-requires-clause-row c in
    row here.After-size-places (box here.After-as_slice)

pub column_numbers-requires-clause-some : goal.column_numbers-requires-clause-some
column_numbers-requires-clause-some c =
    let here = goal.at.column_numbers-requires-clause-some c in
    let whole = box here.After-as_slice in
    omega (arith, row here.After-size-places whole, ap (λ (r : List Interval). box_size (drop 1 r)) whole.is, whole.some)

pub column_numbers-requires-clause-few : goal.column_numbers-requires-clause-few
column_numbers-requires-clause-few c =
    omega (arith, few_places c.args.region.now (c.args.radices.now.shape ++ c.args.array.now.shape) c.requires.fit c.requires.within)

pub overflow_sub-places : goal.overflow_sub-places
overflow_sub-places c =
    let whole = box (goal.at.overflow_sub-places c).After-as_slice in
    omega (arith, c.places.ensures.is, whole.many, ap (λ (t : Interval). t.0) whole.read_is, whole.order, whole.high)

pub part-requires-clause-inside : goal.part-requires-clause-inside
part-requires-clause-inside c =
    let here = goal.at.part-requires-clause-inside c in
    let whole = box here.After-as_slice in
    omega (arith, one_axis _ _ (left here.After-shape_of-left whole), ap (λ (t : Interval). t.0) whole.read_is, whole.many, whole.low, whole.order, whole.high)

pub part-requires-2-clause-within : goal.part-requires-2-clause-within
part-requires-2-clause-within c =
    vector_within _ _ c.shape_of-shape.ensures.items (omega (
      arith,
      few_places c.args.region.now (c.args.radices.now.shape ++ c.args.array.now.shape) c.requires.fit
          c.requires.within,
      c.size-places.ensures,
    ))

pub part-requires-2-clause-inside : goal.part-requires-2-clause-inside
part-requires-2-clause-inside c =
    let here = goal.at.part-requires-2-clause-inside c in
    let whole = box here.After-as_slice in
    omega (arith, all here.After-shape_of-shape whole, digits_long _ _ _ _ _ _ _ whole (are here.After-shape_of-shape whole (left here.After-shape_of-left whole)))

pub returns : goal.returns
returns c =
    let here = goal.at.returns c in
    let whole = box here.After-as_slice in
    let are = are here.After-shape_of-shape whole (left here.After-shape_of-left whole) in
    let items = ap (λ (d : ArrayValue). d.items) c.in-Ok-part.ensures ∙ ap (λ k. take k c.in-Ok-encoded.digits.items) (all here.After-shape_of-shape whole) in (
      ap (items_in (encode_item c.args.radices.now c.args.array.now)) whole.is ∙ digits_hold _ _ _ _ _ _ _ whole are c.in-Ok-part.digits.items items,
      ap (λ (d : ArrayValue). d.item_type) c.in-Ok-part.ensures ∙ digits_typed _ _ _ _ _ _ _ whole are,
    )
