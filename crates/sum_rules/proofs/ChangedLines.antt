-- The lines of an array, some of which have one new number.
use Rattle.std.{proofs.Common.{◌≡◌, ◌≢◌, ℕ, ◌+◌, ◌-◌, ◌*◌, ◌/◌, ◌<◌, ◌≤◌, ℤ, pos, true, false, List, length, get_or, set, map, remove, insert, refl, ap, sym, subst, ◌∙◌, arith, nat_eq, inl, inr}, proofs.lemmas.Bool.{cases_Bool, cond-true, cond-false, eqb-true, eqb-false}}
use Rattle.std.{proofs.lemmas.List.{length-map, get_or_default, get_or-set_same, get_or-set_other}, proofs.Math.ListN.{get_or-map}, proofs.Math.Nat.{mul-div_cancel}}
use Rattle.arrays_core.{specs.declared.item.Item.{Item}, specs.declared.item.Item.TheVariants.{Num, Char}, specs.declared.item.ItemType.TheVariants.{Nums}, specs.Arrays.{ArrayValue, item_of}, specs.Items.{fill, type_of}, specs.Shapes.{size, is_index_of, places_before}, proofs.Shapes.{places_below}}
use Rattle.function_names.{specs.declared.scalar.Scalar2.{Scalar2}, specs.declared.along.Along.{Along}}
use Rattle.item_fns.{specs.Folds.{strided, line_start}, specs.RightFold.{fold_right}}
use Rattle.index_region.{specs.Arguments.{number_of}, specs.Boxes.{Interval, box_size, box_offset, is_within, walk_at}, specs.Patches.{PatchValue, IsPatch, FitsPatch, patched, patched_item}, proofs.Boxes.{fits_length}, proofs.Patched.{fits_within, patched_at}}
use Rattle.index_region.proofs.Walks.{offset_below, offset_of_walk, walk_of_offset, walk_within}
use Rattle.fold_trees.specs.ArrayLines.{TreesValue, line_through, numbers_through, with_number}
use Rattle.reduce_fns.{specs.Laws.LineIndices.{inside}, proofs.Lines.{long_with_axis, remove_inserted, stride}, proofs.Reduced.{start_is}, specs.Lines.{line}}
use Rattle.sum_rules.{specs.LineSums.{StandFor, array_of_shape, line_length, line_step}, specs.Totals.{StoodFor, is_one_a_line, box_of_lines}, proofs.OneAxis.{FitsAxis, fits_axis, size_with_one, walk_with_one, within_axis}, proofs.KeptLines.{line_of_numbers}, proofs.Lines.{line_through_place, some_step}}

-- an item of numbers is its number
pub number_item_is : (x : Item) → type_of x ≡ Nums → x ≡ Num (number_of x)
number_item_is (Num z) h = refl
number_item_is (Char c) h = absurd (let no : ⊥ = cc in no)

-- equal places have equal steps
same_steps : (first step i j : ℕ) → 0 < step → first + i * step ≡ first + j * step → i ≡ j
same_steps first step i j some e =
    sym (mul-div_cancel i some) ∙ ap (λ k. k / step) (omega (arith, e)) ∙ mul-div_cancel j some

module _ (axis : ℕ) (t : TreesValue) (a : ArrayValue) (p : PatchValue) (stand : StandFor t axis a) (fit : FitsPatch a p) (one : is_one_a_line axis p.region ≡ true) where
  abbrev n : ℕ
  n = line_length axis a.shape

  abbrev step : ℕ
  step = line_step axis a.shape

  abbrev others : List ℕ
  others = remove a.shape axis

  abbrev s : Interval
  s = get_or p.region axis (1, 0)

  abbrev region : List Interval
  region = box_of_lines axis p.region

  as_many_axes : length p.region ≡ length a.shape
  as_many_axes = fits_length p.region a.shape fit.inside

  on_region : axis < length p.region
  on_region = omega (arith, stand.there, as_many_axes)

  same_last : s.0 ≡ s.1
  same_last = eqb-true _ _ one

  some : 0 < step
  some = some_step axis a.shape stand.some

  pub fits_axes : FitsAxis axis p.region a.shape
  fits_axes = fits_axis axis p.region a.shape stand.there fit.inside

  pub as_many_lines : box_size p.region ≡ box_size region
  as_many_lines = size_with_one axis p.region on_region same_last

  -- the line through a place of the box
  module _ (before : ℕ) (below : before < box_size region) where
    on_others : is_index_of others (walk_at region before) ≡ true
    on_others = fits_within region others (walk_at region before) fits_axes.rest (walk_within region before below)

    long : length (walk_at region before) + 1 ≡ length a.shape
    long = long_with_axis a.shape (walk_at region before) axis stand.there on_others

    new_index : walk_at p.region before ≡ insert (walk_at region before) axis s.0
    new_index = walk_with_one axis p.region before on_region same_last below

    pub line_there : remove (walk_at p.region before) axis ≡ walk_at region before
    line_there = ap (λ (i : List ℕ). remove i axis) new_index ∙ remove_inserted axis s.0 (walk_at region before) (omega (arith, long, stand.there))

  -- the total of this line
  module _ (sound : IsPatch p) (before : ℕ) (below : before < box_size region) where
    abbrev index : List ℕ
    index = walk_at region before

    abbrev z : ℤ
    z = number_of (get_or p.items before (fill p.item_type))

    abbrev first : ℕ
    first = places_before a.shape (insert index axis 1)

    abbrev place : ℕ
    place = places_before a.shape (walk_at p.region before)

    inside_shape : (j : ℕ) → 1 ≤ j → j ≤ n → is_index_of a.shape (insert index axis j) ≡ true
    inside_shape j low high = inside axis a.shape index j stand.there (on_others before below) low high

    low_high : (1 ≤ s.0) × (s.0 ≤ n)
    low_high = (fits_axes.low, omega (arith, fits_axes.high, same_last))

    place_at : (k : ℕ) → places_before a.shape (insert index axis (k + 1)) ≡ first + k * step
    place_at k =
        stride axis a.shape index (k + 1) stand.there (long before below) ∙ ap (λ m. first + m * step) (omega arith)

    -- the place of the new number
    new_place : place ≡ first + (s.0 - 1) * step
    new_place =
        ap (places_before a.shape) (new_index before below ∙ ap (insert index axis) (omega (arith, low_high.0))) ∙ place_at (s.0 - 1)

    -- the start of its line
    first_is : line_start t.step t.count (line_through t.count t.step place) ≡ first
    first_is =
        let which = places_before others index in
        let start : first ≡ line_start step n which = start_is axis a.shape index stand.there (on_others before below) some in
        let through : line_through n step place ≡ which =
        ap (line_through n step) (new_place ∙ ap (λ m. m + (s.0 - 1) * step) start) ∙ line_through_place n step which (s.0 - 1) some (omega (arith, low_high.0, low_high.1)) in
        (λ i. line_start (stand.apart i) (stand.counted i) (line_through (stand.counted i) (stand.apart i) place))
        ∙ ap (line_start step n) through
        ∙ sym start

    place_below : place < length t.numbers
    place_below =
        let within = places_below a.shape (walk_at p.region before) (ap (is_index_of a.shape) (new_index before below) ∙ inside_shape s.0 low_high.0 low_high.1) in
        let many : length t.numbers ≡ size a.shape =
        sym (length-map t.numbers (λ (y : ℤ). Num y)) ∙ sym (ap (λ (b : ArrayValue). length b.items) stand.is) ∙ stand.sound.one_item_a_place in
        omega (arith, within, many)

    abbrev numbers_now : List ℤ
    numbers_now = set t.numbers place z

    old_item : (k : ℕ) → item_of a (insert index axis (k + 1)) ≡ Num (get_or t.numbers (first + k * step) (pos 0))
    old_item k =
        ap (λ (b : ArrayValue). get_or b.items (places_before a.shape (insert index axis (k + 1))) (fill b.item_type)) stand.is
        ∙ ap (λ m. get_or (map (λ (y : ℤ). Num y) t.numbers) m (Num (pos 0))) (place_at k)
        ∙ get_or-map (λ (y : ℤ). Num y) t.numbers (first + k * step) (pos 0)

    new_item : item_of (patched a p) (insert index axis s.0) ≡ Num z
    new_item =
        let inside_box : before < box_size p.region = rw as_many_lines below in
        let typed : type_of (get_or p.items before (fill p.item_type)) ≡ Nums = sound.one_type before (fill p.item_type) (omega (arith, sound.one_item_a_place)) ∙ fit.typed ∙ ap (λ (b : ArrayValue). b.item_type) stand.is in
        patched_at a p (insert index axis s.0) (inside_shape s.0 low_high.0 low_high.1)
        ∙ ap (patched_item a p) (sym (new_index before below))
        ∙ cond-true _ _ _ (walk_within p.region before inside_box)
        ∙ ap (λ m. get_or p.items m (fill p.item_type)) (offset_of_walk p.region before inside_box)
        ∙ number_item_is (get_or p.items before (fill p.item_type)) typed

    outside : (j : ℕ) → j ≢ s.0 → is_within p.region (insert index axis j) ≡ false
    outside j away = elim (cases_Bool (is_within p.region (insert index axis j))) [
      | inl w ↦
          let on = within_axis axis p.region index j on_region (omega (arith, long before below, as_many_axes)) w in
          absurd (omega (arith, on.0, on.1, same_last))
      | inr f ↦ f
    ]

    item_now : (k : ℕ) → k < n → item_of (patched a p) (insert index axis (k + 1)) ≡ Num (get_or numbers_now (first + k * step) (pos 0))
    item_now k under = elim (cases_Bool (nat_eq (k + 1) s.0)) [
      | inl w ↦
          let e : k + 1 ≡ s.0 = eqb-true _ _ w in
          let at : first + k * step ≡ place = ap (λ m. first + m * step) (omega (arith, e)) ∙ sym new_place in
          ap (λ j. item_of (patched a p) (insert index axis j)) e
          ∙ new_item
          ∙ ap (λ (y : ℤ). Num y) (sym (ap (λ m. get_or numbers_now m (pos 0)) at ∙ get_or-set_same t.numbers place z (pos 0) place_below))
      | inr f ↦
          let away : k + 1 ≢ s.0 = eqb-false _ _ f in
          let apart : first + k * step ≢ place = λ e.
          away (omega (arith, same_steps first step k (s.0 - 1) some (e ∙ new_place), low_high.0)) in
          patched_at a p (insert index axis (k + 1)) (inside_shape (k + 1) (omega arith) (omega (arith, under)))
          ∙ cond-false _ _ _ (outside (k + 1) away)
          ∙ old_item k
          ∙ ap (λ (y : ℤ). Num y) (sym (get_or-set_other t.numbers place (first + k * step) z (pos 0) apart))
    ]

    -- the line, from the numbers of the trees
    changed_line : line (patched a p) axis index ≡ map (λ (y : ℤ). Num y) (strided (pos 0) numbers_now first step n)
    changed_line = line_of_numbers (patched a p) axis index numbers_now first step n (get_or_default a.shape axis 1 0 stand.there) item_now

    -- the total of a line is the fold of its tree with the new number
    total_there : (f h : Scalar2) → h ≡ f → (at : ℕ) (item : Item) → at ≡ place → item ≡ get_or p.items before (fill p.item_type)
        → fold_right f (line (patched a p) axis index) ≡ fold_right h (map (λ (y : ℤ). Num y) (numbers_through (with_number t at (number_of item)) at))
    total_there f h same at item at_is item_is =
        let told : numbers_through (with_number t at (number_of item)) at ≡ strided (pos 0) numbers_now first step n =
        (λ i. numbers_through (with_number t (at_is i) (number_of (item_is i))) (at_is i))
        ∙ (λ i. strided (pos 0) numbers_now (first_is i) (stand.apart i) (stand.counted i)) in
        λ i. fold_right (sym same i) ((changed_line ∙ ap (map (λ (y : ℤ). Num y)) (sym told)) i)

  -- the same for a place of the box, given by its index list
  module _ (sound : IsPatch p) (index : List ℕ) (within : is_within p.region index ≡ true) where
    abbrev before : ℕ
    before = box_offset p.region index

    below : before < box_size region
    below = rw (← as_many_lines) (offset_below p.region index within)

    walked : walk_at p.region before ≡ index
    walked = walk_of_offset p.region index within

    pub place_on : places_before a.shape index < length t.numbers
    place_on = subst (λ (i : List ℕ). places_before a.shape i < length t.numbers) walked (place_below sound before below)

    pub total_on : (f h : Scalar2) → h ≡ f → (at : ℕ) (item : Item) → at ≡ places_before a.shape index → item ≡ get_or p.items before (fill p.item_type)
        → fold_right f (line (patched a p) axis (remove index axis)) ≡ fold_right h (map (λ (y : ℤ). Num y) (numbers_through (with_number t at (number_of item)) at))
    total_on f h same at item at_is item_is =
        ap (λ (i : List ℕ). fold_right f (line (patched a p) axis (remove i axis))) (sym walked)
        ∙ ap (λ (i : List ℕ). fold_right f (line (patched a p) axis i)) (line_there before below)
        ∙ total_there sound before below f h same at item (at_is ∙ ap (places_before a.shape) (sym walked)) item_is

-- the patched array, from its trees
pub now_is : (along : Along) (t : TreesValue) (p : PatchValue) (now : ArrayValue) → StoodFor along t p now → patched (array_of_shape now.shape t.numbers) p ≡ now
now_is along t p now stood =
    let shape : now.shape ≡ stood.before.shape = ap (λ (a : ArrayValue). a.shape) stood.is in
    ap (λ (axes : List ℕ). patched (array_of_shape axes t.numbers) p) shape ∙ ap (λ (a : ArrayValue). patched a p) (sym stood.lines.is) ∙ sym stood.is
