use Rattle.std.{proofs.Common.{◌≡◌, ◌∙◌, ℕ, List, set, Bool, true, get_or, sym, ap, arith, rules, w64}, proofs.lemmas.Int.{to_z-of_z}}
use Rattle.arrays_core.{specs.Items.{fill, type_of}, specs.Shapes.{is_index_of, places_before}}
use Rattle.index_region.{specs.Boxes.{Interval, box_size, box_offset, fits, is_within, walk_at}, proofs.Patched.{box_within_size, fits_within}, proofs.Walks.{offset_of_walk, some_place, walk_within}}
use Rattle.sum_rules.{specs.LineSums.{array_of_shape}, proofs.JoinedPatches.{one_written}}
use Rattle.sum_rules.proofs.line_sums.join_one.Goals as goal

inside : {region r : List Interval} {shape axes : List ℕ} {lies : Bool} → r ≡ region → axes ≡ shape → lies ≡ fits r axes → lies ≡ true → fits region shape ≡ true
inside e f is true_so = (λ i. fits (sym e i) (sym f i)) ∙ sym is ∙ true_so

pub size-requires : goal.size-requires
size-requires c =
    let most = box_within_size _ c.args.shape.now.items (inside c.region-region.ensures c.as_slice.ensures c.lies_in.ensures c.if-not-lies_in.false) in
    omega (arith, ap box_size c.region-region.ensures, most)

pub item-requires : goal.item-requires
item-requires c =
    let p = c.args.patch.now in
    let some = some_place p.region c.args.shape.now.items (inside c.region-region.ensures c.as_slice.ensures c.lies_in.ensures c.if-not-lies_in.false) in
    ap (is_within p.region) (c.as_slice-2.ensures.is ∙ c.index_at-index.ensures ∙ ap (λ (r : List Interval). walk_at r 0) c.region-region.ensures) ∙ walk_within p.region 0 some

pub places_before-place-requires-clause-in_range : goal.places_before-place-requires-clause-in_range
places_before-place-requires-clause-in_range c =
    let shape = c.args.shape.now.items in
    let lies = (inside c.region-region.ensures c.as_slice.ensures c.lies_in.ensures c.if-not-lies_in.false) in
    ap (is_index_of shape) (c.as_slice-3.ensures.is ∙ c.index_at-index.ensures ∙ ap (λ (r : List Interval). walk_at r 0) c.region-region.ensures)
    ∙ fits_within c.args.patch.now.region shape (walk_at c.args.patch.now.region 0) lies (walk_within c.args.patch.now.region 0 (some_place c.args.patch.now.region shape lies))

pub returns : goal.returns
returns c = λ _.
    let p = c.args.patch.now in
    let shape = c.args.shape.now.items in
    let numbers = c.args.trees.now.lines.numbers in
    let lies = (inside c.region-region.ensures c.as_slice.ensures c.lies_in.ensures c.if-not-lies_in.false) in
    let first : c.index_at-index.result ≡ walk_at p.region 0 = c.index_at-index.ensures ∙ ap (λ (r : List Interval). walk_at r 0) c.region-region.ensures in
    let item : get_or p.items 0 (fill p.item_type) ≡ c.item.result =
    sym (c.item.ensures.is ∙ ap (λ (k : List ℕ). get_or p.items (box_offset p.region k) (fill p.item_type)) (c.as_slice-2.ensures.is ∙ first)
    ∙ ap (λ (n : ℕ). get_or p.items n (fill p.item_type)) (offset_of_walk p.region 0 (some_place p.region shape lies))) in
    let one : box_size p.region ≡ 1 = ap box_size (sym c.region-region.ensures) ∙ sym c.size.ensures ∙ c.if-size-ne1.false in
    let written = one_written shape numbers p c.in-Num.number c.requires (record { inside = lies; typed = sym c.item.ensures.typed ∙ ap type_of c.in-Num.is }) one (item ∙ c.in-Num.is) in
    let place : c.join.new.joined.place ≡ places_before shape (walk_at p.region 0) = c.in_ok-join.ensures.place ∙ c.places_before-place.ensures.is ∙ ap (places_before shape) (c.as_slice-3.ensures.is ∙ first) in
    record {
      trees = c.in_ok-join.ensures.joined;
      writes = (λ i. array_of_shape shape (set numbers (place i) ((c.in_ok-join.ensures.number ∙ to_z-of_z w64 c.in-Num.number (search rules)) i))) ∙ written;
    }
