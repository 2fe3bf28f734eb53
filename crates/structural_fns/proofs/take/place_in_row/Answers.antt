use Rattle.std.proofs.Common.{◌≡◌, ℕ, List, ◌++◌, ◌∷◌, [], ◌≤◌, ap, get_or, length, refl, subst, sym, ◌∙◌, unsigned_abs, true, arith, rules, w64, to_z, of_z}
use Rattle.std.proofs.lemmas.List.{length-append}
use Rattle.{arrays_core.{specs.Arrays.{ArrayValue}, specs.Shapes.{is_index_of}, proofs.Shapes.{as_long}}, index_region.specs.Arguments.{numbers}}
use Rattle.structural_fns.{specs.Reshape.{magnitudes}, specs.Take.{taken_place, taken_places}, proofs.Counting.{CountAt, numbers_long, magnitudes_long, count_read, count_at}, proofs.Offsets.{walked_on, walked_out, walked_all}, proofs.TakenRows.{places_long, places_at}, proofs.take.place_in_row.Goals.{In-loop-k, After-taken_place-place}}
use Rattle.structural_fns.proofs.take.place_in_row.Goals as goal

pub loop-k-init : goal.loop-k-init
loop-k-init c = record { inside = refl; place = λ h. omega arith }

-- the count and the index of this axis
here : (c : In-loop-k) → CountAt c.args.counts.now (c.args.row.now ++ c.args.index ∷ []) c.loop-k.k
here c = let test = c.loop-k-test.true in count_at _ _ c.loop-k.k c.requires.within c.requires.inside (omega (arith, c.requires.long))

pub taken_place-place-requires-clause-count_within : goal.taken_place-place-requires-clause-count_within
taken_place-place-requires-clause-count_within c =
    subst (λ z. unsigned_abs z ≤ 1048576) (sym (count_read c.args.counts.now _ c.loop-k.k (search rules) c.number-count.ensures))
    (here (goal.at.taken_place-place-requires-clause-count_within c).In-loop-k).count

pub taken_place-place-requires-clause-index_within : goal.taken_place-place-requires-clause-index_within
taken_place-place-requires-clause-index_within c =
    let h = here (goal.at.taken_place-place-requires-clause-index_within c).In-loop-k in omega (arith, c.index_on_axis.ensures, h.count, h.high)

-- there is an index for each axis
index_long : (a : ArrayValue) (shape index : List ℕ) → length a.items ≡ length shape → is_index_of (magnitudes a) index ≡ true → length index ≡ length shape
index_long a shape index long inside = as_long (magnitudes a) index inside ∙ magnitudes_long a ∙ long

all_places : (a : ArrayValue) (shape index : List ℕ) → length a.items ≡ length shape → is_index_of (magnitudes a) index ≡ true
    → length (taken_places shape (numbers a) index) ≡ length shape
all_places a shape index long inside = places_long shape (numbers a) index (numbers_long a ∙ long) (index_long a shape index long inside)

pub index_on_axis-requires : goal.index_on_axis-requires
index_on_axis-requires c =
    let long = index_long c.args.counts.now c.args.axes.now _ c.requires.long c.requires.inside in
    let below = c.loop-k-test.true in
    omega (arith, length-append c.args.row.now (c.args.index ∷ []))

-- the place on this axis
place_here : (c : After-taken_place-place) → get_or (taken_places c.args.axes.now (numbers c.args.counts.now) (c.args.row.now ++ c.args.index ∷ [])) c.loop-k.k 0 ≡ c.taken_place-place.result
place_here c =
    let k = c.loop-k.k in
    let n = get_or c.args.axes.now k 0 in
    places_at c.args.axes.now (numbers c.args.counts.now) (c.args.row.now ++ c.args.index ∷ []) k c.loop-k-test.true (numbers_long c.args.counts.now ∙ c.requires.long) (index_long c.args.counts.now c.args.axes.now _ c.requires.long c.requires.inside)
    ∙ ap (λ z. taken_place n z (get_or (c.args.row.now ++ c.args.index ∷ []) k 0)) (sym (count_read c.args.counts.now _ k (search rules) c.number-count.ensures))
    ∙ ap (λ (i : ℕ). taken_place n (to_z w64 (of_z w64 c.number-count.result)) i) (sym c.index_on_axis.ensures) ∙ sym c.taken_place-place.ensures

pub returns-then-place-eq0 : goal.returns-then-place-eq0
returns-then-place-eq0 c =
    let at = (goal.at.returns-then-place-eq0 c).After-taken_place-place in
    let place = place_here at in
    walked_out c.args.axes.now _ c.loop-k.k c.loop-k.before c.loop-k-test.true (all_places c.args.counts.now c.args.axes.now _ c.requires.long c.requires.inside) c.loop-k.invariant (λ low high. grind arith)

pub loop-k-preserved : goal.loop-k-preserved
loop-k-preserved c =
    let at = (goal.at.loop-k-preserved c).After-taken_place-place in
    let place = place_here at in
    let no_zero = c.if-place-eq0.false in
    let not_beyond = c.if-place-axes.false in
    rw place at (walked_on c.args.axes.now _ c.loop-k.k c.loop-k.before c.requires.axes_within.size_within c.loop-k-test.true (all_places c.args.counts.now c.args.axes.now _ c.requires.long c.requires.inside) c.loop-k.invariant (omega arith) (omega arith))

pub returns : goal.returns
returns c = walked_all c.args.axes.now _ c.loop-k.k c.loop-k.before (omega arith) (all_places c.args.counts.now c.args.axes.now _ c.requires.long c.requires.inside) c.loop-k.invariant
