-- The law of indexed reference.
use Rattle.std.{proofs.Common.{◌≡◌, ℕ, zero, suc, ◌+◌, List, [], ◌∷◌, ◌++◌, length, take, drop, refl, ap, ◌∙◌, sym, arith, true, false, Bool, not, ◌&&◌, nat_eq, Some, None, Result, Ok, IsOk}, specs.List.{list_all}, proofs.lemmas.Bool.{and_parts, and_from, false≢true, eqb-true}, proofs.lemmas.List.{drop-drop}}
use Rattle.arrays_core.{specs.declared.item.Kind.{Kind}, specs.declared.item.Kind.TheVariants.{Rank, Domain, Index}, specs.Arrays.{ArrayValue, item_of, item_if_there}, specs.Shapes.{size, is_index_of}}
use Rattle.index_region.{specs.Arguments.{is_scalar}, specs.Boxes.{Interval, is_within, whole_of}, specs.Checks.{Form, check, form_of, limited}, specs.Sources.{Place, item_from}, proofs.Passing.{gives, limited_gives}}
use Rattle.change_core.{specs.Tightness.{AllCovered, IsTight, blank, frames, items_read}, specs.Places.{lies_in}, specs.Reaches.{is_moved}, proofs.Sourced.{item_from_same_one}, proofs.UsedWays.{index-take, index-drop, within-whole}, proofs.ReadAlike.{item_same}}
use Rattle.selection_fns.specs.Index.{Position, are_numbers, are_on, count_written, indexed_shape, index_form, index_item, of_array_and_positions, source_index, written_positions, indexed_box, index_rule, index_uses, place_named, position_box, position_uses, unselected}
use Rattle.selection_fns.specs.Laws.LeastBoxes.{beside-within, least_rank, least_within}

-- ---- the box of the indexed array

indexed_within : (positions : List Position) (axes : List ℕ) (region : List Interval) (index : List ℕ) → length positions ≡ length axes → is_index_of (indexed_shape axes positions) index ≡ true
    → is_within region (source_index positions index) ≡ true → is_moved (indexed_box positions region) index ≡ true
indexed_within [] [] [] [] n place h = refl
indexed_within [] [] [] (i ∷ index) n place h = absurd (false≢true place)
indexed_within [] [] (s ∷ region) index n place h = absurd (false≢true h)
indexed_within [] (m ∷ axes) region index n place h = absurd (omega arith)
indexed_within (position ∷ positions) [] region index n place h = absurd (omega arith)
indexed_within (None ∷ positions) (m ∷ axes) region [] n place h = absurd (false≢true place)
indexed_within (None ∷ positions) (m ∷ axes) [] (i ∷ index) n place h = absurd (false≢true h)
indexed_within (None ∷ positions) (m ∷ axes) (s ∷ region) (i ∷ index) n place h =
    let parts = and_parts _ _ h in
    beside-within (Some (s ∷ [])) (indexed_box positions region) 1 (i ∷ index) refl (and_from _ _ parts.0 refl) (indexed_within positions axes region index (omega arith) (and_parts _ _ place).1 parts.1)
indexed_within (Some p ∷ positions) (m ∷ axes) [] index n place h = absurd (false≢true h)
indexed_within (Some p ∷ positions) (m ∷ axes) (s ∷ region) index n place h =
    let parts = and_parts _ _ h in
    let rest = indexed_shape axes positions in
    let test = λ (part : List ℕ). lies_in s (place_named (item_of p part)) in
    beside-within (position_box p s) (indexed_box positions region) (length p.shape) index (least_rank p.shape test (size p.shape))
    (least_within p.shape test (take (length p.shape) index) (index-take p.shape rest index place) parts.0)
    (indexed_within positions axes region (drop (length p.shape) index) (omega arith) (index-drop p.shape rest index place) parts.1)

-- ---- the boxes of the positions

none_taken : (rank : ℕ) → take {A = ℕ} rank [] ≡ []
none_taken zero = refl
none_taken (suc rank) = refl

first_axes_within : (rank : ℕ) (shape : List ℕ) (region : List Interval) (index : List ℕ) → is_index_of shape index ≡ true → is_within region (take rank index) ≡ true → is_within (region ++ whole_of (drop rank shape)) index ≡ true
first_axes_within zero shape [] index place h = within-whole shape index ∙ place
first_axes_within zero shape (s ∷ region) index place h = absurd (false≢true h)
first_axes_within (suc rank) [] [] [] place h = refl
first_axes_within (suc rank) [] (s ∷ region) [] place h = absurd (false≢true h)
first_axes_within (suc rank) [] region (i ∷ index) place h = absurd (false≢true place)
first_axes_within (suc rank) (n ∷ shape) region [] place h = absurd (false≢true place)
first_axes_within (suc rank) (n ∷ shape) [] (i ∷ index) place h = absurd (false≢true h)
first_axes_within (suc rank) (n ∷ shape) (s ∷ region) (i ∷ index) place h =
    let parts = and_parts _ _ h in
    and_from _ _ parts.0 (first_axes_within rank shape region index (and_parts _ _ place).1 parts.1)

axes_within : (before rank : ℕ) (shape : List ℕ) (region : List Interval) (index : List ℕ) → is_index_of shape index ≡ true → is_within region (take rank (drop before index)) ≡ true
    → is_within (whole_of (take before shape) ++ (region ++ whole_of (drop (before + rank) shape))) index ≡ true
axes_within zero rank shape region index place h =
    let none : 0 + rank ≡ rank = omega arith in
    ap (λ (k : ℕ). is_within (region ++ whole_of (drop k shape)) index) none ∙ first_axes_within rank shape region index place h
axes_within (suc before) rank [] region (i ∷ index) place h = absurd (false≢true place)
axes_within (suc before) rank (n ∷ shape) region [] place h = absurd (false≢true place)
axes_within (suc before) rank [] [] [] place h =
    let next : suc before + rank ≡ suc (before + rank) = omega arith in
    ap (λ (k : ℕ). is_within (whole_of (drop k [])) []) next
axes_within (suc before) rank [] (s ∷ region) [] place h = absurd (false≢true (sym (ap (is_within (s ∷ region)) (none_taken rank)) ∙ h))
axes_within (suc before) rank (n ∷ shape) region (i ∷ index) place h =
    let next : suc before + rank ≡ suc (before + rank) = omega arith in
    let parts = and_parts _ _ place in
    ap (λ (k : ℕ). is_within ((1, n) ∷ (whole_of (take before shape) ++ (region ++ whole_of (drop k (n ∷ shape))))) (i ∷ index)) next
    ∙ and_from _ _ parts.0 (axes_within before rank shape region index parts.1 h)

positions_covered : (written : List Bool) (args : List ArrayValue) (before : ℕ) (shape : List ℕ) → AllCovered shape args (position_uses shape before (written_positions written args))
positions_covered [] args before shape = tt
positions_covered (false ∷ written) args before shape = positions_covered written args (before + 1) shape
positions_covered (true ∷ written) [] before shape = tt
positions_covered (true ∷ written) (p ∷ args) before shape =
    ((λ region index fit place. ((λ h. axes_within before (length p.shape) shape region index place h), tt)), positions_covered written args (before + length p.shape) shape)

-- ---- the checks

-- the consequences of the checks
record IndexFacts (a : ArrayValue) (positions : List Position) (f : Form) : Type 0 where
  one_an_axis : length positions ≡ length a.shape
  is : f ≡ form_of (indexed_shape a.shape positions) a.item_type

index_facts : (a : ArrayValue) (positions : List Position) (f : Form) → index_form a positions ≡ Ok f → IndexFacts a positions f
index_facts a positions f e =
    let ranks = gives (not (is_scalar a) && nat_eq (length positions) (length a.shape)) _ _ f e in
    let typed = gives (list_all are_numbers positions) _ _ f ranks.is in
    let on = gives (are_on a.shape positions) _ _ f typed.is in
    record { one_an_axis = eqb-true _ _ (and_parts _ _ ranks.test).1; is = limited_gives (indexed_shape a.shape positions) a.item_type f on.is }

-- where all checks pass, the form is the limited joined shape
passed_form : (a : ArrayValue) (positions : List Position) → IsOk (index_form a positions) → index_form a positions ≡ limited (indexed_shape a.shape positions) a.item_type
passed_form a positions h = by (not (is_scalar a) && nat_eq (length positions) (length a.shape)) (list_all are_numbers positions) (are_on a.shape positions) (limited (indexed_shape a.shape positions) a.item_type) h
  where
    by : (x y z : Bool) (rest : Result Form Kind) → IsOk (check x Rank (check y Domain (check z Index rest))) → check x Rank (check y Domain (check z Index rest)) ≡ rest
    by true true true rest h = refl
    by false y z rest h = absurd (let no : ⊥ = cc in no)
    by true false z rest h = absurd (let no : ⊥ = cc in no)
    by true true false rest h = absurd (let no : ⊥ = cc in no)

-- positions of the same shapes give the same shape
shape_same : (written : List Bool) (axes : List ℕ) (old new : List ArrayValue) → frames (unselected written) old ≡ frames (unselected written) new
    → indexed_shape axes (written_positions written old) ≡ indexed_shape axes (written_positions written new)
shape_same [] axes old new same = refl
shape_same (false ∷ written) [] old new same = refl
shape_same (false ∷ written) (n ∷ axes) old new same = ap (λ (s : List ℕ). n ∷ s) (shape_same written axes old new same)
shape_same (true ∷ written) axes [] [] same = refl
shape_same (true ∷ written) axes (p ∷ old) [] same = absurd (let no : ⊥ = cc in no)
shape_same (true ∷ written) axes [] (q ∷ new) same = absurd (let no : ⊥ = cc in no)
shape_same (true ∷ written) [] (p ∷ old) (q ∷ new) same = refl
shape_same (true ∷ written) (n ∷ axes) (p ∷ old) (q ∷ new) same =
    let alike : blank p ≡ blank q = cc in
    let later : frames (unselected written) old ≡ frames (unselected written) new = cc in
    let rest = shape_same written axes old new later in
    λ i. (alike i).shape ++ rest i

settles : (written : List Bool) (old new : List ArrayValue) → frames (false ∷ unselected written) old ≡ frames (false ∷ unselected written) new
    → IsOk (of_array_and_positions written index_form old) → IsOk (of_array_and_positions written index_form new) → of_array_and_positions written index_form old ≡ of_array_and_positions written index_form new
settles written [] new same g k = absurd (let no : ⊥ = cc in no)
settles written (a ∷ old) [] same g k = absurd (let no : ⊥ = cc in no)
settles written (a ∷ old) (b ∷ new) same g k =
    let alike : blank a ≡ blank b = cc in
    let later : frames (unselected written) old ≡ frames (unselected written) new = cc in
    let shape : indexed_shape a.shape (written_positions written old) ≡ indexed_shape b.shape (written_positions written new) =
    ap (λ (x : ArrayValue). indexed_shape x.shape (written_positions written old)) alike ∙ shape_same written b.shape old new later in
    passed_form a (written_positions written old) g ∙ (λ i. limited (shape i) (alike i).item_type) ∙ sym (passed_form b (written_positions written new) k)

-- ---- the items

-- positions that are read alike name the same places
places_same : (written : List Bool) (axes : List ℕ) (old new : List ArrayValue) (shape : List ℕ) (before : ℕ) (whole index : List ℕ) → length old ≡ count_written written → length new ≡ count_written written
    → length (written_positions written new) ≡ length axes → frames (unselected written) old ≡ frames (unselected written) new → is_index_of (indexed_shape axes (written_positions written new)) index ≡ true
    → items_read old (position_uses shape before (written_positions written new)) whole ≡ items_read new (position_uses shape before (written_positions written new)) whole → index ≡ drop before whole
    → source_index (written_positions written old) index ≡ source_index (written_positions written new) index
places_same [] axes old new shape before whole index m n long same place got at = refl
places_same (false ∷ written) [] old new shape before whole index m n long same place got at = absurd (omega arith)
places_same (false ∷ written) (x ∷ axes) old new shape before whole [] m n long same place got at = absurd (false≢true place)
places_same (false ∷ written) (x ∷ axes) old new shape before whole (i ∷ index) m n long same place got at =
    ap (λ (v : List ℕ). i ∷ v) (places_same written axes old new shape (before + 1) whole index m n (omega arith) same (and_parts _ _ place).1 got (ap (drop 1) at ∙ drop-drop 1 before whole))
places_same (true ∷ written) axes [] new shape before whole index m n long same place got at = absurd (omega arith)
places_same (true ∷ written) axes (p ∷ old) [] shape before whole index m n long same place got at = absurd (omega arith)
places_same (true ∷ written) [] (p ∷ old) (q ∷ new) shape before whole index m n long same place got at = absurd (omega arith)
places_same (true ∷ written) (x ∷ axes) (p ∷ old) (q ∷ new) shape before whole index m n long same place got at =
    let later : frames (unselected written) old ≡ frames (unselected written) new = cc in
    let alike : blank p ≡ blank q = cc in
    let shaped : p.shape ≡ q.shape = ap (λ (a : ArrayValue). a.shape) alike in
    let part = take (length q.shape) (drop before whole) in
    let uses = position_uses shape (before + length q.shape) (written_positions written new) in
    let rest_shape = indexed_shape axes (written_positions written new) in
    let rows : (item_if_there p part ∷ []) ∷ items_read old uses whole ≡ (item_if_there q part ∷ []) ∷ items_read new uses whole = got in
    let item : item_if_there p part ≡ item_if_there q part = cc in
    let rest : items_read old uses whole ≡ items_read new uses whole = cc in
    let own = take (length q.shape) index in
    let here : own ≡ part = ap (take (length q.shape)) at in
    let inside : is_index_of q.shape own ≡ true = index-take q.shape rest_shape index place in
    let inside_old : is_index_of p.shape own ≡ true = ap (λ (s : List ℕ). is_index_of s own) shaped ∙ inside in
    let read : item_if_there p own ≡ item_if_there q own = ap (item_if_there p) here ∙ item ∙ sym (ap (item_if_there q) here) in
    let value : place_named (item_of p (take (length p.shape) index)) ≡ place_named (item_of q own) =
    ap (λ (s : List ℕ). place_named (item_of p (take (length s) index))) shaped ∙ ap place_named (item_same p q own inside_old inside read) in
    let tail = places_same written axes old new shape (before + length q.shape) whole (drop (length q.shape) index) (omega arith) (omega arith) (omega arith) later (index-drop q.shape rest_shape index place) rest
    (ap (drop (length q.shape)) at ∙ drop-drop (length q.shape) before whole) in
    let tails = ap (λ (s : List ℕ). source_index (written_positions written old) (drop (length s) index)) shaped ∙ tail in
    λ i. value i ∷ tails i

pub length-unselected : (written : List Bool) → length (unselected written) ≡ count_written written
length-unselected [] = refl
length-unselected (true ∷ written) = let k = length-unselected written in omega (arith, k)
length-unselected (false ∷ written) = length-unselected written

pub length-selectors : (written : List Bool) → suc (length (unselected written)) ≡ suc (count_written written)
length-selectors written = ap suc (length-unselected written)

determines : (written : List Bool) (old new : List ArrayValue) (f : Form) (index : List ℕ) → length old ≡ suc (length (unselected written)) → length new ≡ suc (length (unselected written))
    → frames (false ∷ unselected written) old ≡ frames (false ∷ unselected written) new → of_array_and_positions written index_form new ≡ Ok f → is_index_of f.shape index ≡ true
    → items_read old (index_uses written f.shape new) index ≡ items_read new (index_uses written f.shape new) index
    → of_array_and_positions written (λ a positions. index_item a positions index) old ≡ of_array_and_positions written (λ a positions. index_item a positions index) new
determines written [] new f index m n same e place got = absurd (omega arith)
determines written (a ∷ old) [] f index m n same e place got = absurd (omega arith)
determines written (a ∷ old) (b ∷ new) f index m n same e place got =
    let later : frames (unselected written) old ≡ frames (unselected written) new = cc in
    let alike : blank a ≡ blank b = cc in
    let positions = written_positions written new in
    let uses = position_uses f.shape 0 positions in
    let at = source_index positions index in
    let rows : (item_if_there a at ∷ []) ∷ items_read old uses index ≡ (item_if_there b at ∷ []) ∷ items_read new uses index = got in
    let item : (item_if_there a at ∷ []) ≡ (item_if_there b at ∷ []) = cc in
    let rest : items_read old uses index ≡ items_read new uses index = cc in
    let facts = index_facts b positions f e in
    let here : is_index_of (indexed_shape b.shape positions) index ≡ true = ap (λ (g : Form). is_index_of g.shape index) (sym facts.is) ∙ place in
    let many = length-unselected written in
    let places = places_same written b.shape old new f.shape 0 index index (omega arith) (omega arith) facts.one_an_axis later here rest refl in
    (λ i. item_from a a (alike i).item_type (Place 0 (places i))) ∙ item_from_same_one a b b.item_type (Place 0 at) refl item

all_covered : (written : List Bool) (args : List ArrayValue) (f : Form) → of_array_and_positions written index_form args ≡ Ok f → AllCovered f.shape args (index_uses written f.shape args)
all_covered written [] f e = tt
all_covered written (a ∷ args) f e =
    let positions = written_positions written args in
    let facts = index_facts a positions f e in
    let shape : indexed_shape a.shape positions ≡ f.shape = sym (ap (λ (g : Form). g.shape) facts.is) in
    ((λ region index fit place. (indexed_within positions a.shape region index facts.one_an_axis (ap (λ (s : List ℕ). is_index_of s index) shape ∙ place), tt)), positions_covered written args 0 f.shape)

pub index_tight : (written : List Bool) → IsTight (index_rule written)
index_tight written = record {
  settled = settles written;
  determined = λ old new f index m n sound same e place got. determines written old new f index m n same e place got;
  covered = λ args f n e. all_covered written args f e;
}
