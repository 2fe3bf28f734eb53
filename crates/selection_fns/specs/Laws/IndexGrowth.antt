-- The growth of indexed reference.
use Rattle.std.{proofs.Common.{◌≡◌, ℕ, ◌+◌, ◌<◌, ◌≤◌, ap, sym, ◌∙◌, refl, arith, true, false, Bool, not, ◌&&◌, nat_le, nat_eq, List, [], ◌∷◌, length, get_or, drop, Some, None, Ok, unwrap_or, inl, inr}, specs.List.{list_all}}
use Rattle.std.proofs.lemmas.Bool.{and_parts, and_from, cases_Bool, cond-true, cond-false, eqb-true, false≢true, leb-true, le-leb}
use Rattle.arrays_core.{specs.declared.item.Item.{Item}, specs.Arrays.{ArrayValue, IsArray, item_if_there}, specs.Items.{fill}, specs.Shapes.{is_index_of}, specs.Growth.{one_longer}}
use Rattle.index_region.{specs.Arguments.{is_scalar}, specs.Checks.{Form, form_of}, proofs.Passing.{gives, limited_gives}}
use Rattle.change_core.{specs.Growth.{AllGrew, IsGrown, IsGrowing}, proofs.Growing.{item_kept, longer_form, shape_grown, type_grown}}
use Rattle.selection_fns.{specs.Index.{Position, are_numbers, are_on, indexed_shape, index_form, index_item, source_index, written_positions, index_rule}, specs.Growth.{index_grows}}

-- where no position grew, all are the same
positions_same : (marks : List Bool) (olds news : List ArrayValue) → AllGrew marks olds news → list_all (λ m. not m) marks ≡ true → olds ≡ news
positions_same [] [] [] h none = refl
positions_same [] [] (a ∷ news) h none = absurd h
positions_same [] (o ∷ olds) news h none = absurd h
positions_same (m ∷ marks) [] news h none = absurd h
positions_same (m ∷ marks) (o ∷ olds) [] h none = absurd h
positions_same (true ∷ marks) (o ∷ olds) (a ∷ news) h none = absurd (false≢true none)
positions_same (false ∷ marks) (o ∷ olds) (a ∷ news) h none =
    let first = h.0 in
    let rest = positions_same marks olds news h.1 none in
    λ i. first i ∷ rest i

form_passed : (a : ArrayValue) (positions : List Position) (f : Form) → index_form a positions ≡ Ok f → (length positions ≡ length a.shape) × (f ≡ form_of (indexed_shape a.shape positions) a.item_type)
form_passed a positions f e =
    let ranks = gives (not (is_scalar a) && nat_eq (length positions) (length a.shape)) _ _ f e in
    let typed = gives (list_all are_numbers positions) _ _ f ranks.is in
    let on = gives (are_on a.shape positions) _ _ f typed.is in
    (eqb-true _ _ (and_parts _ _ ranks.test).1, limited_gives (indexed_shape a.shape positions) a.item_type f on.is)

-- the shape of a result whose first axis is the first axis of the array
longer_indexed : (s : List ℕ) (positions : List Position) → 0 < length s → indexed_shape (one_longer s) (None ∷ positions) ≡ one_longer (indexed_shape s (None ∷ positions))
longer_indexed [] positions h = absurd (omega arith)
longer_indexed (n ∷ s) positions h = refl

some_indexed : (s : List ℕ) (positions : List Position) → 0 < length s → 0 < length (indexed_shape s (None ∷ positions))
some_indexed [] positions h = absurd (omega arith)
some_indexed (n ∷ s) positions h = omega arith

-- for a first index on the old axis: the grown array and the old array have the same places
same_place : (s : List ℕ) (i : ℕ) (at : List ℕ) → 0 < length s → 1 ≤ i → i ≤ get_or s 0 0 → is_index_of (one_longer s) (i ∷ at) ≡ is_index_of s (i ∷ at)
same_place [] i at h low high = absurd (omega arith)
same_place (n ∷ s) i at h low high =
    let wide : i ≤ n + 1 = omega arith in
    let new : (nat_le 1 i && nat_le i (n + 1)) ≡ true = and_from _ _ (le-leb 1 i low) (le-leb i (n + 1) wide) in
    let old : (nat_le 1 i && nat_le i n) ≡ true = and_from _ _ (le-leb 1 i low) (le-leb i n high) in
    ap (λ (b : Bool). b && is_index_of s at) (new ∙ sym old)

-- the first index of a place of the result is on the old axis
first_on : (s : List ℕ) (positions : List Position) (index : List ℕ) → 0 < length s → is_index_of (indexed_shape s (None ∷ positions)) index ≡ true → (1 ≤ get_or index 0 0) × (get_or index 0 0 ≤ get_or s 0 0)
first_on [] positions index h place = absurd (omega arith)
first_on (n ∷ s) positions [] h place = absurd (false≢true place)
first_on (n ∷ s) positions (i ∷ index) h place =
    let first = and_parts _ _ (and_parts _ _ place).0 in
    (leb-true 1 i first.0, leb-true i n first.1)

-- the item at such a place, or fill, is the same
there_kept : (old new : ArrayValue) (i : ℕ) (at : List ℕ) → IsGrown old new → IsArray old → 1 ≤ i → i ≤ get_or old.shape 0 0 → item_if_there old (i ∷ at) ≡ item_if_there new (i ∷ at)
there_kept old new i at h sound low high =
    let same : is_index_of new.shape (i ∷ at) ≡ is_index_of old.shape (i ∷ at) = ap (λ (s : List ℕ). is_index_of s (i ∷ at)) (shape_grown old new h) ∙ same_place old.shape i at h.fits.some_axis low high in
    elim (cases_Bool (is_index_of old.shape (i ∷ at))) [
      | inl t ↦ cond-true _ _ _ t ∙ ap (λ (x : Item). Some x) (item_kept old new (i ∷ at) h sound t) ∙ sym (cond-true _ _ _ (same ∙ t))
      | inr f ↦ cond-false _ _ _ f ∙ sym (cond-false _ _ _ (same ∙ f))
    ]

empty_first : (old new : ArrayValue) (positions : List Position) (f g : Form) (index : List ℕ) → IsGrown old new → IsArray old → index_form old (None ∷ positions) ≡ Ok f
    → is_index_of (indexed_shape old.shape (None ∷ positions)) index ≡ true → index_item old (None ∷ positions) index ≡ index_item new (None ∷ positions) index
empty_first old new positions f g index h sound e place =
    let on = first_on old.shape positions index h.fits.some_axis place in
    let i = get_or index 0 0 in
    let at = source_index positions (drop 1 index) in
    let there = there_kept old new i at h sound on.0 on.1 in
    let typed = type_grown old new h in
    λ t. Ok (unwrap_or (there t) (fill (sym typed t)))

pub index_growing : (written : List Bool) → IsGrowing (index_rule written) (index_grows written)
index_growing written [] [] [] f g h so sn listed e k = absurd (false≢true listed)
index_growing written [] [] (a ∷ news) f g h so sn listed e k = absurd h
index_growing written [] (o ∷ olds) news f g h so sn listed e k = absurd h
index_growing written (m ∷ marks) [] news f g h so sn listed e k = absurd h
index_growing written (m ∷ marks) (o ∷ olds) [] f g h so sn listed e k = absurd h
index_growing written (false ∷ marks) (o ∷ olds) (a ∷ news) f g h so sn listed e k = absurd (false≢true listed)
index_growing [] (true ∷ marks) (o ∷ olds) (a ∷ news) f g h so sn listed e k = absurd (false≢true (and_parts _ _ listed).1)
index_growing (true ∷ written) (true ∷ marks) (o ∷ olds) (a ∷ news) f g h so sn listed e k = absurd (false≢true (and_parts _ _ listed).1)
index_growing (false ∷ written) (true ∷ marks) (old ∷ olds) (new ∷ news) f g h so sn listed e k =
    let none = (and_parts _ _ listed).0 in
    let same : olds ≡ news = positions_same marks olds news h.1 none in
    let positions = written_positions written olds in
    let grew = h.0 in
    let was = form_passed old (None ∷ positions) f e in
    let is = form_passed new (None ∷ written_positions written news) g k in
    let shaped : indexed_shape new.shape (None ∷ written_positions written news) ≡ one_longer (indexed_shape old.shape (None ∷ positions)) =
    (λ i. indexed_shape (shape_grown old new grew i) (None ∷ written_positions written (sym same i))) ∙ longer_indexed old.shape positions grew.fits.some_axis in
    longer_form (index_rule (false ∷ written)) (old ∷ olds) (new ∷ news) f g (indexed_shape old.shape (None ∷ positions)) old.item_type was.1
    (is.1 ∙ (λ i. form_of (shaped i) (type_grown old new grew i))) (some_indexed old.shape positions grew.fits.some_axis)
    (λ index place.
    empty_first old new positions f g index grew so.0 e place
    ∙ ap (λ (l : List ArrayValue). index_item new (None ∷ written_positions written l) index) same)
