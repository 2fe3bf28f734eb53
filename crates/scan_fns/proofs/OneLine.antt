-- Boxes of one line, and the items there.
use Rattle.std.{proofs.Common.{◌≡◌, ℕ, zero, suc, ◌+◌, ◌-◌, ◌*◌, ◌/◌, ◌%◌, ◌<◌, ◌≤◌, IsTrue, IfSome, List, [], ◌∷◌, length, get_or, map, set, Option, Some, None, Result, Ok, Err, refl, ap, sym, ◌∙◌, arith}, specs.List.{range_with_len}, proofs.lemmas.Bool.{and_parts, leb-true, false≢true}}
use Rattle.std.proofs.Math.Nat.{div-eq_of_lt, mod-eq_of_lt}
use Rattle.arrays_core.{specs.declared.item.Item.{Item}, specs.declared.item.ItemType.TheVariants.{Nums}, specs.declared.item.Kind.{Kind}, specs.declared.fault.ApplyFault.{ApplyFault}, specs.declared.fault.ApplyFault.TheVariants.{Kind as KindFault, NoMemory}, specs.Items.{all_or_first_error}}
use Rattle.arrays_core.specs.Arrays.{ArrayValue, IsAnswerTo, with_items}
use Rattle.function_names.{specs.declared.scalar.Scalar2.{Scalar2}, specs.declared.along.Along.{Along}, specs.Axes.{axis_at}}
use Rattle.index_region.{specs.ArgumentLists.{of_one_argument}, specs.Boxes.{Interval, interval_length, box_size, walk_at, fits}, proofs.Walks.{some_place}}
use Rattle.{change_core.specs.Parts.{HoldsItems, items_in}, scan_fns.specs.Scan.{scan_item, scan_along}, reduce_fns.proofs.Firsts.{same_rules}}

-- ---- the walk of such a box

alone : (e m : ℕ) → 1 ≤ e → e * m ≡ e → m ≡ 1
alone zero m low h = absurd (omega arith)
alone (suc e) zero low h = absurd (omega arith)
alone (suc e) (suc zero) low h = refl
alone (suc e) (suc (suc m)) low h = absurd (omega arith)

no_less : (e m : ℕ) → 1 ≤ e → m ≤ e * m
no_less zero m low = absurd (omega arith)
no_less (suc e) m low = omega arith

-- the first interval of a box that fits a shape is not empty
first_interval : (s : Interval) (region : List Interval) (n : ℕ) (shape : List ℕ) → IsTrue (fits (s ∷ region) (n ∷ shape)) → 1 ≤ interval_length s
first_interval s region n shape fit =
    let order : s.0 ≤ s.1 = leb-true s.0 s.1 (and_parts _ _ (and_parts _ _ (and_parts _ _ fit).0).0).1 in
    omega arith

rest_fits : (s : Interval) (region : List Interval) (n : ℕ) (shape : List ℕ) → IsTrue (fits (s ∷ region) (n ∷ shape)) → IsTrue (fits region shape)
rest_fits s region n shape fit = (and_parts _ _ fit).1

-- a box has at least as many places as each of its intervals
interval_within : (axis : ℕ) (region : List Interval) (shape : List ℕ) → axis < length region → IsTrue (fits region shape) → interval_length (get_or region axis (0, 0)) ≤ box_size region
interval_within axis [] shape there fit = absurd (omega arith)
interval_within axis (s ∷ region) [] there fit = absurd (false≢true fit)
interval_within zero (s ∷ region) (n ∷ shape) there fit =
    more (interval_length s) (box_size region) (some_place region shape (rest_fits s region n shape fit))
  where
    more : (e m : ℕ) → 0 < m → e ≤ e * m
    more e zero h = absurd (omega arith)
    more e (suc m) h = omega arith
interval_within (suc axis) (s ∷ region) (n ∷ shape) there fit =
    let all = no_less (interval_length s) (box_size region) (first_interval s region n shape fit) in
    omega (arith, interval_within axis region shape (omega arith) (rest_fits s region n shape fit), all)

pub walk_first : (axis : ℕ) (region : List Interval) (shape : List ℕ) → axis < length region → IsTrue (fits region shape) → get_or (walk_at region 0) axis 1 ≡ (get_or region axis (0, 0)).0
walk_first axis [] shape there fit = absurd (omega arith)
walk_first axis (s ∷ region) [] there fit = absurd (false≢true fit)
walk_first zero (s ∷ region) (n ∷ shape) there fit = omega (arith, div-eq_of_lt (some_place region shape (rest_fits s region n shape fit)))
walk_first (suc axis) (s ∷ region) (n ∷ shape) there fit =
    let left : 0 % box_size region ≡ 0 = mod-eq_of_lt (some_place region shape (rest_fits s region n shape fit)) in
    ap (λ p. get_or (walk_at region p) axis 1) left ∙ walk_first axis region shape (omega arith) (rest_fits s region n shape fit)

-- a box with as many places as one of its intervals lies on one line
pub line_walk : (axis : ℕ) (region : List Interval) (shape : List ℕ) → axis < length region → IsTrue (fits region shape) → box_size region ≡ interval_length (get_or region axis (0, 0))
    → (p : ℕ) → p < box_size region → walk_at region p ≡ set (walk_at region 0) axis ((get_or region axis (0, 0)).0 + p)
line_walk axis [] shape there fit one p below = absurd (omega arith)
line_walk axis (s ∷ region) [] there fit one p below = absurd (false≢true fit)
line_walk zero (s ∷ region) (n ∷ shape) there fit one p below =
    let single : box_size region ≡ 1 = alone (interval_length s) (box_size region) (first_interval s region n shape fit) one in
    let left : p % 1 ≡ 0 % 1 = omega arith in
    let steps : p / box_size region ≡ p = ap (λ m. p / m) single ∙ (omega arith) in
    λ i. (s.0 + steps i) ∷ walk_at region ((ap (λ m. p % m) single ∙ left ∙ ap (λ m. 0 % m) (sym single)) i)
line_walk (suc axis) (s ∷ region) (n ∷ shape) there fit one p below =
    let m = box_size region in
    let inside = rest_fits s region n shape fit in
    let least = no_less (interval_length s) m (first_interval s region n shape fit) in
    let rest : m ≡ interval_length (get_or region axis (0, 0)) = omega (arith, least, interval_within axis region shape (omega arith) inside, one) in
    let p_below : p < m = omega (arith, rest, one, below) in
    let some : 0 < m = omega arith in
    let left : p % m ≡ p = mod-eq_of_lt p_below in
    let none : 0 % m ≡ 0 = mod-eq_of_lt some in
    let tail : walk_at region (p % m) ≡ set (walk_at region (0 % m)) axis ((get_or region axis (0, 0)).0 + p) =
    ap (walk_at region) left ∙ line_walk axis region shape (omega arith) inside rest p p_below ∙ ap (λ q. set (walk_at region q) axis ((get_or region axis (0, 0)).0 + p)) (sym none) in
    λ i. (s.0 + (div-eq_of_lt p_below ∙ sym (div-eq_of_lt some)) i) ∷ tail i

-- facts about the interval of a box on an axis
pub record OnAxis (read region : List Interval) (shape : List ℕ) (axis : ℕ) : Type 0 where
  pub there : axis < length region
  pub low : 1 ≤ (get_or read axis (0, 0)).0
  pub order : (get_or read axis (0, 0)).0 ≤ (get_or read axis (0, 0)).1
  pub high : (get_or read axis (0, 0)).1 ≤ get_or shape axis 0
  pub first : (get_or read axis (0, 0)).0 ≡ (get_or region axis (0, 0)).0
  pub last : (get_or read axis (0, 0)).1 ≡ (get_or region axis (0, 0)).1

pub on_axis : (axis : ℕ) (read region : List Interval) (shape : List ℕ) → read ≡ region → axis < length shape → IsTrue (fits region shape) → OnAxis read region shape axis
on_axis axis read region shape is there fit = rw is (own axis region shape there fit)
  where
    own : (axis : ℕ) (region : List Interval) (shape : List ℕ) → axis < length shape → IsTrue (fits region shape) → OnAxis region region shape axis
    own axis [] [] there fit = absurd (omega arith)
    own axis [] (n ∷ shape) there fit = absurd (false≢true fit)
    own axis (s ∷ region) [] there fit = absurd (omega arith)
    own zero (s ∷ region) (n ∷ shape) there fit =
        let here = and_parts _ _ (and_parts _ _ fit).0 in
        let bounds = and_parts _ _ here.0 in
        record { there = omega arith; low = leb-true 1 s.0 bounds.0; order = leb-true s.0 s.1 bounds.1; high = leb-true s.1 n here.1; first = refl; last = refl }
    own (suc axis) (s ∷ region) (n ∷ shape) there fit =
        let rest = own axis region shape (omega arith) (rest_fits s region n shape fit) in
        record { there = omega (arith, rest.there); low = rest.low; order = rest.order; high = rest.high; first = refl; last = refl }

-- ---- the items there

pub as_one : {A : Type 0} (f : ArrayValue → Result A Kind) (args : List ArrayValue) (b : ArrayValue) → args ≡ b ∷ [] → of_one_argument f args ≡ f b
as_one f args b h = rw h refl

pub scanned_items : (f : Scalar2) (along : Along) (args : List ArrayValue) (b : ArrayValue) (region : List Interval) (shape : List ℕ) → args ≡ b ∷ [] → axis_at (length b.shape) along < length region → IsTrue (fits region shape)
    → box_size region ≡ interval_length (get_or region (axis_at (length b.shape) along) (0, 0))
    → with_items Nums (box_size region ∷ []) (items_in (λ index. of_one_argument (λ a. scan_item f along a index) args) region)
    ≡ scan_along f along b (walk_at region 0) (get_or region (axis_at (length b.shape) along) (0, 0)).1
scanned_items f along args b region shape only there fit one =
    let axis = axis_at (length b.shape) along in
    let s = get_or region axis (0, 0) in
    let index = walk_at region 0 in
    let begins : get_or index axis 1 ≡ s.0 = walk_first axis region shape there fit in
    let item : List ℕ → Result Item Kind = λ index. of_one_argument (λ a. scan_item f along a index) args in
    let there_item : ℕ → Result Item Kind = λ before. scan_item f along b (set index axis (s.0 + before)) in
    ap (λ rs. with_items Nums (box_size region ∷ []) (all_or_first_error rs)) (same_rules (λ p. item (walk_at region p)) there_item (box_size region) (λ p below.
    as_one (λ a. scan_item f along a (walk_at region p)) args b only ∙ ap (scan_item f along b) (line_walk axis region shape there fit one p below)))
    ∙ ap (λ m. with_items Nums (m ∷ []) (all_or_first_error (map there_item (range_with_len 0 m)))) one
    ∙ ap (λ q. with_items Nums ((s.1 + 1 - q) ∷ []) (all_or_first_error (map (λ before. scan_item f along b (set index axis (q + before))) (range_with_len 0 (s.1 + 1 - q))))) (sym begins)

holds : (items : Result (List Item) Kind) (shape : List ℕ) (r : Result ArrayValue ApplyFault) → IsAnswerTo (with_items Nums shape items) r → HoldsItems Nums items r
holds (Ok xs) shape (Ok a) h = let same : record { item_type = Nums; shape = shape; items = xs } ≡ a = cc in (ap (λ (b : ArrayValue). Ok b.items) same, sym (ap (λ (b : ArrayValue). b.item_type) same))
holds (Err k) shape (Ok a) h = cc
holds (Ok xs) shape (Err (KindFault k)) h = cc
holds (Err e) shape (Err (KindFault k)) h = cc
holds items shape (Err NoMemory) h = tt

-- the items of the line, if they are answered
pub holds_line : (items : Result (List Item) Kind) (shape : List ℕ) (wanted : Result ArrayValue Kind) (r : Option (Result ArrayValue ApplyFault)) → with_items Nums shape items ≡ wanted → IfSome r (IsAnswerTo wanted) → IfSome r (HoldsItems Nums items)
holds_line items shape wanted None e h = tt
holds_line items shape wanted (Some r) e h = holds items shape r (rw e h)
