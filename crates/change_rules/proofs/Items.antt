-- The items of a box that is the whole result.
use Rattle.std.{proofs.Common.{◌≡◌, ℕ, ◌+◌, ◌-◌, ◌*◌, ◌<◌, ◌≤◌, List, [], ◌∷◌, length, map, Result, Ok, Err, IsTrue, refl, ap, ◌∙◌, sym, subst, arith, inl, inr}, specs.List.{range_with_len}, proofs.lemmas.Bool.{and_parts, leb-true, false≢true, cases_order}, proofs.lemmas.Nat.{mul-le}}
use Rattle.arrays_core.{specs.declared.fault.ApplyFault.{ApplyFault}, specs.declared.fault.ApplyFault.TheVariants.{Kind as KindFault, NoMemory}, specs.declared.item.Item.{Item}, specs.declared.item.ItemType.{ItemType}, specs.declared.item.Kind.{Kind}, specs.Arrays.{ArrayValue, IsAnswerTo, with_items}}
use Rattle.arrays_core.{specs.Outcomes.{Outcome, IsOutcomeOf}, specs.Items.{all_or_first_error}, specs.Shapes.{size, indices}}
use Rattle.index_region.{specs.Boxes.{Interval, interval_length, box_size, fits, walk_at, whole_of}, specs.Checks.{Form, form_of, whole}, proofs.Patched.{box_within_size}, proofs.Walks.{some_place}}
use Rattle.change_core.{specs.declared.reach.Reach.{Reach}, specs.declared.reach.Reach.TheVariants.{Inside}, specs.Parts.{HoldsItems, items_in}, specs.Reaches.{LiesInResult}, proofs.Collected.{items_are}, proofs.Walking.{walk_is, length-along}}

-- the items of a call that returned an array
pub given_items : (t : ItemType) (wanted : Result (List Item) Kind) (applied : Result ArrayValue ApplyFault) (o : Outcome) (a : ArrayValue)
    → HoldsItems t wanted applied → IsOutcomeOf applied o → o ≡ Ok a → wanted ≡ Ok a.items
given_items t wanted applied o a holds is gave = (subst (HoldsItems t wanted) (subst (IsOutcomeOf applied) gave is) holds).0

-- two factors are greatest if their product is
both_greatest : (a b n m : ℕ) → 0 < a → 0 < b → a ≤ n → b ≤ m → a * b ≡ n * m → (a ≡ n) × (b ≡ m)
both_greatest a b n m ha hb la lb e =
    let less : a < n → ⊥ = λ h.
    let more : (a + 1) * b ≤ n * m = mul-le (a + 1) b n m (omega arith) lb in
    let one : (a + 1) * b ≡ a * b + b = grind arith in
    omega arith in
    let fewer : b < m → ⊥ = λ h.
    let more : a * (b + 1) ≤ n * m = mul-le a (b + 1) n m la (omega arith) in
    let one : a * (b + 1) ≡ a * b + a = grind arith in
    omega arith in (
      elim (cases_order a n) [ inl s ↦ s | inr o ↦ elim o [ inl l ↦ absurd (less l) | inr l ↦ absurd (omega arith) ] ],
      elim (cases_order b m) [ inl s ↦ s | inr o ↦ elim o [ inl l ↦ absurd (fewer l) | inr l ↦ absurd (omega arith) ] ],
    )

-- a box with as many places as the result is the whole result
pub all_places : (region : List Interval) (shape : List ℕ) → IsTrue (fits region shape) → box_size region ≡ size shape → region ≡ whole_of shape
all_places [] [] fit e = refl
all_places (s ∷ region) (n ∷ shape) fit e =
    let parts = and_parts _ _ fit in
    let first = and_parts _ _ parts.0 in
    let low : 1 ≤ s.0 = leb-true 1 s.0 (and_parts _ _ first.0).0 in
    let order : s.0 ≤ s.1 = leb-true s.0 s.1 (and_parts _ _ first.0).1 in
    let high : s.1 ≤ n = leb-true s.1 n first.1 in
    let both = both_greatest (interval_length s) (box_size region) n (size shape) (omega arith) (some_place region shape parts.1) (omega arith) (box_within_size region shape parts.1) e in
    let long : s.1 + 1 - s.0 ≡ n = both.0 in
    let from : s.0 ≡ 1 = omega arith in
    let to : s.1 ≡ n = omega arith in
    λ i. (from i, to i) ∷ (all_places region shape parts.1 both.1) i
all_places [] (n ∷ shape) fit e = absurd (false≢true fit)
all_places (s ∷ region) [] fit e = absurd (false≢true fit)

held : (t : ItemType) (shape : List ℕ) (xs : Result (List Item) Kind) (r : Result ArrayValue ApplyFault) → IsAnswerTo (with_items t shape xs) r → HoldsItems t xs r
held t shape (Ok xs) (Ok a) h = let same : record { item_type = t; shape = shape; items = xs } ≡ a = cc in (ap (λ (b : ArrayValue). Ok b.items) same, sym (ap (λ (b : ArrayValue). b.item_type) same))
held t shape (Err k) (Ok a) h = absurd (let no : ⊥ = cc in no)
held t shape (Ok xs) (Err (KindFault k)) h = absurd (let no : ⊥ = cc in no)
held t shape (Err j) (Err (KindFault k)) h = let same : j ≡ k = cc in ap (λ (m : Kind). Err m) same
held t shape xs (Err NoMemory) h = tt

-- the whole result has the items of that box
pub all_holds : (form : Result Form Kind) (item : List ℕ → Result Item Kind) (shape : List ℕ) (t : ItemType) (region : List Interval) (r : Result ArrayValue ApplyFault) → form ≡ Ok (form_of shape t) → region ≡ whole_of shape
    → IsAnswerTo (whole form item) r → HoldsItems t (items_in item region) r
all_holds form item shape t region r e w h =
    let items : items_in item region ≡ all_or_first_error (map item (indices shape)) = ap (items_in item) w ∙ ap all_or_first_error (walk_is shape item) in
    subst (λ (xs : Result (List Item) Kind). HoldsItems t xs r) (sym items) (held t shape (all_or_first_error (map item (indices shape))) r (subst (λ (f : Result Form Kind). IsAnswerTo (whole f item) r) e h))

-- as many items as places
pub as_many : (item : List ℕ → Result Item Kind) (region : List Interval) (xs : List Item) → items_in item region ≡ Ok xs → length xs ≡ box_size region
as_many item region xs e = length-along item region xs (items_are item region ∙ e)

-- a box of one place has the item there, or the error
pub one_item : (item : List ℕ → Result Item Kind) (region : List Interval) (r : Result Item Kind) → box_size region ≡ 1 → r ≡ item (walk_at region 0) → items_in item region ≡ all_or_first_error (r ∷ [])
one_item item region r one is =
    ap (λ (n : ℕ). all_or_first_error (map (λ before. item (walk_at region before)) (range_with_len 0 n))) one
    ∙ ap (λ (x : Result Item Kind). all_or_first_error (x ∷ [])) (sym is)

-- the reach lies in the result
pub inside_fit : (form : Result Form Kind) (shape : List ℕ) (t : ItemType) (reach : Reach) (region : List Interval) → form ≡ Ok (form_of shape t) → Inside region ≡ reach → LiesInResult form reach → IsTrue (fits region shape)
inside_fit form shape t reach region e w lies = subst (λ (r : Reach). LiesInResult (Ok (form_of shape t)) r) (sym w) (subst (λ (x : Result Form Kind). LiesInResult x reach) e lies)
