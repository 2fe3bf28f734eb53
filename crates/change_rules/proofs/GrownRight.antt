-- A node that grows: its new place completes the old evaluation to the new one.
use Rattle.std.{proofs.Common.{◌≡◌, ℕ, zero, suc, ◌+◌, ◌*◌, ◌/◌, ◌%◌, ◌<◌, ◌≤◌, List, [], ◌∷◌, ◌++◌, length, map, max, min, refl, ap, ◌∙◌, sym, subst, arith, true, Bool, nat_lt, Some, Result, Ok, Err, is_ok, IfOk, inl, inr, add-zero}, specs.List.{range_with_len, flat_map, list_all}}
use Rattle.std.{proofs.lemmas.Bool.{cases_Bool, cond-true, cond-false, false≢true, ltb-true}, proofs.lemmas.List.{append-nil, append_assoc, map-append}, proofs.lemmas.Nat.{div-mul-add, mod-mul-add}}
use Rattle.arrays_core.{specs.declared.item.Item.{Item}, specs.declared.item.ItemType.{ItemType}, specs.declared.item.Kind.{Kind}, specs.Arrays.{ArrayValue, IsArray, with_items}, specs.Items.{after, all_or_first_error}, proofs.Growing.{fits_growth}, specs.Shapes.{indices, is_index_of}}
use Rattle.arrays_core.{specs.Growth.{grown_by, one_longer}, specs.Outcomes.{Outcome, fault, given}}
use Rattle.index_region.{specs.declared.delta.Delta.{Delta}, specs.declared.delta.Delta.TheVariants.{Same, Patch, Grown, Whole}, specs.Boxes.{Interval, box_size, fits, interval_length, is_empty, met, unless_empty, walk_at, whole_of}, specs.Checks.{Form, form_of, whole}, specs.Tails.{TailValue}}
use Rattle.change_core.{specs.Growth.{AllGrew, IsGrowing, last_interval, last_place}, specs.Tightness.{Each}, specs.Parts.{items_in}, specs.RuleModels.{RuleModel}, proofs.Regions.{HasFit, bounded-fits}, proofs.Walking.{prepend, prepend-nil, walk_is}}
use Rattle.change_rules.{specs.Currency.{applied}, specs.Nodes.{grown_in, items_at, tail_delta, is_grown, is_grown_at_most}, specs.Evaluation.{evaluation}, proofs.Walked.{walked_is}, proofs.Refreshed.{ShowsAll, same_whole}}

-- ---- the places of a shape that is one longer

abbrev block : List (List ℕ) → ℕ → List (List ℕ)
block rest k = map (λ index. k ∷ index) rest

blocks : (rest : List (List ℕ)) (a n : ℕ) → flat_map (block rest) (range_with_len a (suc n)) ≡ flat_map (block rest) (range_with_len a n) ++ block rest (a + n)
blocks rest a zero = append-nil (block rest a) ∙ ap (block rest) (sym (add-zero a))
blocks rest a (suc n) =
    ap (λ (l : List (List ℕ)). block rest a ++ l) (blocks rest (a + 1) n)
    ∙ sym (append_assoc (block rest a) (flat_map (block rest) (range_with_len (a + 1) n)) (block rest (a + 1 + n)))
    ∙ ap (λ (k : ℕ). (block rest a ++ flat_map (block rest) (range_with_len (a + 1) n)) ++ block rest k) (omega arith)

indices_longer : (n : ℕ) (s : List ℕ) → indices ((n + 1) ∷ s) ≡ indices (n ∷ s) ++ block (indices s) (n + 1)
indices_longer n s =
    let e : n + 1 ≡ suc n = omega arith in
    ap (λ (m : ℕ). flat_map (block (indices s)) (range_with_len 1 m)) e ∙ blocks (indices s) 1 n ∙ ap (λ (k : ℕ). indices (n ∷ s) ++ block (indices s) k) (omega arith)

-- ---- the items of the old places, followed by the items of the new one

put_joined : (x : Item) (ys : List Item) (r : Result (List Item) Kind) → after x (prepend ys r) ≡ prepend (x ∷ ys) r
put_joined x ys (Ok zs) = refl
put_joined x ys (Err k) = refl

all_joined : (rs ss : List (Result Item Kind)) (xs : List Item) → all_or_first_error rs ≡ Ok xs → all_or_first_error (rs ++ ss) ≡ prepend xs (all_or_first_error ss)
all_joined [] ss xs e = let none : [] ≡ xs = cc in sym (prepend-nil (all_or_first_error ss)) ∙ ap (λ (l : List Item). prepend l (all_or_first_error ss)) none
all_joined (Err k ∷ rs) ss xs e = absurd (let no : ⊥ = cc in no)
all_joined (Ok x ∷ rs) ss xs e = step (all_or_first_error rs) refl e (λ ys q. all_joined rs ss ys q)
  where
    step : (r : Result (List Item) Kind) → all_or_first_error rs ≡ r → after x r ≡ Ok xs → ((ys : List Item) → all_or_first_error rs ≡ Ok ys → all_or_first_error (rs ++ ss) ≡ prepend ys (all_or_first_error ss)) → after x (all_or_first_error (rs ++ ss)) ≡ prepend xs (all_or_first_error ss)
    step (Ok ys) q h rest =
        let same : x ∷ ys ≡ xs = cc in
        ap (after x) (rest ys q) ∙ put_joined x ys (all_or_first_error ss) ∙ ap (λ (l : List Item). prepend l (all_or_first_error ss)) same
    step (Err k) q h rest = absurd (let no : ⊥ = cc in no)

map_block : (item : List ℕ → Result Item Kind) (k : ℕ) (rest : List (List ℕ)) → map item (block rest k) ≡ map (λ index. item (k ∷ index)) rest
map_block item k [] = refl
map_block item k (index ∷ rest) = λ i. item (k ∷ index) ∷ map_block item k rest i

-- ---- the items of the box of the last place

empty_size : (region : List Interval) → is_empty region ≡ true → box_size region ≡ 0
empty_size [] h = absurd (false≢true h)
empty_size (s ∷ region) h = elim (cases_Bool (nat_lt s.1 s.0)) [
  | inl t ↦
      let low = ltb-true s.1 s.0 t in
      let none : interval_length s ≡ 0 = omega arith in
      ap (λ (k : ℕ). k * box_size region) none ∙ omega arith
  | inr f ↦
      ap (λ (k : ℕ). interval_length s * k) (empty_size region (rw f at h)) ∙ omega arith
]

unless_items : (item : List ℕ → Result Item Kind) (region : List Interval) → items_at item (unless_empty region) ≡ items_in item region
unless_items item region = elim (cases_Bool (is_empty region)) [
  | inl t ↦ ap (items_at item) (cond-true _ _ _ t) ∙ ap (λ (n : ℕ). all_or_first_error (map (λ before. item (walk_at region before)) (range_with_len 0 n))) (sym (empty_size region t))
  | inr f ↦ ap (items_at item) (cond-false _ _ _ f)
]

met_none : (s : List ℕ) → met s [] ≡ whole_of s
met_none [] = refl
met_none (n ∷ s) = λ i. (1, n) ∷ met_none s i

met_last : (n : ℕ) (s : List ℕ) → met ((n + 1) ∷ s) ((n + 1, n + 1) ∷ []) ≡ (n + 1, n + 1) ∷ whole_of s
met_last n s =
    let low : max 1 (n + 1) ≡ n + 1 = omega arith in
    let high : min (n + 1) (n + 1) ≡ n + 1 = omega arith in
    λ i. (low i, high i) ∷ met_none s i

results_same : (u v : ℕ → Result Item Kind) (from n : ℕ) → ((j : ℕ) → from ≤ j → j < from + n → u j ≡ v j) → map u (range_with_len from n) ≡ map v (range_with_len from n)
results_same u v from zero h = refl
results_same u v from (suc n) h =
    λ i. (h from (omega arith) (omega arith)) i ∷ (results_same u v (from + 1) n (λ j low high. h j (omega arith) (omega arith))) i

-- the walk of the last place equals the walk of the other axes
last_items : (item : List ℕ → Result Item Kind) (m : ℕ) (s : List ℕ) → items_in item ((m, m) ∷ whole_of s) ≡ all_or_first_error (map (λ index. item (m ∷ index)) (indices s))
last_items item m s =
    let region = whole_of s in
    let b = box_size region in
    let one : interval_length (m, m) ≡ 1 = omega arith in
    ap (λ (n : ℕ). all_or_first_error (map (λ before. item (walk_at ((m, m) ∷ region) before)) (range_with_len 0 n))) (ap (λ (k : ℕ). k * b) one ∙ omega arith)
    ∙ ap all_or_first_error (results_same (λ p. item (walk_at ((m, m) ∷ region) p)) (λ p. item (m ∷ walk_at region p)) 0 b (λ p low high.
    let q : 0 * b + p ≡ p = omega arith in
    let row : p / b ≡ 0 = ap (λ (k : ℕ). k / b) (sym q) ∙ div-mul-add 0 b p (omega arith) in
    let rest : p % b ≡ p = ap (λ (k : ℕ). k % b) (sym q) ∙ mod-mul-add 0 b p (omega arith) in
    let first : m + p / b ≡ m = omega arith in
    λ i. item (first i ∷ walk_at region (rest i))))
    ∙ ap all_or_first_error (walk_is s (λ index. item (m ∷ index)))

place_items : (item : List ℕ → Result Item Kind) (n : ℕ) (s : List ℕ) → items_at item (last_place ((n + 1) ∷ s)) ≡ all_or_first_error (map (λ index. item ((n + 1) ∷ index)) (indices s))
place_items item n s =
    ap (λ (r : List Interval). items_at item (unless_empty r)) (met_last n s)
    ∙ unless_items item ((n + 1, n + 1) ∷ whole_of s)
    ∙ last_items item (n + 1) s

-- the box of the last place lies in the shape
pub last_fit : (shape : List ℕ) (region : List Interval) → Some region ≡ last_place shape → fits region shape ≡ true
last_fit shape region e = subst (HasFit shape) (sym e) (bounded-fits shape (Some (last_interval shape)))

-- ---- the whole evaluation

whole_longer : (item : List ℕ → Result Item Kind) (n : ℕ) (s : List ℕ) (xs : List Item) → all_or_first_error (map item (indices (n ∷ s))) ≡ Ok xs
    → all_or_first_error (map item (indices ((n + 1) ∷ s))) ≡ prepend xs (all_or_first_error (map (λ index. item ((n + 1) ∷ index)) (indices s)))
whole_longer item n s xs e =
    ap (λ (l : List (List ℕ)). all_or_first_error (map item l)) (indices_longer n s)
    ∙ ap all_or_first_error (map-append item (indices (n ∷ s)) (block (indices s) (n + 1)))
    ∙ all_joined (map item (indices (n ∷ s))) (map item (block (indices s) (n + 1))) xs e
    ∙ ap (λ (l : List (Result Item Kind)). prepend xs (all_or_first_error l)) (map_block item (n + 1) (indices s))

abbrev array : ItemType → List ℕ → List Item → ArrayValue
array t shape xs = record { item_type = t; shape = shape; items = xs }

-- if the items of the old places are the old result, the new items complete the new result
tail_right : (t : ItemType) (n : ℕ) (s : List ℕ) (item : List ℕ → Result Item Kind) (old : Outcome) (rs : Result (List Item) Kind) → all_or_first_error (map item (indices (n ∷ s))) ≡ rs
    → old ≡ given (with_items t (n ∷ s) rs) → is_ok old ≡ true → applied (grown_in (Ok (form_of ((n + 1) ∷ s) t)) item) old ≡ given (whole (Ok (form_of ((n + 1) ∷ s) t)) item)
tail_right t n s item old (Err k) e h ok = absurd (false≢true (ap is_ok (sym h) ∙ ok))
tail_right t n s item old (Ok xs) e h ok =
    let ss = all_or_first_error (map (λ index. item ((n + 1) ∷ index)) (indices s)) in
    ap (λ (r : Result (List Item) Kind). applied (tail_delta t ((n + 1) ∷ s) r) old) (place_items item n s)
    ∙ ap (λ (o : Outcome). applied (tail_delta t ((n + 1) ∷ s) ss) o) h
    ∙ put ss
    ∙ ap (λ (r : Result (List Item) Kind). given (with_items t ((n + 1) ∷ s) r)) (sym (whole_longer item n s xs e))
  where
    put : (r : Result (List Item) Kind) → applied (tail_delta t ((n + 1) ∷ s) r) (Ok (array t (n ∷ s) xs)) ≡ given (with_items t ((n + 1) ∷ s) (prepend xs r))
    put (Ok ys) = refl
    put (Err k) = refl

longer_right : (t : ItemType) (fs : List ℕ) (item_old item_new : List ℕ → Result Item Kind) (old : Outcome) → 0 < length fs → ((index : List ℕ) → is_index_of fs index ≡ true → item_old index ≡ item_new index)
    → old ≡ given (whole (Ok (form_of fs t)) item_old) → is_ok old ≡ true → applied (grown_in (Ok (form_of (one_longer fs) t)) item_new) old ≡ given (whole (Ok (form_of (one_longer fs) t)) item_new)
longer_right t [] item_old item_new old some kept h ok = absurd (omega arith)
longer_right t (n ∷ s) item_old item_new old some kept h ok =
    let f = form_of (n ∷ s) t in
    let same : given (whole (Ok f) item_old) ≡ given (whole (Ok f) item_new) = sym (walked_is (Ok f) item_old) ∙ same_whole f item_old item_new kept ∙ walked_is (Ok f) item_new in
    tail_right t n s item_new old (all_or_first_error (map item_new (indices (n ∷ s)))) refl (h ∙ same) ok

-- the new form has one more place than the old one
pub grown_right : (p : RuleModel) → IsGrowing p p.grows → (marks : List Bool) (olds news : List ArrayValue) (old : Outcome) → AllGrew marks olds news → Each IsArray olds → Each IsArray news → p.grows news marks ≡ true
    → old ≡ evaluation p olds → is_ok old ≡ true → applied (grown_in (p.form news) (p.item news)) old ≡ evaluation p news
grown_right p law marks olds news old grew so sn listed h ok = by_forms (p.form olds) (p.form news) refl refl
  where
    by_forms : (r q : Result Form Kind) → p.form olds ≡ r → p.form news ≡ q → applied (grown_in (p.form news) (p.item news)) old ≡ evaluation p news
    by_forms r (Err k) e w = ap (λ (x : Result Form Kind). applied (grown_in x (p.item news)) old) w ∙ ap (λ (x : Result Form Kind). given (whole x (p.item news))) (sym w)
    by_forms (Err k) (Ok g) e w = let was : old ≡ Err (fault k) = h ∙ ap (λ (x : Result Form Kind). given (whole x (p.item olds))) e in absurd (false≢true (ap is_ok (sym was) ∙ ok))
    by_forms (Ok f) (Ok g) e w =
        let x = law marks olds news f g grew so sn listed e w in
        let form : g ≡ form_of (one_longer f.shape) f.item_type = λ i. form_of (x.shaped i) (x.typed i) in
        let now : p.form news ≡ Ok (form_of (one_longer f.shape) f.item_type) = w ∙ ap (λ (y : Form). Ok y) form in
        ap (λ (y : Result Form Kind). applied (grown_in y (p.item news)) old) now
        ∙ longer_right f.item_type f.shape (p.item olds) (p.item news) old x.some_axis x.kept (h ∙ ap (λ (y : Result Form Kind). given (whole y (p.item olds))) e) ok
        ∙ ap (λ (y : Result Form Kind). given (whole y (p.item news))) (sym now)

-- ---- the arguments before

-- the old arguments, as arrays, some of which grew
pub record BeforeGrowth (os : List Outcome) (ds : List Delta) (ns : List ArrayValue) : Type 0 where
  pub olds : List ArrayValue
  pub old : os ≡ map (λ a. Ok a) olds
  pub grew : AllGrew (map is_grown ds) olds ns
  pub sound : Each IsArray olds

tail_of : (o : Outcome) (t : TailValue) (n : ArrayValue) → applied (Grown t) o ≡ Ok n → (a : ArrayValue) × (o ≡ Ok a) × (grown_by a t.items ≡ n)
tail_of (Ok a) t n e = (a, refl, (let s : grown_by a t.items ≡ n = cc in s))
tail_of (Err f) t n e = absurd cc

-- an argument that grew has an axis
abbrev pub HaveAxes : List Delta → List ArrayValue → Type 0
HaveAxes (d ∷ ds) (n ∷ ns) = (is_grown d ≡ true → 0 < length n.shape) × HaveAxes ds ns
HaveAxes _ _ = Unit {0}

pub grown_before : (os : List Outcome) (ds : List Delta) (ns : List ArrayValue) → ShowsAll os ds ns → list_all is_grown_at_most ds ≡ true → HaveAxes ds ns → Each IsArray ns → BeforeGrowth os ds ns
grown_before [] [] [] h k axes sound = record { olds = []; old = refl; grew = tt; sound = tt }
grown_before (o ∷ os) (Same ∷ ds) (n ∷ ns) h k axes sound =
    let rest = grown_before os ds ns h.1 k axes.1 sound.1 in
    record { olds = n ∷ rest.olds; old = λ i. h.0.becomes i ∷ rest.old i; grew = (refl, rest.grew); sound = (sound.0, rest.sound) }
grown_before (o ∷ os) (Grown t ∷ ds) (n ∷ ns) h k axes sound =
    let rest = grown_before os ds ns h.1 k axes.1 sound.1 in
    let part = tail_of o t n h.0.becomes in
    let was : IsArray part.0 = subst (λ (x : Outcome). IfOk x IsArray) part.1 h.0.sound in
    record {
      olds = part.0 ∷ rest.olds;
      old = λ i. part.1 i ∷ rest.old i;
      grew = (record { items = t.items; fits = fits_growth part.0 n t.items was sound.0 part.2 (axes.0 refl); is = sym part.2 }, rest.grew);
      sound = (was, rest.sound);
    }
grown_before (o ∷ os) (Patch p ∷ ds) (n ∷ ns) h k axes sound = absurd (false≢true k)
grown_before (o ∷ os) (Whole r ∷ ds) (n ∷ ns) h k axes sound = absurd (false≢true k)
grown_before [] [] (n ∷ ns) h k axes sound = absurd h
grown_before [] (d ∷ ds) ns h k axes sound = absurd h
grown_before (o ∷ os) [] ns h k axes sound = absurd h
grown_before (o ∷ os) (d ∷ ds) [] h k axes sound = absurd h
