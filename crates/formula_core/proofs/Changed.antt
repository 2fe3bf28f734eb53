-- The old result of a node with its change is its new result.
use Rattle.std.{proofs.Common.{◌≡◌, ℕ, suc, ◌+◌, ◌<◌, List, [], ◌∷◌, ◌++◌, length, map, Bool, true, false, ◌||◌, Result, Ok, Err, IfOk, refl, sym, ap, ◌∙◌, subst, arith, inl, inr}, proofs.lemmas.List.{length-append, length-map}, specs.List.{list_all, list_any, range_with_len}}
use Rattle.std.proofs.lemmas.Bool.{false≢true, cases_Bool, cond-true, cond-false}
use Rattle.apl_expr.{specs.Trees.{Tree, Index, before_argument, between_arguments, Positions, NoPositions, Empty, Filled}, specs.declared.functions.Function1.{Function1}, specs.declared.functions.Function2.{Function2}}
use Rattle.arrays_core.{specs.Arrays.{ArrayValue, IsArray, with_items}, specs.Growth.{grown_by, one_longer}, specs.Items.{after, all_or_first_error}, specs.Shapes.{indices, size}, proofs.Growing.{size_longer}, proofs.Order.{length-indices}, specs.declared.fault.Fault.{Fault}, specs.declared.item.Item.{Item}}
use Rattle.arrays_core.{specs.declared.item.ItemType.{ItemType}, specs.declared.item.Kind.{Kind}, specs.Outcomes.{Outcome, given}}
use Rattle.index_region.{specs.declared.delta.Delta.{Delta}, specs.declared.delta.Delta.TheVariants.{Same, Patch, Grown, Whole}, specs.Boxes.{fits, walk_at, box_size}, specs.Checks.{Form, whole}, specs.Patches.{PatchValue, FitsPatch, patched}, specs.Tails.{TailValue, FitsTail}}
use Rattle.change_core.{specs.Growth.{IsGrowing, last_place}, specs.Tightness.{ReachCovers, Each}, specs.Reaches.{AllFit}, specs.RuleModels.{RuleModel}, proofs.Covers.{reaches_inside}}
use Rattle.change_rules.{specs.Currency.{applied, Shows, HasAxis, IsRight, IsRightPatch, IsRightTail}, specs.Nodes.{Argument, views, moved, is_same, is_whole, all_same, items_at, node_delta}, specs.Evaluation.{evaluation}, proofs.NodeRight.{brings_up_to_date}, proofs.Right.{node_is_right}}
use Rattle.selection_fns.{specs.Index.{Position, count_written, written_positions, index_rule}, specs.Laws.Index.{length-selectors}}
use Rattle.formula_core.{specs.Meaning.{eval, eval_positions, applied1, applied2, in_front, empty_in_front, indexed}, specs.Rules.{right_rule, both_rule}, specs.Changes.{NamesChange, argument_in_front, arguments, result_of, result_delta, operation_delta, written, values_of, change, changes, FitsIn, FitsNow}}
use Rattle.formula_core.{proofs.Applied.{change_before, change_between, eval_before, eval_between}, proofs.Covering.{rules_cover, rules_grow}, proofs.Fitting.{fit_now, axis_lies}, proofs.Meant.{right_meant, both_meant, index_meant}, proofs.Values.{HaveValues, no_values, paired, values_more, delta_by_values}}
use Rattle.apl_expr.specs.declared.expr.Monadic.TheVariants as monadic
use Rattle.apl_expr.specs.declared.functions.Function1.TheVariants as function1
use Rattle.apl_expr.specs.declared.expr.Dyadic.TheVariants as dyadic
use Rattle.apl_expr.specs.declared.functions.Function2.TheVariants as function2

-- the old value with its change is the new value; both are arrays or errors
pub record IsChanged (old : Outcome) (d : Delta) (new : Outcome) : Type 0 where
  pub right : applied d old ≡ new
  pub fit : FitsIn d old
  pub sound_old : IfOk old IsArray
  pub sound_new : IfOk new IsArray

-- the old value of a tree with its change is its new value
pub record IsTreeChanged (c : NamesChange) (t : Tree) : Type 0 where
  pub right : applied (change c t) (eval t c.old) ≡ eval t c.new
  pub fit : FitsIn (change c t) (eval t c.old)

-- the old value of each argument with its change is its new value
abbrev pub AllChanged : List Outcome → List Delta → List Outcome → Type 0
AllChanged [] [] [] = Unit {0}
AllChanged (o ∷ os) (d ∷ ds) (n ∷ ns) = IsChanged o d n × AllChanged os ds ns
AllChanged _ _ _ = ⊥

record FrontIs (o : Outcome) (r : Result (List ArrayValue) Fault) (arrays : List ArrayValue) : Type 0 where
  pub first : ArrayValue
  pub rest : List ArrayValue
  pub first_is : o ≡ Ok first
  pub rest_is : r ≡ Ok rest
  pub all : arrays ≡ first ∷ rest

front_ok : (o : Outcome) (r : Result (List ArrayValue) Fault) (arrays : List ArrayValue) → argument_in_front o r ≡ Ok arrays → FrontIs o r arrays
front_ok o (Err e) arrays h = absurd (let no : ⊥ = cc in no)
front_ok (Err e) (Ok xs) arrays h = absurd (let no : ⊥ = cc in no)
front_ok (Ok a) (Ok xs) arrays h = record { first = a; rest = xs; first_is = refl; rest_is = refl; all = let e : arrays ≡ a ∷ xs = cc in e }

pub all_arrays : (ns : List Outcome) (arrays : List ArrayValue) → arguments ns ≡ Ok arrays → ns ≡ map (λ a. Ok a) arrays
all_arrays [] arrays h = let e : [] ≡ arrays = cc in ap (λ xs. map (λ a. Ok a) xs) e
all_arrays (n ∷ ns) arrays h =
    let front = front_ok n (arguments ns) arrays h in
    let here : n ≡ Ok front.first = front.first_is in
    let rest : ns ≡ map (λ a. Ok a) front.rest = all_arrays ns front.rest front.rest_is in
    (λ i. here i ∷ rest i) ∙ ap (λ xs. map (λ a. Ok a) xs) (sym front.all)

arrays_given : (arrays : List ArrayValue) → arguments (map (λ a. Ok a) arrays) ≡ Ok arrays
arrays_given [] = refl
arrays_given (a ∷ arrays) = ap (argument_in_front (Ok a)) (arrays_given arrays)

-- nothing changed
unchanged : (os : List Outcome) (ds : List Delta) (ns : List Outcome) → AllChanged os ds ns → list_all is_same ds ≡ true → os ≡ ns
unchanged [] [] [] h k = refl
unchanged (o ∷ os) (Same ∷ ds) (n ∷ ns) h k = let here = h.0.right in let rest = unchanged os ds ns h.1 k in λ i. here i ∷ rest i
unchanged (o ∷ os) (Patch p ∷ ds) (n ∷ ns) h k = absurd (false≢true k)
unchanged (o ∷ os) (Grown t ∷ ds) (n ∷ ns) h k = absurd (false≢true k)
unchanged (o ∷ os) (Whole r ∷ ds) (n ∷ ns) h k = absurd (false≢true k)
unchanged [] [] (n ∷ ns) h k = absurd h
unchanged [] (d ∷ ds) ns h k = absurd h
unchanged (o ∷ os) [] ns h k = absurd h
unchanged (o ∷ os) (d ∷ ds) [] h k = absurd h

-- the arguments in the form that a rule takes
record Handed (os : List Outcome) (ds : List Delta) (arrays : List ArrayValue) : Type 0 where
  pub shows : Shows os (paired arrays ds)
  pub told : HaveValues (paired arrays ds) arrays ds
  pub count : length (paired arrays ds) ≡ length ds
  pub fit : AllFit (views (paired arrays ds)) (moved (paired arrays ds))
  pub axes : HasAxis (paired arrays ds)
  pub sound : Each IsArray (views (paired arrays ds))

box_fits : (d : Delta) (a : ArrayValue) (arrays : List ArrayValue) (ds : List Delta) → FitsNow d (Ok a) → AllFit (views (paired arrays ds)) (moved (paired arrays ds))
    → AllFit (views (paired (a ∷ arrays) (d ∷ ds))) (moved (paired (a ∷ arrays) (d ∷ ds)))
box_fits Same a arrays ds h rest = (tt, rest)
box_fits (Patch p) a arrays ds h rest = (h.inside, rest)
box_fits (Grown t) a arrays ds h rest = (tt, rest)
box_fits (Whole r) a arrays ds h rest = (tt, rest)

handed : (os : List Outcome) (ds : List Delta) (arrays : List ArrayValue) → AllChanged os ds (map (λ a. Ok a) arrays) → Handed os ds arrays
handed [] [] [] h = record { shows = tt; told = no_values; count = refl; fit = tt; axes = tt; sound = tt }
handed (o ∷ os) (d ∷ ds) (a ∷ arrays) h =
    let rest = handed os ds arrays h.1 in
    let now = subst (λ (n : Outcome). FitsNow d n) h.0.right (fit_now d o h.0.fit) in
    record {
      shows = (record { becomes = h.0.right; sound = h.0.sound_old }, rest.shows);
      told = values_more a (record { ref_ptr = (0, 0); now = d }) (paired arrays ds) arrays ds rest.told;
      count = ap suc rest.count;
      fit = box_fits d a arrays ds now rest.fit;
      axes = (axis_lies a d now, rest.axes);
      sound = (h.0.sound_new, rest.sound);
    }
handed [] [] (a ∷ arrays) h = absurd h
handed [] (d ∷ ds) arrays h = absurd h
handed (o ∷ os) [] arrays h = absurd h
handed (o ∷ os) (d ∷ ds) [] h = absurd h

-- a patch of a result lies in it
in_shape : (q : PatchValue) (b : ArrayValue) (item_type : ItemType) (shape : List ℕ) (r : Result (List Item) Kind) → fits q.region shape ≡ true → q.item_type ≡ item_type → Ok b ≡ given (with_items item_type shape r) → FitsPatch b q
in_shape q b item_type shape (Ok items) h e is =
    let same : b ≡ record { item_type = item_type; shape = shape; items = items } = cc in
    subst (λ (a : ArrayValue). FitsPatch a q) (sym same) (record { inside = h; typed = e })
in_shape q b item_type shape (Err k) h e is = absurd (let no : ⊥ = cc in no)

patch_fits : (p : RuleModel) (arrays : List ArrayValue) (q : PatchValue) (b : ArrayValue) → IsRightPatch p arrays q → Ok b ≡ evaluation p arrays → FitsPatch b q
patch_fits p arrays q b h is =
    in_shape q b h.form.item_type h.form.shape (all_or_first_error (map (p.item arrays) (indices h.form.shape))) h.fit h.typed
    (is ∙ ap (λ (f : Result Form Kind). given (whole f (p.item arrays))) h.passes)

-- as many items as there are places
counted : (rs : List (Result Item Kind)) (xs : List Item) → all_or_first_error rs ≡ Ok xs → length xs ≡ length rs
counted [] xs h = let none : [] ≡ xs = cc in ap (λ (l : List Item). length l) (sym none)
counted (Err k ∷ rs) xs h = absurd (let no : ⊥ = cc in no)
counted (Ok x ∷ rs) xs h = behind (all_or_first_error rs) (counted rs) refl h
  where
    behind : (r : Result (List Item) Kind) → ((ys : List Item) → all_or_first_error rs ≡ Ok ys → length ys ≡ length rs) → all_or_first_error rs ≡ r → after x r ≡ Ok xs → length xs ≡ suc (length rs)
    behind (Ok ys) others e h = let all : x ∷ ys ≡ xs = cc in ap (λ (l : List Item). length l) (sym all) ∙ ap suc (others ys e)
    behind (Err k) others e h = absurd (let no : ⊥ = cc in no)

-- a grown result has an axis: a result without axes has one item, which was there already
grown_axis : (item : List ℕ → Result Item Kind) (shape : List ℕ) (xs ys : List Item) → items_at item (last_place (one_longer shape)) ≡ Ok xs → length ys ≡ size shape → length ys + length xs ≡ size (one_longer shape) → 0 < length shape
grown_axis item [] xs ys h old all = let one : length xs ≡ 1 = counted (map (λ before. item (walk_at [] before)) (range_with_len 0 (box_size []))) xs h in absurd (omega (arith, one, old, all))
grown_axis item (n ∷ shape) xs ys h old all = omega arith

-- the tail of a grown result fits it
in_longer : (t : TailValue) (a : ArrayValue) (item : List ℕ → Result Item Kind) (item_type : ItemType) (shape : List ℕ) (r : Result (List Item) Kind) → IsArray a → t.shape ≡ shape → t.item_type ≡ item_type
    → items_at item (last_place shape) ≡ Ok t.items → all_or_first_error (map item (indices shape)) ≡ r → Ok (grown_by a t.items) ≡ given (with_items item_type shape r) → FitsTail a t
in_longer t a item item_type shape (Err k) sound shaped typed last made is = absurd (let no : ⊥ = cc in no)
in_longer t a item item_type shape (Ok items) sound shaped typed last made is =
    let same : grown_by a t.items ≡ record { item_type = item_type; shape = shape; items = items } = cc in
    let longer : one_longer a.shape ≡ shape = ap (λ (b : ArrayValue). b.shape) same in
    let many : length (a.items ++ t.items) ≡ length items = ap (λ (b : ArrayValue). length b.items) same in
    let each : length items ≡ length (map item (indices shape)) = counted (map item (indices shape)) items made in
    let places : length (map item (indices shape)) ≡ size (one_longer a.shape) = length-map (indices shape) item ∙ length-indices shape ∙ ap size (sym longer) in
    let joined = length-append a.items t.items in
    let old = sound.one_item_a_place in
    let all : length a.items + length t.items ≡ size (one_longer a.shape) = sym joined ∙ many ∙ each ∙ places in
    let axis = grown_axis item a.shape t.items a.items (subst (λ (s : List ℕ). items_at item (last_place s) ≡ Ok t.items) (sym longer) last) old all in
    let parts = size_longer a.shape axis in
    record {
      some_axis = axis;
      shaped = shaped ∙ sym longer;
      one_place = omega (arith, all, parts, old);
      typed = typed ∙ sym (ap (λ (b : ArrayValue). b.item_type) same);
    }

tail_fits : (p : RuleModel) (arrays : List ArrayValue) (t : TailValue) (a : ArrayValue) → IsArray a → IsRightTail p arrays t → Ok (grown_by a t.items) ≡ evaluation p arrays → FitsTail a t
tail_fits p arrays t a sound h is =
    in_longer t a (p.item arrays) h.form.item_type h.form.shape (all_or_first_error (map (p.item arrays) (indices h.form.shape))) sound h.shaped h.typed h.items refl
    (is ∙ ap (λ (f : Result Form Kind). given (whole f (p.item arrays))) h.passes)

-- an error has no patch and does not grow
or_yes : (b : Bool) → (b || true) ≡ true
or_yes true = refl
or_yes false = refl

abbrev IsNoPart : Delta → Type 0
IsNoPart (Patch q) = ⊥
IsNoPart (Grown t) = ⊥
IsNoPart _ = Unit {0}

no_part : (p : RuleModel) (args : List Argument) (e : Fault) → IsNoPart (node_delta p args (Err e))
no_part p args e = elim (cases_Bool (all_same args)) [
  | inl t ↦ subst IsNoPart (sym (cond-true _ _ _ t)) tt
  | inr f ↦ subst IsNoPart (sym (cond-false _ _ _ f ∙ cond-true _ _ _ (or_yes (list_any (λ a. is_whole a.1.now) args)))) tt
]

fit_of : (p : RuleModel) (args : List Argument) (old : Outcome) (d : Delta) → node_delta p args old ≡ d → IfOk old IsArray → IsRight p (views args) d → applied d old ≡ evaluation p (views args) → FitsIn d old
fit_of p args old Same is sound h becomes = tt
fit_of p args old (Whole r) is sound h becomes = tt
fit_of p args (Err e) (Patch q) is sound h becomes = absurd (subst IsNoPart is (no_part p args e))
fit_of p args (Err e) (Grown t) is sound h becomes = absurd (subst IsNoPart is (no_part p args e))
fit_of p args (Ok a) (Patch q) is sound h becomes = let now = patch_fits p (views args) q (patched a q) h becomes in record { inside = now.inside; typed = now.typed }
fit_of p args (Ok a) (Grown t) is sound h becomes = tail_fits p (views args) t a sound h becomes

-- an operation, by the law of its rule
module _ (p : RuleModel) (law : ReachCovers p) (growing : IsGrowing p p.grows) (os : List Outcome) (ds : List Delta) (ns : List Outcome) (all : AllChanged os ds ns) (count : length ds ≡ length p.selectors) where
  operation_becomes : (r : Result (List ArrayValue) Fault) → arguments ns ≡ r → applied (operation_delta p r ds (result_of p (arguments os))) (result_of p (arguments os)) ≡ result_of p r
  operation_becomes (Err e) is = elim (cases_Bool (list_all is_same ds)) [
    | inl t ↦ ap (λ d. applied d (result_of p (arguments os))) (cond-true _ _ _ t) ∙ (ap (λ xs. result_of p (arguments xs)) (unchanged os ds ns all t) ∙ ap (result_of p) is)
    | inr f ↦ ap (λ d. applied d (result_of p (arguments os))) (cond-false _ _ _ f)
  ]
  operation_becomes (Ok arrays) is =
      let given_all = handed os ds arrays (subst (λ (xs : List Outcome). AllChanged os ds xs) (all_arrays ns arrays is) all) in
      let args = paired arrays ds in
      let old = result_of p (arguments os) in
      ap (λ d. applied d old) (sym (delta_by_values p args arrays ds old given_all.told))
      ∙ brings_up_to_date p law growing args (result_of p (arguments os)) (given_all.count ∙ count) (reaches_inside p (views args) (moved args)) given_all.fit given_all.axes given_all.sound os given_all.shows
      (λ xs e. ap (λ ys. result_of p (arguments ys)) e ∙ ap (result_of p) (arrays_given xs))
      ∙ ap (evaluation p) given_all.told.seen

  operation_fits : IfOk (result_of p (arguments os)) IsArray → (r : Result (List ArrayValue) Fault) → arguments ns ≡ r → FitsIn (operation_delta p r ds (result_of p (arguments os))) (result_of p (arguments os))
  operation_fits sound (Err e) is = elim (cases_Bool (list_all is_same ds)) [
    | inl t ↦ subst (λ (d : Delta). FitsIn d (result_of p (arguments os))) (sym (cond-true _ _ _ t)) tt
    | inr f ↦ subst (λ (d : Delta). FitsIn d (result_of p (arguments os))) (sym (cond-false _ _ _ f)) tt
  ]
  operation_fits sound (Ok arrays) is =
      let given_all = handed os ds arrays (subst (λ (xs : List Outcome). AllChanged os ds xs) (all_arrays ns arrays is) all) in
      let args = paired arrays ds in
      let old = result_of p (arguments os) in
      let seen : evaluation p (views args) ≡ evaluation p arrays = ap (evaluation p) given_all.told.seen in
      let same : node_delta p args old ≡ result_delta p arrays ds old = delta_by_values p args arrays ds old given_all.told in
      subst (λ (d : Delta). FitsIn d old) same
      (fit_of p args old (node_delta p args old) refl sound (node_is_right p args old) (ap (λ d. applied d old) same ∙ (operation_becomes (Ok arrays) is ∙ sym seen)))

-- the result of a function by its rule is the value of its expression
pub monad_meant : (f : Function1) (o : Outcome) → result_of (right_rule f) (arguments (o ∷ [])) ≡ applied1 f o
monad_meant f (Err e) = refl
monad_meant f (Ok b) = right_meant f b

pub dyad_meant : (f : Function2) (a b : Outcome) → result_of (both_rule f) (arguments (a ∷ b ∷ [])) ≡ applied2 f b a
dyad_meant f a (Err e) = refl
dyad_meant f (Err e) (Ok b) = refl
dyad_meant f (Ok a) (Ok b) = both_meant f a b

positions_from : List Bool → Result (List ArrayValue) Fault → Result (List Position) Fault
positions_from ws (Ok arrays) = Ok (written_positions ws arrays)
positions_from ws (Err e) = Err e

one_in_front : (ws : List Bool) (o : Outcome) (r : Result (List ArrayValue) Fault) → in_front o (positions_from ws r) ≡ positions_from (true ∷ ws) (argument_in_front o r)
unfolding positions_from
one_in_front ws o (Err e) = refl
one_in_front ws (Err e) (Ok arrays) = refl
one_in_front ws (Ok a) (Ok arrays) = refl

none_in_front : (ws : List Bool) (r : Result (List ArrayValue) Fault) → empty_in_front (positions_from ws r) ≡ positions_from (false ∷ ws) r
unfolding positions_from
none_in_front ws (Err e) = refl
none_in_front ws (Ok arrays) = refl

positions_meant : (ps : Positions) (names : List ℕ → Outcome) → eval_positions ps names ≡ positions_from (written ps) (arguments (values_of ps names))
unfolding positions_from
positions_meant NoPositions names = refl
positions_meant (Empty ps) names = ap empty_in_front (positions_meant ps names) ∙ none_in_front (written ps) (arguments (values_of ps names))
positions_meant (Filled e ps) names = ap (in_front (eval e names)) (positions_meant ps names) ∙ one_in_front (written ps) (eval e names) (arguments (values_of ps names))

index_by_rule : (ws : List Bool) (a : Outcome) (r : Result (List ArrayValue) Fault) → result_of (index_rule ws) (argument_in_front a r) ≡ indexed (positions_from ws r) a
unfolding positions_from
index_by_rule ws a (Err e) = refl
index_by_rule ws (Err e) (Ok arrays) = refl
index_by_rule ws (Ok a) (Ok arrays) = index_meant ws a arrays

pub indexing_meant : (a : Tree) (ps : Positions) (names : List ℕ → Outcome) → result_of (index_rule (written ps)) (arguments (eval a names ∷ values_of ps names)) ≡ eval (Index a ps) names
indexing_meant a ps names = index_by_rule (written ps) (eval a names) (arguments (values_of ps names)) ∙ ap (λ r. indexed r (eval a names)) (sym (positions_meant ps names))

one_selector : (f : Function1) → 1 ≡ length (right_rule f).selectors
one_selector (function1.Monad (monadic.Scalar f)) = refl
one_selector (function1.Monad monadic.Ravel) = refl
one_selector (function1.Monad (monadic.Reverse k)) = refl
one_selector (function1.Monad monadic.Transpose) = refl
one_selector (function1.Monad monadic.Shape) = refl
one_selector (function1.Monad monadic.Iota) = refl
one_selector (function1.Reduce f k) = refl
one_selector (function1.Scan f k) = refl

two_selectors : (f : Function2) → 2 ≡ length (both_rule f).selectors
two_selectors (function2.Dyad (dyadic.Scalar f)) = refl
two_selectors (function2.Dyad dyadic.Reshape) = refl
two_selectors (function2.Dyad (dyadic.Catenate k)) = refl
two_selectors (function2.Dyad dyadic.Take) = refl
two_selectors (function2.Dyad dyadic.Drop) = refl
two_selectors (function2.Dyad (dyadic.Rotate k)) = refl
two_selectors (function2.Dyad dyadic.Transpose) = refl
two_selectors (function2.Dyad (dyadic.Replicate k)) = refl
two_selectors (function2.Dyad dyadic.IndexOf) = refl
two_selectors (function2.Dyad dyadic.Member) = refl
two_selectors (function2.Dyad dyadic.Encode) = refl
two_selectors (function2.Dyad dyadic.Decode) = refl
two_selectors (function2.Outer f) = refl
two_selectors (function2.Inner f g) = refl

written_many : (c : NamesChange) (ps : Positions) → length (changes c ps) ≡ count_written (written ps)
written_many c NoPositions = refl
written_many c (Empty ps) = written_many c ps
written_many c (Filled e ps) = ap suc (written_many c ps)

-- an operation with these changed arguments
operation_changed : (p : RuleModel) → ReachCovers p → IsGrowing p p.grows → (os : List Outcome) (ds : List Delta) (ns : List Outcome) (old new : Outcome) → IfOk old IsArray → AllChanged os ds ns → length ds ≡ length p.selectors
    → result_of p (arguments os) ≡ old → result_of p (arguments ns) ≡ new
    → (applied (operation_delta p (arguments ns) ds old) old ≡ new) × FitsIn (operation_delta p (arguments ns) ds old) old
operation_changed p law growing os ds ns old new sound all count was is =
    let held = subst (λ (o : Outcome). IfOk o IsArray) (sym was) sound in
    subst (λ (o : Outcome). (applied (operation_delta p (arguments ns) ds o) o ≡ new) × FitsIn (operation_delta p (arguments ns) ds o) o) was
    (operation_becomes p law growing os ds ns all count (arguments ns) refl ∙ is, operation_fits p law growing os ds ns all count held (arguments ns) refl)

changed_so : (c : NamesChange) (t : Tree) (d : Delta) → change c t ≡ d → (applied d (eval t c.old) ≡ eval t c.new) × FitsIn d (eval t c.old) → IsTreeChanged c t
changed_so c t d is h = record { right = ap (λ x. applied x (eval t c.old)) is ∙ h.0; fit = subst (λ (x : Delta). FitsIn x (eval t c.old)) (sym is) h.1 }

-- the old value of an operation with its change is its new value, if that holds for each argument
pub monad_changed : (c : NamesChange) (f : Function1) (b : Tree) → IfOk (eval (before_argument f b) c.old) IsArray → IsChanged (eval b c.old) (change c b) (eval b c.new) → IsTreeChanged c (before_argument f b)
monad_changed c f b sound right =
    let t = before_argument f b in
    let h = operation_changed (right_rule f) (rules_cover.of_right f) (rules_grow.of_right f) (eval b c.old ∷ []) (change c b ∷ []) (eval b c.new ∷ []) (eval t c.old) (eval t c.new) sound
    (right, tt) (one_selector f) (monad_meant f (eval b c.old) ∙ sym (eval_before c.old f b)) (monad_meant f (eval b c.new) ∙ sym (eval_before c.new f b)) in
    changed_so c t _ (change_before c f b) h

pub dyad_changed : (c : NamesChange) (f : Function2) (a b : Tree) → IfOk (eval (between_arguments f a b) c.old) IsArray → IsChanged (eval a c.old) (change c a) (eval a c.new) → IsChanged (eval b c.old) (change c b) (eval b c.new) → IsTreeChanged c (between_arguments f a b)
dyad_changed c f a b sound left right =
    let t = between_arguments f a b in
    let h = operation_changed (both_rule f) (rules_cover.of_both f) (rules_grow.of_both f) (eval a c.old ∷ eval b c.old ∷ []) (change c a ∷ change c b ∷ []) (eval a c.new ∷ eval b c.new ∷ []) (eval t c.old) (eval t c.new) sound
    (left, (right, tt)) (two_selectors f) (dyad_meant f (eval a c.old) (eval b c.old) ∙ sym (eval_between c.old f a b)) (dyad_meant f (eval a c.new) (eval b c.new) ∙ sym (eval_between c.new f a b)) in
    changed_so c t _ (change_between c f a b) h

pub index_changed : (c : NamesChange) (a : Tree) (ps : Positions) → IfOk (eval (Index a ps) c.old) IsArray → IsChanged (eval a c.old) (change c a) (eval a c.new) → AllChanged (values_of ps c.old) (changes c ps) (values_of ps c.new) → IsTreeChanged c (Index a ps)
index_changed c a ps sound array positions =
    let ws = written ps in
    let h = operation_changed (index_rule ws) (rules_cover.of_positions ws) (rules_grow.of_positions ws) (eval a c.old ∷ values_of ps c.old) (change c a ∷ changes c ps) (eval a c.new ∷ values_of ps c.new) (eval (Index a ps) c.old) (eval (Index a ps) c.new) sound
    (array, positions) (ap suc (written_many c ps) ∙ sym (length-selectors ws)) (indexing_meant a ps c.old) (indexing_meant a ps c.new) in
    record { right = h.0; fit = h.1 }
