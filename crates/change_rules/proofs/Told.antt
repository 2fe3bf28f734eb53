-- The arguments whose views and changed places two lists have.
use Rattle.std.{proofs.Common.{◌≡◌, ℕ, List, [], ◌∷◌, ◌++◌, ◌+◌, ◌<◌, length, take, get_or, map, Bool, ◌||◌, ◌&&◌, not, is_ok, if◌then◌else◌, Some, refl, ap, sym, subst, ◌∙◌}, specs.Borrow.{Bor}, specs.List.{list_all, list_any}, proofs.lemmas.List.{length-map, take_more}, proofs.lemmas.List.Folds.{list_all-map}}
use Rattle.arrays_core.{specs.Arrays.{ArrayValue, IsArray}, specs.Outcomes.{Outcome}}
use Rattle.index_region.{specs.declared.delta.Delta.{Delta}, specs.declared.delta.Delta.TheVariants.{Same, Patch, Grown, Whole}, specs.declared.moved.Moved.{Moved}, specs.declared.moved.Moved.TheVariants.{Not, Inside, Longer, Anew}, specs.Boxes.{Interval}, specs.Moves.{Tells, changed_box}, specs.Patches.{PatchValue}}
use Rattle.index_region.specs.Tails.{TailValue}
use Rattle.change_core.{specs.Growth.{IsGrowing}, specs.Reaches.{AllFit}, specs.RuleModels.{RuleModel, form_size}, specs.Tightness.{Each, ReachCovers}, proofs.Covers.{reaches_inside}}
use Rattle.change_rules.{specs.Currency.{BringsUpToDate, HasAxis, IsRight}, proofs.NodeRight.{brings_up_to_date}, proofs.Right.{node_is_right}}
use Rattle.change_rules.{specs.Nodes.{Argument, AreArguments, views, moved, moved_by, marks, is_same, is_whole, is_grown, is_grown_at_most, all_same, any_grown, node_delta, node_cost, node_grows, reached_delta, reached_cost, grown_delta, grown_cost, grown_in, grown_size, starts_anew}, specs.Evaluation.{evaluation}}
use Rattle.change_rules.specs.Together.{is_unmoved, is_replaced, is_longer, is_longer_at_most, lengthens, longer_delta, longer_cost, moved_delta, moved_cost}

-- one more argument
pub more_told : (seen : List ArrayValue) (ms : List Moved) (args : List Argument) (v : ArrayValue) (m : Moved) (a : Argument) → AreArguments seen ms args → a.0 ≡ v → Tells m a.1.now
    → AreArguments (seen ++ v ∷ []) (ms ++ m ∷ []) (args ++ a ∷ [])
more_told [] [] [] v m a h e t = (e, t, tt)
more_told (w ∷ seen) (n ∷ ms) (b ∷ args) v m a h e t = (h.0, h.1, more_told seen ms args v m a h.2 e t)
more_told [] [] (b ∷ args) v m a h e t = absurd h
more_told [] (n ∷ ms) args v m a h e t = absurd h
more_told (w ∷ seen) [] args v m a h e t = absurd h
more_told (w ∷ seen) (n ∷ ms) [] v m a h e t = absurd h

-- one more argument of a list
pub split_more : (k : ℕ) (args : List Argument) (seen views : List ArrayValue) (ms moves : List Moved) (v : ArrayValue) (m : Moved) (a : Argument) → k < length args → AreArguments seen ms (take k args)
    → views ≡ seen ++ v ∷ [] → moves ≡ ms ++ m ∷ [] → v ≡ a.0 → Tells m a.1.now → a ≡ get_or args k a → AreArguments views moves (take (k + 1) args)
split_more k args seen views ms moves v m a below h is_seen is_moved e t is =
    let more = more_told seen ms (take k args) v m a h (sym e) t in
    let last : take k args ++ a ∷ [] ≡ take (k + 1) args = (λ i. take k args ++ is i ∷ []) ∙ sym (take_more args k a below) in
    subst (λ (xs : List Argument). AreArguments views moves xs) last (subst (λ (vs : List ArrayValue). AreArguments vs moves (take k args ++ a ∷ [])) (sym is_seen) (subst (λ (ns : List Moved). AreArguments (seen ++ v ∷ []) ns (take k args ++ a ∷ [])) (sym is_moved) more))

-- what agrees in each case, agrees for each argument
module _ {A : Type 0} (g : Moved → A) (f : Delta → A) (none : g Not ≡ f Same) (box : (region : Bor (List Interval)) (p : PatchValue) → region.now ≡ p.region → g (Inside region) ≡ f (Patch p)) (longer : (t : TailValue) → g Longer ≡ f (Grown t)) (anew : (r : Outcome) → g Anew ≡ f (Whole r)) where
  one_told : (m : Moved) (d : Delta) → Tells m d → g m ≡ f d
  one_told Not Same h = none
  one_told (Inside region) (Patch p) h = box region p h
  one_told Longer (Grown t) h = longer t
  one_told Anew (Whole r) h = anew r
  one_told Not (Patch p) h = absurd h
  one_told Not (Grown t) h = absurd h
  one_told Not (Whole r) h = absurd h
  one_told (Inside region) Same h = absurd h
  one_told (Inside region) (Grown t) h = absurd h
  one_told (Inside region) (Whole r) h = absurd h
  one_told Longer Same h = absurd h
  one_told Longer (Patch p) h = absurd h
  one_told Longer (Whole r) h = absurd h
  one_told Anew Same h = absurd h
  one_told Anew (Patch p) h = absurd h
  one_told Anew (Grown t) h = absurd h

  all_told : (seen : List ArrayValue) (ms : List Moved) (args : List Argument) → AreArguments seen ms args → (views args ≡ seen) × (map (λ a. f a.1.now) args ≡ map g ms)
  all_told [] [] [] h = (refl, refl)
  all_told (v ∷ seen) (m ∷ ms) (a ∷ args) h =
      let rest = all_told seen ms args h.2 in
      ((λ i. h.0 i ∷ rest.0 i), (λ i. sym (one_told m a.1.now h.1) i ∷ rest.1 i))
  all_told [] [] (a ∷ args) h = absurd h
  all_told [] (m ∷ ms) args h = absurd h
  all_told (v ∷ seen) [] args h = absurd h
  all_told (v ∷ seen) (m ∷ ms) [] h = absurd h

any_true : {X : Type 0} (p : X → Bool) (xs : List X) → list_any (λ b. b) (map p xs) ≡ list_any p xs
any_true p [] = refl
any_true p (x ∷ xs) = ap (λ (b : Bool). p x || b) (any_true p xs)

module _ (seen : List ArrayValue) (ms : List Moved) (args : List Argument) (h : AreArguments seen ms args) where
  pub views_told : views args ≡ seen
  views_told = (all_told changed_box moved_by refl (λ region p e. ap (λ (r : List Interval). Some r) e) (λ t. refl) (λ r. refl) seen ms args h).0

  boxes_told : moved args ≡ map changed_box ms
  boxes_told = (all_told changed_box moved_by refl (λ region p e. ap (λ (r : List Interval). Some r) e) (λ t. refl) (λ r. refl) seen ms args h).1

  marks_told : marks args ≡ map is_longer ms
  marks_told = (all_told is_longer is_grown refl (λ region p e. refl) (λ t. refl) (λ r. refl) seen ms args h).1

  every_told : (g : Moved → Bool) (f : Delta → Bool) → map (λ (a : Argument). f a.1.now) args ≡ map g ms → list_all (λ (a : Argument). f a.1.now) args ≡ list_all g ms
  every_told g f e = sym (list_all-map (λ b. b) (λ (a : Argument). f a.1.now) args) ∙ ap (list_all (λ b. b)) e ∙ list_all-map (λ b. b) g ms

  some_told : (g : Moved → Bool) (f : Delta → Bool) → map (λ (a : Argument). f a.1.now) args ≡ map g ms → list_any (λ (a : Argument). f a.1.now) args ≡ list_any g ms
  some_told g f e = sym (any_true (λ (a : Argument). f a.1.now) args) ∙ ap (list_any (λ b. b)) e ∙ any_true g ms

  same_told : all_same args ≡ list_all is_unmoved ms
  same_told = every_told is_unmoved is_same (all_told is_unmoved is_same refl (λ region p e. refl) (λ t. refl) (λ r. refl) seen ms args h).1

  longer_told : any_grown args ≡ list_any is_longer ms
  longer_told = some_told is_longer is_grown marks_told

  grown_told : list_all (λ a. is_grown_at_most a.1.now) args ≡ list_all is_longer_at_most ms
  grown_told = every_told is_longer_at_most is_grown_at_most (all_told is_longer_at_most is_grown_at_most refl (λ region p e. refl) (λ t. refl) (λ r. refl) seen ms args h).1

  whole_told : list_any (λ a. is_whole a.1.now) args ≡ list_any is_replaced ms
  whole_told = some_told is_replaced is_whole (all_told is_replaced is_whole refl (λ region p e. refl) (λ t. refl) (λ r. refl) seen ms args h).1

  anew_told : (held : Outcome) → starts_anew args held ≡ (list_any is_replaced ms || not (is_ok held))
  anew_told held = ap (λ (b : Bool). b || not (is_ok held)) whole_told

  pub count_told : (n : ℕ) → length args ≡ n → length seen ≡ n
  count_told n many = sym (ap length views_told) ∙ length-map args (λ (a : Argument). a.0) ∙ many

  pub moves_told : length ms ≡ length seen
  moves_told = sym (length-map ms changed_box) ∙ ap length (sym boxes_told) ∙ length-map args (λ (a : Argument). moved_by a.1.now) ∙ sym (count_told (length args) refl)

  pub fit_told : AllFit (views args) (moved args) → AllFit seen (map changed_box ms)
  fit_told fit = subst (AllFit seen) boxes_told (subst (λ (v : List ArrayValue). AllFit v (moved args)) views_told fit)

  module _ (p : RuleModel) (held : Outcome) where
    grows_told : node_grows p args ≡ lengthens p seen ms
    grows_told = λ i. grown_told i && p.grows (views_told i) (marks_told i)

    grown_delta_told : grown_delta p args ≡ longer_delta p seen ms
    grown_delta_told = λ i. if grows_told i then grown_in (p.form (views_told i)) (p.item (views_told i)) else Whole (evaluation p (views_told i))

    grown_cost_told : grown_cost p args ≡ longer_cost p seen ms
    grown_cost_told = λ i. if grows_told i then grown_size (p.form (views_told i)) else form_size (p.form (views_told i))

    pub delta_told : node_delta p args held ≡ moved_delta p seen ms held
    delta_told = λ i. if same_told i then Same else if anew_told held i then Whole (evaluation p (views_told i)) else if longer_told i then grown_delta_told i else reached_delta p (views_told i) (boxes_told i)

    pub cost_told : node_cost p args held ≡ moved_cost p seen ms held
    cost_told = λ i. if same_told i then 0 else if anew_told held i then form_size (p.form (views_told i)) else if longer_told i then grown_cost_told i else reached_cost p (views_told i) (boxes_told i)

  -- a property of the change
  module _ (p : RuleModel) (held : Outcome) (change : Delta) (is : change ≡ moved_delta p seen ms held) where
    delta_is : change ≡ node_delta p args held
    delta_is = is ∙ sym (delta_told p held)

    pub right_told : IsRight p (views args) change
    right_told = subst (IsRight p (views args)) (sym delta_is) (node_is_right p args held)

    pub current_told : ReachCovers p → IsGrowing p p.grows → length seen ≡ length p.selectors → AllFit seen (map changed_box ms) → Each IsArray seen → HasAxis args → BringsUpToDate p args held change
    current_told law growing count fit sound axes = subst (BringsUpToDate p args held) (sym delta_is) (brings_up_to_date p law growing args held
        (sym (count_told (length args) refl) ∙ count) (reaches_inside p (views args) (moved args)) (subst (λ (v : List ArrayValue). AllFit v (moved args)) (sym views_told) (subst (AllFit seen) (sym boxes_told) fit)) axes
        (subst (Each IsArray) (sym views_told) sound))
