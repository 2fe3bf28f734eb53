-- If each changed array has the shape of the result, its changed places are the places of the result that may change.
use Rattle.std.{proofs.Common.{◌≡◌, ℕ, List, [], ◌∷◌, length, refl, ap, ◌∙◌, sym, subst, arith, true, false, Bool, Option, Some, None, Result, Ok}, specs.Prelude.{is_some, bytes_eq, MatchOption}, specs.Borrow.{Bor}, proofs.lemmas.Bool.{cond-false, cond-true, and_parts, eqb-true, leb-true, false≢true}}
use Rattle.std.proofs.lemmas.Slice.Eq.{bytes_eq-Decides}
use Rattle.arrays_core.{specs.Arrays.{ArrayValue}, specs.declared.item.Kind.{Kind}, specs.declared.item.ItemType.TheVariants.{Nums}}
use Rattle.function_names.{specs.declared.scalar.Scalar1.{Scalar1}, specs.declared.scalar.Scalar2.{Scalar2}}
use Rattle.index_region.{specs.Boxes.{Interval, fits, join_boxes, met, unless_empty, whole_of}, specs.Checks.{form_of}, specs.ArgumentLists.{of_one_argument, of_two_arguments}, proofs.Boxes.{fits_length}}
use Rattle.change_core.{specs.RuleModels.{Passes}, specs.Reaches.{Fits, AllFit, changed_by, as_reach, reach_by, reach_of}, proofs.Regions.{met_fit, fit_some}}
use Rattle.scalar_fns.{specs.EachMonadic.{each_monadic_form, each_monadic_rule}, specs.EachDyadic.{KeepsPlaces, each_dyadic_form, each_dyadic_rule, extended_use}, specs.Growth.{is_extended_to}, specs.ScalarExtension.{common, for_shape}, specs.Laws.EachDyadicGrowth.{common_left, common_right, common_same}}

-- a borrowed box represents the changed box
pub some_as : (lent : Option (Bor (List Interval))) (box : Option (List Interval)) → MatchOption lent (box ≡ None) (λ region. box ≡ Some region.now) → is_some lent ≡ is_some box
some_as None box e = sym (ap is_some e)
some_as (Some region) box e = sym (ap is_some e)

within : (region : List Interval) (shape : List ℕ) → fits region shape ≡ true → unless_empty (met shape region) ≡ Some region
within region shape h = ap unless_empty (met_fit shape region h) ∙ cond-false _ _ _ (fit_some region shape h)

join_none : (box : Option (List Interval)) → join_boxes box None ≡ box
join_none None = refl
join_none (Some region) = refl

-- an array with the shape of the result may change just its own changed places
by_own : (a : ArrayValue) (shape : List ℕ) (box : Option (List Interval)) → (is_some box ≡ true → a.shape ≡ shape) → Fits a box → changed_by shape (extended_use shape a) box ≡ box
by_own a shape None shaped fit = refl
by_own a shape (Some region) shaped fit =
    subst (λ (s : List ℕ). changed_by s (extended_use s a) (Some region) ≡ Some region) (shaped refl)
    (ap (λ (r : List Interval). unless_empty (met a.shape r)) (cond-true _ _ (whole_of a.shape) ((bytes_eq-Decides a.shape a.shape).1 refl)) ∙ within region a.shape fit)

module _ (a b : ArrayValue) (left right : Option (List Interval)) (keeps : KeepsPlaces a b (is_some left) (is_some right)) (fit : AllFit (a ∷ b ∷ []) (left ∷ right ∷ [])) where
  pub dyadic_reach : (f : Scalar2) → reach_of (each_dyadic_rule f) (a ∷ b ∷ []) (left ∷ right ∷ []) ≡ as_reach (join_boxes left right)
  dyadic_reach f =
      let shape = keeps.0 in
      ap (λ (r : Result (List ℕ) Kind). reach_by (for_shape r (λ s. Ok (form_of s Nums))) (each_dyadic_rule f).uses (a ∷ b ∷ []) (left ∷ right ∷ [])) keeps.1.0
      ∙ ap as_reach (ap (λ (box : Option (List Interval)). join_boxes box (join_boxes (changed_by shape (extended_use shape b) right) None)) (by_own a shape left keeps.1.1.0 fit.0)
      ∙ ap (join_boxes left) (join_none (changed_by shape (extended_use shape b) right) ∙ by_own b shape right keeps.1.1.1 fit.1.0))

  -- two changed boxes have one rank
  pub one_rank : (region other : List Interval) → left ≡ Some region → right ≡ Some other → length region ≡ length other
  one_rank region other e f =
      fits_length region a.shape (subst (Fits a) e fit.0) ∙ ap length (keeps.1.1.0 (ap is_some e) ∙ sym (keeps.1.1.1 (ap is_some f))) ∙ sym (fits_length other b.shape (subst (Fits b) f fit.1.0))

-- a function of one array has no check, and keeps its places
pub one_passes : (args : List ArrayValue) → length args ≡ 1 → Passes (of_one_argument each_monadic_form args)
one_passes [] h = absurd (omega arith)
one_passes (a ∷ []) h = (form_of a.shape Nums, refl)
one_passes (a ∷ b ∷ args) h = absurd (omega arith)

pub one_reach : (f : Scalar1) (args : List ArrayValue) (moves : List (Option (List Interval))) (box : Option (List Interval)) → length args ≡ 1 → moves ≡ box ∷ [] → AllFit args moves → reach_of (each_monadic_rule f) args moves ≡ as_reach box
one_reach f [] moves box h are fit = absurd (omega arith)
one_reach f (a ∷ b ∷ args) moves box h are fit = absurd (omega arith)
one_reach f (a ∷ []) moves box h are fit = ap (reach_of (each_monadic_rule f) (a ∷ [])) are ∙ by_box box (subst (AllFit (a ∷ [])) are fit)
  where
    by_box : (box : Option (List Interval)) → AllFit (a ∷ []) (box ∷ []) → reach_of (each_monadic_rule f) (a ∷ []) (box ∷ []) ≡ as_reach box
    by_box None fit = refl
    by_box (Some region) fit = ap as_reach (ap (λ (box : Option (List Interval)). join_boxes box None) (within region a.shape fit.0))

-- the checks pass and each changed array has the shape of the result: both have one shape, or the unchanged one is extended
pub keeps_one_shape : (a b : ArrayValue) (left right : Bool) → bytes_eq a.shape b.shape ≡ true → KeepsPlaces a b left right
keeps_one_shape a b left right h =
    let same : a.shape ≡ b.shape = (bytes_eq-Decides a.shape b.shape).0 h in
    (a.shape, (ap (λ (s : List ℕ). common a.shape s) (sym same) ∙ common_same a.shape, ((λ _. refl), (λ _. sym same))))

pub keeps_left : (a b : ArrayValue) (left right : Bool) → right ≡ false → is_extended_to a b ≡ true → KeepsPlaces a b left right
keeps_left a b left right still h =
    let parts = and_parts _ _ h in
    (a.shape, (common_left a.shape b.shape (eqb-true _ _ parts.0) (leb-true _ _ parts.1), ((λ _. refl), (λ t. absurd (false≢true (sym still ∙ t))))))

pub keeps_right : (a b : ArrayValue) (left right : Bool) → left ≡ false → is_extended_to b a ≡ true → KeepsPlaces a b left right
keeps_right a b left right still h =
    let parts = and_parts _ _ h in
    (b.shape, (common_right a.shape b.shape (eqb-true _ _ parts.0) (leb-true _ _ parts.1), ((λ t. absurd (false≢true (sym still ∙ t))), (λ _. refl))))

-- the same for two arguments in a list
module _ (args : List ArrayValue) (moves : List (Option (List Interval))) (a b : ArrayValue) (left right : Option (List Interval))
    (are : args ≡ a ∷ b ∷ []) (boxes : moves ≡ left ∷ right ∷ []) (keeps : KeepsPlaces a b (is_some left) (is_some right)) where
  pub two_pass : Passes (of_two_arguments each_dyadic_form args)
  two_pass = (form_of keeps.0 Nums, ap (of_two_arguments each_dyadic_form) are ∙ ap (λ (r : Result (List ℕ) Kind). for_shape r (λ s. Ok (form_of s Nums))) keeps.1.0)

  pub two_reach : (f : Scalar2) → AllFit args moves → reach_of (each_dyadic_rule f) args moves ≡ as_reach (join_boxes left right)
  two_reach f fit = (λ i. reach_of (each_dyadic_rule f) (are i) (boxes i)) ∙ dyadic_reach a b left right keeps (subst (λ (v : List ArrayValue). AllFit v (left ∷ right ∷ [])) are (subst (AllFit args) boxes fit)) f
