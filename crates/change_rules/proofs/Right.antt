-- The items and errors in a change belong to the result.
use Rattle.index_region.{proofs.Walks.{walk_within, walk_of_offset, offset_below}, specs.declared.delta.Delta.{Delta}, specs.Answers.{IsPlaceOf}, specs.Boxes.{Interval, fits, is_within, walk_at, box_offset, box_size}, specs.Checks.{Form, whole}, proofs.Patched.{fits_within}}
use Rattle.std.{proofs.Common.{◌≡◌, ℕ, inl, inr, ◌+◌, List, Option, Some, None, Result, Ok, Err, OnOk, true, refl, ap, ◌∙◌, sym, subst, arith}, specs.declared.alloc.AllocError.{AllocError}, proofs.lemmas.Bool.{cases_Bool, cond-true, cond-false}}
use Rattle.arrays_core.{specs.declared.item.Item.{Item}, specs.declared.item.Kind.{Kind}, specs.Arrays.{ArrayValue}, specs.Items.{fill}, specs.Outcomes.{Outcome, given}}
use Rattle.change_core.{specs.declared.reach.Reach.{Reach}, specs.declared.reach.Reach.TheVariants.{Unmoved, Inside, Anew}, specs.Parts.{items_in}, specs.Reaches.{LiesInResult, reach_of}, specs.Growth.{last_interval, last_place}, specs.RuleModels.{RuleModel}, proofs.Regions.{HasFit, bounded-fits}}
use Rattle.change_core.{proofs.Collected.{items_are}, proofs.Covers.{reaches_inside}}
use Rattle.change_rules.{specs.Currency.{IsRight}, specs.Nodes.{Argument, views, moved, all_same, starts_anew, node_delta, patch_delta, delta_in, any_grown, grown_in, node_grows, items_at, tail_delta}, proofs.PatchRight.{collected_in, first_error}}

patch_is_right : (p : RuleModel) (args : List ArrayValue) (f : Form) (region : List Interval) (r : Result (List Item) Kind) → p.form args ≡ Ok f → fits region f.shape ≡ true → items_in (p.item args) region ≡ r
    → IsRight p args (patch_delta f.item_type region r)
patch_is_right p args f region (Ok xs) e fit is = record {
  form = f;
  passes = e;
  fit = fit;
  typed = refl;
  items = λ index h.
      ap (p.item args) (sym (walk_of_offset region index h))
      ∙ collected_in (fill f.item_type) (λ q. p.item args (walk_at region q)) (box_size region) xs (items_are (p.item args) region ∙ is) (box_offset region index) (offset_below region index h);
}
patch_is_right p args f region (Err k) e fit is =
    let first = first_error (λ q. p.item args (walk_at region q)) (box_size region) 0 k (items_are (p.item args) region ∙ is) in
    let index = walk_at region (0 + first.place) in
    let inside : is_within region index ≡ true = walk_within region (0 + first.place) (let below = first.below in omega arith) in
    inr (record {
      kind = k;
      index = index;
      place = subst (λ (x : Result Form Kind). IsPlaceOf x index) (sym e) (fits_within region f.shape index fit inside);
      fails = first.fails;
      is = refl;
    })

reached_is_right : (p : RuleModel) (args : List ArrayValue) (form : Result Form Kind) (reach : Reach) → p.form args ≡ form → LiesInResult form reach → IsRight p args (delta_in form (p.item args) reach)
reached_is_right p args (Err k) reach e lies = inl (ap (λ (x : Result Form Kind). given (whole x (p.item args))) (sym e))
reached_is_right p args (Ok f) Unmoved e lies = tt
reached_is_right p args (Ok f) Anew e lies = inl (ap (λ (x : Result Form Kind). given (whole x (p.item args))) (sym e))
reached_is_right p args (Ok f) (Inside region) e lies = patch_is_right p args f region (items_in (p.item args) region) e lies refl

-- the items of the last place, or the error of one of them
tail_is_right : (p : RuleModel) (args : List ArrayValue) (f : Form) (o : Option (List Interval)) (r : Result (List Item) Kind) → p.form args ≡ Ok f → last_place f.shape ≡ o → HasFit f.shape o → items_at (p.item args) o ≡ r
    → IsRight p args (tail_delta f.item_type f.shape r)
tail_is_right p args f o (Ok xs) e at fit is = record { form = f; passes = e; shaped = refl; typed = refl; items = ap (items_at (p.item args)) at ∙ is }
tail_is_right p args f None (Err k) e at fit is = absurd (let no : ⊥ = cc in no)
tail_is_right p args f (Some region) (Err k) e at fit is = patch_is_right p args f region (Err k) e fit is

grown_is_right : (p : RuleModel) (args : List ArrayValue) (form : Result Form Kind) → p.form args ≡ form → IsRight p args (grown_in form (p.item args))
grown_is_right p args (Err k) e = inl (ap (λ (x : Result Form Kind). given (whole x (p.item args))) (sym e))
grown_is_right p args (Ok f) e = tail_is_right p args f (last_place f.shape) (items_at (p.item args) (last_place f.shape)) e refl (bounded-fits f.shape (Some (last_interval f.shape))) refl

pub node_is_right : (p : RuleModel) (args : List Argument) (old : Outcome) → IsRight p (views args) (node_delta p args old)
node_is_right p args old = elim (cases_Bool (all_same args)) [
  | inl t ↦ subst (IsRight p (views args)) (sym (cond-true _ _ _ t)) tt
  | inr f ↦ elim (cases_Bool (starts_anew args old)) [
    | inl t ↦ subst (IsRight p (views args)) (sym (cond-false _ _ _ f ∙ cond-true _ _ _ t)) (inl refl)
    | inr g ↦ elim (cases_Bool (any_grown args)) [
      | inl some ↦ subst (IsRight p (views args)) (sym (cond-false _ _ _ f ∙ cond-false _ _ _ g ∙ cond-true _ _ _ some)) (elim (cases_Bool (node_grows p args)) [
        | inl t ↦ subst (IsRight p (views args)) (sym (cond-true _ _ _ t)) (grown_is_right p (views args) (p.form (views args)) refl)
        | inr n ↦ subst (IsRight p (views args)) (sym (cond-false _ _ _ n)) (inl refl)
      ])
      | inr none ↦ subst (IsRight p (views args)) (sym (cond-false _ _ _ f ∙ cond-false _ _ _ g ∙ cond-false _ _ _ none))
          (reached_is_right p (views args) (p.form (views args)) (reach_of p (views args) (moved args)) refl (reaches_inside p (views args) (moved args)))
    ]
  ]
]

-- a property of the wanted change holds for the change that was written, if they are equal
pub answered : (P : Delta → Type 0) (r : Result ℕ AllocError) (change wanted : Delta) → OnOk r (change ≡ wanted) → P wanted → OnOk r (P change)
answered P (Ok n) change wanted e h = subst P (sym e) h
answered P (Err e) change wanted is h = tt
