-- For arguments that changed in boxes, the change of a node yields the evaluation of the new arguments.
use Rattle.index_region.{proofs.Walks.{walk_within}, specs.declared.delta.Delta.{Delta}, specs.declared.delta.Delta.TheVariants.{Same, Patch, Grown, Whole}, specs.Answers.{IsPlaceOf}, proofs.Patched.{patched_at}, specs.Boxes.{Interval, box_size, walk_at, whole_of}, specs.Checks.{Form}}
use Rattle.index_region.specs.Patches.{PatchValue, patched, patched_item}
use Rattle.std.{proofs.Common.{◌≡◌, ◌≢◌, ℕ, zero, suc, ◌+◌, ◌<◌, List, [], ◌∷◌, length, map, refl, ap, ◌∙◌, sym, subst, arith, IsTrue, true, false, Bool, ◌||◌, Option, Some, None, Result, Ok, Err, is_ok, IsOk, IfOk}, proofs.lemmas.List.{length-map}, proofs.lemmas.List.FromFn.{length-map-range_with_len}}
use Rattle.std.{specs.List.{range_with_len, list_all, list_any}, proofs.lemmas.Bool.{false≢true, true≢false, cond-false}}
use Rattle.arrays_core.{specs.Shapes.{index_after, is_index_of, size}, specs.declared.item.Item.{Item}, specs.declared.item.Kind.{Kind}, specs.Arrays.{ArrayValue, IsArray, item_of}, specs.Outcomes.{Outcome}}
use Rattle.change_core.{specs.declared.reach.Reach.{Reach}, specs.declared.reach.Reach.TheVariants.{Unmoved, Inside, Anew}, proofs.Collected.{along, collected}, proofs.UsedWays.{within-whole}, specs.Tightness.{Each, ReachCovers, AllAgree, ArgumentChange, Covers, moves, news, olds}}
use Rattle.change_core.{specs.Reaches.{AllFit, LiesInResult, reach_of, is_moved, is_reached}, specs.RuleModels.{RuleModel}}
use Rattle.change_rules.{proofs.PatchRight.{error_right, patch_right}, proofs.Walked.{array_of, walked, walked_is, walked_delta, walked_delta_is}, specs.Currency.{IsEvaluation, Shows, applied}, specs.Nodes.{Argument, is_same, is_whole, moved_by, patch_delta, delta_in, is_grown, views}, specs.Evaluation.{evaluation}}

-- an argument is its old value with its change applied
pub record BecameThis (o : Outcome) (d : Delta) (n : ArrayValue) : Type 0 where
  pub becomes : applied d o ≡ Ok n
  pub sound : IfOk o IsArray

abbrev pub ShowsAll : List Outcome → List Delta → List ArrayValue → Type 0
ShowsAll [] [] [] = Unit {0}
ShowsAll (o ∷ olds) (d ∷ deltas) (n ∷ news) = BecameThis o d n × ShowsAll olds deltas news
ShowsAll _ _ _ = ⊥

abbrev pub deltas : List Argument → List Delta
deltas args = map (λ a. a.1.now) args

pub shows_all : (olds : List Outcome) (args : List Argument) → Shows olds args → ShowsAll olds (deltas args) (views args)
shows_all [] [] h = h
shows_all (o ∷ olds) (a ∷ args) h = (record { becomes = h.0.becomes; sound = h.0.sound }, shows_all olds args h.1)
shows_all [] (a ∷ args) h = absurd h
shows_all (o ∷ olds) [] h = absurd h

pub any_delta : (p : Delta → Bool) (args : List Argument) → list_any p (deltas args) ≡ list_any (λ (a : Argument). p a.1.now) args
any_delta p [] = refl
any_delta p (a ∷ args) = ap (λ (b : Bool). p a.1.now || b) (any_delta p args)

pub same_olds : (os : List Outcome) (ds : List Delta) (ns : List ArrayValue) → ShowsAll os ds ns → list_all is_same ds ≡ true → os ≡ map (λ a. Ok a) ns
same_olds [] [] [] h k = refl
same_olds (o ∷ os) (Same ∷ ds) (n ∷ ns) h k = let rest = same_olds os ds ns h.1 k in let e = h.0.becomes in λ i. e i ∷ rest i
same_olds (o ∷ os) (Patch p ∷ ds) (n ∷ ns) h k = absurd (false≢true k)
same_olds (o ∷ os) (Grown t ∷ ds) (n ∷ ns) h k = absurd (false≢true k)
same_olds (o ∷ os) (Whole r ∷ ds) (n ∷ ns) h k = absurd (false≢true k)
same_olds [] [] (n ∷ ns) h k = absurd h
same_olds [] (d ∷ ds) ns h k = absurd h
same_olds (o ∷ os) [] ns h k = absurd h
same_olds (o ∷ os) (d ∷ ds) [] h k = absurd h

-- the old arguments, as arrays, with their changed boxes
pub record Before (os : List Outcome) (ds : List Delta) (ns : List ArrayValue) : Type 0 where
  pub changes : List ArgumentChange
  pub old : os ≡ map (λ a. Ok a) (olds changes)
  pub new : ns ≡ news changes
  pub moved : map moved_by ds ≡ moves changes
  pub agree : AllAgree changes

part_of : (o : Outcome) (p : PatchValue) (n : ArrayValue) → applied (Patch p) o ≡ Ok n → (a : ArrayValue) × (o ≡ Ok a) × (patched a p ≡ n)
part_of (Ok a) p n e = (a, refl, (let s : patched a p ≡ n = cc in s))
part_of (Err f) p n e = absurd cc

outside_patch : (a n : ArrayValue) (p : PatchValue) → patched a p ≡ n → (index : List ℕ) → IsTrue (is_index_of n.shape index) → is_moved (Some p.region) index ≡ false → item_of a index ≡ item_of n index
outside_patch a n p e index place out =
    let there : IsTrue (is_index_of a.shape index) = subst (λ (s : List ℕ). IsTrue (is_index_of s index)) (ap (λ (v : ArrayValue). v.shape) (sym e)) place in
    sym (cond-false _ _ _ out) ∙ sym (patched_at a p index there) ∙ ap (λ (v : ArrayValue). item_of v index) e

as_many : (o : Outcome) (a : ArrayValue) (p : PatchValue) (n : ArrayValue) → o ≡ Ok a → patched a p ≡ n → IfOk o IsArray → length a.items ≡ length n.items
as_many o a p n e q h =
    let sound : IsArray a = subst (λ (x : Outcome). IfOk x IsArray) e h in
    sound.one_item_a_place ∙ sym (length-map-range_with_len (λ (place : ℕ). patched_item a p (index_after a.shape place)) 0 (size a.shape)) ∙ ap (λ (x : ArrayValue). length x.items) q

pub arguments_before : (os : List Outcome) (ds : List Delta) (ns : List ArrayValue) → ShowsAll os ds ns → list_any is_whole ds ≡ false → list_any is_grown ds ≡ false → AllFit ns (map moved_by ds) → Each IsArray ns → Before os ds ns
arguments_before [] [] [] h k g f sound = record { changes = []; old = refl; new = refl; moved = refl; agree = tt }
arguments_before (o ∷ os) (Same ∷ ds) (n ∷ ns) h k g f sound =
    let rest = arguments_before os ds ns h.1 k g f.1 sound.1 in
    record {
      changes = record { old = n; new = n; moved = None } ∷ rest.changes;
      old = λ i. h.0.becomes i ∷ rest.old i;
      new = λ i. n ∷ rest.new i;
      moved = λ i. None ∷ rest.moved i;
      agree = (record { sound = sound.0; fit = tt; kind = refl; shape = refl; count = refl; same = λ _. refl; outside = λ index p u. refl }, rest.agree);
    }
arguments_before (o ∷ os) (Patch p ∷ ds) (n ∷ ns) h k g f sound =
    let rest = arguments_before os ds ns h.1 k g f.1 sound.1 in
    let part = part_of o p n h.0.becomes in
    record {
      changes = record { old = part.0; new = n; moved = Some p.region } ∷ rest.changes;
      old = λ i. part.1 i ∷ rest.old i;
      new = λ i. n ∷ rest.new i;
      moved = λ i. Some p.region ∷ rest.moved i;
      agree = (record { sound = sound.0; fit = f.0; count = as_many o part.0 p n part.1 part.2 h.0.sound; same = λ e. absurd cc; kind = ap (λ (v : ArrayValue). v.item_type) part.2; shape = ap (λ (v : ArrayValue). v.shape) part.2; outside = outside_patch part.0 n p part.2 }, rest.agree);
    }
arguments_before (o ∷ os) (Grown t ∷ ds) (n ∷ ns) h k g f sound = absurd (true≢false g)
arguments_before (o ∷ os) (Whole r ∷ ds) (n ∷ ns) h k g f sound = absurd (true≢false k)
arguments_before [] [] (n ∷ ns) h k g f sound = absurd h
arguments_before [] (d ∷ ds) ns h k g f sound = absurd h
arguments_before (o ∷ os) [] ns h k g f sound = absurd h
arguments_before (o ∷ os) (d ∷ ds) [] h k g f sound = absurd h

-- the same items make the same array
pub same_whole : (f : Form) (old new : List ℕ → Result Item Kind) → ((index : List ℕ) → IsTrue (is_index_of f.shape index) → old index ≡ new index) → walked (Ok f) old ≡ walked (Ok f) new
same_whole f old new h = ap (λ (rs : List (Result Item Kind)). array_of f (collected rs)) (same_along f.shape old new h)
  where
    same_map : (f g : ℕ → Result Item Kind) (n a : ℕ) → ((p : ℕ) → p < a + n → f p ≡ g p) → map f (range_with_len a n) ≡ map g (range_with_len a n)
    same_map f g zero a h = refl
    same_map f g (suc n) a h = λ i. (h a (omega arith)) i ∷ (same_map f g n (a + 1) (λ p l. h p (omega arith))) i

    same_along : (axes : List ℕ) (old new : List ℕ → Result Item Kind) → ((index : List ℕ) → IsTrue (is_index_of axes index) → old index ≡ new index) → along old (whole_of axes) ≡ along new (whole_of axes)
    same_along axes old new h = same_map (λ p. old (walk_at (whole_of axes) p)) (λ p. new (walk_at (whole_of axes) p)) (box_size (whole_of axes)) 0 (λ p l. h (walk_at (whole_of axes) p) (sym (within-whole axes (walk_at (whole_of axes) p)) ∙ walk_within (whole_of axes) p (omega arith)))

-- the same form before and after, and equal items outside the announced box
pub reached_right : (form : Result Form Kind) (old new : List ℕ → Result Item Kind) (reach : Reach) (a : ArrayValue) → LiesInResult form reach → ((f : Form) → form ≡ Ok f → reach ≢ Anew → (index : List ℕ) → IsTrue (is_index_of f.shape index) → is_reached reach index ≡ false → old index ≡ new index) → ((f : Form) → form ≡ Ok f → reach ≢ Anew → Ok a ≡ walked (Ok f) old) → applied (walked_delta form new reach) (Ok a) ≡ walked form new
reached_right (Err k) old new reach a lies outside e = refl
reached_right (Ok f) old new Anew a lies outside e = refl
reached_right (Ok f) old new Unmoved a lies outside e = e f refl (λ h. cc) ∙ same_whole f old new (λ index p. outside f refl (λ h. cc) index p refl)
reached_right (Ok f) old new (Inside region) a lies outside e = by_items (collected (along new region)) refl
  where
    by_items : (r : Result (List Item) Kind) → collected (along new region) ≡ r → applied (patch_delta f.item_type region (collected (along new region))) (Ok a) ≡ walked (Ok f) new
    by_items (Ok xs) c = ap (λ (r : Result (List Item) Kind). applied (patch_delta f.item_type region r) (Ok a)) c ∙ patch_right f old new region a xs (λ index p u. outside f refl (λ h. cc) index p u) (e f refl (λ h. cc)) c
    by_items (Err k) c = ap (λ (r : Result (List Item) Kind). applied (patch_delta f.item_type region r) (Ok a)) c ∙ error_right f old new region a k (λ index p u. outside f refl (λ h. cc) index p u) lies (e f refl (λ h. cc)) c

-- an evaluation that is an array has a form
form_is_ok : (form : Result Form Kind) (item : List ℕ → Result Item Kind) (a : ArrayValue) → Ok a ≡ walked form item → IsOk form
form_is_ok (Ok f) item a e = refl
form_is_ok (Err k) item a e = absurd cc

ok_form : (form : Result Form Kind) (f : Form) → form ≡ Ok f → IsOk form
ok_form (Ok g) f e = refl
ok_form (Err k) f e = absurd cc

pub kept_right : (p : RuleModel) → ReachCovers p → (os : List Outcome) (ds : List Delta) (ns : List ArrayValue) (old : Outcome) → length ns ≡ length p.selectors → LiesInResult (p.form ns) (reach_of p ns (map moved_by ds))
    → Before os ds ns → IsEvaluation p os old → is_ok old ≡ true → applied (delta_in (p.form ns) (p.item ns) (reach_of p ns (map moved_by ds))) old ≡ evaluation p ns
kept_right p law os ds ns (Err x) count lies before evaluated ok = absurd (false≢true ok)
kept_right p law os ds ns (Ok a) count lies before evaluated ok =
    let ch = before.changes in
    let ms = map moved_by ds in
    let many : length ch ≡ length p.selectors = sym (length-map ch (λ (c : ArgumentChange). c.new)) ∙ ap length (sym before.new) ∙ count in
    let was : Ok a ≡ walked (p.form (olds ch)) (p.item (olds ch)) = evaluated (olds ch) before.old ∙ sym (walked_is (p.form (olds ch)) (p.item (olds ch))) in
    let here : IsOk (p.form ns) → reach_of p ns ms ≢ Anew → Covers p (olds ch) ns (reach_of p ns ms) =
    subst (λ (v : List ArrayValue). IsOk (p.form v) → reach_of p v ms ≢ Anew → Covers p (olds ch) v (reach_of p v ms)) (sym before.new)
    (subst (λ (m : List (Option (List Interval))). IsOk (p.form (news ch)) → reach_of p (news ch) m ≢ Anew → Covers p (olds ch) (news ch) (reach_of p (news ch) m)) (sym before.moved)
    (law ch many before.agree (form_is_ok (p.form (olds ch)) (p.item (olds ch)) a was))) in
    ap (λ (d : Delta). applied d (Ok a)) (sym (walked_delta_is (p.form ns) (p.item ns) (reach_of p ns ms)))
    ∙ reached_right (p.form ns) (p.item (olds ch)) (p.item ns) (reach_of p ns ms) a lies
    (λ f e r index q u. (here (ok_form _ f e) r).outside index (subst (λ (x : Result Form Kind). IsPlaceOf x index) (sym e) q) u)
    (λ f e r. was ∙ ap (λ (x : Result Form Kind). walked x (p.item (olds ch))) ((here (ok_form _ f e) r).form ∙ e))
    ∙ walked_is (p.form ns) (p.item ns)
