-- The changes by one argument and by the later ones.
use Rattle.std.{proofs.Common.{◌≡◌, ℕ, suc, zero, ◌<◌, List, [], ◌∷◌, length, drop, get_or, refl, ap, ◌∙◌, sym, subst, arith, Bool, true, false, ◌||◌, Option, Some, None}, proofs.lemmas.List.{drop_all}}
use Rattle.arrays_core.specs.Arrays.{ArrayValue}
use Rattle.change_core.{proofs.Covers.{changed-fits}, proofs.Regions.{HasFit, bounded-fits}, specs.Reaches.{AllFit, Fits, bounded, changed, is_anew}, specs.RuleModels.{FitsAt, Use, box_at}}
use Rattle.index_region.{proofs.Boxes.{fits_length}, specs.Boxes.{Interval, join_boxes}}

abbrev pub anew_by : Bool → Option (List Interval) → Bool → Bool
anew_by selects None rest = rest
anew_by selects (Some region) rest = selects || rest

anew_first : (s : Bool) (m n : Option (List Interval)) (selectors : List Bool) (ms : List (Option (List Interval))) → m ≡ n → is_anew (s ∷ selectors) (n ∷ ms) ≡ anew_by s m (is_anew selectors ms)
anew_first s m n selectors ms e = by_cases s n ∙ ap (λ (o : Option (List Interval)). anew_by s o (is_anew selectors ms)) (sym e)
  where
    by_cases : (s : Bool) (n : Option (List Interval)) → is_anew (s ∷ selectors) (n ∷ ms) ≡ anew_by s n (is_anew selectors ms)
    by_cases true None = refl
    by_cases true (Some r) = refl
    by_cases false None = refl
    by_cases false (Some r) = refl

pub anew_at : (selectors : List Bool) (ms : List (Option (List Interval))) (which : ℕ) (m : Option (List Interval)) → which < length ms → which < length selectors → m ≡ get_or ms which m → is_anew (drop which selectors) (drop which ms) ≡ anew_by (get_or selectors which false) m (is_anew (drop (suc which) selectors) (drop (suc which) ms))
anew_at selectors [] which m l k e = absurd (omega arith)
anew_at [] (n ∷ ms) which m l k e = absurd (omega arith)
anew_at (s ∷ selectors) (n ∷ ms) zero m l k e = anew_first s m n selectors ms e
anew_at (s ∷ selectors) (n ∷ ms) (suc which) m l k e = anew_at selectors ms which m (omega arith) (omega arith) e

anew_nothing : (selectors : List Bool) → is_anew selectors [] ≡ false
anew_nothing [] = refl
anew_nothing (true ∷ selectors) = refl
anew_nothing (false ∷ selectors) = refl

-- past the last argument no selector is left
pub anew_past : (selectors : List Bool) (ms : List (Option (List Interval))) (which : ℕ) → which ≡ length ms → is_anew (drop which selectors) (drop which ms) ≡ false
anew_past selectors ms which e = ap (is_anew (drop which selectors)) (drop_all which ms (omega arith)) ∙ anew_nothing (drop which selectors)

-- one more argument, which is no selector or did not change
pub anew_step : (selectors : List Bool) (ms : List (Option (List Interval))) (which from next : ℕ) (m : Option (List Interval)) → from ≡ which → next ≡ suc which → which < length ms → length ms ≡ length selectors
    → m ≡ get_or ms which m → anew_by (get_or selectors which false) m false ≡ false → is_anew (drop next selectors) (drop next ms) ≡ false → is_anew (drop from selectors) (drop from ms) ≡ false
anew_step selectors ms which from next m f n l count e h kept =
    ap (λ (k : ℕ). is_anew (drop k selectors) (drop k ms)) f
    ∙ anew_at selectors ms which m l (omega arith) e
    ∙ ap (λ (b : Bool). anew_by (get_or selectors which false) m b) (ap (λ (k : ℕ). is_anew (drop k selectors) (drop k ms)) (sym n) ∙ kept)
    ∙ h

-- a selector changed
pub anew_there : (selectors : List Bool) (ms : List (Option (List Interval))) (which : ℕ) (m : Option (List Interval)) (region : List Interval) → which < length ms → length ms ≡ length selectors
    → m ≡ get_or ms which m → m ≡ Some region → get_or selectors which false ≡ true → is_anew selectors ms ≡ true
anew_there selectors [] which m region l count e f h = absurd (omega arith)
anew_there [] (n ∷ ms) which m region l count e f h = absurd (omega arith)
anew_there (s ∷ selectors) (n ∷ ms) zero m region l count e f h = λ i. is_anew (h i ∷ selectors) ((sym e ∙ f) i ∷ ms)
anew_there (s ∷ selectors) (n ∷ ms) (suc which) m region l count e f h = later s n (anew_there selectors ms which m region (omega arith) (omega arith) e f h)
  where
    later : (s : Bool) (n : Option (List Interval)) → is_anew selectors ms ≡ true → is_anew (s ∷ selectors) (n ∷ ms) ≡ true
    later true (Some r) h = refl
    later true None h = h
    later false n h = h

-- the part that one argument changes
abbrev pub moved_at : List ℕ → List Use → ℕ → Option (List Interval) → Option (List Interval)
moved_at shape uses which None = None
moved_at shape uses which (Some region) = bounded shape (box_at uses which region)

changed_first : (shape : List ℕ) (uses : List Use) (m n : Option (List Interval)) (ms : List (Option (List Interval))) → m ≡ n → changed shape uses (n ∷ ms) ≡ join_boxes (moved_at shape uses 0 m) (changed shape (drop 1 uses) ms)
changed_first shape uses m n ms e = by_cases uses n ∙ ap (λ (o : Option (List Interval)). join_boxes (moved_at shape uses 0 o) (changed shape (drop 1 uses) ms)) (sym e)
  where
    by_cases : (uses : List Use) (n : Option (List Interval)) → changed shape uses (n ∷ ms) ≡ join_boxes (moved_at shape uses 0 n) (changed shape (drop 1 uses) ms)
    by_cases [] None = refl
    by_cases [] (Some r) = refl
    by_cases (u ∷ us) None = refl
    by_cases (u ∷ us) (Some r) = refl

pub changed_at : (shape : List ℕ) (uses : List Use) (ms : List (Option (List Interval))) (which : ℕ) (m : Option (List Interval)) → which < length ms → m ≡ get_or ms which m → changed shape (drop which uses) (drop which ms) ≡ join_boxes (moved_at shape uses which m) (changed shape (drop (suc which) uses) (drop (suc which) ms))
changed_at shape uses [] which m l e = absurd (omega arith)
changed_at shape uses (n ∷ ms) zero m l e = changed_first shape uses m n ms e
changed_at shape [] (n ∷ ms) (suc which) m l e = nothing m
  where
    nothing : (m : Option (List Interval)) → changed shape (drop (suc which) []) (drop (suc which) (n ∷ ms)) ≡ join_boxes (moved_at shape [] (suc which) m) (changed shape (drop (suc (suc which)) []) (drop (suc (suc which)) (n ∷ ms)))
    nothing None = refl
    nothing (Some r) = refl
changed_at shape (u ∷ us) (n ∷ ms) (suc which) m l e = changed_at shape us ms which m (omega arith) e

changed_nothing : (shape : List ℕ) (uses : List Use) → None ≡ changed shape uses []
changed_nothing shape [] = refl
changed_nothing shape (u ∷ us) = refl

-- past the last argument nothing changes
pub changed_past : (shape : List ℕ) (uses : List Use) (ms : List (Option (List Interval))) (which : ℕ) → which ≡ length ms → None ≡ changed shape (drop which uses) (drop which ms)
changed_past shape uses ms which e = changed_nothing shape (drop which uses) ∙ sym (ap (changed shape (drop which uses)) (drop_all which ms (omega arith)))

pub same_rank : (shape : List ℕ) (p q : Option (List Interval)) → HasFit shape p → HasFit shape q → (a b : List Interval) → p ≡ Some a → q ≡ Some b → length a ≡ length b
same_rank shape p q hp hq a b ea eb = fits_length a shape (subst (HasFit shape) ea hp) ∙ sym (fits_length b shape (subst (HasFit shape) eb hq))

-- one more argument
pub changed_step : (shape : List ℕ) (uses : List Use) (ms : List (Option (List Interval))) (which from next : ℕ) (m rest : Option (List Interval)) → from ≡ which → next ≡ suc which → which < length ms
    → m ≡ get_or ms which m → rest ≡ changed shape (drop next uses) (drop next ms) → join_boxes (moved_at shape uses which m) rest ≡ changed shape (drop from uses) (drop from ms)
changed_step shape uses ms which from next m rest f n l e r =
    ap (join_boxes (moved_at shape uses which m)) (r ∙ ap (λ (k : ℕ). changed shape (drop k uses) (drop k ms)) n)
    ∙ sym (changed_at shape uses ms which m l e)
    ∙ ap (λ (k : ℕ). changed shape (drop k uses) (drop k ms)) (sym f)

pub changed_ranks : (shape : List ℕ) (uses : List Use) (ms : List (Option (List Interval))) (box this rest : Option (List Interval)) → this ≡ bounded shape box → rest ≡ changed shape uses ms → (a b : List Interval) → this ≡ Some a → rest ≡ Some b → length a ≡ length b
changed_ranks shape uses ms box this rest t r = same_rank shape this rest (subst (HasFit shape) (sym t) (bounded-fits shape box)) (subst (HasFit shape) (sym r) (changed-fits shape uses ms))

-- a changed box lies in its own argument
pub fit_at : (args : List ArrayValue) (ms : List (Option (List Interval))) (which : ℕ) (m : Option (List Interval)) (region : List Interval) → length ms ≡ length args → AllFit args ms → m ≡ get_or ms which m → m ≡ Some region → FitsAt args which region
fit_at [] ms which m region n h e f = tt
fit_at (a ∷ args) [] which m region n h e f = absurd (omega arith)
fit_at (a ∷ args) (x ∷ ms) zero m region n h e f = subst (Fits a) (sym e ∙ f) h.0
fit_at (a ∷ args) (x ∷ ms) (suc which) m region n h e f = fit_at args ms which m region (omega arith) h.1 e f
