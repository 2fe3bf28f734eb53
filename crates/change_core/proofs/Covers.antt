-- By the law of a rule, the reach contains everything that changes.
use Rattle.std.{proofs.Common.{◌≡◌, ℕ, List, [], ◌∷◌, length, map, replicate, refl, ap, ◌∙◌, sym, subst, arith, true, false, Bool, Option, Some, None, Result, Ok, Err, inl, inr}, proofs.lemmas.Bool.{true≢false, cases_Bool, cond-true, cond-false, both_ways}}
use Rattle.arrays_core.{specs.declared.item.Item.{Item}, specs.declared.item.Kind.{Kind}, specs.Arrays.{ArrayValue, IsArray, item_if_there}, specs.Shapes.{is_index_of}, specs.Items.{fill}}
use Rattle.change_core.{specs.declared.reach.Reach.{Reach}, specs.declared.reach.Reach.TheVariants.{Anew}, proofs.Regions.{HasFit, bounded-fits, bounded-within, join_fits, join_unmoved}}
use Rattle.change_core.{specs.Tightness.{Agrees, AllAgree, AllCovered, ArgumentChange, Covered, Each, IsTight, ReachCovers, ReachLies, blank, frames, items_read, moves, news, olds}, specs.Reaches.{Fits, LiesInResult, as_reach, bounded, changed, changed_by, is_anew, is_moved, is_reached, reach_by}}
use Rattle.change_core.specs.RuleModels.{RuleModel, Use}
use Rattle.index_region.{specs.Answers.{IsPlaceOf}, specs.Boxes.{Interval, fits, is_within}, specs.Checks.{Form}}

pub changed_by-fits : (shape : List ℕ) (u : Use) (m : Option (List Interval)) → HasFit shape (changed_by shape u m)
changed_by-fits shape u None = tt
changed_by-fits shape u (Some region) = bounded-fits shape (u.box region)

pub changed-fits : (shape : List ℕ) (uses : List Use) (ms : List (Option (List Interval))) → HasFit shape (changed shape uses ms)
changed-fits shape (u ∷ uses) (m ∷ ms) = join_fits shape _ _ (changed_by-fits shape u m) (changed-fits shape uses ms)
changed-fits shape [] ms = tt
changed-fits shape (u ∷ uses) [] = tt

as_reach-lies : (f : Form) (o : Option (List Interval)) → HasFit f.shape o → LiesInResult (Ok f) (as_reach o)
as_reach-lies f None h = tt
as_reach-lies f (Some region) h = h

reach_by-lies : (form : Result Form Kind) (uses : List ℕ → List ArrayValue → List Use) (args : List ArrayValue) (ms : List (Option (List Interval))) → LiesInResult form (reach_by form uses args ms)
reach_by-lies (Err k) uses args ms = tt
reach_by-lies (Ok f) uses args ms = as_reach-lies f _ (changed-fits f.shape (uses f.shape args) ms)

anew_lies : (form : Result Form Kind) → LiesInResult form Anew
anew_lies (Err k) = tt
anew_lies (Ok f) = tt

-- the box of a reach lies in the result
pub reaches_inside : (p : RuleModel) → ReachLies p
reaches_inside p args ms = elim (cases_Bool (is_anew p.selectors ms)) [
  | inl t ↦ subst (LiesInResult (p.form args)) (sym (cond-true _ _ _ t)) (anew_lies (p.form args))
  | inr f ↦ subst (LiesInResult (p.form args)) (sym (cond-false _ _ _ f)) (reach_by-lies (p.form args) p.uses args ms)
]

-- an argument is read alike at each index list outside its changed box
pub read_agrees : (c : ArgumentChange) → Agrees c → (place : List ℕ) → is_moved c.moved place ≡ false → item_if_there c.old place ≡ item_if_there c.new place
read_agrees c h place u = elim (cases_Bool (is_index_of c.new.shape place)) [
  | inl t ↦ cond-true _ _ _ (ap (λ (s : List ℕ). is_index_of s place) h.shape ∙ t) ∙ ap (λ (x : Item). Some x) (h.outside place t u) ∙ sym (cond-true _ _ _ t)
  | inr f ↦ cond-false _ _ _ (ap (λ (s : List ℕ). is_index_of s place) h.shape ∙ f) ∙ sym (cond-false _ _ _ f)
]

map_same : (f g : List ℕ → Option Item) (places : List (List ℕ)) → Each (λ place. f place ≡ g place) places → map f places ≡ map g places
map_same f g [] h = refl
map_same f g (place ∷ places) h = λ i. h.0 i ∷ map_same f g places h.1 i

map_all : (f g : List ℕ → Option Item) (places : List (List ℕ)) → ((place : List ℕ) → f place ≡ g place) → map f places ≡ map g places
map_all f g [] h = refl
map_all f g (place ∷ places) h = λ i. h place i ∷ map_all f g places h i

outside_each : (region : List Interval) (moved : Bool) (f g : List ℕ → Option Item) (places : List (List ℕ)) → ((place : List ℕ) → is_within region place ≡ false → f place ≡ g place) → moved ≡ false → Each (λ place. is_within region place ≡ true → moved ≡ true) places → Each (λ place. f place ≡ g place) places
outside_each region moved f g [] agree u h = tt
outside_each region moved f g (place ∷ places) agree u h =
    (agree place (elim (cases_Bool (is_within region place)) [ inl t ↦ absurd (both_ways _ u (h.0 t)) | inr o ↦ o ]), outside_each region moved f g places agree u h.1)

-- outside the part that one argument changes, it is read alike
reads_same : (shape from : List ℕ) (u : Use) (m : Option (List Interval)) (index : List ℕ) (f g : List ℕ → Option Item) → ((region : List Interval) → m ≡ Some region → fits region from ≡ true) → ((place : List ℕ) → is_moved m place ≡ false → f place ≡ g place) → Covered from shape u → is_index_of shape index ≡ true → is_moved (changed_by shape u m) index ≡ false → map f (u.reads index) ≡ map g (u.reads index)
reads_same shape from u None index f g fit agree cover place o = map_all f g (u.reads index) (λ p. agree p refl)
reads_same shape from u (Some region) index f g fit agree cover place o =
    let out : is_moved (u.box region) index ≡ false = elim (cases_Bool (is_moved (u.box region) index)) [ inl t ↦ absurd (both_ways _ o (bounded-within shape (u.box region) index place t)) | inr w ↦ w ] in
    map_same f g (u.reads index) (outside_each region (is_moved (u.box region) index) f g (u.reads index) agree out (cover region index (fit region refl) place))

fit_of : (a : ArrayValue) (m : Option (List Interval)) → Fits a m → (region : List Interval) → m ≡ Some region → fits region a.shape ≡ true
fit_of a None h region e = absurd (let k : Some region ≡ None = sym e in cc)
fit_of a (Some q) h region e = let k : q ≡ region = cc in subst (λ (r : List Interval). fits r a.shape ≡ true) k h

items_read_same : (shape : List ℕ) (changes : List ArgumentChange) (uses : List Use) (index : List ℕ) → AllAgree changes → AllCovered shape (news changes) uses → is_index_of shape index ≡ true → is_moved (changed shape uses (moves changes)) index ≡ false → items_read (olds changes) uses index ≡ items_read (news changes) uses index
items_read_same shape [] uses index h cover place u = refl
items_read_same shape (c ∷ changes) [] index h cover place u = refl
items_read_same shape (c ∷ changes) (used ∷ uses) index h cover place u =
    let each = join_unmoved shape (changed_by shape used c.moved) (changed shape uses (moves changes)) index (changed_by-fits shape used c.moved) (changed-fits shape uses (moves changes)) u in
    let first = reads_same shape c.new.shape used c.moved index (item_if_there c.old) (item_if_there c.new) (fit_of c.new c.moved h.0.fit) (read_agrees c h.0) cover.0 place each.0 in
    λ i. first i ∷ (items_read_same shape changes uses index h.1 cover.1 place each.1) i

frame_same : (c : ArgumentChange) → Agrees c → blank c.old ≡ blank c.new
frame_same c h = λ i. record { item_type = h.kind i; shape = h.shape i; items = replicate (h.count i) (fill (h.kind i)) }

-- if no selector changed, the frames are the same
frames_same : (selectors : List Bool) (changes : List ArgumentChange) → AllAgree changes → is_anew selectors (moves changes) ≡ false → frames selectors (olds changes) ≡ frames selectors (news changes)
frames_same [] changes h u = refl
frames_same (s ∷ selectors) [] h u = refl
frames_same (false ∷ selectors) (c ∷ changes) h u = λ i. (frame_same c h.0) i ∷ (frames_same selectors changes h.1 u) i
frames_same (true ∷ selectors) (c ∷ changes) h u = selector c.moved refl u (frames_same selectors changes h.1)
  where
    selector : (m : Option (List Interval)) → c.moved ≡ m → is_anew (true ∷ selectors) (m ∷ moves changes) ≡ false → (is_anew selectors (moves changes) ≡ false → frames selectors (olds changes) ≡ frames selectors (news changes)) → frames (true ∷ selectors) (olds (c ∷ changes)) ≡ frames (true ∷ selectors) (news (c ∷ changes))
    selector (Some region) e v rest = absurd (true≢false v)
    selector None e v rest = λ i. h.0.same e i ∷ rest v i

unmoved_reach : (shape : List ℕ) (o : Option (List Interval)) (index : List ℕ) → is_reached (as_reach o) index ≡ false → is_moved o index ≡ false
unmoved_reach shape None index u = refl
unmoved_reach shape (Some region) index u = u

length-news : (changes : List ArgumentChange) → length (news changes) ≡ length changes
length-news [] = refl
length-news (c ∷ changes) = let k = length-news changes in omega (arith, k)

all_sound : (changes : List ArgumentChange) → AllAgree changes → Each IsArray (news changes)
all_sound [] h = tt
all_sound (c ∷ changes) h = (h.0.sound, all_sound changes h.1)

length-olds : (changes : List ArgumentChange) → length (olds changes) ≡ length changes
length-olds [] = refl
length-olds (c ∷ changes) = let k = length-olds changes in omega (arith, k)

items_same : (p : RuleModel) → IsTight p → (changes : List ArgumentChange) (form : Result Form Kind) (index : List ℕ) → length changes ≡ length p.selectors → AllAgree changes → p.form (news changes) ≡ form → frames p.selectors (olds changes) ≡ frames p.selectors (news changes) → IsPlaceOf form index → is_reached (reach_by form p.uses (news changes) (moves changes)) index ≡ false → p.item (olds changes) index ≡ p.item (news changes) index
items_same p tight changes (Err k) index n h e same place u = absurd (true≢false u)
items_same p tight changes (Ok f) index n h e same place u =
    tight.determined _ _ f index (length-olds changes ∙ n) (length-news changes ∙ n) (all_sound changes h) same e place (items_read_same f.shape changes (p.uses f.shape (news changes)) index h (tight.covered (news changes) f (length-news changes ∙ n) e) place (unmoved_reach f.shape _ index u))

-- by the law of a rule, the reach contains everything that changes
pub covers : (p : RuleModel) → IsTight p → ReachCovers p
covers p tight changes n h old_ok new_ok bounded = elim (cases_Bool (is_anew p.selectors (moves changes))) [
  | inl t ↦ absurd (bounded (cond-true _ _ _ t))
  | inr f ↦
      let same = frames_same p.selectors changes h f in
      record {
        form = tight.settled _ _ same old_ok new_ok;
        outside = λ index place u.
            let v = ap (λ (r : Reach). is_reached r index) (sym (cond-false _ _ _ f)) ∙ u in
            items_same p tight changes (p.form (news changes)) index n h refl same place v;
      }
]
