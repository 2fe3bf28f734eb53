-- The parts of an array that growth keeps.
use Rattle.std.{proofs.Common.{◌≡◌, ℕ, zero, suc, ◌+◌, ◌<◌, ◌≤◌, List, [], ◌∷◌, ◌++◌, length, get_or, refl, ap, ◌∙◌, sym, subst, arith, true, false, Bool, Ok, Result, remove, map}, specs.List.{range_with_len}, proofs.lemmas.Bool.{and_parts, and_from, leb-true, le-leb, false≢true}}
use Rattle.std.proofs.lemmas.List.{get_or_append_left}
use Rattle.arrays_core.{specs.declared.item.Item.{Item}, specs.declared.item.Kind.{Kind}, specs.declared.item.ItemType.{ItemType}, specs.Arrays.{ArrayValue, IsArray, item_of}, specs.Items.{fill}, specs.Shapes.{is_index_of, places_before}, proofs.Shapes.{places_below}, specs.Growth.{one_longer}}
use Rattle.index_region.{specs.Checks.{Form, form_of}, specs.Axes.{places_along}}
use Rattle.change_core.{specs.Growth.{IsGrown, AllGrew, Extends, IsGrowing, one_grows, two_grow, never, growing}, specs.Tightness.{IsTight}, specs.RuleModels.{Growth, RuleModel, Use}, specs.Sourced.{one_rule, two_rule}}
pub use Rattle.arrays_core.proofs.Growing.{rank_longer as length-longer}

-- old index lists remain valid, at the same offsets
pub still_inside : (shape index : List ℕ) → is_index_of shape index ≡ true → is_index_of (one_longer shape) index ≡ true
still_inside [] index h = h
still_inside (n ∷ shape) [] h = absurd (false≢true h)
still_inside (n ∷ shape) (i ∷ index) h =
    let parts = and_parts _ _ h in
    let first = and_parts _ _ parts.0 in
    and_from _ _ (and_from _ _ first.0 (le-leb i (n + 1) (omega (arith, leb-true i n first.1)))) parts.1

pub as_many_before : (shape index : List ℕ) → places_before (one_longer shape) index ≡ places_before shape index
as_many_before [] index = refl
as_many_before (n ∷ shape) [] = refl
as_many_before (n ∷ shape) (i ∷ index) = refl

-- the length of an axis other than the first
pub along_longer : (shape : List ℕ) (axis : ℕ) → 0 < axis → places_along (one_longer shape) axis ≡ places_along shape axis
along_longer [] axis h = refl
along_longer (n ∷ shape) zero h = absurd (omega arith)
along_longer (n ∷ shape) (suc axis) h = refl

pub remove_longer : (shape : List ℕ) (axis : ℕ) → 0 < axis → remove (one_longer shape) axis ≡ one_longer (remove shape axis)
remove_longer [] zero h = refl
remove_longer [] (suc axis) h = refl
remove_longer (n ∷ shape) zero h = absurd (omega arith)
remove_longer (n ∷ shape) (suc axis) h = refl

pub some_left : (shape : List ℕ) (axis : ℕ) → 0 < axis → 0 < length shape → 0 < length (remove shape axis)
some_left [] axis h s = absurd (omega arith)
some_left (n ∷ shape) zero h s = absurd (omega arith)
some_left (n ∷ shape) (suc axis) h s = omega arith

-- an old place keeps its item
pub item_kept : (old new : ArrayValue) (index : List ℕ) → IsGrown old new → IsArray old → is_index_of old.shape index ≡ true → item_of old index ≡ item_of new index
item_kept old new index h sound inside =
    let there : places_before old.shape index < length old.items = omega (arith, places_below old.shape index inside, sound.one_item_a_place) in
    sym (get_or_append_left old.items h.items (fill old.item_type) (places_before old.shape index) there)
    ∙ ap (λ (k : ℕ). get_or (old.items ++ h.items) k (fill old.item_type)) (sym (as_many_before old.shape index))
    ∙ ap (λ (a : ArrayValue). item_of a index) (sym h.is)

pub shape_grown : (old new : ArrayValue) → IsGrown old new → new.shape ≡ one_longer old.shape
shape_grown old new h = ap (λ (a : ArrayValue). a.shape) h.is

pub type_grown : (old new : ArrayValue) → IsGrown old new → new.item_type ≡ old.item_type
type_grown old new h = ap (λ (a : ArrayValue). a.item_type) h.is

-- a form that is one place longer
pub longer_form : (p : RuleModel) (olds news : List ArrayValue) (f g : Form) (s : List ℕ) (t : ItemType) → f ≡ form_of s t → g ≡ form_of (one_longer s) t → 0 < length s
    → ((index : List ℕ) → is_index_of s index ≡ true → p.item olds index ≡ p.item news index) → Extends p olds news f g
longer_form p olds news f g s t e k some kept = record {
  some_axis = subst (λ (x : Form). 0 < length x.shape) (sym e) some;
  shaped = ap (λ (x : Form). x.shape) k ∙ ap (λ (x : Form). one_longer x.shape) (sym e);
  typed = ap (λ (x : Form). x.item_type) k ∙ ap (λ (x : Form). x.item_type) (sym e);
  kept = λ index inside. kept index (ap (λ (x : Form). is_index_of x.shape index) (sym e) ∙ inside);
}

-- functions that agree on a range have the same values
pub range_same : (u v : ℕ → Item) (from n : ℕ) → ((j : ℕ) → from ≤ j → j < from + n → u j ≡ v j) → map u (range_with_len from n) ≡ map v (range_with_len from n)
range_same u v from zero h = refl
range_same u v from (suc n) h = λ i. (h from (omega arith) (omega arith)) i ∷ (range_same u v (from + 1) n (λ j low high. h j (omega arith) (omega arith))) i

-- ---- laws of one argument and of two

pub never_grows : (p : RuleModel) → IsGrowing p never
never_grows p marks olds news f g h so sn listed e k = absurd (false≢true listed)

-- a function of one array: the result grows with it
pub one_growing : (form : ArrayValue → Result Form Kind) (item : ArrayValue → List ℕ → Result Item Kind) (use_of : List ℕ → ArrayValue → Use) (grows : ArrayValue → Bool)
    → ((old new : ArrayValue) (f g : Form) → IsGrown old new → IsArray old → IsArray new → grows new ≡ true → form old ≡ Ok f → form new ≡ Ok g
    → Extends (one_rule form item use_of) (old ∷ []) (new ∷ []) f g) → IsGrowing (one_rule form item use_of) (one_grows grows)
one_growing form item use_of grows law (true ∷ []) (old ∷ []) (new ∷ []) f g h so sn listed e k = law old new f g h.0 so.0 sn.0 listed e k
one_growing form item use_of grows law (false ∷ []) (old ∷ []) (new ∷ []) f g h so sn listed e k = absurd (false≢true listed)
one_growing form item use_of grows law [] (old ∷ olds) news f g h so sn listed e k = absurd h
one_growing form item use_of grows law [] [] (new ∷ news) f g h so sn listed e k = absurd h
one_growing form item use_of grows law [] [] [] f g h so sn listed e k = absurd (false≢true listed)
one_growing form item use_of grows law (m ∷ marks) [] news f g h so sn listed e k = absurd h
one_growing form item use_of grows law (m ∷ marks) (old ∷ olds) [] f g h so sn listed e k = absurd h
one_growing form item use_of grows law (m ∷ []) (old ∷ []) (new ∷ new2 ∷ news) f g h so sn listed e k = absurd h.1
one_growing form item use_of grows law (m ∷ []) (old ∷ old2 ∷ olds) (new ∷ news) f g h so sn listed e k = absurd h.1
one_growing form item use_of grows law (m ∷ m2 ∷ marks) (old ∷ olds) (new ∷ []) f g h so sn listed e k = absurd (no olds h.1)
  where
    no : (olds : List ArrayValue) → AllGrew (m2 ∷ marks) olds [] → ⊥
    no [] h = h
    no (o ∷ olds) h = h
one_growing form item use_of grows law (m ∷ m2 ∷ marks) (old ∷ olds) (new ∷ new2 ∷ news) f g h so sn listed e k = absurd (false≢true listed)

-- a function of two arrays: the left one grows, the right one, or both
pub record TwoGrowing (p : RuleModel) (form : ArrayValue → ArrayValue → Result Form Kind) (left right both : ArrayValue → ArrayValue → Bool) : Type 0 where
  pub left_grows : (old new b : ArrayValue) (f g : Form) → IsGrown old new → IsArray old → IsArray b → left new b ≡ true → form old b ≡ Ok f → form new b ≡ Ok g → Extends p (old ∷ b ∷ []) (new ∷ b ∷ []) f g
  pub right_grows : (a old new : ArrayValue) (f g : Form) → IsGrown old new → IsArray a → IsArray old → right a new ≡ true → form a old ≡ Ok f → form a new ≡ Ok g → Extends p (a ∷ old ∷ []) (a ∷ new ∷ []) f g
  pub both_grow : (old new old2 new2 : ArrayValue) (f g : Form) → IsGrown old new → IsGrown old2 new2 → IsArray old → IsArray old2 → both new new2 ≡ true → form old old2 ≡ Ok f → form new new2 ≡ Ok g
      → Extends p (old ∷ old2 ∷ []) (new ∷ new2 ∷ []) f g

pub two_growing : (selects : Bool) (form : ArrayValue → ArrayValue → Result Form Kind) (item : ArrayValue → ArrayValue → List ℕ → Result Item Kind) (used_left used_right : List ℕ → ArrayValue → ArrayValue → Use)
    (left right both : ArrayValue → ArrayValue → Bool) → TwoGrowing (two_rule selects form item used_left used_right) form left right both → IsGrowing (two_rule selects form item used_left used_right) (two_grow left right both)
two_growing selects form item ul ur left right both law [] [] [] f g h so sn listed e k = absurd (false≢true listed)
two_growing selects form item ul ur left right both law [] [] (a ∷ news) f g h so sn listed e k = absurd h
two_growing selects form item ul ur left right both law [] (o ∷ olds) news f g h so sn listed e k = absurd h
two_growing selects form item ul ur left right both law (m ∷ marks) [] news f g h so sn listed e k = absurd h
two_growing selects form item ul ur left right both law (m ∷ marks) (o ∷ olds) [] f g h so sn listed e k = absurd h
two_growing selects form item ul ur left right both law (m ∷ []) (o ∷ []) (a ∷ []) f g h so sn listed e k = absurd (false≢true listed)
two_growing selects form item ul ur left right both law (m ∷ []) (o ∷ []) (a ∷ b ∷ news) f g h so sn listed e k = absurd h.1
two_growing selects form item ul ur left right both law (m ∷ []) (o ∷ q ∷ olds) (a ∷ news) f g h so sn listed e k = absurd h.1
two_growing selects form item ul ur left right both law (m ∷ n ∷ marks) (o ∷ []) (a ∷ news) f g h so sn listed e k = absurd h.1
two_growing selects form item ul ur left right both law (m ∷ n ∷ marks) (o ∷ q ∷ olds) (a ∷ []) f g h so sn listed e k = absurd h.1
two_growing selects form item ul ur left right both law (m ∷ n ∷ []) (o ∷ q ∷ []) (a ∷ b ∷ c ∷ news) f g h so sn listed e k = absurd h.1.1
two_growing selects form item ul ur left right both law (m ∷ n ∷ []) (o ∷ q ∷ r ∷ olds) (a ∷ b ∷ news) f g h so sn listed e k = absurd h.1.1
two_growing selects form item ul ur left right both law (m ∷ n ∷ l ∷ marks) (o ∷ q ∷ []) (a ∷ b ∷ news) f g h so sn listed e k = absurd h.1.1
two_growing selects form item ul ur left right both law (m ∷ n ∷ l ∷ marks) (o ∷ q ∷ r ∷ olds) (a ∷ b ∷ []) f g h so sn listed e k = absurd h.1.1
two_growing selects form item ul ur left right both law (m ∷ n ∷ l ∷ marks) (o ∷ q ∷ r ∷ olds) (a ∷ b ∷ c ∷ news) f g h so sn listed e k = absurd (false≢true listed)
two_growing selects form item ul ur left right both law (false ∷ false ∷ []) (o ∷ q ∷ []) (a ∷ b ∷ []) f g h so sn listed e k = absurd (false≢true listed)
two_growing selects form item ul ur left right both law (true ∷ false ∷ []) (o ∷ q ∷ []) (a ∷ b ∷ []) f g h so sn listed e k =
    subst (λ (x : ArrayValue). form o x ≡ Ok f → Extends (two_rule selects form item ul ur) (o ∷ x ∷ []) (a ∷ b ∷ []) f g) (sym h.1.0) (λ was. law.left_grows o a b f g h.0 so.0 sn.1.0 listed was k) e
two_growing selects form item ul ur left right both law (false ∷ true ∷ []) (o ∷ q ∷ []) (a ∷ b ∷ []) f g h so sn listed e k =
    subst (λ (x : ArrayValue). form x q ≡ Ok f → Extends (two_rule selects form item ul ur) (x ∷ q ∷ []) (a ∷ b ∷ []) f g) (sym h.0) (λ was. law.right_grows a q b f g h.1.0 sn.0 so.1.0 listed was k) e
two_growing selects form item ul ur left right both law (true ∷ true ∷ []) (o ∷ q ∷ []) (a ∷ b ∷ []) f g h so sn listed e k = law.both_grow o a q b f g h.0 h.1.0 so.0 so.1.0 listed e k

-- a tight rule stays tight with another `grows`
pub tight_growing : (p : RuleModel) (grows : Growth) → IsTight p → IsTight (growing p grows)
tight_growing p grows h = record { settled = h.settled; determined = h.determined; covered = h.covered }

pub growing_growing : (p : RuleModel) (grows : Growth) → IsGrowing p grows → IsGrowing (growing p grows) grows
growing_growing p grows h marks olds news f g grew so sn listed e k =
    let x = h marks olds news f g grew so sn listed e k in
    record { some_axis = x.some_axis; shaped = x.shaped; typed = x.typed; kept = x.kept }
