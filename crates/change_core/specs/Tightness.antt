-- The law of change: the box of a rule contains everything that changes in the result.
use Rattle.std.specs.Prelude.{◌≡◌, ◌≢◌, ℕ, List, [], ◌∷◌, Bool, true, false, Option, None, Ok, IsTrue, IsOk, map, length, replicate}
use Rattle.arrays_core.{specs.declared.item.Item.{Item}, specs.Arrays.{ArrayValue, IsArray, item_of, item_if_there}, specs.Items.{fill}, specs.Shapes.{is_index_of}}
use Rattle.index_region.{specs.Answers.{IsPlaceOf}, specs.Boxes.{Interval, is_within, fits}, specs.Checks.{Form}}
use Rattle.change_core.{specs.declared.reach.Reach.{Reach}, specs.declared.reach.Reach.TheVariants.{Anew}, specs.RuleModels.{Use, RuleModel}, specs.Reaches.{Fits, is_moved, is_reached, reach_of, LiesInResult}}

-- the array with fill for every item
abbrev pub blank : ArrayValue → ArrayValue
blank a = record { item_type = a.item_type; shape = a.shape; items = replicate (length a.items) (fill a.item_type) }

-- a selector keeps its items; another argument shows none
abbrev pub framed : Bool → ArrayValue → ArrayValue
framed true a = a
framed false a = blank a

-- the arguments, of which only selectors show their items
abbrev pub frames : List Bool → List ArrayValue → List ArrayValue
frames (selects ∷ selectors) (a ∷ args) = framed selects a ∷ frames selectors args
frames _ _ = []

-- the items of each argument that an item of the result reads; None for an index list outside the argument
abbrev pub items_read : List ArrayValue → List Use → List ℕ → List (List (Option Item))
items_read (a ∷ args) (u ∷ uses) index = map (item_if_there a) (u.reads index) ∷ items_read args uses index
items_read _ _ index = []

-- P holds of each
abbrev pub Each : {A : Type 0} → (A → Type 0) → List A → Type 0
Each P [] = Unit {0}
Each P (x ∷ xs) = P x × Each P xs

-- an item that reads a place of a changed box lies in the intervals which that box may change
abbrev pub Covered : List ℕ → List ℕ → Use → Type 0
Covered from shape u = (region : List Interval) (index : List ℕ) → fits region from ≡ true → is_index_of shape index ≡ true
    → Each (λ place. is_within region place ≡ true → is_moved (u.box region) index ≡ true) (u.reads index)

abbrev pub AllCovered : List ℕ → List ArrayValue → List Use → Type 0
AllCovered shape args [] = Unit {0}
AllCovered shape [] (u ∷ uses) = Unit {0}
AllCovered shape (a ∷ args) (u ∷ uses) = Covered a.shape shape u × AllCovered shape args uses

-- the law of change for one rule. Selectors, types and shapes determine the form if the checks pass. With the items that an item reads,
-- they determine that item. The items that read a changed place lie in the boxes
pub record IsTight (p : RuleModel) : Type 0 where
  pub settled : (old new : List ArrayValue) → frames p.selectors old ≡ frames p.selectors new → IsOk (p.form old) → IsOk (p.form new) → p.form old ≡ p.form new
  pub determined : (old new : List ArrayValue) (f : Form) (index : List ℕ) → length old ≡ length p.selectors → length new ≡ length p.selectors
      → Each IsArray new → frames p.selectors old ≡ frames p.selectors new → p.form new ≡ Ok f → is_index_of f.shape index ≡ true
      → items_read old (p.uses f.shape new) index ≡ items_read new (p.uses f.shape new) index → p.item old index ≡ p.item new index
  pub covered : (args : List ArrayValue) (f : Form) → length args ≡ length p.selectors → p.form args ≡ Ok f → AllCovered f.shape args (p.uses f.shape args)

-- an argument before and after, and its changed box
pub record ArgumentChange : Type 0 where
  pub old : ArrayValue
  pub new : ArrayValue
  pub moved : Option (List Interval)

abbrev pub olds : List ArgumentChange → List ArrayValue
olds changes = map (λ c. c.old) changes

abbrev pub news : List ArgumentChange → List ArrayValue
news changes = map (λ c. c.new) changes

abbrev pub moves : List ArgumentChange → List (Option (List Interval))
moves changes = map (λ c. c.moved) changes

-- the argument keeps its type and shape, and its items outside the changed box
pub record Agrees (c : ArgumentChange) : Type 0 where
  pub sound : IsArray c.new
  pub fit : Fits c.new c.moved
  pub kind : c.old.item_type ≡ c.new.item_type
  pub shape : c.old.shape ≡ c.new.shape
  pub count : length c.old.items ≡ length c.new.items
  pub same : c.moved ≡ None → c.old ≡ c.new
  pub outside : (index : List ℕ) → IsTrue (is_index_of c.new.shape index) → is_moved c.moved index ≡ false → item_of c.old index ≡ item_of c.new index

abbrev pub AllAgree : List ArgumentChange → Type 0
AllAgree [] = Unit {0}
AllAgree (c ∷ changes) = Agrees c × AllAgree changes

-- the result keeps its form, and its items (or errors) outside the reach
pub record Covers (p : RuleModel) (old new : List ArrayValue) (reach : Reach) : Type 0 where
  pub form : p.form old ≡ p.form new
  pub outside : (index : List ℕ) → IsPlaceOf (p.form new) index → is_reached reach index ≡ false → p.item old index ≡ p.item new index

-- if the arguments agree outside their changed boxes, and the checks pass before and after, the reach contains everything that changes
abbrev pub ReachCovers : RuleModel → Type 0
ReachCovers p = (changes : List ArgumentChange) → length changes ≡ length p.selectors → AllAgree changes → IsOk (p.form (olds changes)) → IsOk (p.form (news changes))
    → reach_of p (news changes) (moves changes) ≢ Anew → Covers p (olds changes) (news changes) (reach_of p (news changes) (moves changes))

-- the box of a reach lies in the result
abbrev pub ReachLies : RuleModel → Type 0
ReachLies p = (args : List ArrayValue) (moves : List (Option (List Interval))) → LiesInResult (p.form args) (reach_of p args moves)
