-- Results whose items are copied from the arguments satisfy the law of change.
use Rattle.std.{proofs.Common.{◌≡◌, ℕ, zero, suc, List, [], ◌∷◌, length, map, refl, ap, ◌∙◌, sym, subst, arith, Bool, true, false, Option, None, Result, Ok, IsOk, unwrap_or}, proofs.lemmas.Bool.{false≢true}, proofs.lemmas.List.{length-replicate}}
use Rattle.arrays_core.{specs.declared.item.Item.{Item}, specs.declared.item.ItemType.{ItemType}, specs.declared.item.Kind.{Kind}, specs.Arrays.{ArrayValue, IsArray, item_if_there}, specs.Items.{fill}, specs.Shapes.{is_index_of}}
use Rattle.change_core.{specs.Tightness.{AllCovered, Covered, Each, IsTight, blank, framed, frames, items_read}, specs.Reaches.{is_moved}, specs.RuleModels.{Use}, specs.Sourced.{Spread, left_of, left_used, one_rule, one_sourced, other, right_of, right_used, two_rule, two_sourced, uses_of_one, uses_of_two}}
use Rattle.index_region.{specs.ArgumentLists.{of_one_argument, of_two_arguments}, specs.Boxes.{is_within}, specs.Checks.{Form}, specs.Sources.{Source, Place, Fill, item_from}}

-- an item is determined by its source, so it is the same if the source is read alike
pub item_from_same : (a b c d : ArrayValue) (t : ItemType) (s : Source) → map (item_if_there a) (left_of s) ≡ map (item_if_there c) (left_of s)
    → map (item_if_there b) (right_of s) ≡ map (item_if_there d) (right_of s) → item_from a b t s ≡ item_from c d t s
item_from_same a b c d t Fill h k = refl
item_from_same a b c d t (Place zero index) h k = let same : item_if_there a index ≡ item_if_there c index = cc in ap (λ (o : Option Item). Ok (unwrap_or o (fill t))) same
item_from_same a b c d t (Place (suc n) index) h k = let same : item_if_there b index ≡ item_if_there d index = cc in ap (λ (o : Option Item). Ok (unwrap_or o (fill t))) same

-- the same for a function of one argument
pub item_from_same_one : (a c : ArrayValue) (t : ItemType) (s : Source) → right_of s ≡ [] → map (item_if_there a) (left_of s) ≡ map (item_if_there c) (left_of s)
    → item_from a a t s ≡ item_from c c t s
item_from_same_one a c t s none h = item_from_same a a c c t s h (ap (map (item_if_there a)) none ∙ sym (ap (map (item_if_there c)) none))

head_same : {A : Type 0} (x y : A) (xs ys : List A) → x ∷ xs ≡ y ∷ ys → x ≡ y
head_same x y xs ys h = cc

tail_same : {A : Type 0} (x y : A) (xs ys : List A) → x ∷ xs ≡ y ∷ ys → xs ≡ ys
tail_same x y xs ys h = cc

-- an array with the frame of another is that array with other items
pub record Reframed (a c : ArrayValue) : Type 0 where
  pub is : a ≡ other c a.items
  pub count : length a.items ≡ length c.items

reframed : (a c : ArrayValue) → blank a ≡ blank c → Reframed a c
reframed a c alike = record {
  is = λ i. record { item_type = (alike i).item_type; shape = (alike i).shape; items = a.items };
  count = sym (length-replicate (length a.items) (fill a.item_type)) ∙ ap (λ (x : ArrayValue). length x.items) alike ∙ length-replicate (length c.items) (fill c.item_type);
}

-- a selector has the same items; another argument has as many
pub record IsOther (selects : Bool) (d : ArrayValue) (xs : List Item) : Type 0 where
  pub count : length xs ≡ length d.items
  pub same : selects ≡ true → xs ≡ d.items

abbrev pub As : Bool → ArrayValue → ArrayValue → Type 0
As selects a c = (a ≡ other c a.items) × IsOther selects c a.items

as_other : (selects : Bool) (a c : ArrayValue) → framed selects a ≡ framed selects c → As selects a c
as_other true a c alike = ((λ i. record { item_type = (alike i).item_type; shape = (alike i).shape; items = a.items }), record { count = ap (λ (x : ArrayValue). length x.items) alike; same = λ _. ap (λ (x : ArrayValue). x.items) alike })
as_other false a c alike = let r = reframed a c alike in (r.is, record { count = r.count; same = λ e. absurd (false≢true e) })

-- the obligations of a function of one array: the checks read no items, the items that it reads determine an item, and the box is right
pub record OneTight (form : ArrayValue → Result Form Kind) (item : ArrayValue → List ℕ → Result Item Kind) (use_of : List ℕ → ArrayValue → Use) : Type 0 where
  pub blind : (d : ArrayValue) (xs : List Item) → length xs ≡ length d.items → form (other d xs) ≡ form d
  pub settled : (d : ArrayValue) (xs : List Item) (f : Form) (index : List ℕ) → length xs ≡ length d.items → form d ≡ Ok f → is_index_of f.shape index ≡ true
      → map (item_if_there (other d xs)) ((use_of f.shape d).reads index) ≡ map (item_if_there d) ((use_of f.shape d).reads index) → item (other d xs) index ≡ item d index
  pub covered : (b : ArrayValue) (f : Form) → form b ≡ Ok f → Covered b.shape f.shape (use_of f.shape b)

pub one_tight : (form : ArrayValue → Result Form Kind) (item : ArrayValue → List ℕ → Result Item Kind) (use_of : List ℕ → ArrayValue → Use) → OneTight form item use_of → IsTight (one_rule form item use_of)
one_tight form item use_of h = record { settled = settled; determined = determined; covered = all_covered }
  where
    settled : (old new : List ArrayValue) → frames (false ∷ []) old ≡ frames (false ∷ []) new → IsOk (of_one_argument form old) → IsOk (of_one_argument form new) → of_one_argument form old ≡ of_one_argument form new
    settled (a ∷ []) (b ∷ []) same g k = let r = reframed a b (head_same (blank a) (blank b) [] [] same) in ap form r.is ∙ h.blind b a.items r.count
    settled [] new same g k = absurd (let no : ⊥ = cc in no)
    settled (a ∷ x ∷ rest) new same g k = absurd (let no : ⊥ = cc in no)
    settled (a ∷ []) [] same g k = absurd (let no : ⊥ = cc in no)
    settled (a ∷ []) (b ∷ x ∷ rest) same g k = absurd (let no : ⊥ = cc in no)

    determined : (old new : List ArrayValue) (f : Form) (index : List ℕ) → length old ≡ 1 → length new ≡ 1 → Each IsArray new → frames (false ∷ []) old ≡ frames (false ∷ []) new → of_one_argument form new ≡ Ok f → is_index_of f.shape index ≡ true
        → items_read old (uses_of_one use_of f.shape new) index ≡ items_read new (uses_of_one use_of f.shape new) index → of_one_argument (λ b. item b index) old ≡ of_one_argument (λ b. item b index) new
    determined (a ∷ []) (b ∷ []) f index m n sound same e place read =
        let r = reframed a b (head_same (blank a) (blank b) [] [] same) in
        ap (λ (x : ArrayValue). item x index) r.is
        ∙ h.settled b a.items f index r.count e place (sym (ap (λ (x : ArrayValue). map (item_if_there x) ((use_of f.shape b).reads index)) r.is) ∙ head_same _ _ [] [] read)
    determined [] new f index m n sound same e place read = absurd (omega arith)
    determined (a ∷ x ∷ rest) new f index m n sound same e place read = absurd (omega arith)
    determined (a ∷ []) [] f index m n sound same e place read = absurd (omega arith)
    determined (a ∷ []) (b ∷ x ∷ rest) f index m n sound same e place read = absurd (omega arith)

    all_covered : (args : List ArrayValue) (f : Form) → length args ≡ 1 → of_one_argument form args ≡ Ok f → AllCovered f.shape args (uses_of_one use_of f.shape args)
    all_covered (b ∷ []) f n e = (h.covered b f e, tt)
    all_covered [] f n e = absurd (omega arith)
    all_covered (b ∷ x ∷ rest) f n e = absurd (omega arith)

-- the obligations of a function of two arrays, of which a selector is known in full. The new arguments are known to be arrays
pub record TwoArraysTight (selects : Bool) (form : ArrayValue → ArrayValue → Result Form Kind) (item : ArrayValue → ArrayValue → List ℕ → Result Item Kind) (left right : List ℕ → ArrayValue → ArrayValue → Use) : Type 0 where
  pub blind : (c d : ArrayValue) (xs ys : List Item) → IsOther selects c xs → length ys ≡ length d.items → form (other c xs) (other d ys) ≡ form c d
  pub settled : (c d : ArrayValue) (xs ys : List Item) (f : Form) (index : List ℕ) → IsArray c → IsArray d → IsOther selects c xs → length ys ≡ length d.items → form c d ≡ Ok f → is_index_of f.shape index ≡ true
      → map (item_if_there (other c xs)) ((left f.shape c d).reads index) ≡ map (item_if_there c) ((left f.shape c d).reads index)
      → map (item_if_there (other d ys)) ((right f.shape c d).reads index) ≡ map (item_if_there d) ((right f.shape c d).reads index) → item (other c xs) (other d ys) index ≡ item c d index
  pub covered_left : (a b : ArrayValue) (f : Form) → form a b ≡ Ok f → Covered a.shape f.shape (left f.shape a b)
  pub covered_right : (a b : ArrayValue) (f : Form) → form a b ≡ Ok f → Covered b.shape f.shape (right f.shape a b)

pub two_arrays_tight : (selects : Bool) (form : ArrayValue → ArrayValue → Result Form Kind) (item : ArrayValue → ArrayValue → List ℕ → Result Item Kind) (left right : List ℕ → ArrayValue → ArrayValue → Use)
    → TwoArraysTight selects form item left right → IsTight (two_rule selects form item left right)
two_arrays_tight selects form item left right h = record { settled = settled; determined = determined; covered = all_covered }
  where
    settled : (old new : List ArrayValue) → frames (selects ∷ false ∷ []) old ≡ frames (selects ∷ false ∷ []) new → IsOk (of_two_arguments form old) → IsOk (of_two_arguments form new) → of_two_arguments form old ≡ of_two_arguments form new
    settled (a ∷ b ∷ []) (c ∷ d ∷ []) same g k =
        let p = as_other selects a c (head_same _ _ _ _ same) in
        let q = reframed b d (head_same _ _ _ _ (tail_same _ _ _ _ same)) in
        (λ i. form (p.0 i) (q.is i)) ∙ h.blind c d a.items b.items p.1 q.count
    settled [] new same g k = absurd (let no : ⊥ = cc in no)
    settled (a ∷ []) new same g k = absurd (let no : ⊥ = cc in no)
    settled (a ∷ b ∷ x ∷ rest) new same g k = absurd (let no : ⊥ = cc in no)
    settled (a ∷ b ∷ []) [] same g k = absurd (let no : ⊥ = cc in no)
    settled (a ∷ b ∷ []) (c ∷ []) same g k = absurd (let no : ⊥ = cc in no)
    settled (a ∷ b ∷ []) (c ∷ d ∷ x ∷ rest) same g k = absurd (let no : ⊥ = cc in no)

    determined : (old new : List ArrayValue) (f : Form) (index : List ℕ) → length old ≡ 2 → length new ≡ 2 → Each IsArray new → frames (selects ∷ false ∷ []) old ≡ frames (selects ∷ false ∷ []) new → of_two_arguments form new ≡ Ok f → is_index_of f.shape index ≡ true
        → items_read old (uses_of_two left right f.shape new) index ≡ items_read new (uses_of_two left right f.shape new) index → of_two_arguments (λ a b. item a b index) old ≡ of_two_arguments (λ a b. item a b index) new
    determined (a ∷ b ∷ []) (c ∷ d ∷ []) f index m n sound same e place read =
        let p = as_other selects a c (head_same _ _ _ _ same) in
        let q = reframed b d (head_same _ _ _ _ (tail_same _ _ _ _ same)) in
        (λ i. item (p.0 i) (q.is i) index)
        ∙ h.settled c d a.items b.items f index sound.0 sound.1.0 p.1 q.count e place
        (sym (ap (λ (x : ArrayValue). map (item_if_there x) ((left f.shape c d).reads index)) p.0) ∙ head_same _ _ _ _ read)
        (sym (ap (λ (x : ArrayValue). map (item_if_there x) ((right f.shape c d).reads index)) q.is) ∙ head_same _ _ _ _ (tail_same _ _ _ _ read))
    determined [] new f index m n sound same e place read = absurd (omega arith)
    determined (a ∷ []) new f index m n sound same e place read = absurd (omega arith)
    determined (a ∷ b ∷ x ∷ rest) new f index m n sound same e place read = absurd (omega arith)
    determined (a ∷ b ∷ []) [] f index m n sound same e place read = absurd (omega arith)
    determined (a ∷ b ∷ []) (c ∷ []) f index m n sound same e place read = absurd (omega arith)
    determined (a ∷ b ∷ []) (c ∷ d ∷ x ∷ rest) f index m n sound same e place read = absurd (omega arith)

    all_covered : (args : List ArrayValue) (f : Form) → length args ≡ 2 → of_two_arguments form args ≡ Ok f → AllCovered f.shape args (uses_of_two left right f.shape args)
    all_covered (a ∷ b ∷ []) f n e = (h.covered_left a b f e, (h.covered_right a b f e, tt))
    all_covered [] f n e = absurd (omega arith)
    all_covered (a ∷ []) f n e = absurd (omega arith)
    all_covered (a ∷ b ∷ x ∷ rest) f n e = absurd (omega arith)

-- the same without that knowledge
pub record TwoTight (selects : Bool) (form : ArrayValue → ArrayValue → Result Form Kind) (item : ArrayValue → ArrayValue → List ℕ → Result Item Kind) (left right : List ℕ → ArrayValue → ArrayValue → Use) : Type 0 where
  pub blind : (c d : ArrayValue) (xs ys : List Item) → IsOther selects c xs → length ys ≡ length d.items → form (other c xs) (other d ys) ≡ form c d
  pub settled : (c d : ArrayValue) (xs ys : List Item) (f : Form) (index : List ℕ) → IsOther selects c xs → length ys ≡ length d.items → form c d ≡ Ok f → is_index_of f.shape index ≡ true
      → map (item_if_there (other c xs)) ((left f.shape c d).reads index) ≡ map (item_if_there c) ((left f.shape c d).reads index)
      → map (item_if_there (other d ys)) ((right f.shape c d).reads index) ≡ map (item_if_there d) ((right f.shape c d).reads index) → item (other c xs) (other d ys) index ≡ item c d index
  pub covered_left : (a b : ArrayValue) (f : Form) → form a b ≡ Ok f → Covered a.shape f.shape (left f.shape a b)
  pub covered_right : (a b : ArrayValue) (f : Form) → form a b ≡ Ok f → Covered b.shape f.shape (right f.shape a b)

pub two_tight : (selects : Bool) (form : ArrayValue → ArrayValue → Result Form Kind) (item : ArrayValue → ArrayValue → List ℕ → Result Item Kind) (left right : List ℕ → ArrayValue → ArrayValue → Use)
    → TwoTight selects form item left right → IsTight (two_rule selects form item left right)
two_tight selects form item left right h = two_arrays_tight selects form item left right (record {
  blind = h.blind;
  settled = λ c d xs ys f index left_sound right_sound. h.settled c d xs ys f index;
  covered_left = h.covered_left;
  covered_right = h.covered_right;
})

-- for copied items it suffices that neither the checks nor the sources read items
pub one_sourced-tight : (form : ArrayValue → Result Form Kind) (source : ArrayValue → List ℕ → Source) (box : List ℕ → ArrayValue → Spread)
    → ((d : ArrayValue) (xs : List Item) → length xs ≡ length d.items → form (other d xs) ≡ form d)
    → ((d : ArrayValue) (xs : List Item) (index : List ℕ) → length xs ≡ length d.items → source (other d xs) index ≡ source d index)
    → ((b : ArrayValue) (index : List ℕ) → right_of (source b index) ≡ [])
    → ((b : ArrayValue) (f : Form) → form b ≡ Ok f → Covered b.shape f.shape (left_used (source b) (box f.shape b))) → IsTight (one_sourced form source box)
one_sourced-tight form source box blind blind_source only covered = one_tight form _ _ (record {
  blind = blind;
  settled = λ d xs f index n e place read.
      (λ i. item_from (other d xs) (other d xs) d.item_type (blind_source d xs index n i)) ∙ item_from_same_one (other d xs) d d.item_type (source d index) (only d index) read;
  covered = covered;
})

pub two_sourced-tight : (selects : Bool) (form : ArrayValue → ArrayValue → Result Form Kind) (item_type : ArrayValue → ArrayValue → ItemType) (source : ArrayValue → ArrayValue → List ℕ → Source)
    (left right : List ℕ → ArrayValue → ArrayValue → Spread)
    → ((c d : ArrayValue) (xs ys : List Item) → IsOther selects c xs → length ys ≡ length d.items → form (other c xs) (other d ys) ≡ form c d)
    → ((c d : ArrayValue) (xs ys : List Item) → IsOther selects c xs → length ys ≡ length d.items → item_type (other c xs) (other d ys) ≡ item_type c d)
    → ((c d : ArrayValue) (xs ys : List Item) (index : List ℕ) → IsOther selects c xs → length ys ≡ length d.items → source (other c xs) (other d ys) index ≡ source c d index)
    → ((a b : ArrayValue) (f : Form) → form a b ≡ Ok f → Covered a.shape f.shape (left_used (source a b) (left f.shape a b)))
    → ((a b : ArrayValue) (f : Form) → form a b ≡ Ok f → Covered b.shape f.shape (right_used (source a b) (right f.shape a b)))
    → IsTight (two_sourced selects form item_type source left right)
two_sourced-tight selects form item_type source left right blind blind_type blind_source covered_left covered_right = two_tight selects form _ _ _ (record {
  blind = blind;
  settled = λ c d xs ys f index p q e place read_left read_right.
      (λ i. item_from (other c xs) (other d ys) (blind_type c d xs ys p q i) (blind_source c d xs ys index p q i))
      ∙ item_from_same (other c xs) (other d ys) c d (item_type c d) (source c d index) read_left read_right;
  covered_left = covered_left;
  covered_right = covered_right;
})

-- the left argument is a selector, and all items are copied from the right one
pub selected_sourced-tight : (form : ArrayValue → ArrayValue → Result Form Kind) (item_type : ArrayValue → ArrayValue → ItemType) (source : ArrayValue → ArrayValue → List ℕ → Source) (box : List ℕ → ArrayValue → ArrayValue → Spread)
    → ((a d : ArrayValue) (ys : List Item) → length ys ≡ length d.items → form a (other d ys) ≡ form a d)
    → ((a d : ArrayValue) (ys : List Item) → length ys ≡ length d.items → item_type a (other d ys) ≡ item_type a d)
    → ((a d : ArrayValue) (ys : List Item) (index : List ℕ) → length ys ≡ length d.items → source a (other d ys) index ≡ source a d index)
    → ((a b : ArrayValue) (index : List ℕ) → left_of (source a b index) ≡ [])
    → ((a b : ArrayValue) (f : Form) → form a b ≡ Ok f → Covered b.shape f.shape (right_used (source a b) (box f.shape a b)))
    → IsTight (two_sourced true form item_type source (λ shape a b region. None) box)
selected_sourced-tight form item_type source box blind blind_type blind_source only covered = two_sourced-tight true form item_type source (λ shape a b region. None) box
    (λ c d xs ys p q. ap (λ (x : ArrayValue). form x (other d ys)) (kept c xs p) ∙ blind c d ys q)
    (λ c d xs ys p q. ap (λ (x : ArrayValue). item_type x (other d ys)) (kept c xs p) ∙ blind_type c d ys q)
    (λ c d xs ys index p q. ap (λ (x : ArrayValue). source x (other d ys) index) (kept c xs p) ∙ blind_source c d ys index q)
    (λ a b f e region index fit place. subst (Each (λ (p : List ℕ). is_within region p ≡ true → is_moved None index ≡ true)) (sym (only a b index)) tt)
    covered
  where
    kept : (c : ArrayValue) (xs : List Item) → IsOther true c xs → other c xs ≡ c
    kept c xs p = ap (other c) (p.same refl)
