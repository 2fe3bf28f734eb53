-- Each way to use an argument is covered.
use Rattle.std.{proofs.Common.{◌≡◌, ℕ, suc, zero, ◌+◌, ◌≤◌, ◌<◌, List, [], ◌∷◌, ◌++◌, length, map, take, drop, set, get_or, insert, remove, refl, ap, ◌∙◌, sym, subst, arith, true, ◌&&◌, Some, inl, inr, nat_le, nat_lt, nat_eq, if◌then◌else◌}, specs.List.{range_with_len}}
use Rattle.std.proofs.lemmas.Bool.{and_parts, leb-true, ltb-true, ltb-false, eqb-true, false≢true, cases_Bool, cond-true, cond-false, and_from, le-leb}
use Rattle.arrays_core.{specs.Shapes.{is_index_of}, proofs.Shapes.{as_long}}
use Rattle.change_core.{specs.Tightness.{Covered, Each}, specs.Reaches.{is_moved}, specs.RuleModels.{Use}, specs.Ways.{Axis, IsSoundAxis, alike, along, back, everywhere, front, images, lengths, lines, meet_at, meets, sources, unread}}
use Rattle.index_region.specs.Boxes.{Interval, fits, is_within, whole_of}
pub use Rattle.index_region.proofs.Least.{within-whole}

-- an interval of an axis that the argument lacks
abbrev pub across : ℕ → Interval → Use
across axis place = record {
  reads = λ index. if nat_le place.0 (get_or index axis 0) && nat_le (get_or index axis 0) place.1 then remove index axis ∷ [] else [];
  box = λ region. Some (insert region axis place);
}

-- each axis of the argument goes to the axis (from 0) that the list says
abbrev pub permuted : List ℕ → List ℕ → Use
permuted axes shape = record { reads = λ index. map (λ to. get_or index to 0) axes ∷ []; box = λ region. Some (meets axes region 0 shape) }

pub each_map : {A B : Type 0} (P : B → Type 0) (f : A → B) (xs : List A) → Each (λ x. P (f x)) xs → Each P (map f xs)
each_map P f [] h = tt
each_map P f (x ∷ xs) h = (h.0, each_map P f xs h.1)

pub each_all : {A : Type 0} (P : A → Type 0) (xs : List A) → ((x : A) → P x) → Each P xs
each_all P [] h = tt
each_all P (x ∷ xs) h = (h x, each_all P xs h)

pub each_range : (P : ℕ → Type 0) (from n : ℕ) → ((k : ℕ) → from ≤ k → k < from + n → P k) → Each P (range_with_len from n)
each_range P from zero h = tt
each_range P from (suc n) h = (h from (omega arith) (omega arith), each_range P (from + 1) n (λ k l u. h k (omega arith) (omega arith)))

pub unread-covered : (from shape : List ℕ) → Covered from shape unread
unread-covered from shape region index fit place = tt

pub alike-covered : (from shape : List ℕ) → Covered from shape alike
alike-covered from shape region index fit place = ((λ h. h), tt)

pub everywhere-covered : (from shape : List ℕ) (reads : List ℕ → List (List ℕ)) → Covered from shape (everywhere shape reads)
everywhere-covered from shape reads region index fit place = each_all _ (reads index) (λ j h. within-whole shape index ∙ place)

pub images-within : (axes : List Axis) (from : List ℕ) (region : List Interval) (index : List ℕ) → Each IsSoundAxis axes → fits region from ≡ true → is_index_of (lengths axes) index ≡ true → is_within region (sources axes index) ≡ true → is_within (images axes region) index ≡ true
images-within [] from region [] h fit place inside = refl
images-within [] from region (i ∷ index) h fit place inside = absurd (false≢true place)
images-within (x ∷ axes) from region [] h fit place inside = absurd (false≢true place)
images-within (x ∷ axes) from [] (i ∷ index) h fit place inside = absurd (false≢true inside)
images-within (x ∷ axes) [] (s ∷ region) (i ∷ index) h fit place inside = absurd (false≢true fit)
images-within (x ∷ axes) (m ∷ from) (s ∷ region) (i ∷ index) h fit place inside =
    let pp = and_parts _ _ place in
    let p1 = and_parts _ _ pp.0 in
    let ip = and_parts _ _ inside in
    let i1 = and_parts _ _ ip.0 in
    let fp = and_parts _ _ fit in
    let f1 = and_parts _ _ (and_parts _ _ fp.0).0 in
    let low = h.0.low s i (leb-true 1 i p1.0) (leb-true i x.len p1.1) (leb-true 1 s.0 f1.0) (leb-true s.0 (x.source i) i1.0) (leb-true (x.source i) s.1 i1.1) in
    let high = h.0.high s i (leb-true 1 i p1.0) (leb-true i x.len p1.1) (leb-true 1 s.0 f1.0) (leb-true s.0 (x.source i) i1.0) (leb-true (x.source i) s.1 i1.1) in
    and_from _ _ (and_from _ _ (le-leb _ _ low) (le-leb _ _ high)) (images-within axes from region index h.1 fp.1 pp.1 ip.1)

within-insert : (axis j : ℕ) (region : List Interval) (index : List ℕ) → axis ≤ length index → is_within region (insert index axis j) ≡ true → is_within (remove region axis) index ≡ true
within-insert zero j [] index l h = absurd (false≢true h)
within-insert zero j (s ∷ region) index l h = (and_parts _ _ h).1
within-insert (suc axis) j region [] l h = absurd (omega arith)
within-insert (suc axis) j [] (i ∷ index) l h = absurd (false≢true h)
within-insert (suc axis) j (s ∷ region) (i ∷ index) l h =
    let parts = and_parts _ _ h in
    and_from _ _ parts.0 (within-insert axis j region index (omega arith) parts.1)

-- reduction
pub lines-covered : (from shape : List ℕ) (axis len : ℕ) → axis ≤ length shape → Covered from shape (lines axis len)
lines-covered from shape axis len l region index fit place =
    let few : axis ≤ length index = omega (arith, as_long shape index place) in
    each_map _ (insert index axis) (range_with_len 1 len) (each_all _ (range_with_len 1 len) (λ j. within-insert axis j region index few))

-- the image contains every place on the line that reads the interval
abbrev pub Follows : (Interval → Interval) → ℕ → ℕ → Type 0
Follows image i j = (s : Interval) → 1 ≤ s.0 → s.0 ≤ j → j ≤ s.1 → ((image s).0 ≤ i) × (i ≤ (image s).1)

-- d is the default index for a missing axis; it is never used
pub within-set : (d axis j : ℕ) (image : Interval → Interval) (from : List ℕ) (region : List Interval) (index : List ℕ) → fits region from ≡ true → (axis < length index → Follows image (get_or index axis d) j) → is_within region (set index axis j) ≡ true → is_within (set region axis (image (get_or region axis (0, 0)))) index ≡ true
within-set d zero j image from [] [] fit f h = refl
within-set d zero j image from (s ∷ region) [] fit f h = absurd (false≢true h)
within-set d zero j image from [] (i ∷ index) fit f h = absurd (false≢true h)
within-set d zero j image [] (s ∷ region) (i ∷ index) fit f h = absurd (false≢true fit)
within-set d zero j image (m ∷ from) (s ∷ region) (i ∷ index) fit f h =
    let parts = and_parts _ _ h in
    let p1 = and_parts _ _ parts.0 in
    let there = f (omega arith) s (leb-true 1 s.0 (and_parts _ _ (and_parts _ _ (and_parts _ _ fit).0).0).0) (leb-true s.0 j p1.0) (leb-true j s.1 p1.1) in
    and_from _ _ (and_from _ _ (le-leb _ _ there.0) (le-leb _ _ there.1)) parts.1
within-set d (suc axis) j image from [] [] fit f h = refl
within-set d (suc axis) j image from (s ∷ region) [] fit f h = absurd (false≢true h)
within-set d (suc axis) j image from [] (i ∷ index) fit f h = absurd (false≢true h)
within-set d (suc axis) j image [] (s ∷ region) (i ∷ index) fit f h = absurd (false≢true fit)
within-set d (suc axis) j image (m ∷ from) (s ∷ region) (i ∷ index) fit f h =
    let parts = and_parts _ _ h in
    and_from _ _ parts.0 (within-set d axis j image from region index (and_parts _ _ fit).1 (λ l. f (omega arith)) parts.1)

each_more : {A : Type 0} (P Q : A → Type 0) (xs : List A) → ((x : A) → P x → Q x) → Each P xs → Each Q xs
each_more P Q [] f h = tt
each_more P Q (x ∷ xs) f h = (f x h.0, each_more P Q xs f h.1)

-- scan, rotation
pub along-covered : (from shape : List ℕ) (axis : ℕ) (places : List ℕ → List ℕ) (image : Interval → Interval) → ((index : List ℕ) → is_index_of shape index ≡ true → axis < length index → Each (Follows image (get_or index axis 0)) (places index)) → Covered from shape (along axis places image)
along-covered from shape axis places image f region index fit place =
    each_map _ (set index axis) (places index) (elim (cases_Bool (nat_lt axis (length index))) [
      | inl t ↦ each_more _ _ (places index) (λ j follows. within-set 0 axis j image from region index fit (λ _. follows)) (f index place (ltb-true _ _ t))
      | inr o ↦
          let past : length index ≤ axis = ltb-false _ _ o in
          each_all _ (places index) (λ j. within-set 0 axis j image from region index fit (λ l. absurd (omega arith)))
    ])

within-remove : (axis : ℕ) (place : Interval) (region : List Interval) (index : List ℕ) → axis < length index → place.0 ≤ get_or index axis 0 → get_or index axis 0 ≤ place.1 → is_within region (remove index axis) ≡ true → is_within (insert region axis place) index ≡ true
within-remove axis place region [] l low high h = absurd (omega arith)
within-remove zero place region (i ∷ index) l low high h = and_from _ _ (and_from _ _ (le-leb _ _ low) (le-leb _ _ high)) h
within-remove (suc axis) place [] (i ∷ index) l low high h = absurd (false≢true h)
within-remove (suc axis) place (s ∷ region) (i ∷ index) l low high h =
    let parts = and_parts _ _ h in
    and_from _ _ parts.0 (within-remove axis place region index (omega arith) low high parts.1)

-- an argument that lacks an axis
pub across-covered : (from shape : List ℕ) (axis : ℕ) (place : Interval) → axis < length shape → Covered from shape (across axis place)
across-covered from shape axis place l region index fit here =
    let few : axis < length index = omega (arith, as_long shape index here) in
    let there = λ (p : List ℕ). is_within region p ≡ true → is_within (insert region axis place) index ≡ true in
    elim (cases_Bool (nat_le place.0 (get_or index axis 0) && nat_le (get_or index axis 0) place.1)) [
      | inl t ↦
          let parts = and_parts _ _ t in
          subst (Each there) (sym (cond-true _ _ _ t)) (within-remove axis place region index few (leb-true _ _ parts.0) (leb-true _ _ parts.1), tt)
      | inr f ↦ subst (Each there) (sym (cond-false _ _ _ f)) tt
    ]

within-take : (first rest : List ℕ) (region : List Interval) (index : List ℕ) → is_index_of (first ++ rest) index ≡ true → is_within region (take (length first) index) ≡ true → is_within (region ++ whole_of rest) index ≡ true
within-take [] rest [] index place h = within-whole rest index ∙ place
within-take [] rest (s ∷ region) index place h = absurd (false≢true h)
within-take (n ∷ first) rest region [] place h = absurd (false≢true place)
within-take (n ∷ first) rest [] (i ∷ index) place h = absurd (false≢true h)
within-take (n ∷ first) rest (s ∷ region) (i ∷ index) place h =
    let parts = and_parts _ _ h in
    and_from _ _ parts.0 (within-take first rest region index (and_parts _ _ place).1 parts.1)

within-drop : (first rest : List ℕ) (region : List Interval) (index : List ℕ) → is_index_of (first ++ rest) index ≡ true → is_within region (drop (length first) index) ≡ true → is_within (whole_of first ++ region) index ≡ true
within-drop [] rest region index place h = h
within-drop (n ∷ first) rest region [] place h = absurd (false≢true place)
within-drop (n ∷ first) rest region (i ∷ index) place h =
    let parts = and_parts _ _ place in
    and_from _ _ parts.0 (within-drop first rest region index parts.1 h)

pub index-take : (first rest index : List ℕ) → is_index_of (first ++ rest) index ≡ true → is_index_of first (take (length first) index) ≡ true
index-take [] rest index place = refl
index-take (n ∷ first) rest [] place = absurd (false≢true place)
index-take (n ∷ first) rest (i ∷ index) place =
    let parts = and_parts _ _ place in
    and_from _ _ parts.0 (index-take first rest index parts.1)

pub index-drop : (first rest index : List ℕ) → is_index_of (first ++ rest) index ≡ true → is_index_of rest (drop (length first) index) ≡ true
index-drop [] rest index place = place
index-drop (n ∷ first) rest [] place = absurd (false≢true place)
index-drop (n ∷ first) rest (i ∷ index) place = index-drop first rest index (and_parts _ _ place).1

-- covered for any box, with reads inside the argument
pub record IsOnto (mid shape : List ℕ) (u : Use) : Type 0 where
  pub covered : (region : List Interval) (index : List ℕ) → is_index_of shape index ≡ true → Each (λ place. is_within region place ≡ true → is_moved (u.box region) index ≡ true) (u.reads index)
  pub places : (index : List ℕ) → is_index_of shape index ≡ true → Each (λ place. is_index_of mid place ≡ true) (u.reads index)

-- outer product
pub front-onto : (first rest : List ℕ) → IsOnto first (first ++ rest) (front (length first) rest)
front-onto first rest = record {
  covered = λ region index place. (within-take first rest region index place, tt);
  places = λ index place. (index-take first rest index place, tt);
}

pub back-onto : (first rest : List ℕ) → IsOnto rest (first ++ rest) (back first)
back-onto first rest = record {
  covered = λ region index place. (within-drop first rest region index place, tt);
  places = λ index place. (index-drop first rest index place, tt);
}

pub onto_covered : (from shape : List ℕ) (u : Use) → IsOnto from shape u → Covered from shape u
onto_covered from shape u h region index fit place = h.covered region index place

meet_at-within : (axes : List ℕ) (region : List Interval) (index : List ℕ) (axis n : ℕ) → 1 ≤ get_or index axis 0 → get_or index axis 0 ≤ n → is_within region (map (λ to. get_or index to 0) axes) ≡ true → ((meet_at axis n axes region).0 ≤ get_or index axis 0) × (get_or index axis 0 ≤ (meet_at axis n axes region).1)
meet_at-within [] region index axis n low high h = (low, high)
meet_at-within (to ∷ axes) [] index axis n low high h = (low, high)
meet_at-within (to ∷ axes) (s ∷ region) index axis n low high h =
    let parts = and_parts _ _ h in
    let first = and_parts _ _ parts.0 in
    let rest = meet_at-within axes region index axis n low high parts.1 in
    let There = λ (t : Interval). (t.0 ≤ get_or index axis 0) × (get_or index axis 0 ≤ t.1) in
    elim (cases_Bool (nat_eq to axis)) [
      | inl t ↦
          let same : get_or index to 0 ≡ get_or index axis 0 = ap (λ (k : ℕ). get_or index k 0) (eqb-true to axis t) in
          let l0 : s.0 ≤ get_or index to 0 = leb-true _ _ first.0 in
          let l1 : get_or index to 0 ≤ s.1 = leb-true _ _ first.1 in
          subst There (sym (cond-true _ _ _ t)) (omega arith, omega arith)
      | inr f ↦ subst There (sym (cond-false _ _ _ f)) (rest.0, rest.1)
    ]

meets-within : (axes : List ℕ) (region : List Interval) (index : List ℕ) (axis : ℕ) (shape rest : List ℕ) → ((k : ℕ) → get_or rest k 0 ≡ get_or index (axis + k) 0) → is_index_of shape rest ≡ true → is_within region (map (λ to. get_or index to 0) axes) ≡ true → is_within (meets axes region axis shape) rest ≡ true
meets-within axes region index axis [] [] at place h = refl
meets-within axes region index axis [] (i ∷ rest) at place h = absurd (false≢true place)
meets-within axes region index axis (n ∷ shape) [] at place h = absurd (false≢true place)
meets-within axes region index axis (n ∷ shape) (i ∷ rest) at place h =
    let parts = and_parts _ _ place in
    let first = and_parts _ _ parts.0 in
    let here : i ≡ get_or index axis 0 = at 0 ∙ ap (λ (k : ℕ). get_or index k 0) (omega arith) in
    let l0 : 1 ≤ i = leb-true 1 i first.0 in
    let l1 : i ≤ n = leb-true i n first.1 in
    let there = meet_at-within axes region index axis n (omega arith) (omega arith) h in
    let t0 : (meet_at axis n axes region).0 ≤ get_or index axis 0 = there.0 in
    let t1 : get_or index axis 0 ≤ (meet_at axis n axes region).1 = there.1 in
    let next : (k : ℕ) → get_or rest k 0 ≡ get_or index (axis + 1 + k) 0 = λ k. let e : axis + suc k ≡ axis + 1 + k = omega arith in at (suc k) ∙ ap (λ (m : ℕ). get_or index m 0) e in
    let f1 : i ≤ (meet_at axis n axes region).1 = omega arith in
    and_from _ _ (and_from _ _ (le-leb _ _ (omega arith)) (le-leb _ _ f1)) (meets-within axes region index (axis + 1) shape rest next parts.1 h)

-- transpositions
pub permuted-covered : (from axes shape : List ℕ) → Covered from shape (permuted axes shape)
permuted-covered from axes shape region index fit place =
    (meets-within axes region index 0 shape index (λ k. let e : k ≡ 0 + k = omega arith in ap (λ (m : ℕ). get_or index m 0) e) place, tt)
