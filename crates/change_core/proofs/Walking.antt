-- The items along the walk of a box.
use Rattle.std.{proofs.Common.{◌≡◌, ℕ, suc, zero, ◌+◌, ◌-◌, ◌/◌, ◌%◌, ◌<◌, ◌≤◌, List, [], ◌∷◌, ◌++◌, length, map, refl, ap, ◌∙◌, sym, arith, Result, Ok, Err}, specs.List.{range_with_len}, proofs.lemmas.List.{append_assoc, append-nil, length-map}, proofs.lemmas.List.FromFn.{fill_by_all}, proofs.Math.ListN.{get_or-map}}
use Rattle.arrays_core.{proofs.Order.{length-indices, get_or-indices}, specs.declared.item.Item.{Item}, specs.declared.item.Kind.{Kind}, specs.Shapes.{size, indices, index_after}}
use Rattle.{change_core.proofs.Collected.{put_first, collected, along}, index_region.specs.Boxes.{Interval, box_size, walk_at, whole_of}}

pub box_size-whole : (axes : List ℕ) → box_size (whole_of axes) ≡ size axes
box_size-whole [] = refl
box_size-whole (n ∷ axes) = let one : n + 1 - 1 ≡ n = omega arith in rw (one, box_size-whole axes) refl

-- the walk of the box of all places is the ravel order of the shape
pub walk-whole : (axes : List ℕ) (p : ℕ) → walk_at (whole_of axes) p ≡ index_after axes p
walk-whole [] p = refl
walk-whole (n ∷ axes) p =
    let sized = box_size-whole axes in
    let head : 1 + p / box_size (whole_of axes) ≡ p / size axes + 1 = rw sized (omega arith) in
    let tail : walk_at (whole_of axes) (p % box_size (whole_of axes)) ≡ index_after axes (p % size axes) = rw sized (walk-whole axes (p % size axes)) in
    λ i. head i ∷ tail i

-- the items of that box are those of all index lists in ravel order
pub walk_is : (shape : List ℕ) (item : List ℕ → Result Item Kind) → along item (whole_of shape) ≡ map item (indices shape)
walk_is shape item =
    sym (fill_by_all (λ p. item (walk_at (whole_of shape) p)) (map item (indices shape)) (box_size (whole_of shape)) (item [])
    (length-map (indices shape) item ∙ length-indices shape ∙ sym (box_size-whole shape)) (λ i h.
    get_or-map item (indices shape) i [] ∙ ap item (get_or-indices shape i (omega (arith, h, box_size-whole shape)) ∙ sym (walk-whole shape i))))

-- items before a list of items or an error
abbrev pub prepend : List Item → Result (List Item) Kind → Result (List Item) Kind
prepend xs (Ok ys) = Ok (xs ++ ys)
prepend xs (Err k) = Err k

-- the values of the places from p on
abbrev pub rest_from : (ℕ → Result Item Kind) → ℕ → ℕ → Result (List Item) Kind
rest_from f n p = collected (map f (range_with_len p (n - p)))

pub prepend-nil : (r : Result (List Item) Kind) → prepend [] r ≡ r
prepend-nil (Ok ys) = refl
prepend-nil (Err k) = refl

prepend-put : (xs : List Item) (x : Item) (r : Result (List Item) Kind) → prepend xs (put_first (Ok x) r) ≡ prepend (xs ++ x ∷ []) r
prepend-put xs x (Ok ys) = ap (λ (l : List Item). Ok l) (sym (append_assoc xs (x ∷ []) ys))
prepend-put xs x (Err k) = refl

one_more : (f : ℕ → Result Item Kind) (n p : ℕ) → p < n → rest_from f n p ≡ put_first (f p) (rest_from f n (p + 1))
one_more f n p h =
    let e : n - p ≡ suc (n - (p + 1)) = omega arith in
    ap (λ (m : ℕ). collected (map f (range_with_len p m))) e

pub rest_ok : (f : ℕ → Result Item Kind) (n p : ℕ) (xs : List Item) (x : Item) → p < n → f p ≡ Ok x → prepend xs (rest_from f n p) ≡ prepend (xs ++ x ∷ []) (rest_from f n (p + 1))
rest_ok f n p xs x h e = ap (prepend xs) (one_more f n p h ∙ ap (λ (r : Result Item Kind). put_first r (rest_from f n (p + 1))) e) ∙ prepend-put xs x (rest_from f n (p + 1))

pub rest_err : (f : ℕ → Result Item Kind) (n p : ℕ) (xs : List Item) (k : Kind) → p < n → f p ≡ Err k → prepend xs (rest_from f n p) ≡ Err k
rest_err f n p xs k h e = ap (prepend xs) (one_more f n p h ∙ ap (λ (r : Result Item Kind). put_first r (rest_from f n (p + 1))) e)

pub rest_end : (f : ℕ → Result Item Kind) (n p : ℕ) (xs : List Item) → n ≤ p → prepend xs (rest_from f n p) ≡ Ok xs
rest_end f n p xs h =
    let e : n - p ≡ zero = omega arith in
    ap (λ (m : ℕ). prepend xs (collected (map f (range_with_len p m)))) e ∙ ap (λ (l : List Item). Ok l) (append-nil xs)

put_length : (r : Result Item Kind) (rest : Result (List Item) Kind) (xs : List Item) (n : ℕ) → ((ys : List Item) → rest ≡ Ok ys → length ys ≡ n) → put_first r rest ≡ Ok xs → length xs ≡ suc n
put_length (Ok x) (Ok ys) xs n h e =
    let same : x ∷ ys ≡ xs = cc in
    sym (ap length same) ∙ ap suc (h ys refl)
put_length (Ok x) (Err k) xs n h e = absurd cc
put_length (Err k) rest xs n h e = absurd cc

length-collected : (f : ℕ → Result Item Kind) (n a : ℕ) (xs : List Item) → collected (map f (range_with_len a n)) ≡ Ok xs → length xs ≡ n
length-collected f zero a xs e = let same : [] ≡ xs = cc in sym (ap length same)
length-collected f (suc n) a xs e = put_length (f a) (collected (map f (range_with_len (a + 1) n))) xs n (λ ys h. length-collected f n (a + 1) ys h) e

-- there are as many items as places
pub length-along : (item : List ℕ → Result Item Kind) (region : List Interval) (xs : List Item) → collected (along item region) ≡ Ok xs → length xs ≡ box_size region
length-along item region xs e = length-collected (λ p. item (walk_at region p)) (box_size region) 0 xs e
