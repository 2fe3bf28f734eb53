-- Each number of one list plus each of another.
use Rattle.std.{proofs.Common.{◌≡◌, ℕ, zero, suc, ◌+◌, ◌*◌, ◌<◌, ◌≤◌, List, [], ◌∷◌, ◌++◌, map, length, get_or, take, refl, ap, sym, ◌∙◌, append-nil, append_assoc, arith}, proofs.lemmas.List.{length-append, length-map, get_or-map, get_or_append_left, get_or-append-add, map-append, take_more, take_all}}
use Rattle.std.{proofs.lemmas.List.FromFn.{fill_by_all, length-range_with_len, get_or-range_with_len}, proofs.lemmas.Nat.{mul-add-lt}, proofs.lemmas.Simd.{map-map}, specs.List.{range_with_len}}
use Rattle.{arrays_core.specs.Building.{listed}, selection_fns.specs.IndexPlaces.{sums}}

pub length-sums : (xs ys : List ℕ) → length (sums xs ys) ≡ length xs * length ys
length-sums [] ys = omega arith
length-sums (x ∷ xs) ys = omega (arith, length-append (map (λ y. x + y) ys) (sums xs ys), length-map ys (λ y. x + y), length-sums xs ys)

pub get_or-sums : (xs ys : List ℕ) (i j : ℕ) → i < length xs → j < length ys → get_or (sums xs ys) (i * length ys + j) 0 ≡ get_or xs i 0 + get_or ys j 0
get_or-sums [] ys i j h g = absurd (omega arith)
get_or-sums (x ∷ xs) ys zero j h g =
    let mapped = length-map ys (λ y. x + y) in
    ap (λ k. get_or (map (λ y. x + y) ys ++ sums xs ys) k 0) (omega arith)
    ∙ get_or_append_left (map (λ y. x + y) ys) (sums xs ys) 0 j (omega arith)
    ∙ get_or-map (λ y. x + y) ys j 0 0 g
get_or-sums (x ∷ xs) ys (suc i) j h g =
    let mapped = length-map ys (λ y. x + y) in
    ap (λ k. get_or (map (λ y. x + y) ys ++ sums xs ys) k 0) (omega arith)
    ∙ get_or-append-add (map (λ y. x + y) ys) (sums xs ys) (i * length ys + j) 0
    ∙ get_or-sums xs ys i j (omega arith) g

-- a bound of each sum bounds each two numbers that are added
pub sums_below : (xs ys : List ℕ) (m : ℕ) → ((k : ℕ) → k < length (sums xs ys) → get_or (sums xs ys) k 0 < m)
    → (i j : ℕ) → i < length xs → j < length ys → get_or xs i 0 + get_or ys j 0 < m
sums_below xs ys m below i j h g =
    let long = length-sums xs ys in
    let place = mul-add-lt i (length ys) j (length xs) h g in
    let sum = get_or-sums xs ys i j h g in
    let there : i * length ys + j < length (sums xs ys) = omega arith in
    omega (arith, below (i * length ys + j) there)

sums_append : (xs zs ys : List ℕ) → sums (xs ++ zs) ys ≡ sums xs ys ++ sums zs ys
sums_append [] zs ys = refl
sums_append (x ∷ xs) zs ys =
    ap (λ rest. map (λ y. x + y) ys ++ rest) (sums_append xs zs ys) ∙ sym (append_assoc (map (λ y. x + y) ys) (sums xs ys) (sums zs ys))

map_moved : (x y : ℕ) (zs : List ℕ) → map (λ z. (x + y) + z) zs ≡ map (λ z. x + z) (map (λ z. y + z) zs)
map_moved x y [] = refl
map_moved x y (z ∷ zs) = ap (λ n. n ∷ map (λ w. (x + y) + w) zs) (let same : (x + y) + z ≡ x + (y + z) = omega arith in same) ∙ ap (λ ws. (x + (y + z)) ∷ ws) (map_moved x y zs)

sums_moved : (x : ℕ) (ys zs : List ℕ) → sums (map (λ y. x + y) ys) zs ≡ map (λ s. x + s) (sums ys zs)
sums_moved x [] zs = refl
sums_moved x (y ∷ ys) zs =
    ap (λ rest. map (λ z. (x + y) + z) zs ++ rest) (sums_moved x ys zs)
    ∙ ap (λ first. first ++ map (λ s. x + s) (sums ys zs)) (map_moved x y zs)
    ∙ sym (map-append (λ s. x + s) (map (λ z. y + z) zs) (sums ys zs))

pub sums_sums : (xs ys zs : List ℕ) → sums (sums xs ys) zs ≡ sums xs (sums ys zs)
sums_sums [] ys zs = refl
sums_sums (x ∷ xs) ys zs =
    sums_append (map (λ y. x + y) ys) (sums xs ys) zs
    ∙ ap (λ rest. sums (map (λ y. x + y) ys) zs ++ rest) (sums_sums xs ys zs)
    ∙ ap (λ first. first ++ sums xs (sums ys zs)) (sums_moved x ys zs)

map_zero : (ys : List ℕ) → map (λ y. 0 + y) ys ≡ ys
map_zero [] = refl
map_zero (y ∷ ys) = ap (λ n. n ∷ map (λ z. 0 + z) ys) (let same : 0 + y ≡ y = omega arith in same) ∙ ap (λ rest. y ∷ rest) (map_zero ys)

pub sums_first : (ys : List ℕ) → sums (0 ∷ []) ys ≡ ys
sums_first ys = append-nil (map (λ y. 0 + y) ys) ∙ map_zero ys

-- the sums of one number more
pub sums_more : (xs ys : List ℕ) (k : ℕ) → k < length xs → sums (take (k + 1) xs) ys ≡ sums (take k xs) ys ++ map (λ y. get_or xs k 0 + y) ys
sums_more xs ys k h =
    ap (λ front. sums front ys) (take_more xs k 0 h)
    ∙ sums_append (take k xs) (get_or xs k 0 ∷ []) ys
    ∙ ap (λ last. sums (take k xs) ys ++ last) (append-nil (map (λ y. get_or xs k 0 + y) ys))

-- a list has a number where the sums have one
pub some_first : (xs ys : List ℕ) → 0 < length (sums xs ys) → (0 < length xs) × (0 < length ys)
some_first xs ys some =
    let long = length-sums xs ys in
    (left (length xs) (length ys) (omega arith), right (length xs) (length ys) (omega arith))
  where
    left : (m n : ℕ) → 0 < m * n → 0 < m
    left zero n h = absurd (omega arith)
    left (suc m) n h = omega arith

    right : (m n : ℕ) → 0 < m * n → 0 < n
    right m zero h = absurd (omega arith)
    right m (suc n) h = omega arith

-- one more result of a function, after those of the earlier items
pub map_more : {A : Type 0} (f : A → ℕ) (before now new : List ℕ) (xs : List A) (k x : ℕ) (d : A) → k < length xs
    → now ≡ before ++ map f (take k xs) → new ≡ now ++ x ∷ [] → x ≡ f (get_or xs k d) → new ≡ before ++ map f (take (k + 1) xs)
map_more f before now new xs k x d h made pushed same =
    pushed ∙ ap (λ ys. ys ++ x ∷ []) made ∙ append_assoc before (map f (take k xs)) (x ∷ [])
    ∙ ap (λ y. before ++ (map f (take k xs) ++ y ∷ [])) same
    ∙ ap (λ ys. before ++ ys) (sym (map-append f (take k xs) (get_or xs k d ∷ [])) ∙ ap (map f) (sym (take_more xs k d h)))

pub map_all : {A : Type 0} (f : A → ℕ) (before now : List ℕ) (xs : List A) (k : ℕ) → length xs ≤ k → now ≡ before ++ map f (take k xs) → now ≡ before ++ map f xs
map_all f before now xs k h made = made ∙ ap (λ ys. before ++ map f ys) (take_all k xs h)

-- the sums with one number alone
pub sums_one : (xs ys : List ℕ) → length ys ≡ 1 → map (λ x. get_or ys 0 0 + x) xs ≡ sums xs ys
sums_one xs [] e = absurd (omega arith)
sums_one [] (y ∷ []) e = refl
sums_one (x ∷ xs) (y ∷ []) e =
    ap (λ n. n ∷ map (λ z. y + z) xs) (let turned : y + x ≡ x + y = omega arith in turned) ∙ ap (λ rest. (x + y) ∷ rest) (sums_one xs (y ∷ []) refl)
sums_one xs (y ∷ z ∷ ys) e = absurd (omega arith)

-- the sums of one number more with two
pub pairs_more : (before now new xs ys : List ℕ) (k : ℕ) → k < length xs → length ys ≡ 2 → now ≡ before ++ sums (take k xs) ys
    → new ≡ (now ++ (get_or xs k 0 + get_or ys 0 0) ∷ []) ++ (get_or xs k 0 + get_or ys 1 0) ∷ [] → new ≡ before ++ sums (take (k + 1) xs) ys
pairs_more before now new xs ys k h two made pushed =
    let pair = (get_or xs k 0 + get_or ys 0 0) ∷ (get_or xs k 0 + get_or ys 1 0) ∷ [] in
    pushed ∙ append_assoc now ((get_or xs k 0 + get_or ys 0 0) ∷ []) ((get_or xs k 0 + get_or ys 1 0) ∷ [])
    ∙ ap (λ n. n ++ pair) made ∙ append_assoc before (sums (take k xs) ys) pair
    ∙ ap (λ l. before ++ (sums (take k xs) ys ++ l)) (sym (ap (map (λ y. get_or xs k 0 + y)) (both ys two)))
    ∙ ap (λ l. before ++ l) (sym (sums_more xs ys k h))
  where
    both : (ys : List ℕ) → length ys ≡ 2 → ys ≡ get_or ys 0 0 ∷ get_or ys 1 0 ∷ []
    both [] e = absurd (omega arith)
    both (y ∷ []) e = absurd (omega arith)
    both (y ∷ z ∷ []) e = refl
    both (y ∷ z ∷ w ∷ ys) e = absurd (omega arith)

-- one number alone, and each of a list, added
pub sums_turned : (xs ys : List ℕ) → length ys ≡ 1 → sums ys xs ≡ sums xs ys
sums_turned xs [] e = absurd (omega arith)
sums_turned xs (y ∷ []) e = append-nil (map (λ x. y + x) xs) ∙ sums_one xs (y ∷ []) refl
sums_turned xs (y ∷ z ∷ ys) e = absurd (omega arith)

-- ---- heads and rows

pub heads_few : (offsets xs ys : List ℕ) (m : ℕ) → 0 < length (sums xs ys) → length offsets * length (sums xs ys) ≤ m → length offsets * length xs ≤ m
heads_few offsets xs ys m some few =
    least (length offsets) (length xs) (length ys) ((some_first xs ys some).1) (rw (length-sums xs ys) at few)
  where
    least : (a b c : ℕ) → 0 < c → a * (b * c) ≤ m → a * b ≤ m
    least a b zero h few = absurd (omega arith)
    least a b (suc c) h few = omega arith

pub heads_fit : (offsets xs ys : List ℕ) (m : ℕ) → 0 < length (sums xs ys)
    → ((i j : ℕ) → i < length offsets → j < length (sums xs ys) → get_or offsets i 0 + get_or (sums xs ys) j 0 < m)
    → (i j : ℕ) → i < length offsets → j < length xs → get_or offsets i 0 + get_or xs j 0 < m
heads_fit offsets xs ys m some fit i j h g =
    let long = length-sums xs ys in
    let second = (some_first xs ys some).1 in
    let place = mul-add-lt j (length ys) 0 (length xs) g second in
    let sum = get_or-sums xs ys j 0 g second in
    let there : j * length ys + 0 < length (sums xs ys) = omega arith in
    omega (arith, fit i (j * length ys + 0) h there)

pub first_alone : (xs : List ℕ) → length xs ≡ 1 → 0 ≡ get_or xs 0 0 → xs ≡ 0 ∷ []
first_alone [] e h = absurd (omega arith)
first_alone (x ∷ []) e h = ap (λ y. y ∷ []) (sym h)
first_alone (x ∷ y ∷ xs) e h = absurd (omega arith)

pub run_inside : (head count long : ℕ) → head < long → ((k : ℕ) → k < length (range_with_len 0 count) → head + get_or (range_with_len 0 count) k 0 < long) → head + count ≤ long
run_inside head zero long begins inside = omega arith
run_inside head (suc n) long begins inside =
    let counted = length-range_with_len 0 (suc n) in
    let last = get_or-range_with_len 0 (suc n) n 0 (omega arith) in
    let there : n < length (range_with_len 0 (suc n)) = omega arith in
    omega (arith, inside n there)

pub listed_map : {A : Type 0} (f : ℕ → A) (ys : List ℕ) → listed (length ys) (λ k. f (get_or ys k 0)) ≡ map f ys
listed_map f ys = sym (fill_by_all (λ k. f (get_or ys k 0)) (map f ys) (length ys) (f 0) (length-map ys f) (λ k h. get_or-map f ys k 0 (f 0) h))

-- the results of a function of the sums of one number more, after the earlier ones
pub picked_more : {A : Type 0} (f : ℕ → A) (before now new : List A) (xs ys : List ℕ) (k : ℕ) → k < length xs
    → now ≡ before ++ map f (sums (take k xs) ys) → new ≡ now ++ map (λ y. f (get_or xs k 0 + y)) ys → new ≡ before ++ map f (sums (take (k + 1) xs) ys)
picked_more f before now new xs ys k h made put =
    put ∙ ap (λ zs. zs ++ map (λ y. f (get_or xs k 0 + y)) ys) made
    ∙ append_assoc before (map f (sums (take k xs) ys)) (map (λ y. f (get_or xs k 0 + y)) ys)
    ∙ ap (λ zs. before ++ (map f (sums (take k xs) ys) ++ zs)) (sym (map-map f (λ y. get_or xs k 0 + y) ys))
    ∙ ap (λ zs. before ++ zs) (sym (map-append f (sums (take k xs) ys) (map (λ y. get_or xs k 0 + y) ys)) ∙ ap (map f) (sym (sums_more xs ys k h)))
