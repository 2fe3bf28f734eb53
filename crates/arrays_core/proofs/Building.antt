-- Items that are appended.
use Rattle.std.{proofs.Common.{◌≡◌, ℕ, zero, suc, ◌+◌, ◌/◌, ◌%◌, ◌<◌, ◌≤◌, List, [], ◌∷◌, ◌++◌, length, map, get_or, take, drop, replicate, refl, ap, sym, ◌∙◌, arith, append_assoc, length-drop, Result, Ok, Err}, specs.List.{range_with_len}, specs.Prelude.{OnOk}}
use Rattle.std.{proofs.lemmas.List.{get_or-take, get_or-drop, length-take, length-map, map-append}, proofs.lemmas.List.FromFn.{fill_by_all, map-range_with_len_more, take-map-range_with_len}, proofs.Math.Nat.{add-mul-mod_self_left, mod-eq_of_lt}, proofs.lemmas.Simd.{map-map}, proofs.Math.ListN.{get_or-map}}
use Rattle.arrays_core.specs.Building.{listed}

listed_same_from : {A : Type 0} (x : A) (a n : ℕ) → replicate n x ≡ map (λ (k : ℕ). x) (range_with_len a n)
listed_same_from x a zero = refl
listed_same_from x a (suc n) = ap (λ xs. x ∷ xs) (listed_same_from x (a + 1) n)

pub listed_same : {A : Type 0} (x : A) (n : ℕ) → replicate n x ≡ listed n (λ k. x)
listed_same x n = listed_same_from x 0 n

-- one more item of a function's values
pub listed_more : {A : Type 0} (f : ℕ → A) (before now new : List A) (k : ℕ) (x : A) → now ≡ before ++ listed k f → new ≡ now ++ x ∷ [] → x ≡ f k
    → new ≡ before ++ listed (k + 1) f
listed_more f before now new k x made pushed same =
    pushed ∙ ap (λ xs. xs ++ x ∷ []) made ∙ append_assoc before (listed k f) (x ∷ [])
    ∙ ap (λ y. before ++ (listed k f ++ y ∷ [])) same ∙ ap (λ xs. before ++ xs) (sym (map-range_with_len_more f 0 k k (omega arith)))

-- a run of items, one by one
pub run_listed : {A : Type 0} (xs : List A) (first n m : ℕ) (d : A) → first + n ≤ length xs → m ≡ n → take m (drop first xs) ≡ listed n (λ k. get_or xs (first + k) d)
run_listed xs first n m d h same =
    fill_by_all (λ k. get_or xs (first + k) d) (take m (drop first xs)) n d (simp (length-take, length-drop) (omega arith))
    (λ k below. get_or-take m (drop first xs) k d (omega arith) ∙ get_or-drop first xs k d)

-- the values of a function, mapped
pub map_listed : {A B : Type 0} (F : A → B) (f : ℕ → A) (n : ℕ) → map F (listed n f) ≡ listed n (λ k. F (f k))
map_listed F f n = map-map F f (range_with_len 0 n)

picked_listed_from : {A B : Type 0} (F : A → B) (xs : List A) (place : ℕ → ℕ) (d : A) (a n : ℕ)
    → map F (map (λ k. get_or xs (place k) d) (range_with_len a n)) ≡ map (λ k. get_or (map F xs) (place k) (F d)) (range_with_len a n)
picked_listed_from F xs place d a zero = refl
picked_listed_from F xs place d a (suc n) =
    ap (λ ys. F (get_or xs (place a) d) ∷ ys) (picked_listed_from F xs place d (a + 1) n)
    ∙ ap (λ y. y ∷ map (λ k. get_or (map F xs) (place k) (F d)) (range_with_len (a + 1) n)) (sym (get_or-map F xs (place a) d))

-- a call on numbers or characters appends the same to items
pub put_same : {A B T E : Type 0} (F : A → B) (r r' : Result T E) (now before : List A) (after was : List B) (n : ℕ) (x : A) (y : B)
    → OnOk r (now ≡ before ++ listed n (λ k. x)) → r' ≡ r → after ≡ map F now → was ≡ map F before → y ≡ F x
    → OnOk r' (after ≡ was ++ listed n (λ k. y))
put_same F (Ok t) r' now before after was n x y put e f g h =
    rw e (f ∙ ap (λ xs. map F xs) put ∙ map-append F before (listed n (λ k. x)) ∙ ap (λ xs. map F before ++ xs) (map_listed F (λ k. x) n ∙ ap (λ z. listed n (λ k. z)) (sym h))
    ∙ ap (λ xs. xs ++ listed n (λ k. y)) (sym g))
put_same F (Err t) r' now before after was n x y put e f g h = rw e tt

pub put_picked : {A B T E : Type 0} (F : A → B) (r r' : Result T E) (now before xs : List A) (after was items : List B) (n : ℕ) (place : ℕ → ℕ) (d : A) (y : B)
    → OnOk r ((x : A) → now ≡ before ++ listed n (λ k. get_or xs (place k) x)) → r' ≡ r → after ≡ map F now → was ≡ map F before → items ≡ map F xs → y ≡ F d
    → OnOk r' (after ≡ was ++ listed n (λ k. get_or items (place k) y))
put_picked F (Ok t) r' now before xs after was items n place d y put e f g i h =
    rw (e, i, h) (f ∙ ap (λ zs. map F zs) (put d) ∙ map-append F before _ ∙ ap (λ zs. map F before ++ zs) (picked_listed_from F xs place d 0 n)
    ∙ ap (λ zs. zs ++ listed n (λ k. get_or (map F xs) (place k) (F d))) (sym g))
put_picked F (Err t) r' now before xs after was items n place d y put e f g i h = rw e tt

-- ---- repeated items

pub range_more : {A : Type 0} (f : ℕ → A) (a k n : ℕ) → map f (range_with_len a (k + n)) ≡ map f (range_with_len a k) ++ map f (range_with_len (a + k) n)
range_more f a zero n =
    let same : zero + n ≡ n = omega arith in
    let there : a + zero ≡ a = omega arith in
    rw (same, there) refl
range_more f a (suc k) n =
    let same : suc k + n ≡ suc (k + n) = omega arith in
    let there : a + suc k ≡ a + 1 + k = omega arith in
    rw (same, there) (ap (λ xs. f a ∷ xs) (range_more f (a + 1) k n))

range_shifted : {A : Type 0} (f : ℕ → A) (a b n : ℕ) → ((k : ℕ) → k < n → f (a + k) ≡ f (b + k)) → map f (range_with_len a n) ≡ map f (range_with_len b n)
range_shifted f a b zero h = refl
range_shifted f a b (suc n) h =
    let first : f a ≡ f b = ap f (let e : a ≡ a + 0 = omega arith in e) ∙ h 0 (omega arith) ∙ ap f (let e : b + 0 ≡ b = omega arith in e) in
    ap (λ x. x ∷ map f (range_with_len (a + 1) n)) first
    ∙ ap (λ xs. f b ∷ xs) (range_shifted f (a + 1) (b + 1) n (λ k below.
    ap f (let e : a + 1 + k ≡ a + (k + 1) = omega arith in e) ∙ h (k + 1) (omega arith) ∙ ap f (let e : b + (k + 1) ≡ b + 1 + k = omega arith in e)))

round_again : (n l k : ℕ) → l % n ≡ 0 → (l + k) % n ≡ (0 + k) % n
round_again n l k e = ap (λ m. m % n) (omega arith) ∙ add-mul-mod_self_left k n (l / n) ∙ ap (λ m. m % n) (omega arith)

-- the first items repeated after whole rounds
pub again_listed : {A : Type 0} (xs old : List A) (d : A) (n m l total : ℕ) → length xs ≡ l → total ≡ l + m → m ≤ l → l % n ≡ 0
    → xs ≡ listed l (λ k. get_or old (k % n) d) → xs ++ take m (drop 0 xs) ≡ listed total (λ k. get_or old (k % n) d)
again_listed xs old d n m l total long whole few round made =
    ap (λ ys. ys ++ take m ys) made
    ∙ ap (λ ys. listed l (λ k. get_or old (k % n) d) ++ ys) (take-map-range_with_len (λ k. get_or old (k % n) d) 0 l m few)
    ∙ ap (λ ys. listed l (λ k. get_or old (k % n) d) ++ ys) (range_shifted (λ k. get_or old (k % n) d) 0 (0 + l) m (λ k below.
    ap (λ j. get_or old j d) (sym (round_again n l k round) ∙ ap (λ j. j % n) (omega arith))))
    ∙ sym (range_more (λ k. get_or old (k % n) d) 0 l m) ∙ ap (λ j. listed j (λ k. get_or old (k % n) d)) (sym whole)

-- one round is the list itself
pub first_round : {A : Type 0} (old : List A) (d : A) → old ≡ listed (length old) (λ k. get_or old (k % length old) d)
first_round old d = fill_by_all (λ k. get_or old (k % length old) d) old (length old) d refl (λ k below. ap (λ j. get_or old j d) (sym (mod-eq_of_lt below)))

pub two_rounds : (l n : ℕ) → l % n ≡ 0 → (l + l) % n ≡ 0
two_rounds l n e = round_again n l l e ∙ ap (λ m. m % n) (omega arith) ∙ e

pub put_again : {A B T E : Type 0} (F : A → B) (r r' : Result T E) (now xs : List A) (after items : List B) (n : ℕ) (d : A) (y : B)
    → OnOk r ((x : A) → now ≡ listed n (λ k. get_or xs (k % length xs) x)) → r' ≡ r → after ≡ map F now → items ≡ map F xs → y ≡ F d
    → OnOk r' (after ≡ listed n (λ k. get_or items (k % length items) y))
put_again F (Ok t) r' now xs after items n d y put e f i h =
    rw (e, i, h) (f ∙ ap (λ zs. map F zs) (put d) ∙ picked_listed_from F xs (λ k. k % length xs) d 0 n
    ∙ ap (λ m. listed n (λ k. get_or (map F xs) (k % m) (F d))) (sym (length-map xs F)))
put_again F (Err t) r' now xs after items n d y put e f i h = rw e tt
