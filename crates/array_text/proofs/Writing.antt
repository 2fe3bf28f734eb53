-- Texts that are written piece by piece.
use Rattle.std.{proofs.Common.{◌≡◌, ℕ, zero, suc, ◌+◌, ◌-◌, ◌*◌, ◌<◌, false, cond, eqb, List, [], ◌∷◌, ◌++◌, length, get_or, take, refl, sym, ap, ◌∙◌, arith, add-one, append_assoc, Result, Ok, Err, OnOk, is_ok}, specs.Prelude.{encode_utf8, encode_utf8_all}, specs.List.{flat_map, range_with_len, join_by}}
use Rattle.std.{proofs.lemmas.Bool.{eq-eqb}, proofs.lemmas.Bool.Decides.{nat_tests}, proofs.lemmas.Str.{encodes-append}, proofs.lemmas.Grind.{flat_map-append}, proofs.lemmas.List.{append-nil, length-take-le, take_more}, proofs.lemmas.List.FromFn.{length-range_with_len}}
use Rattle.array_text.specs.Text.{gap, planes, part_of, line_end}

-- one more piece is appended
pub grown : (new old start sofar more all : List ℕ) → new ≡ old ++ more → old ≡ start ++ sofar → all ≡ sofar ++ more → new ≡ start ++ all
grown new old start sofar more all e f g = rw (e, f, g) (append_assoc start sofar more)

-- two more pieces are appended
pub grown_twice : (new mid old start sofar first second all : List ℕ) → new ≡ mid ++ second → mid ≡ old ++ first → old ≡ start ++ sofar
    → all ≡ sofar ++ (first ++ second) → new ≡ start ++ all
grown_twice new mid old start sofar first second all e f g h = grown new old start sofar (first ++ second) all (rw (e, f) (append_assoc old first second)) g h

-- the last write
pub pushed : {T E : Type 0} (r : Result T E) (new base more full : List ℕ) → new ≡ cond (is_ok r) (base ++ more) base → base ++ more ≡ full → OnOk r (new ≡ full)
pushed (Ok x) new base more full e f = e ∙ f
pushed (Err d) new base more full e f = tt

-- the last write after the pieces of a loop
pub pushed_behind : {T E : Type 0} (r : Result T E) (new out start sofar all more : List ℕ) → new ≡ cond (is_ok r) (out ++ more) out → out ≡ start ++ sofar → sofar ≡ all
    → OnOk r (new ≡ start ++ (all ++ more))
pushed_behind r new out start sofar all more e f g = pushed r new out more _ e (rw (f, g) (append_assoc start all more))

range_more : (a n j : ℕ) → a + n ≡ j → range_with_len a (suc n) ≡ range_with_len a n ++ j ∷ []
range_more a zero j e = let same : a ≡ j = omega arith in ap (λ (k : ℕ). k ∷ []) same
range_more a (suc n) j e = ap (λ (t : List ℕ). a ∷ t) (range_more (a + 1) n j (omega arith))

range_step : (n : ℕ) → range_with_len 0 (n + 1) ≡ range_with_len 0 n ++ n ∷ []
range_step n = rw add-one (range_more 0 n n (omega arith))

pub flat_map-range_step : (f : ℕ → List ℕ) (n : ℕ) → flat_map f (range_with_len 0 (n + 1)) ≡ flat_map f (range_with_len 0 n) ++ f n
flat_map-range_step f n = rw (range_step n, flat_map-append f (range_with_len 0 n) (n ∷ []), append-nil (f n)) refl

join_by-push : {X : Type 0} (f : X → List ℕ) (between : List ℕ) (xs : List X) (x : X)
    → join_by f between (xs ++ x ∷ []) ≡ join_by f between xs ++ (gap between (length xs) ++ f x)
unfolding gap
join_by-push f between [] x = append-nil (f x)
join_by-push f between (y ∷ ys) x =
    let later : eqb (suc (length ys)) 0 ≡ false = grind (arith, nat_tests) in
    rw (later, flat_map-append (λ z. between ++ f z) ys (x ∷ []), append-nil (between ++ f x))
    (sym (append_assoc (f y) (flat_map (λ z. between ++ f z) ys) (between ++ f x)))

-- one more piece of a list
pub join_by-more : {X : Type 0} (f : X → List ℕ) (between : List ℕ) (xs : List X) (k : ℕ) (d : X) → k < length xs
    → join_by f between (take (k + 1) xs) ≡ join_by f between (take k xs) ++ (gap between k ++ f (get_or xs k d))
join_by-more f between xs k d h = rw (take_more xs k d h, join_by-push f between (take k xs) (get_or xs k d), length-take-le k xs (omega arith)) refl

-- one more piece of a count
pub join_by-range_step : (f : ℕ → List ℕ) (between : List ℕ) (n : ℕ)
    → join_by f between (range_with_len 0 (n + 1)) ≡ join_by f between (range_with_len 0 n) ++ (gap between n ++ f n)
join_by-range_step f between n = rw (range_step n, join_by-push f between (range_with_len 0 n) n, length-range_with_len 0 n) refl

pub encode_utf8_all-push : (cs : List ℕ) (c : ℕ) → encode_utf8_all (cs ++ c ∷ []) ≡ encode_utf8_all cs ++ encode_utf8 c
encode_utf8_all-push cs c = rw (encodes-append cs (c ∷ []), append-nil (encode_utf8 c)) refl

pub part_width : (part size : ℕ) → (part + 1) * size - part * size ≡ size
part_width part size = omega arith

-- planes without items, and with some
pub planes_none : {X : Type 0} (plane : List X → List ℕ) (count size : ℕ) (xs : List X) → length xs ≡ 0 → planes plane count size xs ≡ []
unfolding planes
planes_none plane count size xs h = let none = eq-eqb (length xs) 0 h in rw none refl

pub planes_some : {X : Type 0} (plane : List X → List ℕ) (count size : ℕ) (xs : List X) → eqb (length xs) 0 ≡ false
    → planes plane count size xs ≡ join_by (λ part. plane (part_of size part xs)) line_end (range_with_len 0 count)
unfolding planes
planes_some plane count size xs h = rw h refl
