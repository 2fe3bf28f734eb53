-- A change that is written over the last entry of a list.
use Rattle.std.{proofs.Common.{◌≡◌, ◌∙◌, ℕ, ◌+◌, List, [], ◌∷◌, ◌++◌, length, get_or, take, drop, ap, sym, arith}, proofs.lemmas.List.{length-append}, proofs.Math.Seq.{get_or-append_seam, take-append_seam}}

-- two lists with one entry behind each are the same up to that
pub front_is : {X : Type 0} (xs ys : List X) (x y : X) → xs ++ x ∷ [] ≡ ys ++ y ∷ [] → ys ≡ xs
front_is xs ys x y same =
    let long : length ys ≡ length xs = omega (arith, length-append xs (x ∷ []), length-append ys (y ∷ []), ap (λ zs. length zs) same) in
    sym (take-append_seam ys (y ∷ [])) ∙ ((λ i. take (long i) (sym same i)) ∙ take-append_seam xs (x ∷ []))

pub last_is : {X : Type 0} (xs ys : List X) (x y : X) → xs ++ x ∷ [] ≡ ys ++ y ∷ [] → y ≡ x
last_is xs ys x y same =
    let front = front_is xs ys x y same in
    sym (get_or-append_seam ys y [] x) ∙ ((λ i. get_or (sym same i) (length (front i)) x) ∙ get_or-append_seam xs x [] x)

-- the list once the entry is written
pub written_back : {X : Type 0} (xs ys items : List X) (x y new : X) (len : ℕ) → items ≡ xs ++ x ∷ [] → items ≡ ys ++ y ∷ [] → len ≡ length items
    → take len ((ys ++ new ∷ []) ++ drop (length (ys ++ new ∷ [])) items) ≡ xs ++ new ∷ []
written_back xs ys items x y new len whole parts long =
    let now = ys ++ new ∷ [] in
    let same : len ≡ length now = omega (arith, long, ap (λ zs. length zs) parts, length-append ys (y ∷ []), length-append ys (new ∷ [])) in
    ap (λ n. take n (now ++ drop (length now) items)) same ∙ (take-append_seam now (drop (length now) items) ∙ ap (λ zs. zs ++ new ∷ []) (front_is xs ys x y (sym whole ∙ parts)))
