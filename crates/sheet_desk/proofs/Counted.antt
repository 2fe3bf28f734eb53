-- The number of steps is unique.
use Rattle.std.{proofs.Common.{◌≡◌, ◌≤◌, ◌+◌, ⊎_elim, ℕ, List, [], ◌∷◌, ◌++◌, sym, ap, subst, ◌∙◌, arith}, specs.List.{Contains, sum_by}, proofs.lemmas.List.Sums.{sum_by-cons, sum_by-append}, proofs.lemmas.List.Elements.{Contains-append_left, Contains-append_right, Contains-append_cases}}
use Rattle.dep_order.{specs.Follows.{IsOnce}, proofs.Following.{contains_here, contains_there, contains_cases, contains_none}}
use Rattle.sheet_recalc.{specs.Names.{Names}, specs.Costs.{IsStepCount, functions_in}, proofs.Keeping.{distinct_once}}

module _ {A : Type 0} where
  -- a list is the part before an entry, the entry, and the part after it
  record Parts (xs : List A) (x : A) : Type 0 where
    before : List A
    behind : List A
    is : xs ≡ before ++ x ∷ behind

  parts : (xs : List A) (x : A) → Contains xs x → Parts xs x
  parts [] x c = absurd (contains_none x c)
  parts (y ∷ xs) x c = ⊎_elim (λ (e : x ≡ y). first e) (λ (there : Contains xs x). later (parts xs x there)) (contains_cases y xs x c)
    where
      first : x ≡ y → Parts (y ∷ xs) x
      first e = record { before = []; behind = xs; is = ap (λ (z : A). z ∷ xs) (sym e) }

      later : Parts xs x → Parts (y ∷ xs) x
      later p = record { before = y ∷ p.before; behind = p.behind; is = ap (λ (zs : List A). y ∷ zs) p.is }

  -- a sum over distinct entries is at most the sum over a list that contains them all
  sum_within : (f : A → ℕ) (xs ys : List A) → IsOnce xs → ((x : A) → Contains xs x → Contains ys x) → sum_by f xs ≤ sum_by f ys
  sum_within f [] ys once inside = omega arith
  sum_within f (x ∷ xs) ys once inside =
      let p = parts ys x (inside x (contains_here x xs)) in
      let rest = sum_within f xs (p.before ++ p.behind) once.1 (λ (y : A) (c : Contains xs y). others p y c) in
      let whole : sum_by f ys ≡ sum_by f p.before + sum_by f (x ∷ p.behind) = ap (sum_by f) p.is ∙ sum_by-append f p.before (x ∷ p.behind) in
      let here = sum_by-cons f x p.behind in
      let front = sum_by-cons f x xs in
      let both = sum_by-append f p.before p.behind in
      omega (arith, rest, whole, here, front, both)
    where
      others : (p : Parts ys x) (y : A) → Contains xs y → Contains (p.before ++ p.behind) y
      others p y c =
          ⊎_elim (λ (l : Contains p.before y). Contains-append_left p.before p.behind y l)
          (λ (r : Contains (x ∷ p.behind) y). ⊎_elim (λ (e : y ≡ x). absurd (once.0 (subst (λ (z : A). Contains xs z) e c))) (λ (l : Contains p.behind y).
          Contains-append_right p.before p.behind y l) (contains_cases x p.behind y r))
          (Contains-append_cases p.before (x ∷ p.behind) y (subst (λ (zs : List A). Contains zs y) p.is (inside y (contains_there x xs y c))))

pub count_one : (names : Names) (name : List ℕ) (m n : ℕ) → IsStepCount names name m → IsStepCount names name n → m ≡ n
count_one names name m n a b =
    let up = sum_within (functions_in names) a.found b.found (distinct_once a.found a.all.once) (λ (q : List ℕ) (c : Contains a.found q). (b.all.exact q).1
    ((a.all.exact q).0 c)) in
    let down = sum_within (functions_in names) b.found a.found (distinct_once b.found b.all.once) (λ (q : List ℕ) (c : Contains b.found q). (a.all.exact q).1
    ((b.all.exact q).0 c)) in
    omega (arith, up, down, a.steps_are, b.steps_are)
