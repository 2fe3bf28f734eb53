-- The lines of a list of bytes, from the left.
use Rattle.std.{proofs.Common.{◌≡◌, ℕ, zero, suc, ◌+◌, ◌-◌, ◌<◌, ◌≤◌, min, Bool, true, false, cond, eqb, List, [], ◌∷◌, ◌++◌, length, take, get_or, refl, sym, ap, ◌∙◌, arith, ⊎_elim}, specs.Prelude.{◌==◌, ◌&&◌, Result, is_ok}, specs.Result.{IsOk}, proofs.lemmas.Bool.{and_parts, eqb-true, cases_lt, cond_both}}
use Rattle.std.{proofs.lemmas.List.{take_all, take_more, length-take}, proofs.Math.Seq.{take-append-add}}
use Rattle.sheet_cli.{specs.Lines.{strip_bom, onto_first, ended_lines, onto_last, last_line, line_if_any, lines_of, longest_line}, specs.Progress.{most_kept, first_stripped, line_after}}

-- the line after these, without a byte order mark if it is the first
unfoldable pub next_stripped : List (List ℕ) → List ℕ → List ℕ
next_stripped [] line = strip_bom line
next_stripped (first ∷ lines) line = line

-- an LF ends the last line
pub ended_lines-lf : (xs : List ℕ) → ended_lines (xs ++ 10 ∷ []) ≡ ended_lines xs ++ last_line xs ∷ []
unfolding ended_lines last_line
ended_lines-lf [] = refl
ended_lines-lf (x ∷ xs) = rw (ended_lines-lf xs) (by_cases (eqb x 10) (ended_lines xs) (last_line xs))
  where
    by_cases : (b : Bool) (ls : List (List ℕ)) (l : List ℕ) → cond b ([] ∷ (ls ++ l ∷ [])) (onto_first x (ls ++ l ∷ [])) ≡ cond b ([] ∷ ls) (onto_first x ls) ++ cond b l (onto_last x ls l) ∷ []
    by_cases true ls l = refl
    by_cases false [] l = refl
    by_cases false (k ∷ ls) l = refl

pub last_line-lf : (xs : List ℕ) → last_line (xs ++ 10 ∷ []) ≡ []
unfolding ended_lines last_line
last_line-lf [] = refl
last_line-lf (x ∷ xs) = rw (ended_lines-lf xs, last_line-lf xs) (by_cases (eqb x 10) (ended_lines xs) (last_line xs))
  where
    by_cases : (b : Bool) (ls : List (List ℕ)) (l : List ℕ) → cond b [] (onto_last x (ls ++ l ∷ []) []) ≡ []
    by_cases true ls l = refl
    by_cases false [] l = refl
    by_cases false (k ∷ ls) l = refl

-- any other byte extends the last line
pub ended_lines-push : (xs : List ℕ) (y : ℕ) → eqb y 10 ≡ false → ended_lines (xs ++ y ∷ []) ≡ ended_lines xs
unfolding ended_lines last_line
ended_lines-push [] y h = rw h refl
ended_lines-push (x ∷ xs) y h = rw (ended_lines-push xs y h) refl

-- a byte order mark at the start is in the first line, ended or not
first_kept : (a b c : ℕ) (l₀ l₁ l₂ m : List (List ℕ)) (ta tb tc : Bool) → ((a == 239) && (b == 187) && (c == 191)) ≡ false →
    let ls : List (List ℕ) = cond ta ([] ∷ l₀) (onto_first a (cond tb ([] ∷ l₁) (onto_first b (cond tc ([] ∷ l₂) (onto_first c m))))) in first_stripped ls ≡ ls
unfolding first_stripped strip_bom
first_kept a b c l₀ l₁ l₂ m true tb tc h = refl
first_kept a b c l₀ l₁ l₂ m false true tc h = refl
first_kept a b c l₀ l₁ l₂ m false false true h = refl
first_kept a b c l₀ l₁ l₂ [] false false false h = refl
first_kept a b c l₀ l₁ l₂ (l ∷ ls) false false false h = rw h refl

kept_one : (a : ℕ) (ta : Bool) → let ls : List (List ℕ) = cond ta ([] ∷ []) [] in ls ≡ first_stripped ls
unfolding first_stripped strip_bom
kept_one a true = refl
kept_one a false = refl

kept_two : (a b : ℕ) (ta tb : Bool) → let ls : List (List ℕ) = cond ta ([] ∷ cond tb ([] ∷ []) []) (onto_first a (cond tb ([] ∷ []) [])) in ls ≡ first_stripped ls
unfolding first_stripped strip_bom
kept_two a b true tb = refl
kept_two a b false true = refl
kept_two a b false false = refl

marked : (m : List (List ℕ)) → m ≡ first_stripped (onto_first 239 (onto_first 187 (onto_first 191 m)))
unfolding first_stripped strip_bom
marked [] = refl
marked (l ∷ ls) = refl

is_mark : (a b c : ℕ) → ((a == 239) && (b == 187) && (c == 191)) ≡ true → (a ≡ 239) × (b ≡ 187) × (c ≡ 191)
is_mark a b c h =
    let both = and_parts ((a == 239) && (b == 187)) (c == 191) h in
    let first = and_parts (a == 239) (b == 187) both.0 in
    (eqb-true a 239 first.0, eqb-true b 187 first.1, eqb-true c 191 both.1)

pub ended_lines-bom : (xs : List ℕ) → ended_lines (strip_bom xs) ≡ first_stripped (ended_lines xs)
unfolding strip_bom ended_lines
ended_lines-bom [] = unfold first_stripped in refl
ended_lines-bom (a ∷ []) = kept_one a (a == 10)
ended_lines-bom (a ∷ b ∷ []) = kept_two a b (a == 10) (b == 10)
ended_lines-bom (a ∷ b ∷ c ∷ rest) = by_test ((a == 239) && (b == 187) && (c == 191)) refl
  where
    by_test : (t : Bool) → ((a == 239) && (b == 187) && (c == 191)) ≡ t → ended_lines (strip_bom (a ∷ b ∷ c ∷ rest)) ≡ first_stripped (ended_lines (a ∷ b ∷ c ∷ rest))
    by_test true h =
        let m = is_mark a b c h in
        rw h (rw (m.0, m.1, m.2) (marked (ended_lines rest)))
    by_test false h = rw h (sym (first_kept a b c _ _ _ (ended_lines rest) (a == 10) (b == 10) (c == 10) h))

-- the same for the bytes after the last LF
unmarked : (a b c : ℕ) (l₀ l₁ l₂ m : List (List ℕ)) (last : List ℕ) (ta tb tc : Bool) → ((a == 239) && (b == 187) && (c == 191)) ≡ false →
    let ls₂ : List (List ℕ) = cond tc ([] ∷ m) (onto_first c m) in
    let ls₁ : List (List ℕ) = cond tb ([] ∷ ls₂) (onto_first b ls₂) in
    let ls : List (List ℕ) = cond ta ([] ∷ ls₁) (onto_first a ls₁) in
    let end : List ℕ = cond ta (cond tb (cond tc last (onto_last c m last)) (onto_last b ls₂ (cond tc last (onto_last c m last)))) (onto_last a ls₁ (cond tb (cond tc last (onto_last c m last)) (onto_last b ls₂ (cond tc last (onto_last c m last))))) in
    next_stripped ls end ≡ end
unfolding next_stripped strip_bom
unmarked a b c l₀ l₁ l₂ m last true tb tc h = refl
unmarked a b c l₀ l₁ l₂ m last false true tc h = refl
unmarked a b c l₀ l₁ l₂ m last false false true h = refl
unmarked a b c l₀ l₁ l₂ [] last false false false h = rw h refl
unmarked a b c l₀ l₁ l₂ (l ∷ ls) last false false false h = refl

marked_last : (m : List (List ℕ)) (last : List ℕ) → last ≡ next_stripped (onto_first 239 (onto_first 187 (onto_first 191 m))) (onto_last 239 (onto_first 187 (onto_first 191 m)) (onto_last 187 (onto_first 191 m) (onto_last 191 m last)))
unfolding next_stripped strip_bom
marked_last [] last = refl
marked_last (l ∷ ls) last = refl

last_one : (a : ℕ) (ta : Bool) → let end : List ℕ = cond ta [] (a ∷ []) in end ≡ next_stripped (cond ta ([] ∷ []) []) end
unfolding next_stripped strip_bom
last_one a true = refl
last_one a false = refl

last_two : (a b : ℕ) (ta tb : Bool) →
    let ls : List (List ℕ) = cond tb ([] ∷ []) [] in
    let end : List ℕ = cond tb [] (b ∷ []) in
    let all : List ℕ = cond ta end (onto_last a ls end) in
    all ≡ next_stripped (cond ta ([] ∷ ls) (onto_first a ls)) all
unfolding next_stripped strip_bom
last_two a b true tb = refl
last_two a b false true = refl
last_two a b false false = refl

pub last_line-bom : (xs : List ℕ) → last_line (strip_bom xs) ≡ next_stripped (ended_lines xs) (last_line xs)
unfolding strip_bom ended_lines last_line
last_line-bom [] = unfold next_stripped in refl
last_line-bom (a ∷ []) = last_one a (a == 10)
last_line-bom (a ∷ b ∷ []) = last_two a b (a == 10) (b == 10)
last_line-bom (a ∷ b ∷ c ∷ rest) = by_test ((a == 239) && (b == 187) && (c == 191)) refl
  where
    by_test : (t : Bool) → ((a == 239) && (b == 187) && (c == 191)) ≡ t → last_line (strip_bom (a ∷ b ∷ c ∷ rest)) ≡ next_stripped (ended_lines (a ∷ b ∷ c ∷ rest)) (last_line (a ∷ b ∷ c ∷ rest))
    by_test true h =
        let m = is_mark a b c h in
        rw h (rw (m.0, m.1, m.2) (marked_last (ended_lines rest) (last_line rest)))
    by_test false h = rw h (sym (unmarked a b c [] [] [] (ended_lines rest) (last_line rest) (a == 10) (b == 10) (c == 10) h))

-- one more line
pub first_stripped-push : (ls : List (List ℕ)) (l : List ℕ) → first_stripped (ls ++ l ∷ []) ≡ first_stripped ls ++ next_stripped ls l ∷ []
unfolding first_stripped next_stripped
first_stripped-push [] l = refl
first_stripped-push (k ∷ ls) l = refl

-- bytes without an LF are a last line
last_line-none : (ys : List ℕ) → ended_lines ys ≡ [] → last_line ys ≡ ys
unfolding ended_lines last_line
last_line-none [] h = refl
last_line-none (y ∷ ys) h = by_cases (eqb y 10) (ended_lines ys) (last_line ys) (λ e. last_line-none ys e) h
  where
    by_cases : (b : Bool) (ls : List (List ℕ)) (last : List ℕ) → (ls ≡ [] → last ≡ ys) → cond b ([] ∷ ls) (onto_first y ls) ≡ [] → cond b last (onto_last y ls last) ≡ y ∷ ys
    by_cases true ls last same h = absurd (omega (arith, ap length h))
    by_cases false [] last same h = ap (λ (t : List ℕ). y ∷ t) (same refl)
    by_cases false (l ∷ ls) last same h = absurd (omega (arith, ap length h))

-- after other bytes they extend the last line
pub ended_lines-piece : (xs ys : List ℕ) → ended_lines ys ≡ [] → ended_lines (xs ++ ys) ≡ ended_lines xs
unfolding ended_lines
ended_lines-piece [] ys h = h
ended_lines-piece (x ∷ xs) ys h = rw (ended_lines-piece xs ys h) refl

pub last_line-piece : (xs ys : List ℕ) → ended_lines ys ≡ [] → last_line (xs ++ ys) ≡ last_line xs ++ ys
unfolding ended_lines last_line
last_line-piece [] ys h = last_line-none ys h
last_line-piece (x ∷ xs) ys h = rw (ended_lines-piece xs ys h, last_line-piece xs ys h) (by_cases (eqb x 10) (ended_lines xs) (last_line xs))
  where
    by_cases : (b : Bool) (ls : List (List ℕ)) (l : List ℕ) → cond b (l ++ ys) (onto_last x ls (l ++ ys)) ≡ cond b l (onto_last x ls l) ++ ys
    by_cases true ls l = refl
    by_cases false [] l = refl
    by_cases false (k ∷ ls) l = refl

pub take-piece : (n : ℕ) (xs ys : List ℕ) → take n (take n xs ++ ys) ≡ take n (xs ++ ys)
take-piece zero xs ys = refl
take-piece (suc n) [] ys = refl
take-piece (suc n) (x ∷ xs) ys = ap (λ (t : List ℕ). x ∷ t) (take-piece n xs ys)

take_min : (m : ℕ) (ys : List ℕ) → take (min m (length ys)) ys ≡ take m ys
take_min m ys = ⊎_elim short long (cases_lt (length ys) m)
  where
    short : length ys < m → take (min m (length ys)) ys ≡ take m ys
    short h = let e : min m (length ys) ≡ length ys = omega arith in rw e (take_all (length ys) ys (omega arith) ∙ sym (take_all m ys (omega arith)))

    long : m ≤ length ys → take (min m (length ys)) ys ≡ take m ys
    long h = let e : min m (length ys) ≡ m = omega arith in rw e refl

-- the kept bytes with as many more as there is room for
pub take-room : (n room : ℕ) (xs ys : List ℕ) → length xs ≤ n → room ≡ min (n - length xs) (length ys) → xs ++ take room ys ≡ take n (xs ++ ys)
take-room n room xs ys h e =
    let whole : n ≡ length xs + (n - length xs) = omega arith in
    rw e (rw (take_min (n - length xs) ys) (sym (take-append-add xs ys (n - length xs)) ∙ ap (λ (m : ℕ). take m (xs ++ ys)) (sym whole)))

-- more bytes add lines at the end
pub ended_lines-append : (xs ys : List ℕ) → (more : List (List ℕ)) × (ended_lines (xs ++ ys) ≡ ended_lines xs ++ more)
unfolding ended_lines
ended_lines-append [] ys = (ended_lines ys, refl)
ended_lines-append (x ∷ xs) ys = let rest = ended_lines-append xs ys in by_cases (x == 10) (ended_lines xs) rest.0 (ended_lines (xs ++ ys)) rest.1
  where
    by_cases : (t : Bool) (ls more all : List (List ℕ)) → all ≡ ls ++ more → (more' : List (List ℕ)) × (cond t ([] ∷ all) (onto_first x all) ≡ cond t ([] ∷ ls) (onto_first x ls) ++ more')
    by_cases true ls more all e = (more, rw e refl)
    by_cases false [] more all e = (onto_first x more, rw e refl)
    by_cases false (l ∷ ls) more all e = (more, rw e refl)

pub first_stripped-append : (ls more : List (List ℕ)) → 0 < length ls → first_stripped (ls ++ more) ≡ first_stripped ls ++ more
unfolding first_stripped
first_stripped-append [] more h = absurd (omega arith)
first_stripped-append (l ∷ ls) more h = refl

pub length-first_stripped : (ls : List (List ℕ)) → length (first_stripped ls) ≡ length ls
unfolding first_stripped
length-first_stripped [] = refl
length-first_stripped (l ∷ ls) = refl

-- the line that is answered
line_after-is : (n : ℕ) (ls : List (List ℕ)) (x : List ℕ) → n ≡ length ls → line_after n x ≡ next_stripped ls x
unfolding next_stripped
line_after-is n [] x e = rw e refl
line_after-is n (l ∷ ls) x e = rw e refl

bom_short : (xs : List ℕ) → length xs ≤ length (strip_bom xs) + 3
unfolding strip_bom
bom_short [] = omega arith
bom_short (a ∷ []) = omega arith
bom_short (a ∷ b ∷ []) = omega arith
bom_short (a ∷ b ∷ c ∷ rest) = cond_both ((a == 239) && (b == 187) && (c == 191)) rest (a ∷ b ∷ c ∷ rest) (λ (x : List ℕ). length (a ∷ b ∷ c ∷ rest) ≤ length x + 3) (λ e. omega arith) (λ e. omega arith)

pub long_enough : (ls : List (List ℕ)) (x : List ℕ) → most_kept ≤ length x → longest_line + 2 ≤ length (next_stripped ls x)
unfolding next_stripped
long_enough [] x h = omega (arith, bom_short x)
long_enough (k ∷ ks) x h = omega arith

-- the kept part of a line is empty if and only if the line is
pub kept_empty : (ls : List (List ℕ)) (x : List ℕ) → (length (next_stripped ls (take most_kept x)) ≡ 0 → length (next_stripped ls x) ≡ 0) × (0 < length (next_stripped ls (take most_kept x)) → 0 < length (next_stripped ls x))
kept_empty ls x = ⊎_elim whole cut (cases_lt most_kept (length x))
  where
    whole : most_kept < length x → (length (next_stripped ls (take most_kept x)) ≡ 0 → length (next_stripped ls x) ≡ 0) × (0 < length (next_stripped ls (take most_kept x)) → 0 < length (next_stripped ls x))
    whole h = let long = long_enough ls (take most_kept x) (rw length-take (omega arith)) in let long' = long_enough ls x (omega arith) in (λ e. omega (arith, long), λ e. omega (arith, long'))

    cut : length x ≤ most_kept → (length (next_stripped ls (take most_kept x)) ≡ 0 → length (next_stripped ls x) ≡ 0) × (0 < length (next_stripped ls (take most_kept x)) → 0 < length (next_stripped ls x))
    cut h = rw (take_all most_kept x h) ((λ e. e), (λ e. e))

pub line_if_any-none : (x : List ℕ) → length x ≡ 0 → line_if_any x ≡ []
line_if_any-none [] h = refl
line_if_any-none (b ∷ bs) h = absurd (omega arith)

pub line_if_any-some : (x : List ℕ) → 0 < length x → line_if_any x ≡ x ∷ []
line_if_any-some [] h = absurd (omega arith)
line_if_any-some (b ∷ bs) h = refl

pub lines_of-is : (input : List ℕ) → lines_of input ≡ first_stripped (ended_lines input) ++ line_if_any (next_stripped (ended_lines input) (last_line input))
unfolding lines_of
lines_of-is input = rw (ended_lines-bom input, last_line-bom input) refl

pub kept_line : (kept input : List ℕ) (lines : ℕ) → kept ≡ take most_kept (last_line input) → lines ≡ length (ended_lines input) → line_after lines kept ≡ next_stripped (ended_lines input) (take most_kept (last_line input))
kept_line kept input lines k n = line_after-is lines (ended_lines input) kept n ∙ ap (λ (x : List ℕ). next_stripped (ended_lines input) x) k

-- a byte other than LF extends a piece without LF
pub ended_lines-step : (bytes : List ℕ) (i : ℕ) → i < length bytes → eqb (get_or bytes i 0) 10 ≡ false → ended_lines (take i bytes) ≡ [] → ended_lines (take (i + 1) bytes) ≡ []
ended_lines-step bytes i h n e = rw (take_more bytes i 0 h) (ended_lines-push (take i bytes) (get_or bytes i 0) n ∙ e)

-- the bytes before the first LF, and the bytes up to and with it
pub take-lf : (bytes : List ℕ) (i : ℕ) → i < length bytes → get_or bytes i 0 ≡ 10 → take (i + 1) bytes ≡ take i bytes ++ 10 ∷ []
take-lf bytes i h e = take_more bytes i 0 h ∙ rw e refl

pub appended : {T E : Type 0} (r : Result T E) (old more new : List ℕ) → IsOk r → new ≡ cond (is_ok r) (old ++ more) old → new ≡ old ++ more
appended r old more new h e = rw h at e
