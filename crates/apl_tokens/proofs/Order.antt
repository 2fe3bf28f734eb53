-- The tokens of a text are in the order of their spans.
use Rattle.std.{proofs.Common.{◌≡◌, ℕ, ◌+◌, ◌<◌, ◌≤◌, List, [], ◌∷◌, ◌++◌, length, Ok, Err, refl, subst, arith, Bool}, specs.Prelude.{encode_utf8_all}, specs.Char.{is_ascii_digit, len_utf8}, proofs.lemmas.Str.{len_utf8_bounds}}
use Rattle.apl_tokens.{specs.Characters.{doubled, quoted}, specs.Scans.{SpannedLexeme, with_front, IsRun, stop, more, IsNumber, plain, minus, Scans, done, comment, blank, sign, text, number, word, strange, open_text, lone_minus, joined, too_great, too_long}, specs.Order.{InOrder}}
use Rattle.apl_tokens.proofs.Sound.{Found, digit_len, width, width_cons, width_append}

run_bytes : {p : ℕ → Bool} {xs cs us : List ℕ} → IsRun p xs cs us → width cs ≡ width xs + width us
unfolding width
run_bytes (stop e) = omega arith
run_bytes (more {c = c} {xs = xs} {cs = cs} is r) = let rest = run_bytes r in let p = width_cons c xs in let q = width_cons c cs in omega arith

digits_bytes : {xs cs us : List ℕ} → IsRun is_ascii_digit xs cs us → width xs ≡ length xs
unfolding width
digits_bytes (stop e) = refl
digits_bytes (more {c = c} {xs = xs} is r) = let rest = digits_bytes r in let p = width_cons c xs in let one = digit_len c is in omega arith

number_bytes : {cs ds us : List ℕ} {is_negative : Bool} {size : ℕ} → IsNumber cs is_negative ds size us → (width cs ≡ size + width us) × (0 < size)
number_bytes (plain {d = d} {ds = ds} {cs = cs} is r) =
    let one = digit_len d is in let p = width_cons d cs in let q = run_bytes r in let e = digits_bytes r in (omega arith, omega arith)
number_bytes (minus {d = d} {ds = ds} {cs = cs} is r) =
    let one = digit_len d is in let m = width_cons 0xaf (d ∷ cs) in let p = width_cons d cs in let q = run_bytes r in let e = digits_bytes r in (omega arith, omega arith)

-- a token in front of the others
front : (m n : ℕ) (t : SpannedLexeme) (r : Found) (ts : List SpannedLexeme) → t.start ≡ m → m < t.end → with_front (t ∷ []) r ≡ Ok ts → ((us : List SpannedLexeme) → r ≡ Ok us → InOrder t.end us n) → InOrder m ts n
front m n t (Ok us) ts starts ends is rest =
    let same : t ∷ us ≡ ts = cc in
    subst (λ (xs : List SpannedLexeme). InOrder m xs n) same (omega arith, omega arith, rest us refl)
front m n t (Err f) ts starts ends is rest = let no : ⊥ = cc in absurd no

none : (m n : ℕ) (r : Found) (ts : List SpannedLexeme) → r ≡ Ok [] → r ≡ Ok ts → m ≤ n → InOrder m ts n
none m n r ts nil is here = let same : [] ≡ ts = cc in subst (λ (xs : List SpannedLexeme). InOrder m xs n) same here

later : (m k n : ℕ) (ts : List SpannedLexeme) → m ≤ k → InOrder k ts n → InOrder m ts n
later m k n [] before rest = omega arith
later m k n (t ∷ ts) before rest = (omega arith, rest.1, rest.2)

in_order_to : {m : ℕ} {cs : List ℕ} {r : Found} → Scans m cs r → (n : ℕ) → n ≡ m + width cs → (ts : List SpannedLexeme) → r ≡ Ok ts → InOrder m ts n
unfolding width
in_order_to (done {n = m}) n is ts h = none m n _ ts refl h (omega arith)
in_order_to (comment {n = m} {cs = cs}) n is ts h = none m n _ ts refl h (omega arith)
in_order_to (blank {n = m} {c = c} {cs = cs} b s) n is ts h =
    let p = width_cons c cs in
    later m (m + len_utf8 c) n ts (omega arith) (in_order_to s n (omega arith) ts h)
in_order_to (sign {n = m} {c = c} {cs = cs} {r = r} b s) n is ts h =
    let p = width_cons c cs in
    let some = len_utf8_bounds c in
    front m n _ r ts refl (omega arith) h (λ us is_r. in_order_to s n (omega arith) us is_r)
in_order_to (text {n = m} {us = us} {r = r} xs e s) n is ts h =
    let p : width (quoted xs ++ us) ≡ width (quoted xs) + width us = width_append (quoted xs) us in
    let some = width_cons 0x27 (doubled xs ++ 0x27 ∷ []) in
    front m n _ r ts refl (omega arith) h (λ vs is_r. in_order_to s n (omega arith) vs is_r)
in_order_to (number {n = m} {size = size} {us = us} {r = r} d e f s) n is ts h =
    let p = number_bytes d in
    front m n _ r ts refl (omega arith) h (λ vs is_r. in_order_to s n (omega arith) vs is_r)
in_order_to (word {n = m} {c = c} {cs = cs} {xs = xs} {us = us} {r = r} l run f s) n is ts h =
    let some = len_utf8_bounds c in
    let p = width_cons c cs in
    let whole : length (encode_utf8_all (c ∷ xs)) ≡ len_utf8 c + width xs = width_cons c xs in
    let rest = run_bytes run in
    front m n _ r ts refl (omega arith) h (λ vs is_r. in_order_to s n (omega arith) vs is_r)
in_order_to (strange a b c d e f g) n is ts h = let no : ⊥ = cc in absurd no
in_order_to (open_text xs) n is ts h = let no : ⊥ = cc in absurd no
in_order_to (lone_minus e) n is ts h = let no : ⊥ = cc in absurd no
in_order_to (joined a b) n is ts h = let no : ⊥ = cc in absurd no
in_order_to (too_great a b c) n is ts h = let no : ⊥ = cc in absurd no
in_order_to (too_long a b c) n is ts h = let no : ⊥ = cc in absurd no

pub in_order : (cs : List ℕ) (ts : List SpannedLexeme) → Scans 0 cs (Ok ts) → InOrder 0 ts (length (encode_utf8_all cs))
unfolding width
in_order cs ts s = in_order_to s (length (encode_utf8_all cs)) (omega arith) ts refl
