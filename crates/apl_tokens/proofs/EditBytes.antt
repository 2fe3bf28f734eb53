-- The lexemes at the front of the bytes of an edit.
use Rattle.std.{proofs.Common.{◌≡◌, ℕ, ◌+◌, ◌<◌, ◌≤◌, List, [], ◌∷◌, ◌++◌, length, refl, sym, ap, ◌∙◌, subst, append_assoc, arith, Bool, true, false, lit<, lit≤}, specs.Prelude.{ℤ, codes, Some, slice_get, ◌==◌, ◌||◌, ◌&&◌, encode_utf8_all, Ok}, specs.Char.{is_ascii_digit, is_ascii_alphabetic, len_utf8}}
use Rattle.std.{specs.List.{list_all}, specs.Str.{chars, IsAscii, IsUtf8}, proofs.lemmas.Str.{chars-append, chars_from_encodes, chars-nil, IsUtf8-from_ascii}, proofs.lemmas.Str.Ascii.{encodes-IsAscii, IsAscii-nil, IsAscii-cons}, proofs.lemmas.List.{append-nil}}
use Rattle.names.{specs.Limits.{longest_name}, specs.Signs.{delta, delta_underbar}, specs.Characters.{is_letter, is_name_part}}
use Rattle.apl_tokens.{specs.Signs.{space, right_parenthesis, high_minus, left_arrow, left_bracket, right_bracket, semicolon}, specs.Lexemes.{Lexeme, Number, Named, Sign}, specs.Characters.{joins_number, sign_of, decimal_from, signed, fits_number}}
use Rattle.apl_tokens.{specs.Scans.{spanned, Ends, IsRun, stop, more, IsNumber, plain, minus, Scans, done, blank, sign, number, word}, specs.NumberEdits.{Says, position_lexemes, edit_lexemes, number_lexemes, row_lexemes}, specs.Reading.{ReadsBefore, Reads, EndsNumber, EndsName, minus_bytes, GoesOn}}

-- the positions, each with `;` after it
abbrev pub open_positions : List ℤ → List Lexeme
open_positions [] = []
open_positions (p ∷ ps) = Number p ∷ Sign semicolon ∷ open_positions ps

-- bytes of ASCII are characters
ascii_front : (xs us : List ℕ) → IsAscii xs → chars (xs ++ us) ≡ xs ++ chars us
ascii_front xs us ascii =
    let utf8 : IsUtf8 xs = IsUtf8-from_ascii xs ascii in
    chars-append xs us utf8 ∙ ap (λ (ys : List ℕ). ys ++ chars us) (sym (chars_from_encodes xs xs utf8 (encodes-IsAscii xs ascii)))

ascii_next : (b : ℕ) (bs : List ℕ) → b < 128 → chars (b ∷ bs) ≡ b ∷ chars bs
ascii_next b bs small = ascii_front (b ∷ []) bs (IsAscii-cons b [] small IsAscii-nil)

-- two bytes are a high minus, and three an arrow
minus_next : (bs : List ℕ) → chars (0xc2 ∷ 0xaf ∷ bs) ≡ high_minus ∷ chars bs
unfolding chars
minus_next [] = refl
minus_next (b ∷ bs) = refl

arrow_next : (bs : List ℕ) → chars (0xe2 ∷ 0x86 ∷ 0x90 ∷ bs) ≡ left_arrow ∷ chars bs
unfolding chars
arrow_next [] = refl
arrow_next (b ∷ bs) = refl

-- the bytes of a run pass the test, and the rest does not continue it
first_passes : (p q : Bool) → (p && q) ≡ true → p ≡ true
first_passes true q both = refl
first_passes false q both = cc

others_pass : (p q : Bool) → (p && q) ≡ true → q ≡ true
others_pass true q both = both
others_pass false q both = cc

is_run : (p : ℕ → Bool) (xs us : List ℕ) → list_all p xs ≡ true → Ends p us → IsRun p xs (xs ++ us) us
is_run p [] us all ends = stop ends
is_run p (x ∷ xs) us all ends = more (first_passes (p x) (list_all p xs) all) (is_run p xs us (others_pass (p x) (list_all p xs) all) ends)

-- a sign
reads_sign : (bs us : List ℕ) (c m : ℕ) → chars bs ≡ c ∷ chars us → sign_of c ≡ Some m → Reads bs us (Sign m ∷ [])
reads_sign bs us c m is known = record {
  reads = λ n. (
    n + len_utf8 c,
    λ ts ends says. (
      spanned (Sign m) n (n + len_utf8 c) ∷ says.0,
      subst (λ (cs : List ℕ). Scans n cs (Ok (spanned (Sign m) n (n + len_utf8 c) ∷ says.0))) (sym is) (sign known says.1),
      ap (λ (ls : List Lexeme). Sign m ∷ ls) says.2,
    ),
  );
}

pub reads_arrow : (us : List ℕ) → Reads (0xe2 ∷ 0x86 ∷ 0x90 ∷ us) us (Sign left_arrow ∷ [])
unfolding sign_of
reads_arrow us = reads_sign (0xe2 ∷ 0x86 ∷ 0x90 ∷ us) us left_arrow left_arrow (arrow_next us) refl

-- a name
pub reads_name : (c : ℕ) (xs us : List ℕ) → is_letter c ≡ true → list_all is_name_part xs ≡ true → IsAscii (c ∷ xs) → length (c ∷ xs) ≤ longest_name → ReadsBefore EndsName ((c ∷ xs) ++ us) us (Named (c ∷ xs) ∷ [])
reads_name c xs us letter parts ascii short = record {
  reads = λ n. (
    n + length (encode_utf8_all (c ∷ xs)),
    λ ts ends says. (
      spanned (Named (encode_utf8_all (c ∷ xs))) n (n + length (encode_utf8_all (c ∷ xs))) ∷ says.0,
      subst (λ (cs : List ℕ). Scans n cs (Ok (spanned (Named (encode_utf8_all (c ∷ xs))) n (n + length (encode_utf8_all (c ∷ xs))) ∷ says.0))) (sym (ascii_front (c ∷ xs) us ascii))
          (word letter (is_run is_name_part xs (chars us) parts ends) (subst (λ (bs : List ℕ). length bs ≤ longest_name) (sym (encodes-IsAscii (c ∷ xs) ascii)) short) says.1),
      ap (λ (ls : List Lexeme). Named (encode_utf8_all (c ∷ xs)) ∷ ls) says.2 ∙ ap (λ (bs : List ℕ). Named bs ∷ ts) (encodes-IsAscii (c ∷ xs) ascii),
    ),
  );
}

-- a number
number_size : Bool → List ℕ → ℕ
number_size false ds = 1 + length ds
number_size true ds = 3 + length ds

is_number : (is_negative : Bool) (d : ℕ) (ds us : List ℕ) → list_all is_ascii_digit (d ∷ ds) ≡ true → IsAscii (d ∷ ds) → Ends is_ascii_digit (chars us) → IsNumber (chars (minus_bytes is_negative ++ ((d ∷ ds) ++ us))) is_negative (d ∷ ds) (number_size is_negative ds) (chars us)
unfolding number_size
is_number false d ds us digits ascii ends =
    subst (λ (cs : List ℕ). IsNumber cs false (d ∷ ds) (1 + length ds) (chars us)) (sym (ascii_front (d ∷ ds) us ascii))
    (plain (first_passes (is_ascii_digit d) (list_all is_ascii_digit ds) digits) (is_run is_ascii_digit ds (chars us) (others_pass (is_ascii_digit d) (list_all is_ascii_digit ds) digits) ends))
is_number true d ds us digits ascii ends =
    subst (λ (cs : List ℕ). IsNumber cs true (d ∷ ds) (3 + length ds) (chars us)) (sym (minus_next ((d ∷ ds) ++ us) ∙ ap (λ (cs : List ℕ). high_minus ∷ cs) (ascii_front (d ∷ ds) us ascii)))
    (minus (first_passes (is_ascii_digit d) (list_all is_ascii_digit ds) digits) (is_run is_ascii_digit ds (chars us) (others_pass (is_ascii_digit d) (list_all is_ascii_digit ds) digits) ends))

pub reads_number : (is_negative : Bool) (k : ℤ) (d : ℕ) (ds us : List ℕ) → list_all is_ascii_digit (d ∷ ds) ≡ true → IsAscii (d ∷ ds) → fits_number is_negative (decimal_from 0 (d ∷ ds)) ≡ true → k ≡ signed is_negative (decimal_from 0 (d ∷ ds)) → ReadsBefore EndsNumber (minus_bytes is_negative ++ ((d ∷ ds) ++ us)) us (Number k ∷ [])
reads_number is_negative k d ds us digits ascii fits is = record {
  reads = λ n. (
    n + number_size is_negative ds,
    λ ts ends says. (
      spanned (Number (signed is_negative (decimal_from 0 (d ∷ ds)))) n (n + number_size is_negative ds) ∷ says.0,
      number (is_number is_negative d ds us digits ascii ends.0) ends.1 fits says.1,
      ap (λ (ls : List Lexeme). Number (signed is_negative (decimal_from 0 (d ∷ ds))) ∷ ls) says.2 ∙ ap (λ (j : ℤ). Number j ∷ ts) (sym is),
    ),
  );
}

-- two parts in sequence
both_read : (C D : List ℕ → Type 0) (bs us vs : List ℕ) (ls ks : List Lexeme) → ReadsBefore C bs us ls → C (chars us) → ReadsBefore D us vs ks → ReadsBefore D bs vs (ls ++ ks)
both_read C D bs us vs ls ks f met g = record {
  reads = λ n. (
    (g.reads ((f.reads n).0)).0,
    λ ts ends says.
        subst (λ (ms : List Lexeme). Says n (chars bs) ms) (sym (append_assoc ls ks ts)) ((f.reads n).1 (ks ++ ts) met ((g.reads ((f.reads n).0)).1 ts ends says)),
  );
}

-- a sign of one byte
byte_sign : (us vs : List ℕ) (c : ℕ) → us ≡ c ∷ vs → c < 128 → sign_of c ≡ Some c → Reads us vs (Sign c ∷ [])
byte_sign us vs c is small known = reads_sign us vs c c (ap chars is ∙ ascii_next c vs small) known

pub name_and_bracket : (name bs us vs : List ℕ) → ReadsBefore EndsName bs us (Named name ∷ []) → us ≡ left_bracket ∷ vs → Reads bs vs (Named name ∷ Sign left_bracket ∷ [])
unfolding sign_of
name_and_bracket name bs us vs reads is =
    both_read EndsName (λ cs. Unit {0}) bs us vs (Named name ∷ []) (Sign left_bracket ∷ []) reads (subst (λ (cs : List ℕ). EndsName cs) (sym (ap chars is ∙ ascii_next left_bracket vs (lit< tt))) refl)
    (byte_sign us vs left_bracket is (lit< tt) refl)

-- the name at the front: its first letter may begin a name
pub letters_read : (name letters rest text vs : List ℕ) (first end : ℕ) → text ≡ letters ++ rest → rest ≡ end ∷ vs → Some first ≡ slice_get letters 0 → is_ascii_alphabetic first ≡ true → list_all is_name_part letters ≡ true → IsAscii letters → name ≡ letters → length letters ≤ longest_name → ReadsBefore EndsName text (end ∷ vs) (Named name ∷ [])
letters_read name [] rest text vs first end whole bracket is letter parts ascii same short = cc
letters_read name (c ∷ xs) rest text vs first end whole bracket is letter parts ascii same short =
    let begins : first ≡ c = cc in
    let starts : is_letter c ≡ true = ap (λ (b : Bool). b || (c == delta) || (c == delta_underbar)) (ap is_ascii_alphabetic (sym begins) ∙ letter) in
    subst (λ (bs : List ℕ). ReadsBefore EndsName bs (end ∷ vs) (Named name ∷ [])) (sym whole)
    (subst (λ (us : List ℕ). ReadsBefore EndsName ((c ∷ xs) ++ rest) us (Named name ∷ [])) bracket
    (subst (λ (n : List ℕ). ReadsBefore EndsName ((c ∷ xs) ++ rest) rest (Named n ∷ [])) (sym same)
    (reads_name c xs rest starts (others_pass (is_name_part c) (list_all is_name_part xs) parts) ascii short)))

-- the number at the front
pub digits_read : (is_negative : Bool) (k : ℤ) (digits rest text : List ℕ) → text ≡ digits ++ rest → (length digits ≡ 0 → ⊥) → list_all is_ascii_digit digits ≡ true → IsAscii digits → fits_number is_negative (decimal_from 0 digits) ≡ true → k ≡ signed is_negative (decimal_from 0 digits) → ReadsBefore EndsNumber (minus_bytes is_negative ++ text) rest (Number k ∷ [])
digits_read is_negative k [] rest text whole some all ascii fits is = absurd (some refl)
digits_read is_negative k (d ∷ ds) rest text whole some all ascii fits is =
    subst (λ (bs : List ℕ). ReadsBefore EndsNumber (minus_bytes is_negative ++ bs) rest (Number k ∷ [])) (sym whole) (reads_number is_negative k d ds rest all ascii fits is)

number_and_sign : (k : ℤ) (bs us vs : List ℕ) (c : ℕ) → ReadsBefore EndsNumber bs us (Number k ∷ []) → us ≡ c ∷ vs → c < 128 → sign_of c ≡ Some c → is_ascii_digit c ≡ false → joins_number c ≡ false → Reads bs vs (Number k ∷ Sign c ∷ [])
number_and_sign k bs us vs c reads is small known digit joins =
    both_read EndsNumber (λ cs. Unit {0}) bs us vs (Number k ∷ []) (Sign c ∷ []) reads (subst (λ (cs : List ℕ). EndsNumber cs) (sym (ap chars is ∙ ascii_next c vs small)) (digit, joins))
    (byte_sign us vs c is small known)

-- the positions
pub no_positions : (bs : List ℕ) (ps : List ℤ) → ps ≡ [] → Reads bs bs (open_positions ps)
no_positions bs ps none = record { reads = λ n. (n, λ ts ends says. subst (λ (qs : List ℤ). Says n (chars bs) (open_positions qs ++ ts)) (sym none) says) }

one_more_open : (ps : List ℤ) (p : ℤ) → open_positions ps ++ Number p ∷ Sign semicolon ∷ [] ≡ open_positions (ps ++ p ∷ [])
one_more_open [] p = refl
one_more_open (q ∷ ps) p = ap (λ (ls : List Lexeme). Number q ∷ Sign semicolon ∷ ls) (one_more_open ps p)

last_one : (ps : List ℤ) (p : ℤ) → open_positions ps ++ Number p ∷ Sign right_bracket ∷ [] ≡ position_lexemes (ps ++ p ∷ []) ++ Sign right_bracket ∷ []
last_one [] p = refl
last_one (q ∷ []) p = refl
last_one (q ∷ r ∷ ps) p = ap (λ (ls : List Lexeme). Number q ∷ Sign semicolon ∷ ls) (last_one (r ∷ ps) p)

pub position_more : (text bs us vs : List ℕ) (ps qs : List ℤ) (p : ℤ) → Reads text bs (open_positions ps) → ReadsBefore EndsNumber bs us (Number p ∷ []) → us ≡ semicolon ∷ vs → qs ≡ ps ++ p ∷ [] → Reads text vs (open_positions qs)
unfolding sign_of
position_more text bs us vs ps qs p before reads is longer =
    subst (λ (ls : List Lexeme). Reads text vs ls) (one_more_open ps p ∙ ap open_positions (sym longer))
    (both_read (λ cs. Unit {0}) (λ cs. Unit {0}) text bs vs (open_positions ps) (Number p ∷ Sign semicolon ∷ []) before tt (number_and_sign p bs us vs semicolon reads is (lit< tt) refl refl refl))

pub position_last : (text bs us vs : List ℕ) (ps qs : List ℤ) (p : ℤ) → Reads text bs (open_positions ps) → ReadsBefore EndsNumber bs us (Number p ∷ []) → us ≡ right_bracket ∷ vs → qs ≡ ps ++ p ∷ [] → Reads text vs (position_lexemes qs ++ Sign right_bracket ∷ [])
unfolding sign_of
position_last text bs us vs ps qs p before reads is longer =
    subst (λ (ls : List Lexeme). Reads text vs ls) (last_one ps p ∙ ap (λ (rs : List ℤ). position_lexemes rs ++ Sign right_bracket ∷ []) (sym longer))
    (both_read (λ cs. Unit {0}) (λ cs. Unit {0}) text bs vs (open_positions ps) (Number p ∷ Sign right_bracket ∷ []) before tt (number_and_sign p bs us vs right_bracket reads is (lit< tt) refl refl refl))

-- the whole edit
nothing_left : (us : List ℕ) → length us ≡ 0 → us ≡ []
nothing_left [] none = refl
nothing_left (u ∷ us) none = absurd (omega (arith, none))

module _ (name : List ℕ) (ps : List ℤ) (k : ℤ) (text after_bracket after_positions after_arrow rest : List ℕ) where
  pub edit_read : ReadsBefore EndsName text (left_bracket ∷ after_bracket) (Named name ∷ []) → Reads after_bracket after_positions (position_lexemes ps ++ Sign right_bracket ∷ []) → Reads after_positions after_arrow (Sign left_arrow ∷ []) → ReadsBefore EndsNumber after_arrow rest (Number k ∷ []) → length rest ≡ 0 → Says 0 (chars text) (edit_lexemes name ps k)
  edit_read begun placed arrow numbered none =
      let no_more : chars rest ≡ [] = ap chars (nothing_left rest none) ∙ chars-nil in
      let named : Reads text after_bracket (Named name ∷ Sign left_bracket ∷ []) = name_and_bracket name text (left_bracket ∷ after_bracket) after_bracket begun refl in
      let tail : ReadsBefore EndsNumber after_positions rest (Sign left_arrow ∷ Number k ∷ []) = both_read (λ cs. Unit {0}) EndsNumber after_positions after_arrow rest (Sign left_arrow ∷ []) (Number k ∷ []) arrow tt numbered in
      let behind : ReadsBefore EndsNumber after_bracket rest ((position_lexemes ps ++ Sign right_bracket ∷ []) ++ Sign left_arrow ∷ Number k ∷ []) = both_read (λ cs. Unit {0}) EndsNumber after_bracket after_positions rest (position_lexemes ps ++ Sign right_bracket ∷ []) (Sign left_arrow ∷ Number k ∷ []) placed tt tail in
      let whole : ReadsBefore EndsNumber text rest (Named name ∷ Sign left_bracket ∷ ((position_lexemes ps ++ Sign right_bracket ∷ []) ++ Sign left_arrow ∷ Number k ∷ [])) = both_read (λ cs. Unit {0}) EndsNumber text after_bracket rest (Named name ∷ Sign left_bracket ∷ []) ((position_lexemes ps ++ Sign right_bracket ∷ []) ++ Sign left_arrow ∷ Number k ∷ []) named tt behind in
      let same : (Named name ∷ Sign left_bracket ∷ ((position_lexemes ps ++ Sign right_bracket ∷ []) ++ Sign left_arrow ∷ Number k ∷ [])) ++ [] ≡ edit_lexemes name ps k = append-nil _ ∙ ap (λ (ls : List Lexeme). Named name ∷ Sign left_bracket ∷ ls) (append_assoc (position_lexemes ps) (Sign right_bracket ∷ []) (Sign left_arrow ∷ Number k ∷ [])) in
      let ends : EndsNumber (chars rest) = subst (λ (cs : List ℕ). EndsNumber cs) (sym no_more) (tt, tt) in
      let over : Says ((whole.reads 0).0) (chars rest) [] = subst (λ (cs : List ℕ). Says ((whole.reads 0).0) cs []) (sym no_more) ([], done, refl) in
      subst (λ (ls : List Lexeme). Says 0 (chars text) ls) same ((whole.reads 0).1 [] ends over)

-- a row
reads_blank : (us : List ℕ) → Reads (space ∷ us) us []
reads_blank us = record { reads = λ n. (n + len_utf8 space, λ ts ends says. (says.0, subst (λ (cs : List ℕ). Scans n cs (Ok says.0)) (sym (ascii_next space us (lit< tt))) (blank refl says.1), says.2)) }

-- a name that a blank follows
name_and_blank : (name bs vs : List ℕ) → ReadsBefore EndsName bs (space ∷ vs) (Named name ∷ []) → Reads bs vs (Named name ∷ [])
name_and_blank name bs vs reads =
    both_read EndsName (λ cs. Unit {0}) bs (space ∷ vs) vs (Named name ∷ []) [] reads (subst (λ (cs : List ℕ). EndsName cs) (sym (ascii_next space vs (lit< tt))) refl) (reads_blank vs)

word_read : (vs : List ℕ) → Reads (codes "ROW " ++ vs) vs (Named (codes "ROW") ∷ [])
word_read vs = name_and_blank (codes "ROW") (codes "ROW " ++ vs) vs (reads_name 0x52 (0x4f ∷ 0x57 ∷ []) (space ∷ vs) refl refl (IsAscii-cons 0x52 (0x4f ∷ 0x57 ∷ []) (lit< tt) (IsAscii-cons 0x4f (0x57 ∷ []) (lit< tt) (IsAscii-cons 0x57 [] (lit< tt) IsAscii-nil))) (lit≤ tt))

front_read : (vs : List ℕ) → Reads (codes ")ROW " ++ vs) vs (Sign right_parenthesis ∷ Named (codes "ROW") ∷ [])
unfolding sign_of
front_read vs = both_read (λ cs. Unit {0}) (λ cs. Unit {0}) (codes ")ROW " ++ vs) (codes "ROW " ++ vs) vs (Sign right_parenthesis ∷ []) (Named (codes "ROW") ∷ []) (byte_sign (codes ")ROW " ++ vs) (codes "ROW " ++ vs) right_parenthesis refl (lit< tt) refl) tt (word_read vs)

-- numbers, each behind a blank
numbers_and_one : (ns : List ℤ) (k : ℤ) → number_lexemes ns ++ Number k ∷ [] ≡ number_lexemes (ns ++ k ∷ [])
numbers_and_one [] k = refl
numbers_and_one (n ∷ ns) k = ap (λ (ls : List Lexeme). Number n ∷ ls) (numbers_and_one ns k)

pub one_more_number : (us vs ws after : List ℕ) (ms ns qs : List ℤ) (k : ℤ) → GoesOn us ms vs ns → vs ≡ space ∷ ws → ReadsBefore EndsNumber ws after (Number k ∷ []) → qs ≡ ns ++ k ∷ [] → GoesOn us ms after qs
one_more_number us vs ws after ms ns qs k goes separate reads longer =
    λ bs begun.
    subst (λ (ls : List Lexeme). ReadsBefore EndsNumber bs after ls) (numbers_and_one ns k ∙ ap number_lexemes (sym longer))
    (both_read EndsNumber EndsNumber bs vs after (number_lexemes ns) (Number k ∷ []) (goes bs begun) (subst (λ (cs : List ℕ). EndsNumber cs) (sym (ap chars separate ∙ ascii_next space ws (lit< tt))) (refl, refl))
    (both_read (λ cs. Unit {0}) EndsNumber vs ws after [] (Number k ∷ []) (subst (λ (cs : List ℕ). Reads cs ws []) (sym separate) (reads_blank ws)) tt reads))

pub one_number : (text rest : List ℕ) (k : ℤ) → ReadsBefore EndsNumber text rest (Number k ∷ []) → length rest ≡ 0 → ReadsBefore EndsNumber text [] (Number k ∷ [])
one_number text rest k reads none = subst (λ (bs : List ℕ). ReadsBefore EndsNumber text bs (Number k ∷ [])) (nothing_left rest none) reads

module _ (name : List ℕ) (ns : List ℤ) (text after_word after_name : List ℕ) where
  pub row_read : text ≡ codes ")ROW " ++ after_word → ReadsBefore EndsName after_word (space ∷ after_name) (Named name ∷ []) → ReadsBefore EndsNumber after_name [] (number_lexemes ns) → Says 0 (chars text) (row_lexemes name ns)
  row_read begun named numbered =
      let tail : ReadsBefore EndsNumber after_word [] (Named name ∷ number_lexemes ns) = both_read (λ cs. Unit {0}) EndsNumber after_word after_name [] (Named name ∷ []) (number_lexemes ns) (name_and_blank name after_word after_name named) tt numbered in
      let whole : ReadsBefore EndsNumber text [] (row_lexemes name ns) = both_read (λ cs. Unit {0}) EndsNumber text after_word [] (Sign right_parenthesis ∷ Named (codes "ROW") ∷ []) (Named name ∷ number_lexemes ns) (subst (λ (bs : List ℕ). Reads bs after_word (Sign right_parenthesis ∷ Named (codes "ROW") ∷ [])) (sym begun) (front_read after_word)) tt tail in
      let ends : EndsNumber (chars []) = subst (λ (cs : List ℕ). EndsNumber cs) (sym chars-nil) (tt, tt) in
      let over : Says ((whole.reads 0).0) (chars []) [] = subst (λ (cs : List ℕ). Says ((whole.reads 0).0) cs []) (sym chars-nil) ([], done, refl) in
      subst (λ (ls : List Lexeme). Says 0 (chars text) ls) (append-nil (row_lexemes name ns)) ((whole.reads 0).1 [] ends over)
