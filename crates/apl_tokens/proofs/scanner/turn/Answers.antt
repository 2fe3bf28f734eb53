use Rattle.std.{proofs.Common.{rules, ◌≡◌, ℕ, ◌+◌, ◌++◌, List, ◌∷◌, [], ◌∙◌, ap, sym, subst, arith}, specs.Prelude.{slice_range}, specs.Char.{len_utf8}, specs.Str.{IsUtf8}, proofs.lemmas.Str.{IsUtf8-append, IsUtf8-encode}}
use Rattle.apl_tokens.{specs.Scanner.{turn, Goes, Digits, Letters}, specs.Scanning.{all_spanned, prepended, scan_of, IsReading}, proofs.Walk.{goes_on, digit_is_byte}}
use Rattle.apl_tokens.proofs.scanner.turn.Goals as goal

pub returns-in-Digits-clause-turns : goal.returns-in-Digits-clause-turns
returns-in-Digits-clause-turns c =
    let read = subst (λ s. IsReading c.args.text.now c.args.at s) c.in-Digits.is c.requires.reading in
    let digit = sym (c.if-is_ascii_digit-2.ensures).value in
    let more : slice_range c.args.text.now c.in-Digits.first (c.args.at + len_utf8 c.args.c) ≡ slice_range c.args.text.now c.in-Digits.first c.args.at ++ c.args.c ∷ [] =
    goes_on c.args.text.now c.in-Digits.first c.args.at c.args.c read c.requires.stands ∙ ap (λ (xs : List ℕ). slice_range c.args.text.now c.in-Digits.first c.args.at ++ xs) (digit_is_byte c.args.c digit) in
    subst (λ (xs : List ℕ). prepended (all_spanned c.args.out.now.items) (turn c.args.at c.args.c (scan_of c.args.text.now c.args.at c.args.scan)) ≡ Goes (all_spanned c.args.out.now.items) (Digits c.in-Digits.start c.in-Digits.is_negative xs)) (sym more) (search rules)

pub returns-in-Letters-clause-turns : goal.returns-in-Letters-clause-turns
returns-in-Letters-clause-turns c =
    let read = subst (λ s. IsReading c.args.text.now c.args.at s) c.in-Letters.is c.requires.reading in
    subst (λ (xs : List ℕ). prepended (all_spanned c.args.out.now.items) (turn c.args.at c.args.c (scan_of c.args.text.now c.args.at c.args.scan)) ≡ Goes (all_spanned c.args.out.now.items) (Letters c.in-Letters.start xs))
    (sym (goes_on c.args.text.now c.in-Letters.start c.args.at c.args.c read.0 c.requires.stands)) (search rules)

pub returns-in-Letters-clause-reading : goal.returns-in-Letters-clause-reading
returns-in-Letters-clause-reading c =
    let read = subst (λ s. IsReading c.args.text.now c.args.at s) c.in-Letters.is c.requires.reading in
    (omega (arith, read.0), subst IsUtf8 (sym (goes_on c.args.text.now c.in-Letters.start c.args.at c.args.c read.0 c.requires.stands)) (IsUtf8-append _ _ read.1 (IsUtf8-encode c.args.c c.ranges.c.0)))
