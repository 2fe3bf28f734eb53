-- The rows of a parse without a fault: each has a value, and the value of the flag is true or false.
use Rattle.std.{proofs.Common.{◌≡◌, ◌<◌, ◌&&◌, ◌||◌, not, Bool, cond, true, false, refl, ap, arith, nat_lt, codes, List, [], ◌∷◌, ◌++◌, length}, specs.List.{find, list_all}, specs.Option.{IfSome}, specs.Str.{bytes_eq}, proofs.lemmas.Bool.{and_from}, proofs.lemmas.List.{length-append}}
use Rattle.std.{proofs.lemmas.List.Folds.{list_all-append}, proofs.lemmas.Slice.Eq.{bytes_eq-Decides}}
use Rattle.clap.{specs.Facts.{parser_of_value, unwrap_or_range}, specs.Values.{is_request}, specs.Walk.{Row, Rule, Text, action_of, at_row, default_rows, has_row, is_empty, more_values, most_values, reading_by, used, used_as, values_or_missing, with_default, with_values, without}}
use Rattle.clap.{specs.Kinds.{Kinds, or_else, range_kinds, request_kinds, values_kinds}, specs.Faults.{action_fault, default_fault, use_fault, values_fault}, specs.declared.builder.action.ArgAction.{ArgAction}, specs.declared.builder.value_parser.Reading.{Reading}}
use Rattle.clap.{specs.declared.builder.value_parser.ValueParser.{ValueParser}, specs.declared.parser.matches.ValueSource.{ValueSource}, specs.declared.parser.matches.ValueSource.TheVariants.{CommandLine, DefaultValue}}
use Rattle.clap.specs.declared.builder.action.ArgAction.TheVariants as action
use Rattle.clap.specs.declared.builder.value_parser.ValueParser.TheVariants as vp

-- the id of the flag
unfoldable pub flag : Text
flag = codes "header"

abbrev pub is_truth : Text → Bool
is_truth text = bytes_eq text (codes "true") || bytes_eq text (codes "false")

-- there is a value, and those of the flag are true or false
abbrev pub fits : Text → List Text → Bool
fits id values = nat_lt 0 (length values) && (not (bytes_eq id flag) || list_all is_truth values)

abbrev pub row_fits : Row → Bool
row_fits r = fits r.id r.values

abbrev pub Fitting : List Row → Type 0
Fitting rows = list_all row_fits rows ≡ true

-- ---- the arguments that make only such rows

abbrev pub is_counting : ArgAction → Bool
is_counting action.Count = true
is_counting _ = false

abbrev pub takes_truths : ValueParser → Bool
takes_truths vp.Bool = true
takes_truths _ = false

abbrev pub gives_value : Rule → Bool
gives_value a = nat_lt 0 (length a.missing) || nat_lt 0 (unwrap_or_range a.range).start_inclusive

abbrev pub gives_truths : Rule → Bool
gives_truths a = not (bytes_eq a.id flag) || takes_truths (parser_of_value a.parser)

-- the argument is not a counter, and each use has a value or shows a text; the flag has only true or false
abbrev pub is_fit : Rule → Bool
is_fit a = not (is_counting (action_of a)) && (gives_truths a && (is_request (action_of a) || gives_value a))

-- ---- lists

pub none_of_both : (a b : Kinds) → or_else a b ≡ [] → (a ≡ []) × (b ≡ [])
none_of_both [] b e = (refl, e)
none_of_both (k ∷ ks) b e = cc

-- the element that is found passes the test, and what all elements pass
pub found : {X : Type 0} (p q : X → Bool) (xs : List X) → list_all q xs ≡ true → IfSome (find p xs) (λ x. (p x ≡ true) × (q x ≡ true))
found p q [] all = tt
found p q (x ∷ xs) all = grind (arith, found p q xs)

-- ---- rows

at_row-fitting : (id : Text) (change : Row → List Row) (missing rows : List Row)
    → ((r : Row) → bytes_eq r.id id ≡ true → row_fits r ≡ true → Fitting (change r)) → Fitting missing → Fitting rows → Fitting (at_row id change missing rows)
at_row-fitting id change missing [] changes m h = m
at_row-fitting id change missing (r ∷ rs) changes m h =
    grind (arith, changes r, list_all-append row_fits (change r) rs, at_row-fitting id change missing rs changes m)

fits-append : (a b : Text) (vs ws : List Text) → bytes_eq a b ≡ true → fits a vs ≡ true → fits b ws ≡ true → fits a (vs ++ ws) ≡ true
fits-append a b vs ws is v w =
    let same : a ≡ b = (bytes_eq-Decides a b).0 is in
    simp (list_all-append, length-append) (grind (arith, ap (λ (x : Text). bytes_eq x flag) same))

with_values-fitting : (id : Text) (how : Reading) (s : ValueSource) (values : List Text) (rows : List Row) → fits id values ≡ true → Fitting rows
    → Fitting (with_values id how s values rows)
with_values-fitting id how s values rows fit h =
    at_row-fitting id (more_values s values) _ rows (λ r is own. and_from _ true (fits-append r.id id r.values values is own fit) refl)
    (and_from (fits id values) true fit refl) h

-- ---- one use of an argument

used_as-fitting : (x : ArgAction) (id : Text) (how : Reading) (values : List Text) (rows : List Row) → is_counting x ≡ false → (is_request x ≡ false → fits id values ≡ true)
    → Fitting rows → Fitting (used_as x id how values rows)
used_as-fitting x id how values rows counts fit h =
    let add = λ (rs : List Row) (f : fits id values ≡ true) (k : Fitting rs). with_values-fitting id how CommandLine values rs f k in
    grind (arith, add rows, add (without id rows), at_row-fitting id (λ _. []) [] rows (λ r is own. refl) refl h)

-- a use without a fault has a value, or a default for it
has_value : (again : Bool) (a : Rule) (values : List Text) (rows : List Row) → gives_value a ≡ true → use_fault again a values rows ≡ []
    → 0 < length (values_or_missing a values)
has_value again a values rows gives none = grind arith

values_pass : (x : ArgAction) (again : Bool) (a : Rule) (values : List Text) (rows : List Row) → is_counting x ≡ false → is_request x ≡ false
    → action_fault x again a values rows ≡ [] → values_fault a values ≡ []
values_pass x again a values rows counts asks none = grind arith

values_truths : (ignore_case : Bool) (values : List Text) → values_kinds ignore_case vp.Bool values ≡ [] → list_all is_truth values ≡ true
values_truths i [] none = refl
values_truths i (v ∷ vs) none = grind (arith, values_truths i vs)

-- values without a fault fit, if there are any
passed_fits : (a : Rule) (values : List Text) → gives_truths a ≡ true → values_fault a values ≡ [] → 0 < length values → fits a.id values ≡ true
passed_fits a values gives none some = grind (arith, values_truths a.ignore_case values)

pub used-fitting : (again : Bool) (a : Rule) (values : List Text) (rows : List Row) → is_fit a ≡ true → use_fault again a values rows ≡ [] → Fitting rows
    → Fitting (used a values rows)
used-fitting again a values rows fit none h =
    let asked = (none_of_both (range_kinds (unwrap_or_range a.range).start_inclusive (most_values a) (length values)) _ none).1 in
    let vs = values_or_missing a values in
    used_as-fitting (action_of a) a.id (reading_by a) vs rows (grind arith)
    (λ asks. passed_fits a vs (grind arith) (values_pass (action_of a) again a vs rows (grind arith) asks asked)
    (has_value again a values rows (grind arith) none)) h

-- ---- defaults

default_rows-fitting : (a : Rule) (values : List Text) (t : Bool) (rows : List Row) → gives_truths a ≡ true
    → cond (t || is_empty values) [] (or_else (request_kinds (action_of a)) (values_fault a values)) ≡ [] → Fitting rows
    → Fitting (cond t rows (default_rows a.id (reading_by a) values rows))
default_rows-fitting a values t rows gives none h =
    let set = λ (v : Text) (vs : List Text). with_values-fitting a.id (reading_by a) DefaultValue (v ∷ vs) rows in
    grind (arith, set, λ (v : Text) (vs : List Text). passed_fits a (v ∷ vs) gives)

pub default-fitting : (rows : List Row) (a : Rule) → is_fit a ≡ true → default_fault rows a ≡ [] → Fitting rows → Fitting (with_default rows a)
default-fitting rows a fit none h = default_rows-fitting a a.defaults (has_row a.id rows) rows (grind arith) none h
