-- After a parse without a fault the required words of the subcommand have values, and its flag is true or false.
use Rattle.std.{proofs.Common.{◌≡◌, ◌&&◌, ◌||◌, inl, inr, ⊎_elim, not, Bool, true, false, refl, sym, ap, arith, codes, List, [], ◌∷◌, Option, Some, None, option_map, true≢false}, specs.Prelude.{slice_get}, specs.List.{find, list_all, list_any}, specs.Option.{IfSome, option_map_or}, specs.Str.{bytes_eq}}
use Rattle.std.{proofs.lemmas.Bool.{and_parts, or_cases}, proofs.lemmas.Option.{slice_get_cases}, proofs.lemmas.Slice.Eq.{bytes_eq-Decides}}
use Rattle.clap.{specs.Values.{read_as}, specs.Walk.{Row, Rule, Text, answers_to, finished, nothing_held, one_of, rows_after, settled, walk, walk_from}, specs.Simple.{App, Shape, argument_words, built, entered, label_of, names_of, rows_at, subcommand_of}, specs.Takes.{is_given}}
use Rattle.clap.{specs.Faults.{check_fault, defaults_fault, entered_fault, fault_of, level_fault, settle_fault, walk_fault}, specs.declared.builder.value_parser.Reading.{Reading}, proofs.OnLiterals.{clap_on_literals}}
use Rattle.program_words.{specs.Asked.{is_table}, specs.Matched.{IsTruth, HasTableWords, IsWholeTable, has_word}, specs.Program.{aplsheet, run_command, table_command}, proofs.Rows.{Fitting, flag, found, is_fit, is_truth, none_of_both, row_fits}, proofs.Walks.{defaults-fitting, settled-fitting, walk-fitting}}
use Rattle.clap.specs.declared.builder.value_parser.Reading.TheVariants as reading

-- an argument of this id is required
abbrev pub requires_id : Text → List Rule → Bool
requires_id id rules = list_any (λ a. a.required && bytes_eq a.id id) rules

-- a required argument is not given
abbrev pub lacks : List Rule → List Row → Bool
lacks rules rows = list_any (λ a. a.required && not (is_given a.id rows)) rules

-- ---- one level

given_value : (id : Text) (rows : List Row) → Fitting rows → is_given id rows ≡ true → has_word id rows ≡ true
given_value id rows f given = grind (arith, slice_get_cases {X = Text}, found (λ (r : Row). bytes_eq r.id id) row_fits rows f)

required_given : (id : Text) (rules : List Rule) (rows : List Row) → Fitting rows → lacks rules rows ≡ false → requires_id id rules ≡ true
    → has_word id rows ≡ true
required_given id [] rows f none wanted = absurd (true≢false (sym wanted))
required_given id (a ∷ rules) rows f none wanted =
    let same = λ (e : bytes_eq a.id id ≡ true). ap (λ (x : Text). is_given x rows) ((bytes_eq-Decides a.id id).0 e) in
    grind (arith, required_given id rules rows f, same, given_value id rows f)

-- a level without a fault that enters no subcommand lacks no argument
none_lacks : (s : Shape) (rows : List Row) → check_fault s rows false ≡ [] → lacks s.rules rows ≡ false
none_lacks s rows e = grind arith

read_truth : (how : Reading) (vs : List Text) → list_all is_truth vs ≡ true → IsTruth (option_map (read_as how) (slice_get vs 0))
read_truth how [] e = inl refl
read_truth how (v ∷ vs) e =
    ⊎_elim (λ t. inr (inl (rw ((bytes_eq-Decides v (codes "true")).0 t) (ap Some (same how).0))))
    (λ t. inr (inr (rw ((bytes_eq-Decides v (codes "false")).0 t) (ap Some (same how).1)))) (or_cases _ _ (and_parts (is_truth v) _ e).0)
  where
    same : (how : Reading) → (read_as how (codes "true") ≡ codes "true") × (read_as how (codes "false") ≡ codes "false")
    same reading.AsWritten = (refl, refl)
    same _ = (refl, refl)

flag_truth : (rows : List Row) → Fitting rows → IsTruth (one_of flag rows)
flag_truth rows f = grind (arith, found (λ (r : Row). bytes_eq r.id flag) row_fits rows f, λ (r : Row). read_truth r.reading r.values)

-- ---- the subcommand

-- every row of `table` has a value, and its words are required
abbrev is_whole : Shape → Bool
is_whole s = not (is_table s.name) || (list_all is_fit s.rules && (requires_id (codes "NAME") s.rules && requires_id (codes "FILE") s.rules))

subcommands_whole : list_all is_whole (built aplsheet).subs ≡ true
unfolding aplsheet run_command table_command clap_on_literals flag
subcommands_whole = refl

shape_whole : (s : Shape) (words : List Text) → is_whole s ≡ true → level_fault s [] nothing_held words false [] ≡ [] → is_table s.name ≡ true
    → HasTableWords (rows_after s.rules [] words)
unfolding flag
shape_whole s words whole none is =
    let end = (walk s.rules [] nothing_held words).held in
    let rows = finished s.rules end in
    let fits = and_parts (list_all is_fit s.rules) _ (rw is at whole) in
    let wanted = and_parts (requires_id (codes "NAME") s.rules) _ fits.1 in
    let walks = none_of_both (walk_fault s [] (walk_from nothing_held) words) _ none in
    let settles = none_of_both (settle_fault s.rules s.args_override_self end) _ walks.1 in
    let defaults = none_of_both (defaults_fault (settled s.rules end).rows s.rules) _ settles.1 in
    let walked = walk-fitting s fits.0 [] (walk_from nothing_held) words walks.0 refl in
    let settled_fits = settled-fitting s.rules s.args_override_self fits.0 end settles.0 walked in
    let fitting = defaults-fitting s.rules (settled s.rules end).rows fits.0 defaults.0 settled_fits in
    let lack = none_lacks s rows defaults.1 in
    record {
      name = required_given (codes "NAME") s.rules rows fitting lack wanted.0;
      file = required_given (codes "FILE") s.rules rows fitting lack wanted.1;
      header = flag_truth rows fitting;
    }

entered_whole : (a : App) (stop : Option (Text × List Text)) → list_all is_whole a.subs ≡ true → entered_fault a stop ≡ [] → IsWholeTable (entered a stop)
unfolding IsWholeTable
entered_whole a None whole none = tt
entered_whole a (Some p) whole none = go (find (λ (s : Shape). answers_to p.0 (label_of s)) a.subs) (found _ is_whole a.subs whole) none
  where
    go : (o : Option Shape) → IfSome o (λ s. (answers_to p.0 (label_of s) ≡ true) × (is_whole s ≡ true))
        → option_map_or (λ s. level_fault s [] nothing_held p.1 false []) o [] ≡ [] → IsWholeTable (option_map (λ s. rows_at s p.1) o)
    go None found e = tt
    go (Some s) found e = shape_whole s p.1 found.1 e

-- words without a fault have all words of `table`
pub words_whole : (words : List Text) → fault_of aplsheet words ≡ [] → IsWholeTable (subcommand_of aplsheet words)
words_whole words none =
    let a = built aplsheet in
    let asked = argument_words aplsheet words in
    let later = none_of_both (walk_fault a.top (names_of a) (walk_from nothing_held) asked) _ none in
    entered_whole a (walk a.top.rules (names_of a) nothing_held asked).stopped subcommands_whole (none_of_both (entered_fault a _) _ later.1).0
