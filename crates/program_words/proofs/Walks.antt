-- After each word of a parse without a fault all rows fit.
use Rattle.std.{proofs.Common.{◌≡◌, ℕ, Bool, true, zero, suc, arith, List, [], ◌∷◌, length, drop, Option, Some, None}, specs.Prelude.{encode_utf8}, specs.List.{find, fold, list_all}, specs.Option.{IfSome}, specs.Str.{bytes_eq}, proofs.lemmas.Bool.{and_parts}, proofs.lemmas.Option.{IfSome_then}}
use Rattle.clap.{specs.Lexer.{long_of}, specs.Walk.{Held, Names, Outcome, done, plain, Row, Rule, Step, Text, Waiting, Walk, after_step, arg_by_long, arg_by_short, attached_value, bundle_met, long_met, long_or_other, option_met, reacted, settled, short_met, walked, with_default, word_met}, specs.Simple.{Shape}}
use Rattle.clap.{specs.Kinds.{Kinds}, specs.Faults.{defaults_fault, flag_word_fault, flags_fault, long_fault, option_fault, react_fault, settle_fault, short_fault, step_fault, turn_fault, walk_fault, word_fault}}
use Rattle.program_words.proofs.Rows.{Fitting, default-fitting, found, is_fit, used-fitting}

-- the argument, if one is found, makes only fitting rows
abbrev IsFit : Option Rule → Type 0
IsFit o = IfSome o (λ a. is_fit a ≡ true)

found_is_fit : (p : Rule → Bool) (c : List Rule) → list_all is_fit c ≡ true → IsFit (find p c)
found_is_fit p c fits = IfSome_then (find p c) (found p is_fit c fits) (λ a h. h.1)

-- a step without a fault keeps the rows fitting
abbrev Keeps : Kinds → Held → Held → Type 0
Keeps faults old new = faults ≡ [] → Fitting old.rows → Fitting new.rows

module _ (c : List Rule) (again : Bool) (fits : list_all is_fit c ≡ true) where
  -- ---- one use

  pub settled-fitting : (h : Held) → Keeps (settle_fault c again h) h (settled c h)
  settled-fitting h none f =
      let pending = λ (id : Text). found_is_fit (λ (a : Rule). bytes_eq a.id id) c fits in
      grind (arith, pending, λ (a : Rule) (values : List Text). used-fitting again a values h.rows)

  reacted-fitting : (a : Rule) (values : List Text) (h : Held) → is_fit a ≡ true → Keeps (react_fault c again a values h) h (reacted c a values h)
  reacted-fitting a values h fit none f = grind (arith, settled-fitting h, used-fitting again a values (settled c h).rows fit)

  option_met-fitting : (a : Rule) (v : Option Text) (h : Held) → is_fit a ≡ true → Keeps (option_fault c again a v h) h (option_met c a v h).0
  option_met-fitting a v h fit none f = grind (arith, settled-fitting h, λ (v : Text). reacted-fitting a (v ∷ []) h fit)

  -- ---- `--name`, and a bundle of flags

  long_met-fitting : (o : Option Rule) (v : Option Text) (h : Held) → IsFit o → Keeps (long_fault c again o v h) h (long_met c o v h).0
  long_met-fitting None v h fit none f = f
  long_met-fitting (Some a) v h fit none f = grind (arith, option_met-fitting a v h fit, reacted-fitting a [] h fit)

  short_met-fitting : (o : Option Rule) (rest : Text) (h : Held) (met : Held → Held × Outcome) (faults : Held → Kinds) → IsFit o
      → ((k : Held) → Keeps (faults k) k (met k).0) → Keeps (short_fault c again o rest h faults) h (short_met c o rest h met).0
  short_met-fitting None rest h met faults fit later none f = f
  short_met-fitting (Some a) rest h met faults fit later none f =
      grind (arith, option_met-fitting a (attached_value rest) h fit, reacted-fitting a [] h fit, later (reacted c a [] h))

  bundle_met-fitting : (k : ℕ) (flags : Text) (skip : ℕ) (so_far : Outcome) (h : Held)
      → Keeps (flags_fault c again k flags skip h) h (bundle_met c k flags skip so_far h).0
  unfolding bundle_met flags_fault
  bundle_met-fitting zero flags skip so_far h none f = f
  bundle_met-fitting (suc k) flags skip so_far h none f =
      let rest = λ (x : ℕ). drop (length (encode_utf8 x)) flags in
      let short = λ (x : ℕ). short_met-fitting (arg_by_short c x) (rest x) h (bundle_met c k (rest x) 0 done) (flags_fault c again k (rest x) 0)
      (found_is_fit _ c fits) (bundle_met-fitting k (rest x) 0 done) in
      grind (arith, short, λ (rest : Text) (less : ℕ). bundle_met-fitting k rest less so_far h)

  -- ---- one word

  long_or_other-fitting : (waiting : Waiting) (word : Text) (o : Option (Text × Option Text)) (h : Held)
      → Keeps (flag_word_fault c again o word h) h (long_or_other c waiting word o h).0
  long_or_other-fitting waiting word o h none f =
      let long = λ (p : Text × Option Text). long_met-fitting (arg_by_long c p.0) p.1 h (found_is_fit _ c fits) in
      grind (arith, long, λ (flags : Text). bundle_met-fitting (length flags) flags h.skip plain (record h { skip = 0 }))

module _ (s : Shape) (fits : list_all is_fit s.rules ≡ true) where
  word_met-fitting : (names : Names) (is_trailing : Bool) (waiting : Waiting) (position : ℕ) (word : Text) (h : Held)
      → Keeps (word_fault s names is_trailing waiting word h) h (word_met s.rules names is_trailing waiting position word h).0
  word_met-fitting names is_trailing waiting position word h none f =
      grind (arith, long_or_other-fitting s.rules s.args_override_self fits waiting word (long_of word) h)

  after_step-fitting : (word : Text) (w : Walk) (h : Held) (step : Step) → Keeps (step_fault s w.position h step) h (after_step s.rules word w h step).held
  after_step-fitting word w h step none f = grind (arith, settled-fitting s.rules s.args_override_self fits h)

  -- ---- all words, and the defaults

  walked-fitting : (names : Names) (w : Walk) (word : Text) → Keeps (turn_fault s names w word) w.held (walked s.rules names w word).held
  unfolding walked
  walked-fitting names w word none f =
      let met = word_met s.rules names w.is_trailing w.waiting w.position word w.held in
      grind (arith, word_met-fitting names w.is_trailing w.waiting w.position word w.held, after_step-fitting word w met.0 met.1)

  pub walk-fitting : (names : Names) (w : Walk) (words : List Text) → Keeps (walk_fault s names w words) w.held (fold (walked s.rules names) w words).held
  unfolding walk_fault
  walk-fitting names w [] none f = f
  walk-fitting names w (word ∷ words) none f = grind (arith, walked-fitting names w word, walk-fitting names (walked s.rules names w word) words)

pub defaults-fitting : (rules : List Rule) (rows : List Row) → list_all is_fit rules ≡ true → defaults_fault rows rules ≡ [] → Fitting rows
    → Fitting (fold with_default rows rules)
unfolding defaults_fault
defaults-fitting [] rows fits none f = f
defaults-fitting (a ∷ rules) rows fits none f = grind (arith, and_parts (is_fit a) _ fits, default-fitting rows a, defaults-fitting rules (with_default rows a))
