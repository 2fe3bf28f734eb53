use Rattle.{std.{proofs.Common.{◌≡◌, ◌∙◌, ℕ, false, Some, None, List, sym, ap}, specs.Prelude.{if◌then◌else◌}}, apl_tokens.specs.Lexemes.{Lexeme, lexemes}}
use Rattle.apl_expr.{specs.Symbols.{stands_alone}, specs.Functions.{function, product_in, product_or_less, fold_along_or_less, fold_or_less, function_at}}
use Rattle.apl_expr.proofs.functions.function_at.Goals as goal

-- a sign that is part of a function begins a product, a fold, or a plain function
begins : (c : ℕ) (ts : List Lexeme) → stands_alone c ≡ false → function_at c ts ≡ product_or_less c (product_in c ts) ts
begins c ts alone = ap (λ b. if b then function None None 0 else product_or_less c (product_in c ts) ts) alone

pub returns-in-Some : goal.returns-in-Some
returns-in-Some c =
    let ts = lexemes c.args.tokens.now in
    let product : product_in c.args.sign ts ≡ Some c.in-Some.product = sym c.product_in.ensures ∙ c.in-Some.is in
    sym (begins c.args.sign ts (sym c.stands_alone.ensures ∙ c.if-stands_alone.false) ∙ ap (λ g. product_or_less c.args.sign g ts) product)

pub returns-in-Some-fold_along_in : goal.returns-in-Some-fold_along_in
returns-in-Some-fold_along_in c =
    let ts = lexemes c.args.tokens.now in
    sym (begins c.args.sign ts (sym c.stands_alone.ensures ∙ c.if-stands_alone.false)
    ∙ ap (λ g. product_or_less c.args.sign g ts) (sym c.product_in.ensures ∙ c.in_default.is)
    ∙ ap (λ f. fold_along_or_less c.args.sign f ts) (sym c.fold_along_in.ensures ∙ c.in-Some-fold_along_in.is))

pub returns-in-Some-fold_in : goal.returns-in-Some-fold_in
returns-in-Some-fold_in c =
    let ts = lexemes c.args.tokens.now in
    sym (begins c.args.sign ts (sym c.stands_alone.ensures ∙ c.if-stands_alone.false)
    ∙ ap (λ g. product_or_less c.args.sign g ts) (sym c.product_in.ensures ∙ c.in_default.is)
    ∙ ap (λ f. fold_along_or_less c.args.sign f ts) (sym c.fold_along_in.ensures ∙ c.in_default-fold_along_in.is)
    ∙ ap (λ f. fold_or_less c.args.sign f ts) (sym c.fold_in.ensures ∙ c.in-Some-fold_in.is))
