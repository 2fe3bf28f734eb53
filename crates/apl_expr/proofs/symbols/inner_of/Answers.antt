use Rattle.std.{proofs.Common.{◌≡◌, ◌∙◌, Some, sym, ap}, specs.Prelude.{option_and_then, option_map}}
use Rattle.apl_expr.{specs.declared.functions.Function2.TheVariants.{Inner}, specs.Symbols.{scalar_dyad_of}}
use Rattle.apl_expr.proofs.symbols.inner_of.Goals as goal

pub returns : goal.returns
returns c =
    let first : scalar_dyad_of c.args.first ≡ Some c.in_ok-first.first = sym c.scalar_dyad_of.ensures ∙ c.in_ok-first.was in
    let second : scalar_dyad_of c.args.second ≡ Some c.in_ok-scalar_dyad_of.field-0 = sym c.scalar_dyad_of-2.ensures ∙ c.in_ok-scalar_dyad_of.was in
    sym (ap (option_and_then (λ f. option_map (Inner f) (scalar_dyad_of c.args.second))) first ∙ ap (option_map (Inner c.in_ok-first.first)) second)
