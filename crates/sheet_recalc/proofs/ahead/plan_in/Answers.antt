use Rattle.{std.{proofs.Common.{◌≡◌, ◌∙◌, List, ℕ, length, get_or, sym, ap, subst, arith}, specs.Map.{keys_of}}, sheet_recalc.proofs.Live.{none_beside}}
use Rattle.sheet_recalc.proofs.ahead.plan_in.Goals as goal

pub returns-then-ne : goal.returns-then-ne
returns-then-ne c =
    let names : c.as_slice.result.now ≡ keys_of c.args.found.now.entries = c.as_slice.ensures ∙ c.keys.ensures.rest in
    let one : length (keys_of c.args.found.now.entries) ≡ 1 = omega (arith, ap (λ (xs : List (List ℕ)). length xs) names, c.in-len1.len_at_least, c.in-len1.len_below) in
    let only = subst (λ (xs : List (List ℕ)). c.only-item.result ≡ get_or xs 0 c.only-item.result) names c.only-item.is in
    none_beside c.args.found.now.entries c.only-item.result c.args.name.now one only (sym c.ne.ensures ∙ c.if-ne.true)
