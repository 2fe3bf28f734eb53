use Rattle.{std.{proofs.Common.{◌≡◌, List, [], ◌∷◌, length, subst, arith, rules}, specs.Prelude.{ℤ}}, apl_tokens.specs.Reading.{GoesOn}}
use Rattle.apl_tokens.proofs.row_edit.several_numbers.Goals as goal

pub returns-clause-reads : goal.returns-clause-reads
returns-clause-reads c =
    let first : c.push_reserved.new.self.items ≡ c.args.first ∷ [] = search rules in
    subst (λ (ns : List ℤ). GoesOn c.args.text.now ns [] c.more_numbers.new.numbers.items) first c.in_ok-more_numbers.ensures.reads

pub returns-clause-several : goal.returns-clause-several
returns-clause-several c =
    let first : length c.push_reserved.new.self.items ≡ 1 = search rules in
    omega (arith, first, c.in_ok-more_numbers.ensures.count)

pub returns-clause-few : goal.returns-clause-few
returns-clause-few c =
    let first : length c.push_reserved.new.self.items ≡ 1 = search rules in
    omega (arith, first, c.in_ok-more_numbers.ensures.count)
