use Rattle.{std.specs.Prelude.{pos}, arrays_core.specs.declared.item.Item.TheVariants.{Num, Char}}
use Rattle.search_fns.proofs.Searching.{answers_as, same_numbers, same_characters}
use Rattle.search_fns.proofs.index_of.answers_in_array.Goals as goal

pub returns-in-Some-Some : goal.returns-in-Some-Some
returns-in-Some-Some g c =
    let both = c.in-Some-Some in
    rw (both.ensures.is.1, both.ensures'.is.1, ← answers_as (λ z. Num z) (λ z. z) same_numbers g.A.Answer.gives both.items.now both.numbers.now)
    c.answers.ensures

pub returns-in-Some-Some-2 : goal.returns-in-Some-Some-2
returns-in-Some-Some-2 g c =
    let both = c.in-Some-Some-2 in
    rw (both.ensures.is.1, both.ensures'.is.1, ← answers_as (λ x. Char x) (λ x. pos x) same_characters g.A.Answer.gives both.items.now both.characters.now)
    c.answers-in-Some-Some-2.ensures
