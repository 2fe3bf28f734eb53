use Rattle.{std.{proofs.Common.{◌≡◌, to_z, of_z, w64, rules}, proofs.lemmas.Int.{to_z-of_z}}, search_fns.proofs.Searching.{no_answers_as}}
use Rattle.search_fns.proofs.index_of.no_answers.Goals as goal

pub returns : goal.returns
returns g c =
    let same : to_z w64 (of_z w64 c.answer.result) ≡ c.answer.result = to_z-of_z w64 _ (search rules) in
    rw (no_answers_as c.args.array.now c.args.sought.now c.places-places.ensures.sound.one_type c.places.ensures.sound.one_type c.requires g.A.Answer.gives)
    (rw (same, c.answer.ensures, c.places-places.ensures.is, c.places.ensures.is) at c.all_of.ensures)
