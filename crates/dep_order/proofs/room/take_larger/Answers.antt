use Rattle.{std.proofs.Common.{◌≡◌, ◌∙◌, ap, List}, indexmap.specs.IndexMap.{insert_all}, dep_order.proofs.Moving.{entries_moved}}
use Rattle.dep_order.proofs.room.take_larger.Goals as goal

pub returns-in-Some-clause-entries : goal.returns-in-Some-clause-entries
returns-in-Some-clause-entries g c =
    let old = c.args.map.now.entries in
    let moved : c.append.new.self.entries ≡ insert_all g.K.PartialEq.eq c.in-Some.larger.entries old = rw c.unwrap.ensures at c.append.ensures.entries in
    moved ∙ (ap (λ (es : List _). insert_all g.K.PartialEq.eq es old) (rw c.in-Some.is at c.requires.finds).0 ∙ entries_moved g.K.PartialEq.eq g.met.K.Eq.laws old c.len-unique.ensures.unique)
