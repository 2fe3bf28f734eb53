use Rattle.{std.proofs.Common.{◌∙◌, ◌*◌, ap, sym}, selection_fns.proofs.Copied.{sum_first_same}}
use Rattle.selection_fns.proofs.replicate_rule.copies_of_one_count.Goals as goal

pub returns : goal.returns
returns c = ap (λ n. n * c.args.count) c.from.ensures ∙ sym (sum_first_same c.args.first c.args.places c.args.count c.requires.within)
