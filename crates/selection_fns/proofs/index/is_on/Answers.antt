use Rattle.{std.{proofs.Common.{ap, sym, ◌∙◌}, specs.List.{list_all}}, index_region.proofs.Numbers.{numbers_read}, selection_fns.specs.Index.{is_on_axis}}
use Rattle.selection_fns.proofs.index.is_on.Goals as goal

pub returns-in-Some : goal.returns-in-Some
returns-in-Some c =
    c.are_all_on.ensures ∙ ap (list_all (is_on_axis c.args.axis)) (sym (numbers_read c.args.position.now c.in-Some.indices.now c.in-Some.ensures.is.1))
