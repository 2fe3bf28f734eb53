use Rattle.{std.{proofs.Common.{◌∙◌, ap, sym}, specs.Prelude.{not}}, index_region.specs.Arguments.{numbers}}
use Rattle.selection_fns.proofs.Copies.{mask_bits, mask_from_0}
use Rattle.selection_fns.proofs.replicate.has_negative.Goals as goal

pub returns-else-is_none : goal.returns-else-is_none
returns-else-is_none c =
    let zs = numbers c.args.counts.now in
    c.if-is_none.false ∙ ap not (sym (mask_from_0 zs (mask_bits c.args.mask zs c.requires (c.is_none.ensures ∙ ap not c.if-is_none.false))))
