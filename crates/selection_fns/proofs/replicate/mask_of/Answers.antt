use Rattle.{std.{proofs.Common.{subst, sym}, specs.Prelude.{IfSome}}, index_region.proofs.Numbers.{numbers_read}, selection_fns.specs.Replicate.{IsMask}}
use Rattle.selection_fns.proofs.replicate.mask_of.Goals as goal

pub returns : goal.returns
returns c = subst (λ zs. IfSome c.mask_total.result (IsMask zs)) (sym (numbers_read c.args.counts.now c.in_ok-list.list.now c.in_ok-list.ensures.is.1)) c.mask_total.ensures
