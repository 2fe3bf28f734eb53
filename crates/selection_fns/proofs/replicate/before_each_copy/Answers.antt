use Rattle.std.{proofs.Common.{◌≡◌, true, ◌∙◌, subst, rules, sym}, specs.List.{list_all}}
use Rattle.{index_region.{specs.Arguments.{numbers}, proofs.Numbers.{numbers_read}}, selection_fns.{specs.Replicate.{is_bit}, proofs.Copies.{mask_bits}}}
use Rattle.selection_fns.proofs.replicate.before_each_copy.Goals as goal

pub before_copies_of_list-requires-clause-mask : goal.before_copies_of_list-requires-clause-mask
before_copies_of_list-requires-clause-mask c h =
    subst (λ zs. list_all is_bit zs ≡ true) (numbers_read c.args.counts.now c.in-Some.list.now c.in-Some.ensures.is.1)
    (mask_bits c.args.mask (numbers c.args.counts.now) c.requires.mask (sym c.is_some.ensures ∙ h))

pub returns-in-Some-clause-is : goal.returns-in-Some-clause-is
returns-in-Some-clause-is c =
    search (rules, rw (sym (numbers_read c.args.counts.now c.in-Some.list.now c.in-Some.ensures.is.1)) at c.before_copies_of_list.ensures.is)
