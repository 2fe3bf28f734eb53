use Rattle.std.{proofs.Common.{rules, refl, ◌≡◌, true, length}, specs.Prelude.{nat_eq, ◌||◌}}
use Rattle.index_region.specs.Arguments.{is_list, has_one_item, counts_as_numbers, none_negative, numbers}
use Rattle.selection_fns.proofs.replicate.check_counts.Goals as goal

pub returns-clause-passed : goal.returns-clause-passed
returns-clause-passed c rest =
    let is_list : is_list c.args.counts.now ≡ true = search rules in
    let enough : (has_one_item c.args.counts.now || (nat_eq c.args.places 1 || nat_eq (length c.args.counts.now.items) c.args.places)) ≡ true = search rules in
    let of_numbers : counts_as_numbers c.args.counts.now ≡ true = search rules in
    let from_0 : none_negative (numbers c.args.counts.now) ≡ true = search rules in
    rw (is_list, enough, of_numbers, from_0) refl
