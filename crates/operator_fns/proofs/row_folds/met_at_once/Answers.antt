use Rattle.std.{proofs.Common.{◌≡◌, to_z, of_z, w64}, proofs.lemmas.Int.{to_z-of_z}}
use Rattle.{item_fns.specs.Numbers.{dyadic_on_numbers}, operator_fns.proofs.MetRows.{are_met}}
use Rattle.operator_fns.proofs.row_folds.met_at_once.Goals as goal

pub returns : goal.returns
returns c =
    let number : to_z w64 (of_z w64 c.args.number) ≡ c.args.number = to_z-of_z w64 _ c.ranges.number in
    are_met (dyadic_on_numbers c.args.each) c.args.number c.args.row.now _ (rw number at c.in_ok-met.ensures.is)
