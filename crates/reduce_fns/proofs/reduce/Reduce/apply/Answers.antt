use Rattle.{index_region.proofs.Arguments.{whole_of_one}, reduce_fns.specs.Reduce.{reduce_form, reduce_item}}
use Rattle.reduce_fns.proofs.reduce.Reduce.apply.Goals as goal

pub returns-in_default : goal.returns-in_default
returns-in_default c =
    rw (whole_of_one (reduce_form c.args.self.now.along) (λ b. reduce_item c.args.self.now.function c.args.self.now.along b) c.args.args.now c.requires) at c.apply.ensures
