use Rattle.{std.proofs.Common.{subst}, arrays_core.specs.Arrays.{IsAnswerTo}, index_region.proofs.Arguments.{whole_of_two}}
use Rattle.search_fns.specs.Decode.{decode_form, decode_item}
use Rattle.search_fns.proofs.decode.Decode.apply.Goals as goal

pub returns : goal.returns
returns c = subst (λ w. IsAnswerTo w c.apply.result) (whole_of_two decode_form decode_item c.args.args.now c.requires) c.apply.ensures
