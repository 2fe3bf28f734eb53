use Rattle.{std.proofs.Common.{subst, sym, Result}, arrays_core.{specs.Arrays.{ArrayValue, IsAnswerTo}, specs.declared.item.Kind.{Kind}}}
use Rattle.{index_region.proofs.Arguments.{whole_of_two}, search_fns.specs.Decode.{decode_form, decode_item}}
use Rattle.search_fns.proofs.decode.DecodeAnnounced.whole.Goals as goal

pub returns : goal.returns
returns c = subst (λ (w : Result ArrayValue Kind). IsAnswerTo w c.apply.result) (sym (whole_of_two decode_form decode_item c.args.args.now c.requires)) c.apply.ensures
