use Rattle.{std.{proofs.Common.{ap, sym, ◌∙◌}, specs.Prelude.{not}}, index_region.{specs.Arguments.{none_negative}, proofs.Numbers.{numbers_read}}}
use Rattle.index_region.proofs.seen.Seen.has_negative.Goals as goal

pub returns-in-Some : goal.returns-in-Some
returns-in-Some c = ap not (c.are_none_negative.ensures ∙ ap none_negative (sym (numbers_read c.args.self.now c.in-Some.numbers.now c.in-Some.ensures.is.1)))
