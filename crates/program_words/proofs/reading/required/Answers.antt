use Rattle.std.{proofs.Common.{ap, arith, sym, ◌∙◌, option_map}, specs.Borrow.{Bor}}
use Rattle.clap.{specs.Words.{Text, found_of}, proofs.WalkLemmas.{first_value-rows}}
use Rattle.program_words.proofs.reading.required.Goals as goal

pub unwrap-requires : goal.unwrap-requires
unwrap-requires c = let e = c.get_str.ensures ∙ first_value-rows (found_of c.args.values.now) c.args.id.now in let some = c.requires in grind arith

pub returns : goal.returns
returns c = sym (c.get_str.ensures ∙ first_value-rows (found_of c.args.values.now) c.args.id.now) ∙ ap (option_map (λ (s : Bor Text). s.now)) c.unwrap.ensures
