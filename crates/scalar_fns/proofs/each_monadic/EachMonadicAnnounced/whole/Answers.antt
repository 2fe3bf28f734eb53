use Rattle.scalar_fns.proofs.ScalarAnswers.{each_monadic_answer}
use Rattle.scalar_fns.proofs.each_monadic.EachMonadicAnnounced.whole.Goals as goal

pub returns-in-Some : goal.returns-in-Some
returns-in-Some c = each_monadic_answer c.args.self.now.function c.args.args.now c.index-args-0.result c.in-Some.array.now c.apply_one.result c.requires c.index-args-0.is c.in-Some.ensures c.apply_one.ensures
