use Rattle.scalar_fns.proofs.ScalarAnswers.{each_dyadic_answer}
use Rattle.scalar_fns.proofs.each_dyadic.EachDyadicAnnounced.whole.Goals as goal

pub returns-in-Some-Some : goal.returns-in-Some-Some
returns-in-Some-Some c = each_dyadic_answer c.args.self.now.function c.args.args.now c.index-args-0.result c.index-args-1.result c.in-Some-Some.left.now c.in-Some-Some.right.now c.apply_two.result c.requires c.index-args-0.is c.index-args-1.is c.in-Some-Some.ensures c.in-Some-Some.ensures' c.apply_two.ensures
