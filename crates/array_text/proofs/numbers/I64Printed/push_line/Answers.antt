use lib.Utf8.{encode}
use Rattle.std.{proofs.Common.{◌∷◌, [], ap, pos, get_or, rules, w64}, specs.List.{join_by}, proofs.lemmas.List.{take_all}, proofs.lemmas.Int.{to_z-of_z}}
use Rattle.array_text.{specs.Text.{number_text, number_line, between_numbers}, proofs.Writing.{pushed_behind, grown_twice, join_by-more}}
use Rattle.array_text.proofs.numbers.I64Printed.push_line.Goals as goal

pub loop-earlier-preserved : goal.loop-earlier-preserved
loop-earlier-preserved c =
    let k = c.loop-earlier.earlier in
    grown_twice _ _ _ _ _ _ _ _ (rw (to_z-of_z w64 (get_or c.args.numbers.now k (pos 0)) (search rules)) at c.in_ok-push_number.ensures)
    c.in_ok-push_blank_between.ensures c.loop-earlier.invariant (join_by-more number_text between_numbers c.args.numbers.now k (pos 0) c.loop-earlier-test.true)

pub returns : goal.returns
unfolding number_line encode
returns c =
    pushed_behind c.push.result _ _ _ _ _ (10 ∷ []) c.push.ensures.bytes c.loop-earlier.invariant
    (ap (join_by number_text between_numbers) (take_all c.loop-earlier.earlier c.args.numbers.now c.loop-earlier-test.false))
