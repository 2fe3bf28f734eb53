use Rattle.std.{proofs.Common.{◌-◌, ◌∙◌, append_assoc, w64}, specs.Prelude.{string_bytes, replicate}, proofs.lemmas.Result.{on_ok_weaker}, proofs.lemmas.Int.{to_z-of_z}}
use Rattle.array_text.specs.Text.{right_justified, number_text, number_width}
use Rattle.array_text.proofs.numbers.push_cell.Goals as goal

pub returns : goal.returns
unfolding right_justified
returns c =
    let same = to_z-of_z w64 c.args.number c.ranges.number in
    let blanks = replicate (c.args.width - number_width c.args.number) 32 in
    on_ok_weaker c.push_number.result
    (λ e. rw (same, c.in_ok-push_blanks.ensures, c.saturating_sub.ensures, c.width_of.ensures.value, same) at e
    ∙ append_assoc (string_bytes c.args.out.now) blanks (number_text c.args.number)) c.push_number.ensures
