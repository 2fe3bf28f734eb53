use Rattle.std.proofs.Common.{◌∙◌, sym}
use Rattle.array_text.{proofs.Ranks.{text_of_numbers, text_of_characters}, proofs.arrays.print.Goals.{in-Some+in_ok-push_items-in-Some, in-None+in_ok-push_items-in-None}}
use Rattle.array_text.proofs.arrays.print.Goals as goal

pub returns : goal.returns
returns c =
    let axes = c.as_slice-axes.ensures ∙ c.shape.ensures.is in
    elim c.match-numbers.branch [
      | in-Some+in_ok-push_items-in-Some w ↦
          rw (w.text-is, w.in_ok-push_items-in-Some.ensures, c.new-text.ensures.bytes, axes)
          (sym (text_of_numbers c.args.array.now w.in-Some.numbers.now w.in-Some.ensures.is.0 w.in-Some.ensures.is.1))
      | in-None+in_ok-push_items-in-None w ↦
          let is = rw w.unwrap.ensures at w.characters.ensures.is in
          rw (w.text-is, w.in_ok-push_items-in-None.ensures, c.new-text.ensures.bytes, axes)
          (sym (text_of_characters c.args.array.now w.unwrap.result.now is.0 is.1))
    ]
