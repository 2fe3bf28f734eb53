use Rattle.std.{proofs.Common.{refl, ◌≡◌, ◌++◌, append_assoc}, specs.Prelude.{decimal, string_bytes, encode_utf8}}
use Rattle.array_text.{specs.Text.{number_text}, proofs.Writing.{pushed}, proofs.Numerals.{number_text-minus, number_text-plus}, proofs.numbers.push_number.Goals.{then-number-lt0+in_ok-push, else-number-lt0}}
use Rattle.array_text.proofs.numbers.push_number.Goals as goal

pub returns : goal.returns
returns c =
    let before = string_bytes c.args.out.now in
    let digits = c.format.result.now in
    let whole : string_bytes c.if-number-lt0.out ++ digits ≡ before ++ number_text c.args.number = elim c.if-number-lt0.branch [
      | then-number-lt0+in_ok-push w ↦
          let text = number_text-minus c.args.number _ c.ranges.number c.unsigned_abs.ensures.value w.if-number-lt0.true in
          rw (w.out-is, w.in_ok-push.ensures.bytes, c.format.ensures.text, text.0) (append_assoc before (encode_utf8 175) (decimal c.unsigned_abs.result))
      | else-number-lt0 w ↦
          let text = number_text-plus c.args.number _ c.ranges.number c.unsigned_abs.ensures.value w.if-number-lt0.false in
          rw (w.out-is, c.format.ensures.text, text.0) refl
    ] in
    pushed c.push_str.result (string_bytes c.push_str.new.self) (string_bytes c.if-number-lt0.out) digits (before ++ number_text c.args.number) c.push_str.ensures.bytes whole
