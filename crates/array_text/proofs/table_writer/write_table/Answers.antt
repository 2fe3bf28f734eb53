use Rattle.std.{proofs.Common.{◌≡◌, ◌∙◌, ◌<◌, ap, refl, sym, length, map, arith}, proofs.lemmas.Bool.{eqb-true}}
use Rattle.array_text.{specs.Text.{item_number}, proofs.Written.{table_none, numbers_in, one_record, many_records, no_items}, proofs.table_writer.write_table.Goals.{then-axes-lt2+in_ok-push_record, else-axes-lt2+in_ok-push_records}}
use Rattle.array_text.proofs.table_writer.write_table.Goals as goal

pub returns-in_default : goal.returns-in_default
returns-in_default c =
    let a = c.args.array.now in
    c.new-text.ensures.bytes ∙ sym (table_none a.shape (map item_number a.items) (no_items a.item_type a.items (c.in_default.ensures.none.0 refl) c.shape.ensures.sound.one_type c.requires.numbers))

pub returns-then-is_empty : goal.returns-then-is_empty
returns-then-is_empty c =
    let a = c.args.array.now in
    let zs = c.in-Some.numbers.now in
    c.new-text.ensures.bytes ∙ sym (numbers_in a.shape a.items zs c.in-Some.ensures.is.1 ∙ table_none a.shape zs (eqb-true (length zs) 0 (sym c.if-is_empty.ensures)))

pub returns : goal.returns
returns c =
    let a = c.args.array.now in
    let zs = c.in-Some.numbers.now in
    let axes = c.as_slice-axes.ensures ∙ c.shape.ensures.is in
    let some = sym c.if-is_empty.ensures in
    let numbers = numbers_in a.shape a.items zs c.in-Some.ensures.is.1 in
    elim c.if-axes-lt2.branch [
      | then-axes-lt2+in_ok-push_record w ↦
          let low : length a.shape < 2 = let l = w.if-axes-lt2.true in let e = ap length axes in omega arith in
          rw (w.text-is, w.in_ok-push_record.ensures, c.new-text.ensures.bytes) (sym (numbers ∙ one_record a.shape zs some low))
      | else-axes-lt2+in_ok-push_records w ↦
          let two : length a.shape ≡ 2 = let l = w.if-axes-lt2.false in let e = ap length axes in let most = c.requires.rank in omega arith in
          rw (w.text-is, w.in_ok-push_records.ensures, c.new-text.ensures.bytes, axes) (sym (numbers ∙ many_records a.shape zs some two))
    ]
