use Rattle.{std.{proofs.Common.{◌∙◌, rules}, proofs.lemmas.Result.{err_from_is_err_and}}, array_text.{specs.Tables.{records_of}, proofs.Tables.{table_is}}}
use Rattle.array_text.proofs.table_reader.read_table.Goals as goal

pub returns-in_err-rows : goal.returns-in_err-rows
returns-in_err-rows c =
    let given = err_from_is_err_and c.from_residual.result c.from_residual.ensures.1 in
    rw (given.1, given.2) (c.in_err-rows.ensures (records_of c.args.bytes.now) c.reader_of-reader.ensures)

pub matrix-requires-clause-within : goal.matrix-requires-clause-within
matrix-requires-clause-within c = (c.in_ok-rows.ensures (records_of c.args.bytes.now) c.reader_of-reader.ensures).1.within

pub matrix-requires-clause-full : goal.matrix-requires-clause-full
matrix-requires-clause-full c = let full = (c.in_ok-rows.ensures (records_of c.args.bytes.now) c.reader_of-reader.ensures).1.full in search (rules, full)

pub returns : goal.returns
returns c =
    let all = records_of c.args.bytes.now in
    let read = c.in_ok-rows.ensures all c.reader_of-reader.ensures in
    (read.0, c.in_ok-matrix.ensures ∙ table_is c.args.header all c.in_ok-rows.rows c.in_ok-rows.columns c.push_records.new.numbers.items read.1)
