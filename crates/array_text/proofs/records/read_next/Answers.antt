use Rattle.{csv.specs.Records.{fields_of}, array_text.proofs.Reading.{read_on}}
use Rattle.array_text.proofs.records.read_next.Goals as goal

pub returns-in-Ok : goal.returns-in-Ok
returns-in-Ok g c rest left =
    let first = rw c.in-Ok.is at (c.read_byte_record.ensures.ready left.plain) in
    let flexible = rw c.in-Ok.is at c.read_byte_record.ensures.flexible in
    let read = rw c.in-Ok.is at (c.read_byte_record.ensures.reads) left.plain left.ready in
    read_on g.R.Read.remaining c.args.reader.now c.read_byte_record.new.self c.in-Ok.found (fields_of c.read_byte_record.new.row) rest first flexible read left
