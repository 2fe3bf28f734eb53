use Rattle.std.{proofs.Common.{arith}, proofs.lemmas.Result.{err_from_is_err_and}}
use Rattle.array_text.proofs.Tables.{all_read, fault_here, first_record, none_read, stands_on, too_many}
use Rattle.array_text.proofs.table_reader.push_records.Goals as goal

pub returns-then-not-branch : goal.returns-then-not-branch
returns-then-not-branch c = λ all left.
    none_read c.args.header all c.args.numbers.now.items ((c.in_ok-read_next.ensures all left).none c.if-not-branch.true) c.requires.none

pub returns-in_err-push_record : goal.returns-in_err-push_record
returns-in_err-push_record c = λ all left.
    let some = (c.in_ok-read_next.ensures all left).some c.if-not-branch.false in
    let given = err_from_is_err_and c.from_residual-in_err-push_record.result c.from_residual-in_err-push_record.ensures.1 in
    rw (given.1, given.2) (fault_here (first_record some.1 c.len-columns.ensures c.requires.none) c.in_err-push_record.field-0.0 c.in_err-push_record.ensures)

pub loop-count-init : goal.loop-count-init
loop-count-init c = record {
  stands = λ all left.
      let some = (c.in_ok-read_next.ensures all left).some c.if-not-branch.false in
      let read = c.in_ok-push_record.ensures in
      (some.0, some.2, stands_on (first_record some.1 c.len-columns.ensures c.requires.none) read.0 read.1);
  some = omega arith;
}

pub read_next-requires-in-loop-count : goal.read_next-requires-in-loop-count
read_next-requires-in-loop-count c = let now = c.loop-count.invariant.stands c.requires.left.0 c.requires.left.1 in (now.0, now.1)

pub returns-then-not-branch-2 : goal.returns-then-not-branch-2
returns-then-not-branch-2 c = λ all left.
    let now = c.loop-count.invariant.stands all left in
    let none = (c.in_ok-read_next-2.ensures now.0 now.1).none c.if-not-branch-2.true in
    rw c.rows_of.ensures (all_read (rw none at now.2) c.loop-count.invariant.some)

pub returns-in_err-push_record-2 : goal.returns-in_err-push_record-2
returns-in_err-push_record-2 c = λ all left.
    let now = c.loop-count.invariant.stands all left in
    let some = (c.in_ok-read_next-2.ensures now.0 now.1).some c.if-not-branch-2.false in
    let given = err_from_is_err_and c.from_residual-in_err-push_record-2.result c.from_residual-in_err-push_record-2.ensures.1 in
    rw (given.1, given.2) (fault_here (rw some.1 at now.2) c.in_err-push_record-2.field-0.0 c.in_err-push_record-2.ensures)

pub loop-count-preserved : goal.loop-count-preserved
loop-count-preserved c = record {
  stands = λ all left.
      let now = c.loop-count.invariant.stands all left in
      let some = (c.in_ok-read_next-2.ensures now.0 now.1).some c.if-not-branch-2.false in
      let read = c.in_ok-push_record-2.ensures in
      (some.0, some.2, stands_on (rw some.1 at now.2) read.0 read.1);
  some = omega arith;
}

pub unreachable-requires : goal.unreachable-requires
unreachable-requires c =
    let now = c.loop-count.invariant.stands c.requires.left.0 c.requires.left.1 in
    too_many c.args.header c.len-columns.result c.loop-count.count c.loop-count-test.false (now.2.within c.loop-count.invariant.some)
