use Rattle.std.{proofs.Common.{rules, refl, ◌≡◌, false, true}, specs.List.{list_all}}
use Rattle.selection_fns.{specs.Index.{written_positions, are_numbers, are_on}, proofs.Indexed.{ranks_do_agree, ranks_do_not_agree}}
use Rattle.selection_fns.proofs.index.check_positions.Goals as goal

pub returns-then-written-axes-clause-failed : goal.returns-then-written-axes-clause-failed
returns-then-written-axes-clause-failed c rest =
    rw (ranks_do_not_agree c.args.array.now c.args.written.now c.args.positions.now c.requires.long (λ same. search (rules, same))) refl

pub returns-then-not-are_numbers-clause-failed : goal.returns-then-not-are_numbers-clause-failed
returns-then-not-are_numbers-clause-failed c rest =
    let numbers : list_all are_numbers (written_positions c.args.written.now c.args.positions.now) ≡ false = search rules in
    rw (ranks_do_agree c.args.array.now c.args.written.now c.args.positions.now c.requires.long (search rules) (search rules), numbers) refl

pub returns-then-not-are_on-clause-failed : goal.returns-then-not-are_on-clause-failed
returns-then-not-are_on-clause-failed c rest =
    let numbers : list_all are_numbers (written_positions c.args.written.now c.args.positions.now) ≡ true = search rules in
    let on : are_on c.args.array.now.shape (written_positions c.args.written.now c.args.positions.now) ≡ false = search rules in
    rw (ranks_do_agree c.args.array.now c.args.written.now c.args.positions.now c.requires.long (search rules) (search rules), numbers, on) refl

pub returns-clause-passed : goal.returns-clause-passed
returns-clause-passed c rest =
    let numbers : list_all are_numbers (written_positions c.args.written.now c.args.positions.now) ≡ true = search rules in
    let on : are_on c.args.array.now.shape (written_positions c.args.written.now c.args.positions.now) ≡ true = search rules in
    rw (ranks_do_agree c.args.array.now c.args.written.now c.args.positions.now c.requires.long (search rules) (search rules), numbers, on) refl
