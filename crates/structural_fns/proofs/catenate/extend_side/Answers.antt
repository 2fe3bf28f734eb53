use Rattle.std.{proofs.Common.{◌+◌, ◌<◌, ap, ◌∙◌, ◌++◌, arith}, proofs.lemmas.Result.{on_ok_weaker}}
use Rattle.structural_fns.{specs.Catenate.{in_side_of_row}, proofs.JoinedRows.{some_items, first_least, side_inside, side_items}}
use Rattle.structural_fns.proofs.catenate.extend_side.Goals as goal

pub overflow_sub-second : goal.overflow_sub-second
overflow_sub-second c =
    let s = c.args.side.now in
    let some : 0 < c.args.kept = let not_none = c.if-kept-eq0.false in omega arith in
    rw (c.place_in_side-first.ensures.is, c.place_in_side-second.ensures.is)
    (first_least s c.args.axis c.args.skipped c.args.row.now c.args.before c.args.kept c.requires.axis c.requires.skipped c.requires.inside c.min.result c.min.ensures some)

pub extend_evenly-requires-clause-typed : goal.extend_evenly-requires-clause-typed
extend_evenly-requires-clause-typed c =
    let s = c.args.side.now in
    let some : 0 < c.args.kept = let not_none = c.if-kept-eq0.false in omega arith in
    c.requires.typed (some_items s (in_side_of_row c.args.axis c.args.skipped s c.args.row.now (c.args.before + 1)) c.place_in_side-first.ensures.sound
    (c.requires.inside (c.args.before + 1) (omega arith) (omega arith)))

pub extend_evenly-requires-clause-inside : goal.extend_evenly-requires-clause-inside
extend_evenly-requires-clause-inside c =
    let some : 0 < c.args.kept = let not_none = c.if-kept-eq0.false in omega arith in
    side_inside c.args.side.now c.args.axis c.args.skipped c.args.row.now c.args.before c.args.kept c.requires.axis c.requires.skipped c.requires.inside
    c.place_in_side-first.result c.place_in_side-second.result c.min.result c.min.ensures some c.place_in_side-first.ensures.is c.place_in_side-second.ensures.is c.place_in_side-first.ensures.sound

pub returns-clause-items : goal.returns-clause-items
returns-clause-items c =
    let some : 0 < c.args.kept = let not_none = c.if-kept-eq0.false in omega arith in
    on_ok_weaker c.extend_evenly.result (λ e. e ∙ ap (λ xs. c.args.items.now.items ++ xs)
    (side_items c.args.side.now c.args.axis c.args.skipped c.args.row.now c.args.before c.args.kept c.requires.axis c.requires.skipped c.requires.inside
    c.place_in_side-first.result c.place_in_side-second.result c.min.result c.min.ensures some c.place_in_side-first.ensures.is c.place_in_side-second.ensures.is)) c.extend_evenly.ensures.items
