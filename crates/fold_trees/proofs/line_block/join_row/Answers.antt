use Rattle.std.proofs.Common.{◌∙◌, ◌+◌, ◌*◌, ◌≤◌, sym, ap, subst, arith}
use Rattle.fold_trees.{specs.LineTrees.{slot_of, segment, node_of}, specs.LineBlocks.{line_of}, proofs.Segments.{segment_split}, proofs.BlockParts.{kept_on, rows_outside, quarter, half_told, later_told}}
use Rattle.fold_trees.proofs.line_block.join_row.Goals as goal

pub halves_row-requires-clause-told : goal.halves_row-requires-clause-told
halves_row-requires-clause-told g c column below =
    let low = quarter c.args.half c.requires.half.0 c.requires.half.1 (λ e. let no : ⊥ = omega (arith, e, c.requires.wide) in no) in (
      segment (slot_of (line_of c.args.first column) c.args.numbers.now) c.args.from c.args.half,
      half_told g.P.Part.blank g.P.Part.tells c.args.from c.args.half low.0 c.requires.from.0 c.args.first c.args.numbers.now c.args.nodes.now low.1 c.requires.from.1
          (omega (arith, c.if-first-from.false, c.requires.short)) c.requires.kept column below,
    )

pub halves_row-requires-clause-later : goal.halves_row-requires-clause-later
halves_row-requires-clause-later g c column below =
    let low = quarter c.args.half c.requires.half.0 c.requires.half.1 (λ e. let no : ⊥ = omega (arith, e, c.requires.wide) in no) in (
      segment (slot_of (line_of c.args.first column) c.args.numbers.now) (c.args.from + c.args.half) c.args.half,
      later_told g.P.Part.blank g.P.Part.tells c.args.from c.args.half low.0 c.requires.from.0 c.args.first c.args.numbers.now c.args.nodes.now low.1 c.requires.from.1
          (omega (arith, c.if-first-from.false, c.requires.short)) c.requires.kept column below,
    )

pub returns-then-first-from-clause-kept : goal.returns-then-first-from-clause-kept
returns-then-first-from-clause-kept g c =
    kept_on g.P.Part.blank g.P.Part.tells c.args.first c.args.numbers.now c.args.nodes.now c.last_row.new.nodes c.requires.half.0 c.requires.from.0 c.args.from c.args.half
    c.requires.half.1 c.requires.from.1 c.last_row.ensures.others c.last_row.ensures.told c.requires.kept

pub returns-else-first-from-clause-kept : goal.returns-else-first-from-clause-kept
returns-else-first-from-clause-kept g c =
    let first = c.args.first in
    let numbers = c.args.numbers.now in
    let from = c.args.from in
    let half = c.args.half in
    let tells = g.P.Part.tells in
    let blank = g.P.Part.blank in
    let nodes = c.args.nodes.now in
    let low = quarter half c.requires.half.0 c.requires.half.1 (λ e. let no : ⊥ = omega (arith, e, c.requires.wide) in no) in
    let full : from + 2 * half ≤ first.count = omega (arith, c.if-first-from.false, c.requires.short) in
    kept_on blank tells first numbers nodes c.halves_row.new.nodes c.requires.half.0 c.requires.from.0 from half c.requires.half.1 c.requires.from.1 c.halves_row.ensures.others
    (λ column below.
    let x = slot_of (line_of first column) numbers in
    subst (tells (node_of blank (line_of first column) c.halves_row.new.nodes (from + half))) (sym (segment_split x from half half) ∙ ap (segment x from) (omega (arith, full)))
    (c.halves_row.ensures.told column below (segment x from half) (segment x (from + half) half)
    (half_told blank tells from half low.0 c.requires.from.0 first numbers nodes low.1 c.requires.from.1 full c.requires.kept column below)
    (later_told blank tells from half low.0 c.requires.from.0 first numbers nodes low.1 c.requires.from.1 full c.requires.kept column below)))
    c.requires.kept

pub returns-else-first-from-clause-others : goal.returns-else-first-from-clause-others
returns-else-first-from-clause-others g c =
    rows_outside g.P.Part.blank c.args.first (c.args.from + c.args.half) c.args.nodes.now c.halves_row.new.nodes
    (omega (arith, c.requires.wide)) c.requires.short c.halves_row.ensures.others
