use Rattle.std.{proofs.Common.{◌∙◌, refl, map, sym, rules}, proofs.lemmas.List.{length-map}}
use Rattle.search_fns.{proofs.Lookups.{first_in_table, below_table, above_table}, proofs.lookup.before_in_table.Goals.{then-key-least-via-then-key-least, then-key-least-via-else-key-least+then-firsts-offset}}
use Rattle.search_fns.proofs.lookup.before_in_table.Goals as goal

pub returns-then-key-least : goal.returns-then-key-least
returns-then-key-least g c =
    sym (length-map c.args.items.now g.T.Key.code)
    ∙ elim c.then-key-least.branch [
      | then-key-least-via-then-key-least w ↦
          below_table (map g.T.Key.code c.args.items.now) c.args.least c.key-2.result (g.T.Key.code c.args.sought) c.args.firsts.now _ (search rules) c.ranges.least c.key-2.ensures refl c.requires.within w.if-key-least.true
      | then-key-least-via-else-key-least+then-firsts-offset w ↦
          above_table (map g.T.Key.code c.args.items.now) c.args.least c.key.result (g.T.Key.code c.args.sought) c.args.firsts.now c.abs_diff-offset.result (search rules) c.ranges.least c.key.ensures
          c.abs_diff-offset.ensures c.requires.within w.if-firsts-offset.true
    ]

pub returns : goal.returns
returns g c =
    let same = c.key.ensures ∙ sym c.key-2.ensures in
    first_in_table (map g.T.Key.code c.args.items.now) c.args.least c.key.result (g.T.Key.code c.args.sought) c.args.firsts.now c.abs_diff-offset.result (search rules) c.ranges.least c.key.ensures
    c.abs_diff-offset.ensures c.requires.firsts (rw same (c.if-key-least.false)) c.if-firsts-offset.false
