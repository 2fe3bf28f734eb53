use Rattle.std.{proofs.Common.{sym, ap, ◌∙◌}, proofs.lemmas.Bool.{eqb-true}}
use Rattle.apl_expr.{specs.Edits.{edit_of}, proofs.Editing.{no_items, not_none, some_items}}
use Rattle.apl_expr.proofs.edit.edit_end.Goals as goal

pub returns-then-is_empty : goal.returns-then-is_empty
returns-then-is_empty c =
    let none = eqb-true c.in-Items.items.len 0 (sym c.is_empty.ensures ∙ c.if-is_empty.true) in
    no_items c.in-Items.positions.items c.in-Items.items.items _ (ap edit_of c.in-Items.is) (sym c.in-Items.items.ok.0 ∙ none)

pub returns-in-Items : goal.returns-in-Items
returns-in-Items c =
    let some = not_none c.in-Items.items.len c.is_empty.result c.is_empty.ensures c.if-is_empty.false in
    (some_items c.in-Items.positions.items c.in-Items.items.items _ _ (ap edit_of c.in-Items.is) (λ none. some (c.in-Items.items.ok.0 ∙ none)) c.literal.ensures.numbers, c.literal.ensures.plain)
