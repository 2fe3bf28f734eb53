use Rattle.std.{proofs.Common.{◌≡◌, ◌∙◌, ap, sym, length, map, arith}, proofs.lemmas.List.{length-map}}
use Rattle.arrays_core.specs.declared.item.Item.TheVariants.{Num}
use Rattle.selection_fns.{specs.IndexPlaces.{sums, row_places}, proofs.PlaceSums.{length-sums, sums_below}, proofs.NumbersAt.{items_at}}
use Rattle.selection_fns.proofs.index_places.Places.numbers.Goals as goal

pub numbers_at-requires-clause-few : goal.numbers_at-requires-clause-few
numbers_at-requires-clause-few c =
    rw (c.deref.ensures.value, c.deref-2.ensures.value ∙ sym (ap row_places c.in-Listed.is)) (omega (arith, length-sums c.args.self.now.heads.items (row_places c.args.self.now.row)))

pub numbers_at-requires-clause-inside : goal.numbers_at-requires-clause-inside
numbers_at-requires-clause-inside c =
    let long : length c.in-Some.numbers.now ≡ length c.args.array.now.items = sym (ap length c.in-Some.ensures.is.1 ∙ length-map c.in-Some.numbers.now (λ z. Num z)) in
    rw (c.deref.ensures.value, c.deref-2.ensures.value ∙ sym (ap row_places c.in-Listed.is), long) (sums_below _ _ (length c.args.array.now.items) c.requires.inside)

pub returns-clause-items : goal.returns-clause-items
returns-clause-items c =
    let read = c.in-Some.ensures.is in
    let made = rw (c.deref.ensures.value, c.deref-2.ensures.value ∙ sym (ap row_places c.in-Listed.is)) at c.in_ok-numbers_at.ensures in
    ap (map (λ z. Num z)) made ∙ sym (items_at c.args.array.now.item_type c.args.array.now.items c.in-Some.numbers.now read.0 read.1 (sums c.args.self.now.heads.items (row_places c.args.self.now.row)))
