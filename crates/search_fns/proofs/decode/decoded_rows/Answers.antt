use Rattle.std.{proofs.Common.{◌≡◌, ◌∙◌, ap, sym, drop, length, Ok, Err, List, ℕ, map, rules}, proofs.lemmas.List.{length-replicate}}
use Rattle.arrays_core.{specs.declared.item.Item.TheVariants.{Num}, specs.declared.item.ItemType.TheVariants.{Nums}, specs.declared.item.Kind.{Kind}, specs.declared.item.Kind.TheVariants.{Limit}, specs.declared.fault.ApplyFault.TheVariants.{Kind as KindFault}, specs.Shapes.{size}, specs.Arrays.{ArrayValue, collect}}
use Rattle.search_fns.{specs.Decode.{decode_item}, specs.DecodedRows.{AreDecoded, HasLimit}, proofs.DecodedRows.{rows_collected, limit_collected}}
use Rattle.search_fns.proofs.decode.decoded_rows.Goals as goal

pub returns-in_err-add_rows : goal.returns-in_err-add_rows
returns-in_err-add_rows c =
    let a = c.args.radices.now in
    let b = c.args.array.now in
    let e = c.in_err-add_rows.field-0.0 in
    let failed : (e ≡ Limit) × HasLimit a b = rw c.in_err-add_rows.was at c.add_rows.ensures.beyond in
    let answered : c.from_residual-in_err-add_rows.result ≡ Err (KindFault e) = search rules in
    let limit : collect Nums c.args.shape.now.items (decode_item a b) ≡ Err e =
    ap (λ (s : List ℕ). collect Nums s (decode_item a b)) c.requires.shape ∙ limit_collected a b failed.1 ∙ ap (λ (k : Kind). Err k) (sym failed.0) in
    rw answered limit

pub returns : goal.returns
returns c =
    let b = c.args.array.now in
    let zs = c.add_rows.new.numbers.items in
    let made : AreDecoded c.args.radices.now b zs = c.in_ok-add_rows.ensures.is in
    let long : length zs ≡ size (drop 1 b.shape) = c.in_ok-add_rows.ensures.long ∙ ap length c.in_ok-numbers.ensures ∙ length-replicate _ _ ∙ c.size-places.ensures ∙ ap size (c.as_slice.ensures ∙ c.requires.shape) in
    ap (λ (s : List ℕ). collect Nums s (decode_item c.args.radices.now b)) c.requires.shape
    ∙ rows_collected c.args.radices.now b zs long made
    ∙ ap (λ (s : List ℕ). Ok (record { item_type = Nums; shape = s; items = map (λ z. Num z) zs })) (sym c.requires.shape)
    ∙ ap (λ (w : ArrayValue). Ok w) (sym c.in_ok-from_numbers.ensures)
