use Rattle.std.{proofs.Common.{◌≡◌, ◌∙◌, ◌+◌, ◌*◌, ◌/◌, ◌%◌, suc, refl, ap, sym, length, get_or, drop, remove, arith}, proofs.lemmas.List.{length-map}, proofs.Math.Nat.{mul-div_cancel}}
use Rattle.{arrays_core.{specs.declared.item.Item.TheVariants.{Num}, specs.Shapes.{size}}, reduce_fns.proofs.Reduced.{lines_whole, some_lines}}
use Rattle.reduce_fns.proofs.axis_lines.AxisLines.along.Goals as goal

pub invariant_of-result : goal.invariant_of-result
invariant_of-result c =
    let b = c.args.array.now in
    let axis = c.args.axis in
    let n = get_or c.deref.result.now axis 0 in
    let count : n ≡ get_or b.shape axis 0 = ap (λ xs. get_or xs axis 0) (c.deref.ensures ∙ c.shape-axes.ensures.is) in
    let next : axis + 1 ≡ suc axis = omega arith in
    let apart : c.stride.result ≡ size (drop (suc axis) b.shape) = rw (c.as_slice.ensures, c.shape-axes.ensures.is, next) at c.stride.ensures.is in
    let sized : length c.args.numbers.now ≡ size b.shape = sym (length-map c.args.numbers.now (λ z. Num z)) ∙ sym (ap length c.requires.numbers) ∙ c.shape-axes.ensures.sound.one_item_a_place in
    let lines = lines_whole axis b.shape (remove b.shape axis) n c.stride.result c.requires.there refl count apart (omega (arith, sized, c.requires.some)) in
    let long : size (remove b.shape axis) * n ≡ length c.args.numbers.now = lines.1 ∙ sym sized in
    let places : length c.args.numbers.now / n ≡ size (remove b.shape axis) = ap (λ m. m / n) (sym long) ∙ mul-div_cancel _ lines.0 in
    record {
      apart = c.stride.ensures.apart;
      some = lines.0;
      filled = some_lines _ n (rw places (omega (arith, long, c.requires.some)));
      whole = ap (λ m. m * n) places ∙ long;
      even = ap (λ m. m % c.stride.result) places ∙ lines.2;
    }

pub returns-clause-places : goal.returns-clause-places
returns-clause-places c =
    let b = c.args.array.now in
    let axis = c.args.axis in
    let n = get_or c.deref.result.now axis 0 in
    let count : n ≡ get_or b.shape axis 0 = ap (λ xs. get_or xs axis 0) (c.deref.ensures ∙ c.shape-axes.ensures.is) in
    let next : axis + 1 ≡ suc axis = omega arith in
    let apart : c.stride.result ≡ size (drop (suc axis) b.shape) = rw (c.as_slice.ensures, c.shape-axes.ensures.is, next) at c.stride.ensures.is in
    let sized : length c.args.numbers.now ≡ size b.shape = sym (length-map c.args.numbers.now (λ z. Num z)) ∙ sym (ap length c.requires.numbers) ∙ c.shape-axes.ensures.sound.one_item_a_place in
    let lines = lines_whole axis b.shape (remove b.shape axis) n c.stride.result c.requires.there refl count apart (omega (arith, sized, c.requires.some)) in
    ap (λ m. m / n) (sym (lines.1 ∙ sym sized)) ∙ mul-div_cancel _ lines.0
