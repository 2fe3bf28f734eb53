use Rattle.std.{proofs.Common.{◌≡◌, ℕ, ◌-◌, List, length, ap, ◌∙◌, arith}, proofs.lemmas.List.{length-drop, length-map, length-take}}
use Rattle.{index_region.specs.Boxes.{Interval}, operator_fns.proofs.Ranks.{few_rows_and_columns}}
use Rattle.operator_fns.proofs.inner_product.InnerAnnounced.box_of.Goals as goal

pub and_all-intervals-requires : goal.and_all-intervals-requires
and_all-intervals-requires c =
    let few = few_rows_and_columns c.args.args.now c.index-args-0.result c.args.which c.args.region.now c.args._shape.now c.requires.count c.index-args-0.is c.requires.below c.if-which-eq0.false c.requires.fit c.requires.checked in
    let axes = c.as_slice-else-which-eq0.result.now in
    let axes_long : length axes ≡ length c.index-args-0.result.shape = ap (λ (s : List ℕ). length s) (c.as_slice-else-which-eq0.ensures ∙ c.shape-else-which-eq0.ensures.is) in
    let rows = c.but_last-rows.result.now in
    let rows_long : length rows ≡ length axes - 1 = ap (λ (s : List ℕ). length s) c.but_last-rows.ensures ∙ omega (arith, length-take (length axes - 1) axes) in
    let whole_long : length c.whole.result ≡ length rows = ap (λ (s : List Interval). length s) c.whole.ensures ∙ length-map rows (λ n. (1, n)) in
    let box_long : length c.as_slice-else-which-eq0-2.result.now ≡ length c.args.region.now = ap (λ (s : List Interval). length s) c.as_slice-else-which-eq0-2.ensures.is in
    let rest_long : length c.but_first.result.now ≡ length c.as_slice-else-which-eq0-2.result.now - 1 = ap (λ (s : List Interval). length s) c.but_first.ensures ∙ length-drop 1 c.as_slice-else-which-eq0-2.result.now in
    omega arith
