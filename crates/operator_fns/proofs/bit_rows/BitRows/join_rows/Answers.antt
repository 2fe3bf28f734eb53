use Rattle.std.{proofs.Common.{◌≡◌, ◌∙◌, ◌<◌, ◌+◌, ◌-◌, ◌*◌, ◌/◌, ◌%◌, ap, sym, subst, get_or, length, drop, take, pos, arith, to_z, of_z, w64, rules}, specs.Int.{bit_at}, specs.Int.RustNames.{bit_or}}
use Rattle.std.proofs.lemmas.{Int.{to_z-of_z}, List.{length-take, length-drop}}
use Rattle.{function_names.specs.declared.scalar.Scalar2.TheVariants.{And}, item_fns.specs.Numbers.{dyadic_on_numbers}}
use Rattle.operator_fns.{specs.Unions.{bit_of}, proofs.TruthUnions.{IsUnion, and_one, and_none, or_none, not_one, none, union_more}, proofs.ProductSums.{row_high, in_rows, row_entry}, proofs.RowBits.{word_union}}
use Rattle.operator_fns.proofs.bit_rows.BitRows.join_rows.Goals as goal

pub loop-place-preserved-then-chosen-place-ne1 : goal.loop-place-preserved-then-chosen-place-ne1
loop-place-preserved-then-chosen-place-ne1 c =
    let chosen = c.args.chosen.now in
    let bits = c.args.self.now in
    let s = bits.columns in
    let rows = bits.rows.now in
    let n = length chosen in
    let k = c.loop-place.place - 1 in
    let whole : length rows ≡ n * s = bits.whole ∙ ap (λ m. m * s) (sym c.requires.count) in
    let low : k < n = omega (arith, c.loop-place.invariant.below) in
    let zero : get_or chosen k (pos 0) ≡ pos 0 = not_one _ (c.requires.truths k (pos 0) low) (λ h. c.if-chosen-place-ne1.true (ap (of_z w64) h)) in
    record {
      long = c.loop-place.invariant.long;
      joined = λ column below.
          let so_far = c.loop-place.invariant.joined column below in
          let y = bit_of c.loop-place.union column in
          let b = get_or rows (column + k * s) (pos 0) in
          let inside : column + k * s < length rows = omega (arith, in_rows column s k n below low, whole) in
          union_more (λ k. dyadic_on_numbers And (get_or chosen k (pos 0)) (get_or rows (column + k * s) (pos 0))) n c.loop-place.place y (pos 0) y (omega arith) c.loop-place.invariant.below so_far none
          (ap (λ a. dyadic_on_numbers And a b) zero ∙ and_none b (bits.truths (column + k * s) (pos 0) inside))
          (record { truth = so_far.truth; is = or_none y so_far.truth });
      below = omega (arith, c.loop-place.invariant.below);
    }

pub loop-place-preserved : goal.loop-place-preserved
loop-place-preserved c =
    let chosen = c.args.chosen.now in
    let bits = c.args.self.now in
    let s = bits.columns in
    let w = bits.width in
    let rows = bits.rows.now in
    let words = c.deref.result.now in
    let before = c.loop-place.union in
    let n = length chosen in
    let k = c.loop-place.place - 1 in
    let whole : length rows ≡ n * s = bits.whole ∙ ap (λ m. m * s) (sym c.requires.count) in
    let low : k < n = omega (arith, c.loop-place.invariant.below) in
    let all : length words ≡ n * w = c.deref.ensures.len ∙ bits.long ∙ ap (λ m. m * w) (sym c.requires.count) in
    let part = take (k * w + w - k * w) (drop (k * w) words) in
    let long : length part ≡ w = length-take (k * w + w - k * w) (drop (k * w) words) ∙ omega (arith, length-drop (k * w) words, all, row_high k w n low) in
    let same : to_z w64 (of_z w64 (get_or chosen k (pos 0))) ≡ get_or chosen k (pos 0) = to_z-of_z w64 _ (search rules) in
    let one : get_or chosen k (pos 0) ≡ pos 1 = sym same ∙ ap (to_z w64) c.if-chosen-place-ne1.false in
    record {
      long = c.join_words.ensures.long ∙ c.loop-place.invariant.long;
      joined = λ column below.
          let so_far = c.loop-place.invariant.joined column below in
          let y = bit_of before column in
          let z = bit_of c.join_words.new.union column in
          let b = get_or rows (column + k * s) (pos 0) in
          let truth = bits.truths (column + k * s) (pos 0) (omega (arith, in_rows column s k n below low, whole)) in
          let within : column / 64 < length part = omega (arith, bits.wide, long) in
          let word : get_or c.join_words.new.union (column / 64) 0 ≡ bit_or (get_or before (column / 64) 0) (get_or words (column / 64 + k * w) 0) =
          c.join_words.ensures.joined (column / 64) within ∙ ap (bit_or (get_or before (column / 64) 0)) (row_entry words 0 w k (column / 64) (omega (arith, long))) in
          let held : pos (bit_at (get_or words (column / 64 + k * w) 0) (column % 64)) ≡ b = ap (λ ws. pos (bit_at (get_or ws (column / 64 + k * w) 0) (column % 64))) c.deref.ensures.value ∙ bits.bits.each k column (omega (arith, c.requires.count)) below in
          let union : IsUnion b y z = subst (λ u. IsUnion b y (pos (bit_at u (column % 64)))) (sym word)
          (subst (λ x. IsUnion x y (pos (bit_at (bit_or (get_or before (column / 64) 0) (get_or words (column / 64 + k * w) 0)) (column % 64)))) held
          (word_union (get_or before (column / 64) 0) (get_or words (column / 64 + k * w) 0) (column % 64))) in
          union_more (λ k. dyadic_on_numbers And (get_or chosen k (pos 0)) (get_or rows (column + k * s) (pos 0))) n c.loop-place.place y b z (omega arith) c.loop-place.invariant.below so_far truth
          (ap (λ a. dyadic_on_numbers And a b) one ∙ and_one b truth) union;
      below = omega (arith, c.loop-place.invariant.below);
    }
