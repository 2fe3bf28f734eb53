use Rattle.std.{proofs.Common.{rules, ◌≡◌, ◌∙◌, ◌+◌, ◌-◌, ◌<◌, ℕ, List, true, length, get_or, pos, unsigned_abs, ap, sym, subst, arith, Some, to_z, of_z, w64, SFits}, specs.Prelude.{IfSome}, proofs.lemmas.Int.{to_z-of_z}}
use Rattle.{arrays_core.{specs.Arrays.{item_of}, specs.Shapes.{size, index_after}}, index_region.{specs.Arguments.{numbers}, specs.Boxes.{cover}}}
use Rattle.change_core.specs.Places.{lies_in}
use Rattle.selection_fns.{specs.Index.{place_named}, proofs.ResultAxes.{length-cover_one, named_at, one_more_hit, one_more_miss}, proofs.index_rule.places_naming.Goals.{then-names_place_of, else-names_place_of}}
use Rattle.selection_fns.proofs.index_rule.places_naming.Goals as goal

pub with_place-requires : goal.with_place-requires
with_place-requires c =
    let k = c.loop-before.before in
    let same : k + 1 - 1 ≡ k = omega arith in
    let place : c.cover-point.result ≡ cover c.args.position.now.shape k k = c.cover-point.ensures ∙ (λ i. cover (c.shape-shape.ensures.is i) (same i) (same i)) in
    subst (λ (n : ℕ). IfSome c.loop-before.found (λ b. length b ≡ n)) (sym (length-cover_one c.args.position.now.shape k) ∙ ap length (sym place)) c.loop-before.invariant.long

pub loop-before-preserved : goal.loop-before-preserved
loop-before-preserved c =
    let k = c.loop-before.before in
    let p = c.args.position.now in
    let s = c.args.interval in
    let test = λ (part : List ℕ). lies_in s (place_named (item_of p part)) in
    let sound = c.shape-shape.ensures.sound in
    let below : k < size p.shape = search rules in
    let first : k + 1 - 1 ≡ k = omega arith in
    let fits : SFits w64 c.number.result = record { sfits = c.number.type_inv } in
    let number : to_z w64 (of_z w64 c.number.result) ≡ get_or (numbers p) k (pos 0) = to_z-of_z w64 _ fits ∙ c.number.ensures ∙ ap (λ (m : ℕ). get_or (numbers p) m (pos 0)) first in
    let named : c.names_place_of.result ≡ test (index_after p.shape k) = c.names_place_of.ensures ∙ ap (λ z. lies_in s (unsigned_abs z)) number ∙ ap (lies_in s) (sym (named_at p k below sound.one_item_a_place)) in
    elim c.if-names_place_of.branch [
      | then-names_place_of w ↦
          let place : w.cover-point.result ≡ cover p.shape k k = w.cover-point.ensures ∙ (λ i. cover (c.shape-shape.ensures.is i) (first i) (first i)) in
          let hit : test (index_after p.shape k) ≡ true = sym named ∙ w.if-names_place_of.true in
          let next : c.if-names_place_of.found ≡ Some w.with_place.result = w.found-is in
          record {
            so_far = one_more_hit p.shape test k c.loop-before.found c.if-names_place_of.found w.cover-point.result c.loop-before.invariant.so_far hit place (next ∙ w.with_place.ensures.is);
            long = rw next (w.with_place.ensures.long ∙ ap length place ∙ length-cover_one p.shape k);
          }
      | else-names_place_of w ↦
          record {
            so_far = w.found-is ∙ one_more_miss p.shape test k c.loop-before.found c.loop-before.invariant.so_far (sym named ∙ w.if-names_place_of.false);
            long = rw w.found-is c.loop-before.invariant.long;
          }
    ]
