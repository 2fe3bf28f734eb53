use Rattle.{std.proofs.Common.{◌≡◌, ℕ, ◌+◌, ◌++◌, ◌∙◌, ap, subst, length, map, get_or, arith}, arrays_core.specs.Items.{fill}}
use Rattle.selection_fns.{specs.IndexPlaces.{row_places}, proofs.PlaceSums.{sums_below, some_first, picked_more}}
use Rattle.selection_fns.proofs.index_places.Places.extend.Goals as goal

pub extend-requires-clause-begins : goal.extend-requires-clause-begins
extend-requires-clause-begins c =
    let heads = c.args.self.now.heads.items in
    let row = row_places c.args.self.now.row in
    let long = ap length c.deref-head-items.ensures.value in
    let sum = sums_below heads row (length c.args.array.now.items) c.requires.inside c.loop-head.head-index 0 (omega arith) ((some_first heads row c.requires.some).1) in
    rw c.deref-head-items.ensures.value (omega arith)

pub extend-requires-clause-inside : goal.extend-requires-clause-inside
extend-requires-clause-inside c =
    let heads = c.args.self.now.heads.items in
    let row = row_places c.args.self.now.row in
    let long = ap length c.deref-head-items.ensures.value in
    rw c.deref-head-items.ensures.value (λ k h. sums_below heads row (length c.args.array.now.items) c.requires.inside c.loop-head.head-index k (omega arith) h)

pub loop-head-preserved : goal.loop-head-preserved
loop-head-preserved c =
    let row = row_places c.args.self.now.row in
    let k = c.loop-head.head-index in
    let item = λ (j : ℕ). get_or c.args.array.now.items j (fill c.args.array.now.item_type) in
    let new = c.extend.new.items.items in
    let put = subst (λ hs. new ≡ c.loop-head.items.items ++ map (λ j. item (get_or hs k 0 + j)) row) c.deref-head-items.ensures.value c.in_ok-extend.ensures.items in
    record {
      made = picked_more item c.args.items.now.items c.loop-head.items.items new c.args.self.now.heads.items row k (omega arith) c.loop-head.invariant.made put;
      typed = c.in_ok-extend.ensures.typed ∙ c.loop-head.invariant.typed;
    }
