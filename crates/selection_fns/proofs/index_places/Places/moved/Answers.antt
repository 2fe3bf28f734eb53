use Rattle.std.{proofs.Common.{◌≡◌, ℕ, ◌+◌, ◌<◌, ◌∷◌, [], ◌∙◌, ap, sym, subst, length, get_or, rules}, specs.List.{range_with_len}}
use Rattle.selection_fns.{specs.IndexPlaces.{sums, row_places, all_places}, proofs.PlaceSums.{sums_first, sums_sums, sums_turned, heads_few, heads_fit, first_alone}, proofs.index_places.Places.moved.Goals.{Then-index-eq0}}
use Rattle.selection_fns.proofs.index_places.Places.moved.Goals as goal

-- the only head is place 0, so the places are those of the row
alone : (c : Then-index-eq0) → c.args.self.heads.items ≡ 0 ∷ []
alone c = first_alone c.args.self.heads.items (search rules) (subst (λ z. z ≡ get_or c.args.self.heads.items 0 z) c.if-index-eq0.true c.index.ensures)

same : (c : Then-index-eq0) → all_places c.args.self ≡ c.in-Listed.places.items
same c = ap (λ hs. sums hs (row_places c.args.self.row)) (alone c) ∙ sums_first (row_places c.args.self.row) ∙ ap row_places c.in-Listed.is

pub sums-requires-clause-fit : goal.sums-requires-clause-fit
sums-requires-clause-fit c =
    let here = (goal.at.sums-requires-clause-fit c).Then-index-eq0 in
    rw (c.deref.ensures.value, c.deref-then-len-lt-LEAST_ROW.ensures.value) (subst (λ ps. (i j : ℕ) → i < length c.args.offsets.items → j < length ps → get_or c.args.offsets.items i 0 + get_or ps j 0 < 4294967296) (same here) c.requires.fit)

pub returns-then-len-ge-LEAST_ROW : goal.returns-then-len-ge-LEAST_ROW
returns-then-len-ge-LEAST_ROW c =
    let here = (goal.at.returns-then-len-ge-LEAST_ROW c).Then-index-eq0 in
    sums_turned c.args.offsets.items c.in-Listed.places.items (search rules) ∙ ap (sums c.args.offsets.items) (sym (same here))

pub returns-then-len-lt-LEAST_ROW : goal.returns-then-len-lt-LEAST_ROW
returns-then-len-lt-LEAST_ROW c =
    let here = (goal.at.returns-then-len-lt-LEAST_ROW c).Then-index-eq0 in
    ap (λ hs. sums hs c.in_ok-sums-in-Listed.field-0.items) (alone here) ∙ sums_first c.in_ok-sums-in-Listed.field-0.items ∙ c.in_ok-sums-in-Listed.ensures
    ∙ (λ i. sums (c.deref.ensures.value i) (c.deref-then-len-lt-LEAST_ROW.ensures.value i)) ∙ ap (sums c.args.offsets.items) (sym (same here))

pub sums-requires-in-Listed-clause-few : goal.sums-requires-in-Listed-clause-few
sums-requires-in-Listed-clause-few c =
    rw (c.deref-in-Listed.ensures.value, c.deref-in-Listed-2.ensures.value) (heads_few c.args.offsets.items c.args.self.heads.items (row_places c.args.self.row) 1048576 c.requires.some c.requires.few)

pub sums-requires-in-Listed-clause-fit : goal.sums-requires-in-Listed-clause-fit
sums-requires-in-Listed-clause-fit c =
    rw (c.deref-in-Listed.ensures.value, c.deref-in-Listed-2.ensures.value) (heads_fit c.args.offsets.items c.args.self.heads.items (row_places c.args.self.row) 4294967296 c.requires.some c.requires.fit)

pub returns-in-Listed : goal.returns-in-Listed
returns-in-Listed c =
    let offsets = c.args.offsets.items in
    let places = c.in-Listed.places.items in
    ap (λ hs. sums hs places) (c.in_ok-heads-in-Listed.ensures ∙ ap (λ os. sums os c.deref-in-Listed-2.result.now) c.deref-in-Listed.ensures.value ∙ ap (sums offsets) c.deref-in-Listed-2.ensures.value)
    ∙ sums_sums offsets c.args.self.heads.items places ∙ ap (λ r. sums offsets (sums c.args.self.heads.items (row_places r))) (sym c.in-Listed.is)

pub sums-requires-in-Run-clause-few : goal.sums-requires-in-Run-clause-few
sums-requires-in-Run-clause-few c =
    rw (c.deref-in-Run.ensures.value, c.deref-in-Run-2.ensures.value) (heads_few c.args.offsets.items c.args.self.heads.items (row_places c.args.self.row) 1048576 c.requires.some c.requires.few)

pub sums-requires-in-Run-clause-fit : goal.sums-requires-in-Run-clause-fit
sums-requires-in-Run-clause-fit c =
    rw (c.deref-in-Run.ensures.value, c.deref-in-Run-2.ensures.value) (heads_fit c.args.offsets.items c.args.self.heads.items (row_places c.args.self.row) 4294967296 c.requires.some c.requires.fit)

pub returns : goal.returns
returns c =
    let offsets = c.args.offsets.items in
    ap (λ hs. sums hs (range_with_len 0 c.in-Run.count)) (c.in_ok-heads-in-Run.ensures ∙ ap (λ os. sums os c.deref-in-Run-2.result.now) c.deref-in-Run.ensures.value ∙ ap (sums offsets) c.deref-in-Run-2.ensures.value)
    ∙ sums_sums offsets c.args.self.heads.items (range_with_len 0 c.in-Run.count) ∙ ap (λ r. sums offsets (sums c.args.self.heads.items (row_places r))) (sym c.in-Run.is)
