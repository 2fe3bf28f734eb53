use Rattle.std.{proofs.Common.{rules, ◌≡◌, ◌∙◌, ◌+◌, ◌-◌, ◌++◌, ◌∷◌, [], ap, sym, length, take, drop, get_or, pos, arith}, proofs.lemmas.List.{length-drop, take_all, get_or-take, get_or-drop}}
use Rattle.{arrays_core.specs.Shapes.{places_before}, selection_fns.proofs.IndexedRows.{indices_of_row}}
use Rattle.selection_fns.proofs.index.indices_in_row.Goals as goal

pub slice_bounds-result-end : goal.slice_bounds-result-end
slice_bounds-result-end c =
    let p = c.args.indices.now in
    let own = drop (length c.args.row.now + 1 - length p.shape) c.args.row.now in
    let end : take (length c.args.row.now - (length c.args.row.now + 1 - length p.shape)) own ≡ own = take_all _ own (simp length-drop (omega arith)) in
    let place : c.places_before-before.result ≡ places_before p.shape (own ++ 1 ∷ []) =
    rw (c.shape-axes.ensures.is, c.as_slice.ensures, c.index_in_row-first.ensures.is, c.len.ensures.value, c.shape-axes.ensures.is, end) at c.places_before-before.ensures.is in
    let known = indices_of_row p c.in_ok-numbers.numbers.now own c.args.count c.shape-axes.ensures.sound c.in_ok-numbers.ensures.is.1 (c.requires.places (search rules)) c.requires.some in
    omega (arith, known.0)

pub returns-clause-is : goal.returns-clause-is
returns-clause-is c i h =
    let p = c.args.indices.now in
    let own = drop (length c.args.row.now + 1 - length p.shape) c.args.row.now in
    let end : take (length c.args.row.now - (length c.args.row.now + 1 - length p.shape)) own ≡ own = take_all _ own (simp length-drop (omega arith)) in
    let place : c.places_before-before.result ≡ places_before p.shape (own ++ 1 ∷ []) =
    rw (c.shape-axes.ensures.is, c.as_slice.ensures, c.index_in_row-first.ensures.is, c.len.ensures.value, c.shape-axes.ensures.is, end) at c.places_before-before.ensures.is in
    let first = c.places_before-before.result in
    let known = indices_of_row p c.in_ok-numbers.numbers.now own c.args.count c.shape-axes.ensures.sound c.in_ok-numbers.ensures.is.1 (c.requires.places (search rules)) c.requires.some in
    get_or-take (first + c.args.count - first) (drop first c.in_ok-numbers.numbers.now) i (pos 0) (omega arith) ∙ get_or-drop first c.in_ok-numbers.numbers.now i (pos 0)
    ∙ ap (λ k. get_or c.in_ok-numbers.numbers.now (k + i) (pos 0)) (let e : first ≡ places_before p.shape (own ++ 1 ∷ []) = omega arith in e) ∙ sym (known.1 i h)
