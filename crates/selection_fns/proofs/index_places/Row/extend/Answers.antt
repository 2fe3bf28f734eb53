use Rattle.{std.{proofs.Common.{◌≡◌, ℕ, ◌+◌, ◌++◌, ◌∙◌, ap, sym, subst, length, map, get_or}, specs.Prelude.{OnOk}}, arrays_core.specs.Items.{fill}}
use Rattle.selection_fns.{specs.IndexPlaces.{row_places}, proofs.PlaceSums.{run_inside, listed_map}}
use Rattle.selection_fns.proofs.index_places.Row.extend.Goals as goal

pub extend_run-requires-clause-inside : goal.extend_run-requires-clause-inside
extend_run-requires-clause-inside c = run_inside c.args.head c.in-Run.count (length c.args.array.now.items) c.requires.begins (rw c.in-Run.is at c.requires.inside)

pub returns-in-Listed-clause-items : goal.returns-in-Listed-clause-items
returns-in-Listed-clause-items c =
    let item = λ (k : ℕ). get_or c.args.array.now.items (c.args.head + k) (fill c.args.array.now.item_type) in
    subst (λ xs. OnOk c.extend_places.result (c.extend_places.new.items.items ≡ c.args.items.now.items ++ xs))
    (listed_map item c.deref.result.now ∙ ap (map item) (c.deref.ensures.value ∙ sym (ap row_places c.in-Listed.is)))
    c.extend_places.ensures.items
