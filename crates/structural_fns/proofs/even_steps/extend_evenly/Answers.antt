use Rattle.std.{proofs.Common.{◌≡◌, ◌+◌, ◌-◌, ◌*◌, ◌<◌, ap, ◌∙◌, length, get_or, ◌++◌, arith}, proofs.lemmas.Result.{on_ok_weaker}}
use Rattle.{arrays_core.specs.Items.{fill}, structural_fns.proofs.SteppedRows.{listed_same}}
use Rattle.structural_fns.proofs.even_steps.extend_evenly.Goals as goal

pub item-requires-clause-high : goal.item-requires-clause-high
item-requires-clause-high c = let there : c.args.first + 0 * c.args.step < length c.args.array.now.items = c.requires.inside 0 c.requires.some in omega (arith, there)

pub extend_run-requires-clause-inside : goal.extend_run-requires-clause-inside
extend_run-requires-clause-inside c =
    let n = c.args.count in
    let last : c.args.first + (n - 1) * c.args.step < length c.args.array.now.items = let some = c.requires.some in c.requires.inside (n - 1) (omega arith) in
    omega (arith, rw c.if-step-eq1.true at last, c.requires.some)

pub returns-then-step-eq0-clause-items : goal.returns-then-step-eq0-clause-items
returns-then-step-eq0-clause-items c =
    let there : c.args.first + 1 - 1 ≡ c.args.first = omega arith in
    on_ok_weaker c.extend_with.result (λ e. e ∙ ap (λ xs. c.args.items.now.items ++ xs)
    (listed_same c.args.count (λ k. c.item.result) (λ k. get_or c.args.array.now.items (c.args.first + k * c.args.step) (fill c.args.array.now.item_type)) (λ k h.
    c.item.ensures.is ∙ ap (λ m. get_or c.args.array.now.items m (fill c.args.array.now.item_type)) (there ∙ rw c.if-step-eq0.true (omega arith))))) c.extend_with.ensures.items

pub returns-then-step-eq1-clause-items : goal.returns-then-step-eq1-clause-items
returns-then-step-eq1-clause-items c =
    let b = c.args.array.now in
    on_ok_weaker c.extend_run.result (λ e. e ∙ ap (λ xs. c.args.items.now.items ++ xs)
    (listed_same c.args.count (λ k. get_or b.items (c.args.first + k) (fill b.item_type)) (λ k. get_or b.items (c.args.first + k * c.args.step) (fill b.item_type)) (λ k h.
    ap (λ m. get_or b.items m (fill b.item_type)) (rw c.if-step-eq1.true (omega arith))))) c.extend_run.ensures.items
