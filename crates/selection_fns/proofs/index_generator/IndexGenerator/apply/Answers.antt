use Rattle.{std.proofs.Common.{ap, sym, subst, ◌∙◌}, arrays_core.specs.Arrays.{IsAnswerTo, vector_of}, selection_fns.proofs.Generated.{generated}}
use Rattle.selection_fns.proofs.index_generator.IndexGenerator.apply.Goals as goal

pub returns : goal.returns
returns c =
    let known = generated c.args.args.now c.in_ok-shape.shape.items c.in_ok-shape.field-0-1 c.requires c.in_ok-shape.ensures.0 in
    subst (λ w. IsAnswerTo w c.vector.result) (sym (known.1 ∙ ap vector_of (sym (rw c.deref.ensures at c.in_ok-numbers.ensures)))) c.vector.ensures
