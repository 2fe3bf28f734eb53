use Rattle.{std.proofs.Common.{List, [], get_or, Option, refl, sym, subst, ap, ◌∙◌}, apl_expr.specs.Trees.{Const, Name}}
use Rattle.formula_core.{specs.declared.table.Node.{Node}, specs.declared.table.Operand.{Operand}, specs.Meaning.{eval}, specs.Tables.{tree_of_node, tree_of_index, tree_of_operand}, specs.Plans.{node_change}, specs.Stages.{IsStep, IsJoined, IsKeptBy, IsMadeBy}, proofs.Applied.{least_between, most_between}}
use Rattle.formula_core.{proofs.Steps.{leaf_step, name_input, name_told}, proofs.Joined.{kept_well, monad_joined, unjoined}, proofs.Summed.{kept_for, made_for}, proofs.Stepping.{monad_step, dyad_step}, specs.Rules.{with_change}}
use Rattle.formula_core.proofs.stage.Stage.change_of.Goals as goal

pub returns-in-Constant-clause-step : goal.returns-in-Constant-clause-step
returns-in-Constant-clause-step c = λ change names trees staged holds.
    subst (λ (n : Node). IsStep c.args.self.now.is_new change (tree_of_node names trees n) c.args.meter.now.ticks c.args.meter.now.ticks (with_change c.change_of_literal.new.change c.change_of_literal.result)) (sym c.in-Constant.is)
    (leaf_step c.args.self.now.is_new change (Const c.in-Constant.constant.value) c.args.meter.now.ticks c.change_of_literal.new.change c.change_of_literal.result c.change_of_literal.ensures.change
    (λ is. is change ∙ ap (λ l. node_change c.args.self.now.is_new change (Const l)) c.deref.ensures) c.change_of_literal.ensures.free refl)

pub returns-in-Name-clause-step : goal.returns-in-Name-clause-step
returns-in-Name-clause-step c = λ change names trees staged holds.
    let within = rw c.in-Name.is at c.requires.node in
    subst (λ (n : Node). IsStep c.args.self.now.is_new change (tree_of_node names trees n) c.args.meter.now.ticks c.args.meter.now.ticks (with_change c.change_of_name.new.change c.change_of_name.result)) (sym c.in-Name.is)
    (leaf_step c.args.self.now.is_new change (Name (get_or names c.in-Name.place [])) c.args.meter.now.ticks c.change_of_name.new.change c.change_of_name.result c.change_of_name.ensures.change
    (λ is. is change _ (name_input change names trees c.args.self.now staged c.in-Name.place within _ refl) (name_told change names trees c.args.self.now staged c.in-Name.place within)) c.change_of_name.ensures.free refl)

pub change_of_monad-requires-clause-kept : goal.change_of_monad-requires-clause-kept
change_of_monad-requires-clause-kept c =
    kept_for c.args.self.now c.in-Monad.function c.in-Monad.right (rw c.in-Monad.is at c.requires.node) c.args.kept.now (subst (λ (n : Node). IsKeptBy c.args.self.now n c.args.kept.now) c.in-Monad.is c.requires.kept) c.argument-right.result c.argument-right.ensures.ready

pub change_of_monad-requires-clause-made : goal.change_of_monad-requires-clause-made
change_of_monad-requires-clause-made c =
    made_for c.args.self.now c.in-Monad.function c.in-Monad.right c.args.made.now (subst (λ (n : Node). IsMadeBy c.args.self.now n c.args.made.now) c.in-Monad.is c.requires.made) c.argument-right.result c.argument-right.ensures.ready

pub returns-in-Monad-clause-step : goal.returns-in-Monad-clause-step
returns-in-Monad-clause-step c = λ change names trees staged holds.
    subst (λ (n : Node). IsStep c.args.self.now.is_new change (tree_of_node names trees n) c.args.meter.now.ticks c.change_of_monad.new.meter.ticks (with_change c.change_of_monad.new.change c.change_of_monad.result)) (sym c.in-Monad.is)
    (monad_step c.args.self.now.is_new change c.in-Monad.function (tree_of_operand names trees c.in-Monad.right) c.argument-right.result c.args.held.now _ _ (with_change c.change_of_monad.new.change c.change_of_monad.result)
    (c.argument-right.ensures.ready change names trees staged) (rw c.in-Monad.is at holds) c.change_of_monad.ensures.change)

pub returns-in-Dyad-clause-step : goal.returns-in-Dyad-clause-step
returns-in-Dyad-clause-step c = λ change names trees staged holds.
    subst (λ (n : Node). IsStep c.args.self.now.is_new change (tree_of_node names trees n) c.args.meter.now.ticks c.change_of_both.new.meter.ticks (with_change c.change_of_both.new.change c.change_of_both.result)) (sym c.in-Dyad.is)
    (dyad_step c.args.self.now.is_new change c.in-Dyad.function (tree_of_operand names trees c.in-Dyad.left) (tree_of_operand names trees c.in-Dyad.right) c.argument-left.result c.argument-right-in-Dyad.result c.args.held.now _ _ (with_change c.change_of_both.new.change c.change_of_both.result)
    (c.argument-left.ensures.ready change names trees staged) (c.argument-right-in-Dyad.ensures.ready change names trees staged) (rw c.in-Dyad.is at holds) c.change_of_both.ensures.change)

pub returns-in-Index-clause-step : goal.returns-in-Index-clause-step
returns-in-Index-clause-step c = λ change names trees staged holds.
    let array = c.in-Index.array in
    let were : _ = λ (old : _). (rw c.in-Index.is at holds) old ∙ ap (λ (ps : List (Option Operand)). eval (tree_of_index names trees array ps) change.old) (sym c.deref-in-Index.ensures.value) in
    subst (λ (n : Node). IsStep c.args.self.now.is_new change (tree_of_node names trees n) c.args.meter.now.ticks c.change_of_indexed.new.meter.ticks (with_change c.change_of_indexed.new.change c.change_of_indexed.result)) (sym c.in-Index.is)
    (subst (λ (ps : List (Option Operand)). IsStep c.args.self.now.is_new change (tree_of_index names trees array ps) c.args.meter.now.ticks c.change_of_indexed.new.meter.ticks (with_change c.change_of_indexed.new.change c.change_of_indexed.result)) c.deref-in-Index.ensures.value
    (c.change_of_indexed.ensures.step change names trees staged were))

pub returns-in-Constant-clause-joins : goal.returns-in-Constant-clause-joins
returns-in-Constant-clause-joins c = λ change names trees staged holds.
    subst (λ (n : Node). IsJoined c.args.self.now.is_new change (tree_of_node names trees n) c.args.meter.now.joins c.args.meter.now.joins (with_change c.change_of_literal.new.change c.change_of_literal.result)) (sym c.in-Constant.is)
    (unjoined c.args.self.now.is_new change _ c.args.meter.now.joins c.args.meter.now.joins _ refl refl refl)

pub returns-in-Name-clause-joins : goal.returns-in-Name-clause-joins
returns-in-Name-clause-joins c = λ change names trees staged holds.
    subst (λ (n : Node). IsJoined c.args.self.now.is_new change (tree_of_node names trees n) c.args.meter.now.joins c.args.meter.now.joins (with_change c.change_of_name.new.change c.change_of_name.result)) (sym c.in-Name.is)
    (unjoined c.args.self.now.is_new change _ c.args.meter.now.joins c.args.meter.now.joins _ refl refl refl)

pub returns-in-Monad-clause-joins : goal.returns-in-Monad-clause-joins
returns-in-Monad-clause-joins c = λ change names trees staged holds.
    let function = c.in-Monad.function in
    let well = kept_well c.args.self.now function c.in-Monad.right (rw c.in-Monad.is at c.requires.node) c.args.kept.now (subst (λ (n : Node). IsKeptBy c.args.self.now n c.args.kept.now) c.in-Monad.is c.requires.kept) c.argument-right.result c.argument-right.ensures.ready in
    subst (λ (n : Node). IsJoined c.args.self.now.is_new change (tree_of_node names trees n) c.args.meter.now.joins c.change_of_monad.new.meter.joins (with_change c.change_of_monad.new.change c.change_of_monad.result)) (sym c.in-Monad.is)
    (monad_joined c.args.self.now.is_new change function (tree_of_operand names trees c.in-Monad.right) c.argument-right.result c.args.held.now _ _ (with_change c.change_of_monad.new.change c.change_of_monad.result)
    (c.argument-right.ensures.ready change names trees staged) (rw c.in-Monad.is at holds) (λ fold total. c.change_of_monad.ensures.joins fold total (well fold total)) c.change_of_monad.ensures.no_joins)

pub returns-in-Dyad-clause-joins : goal.returns-in-Dyad-clause-joins
returns-in-Dyad-clause-joins c = λ change names trees staged holds.
    subst (λ (n : Node). IsJoined c.args.self.now.is_new change (tree_of_node names trees n) c.args.meter.now.joins c.change_of_both.new.meter.joins (with_change c.change_of_both.new.change c.change_of_both.result)) (sym c.in-Dyad.is)
    (unjoined c.args.self.now.is_new change _ _ _ (with_change c.change_of_both.new.change c.change_of_both.result) c.change_of_both.ensures.joins
    (most_between c.args.self.now.is_new change c.in-Dyad.function (tree_of_operand names trees c.in-Dyad.left) (tree_of_operand names trees c.in-Dyad.right))
    (least_between c.args.self.now.is_new change c.in-Dyad.function (tree_of_operand names trees c.in-Dyad.left) (tree_of_operand names trees c.in-Dyad.right)))

pub returns-in-Index-clause-joins : goal.returns-in-Index-clause-joins
returns-in-Index-clause-joins c = λ change names trees staged holds.
    subst (λ (n : Node). IsJoined c.args.self.now.is_new change (tree_of_node names trees n) c.args.meter.now.joins c.change_of_indexed.new.meter.joins (with_change c.change_of_indexed.new.change c.change_of_indexed.result)) (sym c.in-Index.is)
    (unjoined c.args.self.now.is_new change _ _ _ (with_change c.change_of_indexed.new.change c.change_of_indexed.result) c.change_of_indexed.ensures.joins refl refl)
