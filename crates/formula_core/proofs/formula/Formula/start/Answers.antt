use Rattle.std.proofs.Common.{◌≡◌, ◌∙◌, ◌<◌, List, [], sym, subst, ap, length, arith, false, true}
use Rattle.formula_core.{specs.declared.kept.NodeChange.{NodeChange}, specs.Formulas.{FormulaValue, is_operation}, specs.Stages.{IsBegun}, specs.Tables.{applies, subtrees, tree_at}, proofs.Planned.{counted, known, tree_there, begun_none, begun_more}}
use Rattle.formula_core.{proofs.Progressed.{applied_there, free, among_plain, leaf_alone, more_of, some_node}, proofs.formula.Formula.start.Goals.{After-index}}
use Rattle.formula_core.proofs.formula.Formula.start.Goals as goal

-- its nodes are those of its tree
all_known : (c : After-index) → length c.args.self.now.nodes ≡ length (subtrees c.args.self.now.tree)
all_known c = known c.args.self.now c.self.inside.names.value.items c.self.inside.nodes.items c.self.invariant (ap (λ (v : FormulaValue). v.tree) c.self.view_is) (ap (λ (v : FormulaValue). v.nodes) c.self.view_is)

-- its tree is an operation if its first node applies a function
root_is : (c : After-index) → is_operation (tree_at (subtrees c.args.self.now.tree) 0) ≡ applies c.index.result.now.node
root_is c =
    let f = c.args.self.now in
    let names = c.self.inside.names.value.items in
    let nodes = c.self.inside.nodes.items in
    let root = ap (λ (v : FormulaValue). v.tree) c.self.view_is in
    let held = ap (λ (v : FormulaValue). v.nodes) c.self.view_is in
    let below : 0 < length nodes = omega (arith, some_node f.tree, all_known c, counted f names nodes c.self.invariant root held) in
    ap is_operation (tree_there f names nodes c.self.invariant root held 0 below c.index.result.now (sym c.index.ensures)) ∙ applied_there names (subtrees f.tree) c.index.result.now.node

pub push_apart-requires : goal.push_apart-requires
push_apart-requires c =
    let f = c.args.self.now in
    let none = c.in_ok-room_for_changes.ensures in
    let all = all_known (goal.at.push_apart-requires c).After-index in
    record {
      new = ap (λ (v : FormulaValue). v.is_new) c.self.view_is;
      below = omega (arith, ap (λ (ds : List NodeChange). length ds) none, some_node f.tree, all);
      begun = (c.requires.0, (c.requires.1, (0, subst (λ (ds : List NodeChange). IsBegun f c.requires.0 ds 0) (sym none) (begun_none f c.requires.0 all))));
    }

pub returns-then-applies-clause-planned : goal.returns-then-applies-clause-planned
returns-then-applies-clause-planned c = λ change told.
    let f = c.args.self.now in
    let here = (goal.at.returns-then-applies-clause-planned c).After-index in
    let none = c.in_ok-room_for_changes.ensures in
    record {
      begun = subst (λ k. IsBegun f change c.in_ok-room_for_changes.field-0.items k) (sym c.new.ensures) (subst (λ (ds : List NodeChange). IsBegun f change ds 0) (sym none) (begun_none f change (all_known here)));
      next = λ under. subst (λ (ds : List NodeChange). is_operation (tree_at (subtrees f.tree) (length ds)) ≡ true) (sym none) (root_is here ∙ (sym c.applies.ensures ∙ c.if-applies.true));
    }

pub returns-clause-none : goal.returns-clause-none
returns-clause-none c =
    let f = c.args.self.now in
    let here = (goal.at.returns-clause-none c).After-index in
    let more = more_of f c.requires.0 c.args.inputs.now [] _ _ 0 _ _ _ c.in_ok-room_for_changes.ensures c.in_ok-_items.ensures.more c.requires.1 (begun_none f c.requires.0 (all_known here)) in
    among_plain f [] c.push_apart.new.changes.items more.change more.pushed (some_node f.tree) (root_is here ∙ (sym c.applies.ensures ∙ c.if-applies.false))

pub returns-clause-planned : goal.returns-clause-planned
returns-clause-planned c = λ change told.
    let f = c.args.self.now in
    let here = (goal.at.returns-clause-planned c).After-index in
    let all = all_known here in
    let plain = root_is here ∙ (sym c.applies.ensures ∙ c.if-applies.false) in
    let nothing = begun_none f change all in
    let more = more_of f change c.args.inputs.now [] _ _ 0 _ _ _ c.in_ok-room_for_changes.ensures c.in_ok-_items.ensures.more told nothing in
    record {
      begun = begun_more f change [] c.push_apart.new.changes.items more.change 0 0 _ nothing (omega (arith, some_node f.tree, all)) more.pushed c.new.ensures (free f.is_new change (tree_at (subtrees f.tree) 0) plain) more.step.done;
      next = λ under. absurd (omega (arith, under, ap (λ (ds : List NodeChange). length ds) more.pushed, leaf_alone f.tree plain, all));
    }
