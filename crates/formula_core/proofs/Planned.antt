-- A plan is made node by node.
use Rattle.std.{proofs.Common.{◌≡◌, ℕ, suc, ◌+◌, ◌<◌, List, [], ◌∷◌, ◌++◌, length, map, take, get_or, Bool, true, false, IfOk, Ok, refl, sym, ap, ◌∙◌, subst, arith, inl, inr}, specs.List.{sum_by}, proofs.lemmas.Bool.{cases_lt}, proofs.lemmas.List.{length-append, length-map, get_or_append_left, get_or-map, take_all}}
use Rattle.{std.{proofs.lemmas.List.Sums.{sum_by_more}, proofs.Math.Seq.{get_or-append_seam}}, apl_expr.specs.Trees.{Tree, Const, Numbers}}
use Rattle.{arrays_core.{specs.Arrays.{IsArray}, specs.Outcomes.{Outcome}}, index_region.specs.declared.delta.Delta.{Delta}}
use Rattle.{change_core.specs.Meters.{ticked, MeterValue}, change_rules.specs.Currency.{applied}}
use Rattle.formula_core.{specs.declared.input.Input.{Input}, specs.declared.kept.Kept.{Kept}, specs.declared.kept.NodeChange.{NodeChange}, specs.declared.stage.Stage.{Stage}, specs.declared.table.Node.{Node}, specs.Meaning.{eval, names_in}, specs.Tables.{subtrees, tree_at, tree_of_node, trees_after, IsNode, IsTable}}
use Rattle.formula_core.{specs.Changes.{NamesChange, FitsIn}, specs.Holdings.{Holding, holding, holding_at, holdings_of, nodes_of, not_worked_out, no_change, taking, adopted}, specs.Formulas.{FormulaValue, IsTableOf, new_formula, root_of}, specs.Plans.{PlanValue, node_change, node_cost_at, IsPlanOf, IsTold, IsPlanned}}
use Rattle.formula_core.{specs.Stages.{IsDone, IsStaged, IsSumsStep, IsBegun, IsNodeStep, IsStep, IsJoined}, proofs.Placed.{tree_next, node_at}, proofs.Steps.{inputs_long, change_fits}, proofs.Tabled.{trees_long}}

-- the next node
module _ (c : NamesChange) (names : List (List ℕ)) (trees : List Tree) (s : Stage) (staged : IsStaged c names trees s) (below : length s.changes.now < length s.nodes.now)
    (k : Kept) (is : get_or s.nodes.now (length s.changes.now) k ≡ k) where
  abbrev place : ℕ
  place = length s.changes.now

  abbrev t : Tree
  t = tree_of_node names trees k.node

  node_is : get_or (nodes_of s.nodes.now) place k.node ≡ k.node
  node_is = get_or-map (λ (x : Kept). x.node) s.nodes.now place k k.node below ∙ ap (λ (x : Kept). x.node) is

  under : place < length (nodes_of s.nodes.now)
  under = omega (arith, below, length-map s.nodes.now (λ (x : Kept). x.node))

  -- it stands for the next tree, and its arguments come before it
  pub next_tree : tree_at trees place ≡ t
  next_tree = subst (λ (ts : List Tree). tree_at ts place ≡ tree_of_node names ts k.node) staged.trees_are (tree_next names (nodes_of s.nodes.now) staged.table place under k.node node_is)

  pub next_node : IsNode (length s.inputs.now) place k.node
  next_node =
      subst (λ (n : ℕ). IsNode n place k.node) (sym (inputs_long c names s.inputs.now staged.tell))
      (subst (λ (n : ℕ). IsNode (length names) n k.node) (omega arith) (node_at (length names) 0 (nodes_of s.nodes.now) staged.table place under k.node node_is))

  -- it holds the old value of its tree
  pub next_held : s.is_new ≡ false → holding k ≡ holding_at c.old t
  next_held old =
      sym (get_or-map holding s.nodes.now place k (holding k) below ∙ ap holding is)
      ∙ (ap (λ (hs : List Holding). get_or hs place (holding k)) (staged.held old)
      ∙ (get_or-map (holding_at c.old) trees place (Const (Numbers [])) (holding k) (omega (arith, below, staged.known)) ∙ ap (holding_at c.old) next_tree))

  -- its change makes the new value of its tree
  pub next_fits : (d : Delta) → d ≡ node_change s.is_new c t → IfOk k.result IsArray → (applied d k.result ≡ eval t c.new) × FitsIn d k.result
  next_fits d made sound =
      subst (λ (e : Delta). (applied e k.result ≡ eval t c.new) × FitsIn e k.result) (sym made)
      (change_fits c names trees s staged s.is_new refl k.node next_node k.result (λ old. ap (λ (h : Holding). h.result) (next_held old)) sound)

  pub next_step : (d : NodeChange) (items : ℕ) (before after : MeterValue) → IsStep s.is_new c t before.ticks after.ticks (Ok (d.delta, items)) → IsJoined s.is_new c t before.joins after.joins (Ok (d.delta, items))
      → IsSumsStep c t k.sums d.sums → IfOk k.result IsArray → IfOk (applied d.delta k.result) IsArray
      → IsNodeStep s.is_new c (tree_at trees place) (get_or (holdings_of s.nodes.now) place not_worked_out) d items before after
  next_step d items before after step joined sums sound_held sound_new =
      let fits = next_fits d.delta step.delta sound_held in
      let result = fits.0 in
      let sums_are = sums.right in
      let right : taking d (holding k) ≡ holding_at c.new t = λ i. record { result = result i; sums = sums_are i } in
      let there : get_or (holdings_of s.nodes.now) place not_worked_out ≡ holding k = get_or-map holding s.nodes.now place k not_worked_out below ∙ ap holding is in
      subst (λ (u : Tree). IsNodeStep s.is_new c u (get_or (holdings_of s.nodes.now) place not_worked_out) d items before after) (sym next_tree)
      (subst (λ (h : Holding). IsNodeStep s.is_new c t h d items before after) (sym there)
      (record {
        done = record { is = step.delta; right = right; fit = record { delta = fits.1; sums = sums.fit }; sound_held = sound_held; sound_new = subst (λ (o : Outcome). IfOk o IsArray) fits.0 sound_new };
        cost = step.cost;
        ticks = step.ticks;
        least = step.least;
        joins = joined.most;
        joined = joined.least;
      }))

-- a formula by its nodes
module _ (f : FormulaValue) (names : List (List ℕ)) (nodes : List Kept) (table : IsTableOf names (nodes_of nodes) (root_of names (nodes_of nodes))) (root : root_of names (nodes_of nodes) ≡ f.tree) (held : holdings_of nodes ≡ f.nodes) where
  trees_are : trees_after names [] (nodes_of nodes) ≡ subtrees f.tree
  trees_are = table.trees ∙ ap subtrees root

  named : names ≡ names_in f.tree
  named = table.named ∙ ap names_in root

  pub counted : length nodes ≡ length f.nodes
  counted = omega (arith, length-map nodes holding, ap (λ (hs : List Holding). length hs) held)

  pub known : length f.nodes ≡ length (subtrees f.tree)
  known = omega (arith, counted, length-map nodes (λ (x : Kept). x.node), trees_long names [] (nodes_of nodes), ap (λ (ts : List Tree). length ts) trees_are)

  pub tree_there : (k : ℕ) → k < length nodes → (n : Kept) → get_or nodes k n ≡ n → tree_at (subtrees f.tree) k ≡ tree_of_node names (subtrees f.tree) n.node
  tree_there k below n is =
      subst (λ (ts : List Tree). tree_at ts k ≡ tree_of_node names ts n.node) trees_are
      (tree_next names (nodes_of nodes) table.table k (omega (arith, below, length-map nodes (λ (x : Kept). x.node))) n.node
      (get_or-map (λ (x : Kept). x.node) nodes k n n.node below ∙ ap (λ (x : Kept). x.node) is))

  pub staged_by : (c : NamesChange) (inputs : List Input) → IsTold f c inputs → (changes : List NodeChange) (cost : ℕ) → IsBegun f c changes cost
      → (s : Stage) → s.is_new ≡ f.is_new → s.inputs.now ≡ inputs → s.nodes.now ≡ nodes → s.changes.now ≡ changes → IsStaged c (names_in f.tree) (subtrees f.tree) s
  staged_by c inputs told changes cost begun s is_new inputs_are nodes_are changes_are =
      let holdings : holdings_of s.nodes.now ≡ f.nodes = ap holdings_of nodes_are ∙ held in
      let as_many = ap (λ (ds : List NodeChange). length ds) changes_are in
      record {
        tell = rw inputs_are told.tell;
        changed = told.changed;
        sound = told.sound;
        table = subst (λ (ns : List Kept). IsTable (length (names_in f.tree)) 0 (nodes_of ns)) (sym nodes_are) (subst (λ (xs : List (List ℕ)). IsTable (length xs) 0 (nodes_of nodes)) named table.table);
        trees_are = ap (λ (ns : List Kept). trees_after (names_in f.tree) [] (nodes_of ns)) nodes_are ∙ (ap (λ (xs : List (List ℕ)). trees_after xs [] (nodes_of nodes)) (sym named) ∙ trees_are);
        held = λ old. holdings ∙ told.holds (sym is_new ∙ old);
        few = omega (arith, begun.few, as_many, ap (λ (ns : List Kept). length ns) nodes_are, counted);
        known = omega (arith, ap (λ (ns : List Kept). length ns) nodes_are, counted, known);
        done = λ k below.
            subst (λ (b : Bool). IsDone b c (tree_at (subtrees f.tree) k) (get_or (holdings_of s.nodes.now) k not_worked_out) (get_or s.changes.now k no_change)) (sym is_new)
            (subst (λ (hs : List Holding). IsDone f.is_new c (tree_at (subtrees f.tree) k) (get_or hs k not_worked_out) (get_or s.changes.now k no_change)) (sym holdings)
            (subst (λ (ds : List NodeChange). IsDone f.is_new c (tree_at (subtrees f.tree) k) (get_or f.nodes k not_worked_out) (get_or ds k no_change)) (sym changes_are)
            (begun.done k (omega (arith, below, as_many)))));
      }

  -- the next node is the next node of the formula
  pub stepped_by : (c : NamesChange) (inputs : List Input) → IsTold f c inputs → (changes : List NodeChange) (cost : ℕ) → IsBegun f c changes cost
      → (s : Stage) → s.is_new ≡ f.is_new → s.inputs.now ≡ inputs → s.nodes.now ≡ nodes → s.changes.now ≡ changes → (d : NodeChange) (items : ℕ) (before after : MeterValue)
      → ((ns : List (List ℕ)) (ts : List Tree) → IsStaged c ns ts s → IsNodeStep s.is_new c (tree_at ts (length s.changes.now)) (get_or (holdings_of s.nodes.now) (length s.changes.now) not_worked_out) d items before after)
      → IsNodeStep f.is_new c (tree_at (subtrees f.tree) (length changes)) (get_or f.nodes (length changes) not_worked_out) d items before after
  stepped_by c inputs told changes cost begun s is_new inputs_are nodes_are changes_are d items before after step =
      subst (λ (b : Bool). IsNodeStep b c (tree_at (subtrees f.tree) (length changes)) (get_or f.nodes (length changes) not_worked_out) d items before after) is_new
      (subst (λ (hs : List Holding). IsNodeStep s.is_new c (tree_at (subtrees f.tree) (length changes)) (get_or hs (length changes) not_worked_out) d items before after) (ap holdings_of nodes_are ∙ held)
      (subst (λ (ds : List NodeChange). IsNodeStep s.is_new c (tree_at (subtrees f.tree) (length ds)) (get_or (holdings_of s.nodes.now) (length ds) not_worked_out) d items before after) changes_are
      (step (names_in f.tree) (subtrees f.tree) (staged_by c inputs told changes cost begun s is_new inputs_are nodes_are changes_are))))

-- one more node is done
pub begun_more : (f : FormulaValue) (c : NamesChange) (changes new : List NodeChange) (d : NodeChange) (cost items now : ℕ) → IsBegun f c changes cost → length changes < length f.nodes → new ≡ changes ++ d ∷ []
    → now ≡ ticked cost items → items ≡ node_cost_at f.is_new c (tree_at (subtrees f.tree) (length changes))
    → IsDone f.is_new c (tree_at (subtrees f.tree) (length changes)) (get_or f.nodes (length changes) not_worked_out) d → IsBegun f c new now
begun_more f c changes new d cost items now begun below is sum costs done =
    let long : length new ≡ length changes + 1 = ap (λ (ds : List NodeChange). length ds) is ∙ length-append changes (d ∷ []) in
    let trees = subtrees f.tree in
    record {
      known = begun.known;
      few = omega (arith, below, long);
      done = λ k under. elim (cases_lt k (length changes)) [
        | inl before ↦ rw (is, get_or_append_left changes (d ∷ []) no_change k before) (begun.done k before)
        | inr at ↦
            let here : k ≡ length changes = omega (arith, at, under, long) in
            rw (here, is, get_or-append_seam changes d [] no_change) done
      ];
      costs =
          let more : sum_by (node_cost_at f.is_new c) (take (length new) trees) ≡ sum_by (node_cost_at f.is_new c) (take (length changes) trees) + items =
          ap (λ k. sum_by (node_cost_at f.is_new c) (take k trees)) long ∙ (sum_by_more (node_cost_at f.is_new c) trees (length changes) (Const (Numbers [])) (omega (arith, below, begun.known)) ∙ ap (λ x. sum_by (node_cost_at f.is_new c) (take (length changes) trees) + x) (sym costs)) in
          omega (arith, sum, begun.costs, more);
    }

-- nothing is done yet
pub begun_none : (f : FormulaValue) (c : NamesChange) → length f.nodes ≡ length (subtrees f.tree) → IsBegun f c [] 0
begun_none f c known = record { known = known; few = omega arith; done = λ k below. absurd (omega (arith, below)); costs = refl }

-- all nodes are done
all_changes : (is_new : Bool) (c : NamesChange) (trees : List Tree) (held : List Holding) (changes : List NodeChange) → length changes ≡ length trees → length held ≡ length trees
    → ((k : ℕ) → k < length changes → IsDone is_new c (tree_at trees k) (get_or held k not_worked_out) (get_or changes k no_change))
    → (map (λ d. d.delta) changes ≡ map (node_change is_new c) trees) × (adopted changes held ≡ map (holding_at c.new) trees)
all_changes is_new c [] [] [] long many done = (refl, refl)
all_changes is_new c (u ∷ trees) (h ∷ held) (d ∷ changes) long many done =
    let here = done 0 (omega arith) in
    let rest = all_changes is_new c trees held changes (omega (arith, long)) (omega (arith, many)) (λ k below. done (suc k) (omega (arith, below))) in (
      ap (λ x. x ∷ map (λ (e : NodeChange). e.delta) changes) here.is ∙ ap (λ xs. node_change is_new c u ∷ xs) rest.0,
      ap (λ (x : Holding). x ∷ adopted changes held) here.right ∙ ap (λ xs. holding_at c.new u ∷ xs) rest.1,
    )
all_changes is_new c [] (h ∷ held) changes long many done = absurd (omega (arith, many))
all_changes is_new c [] [] (d ∷ changes) long many done = absurd (omega (arith, long))
all_changes is_new c (u ∷ trees) [] changes long many done = absurd (omega (arith, many))
all_changes is_new c (u ∷ trees) (h ∷ held) [] long many done = absurd (omega (arith, long))

pub planned_at_end : (f : FormulaValue) (c : NamesChange) (p : PlanValue) → IsBegun f c p.changes p.cost → length p.changes ≡ length f.nodes → IsPlanned f c p
planned_at_end f c p begun all =
    let done = all_changes f.is_new c (subtrees f.tree) f.nodes p.changes (all ∙ begun.known) begun.known begun.done in
    record {
      changes = done.0;
      right = done.1;
      cost = begun.costs ∙ ap (λ ts. ticked 0 (sum_by (node_cost_at f.is_new c) ts)) (ap (λ k. take k (subtrees f.tree)) (all ∙ begun.known) ∙ take_all (length (subtrees f.tree)) (subtrees f.tree) (omega arith));
    }

pub plan_of : (f : FormulaValue) (c : NamesChange) (p : PlanValue) → IsBegun f c p.changes p.cost → length p.changes ≡ length f.nodes → IsPlanOf f p
plan_of f c p begun all = record { each = all; fit = λ k below. (begun.done k below).fit }

-- a new formula
same_everywhere : (nodes : List Node) (trees : List Tree) → length nodes ≡ length trees → map (λ (n : Node). not_worked_out) nodes ≡ map (λ (t : Tree). not_worked_out) trees
same_everywhere [] [] h = refl
same_everywhere (n ∷ nodes) (u ∷ trees) h = ap (λ xs. not_worked_out ∷ xs) (same_everywhere nodes trees (omega (arith, h)))
same_everywhere [] (u ∷ trees) h = absurd (omega (arith, h))
same_everywhere (n ∷ nodes) [] h = absurd (omega (arith, h))

pub made_new : (names : List (List ℕ)) (nodes : List Node) (kept : List Kept) (t : Tree) → IsTableOf names nodes t → nodes_of kept ≡ nodes → holdings_of kept ≡ map (λ (n : Node). not_worked_out) nodes
    → record { tree = root_of names (nodes_of kept); is_new = true; nodes = holdings_of kept } ≡ new_formula t
made_new names nodes kept t table same held =
    let root = ap (root_of names) same ∙ table.root in
    let all = held ∙ same_everywhere nodes (subtrees t) (omega (arith, trees_long names [] nodes, ap (λ (ts : List Tree). length ts) table.trees)) in
    λ i. record { tree = root i; is_new = true; nodes = all i }
