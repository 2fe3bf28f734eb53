-- The change of a node, computed from its stage.
use Rattle.std.{proofs.Common.{◌≡◌, ℕ, zero, suc, ◌+◌, ◌<◌, List, [], ◌∷◌, ◌++◌, length, map, take, get_or, Bool, true, false, Option, Some, None, Result, Ok, Err, refl, sym, ap, ◌∙◌, subst, arith, IfOk, OnOk}, specs.List.{Contains}, specs.Option.{option_map}, proofs.lemmas.Bool.{false≢true}}
use Rattle.std.{proofs.lemmas.List.{get_or-map, get_or_default, map_more}, specs.declared.alloc.AllocError.{AllocError}}
use Rattle.apl_expr.specs.Trees.{Tree, Const, Name, Monad, Dyad, Index, Reduce, Scan, Outer, Inner, Numbers, positions_of}
use Rattle.arrays_core.{specs.Arrays.{IsArray}, specs.declared.item.Kind.TheVariants.{Value}, specs.Outcomes.{Outcome, fault}}
use Rattle.{index_region.specs.declared.delta.Delta.{Delta}, change_rules.specs.Currency.{applied}}
use Rattle.formula_core.{specs.declared.input.Input.{Input}, specs.declared.input.Input.TheVariants.{Good, Bad}, specs.declared.stage.Stage.{Stage}, specs.declared.table.Operand.{Operand}, specs.declared.table.Node.{Node}, specs.Meaning.{eval}}
use Rattle.formula_core.{specs.Tables.{tree_at, tree_of_operand, tree_of_node, IsOperand, AreOperands, IsNode}, specs.Changes.{NamesChange, change, changes, values_of, FitsIn, FitsNow, IsNameChanged}, specs.Inputs.{shown, HasFit, IsInput}, specs.Holdings.{Holding, holding_at, holdings_of, not_worked_out, no_change}}
use Rattle.formula_core.{specs.Plans.{node_change, AreInputs}, specs.Rules.{with_change}, specs.Stages.{IsStaged, IsTaken, IsLiteralChange, GiveTheirTrees, IsStep}, specs.Formulas.{is_operation}, proofs.Fitting.{fit_now}, proofs.LiteralArrays.{literal_is_array}}
use Rattle.formula_core.{proofs.Changed.{AllChanged, monad_changed, dyad_changed, index_changed, IsChanged, IsTreeChanged}, proofs.Stepping.{ready_more}}
use Rattle.formula_core.specs.declared.table.Operand.TheVariants as operand
use Rattle.formula_core.specs.declared.table.Node.TheVariants as node

-- an input with its change fits
pub input_fits : (now : Outcome) (d : Delta) (i : Input) → IsInput now d i → FitsNow d now → HasFit i
input_fits now d (Good array delta) h fit = subst (λ (e : Delta). FitsNow e (Ok array)) (sym h.delta) (subst (λ (o : Outcome). FitsNow d o) (sym h.is) fit)
input_fits now d (Bad f changed) h fit = tt

-- the inputs, one for each name
pub inputs_long : (c : NamesChange) (names : List (List ℕ)) (inputs : List Input) → AreInputs c names inputs → length inputs ≡ length names
inputs_long c [] [] h = refl
inputs_long c (x ∷ names) (i ∷ inputs) h = ap suc (inputs_long c names inputs h.1)
inputs_long c [] (i ∷ inputs) h = absurd h
inputs_long c (x ∷ names) [] h = absurd h

pub input_at : (c : NamesChange) (names : List (List ℕ)) (inputs : List Input) → AreInputs c names inputs → (k : ℕ) (e : Input) → k < length inputs → IsInput (c.new (get_or names k [])) (c.delta (get_or names k [])) (get_or inputs k e)
input_at c [] [] h k e below = absurd (omega (arith, below))
input_at c (x ∷ names) (i ∷ inputs) h zero e below = h.0
input_at c (x ∷ names) (i ∷ inputs) h (suc k) e below = input_at c names inputs h.1 k e (omega (arith, below))
input_at c [] (i ∷ inputs) h k e below = absurd h
input_at c (x ∷ names) [] h k e below = absurd h

pub name_there : (names : List (List ℕ)) (k : ℕ) → k < length names → Contains names (get_or names k [])
name_there names k below = (k, below, get_or_default names k (get_or names k []) [] below)

module _ (c : NamesChange) (names : List (List ℕ)) (trees : List Tree) (s : Stage) (staged : IsStaged c names trees s) where
  known_name : (k : ℕ) → k < length s.inputs.now → Contains names (get_or names k [])
  known_name k below = name_there names k (omega (arith, below, inputs_long c names s.inputs.now staged.tell))

  -- the tree of an operand: its old value, its change and its new value
  pub operand_changed : s.is_new ≡ false → (o : Operand) → IsOperand (length s.inputs.now) (length s.changes.now) o
      → IsChanged (eval (tree_of_operand names trees o) c.old) (change c (tree_of_operand names trees o)) (eval (tree_of_operand names trees o) c.new)
  operand_changed old (operand.Literal l) within = let sound = literal_is_array l.value in record { right = refl; fit = tt; sound_old = sound; sound_new = sound }
  operand_changed old (operand.Name k) within =
      let there = known_name k within in
      let told = staged.changed (get_or names k []) there in
      let sound = staged.sound (get_or names k []) there in
      record { right = told.right; fit = told.fit; sound_old = sound.old; sound_new = sound.new }
  operand_changed old (operand.Node k) within =
      let done = staged.done k within in
      let t = tree_at trees k in
      let d = (get_or s.changes.now k no_change).delta in
      let was = (get_or (holdings_of s.nodes.now) k not_worked_out).result in
      let is : d ≡ change c t = done.is ∙ ap (λ (n : Bool). node_change n c t) old in
      let below : k < length trees = omega (arith, within, staged.few, staged.known) in
      let held : was ≡ eval t c.old =
      ap (λ (h : Holding). h.result) (ap (λ hs. get_or hs k not_worked_out) (staged.held old) ∙ get_or-map (holding_at c.old) trees k (Const (Numbers [])) not_worked_out below) in
      let right : applied (change c t) (eval t c.old) ≡ eval t c.new = ap (λ e. applied e (eval t c.old)) (sym is) ∙ (ap (applied d) (sym held) ∙ ap (λ (h : Holding). h.result) done.right) in
      record {
        right = right;
        fit = subst (λ (o : Outcome). FitsIn (change c t) o) held (subst (λ (e : Delta). FitsIn e was) is done.fit.delta);
        sound_old = subst (λ (o : Outcome). IfOk o IsArray) held done.sound_held;
        sound_new = done.sound_new;
      }

  operands_changed : s.is_new ≡ false → (os : List (Option Operand)) → AreOperands (length s.inputs.now) (length s.changes.now) os
      → AllChanged (values_of (positions_of (map (option_map (tree_of_operand names trees)) os)) c.old) (changes c (positions_of (map (option_map (tree_of_operand names trees)) os))) (values_of (positions_of (map (option_map (tree_of_operand names trees)) os)) c.new)
  operands_changed old [] within = tt
  operands_changed old (None ∷ os) within = operands_changed old os within
  operands_changed old (Some o ∷ os) within = (operand_changed old o within.0, operands_changed old os within.1)

  -- the old value of a node with its change is its new value
  pub node_changed : s.is_new ≡ false → (n : Node) → IsNode (length s.inputs.now) (length s.changes.now) n → IfOk (eval (tree_of_node names trees n) c.old) IsArray → IsTreeChanged c (tree_of_node names trees n)
  node_changed old (node.Constant l) within sound = record { right = refl; fit = tt }
  node_changed old (node.Name k) within sound =
      let told = staged.changed (get_or names k []) (known_name k within) in
      record { right = told.right; fit = told.fit }
  node_changed old (node.Monad f b) within sound = monad_changed c f (tree_of_operand names trees b) sound (operand_changed old b within)
  node_changed old (node.Dyad f a b) within sound = dyad_changed c f (tree_of_operand names trees a) (tree_of_operand names trees b) sound (operand_changed old a within.0) (operand_changed old b within.1)
  node_changed old (node.Index a os) within sound =
      index_changed c (tree_of_operand names trees a) (positions_of (map (option_map (tree_of_operand names trees)) os.items)) sound (operand_changed old a within.0) (operands_changed old os.items within.1)

  -- the input of an operand belongs to its tree
  pub taken_input : s.is_new ≡ false → IsLiteralChange s.is_new s.of_literals.now → (o : Operand) → IsOperand (length s.inputs.now) (length s.changes.now) o → (i : Input) → IsTaken s.inputs.now (holdings_of s.nodes.now) s.changes.now s.of_literals.now o i → IsInput (eval (tree_of_operand names trees o) c.new) (change c (tree_of_operand names trees o)) i
  taken_input old literals (operand.Literal l) within i taken = subst (λ (d : Delta). IsInput (eval (Const l.value) c.new) d i) (literals.same old) taken
  taken_input old literals (operand.Name k) within i taken = subst (λ (j : Input). IsInput (c.new (get_or names k [])) (c.delta (get_or names k [])) j) (sym taken) (input_at c names s.inputs.now staged.tell k (Bad (fault Value) false) within)
  taken_input old literals (operand.Node k) within i taken =
      let done = staged.done k within in
      let d = (get_or s.changes.now k no_change).delta in
      let is : d ≡ change c (tree_at trees k) = done.is ∙ ap (λ (n : Bool). node_change n c (tree_at trees k)) old in
      subst (λ (o : Outcome). IsInput o (change c (tree_at trees k)) i) (ap (λ (h : Holding). h.result) done.right)
      (subst (λ (e : Delta). IsInput (applied d (get_or (holdings_of s.nodes.now) k not_worked_out).result) e i) is taken)

  -- a name that is the whole tree: its input, and its change
  pub name_input : (k : ℕ) → k < length s.inputs.now → (i : Input) → i ≡ get_or s.inputs.now k (Bad (fault Value) false) → IsInput (c.new (get_or names k [])) (c.delta (get_or names k [])) i
  name_input k within i taken = subst (λ (j : Input). IsInput (c.new (get_or names k [])) (c.delta (get_or names k [])) j) (sym taken) (input_at c names s.inputs.now staged.tell k (Bad (fault Value) false) within)

  pub name_told : (k : ℕ) → k < length s.inputs.now → IsNameChanged c (get_or names k [])
  name_told k within = staged.changed (get_or names k []) (known_name k within)

  -- it shows the value of its tree
  pub taken_shown : (o : Operand) → IsOperand (length s.inputs.now) (length s.changes.now) o → (i : Input) → IsTaken s.inputs.now (holdings_of s.nodes.now) s.changes.now s.of_literals.now o i → shown i ≡ eval (tree_of_operand names trees o) c.new
  taken_shown (operand.Literal l) within i taken = taken.is
  taken_shown (operand.Name k) within i taken = ap shown taken ∙ (input_at c names s.inputs.now staged.tell k (Bad (fault Value) false) within).is
  taken_shown (operand.Node k) within i taken = taken.is ∙ ap (λ (h : Holding). h.result) (staged.done k within).right

  pub taken_fits : s.is_new ≡ false → IsLiteralChange s.is_new s.of_literals.now → (o : Operand) → IsOperand (length s.inputs.now) (length s.changes.now) o → (i : Input) → IsTaken s.inputs.now (holdings_of s.nodes.now) s.changes.now s.of_literals.now o i → HasFit i
  taken_fits old literals o within i taken =
      let t = tree_of_operand names trees o in
      let changed = operand_changed old o within in
      input_fits (eval t c.new) (change c t) i (taken_input old literals o within i taken) (subst (λ (n : Outcome). FitsNow (change c t) n) changed.right (fit_now (change c t) (eval t c.old) changed.fit))

  -- the change of a node fits its old result
  pub change_fits : (is_new : Bool) → s.is_new ≡ is_new → (n : Node) → IsNode (length s.inputs.now) (length s.changes.now) n → (held : Outcome) → (is_new ≡ false → held ≡ eval (tree_of_node names trees n) c.old) → IfOk held IsArray
      → (applied (node_change is_new c (tree_of_node names trees n)) held ≡ eval (tree_of_node names trees n) c.new) × FitsIn (node_change is_new c (tree_of_node names trees n)) held
  change_fits true is n within held holds sound = (refl, tt)
  change_fits false is n within held holds sound =
      let t = tree_of_node names trees n in
      let was = holds refl in
      let changed = node_changed is n within (subst (λ (o : Outcome). IfOk o IsArray) was sound) in
      (ap (applied (change c t)) was ∙ changed.right, subst (λ (o : Outcome). FitsIn (change c t) o) (sym was) changed.fit)

-- each written position of an index is an operand
pub operand_within : (names place : ℕ) (os : List (Option Operand)) → AreOperands names place os → (k : ℕ) (o : Operand) → k < length os → get_or os k None ≡ Some o → IsOperand names place o
operand_within names place [] h k o below is = absurd (omega (arith, below))
operand_within names place (None ∷ os) h zero o below is = absurd (let no : ⊥ = cc in no)
operand_within names place (Some p ∷ os) h zero o below is = let same : p ≡ o = cc in subst (λ (x : Operand). IsOperand names place x) same h.0
operand_within names place (None ∷ os) h (suc k) o below is = operand_within names place os h k o (omega (arith, below)) is
operand_within names place (Some p ∷ os) h (suc k) o below is = operand_within names place os h.1 k o (omega (arith, below)) is

-- one more position of an index
pub position_ready : (is_new : Bool) (c : NamesChange) (f : Option Operand → Option Tree) (os : List (Option Operand)) (k : ℕ) (x : Option Operand) (is : List (Option Input)) (i : Option Input) → k < length os → get_or os k None ≡ x
    → GiveTheirTrees is_new c (map f (take k os)) is → GiveTheirTrees is_new c (f x ∷ []) (i ∷ []) → GiveTheirTrees is_new c (map f (take (k + 1) os)) (is ++ i ∷ [])
position_ready is_new c f os k x is i below at h one =
    subst (λ (ts : List (Option Tree)). GiveTheirTrees is_new c ts (is ++ i ∷ [])) (sym (map_more f os k None below))
    (ready_more is_new c (map f (take k os)) is (f (get_or os k None)) i h (subst (λ (o : Option Operand). GiveTheirTrees is_new c (f o ∷ []) (i ∷ [])) (sym at) one))

-- a step of a node without a function costs nothing
free_step : (is_new : Bool) (c : NamesChange) (t : Tree) (meter : ℕ) (d : Delta) → d ≡ node_change is_new c t → is_operation t ≡ false → IsStep is_new c t meter meter (Ok (d, 0))
free_step true c (Const l) meter d is none = record { delta = is; cost = refl; ticks = omega arith; least = λ _. omega arith; rises = omega arith }
free_step true c (Name x) meter d is none = record { delta = is; cost = refl; ticks = omega arith; least = λ _. omega arith; rises = omega arith }
free_step false c (Const l) meter d is none = record { delta = is; cost = refl; ticks = omega arith; least = λ _. omega arith; rises = omega arith }
free_step false c (Name x) meter d is none = record { delta = is; cost = refl; ticks = omega arith; least = λ _. omega arith; rises = omega arith }
free_step is_new c (Monad f b) meter d is none = absurd (false≢true (sym none))
free_step is_new c (Dyad f a b) meter d is none = absurd (false≢true (sym none))
free_step is_new c (Index a ps) meter d is none = absurd (false≢true (sym none))
free_step is_new c (Reduce f k b) meter d is none = absurd (false≢true (sym none))
free_step is_new c (Scan f k b) meter d is none = absurd (false≢true (sym none))
free_step is_new c (Outer f a b) meter d is none = absurd (false≢true (sym none))
free_step is_new c (Inner f g a b) meter d is none = absurd (false≢true (sym none))

pub leaf_step : {X : Type 0} (is_new : Bool) (c : NamesChange) (t : Tree) (meter : ℕ) (d : Delta) (r : Result ℕ AllocError) → OnOk r X → (X → d ≡ node_change is_new c t) → IfOk r (λ n. n ≡ 0) → is_operation t ≡ false
    → IsStep is_new c t meter meter (with_change d r)
leaf_step is_new c t meter d (Ok n) told is nothing none = subst (λ (k : ℕ). IsStep is_new c t meter meter (Ok (d, k))) (sym nothing) (free_step is_new c t meter d (is told) none)
leaf_step is_new c t meter d (Err e) told is nothing none = record { delta = tt; cost = tt; ticks = omega arith; least = tt; rises = omega arith }
