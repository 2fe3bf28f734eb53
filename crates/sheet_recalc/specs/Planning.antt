-- The plans of a change, and their progress.
use Rattle.std.{specs.Prelude.{◌≡◌, ◌≢◌, ◌⊎◌, ◌+◌, ◌≤◌, ◌<◌, ℕ, List, [], ◌∷◌, ◌++◌, Bool, true, false, Option, Some, None, Ok, IfOk, IfSome, take, get_or, length, IsSome, if◌then◌else◌}, specs.Str.{bytes_eq}, specs.Map.{keys_of}, specs.List.{Contains, IsDistinct, sum_by}, specs.Option.{option_map_or}}
use Rattle.arrays_core.specs.Arrays.{ArrayValue, IsArray}
use Rattle.apl_expr.specs.Trees.{Tree}
use Rattle.index_region.{specs.Patches.{FitsPatch}, specs.Tails.{FitsTail}, specs.declared.delta.Delta.TheVariants.{Same, Patch, Grown, Whole}}
use Rattle.change_core.specs.Meters.{ticked}
use Rattle.formula_core.{specs.Meaning.{names_in}, specs.Formulas.{FormulaValue}, specs.Inputs.{IsInput}, specs.Changes.{IsNameChanged}, specs.Progress.{operations_among, IsPlannedTo}, specs.Tables.{subtrees}, specs.declared.input.Input.{Input}}
use Rattle.dep_order.specs.Follows.{Follows}
use Rattle.sheet_recalc.{specs.Names.{Names, Formula, binding, Refers, IsSheet}, specs.NameOrder.{HasOrder}, specs.Changes.{HasRoomForName}, specs.Meaning.{val, IsSettled}, specs.Costs.{delta_by, binding_cost, functions_in, NoItemFails, IsNodeCost}, specs.Entries.{names_of, HasData}, specs.Live.{IsCurrent, plan_in}}
use Rattle.sheet_recalc.{specs.ProposedSheet.{Outline, outline_of, is_data, proposed_names, proposed_delta, proposed_change, proposed_cost, entry_of}, specs.declared.ahead.Ahead.{Ahead}, specs.declared.budget.Budget.{Budget}, specs.declared.budget.Budget.TheVariants.{All, One, Spent}}
use Rattle.sheet_recalc.{specs.declared.entry.Entry.{Entry}, specs.declared.plans.Plans.{Plans}, specs.declared.proposal.Proposal.{Proposal}}
use Rattle.formula_core.specs.Changes as formula
use Rattle.formula_core.specs.Plans as formula_plan
use Rattle.sheet_recalc.specs.declared.entry.Entry.TheVariants as entry
use Rattle.sheet_recalc.specs.declared.proposal.Proposal.TheVariants as proposed

-- a proposed formula is new; proposed data is an array, a patch that lies in the data, or a tail that fits it
abbrev pub IsProposalAt : List (List ℕ × Entry) → List ℕ → Proposal → Type 0
IsProposalAt entries name (proposed.Formula f) = f.is_new ≡ true
IsProposalAt entries name (proposed.Data (Whole (Ok a))) = Unit {0}
IsProposalAt entries name (proposed.Data (Patch p)) = (a : ArrayValue) × HasData entries name a × FitsPatch a p
IsProposalAt entries name (proposed.Data (Grown t)) = (a : ArrayValue) × HasData entries name a × FitsTail a t
IsProposalAt entries name (proposed.Data delta) = ⊥
IsProposalAt entries name proposed.Removed = Unit {0}

-- the entries are current; unless data is proposed, the name's result is sound. Results and changes of all names after the change follow from those
-- of the others
pub record IsProposed (o : Outline) : Type 0 where
  pub current : IsCurrent o.entries
  pub sound : is_data o.proposal ≡ false → IfOk (val (names_of o.entries) o.name) IsArray
  pub settled : IsSettled (proposed_names o)
  pub proposal : IsProposalAt o.entries o.name o.proposal
  pub deltas : (q : List ℕ) → (proposed_change o).delta q
      ≡ (if bytes_eq q o.name then proposed_delta o.name (proposed_names o) o.proposal else delta_by q (binding (proposed_names o) q) (proposed_change o))

-- the name's result stays
pub record IsUntouched (o : Outline) (q : List ℕ) : Type 0 where
  pub shows : val (proposed_names o) q ≡ val (names_of o.entries) q
  pub same : (proposed_change o).delta q ≡ Same

-- the plan belongs to the name's formula and follows the change
pub record IsPlanAt (o : Outline) (q : List ℕ) (p : formula_plan.PlanValue) : Type 0 where
  pub formula : FormulaValue
  pub held : entry_of o q ≡ Some (entry.Formula formula)
  pub of : formula_plan.IsPlanOf formula p
  pub planned : formula_plan.IsPlanned formula (proposed_change o) p

-- each plan belongs to its name's formula and follows the change
abbrev pub ArePlans : Outline → (List ℕ → Option formula_plan.PlanValue) → Type 0
ArePlans o plans = (q : List ℕ) (p : formula_plan.PlanValue) → plans q ≡ Some p → IsPlanAt o q p

-- the entry stays right without a plan: it is data, or the formula of another name that contains no changed name
pub record NeedsNoPlan (o : Outline) (q : List ℕ) : Type 0 where
  pub others : q ≢ o.name → IsUntouched o q
  pub reads : (t : Tree) → binding (proposed_names o) q ≡ Some (Formula t) → (q ≢ o.name) × ((x : List ℕ) → Contains (names_in t) x → IsUntouched o x)

-- a name has its plan, or needs none
abbrev pub HasItsPlan : Outline → (List ℕ → Option formula_plan.PlanValue) → List ℕ → Type 0
HasItsPlan o plans q = IsSome (plans q) ⊎ NeedsNoPlan o q

-- a change with the plans made so far
pub record IsAhead (a : Ahead) : Type 0 where
  pub proposed : IsProposed (outline_of a.proposed.now)
  pub plans : ArePlans (outline_of a.proposed.now) (plan_in a.found.now.entries)
  pub unchanged : a.unchanged.now ≡ Same
  pub newest : IfSome a.last (λ f. entry_of (outline_of a.proposed.now) (get_or (keys_of a.found.now.entries) a.place []) ≡ Some (entry.Formula f.now))

-- the input is the name's new result and its change
pub record IsInputOf (o : Outline) (q : List ℕ) (i : Input) : Type 0 where
  pub input : IsInput ((proposed_change o).new q) ((proposed_change o).delta q) i
  pub changed : IsNameChanged (proposed_change o) q
  pub sound : formula_plan.IsNameSound (proposed_change o) q

-- one input for each name
pub record AreInputsOf (o : Outline) (names : List (List ℕ)) (inputs : List Input) : Type 0 where
  pub given : formula_plan.AreInputs (proposed_change o) names inputs
  pub changed : (q : List ℕ) → Contains names q → IsNameChanged (proposed_change o) q
  pub sound : (q : List ℕ) → Contains names q → formula_plan.IsNameSound (proposed_change o) q

-- the cost of the change at a name
abbrev pub name_cost : List ℕ → formula.NamesChange → Names → List ℕ → ℕ
name_cost name c names q = option_map_or (λ b. binding_cost name c (q, b)) (binding names q) 0

-- the cost of the change at all of these names
abbrev pub names_cost : Outline → List (List ℕ) → ℕ
names_cost o found = sum_by (name_cost o.name (proposed_change o) (proposed_names o)) found

-- every name that is not left has its plan or needs none
pub record IsUnderWay (o : Outline) (left : List (List ℕ)) (made : (List ℕ → Option formula_plan.PlanValue)) : Type 0 where
  pub once : IsDistinct bytes_eq left
  pub closed : Follows (λ a b. Refers (proposed_names o) b a) (λ x. ⊥) left
  pub plans : ArePlans o made
  pub done : (q : List ℕ) → (Contains left q → ⊥) → HasItsPlan o made q

-- the names that wait for their plans
abbrev pub waiting_names : Plans → List (List ℕ)
waiting_names w = take w.waiting (keys_of w.found.entries)

-- the number of functions in a name's binding after the change
abbrev pub functions_at : Outline → List ℕ → ℕ
functions_at o q = functions_in (proposed_names o) q

-- the cost of the nodes of a partial plan
abbrev pub spent_by : FormulaValue → formula.NamesChange → formula_plan.PlanValue → ℕ
spent_by f c p = sum_by (formula_plan.node_cost_at f.is_new c) (take (length p.changes) (subtrees f.tree))

-- a partial plan of the last name's formula, with the number of its functions done and the cost of its nodes
pub record IsComingTo (o : Outline) (names : List (List ℕ)) (p : formula_plan.PlanValue) (done begun : ℕ) : Type 0 where
  pub before : List (List ℕ)
  pub name : List ℕ
  pub last : names ≡ before ++ name ∷ []
  pub formula : FormulaValue
  pub held : entry_of o name ≡ Some (entry.Formula formula)
  pub planned : IsPlannedTo formula (proposed_change o) p
  pub done_is : done ≡ operations_among formula p.changes
  pub begun_is : begun ≡ spent_by formula (proposed_change o) p

-- such a plan, or none
abbrev pub IsComing : Outline → List (List ℕ) → Option formula_plan.PlanValue → (done begun : ℕ) → Type 0
IsComing o names None done begun = (done ≡ 0) × (begun ≡ 0)
IsComing o names (Some p) done begun = IsComingTo o names p done begun

-- no item fails that the formulas compute
abbrev pub NoneFails : Outline → Type 0
NoneFails o = NoItemFails o.name (proposed_change o) (proposed_names o)

-- all names but the first `waiting` have their plans at this cost; the ticks are at most the cost, counted from `base`
pub record ArePlanned (o : Outline) (base waiting : ℕ) (found : List (List ℕ × Option formula_plan.PlanValue)) (cost ticks : ℕ) : Type 0 where
  pub few : waiting ≤ length found
  pub way : IsUnderWay o (take waiting (keys_of found)) (plan_in found)
  pub spent : ℕ
  pub split : spent + names_cost o (take waiting (keys_of found)) ≡ proposed_cost o
  pub cost_is : cost ≡ ticked base spent
  pub ticks_are : ticks ≤ base + spent

-- the reached names that no longer wait have their plans, at this cost in total
abbrev pub AreMade : Outline → ℕ → Plans → ℕ → Type 0
AreMade o base w ticks = ArePlanned o base w.waiting w.found.entries w.cost ticks

-- the cost of a partial plan, if there is one
abbrev pub coming_cost : Option formula_plan.PlanValue → ℕ
coming_cost None = 0
coming_cost (Some p) = p.cost

-- the plans of a change are in progress with these ticks, and this many functions are left to apply
pub record IsOnTheWay (o : Outline) (base left : ℕ) (w : Plans) (ticks : ℕ) : Type 0 where
  pub told : ℕ
  pub made : AreMade o base w told
  pub done : ℕ
  pub begun : ℕ
  pub coming : IsComing o (waiting_names w) w.current done begun
  pub count : left + done ≡ sum_by (functions_at o) (waiting_names w)
  pub ticks_are : ticks ≤ told + begun
  pub whole : NoneFails o → ticks ≡ ticked w.cost (coming_cost w.current)

-- the same with this plan under way, for the formula of the last name that waits
pub record IsNext (o : Outline) (base left : ℕ) (w : Plans) (f : FormulaValue) (current : Option formula_plan.PlanValue) (ticks : ℕ) : Type 0 where
  pub before : List (List ℕ)
  pub name : List ℕ
  pub last : waiting_names w ≡ before ++ name ∷ []
  pub held : entry_of o name ≡ Some (entry.Formula f)
  pub way : IsOnTheWay o base left (record w { current = current }) ticks

-- a function is left to apply
abbrev pub HasFunctionLeft : Outline → Plans → ℕ → Type 0
HasFunctionLeft o w ticks = (base left : ℕ) → IsOnTheWay o base left w ticks → 0 < left

-- the planner stops at a whole plan, or with the budget spent
abbrev pub IsStopped : FormulaValue → Option formula_plan.PlanValue → (is_whole : Bool) → Budget → Type 0
IsStopped f None is_whole budget = ⊥
IsStopped f (Some p) true budget = length p.changes ≡ length f.nodes
IsStopped f (Some p) false budget = (length p.changes ≡ length f.nodes → ⊥) × (budget ≡ Spent)

-- the budget after a function
abbrev pub paid : Budget → Budget
paid All = All
paid One = Spent
paid Spent = Spent

-- one function is applied: `left` functions were left, `rest` are, and the ticks rise by at most the cost of one node
pub record IsOneApplied (o : Outline) (left rest before after : ℕ) : Type 0 where
  pub one : left ≡ rest + 1
  pub cost : ℕ
  pub node : IsNodeCost o.name (proposed_change o) (proposed_names o) cost
  pub rises : before ≤ after
  pub most : after ≤ before + cost

-- what is paid for until one budget is another: any number of functions, one, or none
abbrev pub IsPaid : Outline → Budget → Budget → (left rest before after : ℕ) → Type 0
IsPaid o All budget left rest before after = budget ≡ All
IsPaid o Spent budget left rest before after = (budget ≡ Spent) × (left ≡ rest) × (after ≡ before)
IsPaid o One All left rest before after = ⊥
IsPaid o One One left rest before after = (left ≡ rest) × (after ≡ before)
IsPaid o One Spent left rest before after = IsOneApplied o left rest before after

-- the sheet after the change is allowed: its names have an order, none reaches itself, and there is room
pub record CanBe (o : Outline) : Type 0 where
  pub kept : HasOrder (proposed_names o)
  pub sheet : IsSheet (proposed_names o)
  pub room : HasRoomForName (names_of o.entries) o.name
