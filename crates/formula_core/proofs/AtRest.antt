-- The evaluation of a formula whose names did not change.
use Rattle.std.{proofs.Common.{◌≡◌, ◌∙◌, ◌-◌, ℕ, zero, suc, List, [], ◌∷◌, ◌++◌, length, map, get_or, true, refl, sym, ap, subst, arith, Result, Ok, Err, IfOk, ⊎_elim}, specs.List.{Contains}, specs.declared.alloc.AllocError.{AllocError}, proofs.lemmas.Bool.{false≢true}, proofs.lemmas.List.{length-append, map-append}}
use Rattle.{std.{proofs.lemmas.List.Elements.{Contains-append_cases}, proofs.Math.Seq.{get_or-append_seam}}, apl_expr.specs.Trees.{Tree}}
use Rattle.{index_region.{specs.declared.delta.Delta.{Delta}, specs.declared.delta.Delta.TheVariants.{Same}}, change_rules.specs.Currency.{applied}}
use Rattle.formula_core.{specs.declared.input.Input.{Input}, specs.Meaning.{eval, names_in}, specs.Tables.{subtrees}, specs.Changes.{NamesChange, at_rest}, specs.Inputs.{IsInput}, specs.Formulas.{FormulaValue, root_result}, specs.Holdings.{Holding, holding_at, not_worked_out, adopted}}
use Rattle.formula_core.{specs.Plans.{PlanValue, AreInputs, IsNameSound, IsTold, IsPlanned}, proofs.Rooted.{before_root, root_last}}
use Rattle.arrays_core.specs.Outcomes.{Outcome}

-- the inputs of names and of one more
pub inputs_more : (c : NamesChange) (names : List (List ℕ)) (inputs : List Input) (x : List ℕ) (i : Input) → AreInputs c names inputs → IsInput (c.new x) (c.delta x) i → AreInputs c (names ++ x ∷ []) (inputs ++ i ∷ [])
inputs_more c [] [] x i are is = (is, tt)
inputs_more c [] (j ∷ inputs) x i are is = absurd are
inputs_more c (y ∷ names) [] x i are is = absurd are
inputs_more c (y ∷ names) (j ∷ inputs) x i are is = (are.0, inputs_more c names inputs x i are.1 is)

one_name : (x y : List ℕ) → Contains (x ∷ []) y → y ≡ x
one_name x y (zero, h, e) = sym e
one_name x y (suc k, h, e) = absurd (omega (arith, h))

-- a property of some names and of one more holds of all these
pub all_more : (P : List ℕ → Type 0) (names : List (List ℕ)) (x : List ℕ) → ((y : List ℕ) → Contains names y → P y) → P x → (y : List ℕ) → Contains (names ++ x ∷ []) y → P y
all_more P names x all one y c = ⊎_elim (λ l. all y l) (λ r. subst P (sym (one_name x y r)) one) (Contains-append_cases names (x ∷ []) y c)

-- an unchanged input has the value of its name
pub rest_input : (d : Delta) → d ≡ Same → (r o : Outcome) → r ≡ o → (i : Input) → IsInput (applied d r) d i → IsInput o Same i
rest_input d same r o is i told = subst (λ s. IsInput s Same i) is (subst (λ e. IsInput (applied e r) e i) same told)

-- the inputs tell a formula that is marked new
pub told_at_rest : (f : FormulaValue) (names : List ℕ → Outcome) (inputs : List Input) → f.is_new ≡ true → AreInputs (at_rest names) (names_in f.tree) inputs → ((x : List ℕ) → Contains (names_in f.tree) x → IsNameSound (at_rest names) x) → IsTold f (at_rest names) inputs
told_at_rest f names inputs new are sound = record { holds = λ old. absurd (false≢true (sym old ∙ new)); tell = are; changed = λ x stands. record { right = refl; fit = tt }; sound = sound }

at_root : {X : Type 0} (g : Tree → X) (t : Tree) (d : X) → get_or (map g (subtrees t)) (length (map g (subtrees t)) - 1) d ≡ g t
at_root g t d =
    let all : map g (subtrees t) ≡ map g (before_root t) ++ g t ∷ [] = ap (map g) (root_last t) ∙ map-append g (before_root t) (t ∷ []) in
    let long : length (map g (before_root t) ++ g t ∷ []) - 1 ≡ length (map g (before_root t)) = omega (arith, length-append (map g (before_root t)) (g t ∷ [])) in
    ap (λ ys. get_or ys (length ys - 1) d) all ∙ (ap (λ k. get_or (map g (before_root t) ++ g t ∷ []) k d) long ∙ get_or-append_seam (map g (before_root t)) (g t) [] d)

-- the result of a formula that holds the value of its tree
pub held_result : (t : Tree) (names : List ℕ → Outcome) (held : List Holding) → held ≡ map (holding_at names) (subtrees t) → root_result held ≡ eval t names
held_result t names held is = ap root_result is ∙ ap (λ (h : Holding). h.result) (at_root (holding_at names) t not_worked_out)

-- the holdings and the result after the plan
pub planned_result : (f : FormulaValue) (names : List ℕ → Outcome) (p : PlanValue) (held : List Holding) → IsPlanned f (at_rest names) p → held ≡ adopted p.changes f.nodes → root_result held ≡ eval f.tree names
planned_result f names p held planned is = held_result f.tree names held (is ∙ planned.right)

-- a plan for every change that the inputs tell is a plan for unchanged names
pub planned_at_rest : (f : FormulaValue) (names : List ℕ → Outcome) (inputs : List Input) (r : Result PlanValue AllocError) → IsTold f (at_rest names) inputs → IfOk r (λ p. (c : NamesChange) → IsTold f c inputs → IsPlanned f c p) → IfOk r (λ p. IsPlanned f (at_rest names) p)
planned_at_rest f names inputs (Ok p) told planned = planned (at_rest names) told
planned_at_rest f names inputs (Err e) told planned = tt
