-- The arguments of an operation as two lists: their views, and the changed places of each.
use Rattle.std.{proofs.Common.{◌≡◌, ℕ, suc, ◌+◌, ◌<◌, ◌≤◌, List, [], ◌∷◌, ◌++◌, length, map, take, get_or, Option, Some, None, Result, Ok, Err, IfOk, OnOk, false, refl, sym, ap, ◌∙◌, subst, arith}, specs.Borrow.{Bor}, proofs.lemmas.List.{append-nil, take_more}, specs.declared.alloc.AllocError.{AllocError}}
use Rattle.arrays_core.{specs.Arrays.{ArrayValue}, specs.Outcomes.{Outcome}}
use Rattle.index_region.{specs.declared.delta.Delta.{Delta}, specs.declared.delta.Delta.TheVariants.{Same, Patch, Grown, Whole}, specs.declared.moved.Moved.{Moved}, specs.declared.moved.Moved.TheVariants.{Not, Inside, Longer, Anew}, specs.Boxes.{Interval}, specs.Moves.{Tells, changed_box}}
use Rattle.change_core.{specs.Reaches.{Fits, AllFit}, specs.Meters.{ticked}, specs.RuleModels.{RuleModel}}
use Rattle.change_rules.specs.Nodes.{Argument, AreArguments, is_error, views, moved, moved_by, node_delta, node_cost}
use Rattle.formula_core.{specs.declared.input.Input.{Input}, specs.declared.input.Input.TheVariants.{Good, Bad}, specs.Rules.{with_change, IsRefreshed, IsRefreshedBy}, specs.Inputs.{arrays_among, written_inputs, IsOperationChange}}

-- one more argument
pub told_more : (seen : List ArrayValue) (places : List Moved) (args : List Argument) (a : ArrayValue) (m : Moved) (d : Bor Delta) → AreArguments seen places args → Tells m d.now
    → AreArguments (seen ++ a ∷ []) (places ++ m ∷ []) (args ++ (a, d) ∷ [])
told_more [] [] [] a m d h t = (refl, t, tt)
told_more (v ∷ seen) (n ∷ places) (x ∷ args) a m d h t = (h.0, h.1, told_more seen places args a m d h.2 t)
told_more [] [] (x ∷ args) a m d h t = absurd h
told_more [] (n ∷ places) args a m d h t = absurd h
told_more (v ∷ seen) [] args a m d h t = absurd h
told_more (v ∷ seen) (n ∷ places) [] a m d h t = absurd h

-- the three lists are as long
pub told_long : (seen : List ArrayValue) (places : List Moved) (args : List Argument) → AreArguments seen places args → (length seen ≡ length args) × (length places ≡ length seen)
told_long [] [] [] h = (refl, refl)
told_long (v ∷ seen) (n ∷ places) (x ∷ args) h = let rest = told_long seen places args h.2 in (ap suc rest.0, ap suc rest.1)
told_long [] [] (x ∷ args) h = absurd h
told_long [] (n ∷ places) args h = absurd h
told_long (v ∷ seen) [] args h = absurd h
told_long (v ∷ seen) (n ∷ places) [] h = absurd h

-- a box that lies in its argument lies in the view of it
box_told : (a v : ArrayValue) (m : Moved) (d : Delta) → a ≡ v → Tells m d → Fits a (moved_by d) → Fits v (changed_box m)
box_told a v (Inside region) (Patch p) same t h =
    subst (λ (box : List Interval). Fits v (Some box)) (sym t) (subst (λ (b : ArrayValue). Fits b (Some p.region)) same h)
box_told a v (Inside region) Same same t h = absurd t
box_told a v (Inside region) (Grown u) same t h = absurd t
box_told a v (Inside region) (Whole r) same t h = absurd t
box_told a v Not d same t h = tt
box_told a v Longer d same t h = tt
box_told a v Anew d same t h = tt

pub told_fit : (seen : List ArrayValue) (places : List Moved) (args : List Argument) → AreArguments seen places args → AllFit (views args) (moved args) → AllFit seen (map changed_box places)
told_fit [] [] [] h fit = tt
told_fit (v ∷ seen) (n ∷ places) (x ∷ args) h fit = (box_told x.0 v n x.1.now h.0 h.1 fit.0, told_fit seen places args h.2 fit.1)
told_fit [] [] (x ∷ args) h fit = absurd h
told_fit [] (n ∷ places) args h fit = absurd h
told_fit (v ∷ seen) [] args h fit = absurd h
told_fit (v ∷ seen) (n ∷ places) [] h fit = absurd h

-- the refresh of an operation that stores its change, by the contract of the call
pub refreshed_by : (p : RuleModel) (seen : List ArrayValue) (places : List Moved) (held : Outcome) (before after : ℕ) (change : Delta) (r : Result ℕ AllocError)
    → OnOk r ((args : List Argument) → AreArguments seen places args → change ≡ node_delta p args held) → IfOk r (λ n. (args : List Argument) → AreArguments seen places args → n ≡ node_cost p args held)
    → ((args : List Argument) → AreArguments seen places args → after ≤ before + node_cost p args held)
    → IfOk r (λ n. is_error change ≡ false → after ≡ ticked before n) → before ≤ after → IsRefreshedBy p seen places held before after (with_change change r)
refreshed_by p seen places held before after change (Ok n) delta cost most exact rises =
    λ args are. record { delta = delta args are; cost = cost args are; ticks = most args are; least = λ sound. omega (arith, exact sound); rises = rises }
refreshed_by p seen places held before after change (Err e) delta cost most exact rises =
    λ args are. record { delta = tt; cost = tt; ticks = most args are; least = tt; rises = rises }

-- an argument that was replaced
abbrev pub replaced : ArrayValue → Argument
replaced a = (a, record { ref_ptr = (0, 0); now = Whole (Ok a) })

-- the refresh of an operation of arrays is its change
pub refreshed_before : (rule : RuleModel) (a v : ArrayValue) (m : Moved) (d : Bor Delta) (held : Outcome) (before after : ℕ) (r : Result (Delta × ℕ) AllocError) → v ≡ a → Tells m d.now
    → IsRefreshedBy rule (v ∷ []) (m ∷ []) held before after r → IsOperationChange rule (Good a d ∷ []) held before after r
refreshed_before rule a v m d held before after r same t all =
    let h = all ((a, d) ∷ []) (sym same, t, tt) in record { delta = h.delta; cost = h.cost; ticks = h.ticks; least = h.least; rises = h.rises }

pub refreshed_between : (rule : RuleModel) (a b v w : ArrayValue) (m n : Moved) (d e : Bor Delta) (held : Outcome) (before after : ℕ) (r : Result (Delta × ℕ) AllocError) → v ≡ a → w ≡ b → Tells m d.now → Tells n e.now
    → IsRefreshedBy rule (v ∷ w ∷ []) (m ∷ n ∷ []) held before after r → IsOperationChange rule (Good a d ∷ Good b e ∷ []) held before after r
refreshed_between rule a b v w m n d e held before after r same alike t u all =
    let h = all ((a, d) ∷ (b, e) ∷ []) (sym same, t, (sym alike, u, tt)) in record { delta = h.delta; cost = h.cost; ticks = h.ticks; least = h.least; rises = h.rises }

-- one more position of an index
among_more : (xs : List (Option Input)) (p : Option Input) → arrays_among (written_inputs (xs ++ p ∷ [])) ≡ arrays_among (written_inputs xs) ++ arrays_among (written_inputs (p ∷ []))
among_more [] p = refl
among_more (None ∷ xs) p = among_more xs p
among_more (Some (Good a d) ∷ xs) p = ap (λ (ys : List Argument). (a, d) ∷ ys) (among_more xs p)
among_more (Some (Bad f changed) ∷ xs) p = among_more xs p

pub among_taken : (ps : List (Option Input)) (k : ℕ) (p : Option Input) → k < length ps → get_or ps k None ≡ p
    → arrays_among (written_inputs (take (k + 1) ps)) ≡ arrays_among (written_inputs (take k ps)) ++ arrays_among (written_inputs (p ∷ []))
among_taken ps k p below is =
    ap (λ xs. arrays_among (written_inputs xs)) (take_more ps k None below)
    ∙ (among_more (take k ps) (get_or ps k None) ∙ ap (λ q. arrays_among (written_inputs (take k ps)) ++ arrays_among (written_inputs (q ∷ []))) is)

-- one more position that is an array, and one that is not
pub told_array : (ps : List (Option Input)) (k : ℕ) (first : Argument) (a v : ArrayValue) (d : Bor Delta) (m : Moved) (seen : List ArrayValue) (places : List Moved) → k < length ps → get_or ps k None ≡ Some (Good a d) → v ≡ a → Tells m d.now
    → AreArguments seen places (first ∷ arrays_among (written_inputs (take k ps))) → AreArguments (seen ++ v ∷ []) (places ++ m ∷ []) (first ∷ arrays_among (written_inputs (take (k + 1) ps)))
told_array ps k first a v d m seen places below is same t h =
    subst (λ (args : List Argument). AreArguments (seen ++ v ∷ []) (places ++ m ∷ []) (first ∷ args)) (sym (among_taken ps k (Some (Good a d)) below is))
    (subst (λ (b : ArrayValue). AreArguments (seen ++ b ∷ []) (places ++ m ∷ []) (first ∷ (arrays_among (written_inputs (take k ps)) ++ (a, d) ∷ []))) (sym same)
    (told_more seen places (first ∷ arrays_among (written_inputs (take k ps))) a m d h t))

pub told_none : (ps : List (Option Input)) (k : ℕ) (p : Option Input) → k < length ps → get_or ps k None ≡ p → arrays_among (written_inputs (p ∷ [])) ≡ []
    → arrays_among (written_inputs (take k ps)) ≡ arrays_among (written_inputs (take (k + 1) ps))
told_none ps k p below is none =
    sym (among_taken ps k p below is ∙ (ap (λ (args : List Argument). arrays_among (written_inputs (take k ps)) ++ args) none ∙ append-nil (arrays_among (written_inputs (take k ps)))))
