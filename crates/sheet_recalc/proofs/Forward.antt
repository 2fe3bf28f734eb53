-- The progress of the plans of a change.
use Rattle.std.{proofs.Common.{◌≡◌, ◌+◌, ◌-◌, ◌≤◌, ◌<◌, ℕ, true, false, min, List, [], ◌∷◌, ◌++◌, length, take, get_or, cond, Option, Some, None, refl, sym, ap, ◌∙◌, subst, arith}, specs.Str.{bytes_eq}, specs.Map.{lookup, keys_of}, specs.Option.{option_map_or, unwrap_or}, specs.List.{IsDistinct, sum_by}}
use Rattle.std.{proofs.lemmas.List.{length-append, take_all}, proofs.lemmas.List.Sums.{sum_by_push}, proofs.Math.Seq.{get_or-append_seam}}
use Rattle.{change_core.specs.Meters.{ticked}, dep_order.specs.Users.{HasNothing}}
use Rattle.formula_core.{specs.Changes.{NamesChange}, specs.Formulas.{FormulaValue, operations}, specs.Plans.{PlanValue, node_cost_at, tree_cost, IsComputed, AllComputed}, specs.Progress.{operations_among, IsPlannedTo}, specs.Tables.{subtrees, tree_at}, proofs.Planned.{planned_at_end, plan_of}}
use Rattle.formula_core.proofs.Progressed.{all_among, left_at, part_left, longer, cost_more, cost_within}
use Rattle.sheet_recalc.{specs.Names.{Names, Binding}, specs.Costs.{functions_of}, specs.Live.{AreRightOnceTaken, plan_in}, specs.ProposedSheet.{Outline, own_entry, proposed_names, proposed_change, proposed_cost, entry_of}}
use Rattle.sheet_recalc.{specs.Planning.{IsProposed, IsPlanAt, IsUnderWay, NoneFails, AreMade, coming_cost, IsComingTo, IsComing, IsOnTheWay, IsNext, IsPaid, IsOneApplied, IsStopped, paid, waiting_names, functions_at, name_cost, names_cost}, specs.declared.budget.Budget.{Budget}}
use Rattle.sheet_recalc.{specs.declared.budget.Budget.TheVariants.{All, One, Spent}, specs.declared.plans.Plans.{Plans}, proofs.Accounted.{few_ticks}, proofs.PlannedNames.{bound_to, formula_cost, is_new_own}}
use Rattle.sheet_recalc.proofs.Working.{under_way_first, plain_next, plain_costs_nothing, plain_applies_none, cost_split, formula_next, planned_in_the_end, IsAffected}
use Rattle.sheet_recalc.specs.declared.entry.Entry.TheVariants as entry

-- the last of names is one name
last_of : (xs : List (List ℕ)) (x : List ℕ) → get_or (xs ++ x ∷ []) (length (xs ++ x ∷ []) - 1) [] ≡ x
last_of xs x =
    let long : length (xs ++ x ∷ []) - 1 ≡ length xs = omega (arith, length-append xs (x ∷ [])) in
    ap (λ k. get_or (xs ++ x ∷ []) k []) long ∙ get_or-append_seam xs x [] []

last_same : (xs ys : List (List ℕ)) (x y : List ℕ) → xs ++ x ∷ [] ≡ ys ++ y ∷ [] → x ≡ y
last_same xs ys x y is = sym (last_of xs x) ∙ (ap (λ zs. get_or zs (length zs - 1) []) is ∙ last_of ys y)

pub keys_long : {X : Type 0} (es : List (List ℕ × X)) → length (keys_of es) ≡ length es
keys_long [] = refl
keys_long (e ∷ es) = let rest = keys_long es in omega (arith, rest)

-- all of the names wait
all_names : (w : Plans) → w.waiting ≡ length w.found.entries → waiting_names w ≡ keys_of w.found.entries
all_names w waits = take_all w.waiting (keys_of w.found.entries) (omega (arith, waits, keys_long w.found.entries))

-- nothing stands beside any name
none_in : (es : List (List ℕ × Option PlanValue)) → HasNothing bytes_eq es → (q : List ℕ) → plan_in es q ≡ None
none_in es none q = by (lookup (bytes_eq q) es) refl
  where
    by : (v : Option (Option PlanValue)) → lookup (bytes_eq q) es ≡ v → unwrap_or v None ≡ None
    by None is = refl
    by (Some v) is = none q v is

module _ (o : Outline) where
  abbrev c : NamesChange
  c = proposed_change o

  abbrev new : Names
  new = proposed_names o

  -- a plan that is on its way is one of the formula of the name that comes next
  module _ (names front : List (List ℕ)) (name : List ℕ) (split : names ≡ front ++ name ∷ []) (p : PlanValue) (done begun : ℕ) (k : IsComingTo o names p done begun) where
    coming_formula : entry_of o name ≡ Some (entry.Formula k.formula)
    coming_formula = ap (entry_of o) (sym (last_same k.before front k.name name (sym k.last ∙ split))) ∙ k.held

    coming_for : (f : FormulaValue) → entry_of o name ≡ Some (entry.Formula f)
        → IsPlannedTo f c p × (done ≡ operations_among f p.changes) × (begun ≡ sum_by (node_cost_at f.is_new c) (take (length p.changes) (subtrees f.tree)))
    coming_for f held =
        let both : Some (entry.Formula k.formula) ≡ Some (entry.Formula f) = sym coming_formula ∙ held in
        let this : k.formula ≡ f = cc in
        subst (λ (g : FormulaValue). IsPlannedTo g c p × (done ≡ operations_among g p.changes) × (begun ≡ sum_by (node_cost_at g.is_new c) (take (length p.changes) (subtrees g.tree))))
        this (k.planned, k.done_is, k.begun_is)

  module _ (ready : IsProposed o) (base : ℕ) where
    -- in the beginning all wait
    pub first_way : (w : Plans) → w.waiting ≡ length w.found.entries → w.current ≡ None → w.cost ≡ base → base < 18446744073709551616
        → IsDistinct bytes_eq (keys_of w.found.entries) → IsAffected o (keys_of w.found.entries) → HasNothing bytes_eq w.found.entries → proposed_cost o ≡ names_cost o (keys_of w.found.entries)
        → IsOnTheWay o base (sum_by (functions_at o) (keys_of w.found.entries)) w base
    first_way w waits none spent small distinct affected nothing costs =
        let keys = keys_of w.found.entries in
        let all : waiting_names w ≡ keys = all_names w waits in
        record {
          told = base;
          made = record {
            few = omega (arith, waits);
            way = subst (λ ns. IsUnderWay o ns (plan_in w.found.entries)) (sym all) (under_way_first o keys affected distinct (plan_in w.found.entries) (none_in w.found.entries nothing));
            spent = 0;
            split = omega (arith, costs, ap (names_cost o) all);
            cost_is = omega (arith, spent, small);
            ticks_are = omega arith;
          };
          done = 0;
          begun = 0;
          coming = subst (λ q. IsComing o (waiting_names w) q 0 0) (sym none) (refl, refl);
          count = omega (arith, ap (sum_by (functions_at o)) all);
          ticks_are = omega arith;
          whole = λ _. omega (arith, spent, small, ap coming_cost none);
        }

    -- the cost of the whole plans fits
    costs_fit : (w : Plans) (told : ℕ) → AreMade o base w told → w.cost < 18446744073709551616
    costs_fit w told made = omega (arith, made.cost_is)

    -- of a formula no item fails where none does of any
    none_in_formula : (name : List ℕ) (f : FormulaValue) → entry_of o name ≡ Some (entry.Formula f) → NoneFails o → AllComputed f.is_new c f.tree
    none_in_formula name f held good = subst (λ b. AllComputed b c f.tree) (sym (is_new_own o ready name f held)) (good name f.tree (bound_to o ready name f held))

    -- the functions of a formula
    applies_at : (name : List ℕ) (f : FormulaValue) → entry_of o name ≡ Some (entry.Formula f) → functions_at o name ≡ operations f.tree
    applies_at name f held = ap (λ (b : Option Binding). option_map_or functions_of b 0) (bound_to o ready name f held)

    module _ (left ticks : ℕ) where
      -- a name that is bound to no formula waits no longer
      pub skipped : (w : Plans) (name : List ℕ) → IsOnTheWay o base left w ticks → 0 < w.waiting → waiting_names w ≡ take (w.waiting - 1) (keys_of w.found.entries) ++ name ∷ []
          → ((f : FormulaValue) → entry_of o name ≡ Some (entry.Formula f) → ⊥) → IsOnTheWay o base left (record w { waiting = w.waiting - 1 }) ticks
      skipped w name now some split plain =
          record {
            told = now.told;
            made = record {
              few = omega (arith, now.made.few);
              way = plain_next o ready front name (waiting_names w) split (plan_in w.found.entries) now.made.way plain;
              spent = now.made.spent;
              split = omega (arith, now.made.split, cost_split o ready front name (waiting_names w) split (plan_in w.found.entries) now.made.way, plain_costs_nothing o ready name plain);
              cost_is = now.made.cost_is;
              ticks_are = now.made.ticks_are;
            };
            done = now.done;
            begun = now.begun;
            coming = by w.current now.coming;
            count = omega (arith, now.count, ap (sum_by (functions_at o)) split, sum_by_push (functions_at o) front name, plain_applies_none o ready name plain);
            ticks_are = now.ticks_are;
            whole = now.whole;
          }
        where
          front : List (List ℕ)
          front = take (w.waiting - 1) (keys_of w.found.entries)

          by : (q : Option PlanValue) → IsComing o (waiting_names w) q now.done now.begun → IsComing o front q now.done now.begun
          by None h = h
          by (Some p) h = absurd (plain h.formula (coming_formula (waiting_names w) front name split p now.done now.begun h))

      module _ (w : Plans) (f : FormulaValue) where
        -- a plan is begun
        pub started_way : (p : PlanValue) → IsNext o base left w f None ticks → IsPlannedTo f c p → operations_among f p.changes ≡ 0 → p.cost ≡ 0 → IsNext o base left w f (Some p) ticks
        started_way p next planned zero free =
            let now = next.way in
            record {
              before = next.before;
              name = next.name;
              last = next.last;
              held = next.held;
              way = record {
                told = now.told;
                made = now.made;
                done = 0;
                begun = sum_by (node_cost_at f.is_new c) (take (length p.changes) (subtrees f.tree));
                coming = record { before = next.before; name = next.name; last = next.last; formula = f; held = next.held; planned = planned; done_is = sym zero; begun_is = refl };
                count = omega (arith, now.count, now.coming.0);
                ticks_are = omega (arith, now.ticks_are, now.coming.1);
                whole = λ good. let all = now.whole good in omega (arith, all, free);
              };
            }

        -- the plan under way
        module _ (p : PlanValue) (next : IsNext o base left w f (Some p) ticks) where
          coming : IsPlannedTo f c p × (next.way.done ≡ operations_among f p.changes) × (next.way.begun ≡ sum_by (node_cost_at f.is_new c) (take (length p.changes) (subtrees f.tree)))
          coming = coming_for (waiting_names w) next.before next.name next.last p next.way.done next.way.begun next.way.coming f next.held

          pub next_planned : IsPlannedTo f c p
          next_planned = coming.0

          -- a whole plan is kept
          pub kept_way : (w' : Plans) → 0 < w.waiting → waiting_names w ≡ take (w.waiting - 1) (keys_of w.found.entries) ++ next.name ∷ [] → length p.changes ≡ length f.nodes
              → w'.waiting ≡ w.waiting - 1 → keys_of w'.found.entries ≡ keys_of w.found.entries → ((q : List ℕ) → plan_in w'.found.entries q ≡ cond (bytes_eq next.name q) (Some p) (plan_in w.found.entries q))
              → w'.cost ≡ min (w.cost + p.cost) 18446744073709551615 → w'.current ≡ None → IsOnTheWay o base left w' ticks
          kept_way w' some split whole waits keys plans cost none =
              let now = next.way in
              let name = next.name in
              let front = take (w.waiting - 1) (keys_of w.found.entries) in
              let known = coming.0.begun.known in
              let planned = planned_at_end f c p coming.0.begun whole in
              let at : IsPlanAt o name p = record { formula = f; held = next.held; of = plan_of f c p coming.0.begun whole; planned = planned } in
              let names : waiting_names w' ≡ front = λ i. take (waits i) (keys i) in
              let made = formula_next o ready front name (waiting_names w) split (plan_in w.found.entries) now.made.way p at (plan_in w'.found.entries) plans in
              let costs = formula_cost o ready name f next.held in
              let within : ticks ≤ now.told + tree_cost f.is_new c f.tree = cost_within f.is_new c f.tree (length p.changes) now.told ticks (subst (λ n. ticks ≤ now.told + n) coming.2 now.ticks_are) in
              record {
                told = now.told + tree_cost f.is_new c f.tree;
                made = record {
                  few = omega (arith, waits, some, now.made.few, keys_long w.found.entries, keys_long w'.found.entries, ap length keys);
                  way = subst (λ ns. IsUnderWay o ns (plan_in w'.found.entries)) (sym names) made;
                  spent = now.made.spent + name_cost o.name c new name;
                  split = omega (arith, now.made.split, cost_split o ready front name (waiting_names w) split (plan_in w.found.entries) now.made.way, ap (names_cost o) names);
                  cost_is = cost ∙ omega (arith, now.made.cost_is, planned.cost, costs);
                  ticks_are = omega (arith, now.made.ticks_are, costs);
                };
                done = 0;
                begun = 0;
                coming = subst (λ q. IsComing o (waiting_names w') q 0 0) (sym none) (refl, refl);
                count = omega (arith, now.count, coming.1, all_among f p.changes whole known, ap (sum_by (functions_at o)) split, sum_by_push (functions_at o) front name, applies_at name f next.held, ap (sum_by (functions_at o)) names);
                ticks_are = omega (arith, within);
                whole = λ good. let all = now.whole good in omega (arith, all, cost, ap coming_cost none);
              }

          -- a function of it is left
          module _ (part : length p.changes ≡ length f.nodes → ⊥) where
            below : length p.changes < length f.nodes
            below = part_left f p.changes coming.0.begun.few part

            pub next_left : operations_among f p.changes < operations f.tree
            next_left = left_at f p.changes coming.0.next below coming.0.begun.known

            pub function_left : 0 < left
            function_left = omega (arith, next.way.count, coming.1, next_left, ap (sum_by (functions_at o)) next.last, sum_by_push (functions_at o) next.before next.name, applies_at next.name f next.held)

            -- and is applied
            module _ (p' : PlanValue) (after : ℕ) (one : operations_among f p'.changes ≡ operations_among f p.changes + 1)
                (more : after ≤ ticks + node_cost_at f.is_new c (tree_at (subtrees f.tree) (length p.changes))) where
              pub applied_way : IsPlannedTo f c p'
                  → (IsComputed f.is_new c (tree_at (subtrees f.tree) (length p.changes)) → after ≡ ticked ticks (node_cost_at f.is_new c (tree_at (subtrees f.tree) (length p.changes))))
                  → p'.cost ≡ ticked p.cost (node_cost_at f.is_new c (tree_at (subtrees f.tree) (length p.changes)))
                  → IsNext o base (left - 1) w f (Some p') after
              applied_way planned all cost =
                  let now = next.way in
                  record {
                    before = next.before;
                    name = next.name;
                    last = next.last;
                    held = next.held;
                    way = record {
                      told = now.told;
                      made = now.made;
                      done = now.done + 1;
                      begun = sum_by (node_cost_at f.is_new c) (take (length p'.changes) (subtrees f.tree));
                      coming = record { before = next.before; name = next.name; last = next.last; formula = f; held = next.held; planned = planned; done_is = omega (arith, coming.1, one); begun_is = refl };
                      count = omega (arith, now.count, function_left);
                      ticks_are = cost_more f.is_new c f.tree (length p.changes) (length p'.changes) now.told ticks after (omega (arith, below, coming.0.begun.known)) (longer f p.changes p'.changes one)
                          (subst (λ n. ticks ≤ now.told + n) coming.2 now.ticks_are) more;
                      whole = λ good.
                          let counted = all (none_in_formula next.name f next.held good (length p.changes) (omega (arith, below, coming.0.begun.known))) in
                          let before = now.whole good in
                          omega (arith, counted, before, cost);
                    };
                  }

              pub one_applied : ticks ≤ after → IsOneApplied o left (left - 1) ticks after
              one_applied rises = record {
                one = omega (arith, function_left);
                cost = node_cost_at f.is_new c (tree_at (subtrees f.tree) (length p.changes));
                node = record {
                  at = next.name;
                  tree = f.tree;
                  bound = bound_to o ready next.name f next.held;
                  place = length p.changes;
                  below = omega (arith, below, coming.0.begun.known);
                  cost_is = ap (λ b. node_cost_at b c (tree_at (subtrees f.tree) (length p.changes))) (is_new_own o ready next.name f next.held);
                };
                rises = rises;
                most = more;
              }

      -- the planner stopped at this plan of the next formula
      module _ (w : Plans) (name : List ℕ) (front : List (List ℕ)) (split : waiting_names w ≡ front ++ name ∷ []) (f : FormulaValue) (held : entry_of o name ≡ Some (entry.Formula f)) where
        pub stopped_left : (q : Option PlanValue) (b : Budget) → IsStopped f q false b → IsOnTheWay o base left (record w { current = q }) ticks → 0 < left
        stopped_left None b stop way = absurd stop
        stopped_left (Some p) b stop way = function_left w f p (record { before = front; name = name; last = split; held = held; way = way }) stop.0

        pub kept_whole : (q : Option PlanValue) (b : Budget) → IsStopped f q true b → IsOnTheWay o base left (record w { current = q }) ticks → (w' : Plans) → 0 < w.waiting → front ≡ take (w.waiting - 1) (keys_of w.found.entries)
            → w'.waiting ≡ w.waiting - 1 → keys_of w'.found.entries ≡ keys_of w.found.entries → ((r : List ℕ) → plan_in w'.found.entries r ≡ cond (bytes_eq name r) q (plan_in w.found.entries r))
            → w'.cost ≡ min (w.cost + coming_cost q) 18446744073709551615 → w'.current ≡ None → IsOnTheWay o base left w' ticks
        kept_whole None b stop way w' some is waits keys plans cost none = absurd stop
        kept_whole (Some p) b stop way w' some is waits keys plans cost none =
            kept_way w f p (record { before = front; name = name; last = split; held = held; way = way }) w' some (split ∙ ap (λ ys. ys ++ name ∷ []) is) stop waits keys plans cost none

      -- in the end each plan is made
      module _ (w : Plans) (now : IsOnTheWay o base left w ticks) (end : w.waiting ≡ 0) where
        names : waiting_names w ≡ []
        names = ap (λ n. take n (keys_of w.found.entries)) end

        none_coming : (now.done ≡ 0) × (now.begun ≡ 0) × (coming_cost w.current ≡ 0)
        none_coming = by w.current now.coming
          where
            by : (q : Option PlanValue) → IsComing o (waiting_names w) q now.done now.begun → (now.done ≡ 0) × (now.begun ≡ 0) × (coming_cost q ≡ 0)
            by None h = (h.0, h.1, refl)
            by (Some p) h = absurd (omega (arith, ap length (sym names ∙ h.last), length-append h.before (h.name ∷ [])))

        pub none_left : left ≡ 0
        none_left = omega (arith, now.count, none_coming.0, ap (sum_by (functions_at o)) names)

        pub all_planned : AreRightOnceTaken o.entries o.name (own_entry o) new (plan_in w.found.entries)
        all_planned = planned_in_the_end o ready (waiting_names w) (plan_in w.found.entries) now.made.way (λ l. let long = ap length names in let never : ⊥ = omega (arith, l, long) in never)

        pub all_cost : w.cost ≡ ticked base (proposed_cost o)
        all_cost = now.made.cost_is ∙ ap (ticked base) (omega (arith, now.made.split, ap (names_cost o) names))

        pub all_few : ticks < 18446744073709551616 → ticks ≤ w.cost
        all_few small =
            let made : ticks ≤ base + proposed_cost o = omega (arith, now.ticks_are, now.made.ticks_are, none_coming.1, now.made.split) in
            few_ticks base (proposed_cost o) ticks w.cost made small all_cost

        pub all_whole : NoneFails o → ticks ≡ w.cost
        all_whole good =
            let all = now.whole good in
            omega (arith, all, none_coming.2, costs_fit w now.told now.made)

-- a planner that stopped before the end has spent its budget
pub stopped_spent : (f : FormulaValue) (q : Option PlanValue) (b : Budget) → IsStopped f q false b → b ≡ Spent
stopped_spent f None b stop = absurd stop
stopped_spent f (Some p) b stop = stop.1

-- nothing is paid for at once
pub paid_none : (o : Outline) (b : Budget) (n t : ℕ) → IsPaid o b b n n t t
paid_none o All n t = refl
paid_none o One n t = (refl, refl)
paid_none o Spent n t = (refl, refl, refl)

-- a budget that is not spent pays for a function
pub paid_one : (o : Outline) (b : Budget) (left rest before after : ℕ) → (b ≡ Spent → ⊥) → IsOneApplied o left rest before after → IsPaid o b (paid b) left rest before after
paid_one o All left rest before after some h = refl
paid_one o One left rest before after some h = h
paid_one o Spent left rest before after some h = absurd (some refl)

-- what is paid for, and then more
pub paid_more : (o : Outline) (b b' b'' : Budget) (l m r t u v : ℕ) → IsPaid o b b' l m t u → IsPaid o b' b'' m r u v → IsPaid o b b'' l r t v
paid_more o All b' b'' l m r t u v h k = subst (λ x. IsPaid o x b'' m r u v) h k
paid_more o Spent b' b'' l m r t u v h k =
    let same = subst (λ x. IsPaid o x b'' m r u v) h.0 k in
    (same.0, h.1 ∙ same.1, same.2 ∙ h.2)
paid_more o One All b'' l m r t u v h k = absurd h
paid_more o One One b'' l m r t u v h k = subst (λ x. IsPaid o One b'' x r t v) (sym h.0) (subst (λ x. IsPaid o One b'' m r x v) h.1 k)
paid_more o One Spent b'' l m r t u v h k =
    subst (λ x. IsPaid o One x l r t v) (sym k.0) (subst (λ x. IsOneApplied o l r t x) (sym k.2) (subst (λ x. IsOneApplied o l x t u) k.1 h))
