use Rattle.std.{proofs.Common.{◌≡◌, ◌∙◌, ap, ◌+◌, ◌-◌, ◌++◌, ◌≤◌, ℕ, get_or, take, drop, length, arith, Ok, Err, Result, List}, specs.Result.{is_ok}, specs.Prelude.{OnOk, if◌then◌else◌}}
use Rattle.arrays_core.{specs.Building.{listed}, proofs.Building.{run_listed}}
use Rattle.arrays_core.proofs.builder.extend_run.Goals as goal

run_put : {A T E : Type 0} (r : Result T E) (now before xs : List A) (first n m : ℕ) → now ≡ (if is_ok r then before ++ take m (drop first xs) else before)
    → first + n ≤ length xs → m ≡ n → OnOk r ((d : A) → now ≡ before ++ listed n (λ k. get_or xs (first + k) d))
run_put (Ok x) now before xs first n m e h same = λ d. e ∙ ap (λ ys. before ++ ys) (run_listed xs first n m d h same)
run_put (Err x) now before xs first n m e h same = tt

pub returns : goal.returns
returns g c =
    run_put c.extend_from_slice.result c.extend_from_slice.new.self.items c.args.items.now.items c.args.from.now c.args.first c.args.count (c.args.first + c.args.count - c.args.first)
    c.extend_from_slice.ensures.items c.requires (omega arith)
