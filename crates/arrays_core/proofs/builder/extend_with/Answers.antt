use Rattle.std.{proofs.Common.{◌≡◌, ◌∙◌, ap, refl, ◌+◌, ◌-◌, ◌++◌, ℕ, take, length, replicate, arith, Ok, Err, Result, List}, specs.Result.{is_ok}, specs.Prelude.{OnOk, if◌then◌else◌}, proofs.lemmas.List.{take_all}}
use Rattle.arrays_core.{specs.Building.{listed}, proofs.Building.{listed_same}}
use Rattle.arrays_core.proofs.builder.extend_with.Goals as goal

same_put : {A T E : Type 0} (r : Result T E) (now before : List A) (x : A) (n long m len : ℕ) → now ≡ (if is_ok r then take m before ++ replicate (m - len) x else before)
    → length before ≡ long → len ≡ long → m ≡ long + n → OnOk r (now ≡ before ++ listed n (λ k. x))
same_put (Ok y) now before x n long m len e f g h =
    e ∙ ap (λ xs. xs ++ replicate (m - len) x) (take_all m before (omega arith)) ∙ ap (λ xs. before ++ xs) (ap (λ k. replicate k x) (omega arith) ∙ listed_same x n)
same_put (Err y) now before x n long m len e f g h = tt

pub returns : goal.returns
returns g c =
    same_put c.resize.result c.resize.new.self.items c.args.items.now.items c.args.item c.args.count (length c.args.items.now.items) (c.len.result + c.args.count) _
    c.resize.ensures.items refl (omega (arith, c.args.items.now.ok.0)) (omega (arith, c.args.items.now.ok.0, c.len.ensures))
