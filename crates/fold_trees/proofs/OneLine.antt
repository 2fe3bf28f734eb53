-- The numbers of a list that is one line.
use Rattle.std.{proofs.Common.{◌≡◌, ◌∙◌, ℕ, ◌+◌, ◌*◌, ◌/◌, ◌%◌, ◌<◌, ℤ, pos, length, set, ap, sym, arith}, proofs.lemmas.List.{length-set, take_all}, proofs.Math.Nat.{div-eq_of_lt}}
use Rattle.item_fns.{specs.Folds.{strided, line_start}, proofs.RightFolds.{strided_run}}
use Rattle.fold_trees.{specs.ArrayLines.{TreesValue, line_through, numbers_of_line, numbers_through, with_number}, specs.PartTrees.{IsOneLine}}

pub numbers_of_one : (t : TreesValue) → IsOneLine t → 0 < length t.numbers → numbers_of_line t 0 ≡ t.numbers
numbers_of_one t one some =
    let all : t.count ≡ length t.numbers = omega (arith, one.long, some) in
    (λ i. strided (pos 0) t.numbers (line_start (one.near i) (all i) 0) (one.near i) (all i))
    ∙ ap (λ k. strided (pos 0) t.numbers k 1 (length t.numbers)) (omega arith)
    ∙ sym (strided_run (pos 0) t.numbers 0 (length t.numbers) (omega arith))
    ∙ take_all (length t.numbers) t.numbers (omega arith)

-- with another number at a place
pub numbers_of_one_with : (t : TreesValue) → IsOneLine t → (place : ℕ) (z : ℤ) → place < length t.numbers → numbers_through (with_number t place z) place ≡ set t.numbers place z
numbers_of_one_with t one place z inside =
    let changed = with_number t place z in
    let long : length changed.numbers ≡ length t.numbers = length-set t.numbers place z in
    let first : place / (t.count * 1) ≡ 0 = div-eq_of_lt (omega (arith, one.long, inside)) in
    let line : line_through t.count t.step place ≡ 0 = (λ i. place / (t.count * one.near i) * one.near i + place % one.near i) ∙ omega (arith, first) in
    ap (numbers_of_line changed) line ∙ numbers_of_one changed (record { near = one.near; long = one.long ∙ omega (arith, long) }) (omega (arith, long, inside))
