-- Positions of the lines of an array along an axis.
use Rattle.std.{proofs.Common.{◌≡◌, ℕ, zero, suc, ◌+◌, ◌*◌, ◌/◌, ◌%◌, ◌<◌, List, [], ◌∷◌, length, sym, ap, ◌∙◌, arith}, proofs.lemmas.Nat.{div-add-mod', div-mul-add, mod-mul-add, mod_below, mul-add-lt}, proofs.Math.Nat.{mul-mod_left}}
use Rattle.{arrays_core.specs.Shapes.{size}, item_fns.specs.Folds.{line_start}, fold_trees.specs.ArrayLines.{line_through}}
use Rattle.{reduce_fns.{proofs.Lines.{size-drop-le}, proofs.Reduced.{sizes}}, sum_rules.specs.LineSums.{line_length, line_step}}

-- non-empty lines have an axis
pub has_axis : (axis : ℕ) (shape : List ℕ) → 0 < line_length axis shape → axis < length shape
has_axis axis [] h = absurd (omega arith)
has_axis zero (n ∷ shape) h = omega arith
has_axis (suc axis) (n ∷ shape) h = let rest = has_axis axis shape h in omega (arith, rest)

some_factor : (n s l t : ℕ) → t ≡ l * (n * s) → 0 < t → 0 < n
some_factor zero s l t e h = absurd (omega arith)
some_factor (suc n) s l t e h = omega arith

-- the lines of a non-empty array are not empty
pub some_in_line : (axis : ℕ) (shape : List ℕ) → axis < length shape → 0 < size shape → 0 < line_length axis shape
some_in_line axis shape there some = let parts = sizes axis shape there in some_factor (line_length axis shape) (line_step axis shape) parts.lines (size shape) parts.all some

-- neighbours are apart
pub some_step : (axis : ℕ) (shape : List ℕ) → 0 < size shape → 0 < line_step axis shape
some_step axis shape some = (size-drop-le (suc axis) shape some).0

-- a place is on its line
pub line_through_place : (count step line j : ℕ) → 0 < step → j < count → line_through count step (line_start step count line + j * step) ≡ line
line_through_place count step line j some below =
    let block = line / step in
    let first = line % step in
    let low : first < step = mod_below line step some in
    let inside : j * step + first < count * step = omega (arith, mul-add-lt j step first count below low) in
    let by_block : block * (count * step) + first + j * step ≡ block * (count * step) + (j * step + first) = omega arith in
    let by_row : block * (count * step) + first + j * step ≡ (block * count + j) * step + first = grind arith in
    let blocks = ap (λ k. k / (count * step)) by_block ∙ div-mul-add block (count * step) (j * step + first) inside in
    (λ i. blocks i * step + (ap (λ k. k % step) by_row ∙ mod-mul-add (block * count + j) step first low) i) ∙ div-add-mod' line step

-- a multiple of a product is a multiple of a factor
pub factor_divides : (x a b : ℕ) → x % (a * b) ≡ 0 → x % a ≡ 0
factor_divides x a b even =
    let all : x / (a * b) * (a * b) ≡ x = omega (arith, div-add-mod' x (a * b), even) in
    let order : x / (a * b) * (a * b) ≡ x / (a * b) * b * a = grind arith in
    ap (λ k. k % a) (sym all ∙ order) ∙ mul-mod_left (x / (a * b) * b) a

-- the array consists of whole lines
pub whole_lines : (axis : ℕ) (shape : List ℕ) → axis < length shape → size shape % (line_length axis shape * line_step axis shape) ≡ 0
whole_lines axis shape there =
    let parts = sizes axis shape there in
    let block = line_length axis shape * line_step axis shape in
    ap (λ k. k % block) parts.all ∙ mul-mod_left parts.lines block
