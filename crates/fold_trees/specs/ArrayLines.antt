-- The lines of an array along one axis.
use Rattle.std.specs.Prelude.{◌≡◌, ℕ, ◌+◌, ◌*◌, ◌/◌, ◌%◌, ℤ, pos, List, ◌++◌, length, set}
use Rattle.item_fns.specs.Folds.{strided, line_start}

-- the length of the lines, the step from one number of a line to the next, and all numbers in the order of the array
pub record TreesValue : Type 0 where
  pub count : ℕ
  pub step : ℕ
  pub numbers : List ℤ

-- the count of lines
abbrev pub line_count : TreesValue → ℕ
line_count t = length t.numbers / t.count

-- the numbers of a line, by its index from 0: each block of `step` lines is interleaved, and the blocks follow one another
abbrev pub numbers_of_line : TreesValue → (line : ℕ) → List ℤ
numbers_of_line t line = strided (pos 0) t.numbers (line_start t.step t.count line) t.step t.count

-- the line of a place
abbrev pub line_through : (count step place : ℕ) → ℕ
line_through count step place = place / (count * step) * step + place % step

-- the numbers of the line of a place
abbrev pub numbers_through : TreesValue → (place : ℕ) → List ℤ
numbers_through t place = numbers_of_line t (line_through t.count t.step place)

-- all lines with another number at a place
abbrev pub with_number : TreesValue → (place : ℕ) → ℤ → TreesValue
with_number t place number = record { count = t.count; step = t.step; numbers = set t.numbers place number }

-- all lines, and further ones after them
abbrev pub with_lines : TreesValue → List ℤ → TreesValue
with_lines t numbers = record { count = t.count; step = t.step; numbers = t.numbers ++ numbers }

-- ---- further lines

-- the lines that an array grows by, and the count of the old lines
pub record NewTreesValue : Type 0 where
  pub count : ℕ
  pub step : ℕ
  pub old_lines : ℕ
  pub numbers : List ℤ

-- the new lines fit after these
pub record FitBehind (t : TreesValue) (more : NewTreesValue) : Type 0 where
  pub count : more.count ≡ t.count
  pub step : more.step ≡ t.step
  pub old_lines : more.old_lines ≡ line_count t

-- ---- one more place of each line

-- the last number of each interleaved line, and the length of the lines without it
pub record NewPlacesValue : Type 0 where
  pub count : ℕ
  pub numbers : List ℤ

-- all lines are interleaved, and these are their next numbers
pub record FitNext (t : TreesValue) (more : NewPlacesValue) : Type 0 where
  pub count : more.count ≡ t.count
  pub step : length more.numbers ≡ t.step
  pub between : length t.numbers ≡ t.count * t.step

-- all lines with one more place
abbrev pub with_places : TreesValue → List ℤ → TreesValue
with_places t numbers = record { count = t.count + 1; step = t.step; numbers = t.numbers ++ numbers }
