-- Positions, one after another.
use Rattle.std.{proofs.Common.{◌≡◌, ℕ, zero, suc, ◌+◌, ◌-◌, ◌<◌, ◌≤◌, ℤ, pos, negsuc, int_le, unsigned_abs, Bool, true, false, nat_le, ◌&&◌, List, [], ◌∷◌, ◌++◌, map, length, take, drop, get_or, Some, None, refl, subst, sym, arith}, specs.List.{list_all}, proofs.lemmas.Bool.Decides.{nat_tests}}
use Rattle.std.proofs.lemmas.List.{length-append, length-drop, take_all}
use Rattle.arrays_core.{specs.declared.item.Item.{Item}, specs.declared.item.ItemType.{ItemType}, specs.declared.item.ItemType.TheVariants.{Nums, Chars}, specs.Items.{fill}, specs.Arrays.{ArrayValue}, specs.Shapes.{is_index_of}}
use Rattle.{index_region.specs.Arguments.{number_of}, selection_fns.specs.Index.{count_written, written_positions, indexed_shape, is_on_axis, is_on, are_on}}

-- the first position is not written; the rest
pub record IsEmptyFirst (written : List Bool) (args : List ArrayValue) : Type 0 where
  pub positions : written_positions written args ≡ None ∷ written_positions (drop 1 written) args
  pub counted : count_written (drop 1 written) ≡ count_written written

pub empty_first : (written : List Bool) (args : List ArrayValue) → 0 < length written → get_or written 0 false ≡ false → IsEmptyFirst written args
empty_first [] args some h = absurd (omega arith)
empty_first (true ∷ written) args some h = let no : ⊥ = cc in absurd no
empty_first (false ∷ written) args some h = record { positions = refl; counted = refl }

-- the first position is written; the rest
pub record IsWrittenFirst (written : List Bool) (args : List ArrayValue) (a : ArrayValue) : Type 0 where
  pub positions : written_positions written args ≡ Some (get_or args 0 a) ∷ written_positions (drop 1 written) (drop 1 args)
  pub counted : count_written (drop 1 written) + 1 ≡ count_written written
  pub there : 0 < length args

-- an index list of two shapes joined, split in two
pub record IsSplit (shape rest : List ℕ) (index : List ℕ) : Type 0 where
  pub long : length shape ≤ length index
  pub first : is_index_of shape (take (length shape) index) ≡ true
  pub others : is_index_of rest (drop (length shape) index) ≡ true

pub split_inside : (shape rest : List ℕ) (index : List ℕ) → is_index_of (shape ++ rest) index ≡ true → IsSplit shape rest index
split_inside [] rest index h = record { long = omega arith; first = refl; others = h }
split_inside (n ∷ shape) rest [] h = let no : ⊥ = cc in absurd no
split_inside (n ∷ shape) rest (i ∷ index) h =
    let both = and_parts (nat_le 1 i && nat_le i n) (is_index_of (shape ++ rest) index) h in
    let parts = split_inside shape rest index both.1 in
    record { long = omega arith; first = rw both.0 parts.first; others = parts.others }
  where
    and_parts : (a b : Bool) → (a && b) ≡ true → (a ≡ true) × (b ≡ true)
    and_parts true b h = (refl, h)
    and_parts false b h = let no : ⊥ = cc in absurd no

-- the parts where the first position is written
pub split_written : (axes : List ℕ) (written : List Bool) (args : List ArrayValue) (index : List ℕ) (p : ArrayValue)
    → length written ≡ length axes → length args ≡ count_written written → get_or written 0 false ≡ true → p ≡ get_or args 0 p
    → is_index_of (indexed_shape axes (written_positions written args)) index ≡ true
    → IsSplit p.shape (indexed_shape (drop 1 axes) (written_positions (drop 1 written) (drop 1 args))) index
split_written axes [] args index p same long h is inside = let no : ⊥ = cc in absurd no
split_written axes (false ∷ written) args index p same long h is inside = let no : ⊥ = cc in absurd no
split_written [] (true ∷ written) args index p same long h is inside = absurd (omega arith)
split_written (n ∷ axes) (true ∷ written) [] index p same long h is inside = absurd (omega arith)
split_written (n ∷ axes) (true ∷ written) (a ∷ args) index p same long h is inside =
    split_inside p.shape (indexed_shape axes (written_positions written args)) index
    (subst (λ q. is_index_of (q.shape ++ indexed_shape axes (written_positions written args)) index ≡ true) (sym is) inside)

-- the parts where the first position is not written
pub split_empty : (axes : List ℕ) (written : List Bool) (args : List ArrayValue) (index : List ℕ)
    → length written ≡ length axes → 0 < length written → get_or written 0 false ≡ false
    → is_index_of (indexed_shape axes (written_positions written args)) index ≡ true
    → IsSplit (get_or axes 0 0 ∷ []) (indexed_shape (drop 1 axes) (written_positions (drop 1 written) args)) index
split_empty axes [] args index same some h inside = absurd (omega arith)
split_empty axes (true ∷ written) args index same some h inside = let no : ⊥ = cc in absurd no
split_empty [] (false ∷ written) args index same some h inside = absurd (omega arith)
split_empty (n ∷ axes) (false ∷ written) args index same some h inside = split_inside (n ∷ []) (indexed_shape axes (written_positions written args)) index inside

-- the axes of a written first position are among those of the result
pub written_axes : (axes : List ℕ) (written : List Bool) (args : List ArrayValue) (p : ArrayValue)
    → length written ≡ length axes → length args ≡ count_written written → get_or written 0 false ≡ true → p ≡ get_or args 0 p
    → length p.shape ≤ length (indexed_shape axes (written_positions written args))
written_axes axes [] args p same long h is = let no : ⊥ = cc in absurd no
written_axes axes (false ∷ written) args p same long h is = let no : ⊥ = cc in absurd no
written_axes [] (true ∷ written) args p same long h is = absurd (omega arith)
written_axes (n ∷ axes) (true ∷ written) [] p same long h is = absurd (omega arith)
written_axes (n ∷ axes) (true ∷ written) (a ∷ args) p same long h is =
    let more = length-append a.shape (indexed_shape axes (written_positions written args)) in
    subst (λ q. length q.shape ≤ length (a.shape ++ indexed_shape axes (written_positions written args))) (sym is) (omega arith)

-- the magnitude of an index that is on an axis
magnitude_within : (n : ℕ) (z : ℤ) → is_on_axis n z ≡ true → unsigned_abs z ≤ n
magnitude_within n (pos k) h = second (int_le (pos 1) (pos k)) h
  where
    second : (a : Bool) → (a && nat_le k n) ≡ true → k ≤ n
    second true h = grind (arith, nat_tests)
    second false h = let no : ⊥ = cc in absurd no
magnitude_within n (negsuc k) h = let no : ⊥ = cc in absurd no

pub place_within : (n : ℕ) (items : List Item) (k : ℕ) (d : Item) → unsigned_abs (number_of d) ≤ n → list_all (is_on_axis n) (map number_of items) ≡ true
    → unsigned_abs (number_of (get_or items k d)) ≤ n
place_within n [] k d low h = low
place_within n (x ∷ items) zero d low h = magnitude_within n (number_of x) (and_first (is_on_axis n (number_of x)) _ h)
  where
    and_first : (a b : Bool) → (a && b) ≡ true → a ≡ true
    and_first true b h = refl
    and_first false b h = let no : ⊥ = cc in absurd no
place_within n (x ∷ items) (suc k) d low h = place_within n items k d low (and_second (is_on_axis n (number_of x)) _ h)
  where
    and_second : (a b : Bool) → (a && b) ≡ true → b ≡ true
    and_second true b h = h
    and_second false b h = let no : ⊥ = cc in absurd no

-- fill is on any axis, by its magnitude
pub fill_within : (n : ℕ) (item_type : ItemType) → unsigned_abs (number_of (fill item_type)) ≤ n
fill_within n Nums = omega arith
fill_within n Chars = omega arith

-- the rest after a written first position
pub record IsWrittenStep (axes : List ℕ) (written : List Bool) (args : List ArrayValue) : Type 0 where
  pub long : length (drop 1 args) ≡ count_written (drop 1 written)
  pub on : are_on axes (written_positions written args) ≡ true → are_on (drop 1 axes) (written_positions (drop 1 written) (drop 1 args)) ≡ true

pub written_step : (axes : List ℕ) (written : List Bool) (args : List ArrayValue) → length written ≡ length axes → length args ≡ count_written written
    → get_or written 0 false ≡ true → IsWrittenStep axes written args
written_step axes [] args same long h = let no : ⊥ = cc in absurd no
written_step axes (false ∷ written) args same long h = let no : ⊥ = cc in absurd no
written_step [] (true ∷ written) args same long h = absurd (omega arith)
written_step (n ∷ axes) (true ∷ written) [] same long h = absurd (omega arith)
written_step (n ∷ axes) (true ∷ written) (a ∷ args) same long h = record { long = omega arith; on = λ all. and_second (is_on n (Some a)) _ all }
  where
    and_second : (a b : Bool) → (a && b) ≡ true → b ≡ true
    and_second true b h = h
    and_second false b h = let no : ⊥ = cc in absurd no

-- a list without its first item, as a slice
pub tail_of : {X : Type 0} → (xs : List X) → take (length xs - 1) (drop 1 xs) ≡ drop 1 xs
tail_of xs = take_all (length xs - 1) (drop 1 xs) (rw length-drop (omega arith))

-- an index on an axis is at least 1, and at most its length
pub record IsPlaceIn (n : ℕ) (z : ℤ) : Type 0 where
  pub low : 1 ≤ unsigned_abs z
  pub high : unsigned_abs z ≤ n
  pub is : z ≡ pos (unsigned_abs z)

pub place_in : (n : ℕ) (z : ℤ) → is_on_axis n z ≡ true → IsPlaceIn n z
place_in n (pos zero) h = let no : ⊥ = cc in absurd no
place_in n (pos (suc k)) h = record { low = omega arith; high = magnitude_within n (pos (suc k)) h; is = refl }
place_in n (negsuc k) h = let no : ⊥ = cc in absurd no
