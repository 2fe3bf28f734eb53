-- The growth of scalar functions with their arguments.
use Rattle.std.specs.Prelude.{◌==◌, nat_le, ◌&&◌, Bool, true, length, bytes_eq}
use Rattle.arrays_core.{specs.Arrays.{ArrayValue}, specs.Shapes.{size}}
use Rattle.change_core.{specs.Growth.{one_grows, two_grow}, specs.RuleModels.{Growth}}

-- a function of one array always grows
abbrev pub each_monadic_grows : Growth
each_monadic_grows = one_grows (λ b. true)

-- b has one item, and no greater rank than a
abbrev pub is_extended_to : ArrayValue → ArrayValue → Bool
is_extended_to a b = size b.shape == 1 && nat_le (length b.shape) (length a.shape)

-- a function of two arrays grows if the other array is extended, or if both grew and have one shape
abbrev pub each_dyadic_grows : Growth
each_dyadic_grows = two_grow is_extended_to (λ a b. is_extended_to b a) (λ a b. bytes_eq a.shape b.shape)
