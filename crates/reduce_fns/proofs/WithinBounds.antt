-- Numbers within a bound, and the bits of the numbers plus the bound.
use Rattle.std.{proofs.Common.{ℕ, ◌+◌, ◌%◌, ◌/◌, ◌<◌, ℤ, pos, negsuc, arith, of_z, w64, SFits}, proofs.lemmas.Int.{ints}}
use Rattle.reduce_fns.specs.Sum.{IsWithinBound}

pub within_bits : (bound : ℕ) (z : ℤ) → bound < 18446744073709551616 → SFits w64 z → (of_z w64 z + bound) % 18446744073709551616 / 2 < bound → IsWithinBound bound z
within_bits bound (pos n) few fit h = let inside = fit.sfits in record { low = omega (arith, ints); high = omega (arith, ints) }
within_bits bound (negsuc n) few fit h = let inside = fit.sfits in record { low = omega (arith, ints); high = omega (arith, ints) }
