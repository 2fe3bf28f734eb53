-- The places of entries a stride apart.
use Rattle.std.{proofs.Common.{ℕ, ◌+◌, ◌-◌, ◌*◌, ◌<◌, ◌≤◌, arith}, proofs.Math.Nat.{mul-le-mul_right}}

-- the place of each entry lies before the last
pub place_high : (first stride count j most : ℕ) → j < count → first + (count - 1) * stride ≤ most → first + j * stride ≤ most
place_high first stride count j most h e =
    let k : j * stride ≤ (count - 1) * stride = mul-le-mul_right stride (omega arith) in omega arith
