-- The residue, characterized without division.
use Rattle.std.specs.Prelude.{◌≡◌, ℤ, pos, negsuc, ◌+ℤ◌, ◌*ℤ◌, ◌≤ℤ◌, ◌<ℤ◌}

-- r is 0 or lies between 0 and a
abbrev pub IsFromZeroBelow : ℤ → ℤ → Type 0
IsFromZeroBelow (pos a) r = (pos 0 ≤ℤ r) × (r <ℤ pos a)
IsFromZeroBelow (negsuc a) r = (negsuc a <ℤ r) × (r ≤ℤ pos 0)

-- r is b minus a multiple of a
pub record IsRest (a b r : ℤ) : Type 0 where
  pub times : ℤ
  pub parts : b ≡ a *ℤ times +ℤ r
  pub between : IsFromZeroBelow a r
