-- The reduction of no items.
use Rattle.std.specs.Prelude.{◌-◌, ◌^◌, ℤ, pos, negsuc, Option, Some, None}
use Rattle.function_names.{specs.declared.scalar.Scalar2.{Scalar2}, specs.declared.scalar.Scalar2.TheVariants.{Plus, Minus, Times, Divide, Power, Residue, Maximum, Minimum, Less, LessOrEqual, Equal, GreaterOrEqual, Greater, NotEqual, And, Or, Nand, Nor}}

-- the least and the greatest number of 64 bits
abbrev pub least : ℤ
least = negsuc (2 ^ 63 - 1)

abbrev pub greatest : ℤ
greatest = pos (2 ^ 63 - 1)

abbrev pub identity_of : Scalar2 → Option ℤ
identity_of Plus = Some (pos 0)
identity_of Minus = Some (pos 0)
identity_of Times = Some (pos 1)
identity_of Divide = Some (pos 1)
identity_of Power = Some (pos 1)
identity_of Residue = Some (pos 0)
identity_of Maximum = Some least
identity_of Minimum = Some greatest
identity_of Less = Some (pos 0)
identity_of LessOrEqual = Some (pos 1)
identity_of Equal = Some (pos 1)
identity_of GreaterOrEqual = Some (pos 1)
identity_of Greater = Some (pos 0)
identity_of NotEqual = Some (pos 0)
identity_of And = Some (pos 1)
identity_of Or = Some (pos 0)
identity_of Nand = None
identity_of Nor = None
