-- Worked rows of the definitions, computed.
use Rattle.std.proofs.Common.{refl, [], ◌∷◌, Ok, Err, pos, negsuc}
use Rattle.arrays_core.{specs.declared.item.Item.TheVariants.{Num, Char}, specs.declared.item.Kind.TheVariants.{Domain, Limit}, proofs.CaseWords.{◌⇒◌, AllSame}}
use Rattle.function_names.{specs.declared.scalar.Scalar1.TheVariants.{Negative, Reciprocal, Magnitude, Not}, specs.declared.scalar.Scalar2.TheVariants.{Divide, Power, Residue, Equal, NotEqual, Less, And, Or}}
use Rattle.item_fns.{specs.Numbers.{monadic_on_number, dyadic_on_numbers}, specs.Items.{dyadic_on_items}, specs.Identities.{least}}

worked_cases : AllSame (
    -- ¯3|7 ¯7 0 is ¯2 ¯1 0
    dyadic_on_numbers Residue (negsuc 2) (pos 7) ⇒ Ok (negsuc 1) ∷
    dyadic_on_numbers Residue (negsuc 2) (negsuc 6) ⇒ Ok (negsuc 0) ∷  -- residue of minus 7
    dyadic_on_numbers Residue (negsuc 2) (pos 0) ⇒ Ok (pos 0) ∷  -- residue of 0
    -- 3|¯7 is 2
    dyadic_on_numbers Residue (pos 3) (negsuc 6) ⇒ Ok (pos 2) ∷
    -- 0|5 is 5
    dyadic_on_numbers Residue (pos 0) (pos 5) ⇒ Ok (pos 5) ∷
    -- ¯1|¯9223372036854775808 is 0
    dyadic_on_numbers Residue (negsuc 0) least ⇒ Ok (pos 0) ∷
    -- ¯9223372036854775808÷¯1 is out of range, 0÷0 is 1, 7÷2 is not whole, ¯6÷2 is ¯3
    dyadic_on_numbers Divide least (negsuc 0) ⇒ Err Limit ∷
    dyadic_on_numbers Divide (pos 0) (pos 0) ⇒ Ok (pos 1) ∷  -- quotient of zeros
    dyadic_on_numbers Divide (pos 7) (pos 0) ⇒ Err Domain ∷  -- quotient by 0
    dyadic_on_numbers Divide (pos 7) (pos 2) ⇒ Err Domain ∷  -- quotient of 7
    dyadic_on_numbers Divide (negsuc 5) (pos 2) ⇒ Ok (negsuc 2) ∷  -- quotient of minus 6
    -- ¯2*63 is the least number, 2*63 is out of range, ¯1*¯3 is ¯1, 2*¯1 is not whole, 0*0 is 1, 0*¯1 is none
    dyadic_on_numbers Power (negsuc 1) (pos 63) ⇒ Ok least ∷
    dyadic_on_numbers Power (pos 2) (pos 63) ⇒ Err Limit ∷  -- power of 2
    dyadic_on_numbers Power (negsuc 0) (negsuc 2) ⇒ Ok (negsuc 0) ∷  -- power of minus 1
    dyadic_on_numbers Power (pos 2) (negsuc 0) ⇒ Err Domain ∷  -- power below 0
    dyadic_on_numbers Power (pos 0) (pos 0) ⇒ Ok (pos 1) ∷  -- power of zeros
    dyadic_on_numbers Power (pos 0) (negsuc 0) ⇒ Err Domain ∷  -- power of 0 below 0
    -- -¯9223372036854775808 and |¯9223372036854775808 are out of range, ÷¯1 is ¯1, ÷2 is not whole, ~2 is not 0 or 1
    monadic_on_number Negative least ⇒ Err Limit ∷
    monadic_on_number Magnitude least ⇒ Err Limit ∷  -- magnitude of least
    monadic_on_number Reciprocal (negsuc 0) ⇒ Ok (negsuc 0) ∷  -- reciprocal of minus 1
    monadic_on_number Reciprocal (pos 2) ⇒ Err Domain ∷  -- reciprocal of 2
    monadic_on_number Not (pos 2) ⇒ Err Domain ∷  -- not 2
    -- 0∧2 and 1∨2 are domain errors
    dyadic_on_numbers And (pos 0) (pos 2) ⇒ Err Domain ∷
    dyadic_on_numbers Or (pos 1) (pos 2) ⇒ Err Domain ∷
    [])
worked_cases = refl

worked_cases_2 : AllSame (
    -- 'a'=97 is 0, 'a'≠97 and 'a'='a' are 1, 'a'<97 is a domain error
    dyadic_on_items Equal (Char 97) (Num (pos 97)) ⇒ Ok (Num (pos 0)) ∷
    dyadic_on_items NotEqual (Char 97) (Num (pos 97)) ⇒ Ok (Num (pos 1)) ∷  -- character or number
    dyadic_on_items Equal (Char 97) (Char 97) ⇒ Ok (Num (pos 1)) ∷  -- characters
    dyadic_on_items Less (Char 97) (Num (pos 97)) ⇒ Err Domain ∷  -- less than a number
    [])
worked_cases_2 = refl
