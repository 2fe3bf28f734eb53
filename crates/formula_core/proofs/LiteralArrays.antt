-- The array of a literal, and the literal of an array.
use Rattle.std.{proofs.Common.{◌≡◌, ℕ, ℤ, ◌≤◌, List, [], ◌∷◌, length, map, All, Bool, true, false, Result, Ok, Err, IfOk, refl, sym, ap, ◌∙◌, arith, if◌then◌else◌}, specs.Prelude.{nat_le}, proofs.lemmas.List.{length-map}, proofs.lemmas.List.Elements.{All-nil, All-cons, All-map}, proofs.lemmas.Bool.Decides.{nat_tests}}
use Rattle.apl_expr.specs.Trees.{Literal, Numbers, Text}
use Rattle.arrays_core.{specs.declared.item.Item.{Item}, specs.declared.item.Item.TheVariants.{Num, Char}, specs.declared.item.ItemType.TheVariants.{Nums, Chars}, specs.declared.item.Kind.{Kind}, specs.declared.item.Kind.TheVariants.{Limit}}
use Rattle.arrays_core.{specs.Arrays.{ArrayValue, IsArray, scalar_of, vector_of, character_scalar_of, text_of}, specs.Items.{type_of}, specs.Limits.{longest_axis}, specs.Outcomes.{given}}
use Rattle.{index_region.specs.Arguments.{number_of}, formula_core.{specs.Constants.{character_of, literal_of_items}, specs.Meaning.{array_of}}}

numbers_back : (ns : List ℤ) → map number_of (map (λ z. Num z) ns) ≡ ns
numbers_back [] = refl
numbers_back (n ∷ ns) = ap (λ rest. n ∷ rest) (numbers_back ns)

characters_back : (cs : List ℕ) → map character_of (map (λ c. Char c) cs) ≡ cs
characters_back [] = refl
characters_back (c ∷ cs) = ap (λ rest. c ∷ rest) (characters_back cs)

-- a chosen array is the array in that branch
chosen : (b : Bool) (x a : ArrayValue) (k : Kind) → (if b then Ok x else Err k) ≡ Ok a → x ≡ a
chosen true x a k h = cc
chosen false x a k h = absurd (let no : ⊥ = cc in no)

vector_back : (ns : List ℤ) (a : ArrayValue) → vector_of ns ≡ Ok a → literal_of_items a.item_type a.items ≡ Numbers ns
vector_back ns a h =
    let is = chosen (nat_le (length ns) longest_axis) (record { item_type = Nums; shape = length ns ∷ []; items = map (λ z. Num z) ns }) a Limit h in
    ap (λ (x : ArrayValue). literal_of_items x.item_type x.items) (sym is) ∙ ap (λ zs. Numbers zs) (numbers_back ns)

text_back : (cs : List ℕ) (a : ArrayValue) → text_of cs ≡ Ok a → literal_of_items a.item_type a.items ≡ Text cs
text_back cs a h =
    let is = chosen (nat_le (length cs) longest_axis) (record { item_type = Chars; shape = length cs ∷ []; items = map (λ c. Char c) cs }) a Limit h in
    ap (λ (x : ArrayValue). literal_of_items x.item_type x.items) (sym is) ∙ ap (λ xs. Text xs) (characters_back cs)

one_back : (x a : ArrayValue) (r : Result ArrayValue Kind) → r ≡ Ok x → r ≡ Ok a → x ≡ a
one_back x a r given_x given_a = cc

-- a literal with an array is the literal of the array's items
pub literal_back : (l : Literal) (a : ArrayValue) → array_of l ≡ Ok a → literal_of_items a.item_type a.items ≡ l
literal_back (Numbers []) a h = vector_back [] a h
literal_back (Numbers (n ∷ [])) a h = ap (λ (x : ArrayValue). literal_of_items x.item_type x.items) (sym (one_back (scalar_of n) a (array_of (Numbers (n ∷ []))) refl h))
literal_back (Numbers (n ∷ m ∷ ns)) a h = vector_back (n ∷ m ∷ ns) a h
literal_back (Text []) a h = text_back [] a h
literal_back (Text (c ∷ [])) a h = ap (λ (x : ArrayValue). literal_of_items x.item_type x.items) (sym (one_back (character_scalar_of c) a (array_of (Text (c ∷ []))) refl h))
literal_back (Text (c ∷ d ∷ cs)) a h = text_back (c ∷ d ∷ cs) a h

-- a property of the axis of a vector
axes_within : (n : ℕ) → n ≤ longest_axis → All (λ m. m ≤ longest_axis) (n ∷ [])
axes_within n h = All-cons (λ (m : ℕ). m ≤ longest_axis) n [] h (All-nil (λ (m : ℕ). m ≤ longest_axis))

in_limit : (n : ℕ) → nat_le n longest_axis ≡ true → n ≤ longest_axis
in_limit n h = grind (arith, nat_tests)

vector_is_array : (ns : List ℤ) → IfOk (given (vector_of ns)) IsArray
vector_is_array ns = by (nat_le (length ns) longest_axis) refl
  where
    by : (b : Bool) → nat_le (length ns) longest_axis ≡ b → IfOk (given (if b then Ok (record { item_type = Nums; shape = length ns ∷ []; items = map (λ z. Num z) ns }) else Err Limit)) IsArray
    by false is = tt
    by true is =
        let within = in_limit (length ns) is in
        record {
          within = record { rank = omega arith; axes = axes_within _ within; size_within = omega (arith, within) };
          one_item_a_place = omega (arith, length-map ns (λ z. Num z));
          one_type = All-map (λ (item : Item). type_of item ≡ Nums) (λ z. Num z) ns (λ k d h. refl);
        }

text_is_array : (cs : List ℕ) → IfOk (given (text_of cs)) IsArray
text_is_array cs = by (nat_le (length cs) longest_axis) refl
  where
    by : (b : Bool) → nat_le (length cs) longest_axis ≡ b → IfOk (given (if b then Ok (record { item_type = Chars; shape = length cs ∷ []; items = map (λ c. Char c) cs }) else Err Limit)) IsArray
    by false is = tt
    by true is =
        let within = in_limit (length cs) is in
        record {
          within = record { rank = omega arith; axes = axes_within _ within; size_within = omega (arith, within) };
          one_item_a_place = omega (arith, length-map cs (λ c. Char c));
          one_type = All-map (λ (item : Item). type_of item ≡ Chars) (λ c. Char c) cs (λ k d h. refl);
        }

-- the result of a literal is an array, unless it is an error
pub literal_is_array : (l : Literal) → IfOk (given (array_of l)) IsArray
literal_is_array (Numbers []) = vector_is_array []
literal_is_array (Numbers (n ∷ [])) = record { within = record { rank = omega arith; axes = All-nil (λ (m : ℕ). m ≤ longest_axis); size_within = omega arith }; one_item_a_place = refl; one_type = All-cons (λ (item : Item). type_of item ≡ Nums) (Num n) [] refl (All-nil (λ (item : Item). type_of item ≡ Nums)) }
literal_is_array (Numbers (n ∷ m ∷ ns)) = vector_is_array (n ∷ m ∷ ns)
literal_is_array (Text []) = text_is_array []
literal_is_array (Text (c ∷ [])) = record { within = record { rank = omega arith; axes = All-nil (λ (m : ℕ). m ≤ longest_axis); size_within = omega arith }; one_item_a_place = refl; one_type = All-cons (λ (item : Item). type_of item ≡ Chars) (Char c) [] refl (All-nil (λ (item : Item). type_of item ≡ Chars)) }
literal_is_array (Text (c ∷ d ∷ cs)) = text_is_array (c ∷ d ∷ cs)
