-- Trees as lists of numbers. A type that contracts see must be a set: any two proofs that two values are equal are themselves equal. A type is a
-- set if its values can be encoded as numbers and decoded. A tree is encoded as its words in postfix order.
use Rattle.std.{specs.Prelude.{◌≡◌, ℕ, zero, suc, ℤ, pos, List, [], ◌∷◌, ◌++◌, get_or, ◌⊎◌, refl}, proofs.Common.{sym, ◌∙◌, ap, inl, inr, append_assoc, append-nil}, specs.Coded.{Coded, code_by, coded×, coded⊎, coded_list, coded_ℕ, coded_ℤ}}
use Rattle.apl_expr.{specs.Trees.{Tree, Const, Name, Monad, Dyad, Index, Reduce, Scan, Outer, Inner, before_argument, between_arguments, Positions, NoPositions, Empty, Filled, Numbers, Text}, specs.declared.functions.Function1.{Function1}, specs.declared.functions.Function2.{Function2}}
use Rattle.function_names.{specs.declared.scalar.Scalar1.{Scalar1}, specs.declared.scalar.Scalar2.{Scalar2}, specs.declared.along.Along.{Along}, specs.declared.along.Along.TheVariants.{First, Last, Axis}}
use Rattle.function_names.specs.declared.scalar.Scalar1.TheVariants as one
use Rattle.function_names.specs.declared.scalar.Scalar2.TheVariants as two
use Rattle.apl_expr.specs.declared.expr.Monadic.TheVariants as monadic
use Rattle.apl_expr.specs.declared.expr.Dyadic.TheVariants as dyadic
use Rattle.apl_expr.specs.declared.functions.Function1.TheVariants as function1
use Rattle.apl_expr.specs.declared.functions.Function2.TheVariants as function2

-- the code of a scalar function is its index in this list
abbrev monads : List Scalar1
monads =
    one.Conjugate ∷ one.Negative ∷ one.Direction ∷ one.Reciprocal ∷
    one.Magnitude ∷ one.Ceiling ∷ one.Floor ∷ one.Not ∷ []

-- the code of a scalar function of one argument
abbrev number_of_monad : Scalar1 → ℕ
number_of_monad one.Conjugate = 0
number_of_monad one.Negative = 1
number_of_monad one.Direction = 2
number_of_monad one.Reciprocal = 3
number_of_monad one.Magnitude = 4
number_of_monad one.Ceiling = 5
number_of_monad one.Floor = 6
number_of_monad one.Not = 7

-- the scalar function with this code
abbrev monad_of_number : ℕ → Scalar1
monad_of_number n = get_or monads n one.Not

monad_again : (f : Scalar1) → monad_of_number (number_of_monad f) ≡ f
monad_again one.Conjugate = refl
monad_again one.Negative = refl
monad_again one.Direction = refl
monad_again one.Reciprocal = refl
monad_again one.Magnitude = refl
monad_again one.Ceiling = refl
monad_again one.Floor = refl
monad_again one.Not = refl

-- all scalar functions of two arguments
abbrev dyads : List Scalar2
dyads =
    two.Plus ∷ two.Minus ∷ two.Times ∷ two.Divide ∷ two.Power ∷
    two.Residue ∷ two.Maximum ∷ two.Minimum ∷ two.Less ∷ two.LessOrEqual ∷
    two.Equal ∷ two.GreaterOrEqual ∷ two.Greater ∷ two.NotEqual ∷ two.And ∷
    two.Or ∷ two.Nand ∷ two.Nor ∷ []

-- the code of a scalar function of two arguments
abbrev number_of_dyad : Scalar2 → ℕ
number_of_dyad two.Plus = 0
number_of_dyad two.Minus = 1
number_of_dyad two.Times = 2
number_of_dyad two.Divide = 3
number_of_dyad two.Power = 4
number_of_dyad two.Residue = 5
number_of_dyad two.Maximum = 6
number_of_dyad two.Minimum = 7
number_of_dyad two.Less = 8
number_of_dyad two.LessOrEqual = 9
number_of_dyad two.Equal = 10
number_of_dyad two.GreaterOrEqual = 11
number_of_dyad two.Greater = 12
number_of_dyad two.NotEqual = 13
number_of_dyad two.And = 14
number_of_dyad two.Or = 15
number_of_dyad two.Nand = 16
number_of_dyad two.Nor = 17

-- the scalar function with this code
abbrev dyad_of_number : ℕ → Scalar2
dyad_of_number n = get_or dyads n two.Nor

dyad_again : (f : Scalar2) → dyad_of_number (number_of_dyad f) ≡ f
dyad_again two.Plus = refl
dyad_again two.Minus = refl
dyad_again two.Times = refl
dyad_again two.Divide = refl
dyad_again two.Power = refl
dyad_again two.Residue = refl
dyad_again two.Maximum = refl
dyad_again two.Minimum = refl
dyad_again two.Less = refl
dyad_again two.LessOrEqual = refl
dyad_again two.Equal = refl
dyad_again two.GreaterOrEqual = refl
dyad_again two.Greater = refl
dyad_again two.NotEqual = refl
dyad_again two.And = refl
dyad_again two.Or = refl
dyad_again two.Nand = refl
dyad_again two.Nor = refl

-- the code of a function: the number of its kind, the number of its scalar function or its own, and two for its axis or its second function
abbrev Code : Type 0
Code = ℕ × (ℕ × (ℕ × ℤ))

-- no axis, and no second function
abbrev none : ℕ × ℤ
none = (0, pos 0)

-- the code of an axis
abbrev code_of_along : Along → ℕ × ℤ
code_of_along First = (0, pos 0)
code_of_along Last = (1, pos 0)
code_of_along (Axis k) = (2, k)

-- the axis with this code
abbrev along_of_code : ℕ × ℤ → Along
along_of_code (zero, k) = First
along_of_code (suc zero, k) = Last
along_of_code (suc (suc n), k) = Axis k

along_again : (a : Along) → along_of_code (code_of_along a) ≡ a
along_again First = refl
along_again Last = refl
along_again (Axis k) = refl

-- the code of a function of one argument
abbrev code_of_one : Function1 → Code
code_of_one (function1.Monad (monadic.Scalar f)) = (0, (number_of_monad f, none))
code_of_one (function1.Monad (monadic.Reverse a)) = (1, (0, code_of_along a))
code_of_one (function1.Reduce f a) = (2, (number_of_dyad f, code_of_along a))
code_of_one (function1.Scan f a) = (3, (number_of_dyad f, code_of_along a))
code_of_one (function1.Monad monadic.Ravel) = (4, (0, none))
code_of_one (function1.Monad monadic.Transpose) = (4, (1, none))
code_of_one (function1.Monad monadic.Shape) = (4, (2, none))
code_of_one (function1.Monad monadic.Iota) = (4, (3, none))

-- the functions of one argument with neither an axis nor a scalar function
abbrev plain_monads : List Function1
plain_monads = function1.Monad monadic.Ravel ∷ function1.Monad monadic.Transpose ∷ function1.Monad monadic.Shape ∷ function1.Monad monadic.Iota ∷ []

-- the function of one argument with this code
abbrev one_of_code : Code → Function1
one_of_code (zero, c) = function1.Monad (monadic.Scalar (monad_of_number c.0))
one_of_code (suc zero, c) = function1.Monad (monadic.Reverse (along_of_code c.1))
one_of_code (suc (suc zero), c) = function1.Reduce (dyad_of_number c.0) (along_of_code c.1)
one_of_code (suc (suc (suc zero)), c) = function1.Scan (dyad_of_number c.0) (along_of_code c.1)
one_of_code (suc (suc (suc (suc n))), c) = get_or plain_monads c.0 (function1.Monad monadic.Transpose)

one_again : (f : Function1) → one_of_code (code_of_one f) ≡ f
one_again (function1.Monad (monadic.Scalar f)) = ap (λ g. function1.Monad (monadic.Scalar g)) (monad_again f)
one_again (function1.Monad (monadic.Reverse a)) = ap (λ b. function1.Monad (monadic.Reverse b)) (along_again a)
one_again (function1.Reduce f a) = ap (λ g. function1.Reduce g (along_of_code (code_of_along a))) (dyad_again f) ∙ ap (λ b. function1.Reduce f b) (along_again a)
one_again (function1.Scan f a) = ap (λ g. function1.Scan g (along_of_code (code_of_along a))) (dyad_again f) ∙ ap (λ b. function1.Scan f b) (along_again a)
one_again (function1.Monad monadic.Ravel) = refl
one_again (function1.Monad monadic.Transpose) = refl
one_again (function1.Monad monadic.Shape) = refl
one_again (function1.Monad monadic.Iota) = refl

-- the code of a function of two arguments
abbrev code_of_two : Function2 → Code
code_of_two (function2.Dyad (dyadic.Scalar f)) = (0, (number_of_dyad f, none))
code_of_two (function2.Dyad (dyadic.Catenate a)) = (1, (0, code_of_along a))
code_of_two (function2.Dyad (dyadic.Rotate a)) = (2, (0, code_of_along a))
code_of_two (function2.Dyad (dyadic.Replicate a)) = (3, (0, code_of_along a))
code_of_two (function2.Outer f) = (4, (number_of_dyad f, none))
code_of_two (function2.Inner f g) = (5, (number_of_dyad f, (number_of_dyad g, pos 0)))
code_of_two (function2.Dyad dyadic.Reshape) = (6, (0, none))
code_of_two (function2.Dyad dyadic.Take) = (6, (1, none))
code_of_two (function2.Dyad dyadic.Drop) = (6, (2, none))
code_of_two (function2.Dyad dyadic.Transpose) = (6, (3, none))
code_of_two (function2.Dyad dyadic.IndexOf) = (6, (4, none))
code_of_two (function2.Dyad dyadic.Member) = (6, (5, none))
code_of_two (function2.Dyad dyadic.Encode) = (6, (6, none))
code_of_two (function2.Dyad dyadic.Decode) = (6, (7, none))

-- the functions of two arguments with neither an axis nor a scalar function
abbrev plain_dyads : List Function2
plain_dyads =
    function2.Dyad dyadic.Reshape ∷ function2.Dyad dyadic.Take ∷ function2.Dyad dyadic.Drop ∷ function2.Dyad dyadic.Transpose ∷
    function2.Dyad dyadic.IndexOf ∷ function2.Dyad dyadic.Member ∷ function2.Dyad dyadic.Encode ∷ function2.Dyad dyadic.Decode ∷ []

-- the function of two arguments with this code
abbrev two_of_code : Code → Function2
two_of_code (zero, c) = function2.Dyad (dyadic.Scalar (dyad_of_number c.0))
two_of_code (suc zero, c) = function2.Dyad (dyadic.Catenate (along_of_code c.1))
two_of_code (suc (suc zero), c) = function2.Dyad (dyadic.Rotate (along_of_code c.1))
two_of_code (suc (suc (suc zero)), c) = function2.Dyad (dyadic.Replicate (along_of_code c.1))
two_of_code (suc (suc (suc (suc zero))), c) = function2.Outer (dyad_of_number c.0)
two_of_code (suc (suc (suc (suc (suc zero)))), c) = function2.Inner (dyad_of_number c.0) (dyad_of_number c.1.0)
two_of_code (suc (suc (suc (suc (suc (suc n))))), c) = get_or plain_dyads c.0 (function2.Dyad dyadic.Reshape)

two_again : (f : Function2) → two_of_code (code_of_two f) ≡ f
two_again (function2.Dyad (dyadic.Scalar f)) = ap (λ g. function2.Dyad (dyadic.Scalar g)) (dyad_again f)
two_again (function2.Dyad (dyadic.Catenate a)) = ap (λ b. function2.Dyad (dyadic.Catenate b)) (along_again a)
two_again (function2.Dyad (dyadic.Rotate a)) = ap (λ b. function2.Dyad (dyadic.Rotate b)) (along_again a)
two_again (function2.Dyad (dyadic.Replicate a)) = ap (λ b. function2.Dyad (dyadic.Replicate b)) (along_again a)
two_again (function2.Outer f) = ap (λ g. function2.Outer g) (dyad_again f)
two_again (function2.Inner f g) = ap (λ h. function2.Inner h (dyad_of_number (number_of_dyad g))) (dyad_again f) ∙ ap (λ h. function2.Inner f h) (dyad_again g)
two_again (function2.Dyad dyadic.Reshape) = refl
two_again (function2.Dyad dyadic.Take) = refl
two_again (function2.Dyad dyadic.Drop) = refl
two_again (function2.Dyad dyadic.Transpose) = refl
two_again (function2.Dyad dyadic.IndexOf) = refl
two_again (function2.Dyad dyadic.Member) = refl
two_again (function2.Dyad dyadic.Encode) = refl
two_again (function2.Dyad dyadic.Decode) = refl

-- positions followed by others
abbrev followed_by : Positions → Positions → Positions
followed_by NoPositions ps = ps
followed_by (Empty qs) ps = Empty (followed_by qs ps)
followed_by (Filled e qs) ps = Filled e (followed_by qs ps)

followed_by_none : (qs : Positions) → followed_by qs NoPositions ≡ qs
followed_by_none NoPositions = refl
followed_by_none (Empty qs) = ap (λ rs. Empty rs) (followed_by_none qs)
followed_by_none (Filled e qs) = ap (λ rs. Filled e rs) (followed_by_none qs)

followed_by_both : (qs rs ps : Positions) → followed_by (followed_by qs rs) ps ≡ followed_by qs (followed_by rs ps)
followed_by_both NoPositions rs ps = refl
followed_by_both (Empty qs) rs ps = ap (λ vs. Empty vs) (followed_by_both qs rs ps)
followed_by_both (Filled e qs) rs ps = ap (λ vs. Filled e vs) (followed_by_both qs rs ps)

-- numbers, characters, a name, a function of one or of two arguments, or a step of an index: its start, an empty position, or a written one
abbrev Word : Type 0
Word = List ℤ ⊎ (List ℕ ⊎ (List ℕ ⊎ (Code ⊎ (Code ⊎ ℕ))))

-- the word of a function of one argument
abbrev monad_word : Code → Word
monad_word f = inr (inr (inr (inl f)))

-- the word of a function of two arguments
abbrev dyad_word : Code → Word
dyad_word f = inr (inr (inr (inr (inl f))))

-- the word of a step of an index
abbrev index_word : ℕ → Word
index_word n = inr (inr (inr (inr (inr n))))

abbrev mutual
  words : Tree → List Word
  words (Const (Numbers ns)) = inl ns ∷ []
  words (Const (Text cs)) = inr (inl cs) ∷ []
  words (Name x) = inr (inr (inl x)) ∷ []
  words (Monad f b) = words b ++ monad_word (code_of_one (function1.Monad f)) ∷ []
  words (Dyad f a b) = words a ++ (words b ++ dyad_word (code_of_two (function2.Dyad f)) ∷ [])
  words (Index a ps) = words a ++ (index_word 0 ∷ words_in ps)
  words (Reduce f k b) = words b ++ monad_word (code_of_one (function1.Reduce f k)) ∷ []
  words (Scan f k b) = words b ++ monad_word (code_of_one (function1.Scan f k)) ∷ []
  words (Outer f a b) = words a ++ (words b ++ dyad_word (code_of_two (function2.Outer f)) ∷ [])
  words (Inner f g a b) = words a ++ (words b ++ dyad_word (code_of_two (function2.Inner f g)) ∷ [])

  words_in : Positions → List Word
  words_in NoPositions = []
  words_in (Empty ps) = index_word 1 ∷ words_in ps
  words_in (Filled e ps) = words e ++ (index_word 2 ∷ words_in ps)

-- the last tree becomes the operand of an index without positions
abbrev begin_index : List Tree → List Tree
begin_index [] = []
begin_index (t ∷ stack) = Index t NoPositions ∷ stack

-- the positions are appended to the index of the last tree
abbrev add_positions : Positions → List Tree → List Tree
add_positions ps (Index t qs ∷ stack) = Index t (followed_by qs ps) ∷ stack
add_positions ps stack = stack

-- the last tree becomes a position of the index before it
abbrev add_written : List Tree → List Tree
add_written [] = []
add_written (e ∷ stack) = add_positions (Filled e NoPositions) stack

-- the effect of a step of an index on the trees so far, the last first
abbrev index_step : ℕ → List Tree → List Tree
index_step zero stack = begin_index stack
index_step (suc zero) stack = add_positions (Empty NoPositions) stack
index_step (suc (suc n)) stack = add_written stack

-- the effect of a word on the trees so far, the last first
abbrev push : Word → List Tree → List Tree
push (inl ns) stack = Const (Numbers ns) ∷ stack
push (inr (inl cs)) stack = Const (Text cs) ∷ stack
push (inr (inr (inl x))) stack = Name x ∷ stack
push (inr (inr (inr (inl f)))) [] = []
push (inr (inr (inr (inl f)))) (b ∷ stack) = before_argument (one_of_code f) b ∷ stack
push (inr (inr (inr (inr (inl f))))) [] = []
push (inr (inr (inr (inr (inl f))))) (b ∷ []) = b ∷ []
push (inr (inr (inr (inr (inl f))))) (b ∷ a ∷ stack) = between_arguments (two_of_code f) a b ∷ stack
push (inr (inr (inr (inr (inr n))))) stack = index_step n stack

-- the effect of the words, in order
abbrev build : List Word → List Tree → List Tree
build [] stack = stack
build (w ∷ ws) stack = build ws (push w stack)

-- the last tree
abbrev top : List Tree → Tree
top [] = Name []
top (t ∷ ts) = t

-- the words of a function and its arguments build it, if the words of each argument build that argument
before_again : (f : Function1) (b : Tree) (ws : List Word) (stack : List Tree) → build (words b ++ (monad_word (code_of_one f) ∷ ws)) stack ≡ build (monad_word (code_of_one f) ∷ ws) (b ∷ stack)
    → build ((words b ++ monad_word (code_of_one f) ∷ []) ++ ws) stack ≡ build ws (before_argument f b ∷ stack)
before_again f b ws stack given =
    ap (λ vs. build vs stack) (append_assoc (words b) (monad_word (code_of_one f) ∷ []) ws) ∙ (given ∙ ap (λ g. build ws (before_argument g b ∷ stack)) (one_again f))

between_again : (f : Function2) (a b : Tree) (ws : List Word) (stack : List Tree)
    → build (words a ++ (words b ++ (dyad_word (code_of_two f) ∷ ws))) stack ≡ build (words b ++ (dyad_word (code_of_two f) ∷ ws)) (a ∷ stack)
    → build (words b ++ (dyad_word (code_of_two f) ∷ ws)) (a ∷ stack) ≡ build (dyad_word (code_of_two f) ∷ ws) (b ∷ a ∷ stack)
    → build ((words a ++ (words b ++ dyad_word (code_of_two f) ∷ [])) ++ ws) stack ≡ build ws (between_arguments f a b ∷ stack)
between_again f a b ws stack left right =
    let word = dyad_word (code_of_two f) in
    ap (λ vs. build vs stack) (append_assoc (words a) (words b ++ word ∷ []) ws ∙ ap (λ vs. words a ++ vs) (append_assoc (words b) (word ∷ []) ws))
    ∙ (left ∙ (right ∙ ap (λ g. build ws (between_arguments g a b ∷ stack)) (two_again f)))

mutual
  again : (t : Tree) (ws : List Word) (stack : List Tree) → build (words t ++ ws) stack ≡ build ws (t ∷ stack)
  again (Const (Numbers ns)) ws stack = refl
  again (Const (Text cs)) ws stack = refl
  again (Name x) ws stack = refl
  again (Monad f b) ws stack = let word = monad_word (code_of_one (function1.Monad f)) in before_again (function1.Monad f) b ws stack (again b (word ∷ ws) stack)
  again (Reduce f k b) ws stack = let word = monad_word (code_of_one (function1.Reduce f k)) in before_again (function1.Reduce f k) b ws stack (again b (word ∷ ws) stack)
  again (Scan f k b) ws stack = let word = monad_word (code_of_one (function1.Scan f k)) in before_again (function1.Scan f k) b ws stack (again b (word ∷ ws) stack)
  again (Dyad f a b) ws stack =
      let word = dyad_word (code_of_two (function2.Dyad f)) in
      between_again (function2.Dyad f) a b ws stack (again a (words b ++ (word ∷ ws)) stack) (again b (word ∷ ws) (a ∷ stack))
  again (Outer f a b) ws stack =
      let word = dyad_word (code_of_two (function2.Outer f)) in
      between_again (function2.Outer f) a b ws stack (again a (words b ++ (word ∷ ws)) stack) (again b (word ∷ ws) (a ∷ stack))
  again (Inner f g a b) ws stack =
      let word = dyad_word (code_of_two (function2.Inner f g)) in
      between_again (function2.Inner f g) a b ws stack (again a (words b ++ (word ∷ ws)) stack) (again b (word ∷ ws) (a ∷ stack))
  again (Index a ps) ws stack =
      ap (λ vs. build vs stack) (append_assoc (words a) (index_word 0 ∷ words_in ps) ws)
      ∙ (again a (index_word 0 ∷ (words_in ps ++ ws)) stack ∙ positions_again ps ws a NoPositions stack)

  positions_again : (ps : Positions) (ws : List Word) (t : Tree) (qs : Positions) (stack : List Tree)
      → build (words_in ps ++ ws) (Index t qs ∷ stack) ≡ build ws (Index t (followed_by qs ps) ∷ stack)
  positions_again NoPositions ws t qs stack = ap (λ rs. build ws (Index t rs ∷ stack)) (sym (followed_by_none qs))
  positions_again (Empty ps) ws t qs stack =
      positions_again ps ws t (followed_by qs (Empty NoPositions)) stack ∙ ap (λ rs. build ws (Index t rs ∷ stack)) (followed_by_both qs (Empty NoPositions) ps)
  positions_again (Filled e ps) ws t qs stack =
      ap (λ vs. build vs (Index t qs ∷ stack)) (append_assoc (words e) (index_word 2 ∷ words_in ps) ws)
      ∙ (again e (index_word 2 ∷ (words_in ps ++ ws)) (Index t qs ∷ stack)
      ∙ (positions_again ps ws t (followed_by qs (Filled e NoPositions)) stack ∙ ap (λ rs. build ws (Index t rs ∷ stack)) (followed_by_both qs (Filled e NoPositions) ps)))

-- the words of a tree build that tree
pub same_again : (t : Tree) → top (build (words t) []) ≡ t
same_again t = ap top (ap (λ ws. build ws []) (sym (append-nil (words t))) ∙ again t [] [])

-- the codes of functions are encoded as numbers
abbrev coded_code : Coded Code
coded_code = coded× coded_ℕ (coded× coded_ℕ (coded× coded_ℕ coded_ℤ))

-- trees are encoded as numbers
abbrev pub coded_tree : Coded Tree
coded_tree =
    code_by (List Word) (coded_list (coded⊎ (coded_list coded_ℤ) (coded⊎ (coded_list coded_ℕ) (coded⊎ (coded_list coded_ℕ) (coded⊎ coded_code (coded⊎ coded_code coded_ℕ))))))
    words (λ ws. top (build ws [])) same_again
