-- The list of names with one more.
use Rattle.std.{proofs.Common.{◌≡◌, ℕ, ◌+◌, ◌<◌, List, [], ◌∷◌, ◌++◌, length, take, get_or, sym, ap, ◌∙◌, append_assoc}, proofs.lemmas.List.{take_more, flat_map_more}}
use Rattle.{array_text.specs.Text.{line_end}, sheet_cli.specs.Answer.{names_text}}

pub listed_more : (names : List (List ℕ)) (i : ℕ) (name before now : List ℕ) → i < length names → name ≡ get_or names i name → before ≡ names_text (take i names) → now ≡ (before ++ name) ++ line_end → now ≡ names_text (take (i + 1) names)
listed_more names i name before now h is so_far pushed =
    pushed ∙ append_assoc before name line_end ∙ ap (λ (text : List ℕ). text ++ (name ++ line_end)) so_far ∙ flat_map_more (λ n. n ++ line_end) [] (take i names) name
    ∙ ap names_text (ap (λ (n : List ℕ). take i names ++ n ∷ []) is ∙ sym (take_more names i name h))
