use Rattle.std.{proofs.Common.{List, ℕ, sym, subst, rules, ◌≡◌, true}, specs.Char.{is_ascii_alphabetic}, specs.List.{list_all}, specs.Str.{IsAscii}, proofs.lemmas.Str.{is_utf8-from_IsUtf8, IsUtf8-from_ascii}}
use Rattle.{names.specs.Characters.{is_name_part}, apl_tokens.proofs.EditBytes.{letters_read}}
use Rattle.apl_tokens.proofs.fronts.name_front.Goals as goal

pub of_letters-requires : goal.of_letters-requires
of_letters-requires c = is_utf8-from_IsUtf8 _ (IsUtf8-from_ascii _ (subst (λ (bs : List ℕ). IsAscii bs) (sym c.split_at.ensures.front) c.count_parts-count.ensures.ascii))

pub returns : goal.returns
returns c =
    let letter : is_ascii_alphabetic c.in_ok-first.field-0.now ≡ true = search rules in
    letters_read c.in_ok-name.name c.split_at.result.0.now c.split_at.result.1.now c.args.text.now c.in_ok-rest.rest.now c.in_ok-first.field-0.now c.args.end c.split_at.ensures.by_index.0 c.in_ok-rest.ensures c.in_ok-first.ensures.value letter
    (subst (λ (bs : List ℕ). list_all is_name_part bs ≡ true) (sym c.split_at.ensures.front) c.count_parts-count.ensures.parts)
    (subst (λ (bs : List ℕ). IsAscii bs) (sym c.split_at.ensures.front) c.count_parts-count.ensures.ascii)
    c.in_ok-name.ensures.found c.in_ok-name.ensures.room
