use Rattle.std.{proofs.Common.{◌≡◌, ℕ, ◌++◌, List, Bool, true, rules, tests, sym, ap, ◌∙◌, refl}, specs.Prelude.{encode_utf8, ◌&&◌}, specs.Str.{chars, IsUtf8}, specs.List.{list_all}, proofs.lemmas.Str.{chars_past_char, IsUtf8-past_char}, proofs.lemmas.Iterator.{YieldsList-from_chars}}
use Rattle.{std.proofs.lemmas.Iterator.Search.{all_from_yields_List}, names.specs.Characters.{is_letter, is_name_part, spells_name}}
use Rattle.names.proofs.characters.spells_name.Goals as goal

spells : (bs rest : List ℕ) (c : ℕ) (r : Bool) → IsUtf8 bs → bs ≡ encode_utf8 c ++ rest → is_letter c ≡ true → r ≡ list_all is_name_part (chars rest) → r ≡ spells_name (chars bs)
spells bs rest c r utf8 is letter given = given ∙ sym (ap (λ (b : Bool). b && list_all is_name_part (chars rest)) letter) ∙ sym (ap spells_name (chars_past_char bs rest c utf8 is))

pub returns-then-is_letter : goal.returns-then-is_letter
returns-then-is_letter c =
    let whole : c.args.text.now ≡ encode_utf8 c.in-Some.first ++ c.next.new.self.rest.now = search rules in
    let rest : IsUtf8 c.next.new.self.rest.now = IsUtf8-past_char c.args.text.now c.next.new.self.rest.now c.in-Some.first c.utf8.text whole in
    spells c.args.text.now c.next.new.self.rest.now c.in-Some.first c.all.result c.utf8.text whole (search rules)
    (all_from_yields_List is_name_part _ _ c.all.result c.all.ensures.ran (YieldsList-from_chars c.next.new.self.rest.now rest refl) (λ x b q k. search (rules, tests)))
