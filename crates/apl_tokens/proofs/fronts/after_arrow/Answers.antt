use Rattle.std.{proofs.Common.{◌≡◌, ℕ, List, [], ◌∷◌, sym, ap, ◌∙◌, subst}, proofs.lemmas.Option.{IfSome_then}}
use Rattle.apl_tokens.{specs.Lexemes.{Sign}, specs.Signs.{left_arrow}, specs.Reading.{Reads}, proofs.EditBytes.{reads_arrow}}
use Rattle.apl_tokens.proofs.fronts.after_arrow.Goals as goal

pub returns : goal.returns
returns c = IfSome_then c.after_byte-3.result c.after_byte-3.ensures (λ rest is.
    let whole : c.args.text.now ≡ 0xe2 ∷ 0x86 ∷ 0x90 ∷ rest.now =
    c.in_ok-after_byte.ensures ∙ ap (λ (bs : List ℕ). 0xe2 ∷ bs) (c.in_ok-after_byte-2.ensures ∙ ap (λ (bs : List ℕ). 0x86 ∷ bs) is) in
    subst (λ (bs : List ℕ). Reads bs rest.now (Sign left_arrow ∷ [])) (sym whole) (reads_arrow rest.now))
