use Rattle.std.{proofs.Common.{List, ℕ, ◌≡◌, true, sym, ap, subst, ◌∙◌, rules, w64, SFits}, specs.Char.{is_ascii_digit}, specs.List.{list_all}, specs.Str.{IsAscii}, proofs.lemmas.Int.{to_z-of_z}}
use Rattle.apl_tokens.{specs.Characters.{decimal_from, fits_number, signed}, proofs.EditBytes.{digits_read}}
use Rattle.apl_tokens.proofs.fronts.digits_front.Goals as goal

pub returns : goal.returns
returns c =
    let fits : SFits w64 c.in_ok-number.number = search rules in
    let spelled : c.in_ok-magnitude.magnitude ≡ decimal_from 0 c.split_at.result.0.now = c.in_ok-magnitude.ensures.spelled ∙ ap (decimal_from 0) (sym c.split_at.ensures.front) in
    rw (to_z-of_z w64 c.in_ok-number.number fits)
    (digits_read c.args.is_negative c.in_ok-number.number c.split_at.result.0.now c.split_at.result.1.now c.args.text.now c.split_at.ensures.by_index.0
    (λ none. c.if-count-eq0.false (sym c.split_at.ensures.front_len ∙ none))
    (subst (λ (bs : List ℕ). list_all is_ascii_digit bs ≡ true) (sym c.split_at.ensures.front) c.in_ok-magnitude.ensures.digits)
    (subst (λ (bs : List ℕ). IsAscii bs) (sym c.split_at.ensures.front) c.in_ok-magnitude.ensures.ascii)
    (ap (fits_number c.args.is_negative) (sym spelled) ∙ c.in_ok-number.ensures.0) (c.in_ok-number.ensures.1 ∙ ap (signed c.args.is_negative) spelled))
