use Rattle.std.{proofs.Common.{ℕ, List, ◌∷◌, ap, ◌∙◌}, proofs.lemmas.Option.{IfSome_then}}
use Rattle.apl_tokens.proofs.fronts.after_minus.Goals as goal

pub returns : goal.returns
returns c = IfSome_then c.after_byte-2.result c.after_byte-2.ensures (λ rest is. c.in_ok-after_byte.ensures ∙ ap (λ (bs : List ℕ). 0xc2 ∷ bs) is)
