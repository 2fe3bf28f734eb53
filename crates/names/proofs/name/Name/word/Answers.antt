use Rattle.{std.proofs.Common.{refl, ◌≡◌, ℕ, ◌+◌, List, get_or, ◌∙◌, ap, sym}, names.{specs.Words.{eight_bytes}, proofs.Words.{padded}}}
use Rattle.names.proofs.name.Name.word.Goals as goal

pub returns : goal.returns
unfolding eight_bytes
returns c =
    let at : (k : ℕ) → get_or c.args.self.now k 0 ≡ get_or c.self.inside.bytes k 0 =
    λ k. ap (λ (n : List ℕ). get_or n k 0) (sym c.self.view_is) ∙ padded c.self.inside.bytes c.self.inside.len _ k c.self.invariant.2 in
    let f = c.min-from.result in
    c.number_of.ensures ∙ sym (rw (sym c.min-from.ensures, at f, at (f + 1), at (f + 2), at (f + 3), at (f + 4), at (f + 5), at (f + 6), at (f + 7)) refl)
