use Rattle.{std.{proofs.Common.{arith, ◌≡◌, length, ap, ◌∙◌, sym, length-take-le}, specs.Int.{div_ceil}}, names.specs.Words.{word_size}}
use Rattle.names.proofs.name.Name.words.Goals as goal

pub returns : goal.returns
returns c =
    let len : length c.args.self.now ≡ c.self.inside.len =
    ap length (sym c.self.view_is) ∙ length-take-le c.self.inside.len c.self.inside.bytes (omega arith) in
    record { count = c.div_ceil.ensures ∙ ap (λ n. div_ceil n word_size) (sym len); few = omega (arith, c.div_ceil.ensures, c.self.invariant.0) }
