use Rattle.std.{proofs.Common.{arith, ◌≡◌, length, ap, ◌∙◌, sym, length-take-le}, specs.Int.{w64, to_le_bytes}}
use Rattle.names.{specs.Words.{word_at}, proofs.Words.{same_words, same_answer, other_answer, one_number, one_more}}
use Rattle.names.proofs.name.NamePartialEq.eq.Goals as goal

pub returns : goal.returns
returns c =
    let a : length c.args.self.now ≡ c.self.inside.len = ap length (sym c.self.view_is) ∙ length-take-le c.self.inside.len c.self.inside.bytes (omega arith) in
    let b : length c.args.other.now ≡ c.other.inside.len = ap length (sym c.other.view_is) ∙ length-take-le c.other.inside.len c.other.inside.bytes (omega arith) in
    same_answer c.args.self.now c.args.other.now
    (same_words c.args.self.now c.args.other.now (omega (arith, a, b, c.if-self-other.false)) (omega (arith, a, c.self.invariant.0))
    (λ k h. c.loop-index.invariant.1 k (omega (arith, h, c.words-index-end.ensures.count, c.loop-index-test.false))))

pub returns-then-word : goal.returns-then-word
returns-then-word c =
    other_answer c.args.self.now c.args.other.now
    (λ same. c.if-word.true (one_number c.word.result c.word-in-loop-index.result c.word.type_inv c.word-in-loop-index.type_inv
    (c.word.ensures ∙ ap (λ n. word_at n c.loop-index.index) same ∙ sym c.word-in-loop-index.ensures)))

pub returns-then-self-other : goal.returns-then-self-other
returns-then-self-other c =
    let a : length c.args.self.now ≡ c.self.inside.len = ap length (sym c.self.view_is) ∙ length-take-le c.self.inside.len c.self.inside.bytes (omega arith) in
    let b : length c.args.other.now ≡ c.other.inside.len = ap length (sym c.other.view_is) ∙ length-take-le c.other.inside.len c.other.inside.bytes (omega arith) in
    other_answer c.args.self.now c.args.other.now (λ same. c.if-self-other.true (sym a ∙ ap length same ∙ b))

pub loop-index-init : goal.loop-index-init
loop-index-init c = (omega arith, λ k h. absurd (omega (arith, h)))

pub loop-index-preserved : goal.loop-index-preserved
loop-index-preserved c =
    let here : word_at c.args.self.now c.loop-index.index ≡ word_at c.args.other.now c.loop-index.index =
    sym c.word.ensures ∙ ap (to_le_bytes w64) c.if-word.false ∙ c.word-in-loop-index.ensures in (
      omega (arith, c.words-index-end.ensures.count, c.loop-index-test.true),
      one_more (λ k. word_at c.args.self.now k ≡ word_at c.args.other.now k) c.loop-index.index c.loop-index.invariant.1 here,
    )
