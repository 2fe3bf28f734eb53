use Rattle.std.{proofs.Common.{arith, refl, ◌≡◌, suc, ◌+◌, [], ◌∷◌, ap, ◌∙◌, sym}, specs.Hash.{fed_then, le_bytes}, specs.List.{fold}}
use Rattle.names.specs.Words.{first_words, word_at, count_of_words}
use Rattle.names.proofs.name.NameHash.hash.Goals as goal

pub loop-index-init : goal.loop-index-init
unfolding first_words
loop-index-init g c = (omega arith, refl)

pub loop-index-preserved : goal.loop-index-preserved
unfolding first_words le_bytes
loop-index-preserved g c =
    let name = c.args.self.now in
    let k = c.loop-index.index in
    let write = g.H.Hasher.write in
    let next : k + 1 ≡ suc k = omega arith in (
      omega (arith, c.words-index-end.ensures.count, c.loop-index-test.true),
      fed_then write c.args.state.now c.loop-index.state c.write_u64.new.self (first_words name k) (word_at name k ∷ []) c.loop-index.invariant.1 (c.write_u64.ensures ∙ ap (write c.loop-index.state) c.word.ensures)
          ∙ ap (λ n. fold write c.args.state.now (first_words name n)) (sym next),
    )

pub returns : goal.returns
returns g c =
    let all : c.loop-index.index ≡ count_of_words c.args.self.now = omega (arith, c.words-index-end.ensures.count, c.loop-index.invariant.0, c.loop-index-test.false) in
    c.loop-index.invariant.1 ∙ ap (λ k. fold g.H.Hasher.write c.args.state.now (first_words c.args.self.now k)) all
