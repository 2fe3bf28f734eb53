use lib.Utf8.{encode}
use Rattle.std.{proofs.Common.{◌∙◌, [], ◌∷◌, ap, take}, specs.Prelude.{encode_utf8_all}, proofs.lemmas.List.{take_more, take_all}}
use Rattle.array_text.{specs.Text.{character_line}, proofs.Writing.{pushed_behind, grown, encode_utf8_all-push}}
use Rattle.array_text.proofs.characters.CharPrinted.push_line.Goals as goal

pub loop-character-preserved : goal.loop-character-preserved
loop-character-preserved c =
    let item = c.character-item.result in
    let more = take_more c.args.characters.now c.loop-character.character-index item c.loop-character-test.true in
    grown _ _ _ _ _ _ c.in_ok-push.ensures.bytes c.loop-character.invariant
    (ap encode_utf8_all (rw (← c.character-item.is) at more) ∙ encode_utf8_all-push (take c.loop-character.character-index c.args.characters.now) item)

pub returns : goal.returns
unfolding character_line encode
returns c =
    pushed_behind c.push-2.result _ _ _ _ _ (10 ∷ []) c.push-2.ensures.bytes c.loop-character.invariant
    (ap encode_utf8_all (take_all c.loop-character.character-index c.args.characters.now c.loop-character-test.false))
