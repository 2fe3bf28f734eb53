use lib.Utf8.{encode}
use Rattle.{std.{proofs.Common.{List, ℕ, ◌++◌, string_bytes, ap, ◌∙◌}, proofs.lemmas.List.{take_all}}, array_text.specs.Text.{line_end}}
use Rattle.sheet_cli.{specs.Answer.{names_text}, proofs.Listing.{listed_more}}
use Rattle.sheet_cli.proofs.queries.list_names.Goals as goal

pub loop-name-preserved : goal.loop-name-preserved
unfolding encode
loop-name-preserved c =
    let name = c.in_ok-push_str.ensures.bytes ∙ ap (λ (letters : List ℕ). string_bytes c.loop-name.text ++ letters) c.text.ensures in
    listed_more c.as_slice-name-items.result.now c.loop-name.name-index c.name-item.result _ _ c.loop-name-test.true c.name-item.is c.loop-name.invariant
    (c.in_ok-push.ensures.bytes ∙ ap (λ (text : List ℕ). text ++ line_end) name)

pub returns : goal.returns
returns c =
    let items = c.as_slice-name-items.result.now in
    let all = c.loop-name.invariant ∙ ap names_text (take_all c.loop-name.name-index items c.loop-name-test.false) in
    let is = c.as_slice-name-items.ensures in
    let names = c.names.ensures.names in
    cc
