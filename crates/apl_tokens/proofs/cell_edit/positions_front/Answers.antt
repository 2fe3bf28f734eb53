use Rattle.std.{proofs.Common.{◌≡◌, ℕ, ◌+◌, List, [], ◌∷◌, ◌++◌, length, length-append, ap, ◌∙◌, rules, w64, SFits}, specs.Prelude.{ℤ}, proofs.lemmas.Int.{to_z-of_z}}
use Rattle.apl_tokens.proofs.EditBytes.{no_positions, position_more, position_last}
use Rattle.apl_tokens.proofs.cell_edit.positions_front.Goals as goal

pub loop-init : goal.loop-init
loop-init c = (ap (λ (ps : List ℤ). length ps) c.requires.none, c.requires.inline, no_positions c.args.text.now c.args.positions.now.items c.requires.none)

pub loop-preserved : goal.loop-preserved
loop-preserved c =
    let fits : SFits w64 c.in_ok-position.position = search rules in
    let sign : c.in_ok-position.after.now ≡ 0x3b ∷ c.in_ok-sign.next.now = c.in_ok-sign.ensures.cases.0 ∙ ap (λ (b : ℕ). b ∷ c.in_ok-sign.next.now) c.in-59.is in
    let pushed : c.push_reserved.new.self.items ≡ c.loop.positions.items ++ c.in_ok-position.position ∷ [] = c.push_reserved.ensures.items ∙ ap (λ (p : ℤ). c.loop.positions.items ++ p ∷ []) (to_z-of_z w64 c.in_ok-position.position fits) in
    let longer : length c.push_reserved.new.self.items ≡ c.loop.counter + 1 = ap (λ (ps : List ℤ). length ps) pushed ∙ length-append c.loop.positions.items (c.in_ok-position.position ∷ []) ∙ ap (λ (n : ℕ). n + 1) c.loop.invariant.0 in (
      longer,
      c.push_reserved.ensures.capacity ∙ c.loop.invariant.1,
      position_more c.args.text.now c.loop.rest.now c.in_ok-position.after.now c.in_ok-sign.next.now c.loop.positions.items c.push_reserved.new.self.items c.in_ok-position.position c.loop.invariant.2 c.in_ok-position.ensures sign pushed,
    )

pub returns-in-93-clause-reads : goal.returns-in-93-clause-reads
returns-in-93-clause-reads c =
    let fits : SFits w64 c.in_ok-position.position = search rules in
    let sign : c.in_ok-position.after.now ≡ 0x5d ∷ c.in_ok-sign.next.now = c.in_ok-sign.ensures.cases.0 ∙ ap (λ (b : ℕ). b ∷ c.in_ok-sign.next.now) c.in-93.is in
    let pushed : c.push_reserved.new.self.items ≡ c.loop.positions.items ++ c.in_ok-position.position ∷ [] = c.push_reserved.ensures.items ∙ ap (λ (p : ℤ). c.loop.positions.items ++ p ∷ []) (to_z-of_z w64 c.in_ok-position.position fits) in
    position_last c.args.text.now c.loop.rest.now c.in_ok-position.after.now c.in_ok-sign.next.now c.loop.positions.items c.push_reserved.new.self.items c.in_ok-position.position c.loop.invariant.2 c.in_ok-position.ensures sign pushed
