use Rattle.{std.proofs.Common.{◌≡◌, ◌+◌, ◌-◌, ◌<◌, sym, arith}, sheet_recalc.proofs.Entered.{names_more, name_at}}
use Rattle.sheet_recalc.proofs.plans.Plans.next_name.Goals as goal

pub returns-in-Some : goal.returns-in-Some
returns-in-Some c =
    let w = c.args.self.now in
    let some : 0 < w.waiting = omega (arith, c.if-self-eq0.false) in
    let next : w.waiting ≡ w.waiting - 1 + 1 = omega (arith, some) in
    (some, names_more w.found.entries (w.waiting - 1) w.waiting _ (sym c.in-Some.ensures.entry) next, name_at w.found.entries (w.waiting - 1) _ (sym c.in-Some.ensures.entry))
