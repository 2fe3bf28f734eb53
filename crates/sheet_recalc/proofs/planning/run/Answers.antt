use Rattle.std.{proofs.Common.{◌≡◌, ◌-◌, ◌∙◌, [], get_or, ap, take, cond, inr, refl, subst}, specs.Str.{bytes_eq}, specs.Map.{keys_of}}
use Rattle.sheet_recalc.{specs.Live.{plan_in}, specs.ProposedSheet.{outline_of, entry_of}, specs.Planning.{IsNext, IsStopped, waiting_names}, proofs.Working.{reads_done}, proofs.Forward.{skipped, kept_whole, stopped_left, stopped_spent, paid_more}}
use Rattle.sheet_recalc.proofs.planning.run.Goals as goal

pub next_name-requires : goal.next_name-requires
next_name-requires c = (c.loop-name.invariant.way c.requires.way.0 c.requires.way.1 c.requires.way.2).1.made.few

pub loop-name-preserved-in_default-placed_formula : goal.loop-name-preserved-in_default-placed_formula
loop-name-preserved-in_default-placed_formula c = record {
  way = λ base left way.
      let k = c.loop-name.invariant.way base left way in
      (k.0, skipped (outline_of c.args.proposed.now) c.requires.proposed base k.0 c.loop-name.meter.ticks c.loop-name.plans c.in-Some.name.now k.1 c.in-Some.ensures.0 c.in-Some.ensures.1 c.in_default-placed_formula.ensures, k.2);
  same = c.loop-name.invariant.same;
  keys = c.loop-name.invariant.keys;
  last = tt;
}

pub work-requires-clause-ahead : goal.work-requires-clause-ahead
work-requires-clause-ahead c =
    let k = c.loop-name.invariant.way c.requires.way.0 c.requires.way.1 c.requires.way.2 in
    record { proposed = c.requires.proposed; plans = k.1.made.way.plans; unchanged = c.loop-name.invariant.same; newest = c.loop-name.invariant.last }

pub work-requires-clause-next : goal.work-requires-clause-next
work-requires-clause-next c =
    let w = c.loop-name.plans in
    let k = c.loop-name.invariant.way c.requires.way.0 c.requires.way.1 c.requires.way.2 in
    (c.requires.way.0, k.0, w, record { before = take (w.waiting - 1) (keys_of w.found.entries); name = c.in-Some.name.now; last = c.in-Some.ensures.1; held = c.in-Some-placed_formula.ensures; way = k.1 })

pub work-requires-clause-done : goal.work-requires-clause-done
work-requires-clause-done c =
    let w = c.loop-name.plans in
    let k = c.loop-name.invariant.way c.requires.way.0 c.requires.way.1 c.requires.way.2 in
    reads_done (outline_of c.args.proposed.now) c.requires.proposed (take (w.waiting - 1) (keys_of w.found.entries)) c.in-Some.name.now (waiting_names w) c.in-Some.ensures.1 (plan_in w.found.entries) k.1.made.way
    c.in-Some-placed_formula.formula.now c.in-Some-placed_formula.ensures

pub loop-name-preserved : goal.loop-name-preserved
loop-name-preserved c =
    let o = outline_of c.args.proposed.now in
    let w = c.loop-name.plans in
    let f = c.in-Some-placed_formula.formula.now in
    let held = c.in-Some-placed_formula.ensures in
    let name = c.in-Some.name.now in
    let front = take (w.waiting - 1) (keys_of w.found.entries) in
    let split = c.in-Some.ensures.1 in
    let stop = subst (λ b. IsStopped f c.work.new.current b c.work.new.budget) c.if-not-is_whole.false c.in_ok-is_whole.ensures.whole in
    record {
      way = λ base left way.
          let k = c.loop-name.invariant.way base left way in
          let next : IsNext o base k.0 w f w.current c.loop-name.meter.ticks = record { before = front; name = name; last = split; held = held; way = k.1 } in
          let m = c.work.ensures.way base k.0 w next in (
            m.0,
            kept_whole o c.requires.proposed base m.0 c.work.new.meter.ticks w name front split f held c.work.new.current c.work.new.budget stop m.1.way c.keep.new.self c.in-Some.ensures.0 refl c.keep.ensures.waiting c.keep.ensures.keys
                (λ q. c.keep.ensures.plans q ∙ ap (λ k. cond (bytes_eq k q) c.work.new.current (plan_in w.found.entries q)) c.in-Some.ensures.2) c.keep.ensures.cost c.keep.ensures.current,
            paid_more o c.args.budget.now c.loop-name.budget c.work.new.budget left k.0 m.0 c.args.meter.now.ticks c.loop-name.meter.ticks c.work.new.meter.ticks k.2 m.2,
          );
      same = c.loop-name.invariant.same;
      keys = c.keep.ensures.keys ∙ c.loop-name.invariant.keys;
      last =
          let here : get_or (keys_of c.keep.new.self.found.entries) c.keep.new.self.waiting [] ≡ name = (λ i. get_or (c.keep.ensures.keys i) (c.keep.ensures.waiting i) []) ∙ c.in-Some.ensures.2 in
          ap (entry_of o) here ∙ held;
    }

pub returns-then-not-is_whole-clause-end : goal.returns-then-not-is_whole-clause-end
returns-then-not-is_whole-clause-end c =
    let o = outline_of c.args.proposed.now in
    let w = c.loop-name.plans in
    let f = c.in-Some-placed_formula.formula.now in
    let stop = subst (λ b. IsStopped f c.work.new.current b c.work.new.budget) c.if-not-is_whole.true c.in_ok-is_whole.ensures.whole in
    inr (
      stopped_spent f c.work.new.current c.work.new.budget stop,
      λ base left way. stopped_left o c.requires.proposed base left c.work.new.meter.ticks w c.in-Some.name.now (take (w.waiting - 1) (keys_of w.found.entries)) c.in-Some.ensures.1 f c.in-Some-placed_formula.ensures c.work.new.current c.work.new.budget stop way,
    )

pub returns-then-not-is_whole-clause-way : goal.returns-then-not-is_whole-clause-way
returns-then-not-is_whole-clause-way c = λ base left way.
    let o = outline_of c.args.proposed.now in
    let w = c.loop-name.plans in
    let k = c.loop-name.invariant.way base left way in
    let next : IsNext o base k.0 w c.in-Some-placed_formula.formula.now w.current c.loop-name.meter.ticks =
    record { before = take (w.waiting - 1) (keys_of w.found.entries); name = c.in-Some.name.now; last = c.in-Some.ensures.1; held = c.in-Some-placed_formula.ensures; way = k.1 } in
    let m = c.work.ensures.way base k.0 w next in
    (m.0, m.1.way, paid_more o c.args.budget.now c.loop-name.budget c.work.new.budget left k.0 m.0 c.args.meter.now.ticks c.loop-name.meter.ticks c.work.new.meter.ticks k.2 m.2)

pub returns-in_err-is_whole-clause-way : goal.returns-in_err-is_whole-clause-way
returns-in_err-is_whole-clause-way c = λ base left way.
    let o = outline_of c.args.proposed.now in
    let w = c.loop-name.plans in
    let k = c.loop-name.invariant.way base left way in
    let next : IsNext o base k.0 w c.in-Some-placed_formula.formula.now w.current c.loop-name.meter.ticks =
    record { before = take (w.waiting - 1) (keys_of w.found.entries); name = c.in-Some.name.now; last = c.in-Some.ensures.1; held = c.in-Some-placed_formula.ensures; way = k.1 } in
    let m = c.work.ensures.way base k.0 w next in
    (m.0, m.1.way, paid_more o c.args.budget.now c.loop-name.budget c.work.new.budget left k.0 m.0 c.args.meter.now.ticks c.loop-name.meter.ticks c.work.new.meter.ticks k.2 m.2)
