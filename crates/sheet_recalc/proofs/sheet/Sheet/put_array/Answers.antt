use Rattle.sheet_recalc.{specs.Changes.{Put}, proofs.Asked.{on_ok_map, if_err_map, at_first, put_asked}}
use Rattle.sheet_recalc.proofs.sheet.Sheet.put_array.Goals as goal

pub make_change-requires : goal.make_change-requires
make_change-requires c = (Put c.args.name c.args.array, at_first _ _ _ _ _ c.new.ensures (put_asked c.args.self.now c.args.name c.args.array))

pub returns-clause-ok : goal.returns-clause-ok
returns-clause-ok c = on_ok_map c.make_change.result _ _ (λ all. (all (Put c.args.name c.args.array) (at_first _ _ _ _ _ c.new.ensures (put_asked c.args.self.now c.args.name c.args.array))).0) c.make_change.ensures.made

pub returns-clause-cost : goal.returns-clause-cost
returns-clause-cost c = on_ok_map c.make_change.result _ _ (λ all. (all (Put c.args.name c.args.array) (at_first _ _ _ _ _ c.new.ensures (put_asked c.args.self.now c.args.name c.args.array))).1) c.make_change.ensures.made

pub returns-clause-ticks : goal.returns-clause-ticks
returns-clause-ticks c = on_ok_map c.make_change.result _ _ (λ all. (all (Put c.args.name c.args.array) (at_first _ _ _ _ _ c.new.ensures (put_asked c.args.self.now c.args.name c.args.array))).2) c.make_change.ensures.made

pub returns-clause-refused : goal.returns-clause-refused
returns-clause-refused c = if_err_map c.make_change.result _ _ (λ cause why. why (Put c.args.name c.args.array) (at_first _ _ _ _ _ c.new.ensures (put_asked c.args.self.now c.args.name c.args.array))) c.make_change.ensures.refused
