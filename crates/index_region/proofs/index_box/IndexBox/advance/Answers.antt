use Rattle.index_region.proofs.Advancing.{advanced, around}
use Rattle.index_region.proofs.index_box.IndexBox.advance.Goals as goal

pub returns-clause-next : goal.returns-clause-next
returns-clause-next c = λ before. advanced c.args.self.now c.as_slice.result.now c.args.index.now c.advance.new.self before c.as_slice.ensures.is c.advance.ensures

pub returns-clause-around : goal.returns-clause-around
returns-clause-around c = λ before. around c.args.self.now c.as_slice.result.now c.args.index.now c.advance.new.self before c.as_slice.ensures.is c.advance.ensures
