use Rattle.{std.proofs.Common.{sym, subst, inl}, fold_trees.{specs.Sums.{IsOrdered, told_sums}, proofs.JoinedSums.{ordered_join, tells_join}}}
use Rattle.fold_trees.proofs.summary.Summary.followed_by.Goals as goal

pub returns-then-is_near-2 : goal.returns-then-is_near-2
returns-then-is_near-2 c earlier rest h k =
    let both = ordered_join (told_sums c.args.self.now) (told_sums c.args.later.now) c.requires.here.1.sound c.requires.later.1.sound in
    tells_join c.args.self.now c.args.later.now c.join_near.result earlier rest h k (record {
      ordered = both;
      sound = subst IsOrdered (sym c.join_near.ensures) both;
      is = inl c.join_near.ensures;
    })
