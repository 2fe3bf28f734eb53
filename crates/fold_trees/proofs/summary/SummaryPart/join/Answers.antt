use Rattle.{std.{proofs.Common.{◌≡◌, sym, subst, true}, proofs.lemmas.List.Elements.{All-append}}, item_fns.specs.Numbers.{is_number}}
use Rattle.fold_trees.{specs.Sums.{IsSummaryOf, sums_of}, proofs.JoinedSums.{sums_append}}
use Rattle.fold_trees.proofs.summary.SummaryPart.join.Goals as goal

pub returns : goal.returns
returns c xs ys h k = record {
  numbers = All-append (λ z. is_number z ≡ true) xs ys h.numbers k.numbers;
  tells = subst (IsSummaryOf c.followed_by.result) (sym (sums_append xs ys)) (c.followed_by.ensures (sums_of xs) (sums_of ys) h.tells k.tells);
}
