use Rattle.search_fns.{specs.SameItem.{same_item}, proofs.Searching.{found_if_any}}
use Rattle.search_fns.proofs.member.is_member.Goals as goal

pub returns : goal.returns
returns c = rw (c.first_place.ensures, c.places.ensures.is) (found_if_any (same_item c.args.item) c.args.array.now.items)
