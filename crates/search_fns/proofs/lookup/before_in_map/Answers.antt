use Rattle.std.{proofs.Common.{◌≡◌, ◌∙◌, ap, sym, map, w64, to_z, of_z, arith, rules}, specs.Ordering.{int_eq}, specs.HashMap.{get}, proofs.lemmas.Int.{to_z-of_z}, proofs.lemmas.List.{length-map}}
use Rattle.search_fns.proofs.Lookups.{found_at, found_nowhere}
use Rattle.search_fns.proofs.lookup.before_in_map.Goals as goal

pub returns-in-Some : goal.returns-in-Some
returns-in-Some g c =
    let key : to_z w64 (of_z w64 c.key.result) ≡ g.T.Key.code c.args.sought = to_z-of_z w64 _ (search rules) ∙ c.key.ensures in
    let found = found_at (int_eq (g.T.Key.code c.args.sought)) (map g.T.Key.code c.args.items.now) 0 c.in-Some.place.now
    (sym (c.requires (g.T.Key.code c.args.sought)) ∙ ap (get int_eq c.args.places.now) (sym key) ∙ sym c.in-Some.ensures.value) in
    omega arith

pub returns-in-None : goal.returns-in-None
returns-in-None g c =
    let key : to_z w64 (of_z w64 c.key.result) ≡ g.T.Key.code c.args.sought = to_z-of_z w64 _ (search rules) ∙ c.key.ensures in
    sym (length-map c.args.items.now g.T.Key.code)
    ∙ sym (found_nowhere (int_eq (g.T.Key.code c.args.sought)) (map g.T.Key.code c.args.items.now) 0
    (sym (c.requires (g.T.Key.code c.args.sought)) ∙ ap (get int_eq c.args.places.now) (sym key) ∙ sym c.in-None.ensures.value))
