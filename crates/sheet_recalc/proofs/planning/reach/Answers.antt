use Rattle.std.{proofs.Common.{ℕ, List, arith}, proofs.lemmas.List.{length-map}}
use Rattle.sheet_recalc.{specs.Names.{Binding}, specs.Entries.{names_of, binding_of}, specs.declared.entry.Entry.{Entry}, proofs.NameEquality.{equal-true}, proofs.Keeping.{within, name_order}}
use Rattle.sheet_recalc.proofs.planning.reach.Goals as goal

pub affected-requires : goal.affected-requires
affected-requires c =
    let es = c.args.proposed.now.entries.now.entries in
    record {
      exact = equal-true;
      within = λ a via chain.
          let low = within (names_of es) c.args.users.now.entries c.requires.live.tells c.requires.live.order (name_order (names_of es) c.requires.live.order c.requires.live.kept) c.args.proposed.now.name a via chain in
          omega (arith, low, c.len.ensures.len, length-map {B = List ℕ × Binding} es (λ (e : List ℕ × Entry). (e.0, binding_of e.1)));
    }
