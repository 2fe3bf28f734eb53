use Rattle.std.{proofs.Common.{sym, ap, subst, List, ℕ, inr, ⊎_elim}, specs.Str.{bytes_eq}}
use Rattle.dep_order.{specs.Users.{HasNoEmptyBut}, specs.Room.{AreListsFor}, proofs.Following.{contains_none}}
use Rattle.sheet_recalc.{specs.Names.{Names, put, referred}, specs.Entries.{names_of, binding_of}, specs.Live.{TellsUsers}, specs.declared.entry.Entry.{Entry}}
use Rattle.sheet_recalc.proofs.commit.commit_brought.Goals as goal

pub commit-requires-clause-tells : goal.commit-requires-clause-tells
commit-requires-clause-tells c =
    let told = subst (λ (es : List (List ℕ × Entry)). TellsUsers (names_of es) c.take_larger-2.new.map.entries) (sym c.take_larger.ensures.entries)
    (subst (λ (us : List (List ℕ × _)). TellsUsers (names_of c.args.entries.now.entries) us) (sym c.take_larger-2.ensures.entries) c.requires.tells) in
    λ a b. ((λ u. (told a b).0 ((c.give_lists.ensures.same a b).0 u)), (λ r. (c.give_lists.ensures.same a b).1 ((told a b).1 r)))

pub commit-requires-clause-lists : goal.commit-requires-clause-lists
commit-requires-clause-lists c =
    let references = referred (binding_of c.args.entry) in
    c.give_lists.ensures.room references (subst (λ (us : List (List ℕ × _)). AreListsFor bytes_eq us references c.args.growth.lists.entries) (sym c.take_larger-2.ensures.entries) c.requires.brings.lists)

pub commit-requires-clause-used : goal.commit-requires-clause-used
commit-requires-clause-used c =
    let references = referred (binding_of c.args.entry) in
    c.give_lists.ensures.used references (subst (λ (us : List (List ℕ × _)). AreListsFor bytes_eq us references c.args.growth.lists.entries) (sym c.take_larger-2.ensures.entries) c.requires.brings.lists)
    (subst (λ (us : List (List ℕ × _)). HasNoEmptyBut bytes_eq us references) (sym c.take_larger-2.ensures.entries) (λ b there. ⊎_elim (λ l. absurd (contains_none b l)) (λ r. inr r) (c.requires.used b there)))

pub returns-clause-tells : goal.returns-clause-tells
returns-clause-tells c =
    subst (λ (ns : Names). TellsUsers ns c.commit.new.users.entries) (ap (λ es. put (names_of es) c.args.name (binding_of c.args.entry)) c.take_larger.ensures.entries) c.commit.ensures.tells
