use Rattle.std.{proofs.Common.{◌≡◌, ◌∙◌, sym, refl, arith, ℕ, List, inl, Bool, true, false, MatchBool}, proofs.lemmas.List.{length-map}}
use Rattle.sheet_recalc.{specs.Names.{Binding}, specs.Entries.{names_of, binding_of}, specs.Changes.{HasRoomForName, IsFullFor}, specs.declared.entry.Entry.{Entry}, proofs.Live.{present_name, absent_name}}
use Rattle.sheet_recalc.proofs.planning.has_room.Goals as goal

pub returns-else-len-lt-MOST_NAMES : goal.returns-else-len-lt-MOST_NAMES
returns-else-len-lt-MOST_NAMES c = by c.contains_key.result refl
  where
    by : (t : Bool) → c.contains_key.result ≡ t → MatchBool t (HasRoomForName (names_of c.args.entries.now.entries) c.args.name) (IsFullFor (names_of c.args.entries.now.entries) c.args.name)
    by true is = inl (present_name c.args.entries.now.entries c.args.name (sym c.contains_key.ensures ∙ is))
    by false is = (
      absent_name c.args.entries.now.entries c.args.name (sym is ∙ c.contains_key.ensures),
      omega (arith, c.if-len-lt-MOST_NAMES.false, c.len.ensures.len, length-map {B = List ℕ × Binding} c.args.entries.now.entries (λ (e : List ℕ × Entry). (e.0, binding_of e.1))),
    )
