use Rattle.std.{proofs.Common.{◌≡◌, ◌∙◌, ℕ, List, Some, IsSome, true, cond, slice_get, refl, sym, ap, subst}, specs.Str.{bytes_eq}, specs.Map.{lookup, set_value, values_of}, specs.Option.{option_map}, proofs.lemmas.Map.{lookup-set_value}, proofs.lemmas.Option.{slice_get-map}}
use Rattle.indexmap.{specs.IndexMap.{set_value_at}, proofs.CallerLemmas.{updates-with_value_at}}
use Rattle.sheet_recalc.{specs.Entries.{names_of, adopting}, specs.Live.{CanAdopt}, specs.declared.entry.Entry.{Entry}, proofs.NameEquality.{equal-true, names_equal}, proofs.Live.{names_of_adopting, names_of_adopting_at}}
use Rattle.sheet_recalc.proofs.commit.adopt_one.Goals as goal

-- the entry at a place whose name is the one looked for
module _ (es : List (List ℕ × Entry)) (i : ℕ) (there name : List ℕ) (e : Entry) (same : bytes_eq there name ≡ true) (at : slice_get es i ≡ Some (there, e)) where
  named : slice_get es i ≡ Some (name, e)
  named = subst (λ k. slice_get es i ≡ Some (k, e)) (equal-true there name same) at

  found : lookup (bytes_eq there) es ≡ Some e → lookup (bytes_eq name) es ≡ Some e
  found = subst (λ k. lookup (bytes_eq k) es ≡ Some e) (equal-true there name same)

  held : (w : Entry) → Some w ≡ slice_get (values_of es) i → w ≡ e
  held w is =
      let same : Some w ≡ Some e = is ∙ (slice_get-map (λ (x : List ℕ × Entry). x.1) es i ∙ ap (option_map (λ (x : List ℕ × Entry). x.1)) at) in
      cc

pub adopt-requires : goal.adopt-requires
adopt-requires c =
    let es = c.args.entries.now.entries in
    let there = c.in-Some.there.now in
    let e = c.in-Some.field-0-1.now in
    let same = sym c.eq.ensures ∙ c.if-eq.true in
    let at = sym c.in-Some.ensures.entry in
    subst (λ (x : Entry). CanAdopt x c.args.plan) (sym (held es c.args.hint there c.args.name.now e same at c.in-Some-get_index_mut.entry.now c.in-Some-get_index_mut.ensures.value))
    (c.requires e (found es c.args.hint there c.args.name.now e same at c.in-Some.ensures.value))

pub returns-in-Some-get_index_mut-clause-present : goal.returns-in-Some-get_index_mut-clause-present
returns-in-Some-get_index_mut-clause-present c = λ e looked.
    let es = c.args.entries.now.entries in
    let i = c.args.hint in
    let there = c.in-Some.there.now in
    let name = c.args.name.now in
    let p = c.args.plan in
    let v = c.in-Some.field-0-1.now in
    let same = sym c.eq.ensures ∙ c.if-eq.true in
    let at = sym c.in-Some.ensures.entry in
    let both : Some v ≡ Some e = sym (found es i there name v same at c.in-Some.ensures.value) ∙ looked in
    let own : v ≡ e = cc in
    let this = held es i there name v same at c.in-Some-get_index_mut.entry.now c.in-Some-get_index_mut.ensures.value in
    let is : c.adopt.new.self ≡ adopting e p = c.adopt.ensures ∙ ap (λ (x : Entry). adopting x p) (this ∙ own) in
    let now : slice_get es i ≡ Some (name, e) = named es i there name v same at ∙ ap (λ (x : Entry). Some (name, x)) own in
    let puts = updates-with_value_at c.args.entries.now i c.adopt.new.self names_equal c.get_index_mut.ensures.unique name e now in (
      ap (λ (x : Entry). names_of (set_value_at es i x)) is ∙ names_of_adopting_at p e name es i now,
      λ q. puts.0 q ∙ ap (λ (x : Entry). cond (bytes_eq name q) (Some x) (lookup (bytes_eq q) es)) is,
    )

pub returns-in-Some-get_mut-clause-present : goal.returns-in-Some-get_mut-clause-present
returns-in-Some-get_mut-clause-present c = λ e looked.
    let es = c.args.entries.now.entries in
    let name = c.args.name.now in
    let p = c.args.plan in
    let w = c.adopt-in-Some-get_mut.new.self in
    let same : Some c.in-Some-get_mut.entry.now ≡ Some e = c.in-Some-get_mut.ensures.value ∙ looked in
    let this : c.in-Some-get_mut.entry.now ≡ e = cc in
    let is : w ≡ adopting e p = c.adopt-in-Some-get_mut.ensures ∙ ap (λ (x : Entry). adopting x p) this in
    let done = (c.get_mut.follows.holds w).0 ∙ ap (set_value (bytes_eq name) es) is in (
      ap names_of done ∙ names_of_adopting name p e es looked,
      λ q. ap (lookup (bytes_eq q)) done ∙ lookup-set_value names_equal (bytes_eq name) (names_equal.congr name) q (adopting e p) es (subst (λ o. IsSome o) (sym looked) refl),
    )
