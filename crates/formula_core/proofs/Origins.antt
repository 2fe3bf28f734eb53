-- The origin of a borrowed error.
use Rattle.std.{proofs.Common.{◌≡◌, ℕ, List, true, false, Option, Some, None, refl, sym, ap, ◌∙◌}, specs.Prelude.{is_some}, specs.Borrow.{Bor}, proofs.lemmas.Bool.{false≢true}}
use Rattle.{arrays_core.{specs.declared.fault.Fault.{Fault}, specs.declared.item.Kind.{Kind}}, formula_core.specs.Outcomes.{arisen_in, held_fault, lent_fault}}

origin_stays : (name other : List ℕ) (kind : Kind) (origin : Option (List ℕ)) → arisen_in name (arisen_in other (record { kind = kind; origin = origin })) ≡ arisen_in other (record { kind = kind; origin = origin })
origin_stays name other kind None = refl
origin_stays name other kind (Some x) = refl

-- a borrowed error without an origin gets this one
pub held_origin : (name : List ℕ) (held : Option (Bor Fault)) (arisen : Option (Bor (List ℕ))) (e : Fault) → lent_fault held arisen ≡ e → is_some arisen ≡ false → arisen_in name (held_fault held) ≡ arisen_in name e
held_origin name held None e is h = ap (arisen_in name) is
held_origin name held (Some other) e is h = absurd (false≢true (sym h))

-- an error with an origin keeps it
pub kept_origin : (name : List ℕ) (held : Option (Bor Fault)) (arisen : Option (Bor (List ℕ))) (e : Fault) → lent_fault held arisen ≡ e → is_some arisen ≡ true → e ≡ arisen_in name e
kept_origin name held None e is h = absurd (false≢true h)
kept_origin name held (Some other) e is h = sym is ∙ sym (origin_stays name other.now (held_fault held).kind (held_fault held).origin) ∙ ap (arisen_in name) is
