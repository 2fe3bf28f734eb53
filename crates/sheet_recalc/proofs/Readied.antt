-- A change is ready to be planned, its plans have its cost, and the sheet can become so.
use Rattle.std.{proofs.Common.{◌≡◌, ◌≤◌, false, ℕ, List, [], length, Option, Some, None, Ok, Err, IfOk, subst, refl, arith, ◌⊎◌}, specs.Str.{bytes_eq}, specs.List.{Contains, IsDistinct}, specs.Map.{keys_of}, specs.Option.{option_map, option_map_or}, specs.Prelude.{Vec}}
use Rattle.{arrays_core.{specs.Arrays.{IsArray}, specs.Outcomes.{Outcome}}, change_rules.specs.Currency.{applied}}
use Rattle.{dep_order.{specs.Reachability.{Reaches, IsAcyclic}, specs.Users.{Uses, EachFollowsUsers}}, index_region.specs.declared.delta.Delta.{Delta}}
use Rattle.sheet_recalc.{specs.Names.{Names, Binding, rebound, referred, Refers, most_names}, specs.Meaning.{val}, specs.Changes.{HasRoomForName}, specs.Costs.{AreAllThatReach}, specs.Entries.{names_of, binding_of}, specs.Live.{IsLive}}
use Rattle.sheet_recalc.{specs.ProposedSheet.{Outline, is_data, data_entry, proposed_entry, proposed_references, own_entry, proposed_names, proposed_change, proposed_delta, proposed_cost}, specs.Planning.{IsProposed, IsProposalAt, names_cost, CanBe}, specs.declared.proposal.Proposal.{Proposal}}
use Rattle.sheet_recalc.{proofs.Keeping.{name_order, distinct_once}, proofs.Putting.{distinct_put}, proofs.Removing.{distinct_others, few_others}, proofs.Refused.{few_put}, proofs.Rebound.{has_order, acyclic, settled, closed_new, all_that_reach, shown_still}, proofs.Deltas.{delta_is, delta_unreached}}
use Rattle.sheet_recalc.{proofs.Sums.{cost_found}, proofs.Working.{IsAffected}}
use Rattle.sheet_recalc.specs.declared.proposal.Proposal.TheVariants as proposed

-- the names in the binding of a proposal are the names in the proposal
pub references_made : (shown : Outcome) (p : Proposal) → option_map_or referred (option_map binding_of (proposed_entry shown p)) [] ≡ proposed_references p
references_made shown (proposed.Formula f) = refl
references_made shown (proposed.Data d) = by (applied d shown)
  where
    by : (r : Outcome) → option_map_or referred (option_map binding_of (data_entry r)) [] ≡ []
    by (Ok a) = refl
    by (Err e) = refl
references_made shown proposed.Removed = refl

-- names with one rebound or removed are still distinct, and not too many
pub distinct_rebound : (names : Names) (name : List ℕ) (b : Option Binding) → IsDistinct bytes_eq (keys_of names) → IsDistinct bytes_eq (keys_of (rebound names name b))
distinct_rebound names name (Some b) distinct = distinct_put name b names distinct
distinct_rebound names name None distinct = distinct_others name names distinct

few_rebound : (names : Names) (name : List ℕ) (b : Option Binding) → length names ≤ most_names → HasRoomForName names name → length (rebound names name b) ≤ most_names
few_rebound names name (Some b) few room = few_put names name b few room
few_rebound names name None few room = omega (arith, few_others name names, few)

module _ {S : Type 0} (o : Outline) (users : List (List ℕ × Vec (List ℕ) S)) (live : IsLive o.entries users)
    (found : List (List ℕ)) (closed : EachFollowsUsers bytes_eq users found) (named : Contains found o.name) (sound : (a : List ℕ) → Contains found a → (a ≡ o.name) ⊎ Reaches (Uses bytes_eq users) a o.name)
    (distinct : IsDistinct bytes_eq found) (apart : (c : List ℕ) → Contains (proposed_references o.proposal) c → Contains found c → ⊥) where
  abbrev new : Names
  new = proposed_names o

  abbrev b : Option Binding
  b = option_map binding_of (own_entry o)

  abbrev own : Delta
  own = proposed_delta o.name new o.proposal

  none : (c : List ℕ) → Contains (option_map_or referred b []) c → Contains found c → ⊥
  none c stands = apart c (subst (λ (rs : List (List ℕ)). Contains rs c) (references_made (val (names_of o.entries) o.name) o.proposal) stands)

  pub ready_acyclic : IsAcyclic (Refers new)
  ready_acyclic = acyclic o.entries users live o.name b found closed named sound distinct none

  pub ready_proposed : IsProposalAt o.entries o.name o.proposal → (is_data o.proposal ≡ false → IfOk (val (names_of o.entries) o.name) IsArray) → IsProposed o
  ready_proposed proposal is_sound =
      let order = has_order o.entries users live o.name b found closed named sound distinct none in
      record {
        current = live.current;
        sound = is_sound;
        settled = settled o.entries users live o.name b found closed named sound distinct none;
        proposal = proposal;
        deltas = delta_is (names_of o.entries) new o.name own order.0 (name_order new order.0 order.1);
      }

  pub ready_affected : IsAffected o found
  ready_affected =
      let follows = closed_new o.entries users live o.name b found closed named sound distinct none in
      record {
        named = named;
        closed = follows;
        untouched = λ q outside. record {
          shows = shown_still o.entries users live o.name b found closed named sound distinct none q outside;
          same = delta_unreached (names_of o.entries) new o.name own found follows named q outside;
        };
      }

  pub ready_all : AreAllThatReach new o.name found
  ready_all = all_that_reach o.entries users live o.name b found closed named sound distinct none

  pub ready_cost : proposed_cost o ≡ names_cost o found
  ready_cost =
      let follows = closed_new o.entries users live o.name b found closed named sound distinct none in
      cost_found new o.name (proposed_change o) found follows named (λ q outside. delta_unreached (names_of o.entries) new o.name own found follows named q outside)
      (distinct_rebound (names_of o.entries) o.name b live.sheet.distinct) (distinct_once found distinct)

  -- the sheet can be so
  pub ready_names : HasRoomForName (names_of o.entries) o.name → CanBe o
  ready_names room = record {
    kept = has_order o.entries users live o.name b found closed named sound distinct none;
    sheet = record {
      distinct = distinct_rebound (names_of o.entries) o.name b live.sheet.distinct;
      acyclic = ready_acyclic;
      few = few_rebound (names_of o.entries) o.name b live.sheet.few room;
    };
    room = room;
  }
