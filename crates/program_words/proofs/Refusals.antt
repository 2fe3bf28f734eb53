-- The reasons for refusals.
use Rattle.std.proofs.Common.{rules, ◌≡◌, subst, List, ⊎_elim, [], Option}
use Rattle.clap.{specs.Words.{HasKind, Row, Text, fault_of, kind_of, subcommand_of}, specs.declared.error.Error.{Error}, specs.declared.error.kind.ErrorKind.TheVariants.{OutOfMemory}}
use Rattle.program_words.{specs.declared.reading.WordsFault.{WordsFault}, specs.declared.reading.WordsFault.TheVariants.{BadName, BadWords}, specs.Asked.{HasBadName, IsNotBadWords, IsRefusalOf}, specs.Matched.{IsForName, IsRefusalFor}, specs.Program.{aplsheet}}

pub for_name-weaker : {P Q : Type 0} (f : WordsFault) → (P → Q) → IsForName P f → IsForName Q f
for_name-weaker BadName g h = g h
for_name-weaker _ g h = h

-- words that `clap` refuses
pub refused_by_clap : (words : List Text) (e : Error) (f : WordsFault) → HasKind (fault_of aplsheet words) e → IsRefusalFor (kind_of e) f → IsRefusalOf words f
unfolding IsRefusalOf
refused_by_clap words e (BadWords x) kinds h = rw h.0 (⊎_elim (λ m. absurd (h.1 m)) (λ among. among) kinds)
refused_by_clap words e _ kinds h = search rules

-- words that `clap` accepts
pub refused_for_name : (words : List Text) (asked : Option (Text × List Row)) (f : WordsFault) → asked ≡ subcommand_of aplsheet words
    → fault_of aplsheet words ≡ [] → IsForName (HasBadName asked) f → IsRefusalOf words f
unfolding IsRefusalOf
refused_for_name words asked BadName is none h = (none, subst HasBadName is h)
refused_for_name words asked _ is none h = search rules

pub taken_for_name : (P : Type 0) (f : WordsFault) → IsForName P f → IsNotBadWords f
taken_for_name P (BadWords e) h = h
taken_for_name P _ h = tt

pub taken_without_memory : (e : Error) (f : WordsFault) → kind_of e ≡ OutOfMemory → IsRefusalFor (kind_of e) f → IsNotBadWords f
taken_without_memory e (BadWords x) is h = h.1 is
taken_without_memory e _ is h = tt
