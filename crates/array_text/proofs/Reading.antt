-- Reading consumes all records.
use Rattle.std.{proofs.Common.{◌≡◌, ◌==◌, ◌||◌, ◌⊎◌, inl, inr, is_some, ℕ, zero, suc, ◌<◌, Bool, true, false, cond, List, [], ◌∷◌, ◌++◌, length, Option, Some, None, refl, sym, ap, ◌∙◌, subst, arith}, proofs.lemmas.Bool.{false≢true}}
use Rattle.csv.{specs.Machine.{Read, in_field, start_field, start_record, step, next_record, ends_at_end, is_end}, specs.Reading.{ReadRecord, Reached, default_config, is_flexible, records_from, took_first}, specs.declared.reader.Reader.{Reader}, proofs.ReadFacts.{rows-end, rows-more}}
use Rattle.csv.{specs.declared.parser.State.{State}, specs.declared.parser.Action.{Action}}
use Rattle.array_text.{specs.Tables.{Fields}, specs.Reading.{AreLeft, IsNext}}
use Rattle.csv.specs.declared.parser.State.TheVariants as st
use Rattle.csv.specs.declared.parser.Action.TheVariants as act

-- if a byte ends a record, the end of the bytes after it ends none
abbrev StopsBetween : State × Action → Type 0
StopsBetween r = is_end r.1 ≡ true → ends_at_end r.0 ≡ false

in_field_by : (delimits carriage feeds : Bool)
    → StopsBetween (cond delimits (st.StartField, act.EndField)
    (cond (carriage || feeds) (cond carriage st.AfterCr st.StartRecord, act.EndRecord) (st.InField, act.Copy)))
in_field_by true carriage feeds h = absurd (false≢true h)
in_field_by false true feeds h = refl
in_field_by false false true h = refl
in_field_by false false false h = absurd (false≢true h)

in_field_stops : (c : ℕ) → StopsBetween (in_field default_config c)
in_field_stops c = in_field_by (c == 44) (c == 13) (c == 10)

goes_on : (b : Bool) (s : State) (a : Action) (r : State × Action) → is_end a ≡ false → StopsBetween r → StopsBetween (cond b (s, a) r)
goes_on true s a r e k h = absurd (false≢true (sym e ∙ h))
goes_on false s a r e k h = k h

start_field_stops : (c : ℕ) → StopsBetween (start_field default_config c)
start_field_stops c = goes_on (c == 34) st.InQuoted act.Skip (in_field default_config c) refl (in_field_stops c)

start_record_stops : (c : ℕ) → StopsBetween (start_record default_config c)
start_record_stops c = goes_on ((c == 13) || (c == 10)) st.StartRecord act.Skip (start_field default_config c) refl (start_field_stops c)

step_stops : (s : State) (c : ℕ) → StopsBetween (step default_config s c)
step_stops st.StartRecord c = start_record_stops c
step_stops st.StartField c = start_field_stops c
step_stops st.InField c = in_field_stops c
step_stops st.InQuoted c = goes_on (c == 34) st.AfterQuote act.Skip (st.InQuoted, act.Copy) refl (λ h. absurd (false≢true h))
step_stops st.InEscape c = λ h. absurd (false≢true h)
step_stops st.AfterQuote c = goes_on (c == 34) st.InQuoted act.Copy (in_field default_config c) refl (in_field_stops c)
step_stops st.InComment c = goes_on (c == 10) st.StartRecord act.Skip (st.InComment, act.Skip) refl (λ h. absurd (false≢true h))
step_stops st.AfterCr c = goes_on (c == 10) st.StartRecord act.Skip (start_record default_config c) refl (start_record_stops c)

-- the rest after a record is shorter, and does not begin within one
abbrev Shrinks : State → List ℕ → Read → Type 0
Shrinks s xs r = ((length r.2 < length xs) ⊎ ((xs ≡ []) × (r.2 ≡ []) × (ends_at_end s ≡ true))) × (ends_at_end r.1 ≡ false)

picked : (P : Read → Type 0) (b : Bool) (x r : Read) (o : Option Read) → cond b (Some x) o ≡ Some r → (b ≡ true → P x) → (o ≡ Some r → P r) → P r
picked P true x r o h here later = let is : x ≡ r = cc in subst P is (here refl)
picked P false x r o h here later = later h

next_shrinks : (s : State) (f : Fields) (p xs : List ℕ) (r : Read) → next_record default_config s f p xs ≡ Some r → Shrinks s xs r
unfolding next_record
next_shrinks s f p [] r h =
    picked (Shrinks s []) (ends_at_end s) (f ++ (p ∷ []), st.StartRecord, []) r None h (λ e. (inr (refl, refl, e), refl))
    (λ n. absurd (false≢true (ap is_some n)))
next_shrinks s f p (c ∷ rest) r h =
    picked (Shrinks s (c ∷ rest)) (is_end (step default_config s c).1) _ r _ h (λ e. (inl (omega arith), step_stops s c e))
    (λ deeper. after (next_shrinks (step default_config s c).0 _ _ rest r deeper))
  where
    after : Shrinks (step default_config s c).0 rest r → Shrinks s (c ∷ rest) r
    after (inl less, out) = (inl (omega arith), out)
    after (inr (none, left, ends), out) = let short = ap length left in (inl (omega arith), out)

-- the record that is read is the first of those left
pub next_left : (most : ℕ) (s : State) (xs : List ℕ) (r : Read) → next_record default_config s [] [] xs ≡ Some r → length xs < most → ends_at_end s ≡ false
    → (fewer : ℕ) × (length r.2 < fewer) × (ends_at_end r.1 ≡ false) × (records_from default_config most s xs ≡ r.0 ∷ records_from default_config fewer r.1 r.2)
unfolding records_from
next_left zero s xs r h small out = absurd (omega arith)
next_left (suc most) s xs r h small out =
    let shrunk = next_shrinks s [] [] xs r h in
    elim shrunk.0 [ inl less ↦ (most, omega arith, shrunk.1, rw h refl) | inr none ↦ absurd (false≢true (sym out ∙ none.2)) ]

-- if no record is read, none is left
pub none_left : (most : ℕ) (s : State) (xs : List ℕ) → next_record default_config s [] [] xs ≡ None → length xs < most → records_from default_config most s xs ≡ []
unfolding records_from
none_left zero s xs h small = absurd (omega arith)
none_left (suc most) s xs h small = rw h refl

-- the result of reading the next record, from the records left
pub read_on : {R : Type 0} (known : R → Option (List ℕ)) (a b : Reader R) (found : Bool) (fields : Fields) (rest : List Fields)
    → took_first b ≡ true → is_flexible b ≡ is_flexible a → ReadRecord known a b found fields → AreLeft known a rest → IsNext (AreLeft known b) rest found fields
unfolding Reached
read_on known a b found fields rest first flexible read left = record {
  none = λ e.
      let ended = rows-end known a b fields default_config left.bytes left.config left.source (rw e at read) in
      left.are ∙ none_left left.most a.state left.bytes ended left.enough;
  some = λ e.
      let more = rows-more known a b fields default_config a.state left.bytes left.bytes [] left.config left.source (refl, refl) (rw e at read) in
      let taken = more.2 in
      let next = next_left left.most a.state left.bytes taken.0 taken.1 left.enough left.between in
      let later = records_from default_config next.0 taken.0.1 taken.0.2 in (
        later,
        left.are ∙ next.3 ∙ ap (λ (f : Fields). f ∷ later) (sym taken.2),
        record {
          plain = read.3 ∙ left.plain;
          ready = inl first;
          flexible = flexible ∙ left.flexible;
          config = read.2 ∙ left.config;
          between = rw taken.3.0 at next.2;
          bytes = more.0;
          source = more.1;
          most = next.0;
          enough = rw taken.3.1 at next.1;
          are = ap (λ (s : State). records_from default_config next.0 s taken.0.2) taken.3.0 ∙ ap (records_from default_config next.0 b.state) taken.3.1;
        },
      );
}
