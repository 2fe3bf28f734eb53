use Rattle.std.{proofs.Common.{List, ℕ, Result, Ok, Err, subst, sym, rules}, specs.Result.{IsOk, MatchResult}, specs.Str.{IsUtf8}, proofs.lemmas.Str.{IsUtf8-from_is_utf8}}
use Rattle.names.proofs.name.Name.text.Goals as goal

is_ok : {T E : Type 0} (P : T → Type 0) (Q : E → Type 0) (U : Type 0) (r : Result T E) → MatchResult r (λ s. P s × U) (λ e. ¬ U × Q e) → U → IsOk r
is_ok P Q U (Ok s) given holds = search rules
is_ok P Q U (Err e) given holds = absurd (given.0 holds)

pub unwrap-requires : goal.unwrap-requires
unwrap-requires c =
    is_ok _ _ (IsUtf8 c.bytes.result.now) c.from_utf8.result c.from_utf8.ensures.cases
    (subst (λ (xs : List ℕ). IsUtf8 xs) (sym c.bytes.ensures.bytes) (IsUtf8-from_is_utf8 c.args.self.now c.bytes.ensures.utf8))
