-- The error that a `?` passes on.
use Rattle.std.{proofs.Common.{◌≡◌, ap, Ok, Err, Result, ℤ, List, Vec}, specs.Result.{IsErr, IsErrAnd}}
use Rattle.arrays_core.{specs.declared.item.Kind.{Kind}, specs.declared.fault.ApplyFault.{ApplyFault}, specs.declared.fault.ApplyFault.TheVariants.{Kind as KindFault}}
use Rattle.item_fns.specs.NumberLists.{IsListAnswerTo}

pub passed_on : {A : Type 0} (r : Result A Kind) (k : Kind) → IsErr r × IsErrAnd r (λ e. e ≡ k) → r ≡ Err k
passed_on (Ok x) k h = absurd h.1
passed_on (Err e) k h = ap Err h.1

pub list_error : {G : Type 0} (wanted : Result (List ℤ) Kind) (k : Kind) (r : Result (Vec ℤ G) ApplyFault) → wanted ≡ Err k
    → IsErr r × IsErrAnd r (λ e. e ≡ KindFault k) → IsListAnswerTo wanted r
list_error wanted k (Ok v) e h = absurd h.1
list_error wanted k (Err f) e h = rw h.1 e
