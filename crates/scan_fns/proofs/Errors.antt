-- The error that a `?` passes on.
use Rattle.std.{proofs.Common.{◌≡◌, refl, ℕ, List, ℤ, pos, Vec, Ok, Err, Result}, specs.Result.{IsErr, IsErrAnd}}
use Rattle.arrays_core.{specs.declared.item.Kind.{Kind}, specs.declared.fault.ApplyFault.{ApplyFault}, specs.declared.fault.ApplyFault.TheVariants.{Kind as KindFault, NoMemory}, specs.declared.item.ItemType.TheVariants.{Nums}, specs.Arrays.{ArrayValue, IsAnswerTo, with_items}}
use Rattle.{item_fns.specs.NumberLists.{IsListAnswerTo, number_items}, scan_fns.specs.LinearScan.{run_to, FailsAt, HasRead}}

-- an error among the numbers read is the error of the whole; else memory was short
pub fault_passed : {G : Type 0} (fold : List ℤ → Result ℤ Kind) (zs : List ℤ) (stride count : ℕ) (wanted : Result (List ℤ) Kind) (fault : ApplyFault) (r : Result (Vec ℤ G) ApplyFault)
    → ((k : Kind) → FailsAt (λ place. fold (run_to (pos 0) zs stride count place)) zs k → wanted ≡ Err k)
    → HasRead {G = G} fold zs stride count (Err fault) → IsErr r × IsErrAnd r (λ e. e ≡ fault) → IsListAnswerTo wanted r
fault_passed fold zs stride count wanted fault (Ok v) same is h = absurd h.1
fault_passed fold zs stride count wanted (KindFault k) (Err e) same is h = rw h.1 (same k is)
fault_passed fold zs stride count wanted NoMemory (Err e) same is h = rw h.1 tt

-- the error of the list becomes the error of the array; else memory was short
pub array_fault : (G : Type 0) (wanted : Result (List ℤ) Kind) (shape : List ℕ) (fault : ApplyFault) (r : Result ArrayValue ApplyFault)
    → IsListAnswerTo {G = G} wanted (Err fault) → IsErr r × IsErrAnd r (λ e. e ≡ fault) → IsAnswerTo (with_items Nums shape (number_items wanted)) r
array_fault G wanted shape fault (Ok a) is h = absurd h.1
array_fault G wanted shape (KindFault k) (Err e) is h = rw h.1 (rw is refl)
array_fault G wanted shape NoMemory (Err e) is h = rw h.1 tt
