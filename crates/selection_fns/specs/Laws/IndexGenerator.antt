-- The law of the index generator.
use Rattle.std.proofs.Common.{◌≡◌, ℕ, List, [], ◌∷◌, length, true, ap, arith, Ok, IsOk}
use Rattle.arrays_core.{specs.Arrays.{ArrayValue, IsArray}, specs.Shapes.{is_index_of}}
use Rattle.change_core.{specs.Tightness.{AllCovered, Each, IsTight, frames, items_read}, specs.Sourced.{uses_of_one}, specs.Ways.{unread}, proofs.UsedWays.{unread-covered}}
use Rattle.index_region.{specs.ArgumentLists.{of_one_argument}, specs.Checks.{Form}}
use Rattle.selection_fns.specs.IndexGenerator.{generator_form, generator_item, generator_rule}

-- the number is the same where the selector shows the same
pub generator_tight : IsTight generator_rule
generator_tight = record { settled = settled; determined = determined; covered = covered }
  where
    settled : (old new : List ArrayValue) → frames (true ∷ []) old ≡ frames (true ∷ []) new → IsOk (of_one_argument generator_form old) → IsOk (of_one_argument generator_form new)
        → of_one_argument generator_form old ≡ of_one_argument generator_form new
    settled (a ∷ []) (b ∷ []) same g k = ap (of_one_argument generator_form) same
    settled [] new same g k = absurd (let no : ⊥ = cc in no)
    settled (a ∷ x ∷ rest) new same g k = absurd (let no : ⊥ = cc in no)
    settled (a ∷ []) [] same g k = absurd (let no : ⊥ = cc in no)
    settled (a ∷ []) (b ∷ x ∷ rest) same g k = absurd (let no : ⊥ = cc in no)

    determined : (old new : List ArrayValue) (f : Form) (index : List ℕ) → length old ≡ 1 → length new ≡ 1 → Each IsArray new → frames (true ∷ []) old ≡ frames (true ∷ []) new → of_one_argument generator_form new ≡ Ok f → is_index_of f.shape index ≡ true
        → items_read old (uses_of_one (λ shape n. unread) f.shape new) index ≡ items_read new (uses_of_one (λ shape n. unread) f.shape new) index
        → of_one_argument (λ n. generator_item n index) old ≡ of_one_argument (λ n. generator_item n index) new
    determined (a ∷ []) (b ∷ []) f index m n sound same e place read = ap (of_one_argument (λ n. generator_item n index)) same
    determined [] new f index m n sound same e place read = absurd (omega arith)
    determined (a ∷ x ∷ rest) new f index m n sound same e place read = absurd (omega arith)
    determined (a ∷ []) [] f index m n sound same e place read = absurd (omega arith)
    determined (a ∷ []) (b ∷ x ∷ rest) f index m n sound same e place read = absurd (omega arith)

    covered : (args : List ArrayValue) (f : Form) → length args ≡ 1 → of_one_argument generator_form args ≡ Ok f → AllCovered f.shape args (uses_of_one (λ shape n. unread) f.shape args)
    covered (b ∷ []) f n e = (unread-covered b.shape f.shape, tt)
    covered [] f n e = absurd (omega arith)
    covered (b ∷ x ∷ rest) f n e = absurd (omega arith)
