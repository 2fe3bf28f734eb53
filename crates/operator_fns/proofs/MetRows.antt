-- A function of one number and each number of a row, in one call.
use Rattle.std.proofs.{Common.{◌≡◌, ◌∙◌, ℕ, [], ◌∷◌, List, ℤ, ap, sym, length, pos, Result, Ok}, lemmas.List.FromFn.{length-map-range_with_len}}
use Rattle.arrays_core.{specs.declared.item.Kind.{Kind}, specs.Items.{all_or_first_error}}
use Rattle.item_fns.{specs.NumberLists.{number_at, results_by}, proofs.Lists.{number_at_own}}
use Rattle.{reduce_fns.{proofs.Firsts.{rule_entry}, proofs.ListResults.{as_many_as}}, operator_fns.specs.RowFolds.{AreMet}}

pub are_met : (g : ℤ → ℤ → Result ℤ Kind) (x : ℤ) (row met : List ℤ) → all_or_first_error (results_by g (x ∷ []) row) ≡ Ok met → AreMet g x row met
are_met g x row met h =
    let rule = λ (k : ℕ). g (number_at (x ∷ []) k) (number_at row k) in
    record {
      long = as_many_as (results_by g (x ∷ []) row) met h ∙ length-map-range_with_len rule 0 (length row);
      each = λ column inside. ap (g x) (sym (number_at_own row column inside)) ∙ rule_entry rule (length row) met column (pos 0) h inside;
    }
