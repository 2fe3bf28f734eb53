-- The law of change for ⌽B.
use Rattle.std.proofs.Common.{length, refl, arith}
use Rattle.function_names.{specs.declared.along.Along.{Along}, specs.Axes.{axis_at}}
use Rattle.index_region.specs.Axes.{places_along}
use Rattle.change_core.{specs.Tightness.{IsTight}, proofs.Sourced.{one_sourced-tight}, proofs.UsedWays.{within-set}}
use Rattle.structural_fns.specs.Reverse.{reverse_form, reverse_source, reversed, reverse_box, reverse_rule}

pub reverse_tight : (along : Along) → IsTight (reverse_rule along)
reverse_tight along =
    one_sourced-tight (reverse_form along) (reverse_source along) (λ shape b. reverse_box along b) (λ d xs n. refl) (λ d xs index n. refl) (λ b index. refl)
    (λ b f e region index fit place.
    let axis = axis_at (length b.shape) along in
    (within-set 1 axis _ (reversed (places_along b.shape axis)) b.shape region index fit (λ l s low k u. (omega arith, omega arith)), tt))
