use Rattle.index_region.proofs.Patched.{on_first_axis}
use Rattle.index_region.proofs.index_box.+offset_and_size.Goals as goal

pub returns-clause-offset : goal.returns-clause-offset
returns-clause-offset t c = let rest = c.offset_and_size-offset.ensures in
    (on_first_axis _ _ _ _ _ _ _ _ c.in-Some.ensures.cases.0 c.in-Some-split_first.ensures.cases.0 c.requires.within rest.offset rest.size rest.below c.requires.size).is

pub returns-clause-size : goal.returns-clause-size
returns-clause-size t c = let rest = c.offset_and_size-offset.ensures in
    (on_first_axis _ _ _ _ _ _ _ _ c.in-Some.ensures.cases.0 c.in-Some-split_first.ensures.cases.0 c.requires.within rest.offset rest.size rest.below c.requires.size).size_is

pub returns-clause-below : goal.returns-clause-below
returns-clause-below t c = let rest = c.offset_and_size-offset.ensures in
    (on_first_axis _ _ _ _ _ _ _ _ c.in-Some.ensures.cases.0 c.in-Some-split_first.ensures.cases.0 c.requires.within rest.offset rest.size rest.below c.requires.size).below

pub overflow_sub-result : goal.overflow_sub-result
overflow_sub-result t c = let rest = c.offset_and_size-offset.ensures in
    (on_first_axis _ _ _ _ _ _ _ _ c.in-Some.ensures.cases.0 c.in-Some-split_first.ensures.cases.0 c.requires.within rest.offset rest.size rest.below c.requires.size).low

pub overflow_sub-result-2 : goal.overflow_sub-result-2
overflow_sub-result-2 t c = let rest = c.offset_and_size-offset.ensures in
    (on_first_axis _ _ _ _ _ _ _ _ c.in-Some.ensures.cases.0 c.in-Some-split_first.ensures.cases.0 c.requires.within rest.offset rest.size rest.below c.requires.size).filled

pub overflow_mul-result : goal.overflow_mul-result
overflow_mul-result t c = let rest = c.offset_and_size-offset.ensures in
    (on_first_axis _ _ _ _ _ _ _ _ c.in-Some.ensures.cases.0 c.in-Some-split_first.ensures.cases.0 c.requires.within rest.offset rest.size rest.below c.requires.size).rows_fit

pub overflow_add-result : goal.overflow_add-result
overflow_add-result t c = let rest = c.offset_and_size-offset.ensures in
    (on_first_axis _ _ _ _ _ _ _ _ c.in-Some.ensures.cases.0 c.in-Some-split_first.ensures.cases.0 c.requires.within rest.offset rest.size rest.below c.requires.size).place_fits

pub overflow_mul-result-2 : goal.overflow_mul-result-2
overflow_mul-result-2 t c = let rest = c.offset_and_size-offset.ensures in
    (on_first_axis _ _ _ _ _ _ _ _ c.in-Some.ensures.cases.0 c.in-Some-split_first.ensures.cases.0 c.requires.within rest.offset rest.size rest.below c.requires.size).size_fits
