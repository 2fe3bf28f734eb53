use Rattle.sheet_recalc.proofs.growth.growth_with.Goals as goal

pub larger_map-requires-2 : goal.larger_map-requires-2
larger_map-requires-2 c = c.len-2.ensures.small
