use Rattle.arrays_core.proofs.Rooms.{roomy_of}
use Rattle.arrays_core.proofs.room.room_of.Goals as goal

pub returns-clause-roomy : goal.returns-clause-roomy
returns-clause-roomy c few = roomy_of _ _ (c.next_power_of_two.ensures.power, c.next_power_of_two.ensures.lower_bound, c.next_power_of_two.ensures.upper_bound)
