-- The value of a device in contracts.
use Rattle.std.specs.Prelude.{Bool}

-- the reader or writer, whether a call has failed, and whether all bytes are flushed
pub record DeviceValue (T : Type 0) : Type 0 where
  pub stream : T
  pub has_failed : Bool
  pub is_flushed : Bool
