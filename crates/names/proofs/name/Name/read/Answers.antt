use Rattle.std.proofs.lemmas.Str.{is_utf8-from_IsUtf8}
use Rattle.names.proofs.name.Name.read.Goals as goal

pub of_letters-requires : goal.of_letters-requires
of_letters-requires c = is_utf8-from_IsUtf8 c.as_bytes.result.now c.as_bytes.ensures.utf8
