use Rattle.std.{proofs.Common.{◌≡◌, ◌≤◌, ◌-◌, length, take, min, arith, ◌∙◌}, specs.Result.{IsOk}, proofs.lemmas.List.{length-take}}
use Rattle.sheet_cli.{specs.Progress.{most_kept}, proofs.Cuts.{take-room, appended}}
use Rattle.sheet_cli.proofs.line_buffer.OpenLine.append.Goals as goal

pub returns : goal.returns
returns c =
    let own = c.args.self.now in
    let more = c.args.bytes.now in
    let few : length own ≤ most_kept = grind arith in
    let room : c.min-room.result ≡ min (most_kept - length own) (length more) = grind arith in
    let fits : IsOk c.extend_from_slice.result = c.extend_from_slice.ensures.succeeds (grind (arith, length-take)) in
    appended c.extend_from_slice.result own (take c.min-room.result more) _ fits (rw (← c.self.view_is) c.extend_from_slice.ensures.items) ∙ take-room most_kept c.min-room.result own more few room
