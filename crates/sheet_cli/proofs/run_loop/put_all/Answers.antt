use Rattle.{std.{proofs.Common.{◌++◌, take, drop, append_assoc}, proofs.lemmas.List.{take_rest, take-append-drop}}, sheet_cli.proofs.Devices.{Appends-more}}
use Rattle.sheet_cli.proofs.run_loop.put_all.Goals as goal

pub loop-rest-preserved : goal.loop-rest-preserved
loop-rest-preserved g c =
    let rest = c.loop-rest.rest.now in
    let n = c.in_ok-n.n in
    let front = c.loop-rest.invariant.0 in (
      front ++ take n rest,
      rw (take_rest rest n, append_assoc front (take n rest) (drop n rest), take-append-drop n rest) c.loop-rest.invariant.1,
      Appends-more _ _ _ _ _ c.loop-rest.invariant.2 c.in_ok-n.ensures.bytes,
    )
