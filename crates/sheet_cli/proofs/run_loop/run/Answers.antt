use Rattle.std.{proofs.Common.{◌≡◌, ◌<◌, ◌∙◌, inl, inr, arith, length, take}, proofs.lemmas.List.{length-take-le, length-take}, proofs.Math.Bool.{or-true}}
use Rattle.sheet_cli.{proofs.Devices.{Keeps-same, Consumes-zero}, proofs.RunLemmas.{IsRunning-start, IsRunning-more, Completes-from, BreaksOff-from, IsCut-midway, IsCut-end}}
use Rattle.sheet_cli.proofs.run_loop.run.Goals as goal

pub loop-bytes_read-init : goal.loop-bytes_read-init
loop-bytes_read-init g c =
    let e = c.in-Ok.ensures in
    IsRunning-start _ _ _ _ _ e.0 e.1

pub loop-bytes_read-preserved : goal.loop-bytes_read-preserved
loop-bytes_read-preserved g c =
    let p = c.in-Ok-pull.ensures in
    let fed = c.in-Ok-take_bytes.ensures in
    let len : length (take c.in-Ok-pull.n c.pull.new.into) ≡ c.in-Ok-pull.n = length-take-le c.in-Ok-pull.n c.pull.new.into (omega (arith, p.bound)) in
    IsRunning-more _ _ _ _ _ _ _ _ _ _ _ _ fed.ok.0 c.loop-bytes_read.invariant p.bytes.0 fed.ok.1 len (omega (arith, fed.lines, len)) (omega (arith, fed.refused, len)) fed.ok.2

pub returns-in_default-pull-clause-read : goal.returns-in_default-pull-clause-read
returns-in_default-pull-clause-read g c = λ e.
    let p = c.in_default-pull.ensures in
    BreaksOff-from _ _ _ _ _ _ _ _ _ c.loop-bytes_read.invariant p.bytes (inl (p.fault ∙ or-true _))

pub returns-clause-read : goal.returns-clause-read
returns-clause-read g c = λ e. BreaksOff-from _ _ _ _ _ _ _ _ _ c.loop-bytes_read.invariant (Keeps-same _) (inr (omega arith))

pub returns-then-n-eq0-clause-ok : goal.returns-then-n-eq0-clause-ok
returns-then-n-eq0-clause-ok g c =
    let p = c.in-Ok-pull.ensures in
    let f = c.in-Ok-finish.ensures.ok in
    let room : 0 < length c.pull.new.into = omega (arith, length-take c.min-room.result c.loop-bytes_read.chunk, c.min-room.array_long) in
    Completes-from _ _ _ _ _ _ _ _ _ f.0 _ _ c.loop-bytes_read.invariant (Consumes-zero _ _ c.in-Ok-pull.n c.pull.new.into c.if-n-eq0.true p.bytes.0) (p.bytes.1 c.if-n-eq0.true room) f.1 f.2

pub returns-in_default-finish-clause-write : goal.returns-in_default-finish-clause-write
returns-in_default-finish-clause-write g c = λ e.
    let p = c.in-Ok-pull.ensures in
    let f = c.in_default-finish.ensures in
    let room : 0 < length c.pull.new.into = omega (arith, length-take c.min-room.result c.loop-bytes_read.chunk, c.min-room.array_long) in
    IsCut-end _ _ _ _ _ _ _ _ _ _ f.err.0 _ c.loop-bytes_read.invariant (Consumes-zero _ _ c.in-Ok-pull.n c.pull.new.into c.if-n-eq0.true p.bytes.0) (p.bytes.1 c.if-n-eq0.true room) f.err.1 f.fault f.err.2

pub returns-in_default-take_bytes-clause-write : goal.returns-in_default-take_bytes-clause-write
returns-in_default-take_bytes-clause-write g c = λ e.
    let p = c.in-Ok-pull.ensures in
    let f = c.in_default-take_bytes.ensures in
    IsCut-midway _ _ _ _ _ _ _ _ _ _ _ f.err.0 _ c.loop-bytes_read.invariant p.bytes.0 f.err.1 f.fault f.err.2
