use Rattle.std.{proofs.Common.{◌≡◌, refl, ◌*◌, sym, length, arith}, specs.Prelude.{string_bytes}, proofs.lemmas.Bool.{eqb-true}, proofs.lemmas.List.{append-nil}}
use Rattle.array_text.{specs.Text.{part_of, line_end}, proofs.Writing.{grown_twice, join_by-range_step, part_width, planes_none, planes_some}}
use Rattle.array_text.proofs.planes.push_planes.Goals as goal

pub returns-then-is_empty : goal.returns-then-is_empty
returns-then-is_empty g c =
    let plane = g.T.Printed.plane c.args.rows c.args.columns in
    let none = eqb-true (length c.args.items.now) 0 (sym c.if-is_empty.ensures) in
    rw (planes_none plane c.args.count (c.args.rows * c.args.columns) c.args.items.now none, append-nil (string_bytes c.args.out.now)) refl

pub loop-part-preserved : goal.loop-part-preserved
loop-part-preserved g c =
    let size = c.args.rows * c.args.columns in
    let plane = g.T.Printed.plane c.args.rows c.args.columns in
    grown_twice _ _ _ _ _ _ _ _ (rw part_width at c.in_ok-push_plane.ensures) c.in_ok-push_line_between.ensures c.loop-part.invariant
    (join_by-range_step (λ part. plane (part_of size part c.args.items.now)) line_end c.loop-part.part)

pub returns : goal.returns
returns g c =
    let all : c.loop-part.part ≡ c.args.count = omega arith in
    let plane = g.T.Printed.plane c.args.rows c.args.columns in
    rw (planes_some plane c.args.count (c.args.rows * c.args.columns) c.args.items.now (sym c.if-is_empty.ensures), ← all) c.loop-part.invariant
