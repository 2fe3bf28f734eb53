use Rattle.std.{proofs.Common.{◌≡◌, [], ◌++◌, ◌+◌, length, take, drop, refl, sym, ◌∙◌, arith, append_assoc, length-append}, proofs.lemmas.List.{take_rest, take-append-drop, append-nil, length-take-le, nil_from_length}, proofs.lemmas.Bool.{eqb-true}}
use Rattle.sheet_cli.{proofs.Devices.{Appends-none, Appends-more}, proofs.RunLemmas.{Feeds-is, Feeds-none, Feeds-more, StopsIn-is, StopsIn-more, OnErr-from}}
use Rattle.sheet_cli.proofs.run_loop.take_bytes.Goals as goal

pub loop-rest-init : goal.loop-rest-init
loop-rest-init g c = ([], [], refl, Appends-none _, Feeds-none _, omega arith, omega arith)

pub loop-rest-preserved : goal.loop-rest-preserved
loop-rest-preserved g c =
    let rest = c.loop-rest.rest.now in
    let n = c.in_ok-n.n in
    let i = c.loop-rest.invariant in
    let front = i.0 in
    let fed = c.in_ok-n.ensures in
    let long : length (front ++ take n rest) ≡ length front + n = length-append front (take n rest) ∙ rw (length-take-le n rest fed.taken.0) refl in (
      front ++ take n rest,
      i.1 ++ fed.ok.0,
      rw (take_rest rest n, append_assoc front (take n rest) (drop n rest), take-append-drop n rest) i.2,
      Appends-more _ _ _ _ _ i.3 fed.ok.1,
      Feeds-more front (take n rest) i.1 fed.ok.0 _ _ _ i.4 fed.ok.2,
      omega (arith, long, fed.lines, i.5),
      omega (arith, long, fed.refused, i.6),
    )

pub returns-in_err-n-clause-err : goal.returns-in_err-n-clause-err
returns-in_err-n-clause-err g c =
    let i = c.loop-rest.invariant in
    let a = c.in_err-n.ensures.err in
    OnErr-from c.from_residual.result (i.1 ++ a.0, Appends-more _ _ _ _ _ i.3 a.1, StopsIn-is (i.0 ++ c.loop-rest.rest.now) _ (i.1 ++ a.0) _ _ i.2 (StopsIn-more i.0 c.loop-rest.rest.now i.1 a.0 _ _ _ i.4 a.2))

pub returns-clause-ok : goal.returns-clause-ok
returns-clause-ok g c =
    let i = c.loop-rest.invariant in
    let none : c.loop-rest.rest.now ≡ [] = nil_from_length c.loop-rest.rest.now (eqb-true (length c.loop-rest.rest.now) 0 (sym c.loop-rest-test.ensures)) in
    (i.1, i.3, Feeds-is i.0 _ i.1 _ _ (rw (none, append-nil) at i.2) i.4)
