use Rattle.std.{proofs.Common.{◌≡◌, [], ◌∷◌, ◌++◌, ◌+◌, ◌∙◌, List, ℕ, length, take, drop, sym, ap}, proofs.lemmas.Bool.{eqb-true}, proofs.lemmas.List.{nil_from_length, take-append-drop}, proofs.Math.Seq.{take-length}}
use Rattle.sheet_cli.{specs.Progress.{most_kept, line_after}, proofs.Cuts.{take-lf}, proofs.Devices.{Appends-none}, proofs.RunLemmas.{Feeds-is, Feeds-piece, Feeds-line, Feeds-more, StopsIn-is, StopsIn-line, StopsIn-more, StopsIn-later, OnErr-from}}
use Rattle.sheet_cli.proofs.run_loop.take_piece.Goals as goal

pub returns-in_default-clause-ok : goal.returns-in_default-clause-ok
returns-in_default-clause-ok g c = ([], Appends-none _, Feeds-is c.args.bytes.now _ [] _ _ (take-length c.args.bytes.now) (Feeds-piece c.args.bytes.now _ _ _ _ c.in_default.ensures c.append.ensures))

pub returns-then-is_empty-clause-ok : goal.returns-then-is_empty-clause-ok
returns-then-is_empty-clause-ok g c =
    let bytes = c.args.bytes.now in
    let found = c.in-Some.ensures in
    let piece = take c.in-Some.end bytes in
    let none : c.args.progress.now.open_line ≡ [] = sym c.as_slice.ensures ∙ nil_from_length _ (eqb-true (length c.as_slice.result.now) 0 (sym c.if-is_empty.ensures)) in
    let kept : c.kept_of.result.now ≡ take most_kept (c.args.progress.now.open_line ++ piece) = c.kept_of.ensures ∙ ap (λ (o : List ℕ). take most_kept (o ++ piece)) (sym none) in
    let a = c.in_ok-answer_line.ensures.ok in
    let fed = Feeds-line _ _ _ _ _ _ _ _ none c.in_ok-answer_line.ensures.lines c.stripped-line.ensures a.2 in
    (a.0, a.1, Feeds-is (piece ++ 10 ∷ []) _ a.0 _ _ (take-lf bytes c.in-Some.end found.0 found.2) (Feeds-more piece (10 ∷ []) [] a.0 _ _ _ (Feeds-piece piece _ c.kept_of.result.now _ _ found.1 kept) fed))

pub returns-in_err-answer_line-clause-err : goal.returns-in_err-answer_line-clause-err
returns-in_err-answer_line-clause-err g c =
    let bytes = c.args.bytes.now in
    let found = c.in-Some.ensures in
    let piece = take c.in-Some.end bytes in
    let later = drop (c.in-Some.end + 1) bytes in
    let all : bytes ≡ (piece ++ 10 ∷ []) ++ later = rw (← take-lf bytes c.in-Some.end found.0 found.2) (sym (take-append-drop (c.in-Some.end + 1) bytes)) in
    let none : c.args.progress.now.open_line ≡ [] = sym c.as_slice.ensures ∙ nil_from_length _ (eqb-true (length c.as_slice.result.now) 0 (sym c.if-is_empty.ensures)) in
    let kept : c.kept_of.result.now ≡ take most_kept (c.args.progress.now.open_line ++ piece) = c.kept_of.ensures ∙ ap (λ (o : List ℕ). take most_kept (o ++ piece)) (sym none) in
    let a = c.in_err-answer_line.ensures.err in
    let stopped = StopsIn-line _ _ _ a.1 _ _ _ _ c.stripped-line.ensures a.3 in
    OnErr-from c.from_residual.result (
      a.0,
      a.2,
      StopsIn-is ((piece ++ 10 ∷ []) ++ later) bytes a.0 _ _ all
          (StopsIn-later (piece ++ 10 ∷ []) later a.0 _ _ (StopsIn-more piece (10 ∷ []) [] a.0 _ _ _ (Feeds-piece piece _ c.kept_of.result.now _ _ found.1 kept) stopped)),
    )

pub returns-in_err-answer_line-2-clause-err : goal.returns-in_err-answer_line-2-clause-err
returns-in_err-answer_line-2-clause-err g c =
    let bytes = c.args.bytes.now in
    let found = c.in-Some.ensures in
    let piece = take c.in-Some.end bytes in
    let later = drop (c.in-Some.end + 1) bytes in
    let all : bytes ≡ (piece ++ 10 ∷ []) ++ later = rw (← take-lf bytes c.in-Some.end found.0 found.2) (sym (take-append-drop (c.in-Some.end + 1) bytes)) in
    let a = c.in_err-answer_line-2.ensures.err in
    let stopped = StopsIn-line _ _ _ a.1 _ _ _ _ (c.stripped-line-2.ensures ∙ ap (line_after c.args.progress.now.tally.lines) c.as_slice-2.ensures) a.3 in
    OnErr-from c.from_residual-in_err-answer_line-2.result (
      a.0,
      a.2,
      StopsIn-is ((piece ++ 10 ∷ []) ++ later) bytes a.0 _ _ all
          (StopsIn-later (piece ++ 10 ∷ []) later a.0 _ _ (StopsIn-more piece (10 ∷ []) [] a.0 _ _ _ (Feeds-piece piece _ _ _ _ found.1 c.append-2.ensures) stopped)),
    )

pub returns-clause-ok : goal.returns-clause-ok
returns-clause-ok g c =
    let bytes = c.args.bytes.now in
    let found = c.in-Some.ensures in
    let piece = take c.in-Some.end bytes in
    let a = c.in_ok-answer_line-2.ensures.ok in
    let fed = Feeds-line _ _ _ _ _ _ _ _ c.clear.ensures c.in_ok-answer_line-2.ensures.lines (c.stripped-line-2.ensures ∙ ap (line_after c.args.progress.now.tally.lines) c.as_slice-2.ensures) a.2 in
    (a.0, a.1, Feeds-is (piece ++ 10 ∷ []) _ a.0 _ _ (take-lf bytes c.in-Some.end found.0 found.2) (Feeds-more piece (10 ∷ []) [] a.0 _ _ _ (Feeds-piece piece _ _ _ _ found.1 c.append-2.ensures) fed))
