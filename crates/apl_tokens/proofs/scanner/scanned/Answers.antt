use Rattle.std.{proofs.Common.{◌≡◌, ◌+◌, [], length, arith, sym, ap, ◌∙◌, subst}, specs.Str.{chars, IsUtf8}, specs.declared.str.Chars.{Chars}, proofs.lemmas.Result.{err_from_is_err_and}, proofs.lemmas.Str.{chars_past_char, IsUtf8-past_char}}
use Rattle.apl_tokens.{specs.Scanner.{scan, turn, Between, Goes}, specs.Scans.{with_front}, specs.Scanning.{all_spanned, prepended, scan_of, Finds, IsReading}, proofs.Walk.{bytes_of_next, stands, drop_next, front_of_none, no_characters, goes, fails, at_end}}
use Rattle.apl_tokens.proofs.scanner.scanned.Goals as goal

pub loop-c-init : goal.loop-c-init
loop-c-init c =
    let start : c.into_iter-c-iterator.result.rest.now ≡ c.args.text.now = ap (λ (i : Chars). i.rest.now) c.into_iter-c-iterator.ensures.into_iter_gives ∙ c.chars-c-items.ensures.rest in
    record {
      utf8 = subst IsUtf8 (sym start) c.utf8.text;
      byte = omega (arith, ap length start);
      left = c.as_bytes-bytes.ensures.value ∙ sym start;
      reading = tt;
      kept = (λ i. with_front (all_spanned (c.clear.ensures.items i)) (scan (chars (start i)) 0 Between)) ∙ front_of_none (scan (chars c.args.text.now) 0 Between);
    }

pub turn-requires : goal.turn-requires
turn-requires c =
    let next = bytes_of_next c.loop-c.c-iterator.rest.now c.next.new.self.rest.now c.in-Some.c c.in-Some.ensures.steps.0 in
    record {
      short = omega (arith, next, c.loop-c.invariant.byte, c.requires);
      within = omega (arith, next, c.loop-c.invariant.byte, ap length c.as_bytes-bytes.ensures.value);
      stands = stands c.as_bytes-bytes.result.now _ _ c.loop-c.at c.in-Some.c c.loop-c.invariant.left c.in-Some.ensures.steps.0;
      reading = c.loop-c.invariant.reading;
    }

pub overflow_add-at : goal.overflow_add-at
overflow_add-at c =
    let next = bytes_of_next c.loop-c.c-iterator.rest.now c.next.new.self.rest.now c.in-Some.c c.in-Some.ensures.steps.0 in
    omega (arith, next, c.loop-c.invariant.byte, c.requires, c.len_utf8-at.ensures.value)

pub returns-in_err-reading : goal.returns-in_err-reading
returns-in_err-reading c =
    let p = err_from_is_err_and c.from_residual.result c.from_residual.ensures.1 in
    let is = chars_past_char c.loop-c.c-iterator.rest.now c.next.new.self.rest.now c.in-Some.c c.loop-c.invariant.utf8 c.in-Some.ensures.steps.0 in
    fails c.as_bytes-bytes.result.now _ _ c.in-Some.c c.loop-c.at (scan_of c.as_bytes-bytes.result.now c.loop-c.at c.loop-c.reading) (all_spanned c.loop-c.out.items) _ is c.loop-c.invariant.kept c.turn.new.out.items c.from_residual.result c.in_err-reading.field-0.0 p.0 p.1 p.2 c.in_err-reading.ensures.turns

pub loop-c-preserved : goal.loop-c-preserved
loop-c-preserved c =
    let is = chars_past_char c.loop-c.c-iterator.rest.now c.next.new.self.rest.now c.in-Some.c c.loop-c.invariant.utf8 c.in-Some.ensures.steps.0 in
    let next = bytes_of_next c.loop-c.c-iterator.rest.now c.next.new.self.rest.now c.in-Some.c c.in-Some.ensures.steps.0 in
    record {
      utf8 = IsUtf8-past_char c.loop-c.c-iterator.rest.now c.next.new.self.rest.now c.in-Some.c c.loop-c.invariant.utf8 c.in-Some.ensures.steps.0;
      byte = omega (arith, next, c.loop-c.invariant.byte, c.len_utf8-at.ensures.value);
      left = drop_next c.as_bytes-bytes.result.now _ _ c.loop-c.at c.in-Some.c _ c.loop-c.invariant.left c.in-Some.ensures.steps.0 c.len_utf8-at.ensures.value;
      reading = subst (λ n. IsReading c.as_bytes-bytes.result.now (c.loop-c.at + n) c.in_ok-reading.reading) (sym c.len_utf8-at.ensures.value) c.in_ok-reading.ensures.reading;
      kept = goes c.as_bytes-bytes.result.now _ _ c.in-Some.c c.loop-c.at (scan_of c.as_bytes-bytes.result.now c.loop-c.at c.loop-c.reading) (all_spanned c.loop-c.out.items) _ is c.loop-c.invariant.kept (all_spanned c.turn.new.out.items) (scan_of c.as_bytes-bytes.result.now (c.loop-c.at + c.len_utf8-at.result) c.in_ok-reading.reading) _ (subst (λ n. prepended (all_spanned c.loop-c.out.items) (turn c.loop-c.at c.in-Some.c (scan_of c.as_bytes-bytes.result.now c.loop-c.at c.loop-c.reading)) ≡ Goes (all_spanned c.turn.new.out.items) (scan_of c.as_bytes-bytes.result.now (c.loop-c.at + n) c.in_ok-reading.reading)) (sym c.len_utf8-at.ensures.value) c.in_ok-reading.ensures.turns) (ap (λ n. c.loop-c.at + n) c.len_utf8-at.ensures.value);
    }

pub returns : goal.returns
returns c =
    let none : chars c.loop-c.c-iterator.rest.now ≡ [] = no_characters c.loop-c.c-iterator.rest.now c.in-None.ensures.steps.0.0 in
    subst (λ r. Finds c.ended.result c.ended.new.out.items r) (at_end _ c.loop-c.at (scan_of c.as_bytes-bytes.result.now c.loop-c.at c.loop-c.reading) (all_spanned c.loop-c.out.items) _ none c.loop-c.invariant.kept) c.ended.ensures
