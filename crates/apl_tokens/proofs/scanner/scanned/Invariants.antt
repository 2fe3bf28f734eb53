use Rattle.std.{proofs.Common.{◌≡◌, ◌+◌, length, drop}, specs.Str.{chars, IsUtf8}}
use Rattle.apl_tokens.{specs.Scans.{with_front}, specs.Scanner.{scan, Between}, specs.Scanning.{all_spanned, scan_of, IsReading}}
use Rattle.apl_tokens.proofs.scanner.scanned.Given as goal

abbrev pub invariant-loop-c : goal.invariant-loop-c
invariant-loop-c l = record {
  utf8 : IsUtf8 l.c-iterator.rest.now;
  byte : l.at + length l.c-iterator.rest.now ≡ length l.text;
  left : drop l.at l.bytes ≡ l.c-iterator.rest.now;
  reading : IsReading l.bytes l.at l.reading;
  kept : with_front (all_spanned l.out.items) (scan (chars l.c-iterator.rest.now) l.at (scan_of l.bytes l.at l.reading)) ≡ scan (chars l.text) 0 Between;
}
