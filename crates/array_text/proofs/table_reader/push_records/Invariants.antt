use Rattle.{std.proofs.Common.{Bor, List, ℕ, Some, ◌≤◌}, array_text.{specs.Reading.{AreLeft}, specs.Tables.{Fields}, proofs.Tables.{Stands}}}
use Rattle.array_text.proofs.table_reader.push_records.Given as goal

abbrev pub invariant-loop-count : goal.invariant-loop-count
invariant-loop-count l = record {
  stands : (all : List Fields) → AreLeft (λ (s : Bor (List ℕ)). Some s.now) l.fn.reader all
      → (rest : List Fields) × AreLeft (λ (s : Bor (List ℕ)). Some s.now) l.reader rest × Stands l.header all l.columns l.count l.numbers.items rest;
  some : 1 ≤ l.count;
}
