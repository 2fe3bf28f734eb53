-- The tables of a sheet: its entries and their users, with spare room. No answer depends on them.
use Rattle.std.{specs.Prelude.{ℕ, List, Vec}, proofs.Common.{BuildHasherDefault, FoldHasher, Global}}
use Rattle.indexmap.specs.IndexMap.{IndexMap}
use Rattle.sheet_recalc.specs.declared.entry.Entry.{Entry}

abbrev pub Hasher : Type 0
Hasher = BuildHasherDefault FoldHasher

pub record Tables : Type 0 where
  pub entries : IndexMap (List ℕ) Entry Hasher
  pub users : IndexMap (List ℕ) (Vec (List ℕ) Global) Hasher
