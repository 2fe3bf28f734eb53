-- A name is stored as its bytes and zeros.
use Rattle.std.{specs.Prelude.{◌≡◌, ℕ, ◌-◌, ◌≤◌, true, List, [], ◌++◌, length, take, drop, replicate}, specs.Str.{is_utf8}, proofs.Common.{sym, ◌∙◌, ap, arith}, proofs.lemmas.List.{length-take-le, take-append-drop}}
use Rattle.names.{specs.Limits.{longest_name}, specs.declared.name.Name.TheInside.{Inside}}

-- a stored name: its bytes, and then zeros
abbrev pub stored : List ℕ → Inside
stored bytes = record { bytes = bytes ++ replicate (longest_name - length bytes) 0; len = length bytes; words = [] }

-- all bytes are present: UTF-8 up to the length, zeros after it; the array of words is empty
abbrev pub IsStored : Inside → Type 0
IsStored a = (a.len ≤ longest_name) × (length a.bytes ≡ longest_name) × (drop a.len a.bytes ≡ replicate (longest_name - a.len) 0) × (is_utf8 (take a.len a.bytes) ≡ true) × (a.words ≡ [])

-- to store a name again gives the same name
pub stored_again : (a : Inside) → IsStored a → stored (take a.len a.bytes) ≡ a
stored_again a h =
    let n : length (take a.len a.bytes) ≡ a.len = length-take-le a.len a.bytes (omega arith) in
    let b : take a.len a.bytes ++ replicate (longest_name - length (take a.len a.bytes)) 0 ≡ a.bytes =
    ap (λ k. take a.len a.bytes ++ replicate (longest_name - k) 0) n ∙ (ap (λ ys. take a.len a.bytes ++ ys) (sym h.2) ∙ take-append-drop a.len a.bytes) in
    ap (λ (p : List ℕ × ℕ × List ℕ). record { bytes = p.0; len = p.1; words = p.2 }) (λ j. (b j, n j, sym h.4 j))
