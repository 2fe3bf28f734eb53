-- A name is stored as its bytes, and zeros after them.
use Rattle.std.{proofs.Common.{◌≡◌, ℕ, ◌-◌, ◌≤◌, List, ◌++◌, length, drop, ap, ◌∙◌, arith, length-append, length-drop}, specs.Prelude.{replicate}, proofs.Math.Seq.{drop-append_seam}, proofs.lemmas.List.{length-replicate, drop-replicate}}

module _ (room : ℕ) (zeros bytes : List ℕ) (are_zeros : zeros ≡ replicate room 0) (fits : length bytes ≤ room) where
  pub name_room : length (bytes ++ drop (length bytes) zeros) ≡ room
  name_room =
      let zeros_len = ap length are_zeros ∙ length-replicate {A = ℕ} room 0 in
      simp (length-append, length-drop) (omega arith)

  pub name_zeros : drop (length bytes) (bytes ++ drop (length bytes) zeros) ≡ replicate (room - length bytes) 0
  name_zeros =
      drop-append_seam bytes (drop (length bytes) zeros)
      ∙ (ap (λ (zs : List ℕ). drop (length bytes) zs) are_zeros ∙ drop-replicate {X = ℕ} (length bytes) room 0)
