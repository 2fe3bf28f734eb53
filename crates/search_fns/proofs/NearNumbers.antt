-- Numbers so near 0 that one more digit keeps them within 64 bits.
use Rattle.std.{proofs.Common.{◌≡◌, ◌+◌, ◌*◌, ◌%◌, ◌^◌, ◌<◌, ◌≤◌, ℕ, ℤ, pos, negsuc, ◌+ℤ◌, of_z, to_z, SFits, w64, Ok, ap, sym, ◌∙◌, arith}, proofs.lemmas.Int.{to_z-of_z}, proofs.lemmas.Nat.{mul-le}}
use Rattle.{arrays_core.specs.Items.{and_then}, item_fns.{specs.Numbers.{number_or_limit}, proofs.Within.{held}}, search_fns.specs.DecodedRows.{with_one_more}}

fits_below : (n : ℕ) → n < 2 ^ 63 → SFits w64 (pos n)
fits_below n h = record { sfits = h }

-- the machine's sum of a product and a digit
pub near_more : (z d : ℤ) (r : ℕ) → SFits w64 z → SFits w64 d → r < 2 ^ 32 → of_z w64 z < 2 ^ 31 → of_z w64 d < 2 ^ 31
    → with_one_more z (pos r) d ≡ Ok (to_z w64 ((of_z w64 z % 2147483648 * r + of_z w64 d) % 2 ^ 64))
near_more (negsuc n) d r f g few near small = absurd (let h = f.sfits in omega arith)
near_more (pos n) (negsuc d) r f g few near small = absurd (let h = g.sfits in omega arith)
near_more (pos n) (pos d) r f g few near small =
    let high : n * r ≤ 2147483647 * 4294967295 = mul-le n r 2147483647 4294967295 (omega arith) (omega arith) in
    let below : n % 2147483648 ≡ n = omega arith in
    let value : (n % 2147483648 * r + d) % 2 ^ 64 ≡ n * r + d = rw below (omega arith) in
    ap (λ q. and_then q (λ product. number_or_limit (product +ℤ pos d))) (held (pos (n * r)) (fits_below (n * r) (omega arith)))
    ∙ held (pos (n * r + d)) (fits_below (n * r + d) (omega arith))
    ∙ ap Ok (sym (ap (to_z w64) value ∙ to_z-of_z w64 (pos (n * r + d)) (fits_below (n * r + d) (omega arith))))
