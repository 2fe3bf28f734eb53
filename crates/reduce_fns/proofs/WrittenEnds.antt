-- Lists of numbers whose end is overwritten.
use Rattle.std.{proofs.Common.{◌≡◌, ℕ, ◌+◌, ◌-◌, List, [], ◌++◌, length, drop, take, ℤ, ap, sym, ◌∙◌, arith}, proofs.lemmas.List.{length-append, length-drop, take_at, take_all, drop_at, drop_all, append-nil}}

module _ (front back items : List ℤ) (is : items ≡ front ++ back) where
  pub front_is : (n : ℕ) → n ≡ length front → take n items ≡ front
  front_is n e = rw is (take_at front back n (sym e))

  pub back_is : (n : ℕ) → n ≡ length front → take (length items - n) (drop n items) ≡ back
  back_is n e =
      let rest : drop n items ≡ back = rw is (drop_at front back n (sym e)) in
      let long : length items ≡ length front + length back = ap length is ∙ length-append front back in
      rw rest (take_all (length items - n) back (omega arith))

  -- overwriting the end of a list
  pub written : (n : ℕ) (new other : List ℤ) (long : ℕ) → n ≡ length front → length new ≡ length back → long ≡ length items
      → take long ((take n items ++ (new ++ drop (length items - n) (drop n items))) ++ drop (length (take n items ++ (new ++ drop (length items - n) (drop n items)))) other)
      ≡ front ++ new
  written n new other long e same whole =
      let rest : drop (length items - n) (drop n items) ≡ [] = drop_all (length items - n) (drop n items) (omega (arith, length-drop n items)) in
      let inside : take n items ++ (new ++ drop (length items - n) (drop n items)) ≡ front ++ new =
      ap (λ a. a ++ (new ++ drop (length items - n) (drop n items))) (front_is n e) ∙ ap (λ r. front ++ (new ++ r)) rest ∙ ap (λ r. front ++ r) (append-nil new) in
      let parts : length items ≡ length front + length back = ap length is ∙ length-append front back in
      ap (λ w. take long (w ++ drop (length w) other)) inside
      ∙ take_at (front ++ new) (drop (length (front ++ new)) other) long (length-append front new ∙ omega arith)
