-- Bytes of sources and sinks, one call after the other.
use Rattle.std.{proofs.Common.{◌≡◌, ℕ, List, [], ◌++◌, take, Option, Some, None, refl, sym, ap, ◌∙◌, append_assoc}, proofs.lemmas.List.{append-nil}, specs.Io.KnownBytes.{Appends, Consumes, Keeps}}

pub Appends-none : (a : Option (List ℕ)) → Appends a a []
Appends-none None = tt
Appends-none (Some xs) = sym (append-nil xs)

pub Appends-more : (a b c : Option (List ℕ)) (xs ys : List ℕ) → Appends a b xs → Appends b c ys → Appends a c (xs ++ ys)
Appends-more None b c xs ys p q = tt
Appends-more (Some a) None c xs ys p q = absurd p
Appends-more (Some a) (Some b) None xs ys p q = absurd q
Appends-more (Some a) (Some b) (Some c) xs ys p q = q ∙ ap (λ (t : List ℕ). t ++ ys) p ∙ append_assoc a xs ys

pub Appends-keeps : (a b c : Option (List ℕ)) (xs : List ℕ) → Appends a b xs → Keeps b c → Appends a c xs
Appends-keeps None b c xs p q = tt
Appends-keeps (Some a) None c xs p q = absurd p
Appends-keeps (Some a) (Some b) None xs p q = absurd q
Appends-keeps (Some a) (Some b) (Some c) xs p q = q ∙ p

pub Consumes-keeps : (a b c : Option (List ℕ)) (xs : List ℕ) → Consumes a b xs → Keeps b c → Consumes a c xs
Consumes-keeps None b c xs p q = tt
Consumes-keeps (Some a) None c xs p q = absurd p
Consumes-keeps (Some a) (Some b) None xs p q = absurd q
Consumes-keeps (Some a) (Some b) (Some c) xs p q = rw q p

pub Consumes-none : (a : Option (List ℕ)) → Consumes a a []
Consumes-none None = tt
Consumes-none (Some xs) = refl

pub Consumes-more : (a b c : Option (List ℕ)) (xs ys : List ℕ) → Consumes a b xs → Consumes b c ys → Consumes a c (xs ++ ys)
Consumes-more None b c xs ys p q = tt
Consumes-more (Some a) None c xs ys p q = absurd p
Consumes-more (Some a) (Some b) None xs ys p q = absurd q
Consumes-more (Some a) (Some b) (Some c) xs ys p q = p ∙ ap (λ (t : List ℕ). xs ++ t) q ∙ sym (append_assoc xs ys c)

pub Keeps-same : (a : Option (List ℕ)) → Keeps a a
Keeps-same None = tt
Keeps-same (Some xs) = refl

pub Consumes-zero : (a b : Option (List ℕ)) (n : ℕ) (xs : List ℕ) → n ≡ 0 → Consumes a b (take n xs) → Consumes a b []
Consumes-zero a b n xs e h = rw e at h
