-- What nets are, in a list as far as a loop has come.
use Rattle.std.proofs.Common.{◌≡◌, ℕ, ◌+◌, ◌<◌, ◌≤◌, List, [], ◌∷◌, ◌++◌, length, map, take, get_or, sym, ap, ◌∙◌, append_assoc}
use Rattle.std.proofs.lemmas.List.{map-append, take_all, take_more}

module _ {X Y : Type 0} (f : X → Y) (xs : List X) (old : List Y) where
  -- one more
  pub mapped_more : (now new : List Y) (i : ℕ) (x : X) → now ≡ old ++ map f (take i xs) → i < length xs → x ≡ get_or xs i x → new ≡ now ++ f x ∷ [] → new ≡ old ++ map f (take (i + 1) xs)
  mapped_more now new i x was lt at pushed =
      pushed ∙ ap (λ l. l ++ f x ∷ []) was ∙ append_assoc old (map f (take i xs)) (f x ∷ [])
      ∙ sym (ap (λ l. old ++ l) (ap (map f) (take_more xs i x lt ∙ ap (λ y. take i xs ++ y ∷ []) (sym at)) ∙ map-append f (take i xs) (x ∷ [])))

  -- all of them
  pub mapped_all : (now : List Y) (i : ℕ) → now ≡ old ++ map f (take i xs) → length xs ≤ i → now ≡ old ++ map f xs
  mapped_all now i was le = was ∙ ap (λ l. old ++ map f l) (take_all i xs le)
