-- Lines of a listing, one more.
use Rattle.std.proofs.Common.{◌≡◌, ℕ, ◌+◌, ◌<◌, ◌≤◌, List, [], ◌∷◌, ◌++◌, length, get_or, take, drop, sym, ap, ◌∙◌, append_assoc}
use Rattle.std.specs.List.{enumerate_from, flat_map}
use Rattle.std.proofs.Math.ListN.{drop_of_length-le}
use Rattle.std.proofs.lemmas.List.{append-nil}
use Rattle.std.proofs.lemmas.List.Concat.{flat_map-append}
use Rattle.ap_asm.proofs.Besides.{drop_at, take_at}

-- the lines so far
pub lines_more : (f : ℕ → List ℕ) (xs : List ℕ) (i x : ℕ) (begin old new : List ℕ) → i < length xs → x ≡ get_or xs i 0 → old ≡ begin ++ flat_map f (take i xs) → new ≡ old ++ f x → new ≡ begin ++ flat_map f (take (i + 1) xs)
lines_more f xs i x begin old new lt at before e =
    e ∙ ap (λ ys. ys ++ f x) before ∙ append_assoc begin (flat_map f (take i xs)) (f x)
    ∙ ap (λ ys. begin ++ ys) (ap (λ y. flat_map f (take i xs) ++ f y) at ∙ ap (λ ys. flat_map f (take i xs) ++ ys) (sym (append-nil (f (get_or xs i 0)))) ∙ sym (ap (flat_map f) (take_at xs i 0 lt) ∙ flat_map-append f (take i xs) (get_or xs i 0 ∷ [])))

-- the lines so far, and those that are left
pub numbered_more : (f : ℕ × ℕ → List ℕ) (xs : List ℕ) (i x : ℕ) (old new whole : List ℕ) → i < length xs → x ≡ get_or xs i 0 → old ++ flat_map f (enumerate_from i (drop i xs)) ≡ whole → new ≡ old ++ f (i, x)
    → new ++ flat_map f (enumerate_from (i + 1) (drop (i + 1) xs)) ≡ whole
numbered_more f xs i x old new whole lt at before e =
    ap (λ ys. ys ++ flat_map f (enumerate_from (i + 1) (drop (i + 1) xs))) (e ∙ ap (λ y. old ++ f (i, y)) at) ∙ append_assoc old (f (i, get_or xs i 0)) (flat_map f (enumerate_from (i + 1) (drop (i + 1) xs)))
    ∙ ap (λ ys. old ++ ys) (sym (ap (λ ys. flat_map f (enumerate_from i ys)) (drop_at xs i 0 lt))) ∙ before

pub numbered_done : (f : ℕ × ℕ → List ℕ) (xs : List ℕ) (i : ℕ) (old whole : List ℕ) → length xs ≤ i → old ++ flat_map f (enumerate_from i (drop i xs)) ≡ whole → old ≡ whole
numbered_done f xs i old whole le before = sym (append-nil old) ∙ ap (λ ys. old ++ flat_map f (enumerate_from i ys)) (sym (drop_of_length-le xs le)) ∙ before
