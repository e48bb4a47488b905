-- The pieces from a place on.
use Rattle.std.proofs.Common.{◌≡◌, ℕ, ◌-◌, ◌<◌, List, [], length, length-drop, take, drop, sym, ap, ◌∙◌, arith}
use Rattle.std.proofs.Math.Seq.{take-length}
use Rattle.std.specs.Borrow.{Bor}
use Rattle.std.proofs.Math.ListN.{length-map, drop_of_length-le}
use Rattle.std.proofs.lemmas.List.{drop-map}
use Rattle.ap_vr.specs.Pieces.{texts}

pub texts_after : (pieces : List (Bor (List ℕ))) (n : ℕ) → texts (drop n pieces) ≡ drop n (texts pieces)
texts_after pieces n = sym (drop-map (λ (piece : Bor (List ℕ)). piece.now) n pieces)

pub nothing_after : (pieces : List (Bor (List ℕ))) (n : ℕ) → length pieces < n → drop n (texts pieces) ≡ []
nothing_after pieces n h = drop_of_length-le (texts pieces) (let e : length (texts pieces) ≡ length pieces = simp length-map in omega (arith, h, e))

-- what a slice from a place on is
pub rest_texts : (pieces : List (Bor (List ℕ))) (n : ℕ) → texts (take (length pieces - n) (drop n pieces)) ≡ texts (drop n pieces)
rest_texts pieces n = ap texts (ap (λ k. take k (drop n pieces)) (sym (length-drop n pieces)) ∙ take-length (drop n pieces))

pub rest_after : (pieces : List (Bor (List ℕ))) (n : ℕ) → texts (take (length pieces - n) (drop n pieces)) ≡ drop n (texts pieces)
rest_after pieces n = rest_texts pieces n ∙ texts_after pieces n
