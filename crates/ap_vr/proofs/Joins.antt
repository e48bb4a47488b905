-- Connections that are read one after another.
use Rattle.std.proofs.Common.{◌≡◌, ℕ, ◌<◌, ◌≤◌, ◌-◌, get_or, take, drop, List, [], ◌∷◌, ◌++◌, length, Option, Some, None, refl, sym, ap, ◌∙◌, arith, append_assoc, append-nil}
use Rattle.std.specs.Prelude.{option_map}
use Rattle.std.specs.Borrow.{Bor}
use Rattle.std.proofs.Math.ListN.{length-map}
use Rattle.ap_vr.specs.declared.line.Connection.{Connection}
use Rattle.ap_vr.specs.LineForms.{connections_in, join_in, joined_with}
use Rattle.ap_vr.specs.Pieces.{texts}
use Rattle.ap_vr.proofs.Afters.{rest_texts}

-- fewer than seven pieces are no connection
pub joins_short : (ps : List (List ℕ)) → length ps < 7 → connections_in ps ≡ Some []
unfolding connections_in
joins_short [] h = refl
joins_short (a ∷ []) h = refl
joins_short (a ∷ b ∷ []) h = refl
joins_short (a ∷ b ∷ c ∷ []) h = refl
joins_short (a ∷ b ∷ c ∷ d ∷ []) h = refl
joins_short (a ∷ b ∷ c ∷ d ∷ e ∷ []) h = refl
joins_short (a ∷ b ∷ c ∷ d ∷ e ∷ f ∷ []) h = refl
joins_short (a ∷ b ∷ c ∷ d ∷ e ∷ f ∷ g ∷ ps) h = absurd (omega (arith, h))

abbrev pub joined_after : List Connection → Option (List Connection) → Option (List Connection)
joined_after done more = option_map (λ more. done ++ more) more

-- one more connection
pub joins_more : (whole rest more : Option (List Connection)) (done : List Connection) (c : Connection) → whole ≡ joined_after done rest → rest ≡ joined_with (Some c) more → whole ≡ joined_after (done ++ c ∷ []) more
joins_more whole rest None done c h e = h ∙ ap (joined_after done) e
joins_more whole rest (Some cs) done c h e = h ∙ ap (joined_after done) e ∙ ap Some (sym (append_assoc done (c ∷ []) cs))

-- what is no connection
pub joins_none : (whole rest more : Option (List Connection)) (done : List Connection) (first : Option Connection) → whole ≡ joined_after done rest → rest ≡ joined_with first more → first ≡ None → whole ≡ None
joins_none whole rest more done first h e none = h ∙ ap (joined_after done) e ∙ ap (λ first. joined_after done (joined_with first more)) none

-- the last one
pub joins_end : (whole rest : Option (List Connection)) (done : List Connection) → whole ≡ joined_after done rest → rest ≡ Some [] → whole ≡ Some done
joins_end whole rest done h e = h ∙ ap (joined_after done) e ∙ ap Some (append-nil done)

-- seven pieces are one
pub joins_first : (rest : List (Bor (List ℕ))) (d : Bor (List ℕ)) → 7 ≤ length rest → connections_in (texts rest) ≡ joined_with (join_in (get_or rest 3 d).now (get_or rest 5 d).now) (connections_in (texts (drop 7 rest)))
unfolding connections_in
joins_first [] d h = absurd (omega (arith, h))
joins_first (x0 ∷ []) d h = absurd (omega (arith, h))
joins_first (x0 ∷ x1 ∷ []) d h = absurd (omega (arith, h))
joins_first (x0 ∷ x1 ∷ x2 ∷ []) d h = absurd (omega (arith, h))
joins_first (x0 ∷ x1 ∷ x2 ∷ x3 ∷ []) d h = absurd (omega (arith, h))
joins_first (x0 ∷ x1 ∷ x2 ∷ x3 ∷ x4 ∷ []) d h = absurd (omega (arith, h))
joins_first (x0 ∷ x1 ∷ x2 ∷ x3 ∷ x4 ∷ x5 ∷ []) d h = absurd (omega (arith, h))
joins_first (x0 ∷ x1 ∷ x2 ∷ x3 ∷ x4 ∷ x5 ∷ x6 ∷ rest) d h = refl

-- fewer than seven are none
pub joins_over : (rest : List (Bor (List ℕ))) → length rest < 7 → connections_in (texts rest) ≡ Some []
joins_over rest h = joins_short (texts rest) (let e : length (texts rest) ≡ length rest = simp length-map in omega (arith, h, e))

-- the connections after one more
pub joins_next : (whole : Option (List Connection)) (rest : List (Bor (List ℕ))) (d : Bor (List ℕ)) (done new : List Connection) (c : Connection) → 7 ≤ length rest → whole ≡ joined_after done (connections_in (texts rest)) → join_in (get_or rest 3 d).now (get_or rest 5 d).now ≡ Some c → new ≡ done ++ c ∷ []
    → whole ≡ joined_after new (connections_in (texts (take (length rest - 7) (drop 7 rest))))
joins_next whole rest d done new c room h e is =
    joins_more whole (connections_in (texts rest)) (connections_in (texts (drop 7 rest))) done c h (joins_first rest d room ∙ ap (λ first. joined_with first (connections_in (texts (drop 7 rest)))) e)
    ∙ ap (λ done. joined_after done (connections_in (texts (drop 7 rest)))) (sym is)
    ∙ ap (λ ps. joined_after new (connections_in ps)) (sym (rest_texts rest 7))
