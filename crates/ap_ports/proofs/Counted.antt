-- Which lines of a design have the number of one of the first of them.
use Rattle.std.proofs.Common.{◌≡◌, ℕ, zero, suc, ◌<◌, ◌≤◌, true, List, [], ◌∷◌, ◌++◌, length, Some, inl, inr, refl, sym, ap, ◌∙◌, arith, eqb-true, eq-eqb}
use Rattle.std.specs.Prelude.{◌==◌, Contains, nat_le, nat_lt, slice_get}
use Rattle.std.proofs.lemmas.Bool.{cases_order, le-leb, leb-true, lt-ltb, ltb-true}
use Rattle.std.proofs.lemmas.List.{length_push}
use Rattle.std.proofs.lemmas.Option.{same_Some, slice_get_within}
use Rattle.ap_desc.proofs.DesignLaws.{micros_in_order}
use Rattle.ap_desc.specs.Ports.{micros_in}
use Rattle.ap_desc.specs.Sound.{IsSound}
use Rattle.ap_desc.specs.Chains.{node_of}
use Rattle.ap_desc.specs.declared.design.Design.{Design}
use Rattle.ap_desc.specs.declared.design.Instr.{Instr}
use Rattle.ap_desc.specs.declared.design.Micro.{Micro}
use Rattle.ap_desc.specs.declared.design.Node.{Node}
use Rattle.ap_ports.specs.Graphs.{is_line_of}
use Rattle.ap_ports.proofs.Flat.{flat_at, get_left}
use Rattle.ap_ports.proofs.Members.{any_at, at_any, place_of}
use Rattle.ap_ports.proofs.Recounted.{CountsBy}

get_back : {X : Type 0} (xs ys : List X) (i : ℕ) (x : X) → slice_get (xs ++ ys) i ≡ Some x → i < length xs → slice_get xs i ≡ Some x
get_back [] ys i x at low = absurd (omega arith)
get_back (z ∷ xs) ys zero x at low = at
get_back (z ∷ xs) ys (suc i) x at low = get_back xs ys i x at (omega arith)

pub get_middle : {X : Type 0} (xs ys : List X) (x : X) → slice_get (xs ++ x ∷ ys) (length xs) ≡ Some x
get_middle [] ys x = refl
get_middle (z ∷ xs) ys x = get_middle xs ys x

-- a line of an instruction stands among all lines
pub stands_in : (design : Design) (instr : Instr) (m : Micro) → Contains design.instrs instr → Contains instr.micros m → (j : ℕ) × (slice_get (micros_in design) j ≡ Some m)
stands_in design instr m there line =
    let (number, at) = place_of design.instrs instr there in
    let (place, has) = place_of instr.micros m line in
    flat_at (λ (i : Instr). i.micros) design.instrs number instr place m at has

module _ (design : Design) (sound : IsSound design) where
  -- lines of one number are one
  one_place : (i j : ℕ) (x y : Micro) → slice_get (micros_in design) i ≡ Some x → slice_get (micros_in design) j ≡ Some y → x.line ≡ y.line → i ≡ j
  one_place i j x y at there same = elim (cases_order i j) [
    | inl e ↦ e
    | inr (inl less) ↦ (let lower : x.line < y.line = (micros_in_order design i j x y sound at there).1 less in absurd (omega arith))
    | inr (inr more) ↦ (let lower : y.line < x.line = (micros_in_order design j i y x sound there at).1 more in absurd (omega arith))
  ]

  module _ (done rest : List Micro) (whole : micros_in design ≡ done ++ rest) (i : ℕ) (x : Micro) (at : slice_get (micros_in design) i ≡ Some x) where
    pub counted_low : is_line_of done x.line ≡ true → i < length done
    counted_low counted =
        let (j, y, there, test) = any_at (λ (m : Micro). m.line == x.line) done counted in
        let found : slice_get (micros_in design) j ≡ Some y = ap (λ ms. slice_get ms j) whole ∙ get_left done rest j y there in
        let same : i ≡ j = one_place i j x y at found (sym (eqb-true y.line x.line test)) in
        let low = slice_get_within done j y there in
        omega arith

    pub low_counted : i < length done → is_line_of done x.line ≡ true
    low_counted low =
        at_any (λ (m : Micro). m.line == x.line) done i x (get_back done rest i x (ap (λ ms. slice_get ms i) (sym whole) ∙ at) low) (eq-eqb x.line x.line refl)

  -- the line that comes next
  module _ (stage : ℕ) (done rest : List Micro) (m : Micro) (whole : micros_in design ≡ done ++ m ∷ rest) where
    next_at : slice_get (micros_in design) (length done) ≡ Some m
    next_at = ap (λ ms. slice_get ms (length done)) whole ∙ get_middle done rest m

    more_whole : micros_in design ≡ (done ++ m ∷ []) ++ rest
    more_whole = whole ∙ sym (regroup done)
      where
        regroup : (xs : List Micro) → (xs ++ m ∷ []) ++ rest ≡ xs ++ m ∷ rest
        regroup [] = refl
        regroup (x ∷ xs) = ap (λ ys. x ∷ ys) (regroup xs)

    pub done_before : CountsBy design stage (is_line_of done) (λ n. nat_lt n m.line)
    done_before instr x to there line here uses counted =
        let (i, at) = stands_in design instr x there line in
        lt-ltb x.line m.line ((micros_in_order design i (length done) x m sound at next_at).1 (counted_low done (m ∷ rest) whole i x at counted))

    pub before_done : CountsBy design stage (λ n. nat_lt n m.line) (is_line_of done)
    before_done instr x to there line here uses counted =
        let (i, at) = stands_in design instr x there line in
        low_counted done (m ∷ rest) whole i x at ((micros_in_order design i (length done) x m sound at next_at).0 (ltb-true x.line m.line counted))

    pub done_up_to : CountsBy design stage (is_line_of (done ++ m ∷ [])) (λ n. nat_le n m.line)
    done_up_to instr x to there line here uses counted =
        let (i, at) = stands_in design instr x there line in
        let low : i < length (done ++ m ∷ []) = counted_low (done ++ m ∷ []) rest more_whole i x at counted in
        let long = length_push done m in
        le-leb x.line m.line (elim (cases_order i (length done)) [
          | inl same ↦
              let is : x ≡ m = same_Some x m (sym at ∙ ap (slice_get (micros_in design)) same ∙ next_at) in
              let line_is : x.line ≡ m.line = ap (λ (y : Micro). y.line) is in
              omega arith
          | inr (inl less) ↦ (let lower : x.line < m.line = (micros_in_order design i (length done) x m sound at next_at).1 less in omega arith)
          | inr (inr more) ↦ absurd (omega arith)
        ])

    pub up_to_done : CountsBy design stage (λ n. nat_le n m.line) (is_line_of (done ++ m ∷ []))
    up_to_done instr x to there line here uses counted =
        let (i, at) = stands_in design instr x there line in
        let le : x.line ≤ m.line = leb-true x.line m.line counted in
        let long = length_push done m in
        low_counted (done ++ m ∷ []) rest more_whole i x at (elim (cases_order i (length done)) [
          | inl same ↦ omega arith
          | inr (inl less) ↦ omega arith
          | inr (inr more) ↦ (let higher : m.line < x.line = (micros_in_order design (length done) i m x sound next_at at).1 more in absurd (omega arith))
        ])

    -- a line that makes no edge of the stage changes nothing
    pub done_more : CountsBy design stage (is_line_of done) (is_line_of (done ++ m ∷ []))
    done_more instr x to there line here uses counted =
        let (i, at) = stands_in design instr x there line in
        let low : i < length done = counted_low done (m ∷ rest) whole i x at counted in
        let long = length_push done m in
        low_counted (done ++ m ∷ []) rest more_whole i x at (omega arith)

    pub more_done : ((to : Node) → m.stage ≡ stage → node_of m.act ≡ Some to → ⊥) → CountsBy design stage (is_line_of (done ++ m ∷ [])) (is_line_of done)
    more_done none instr x to there line here uses counted =
        let (i, at) = stands_in design instr x there line in
        let low : i < length (done ++ m ∷ []) = counted_low (done ++ m ∷ []) rest more_whole i x at counted in
        let long = length_push done m in
        low_counted done (m ∷ rest) whole i x at (elim (cases_order i (length done)) [
          | inl same ↦
              let is : x ≡ m = same_Some x m (sym at ∙ ap (slice_get (micros_in design)) same ∙ next_at) in
              absurd (none to (ap (λ (y : Micro). y.stage) (sym is) ∙ here) (ap (λ (y : Micro). node_of y.act) (sym is) ∙ uses))
          | inr (inl less) ↦ less
          | inr (inr more) ↦ absurd (omega arith)
        ])

  -- all lines count in the end
  pub all_done : (stage : ℕ) → CountsBy design stage (λ n. true) (is_line_of (micros_in design))
  all_done stage instr x to there line here uses counted =
      let (i, at) = stands_in design instr x there line in
      at_any (λ (m : Micro). m.line == x.line) (micros_in design) i x at (eq-eqb x.line x.line refl)
