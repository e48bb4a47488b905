-- The lines of a sound design's formats and instructions rise in the order of the text.
use Rattle.std.proofs.Common.{◌≡◌, ℕ, zero, suc, ◌<◌, Bool, true, List, [], ◌∷◌, ◌++◌, map, Some, inl, inr, refl, ap, ◌∙◌, arith}
use Rattle.std.specs.Prelude.{◌==◌, ◌&&◌, slice_get}
use Rattle.std.specs.List.{flat_map, list_any}
use Rattle.std.proofs.lemmas.Bool.{and_from, and_parts, eq-eqb, eqb-true, or_cases, or_left, or_right}
use Rattle.ap_desc.specs.Designs.{Rise}
use Rattle.ap_desc.specs.declared.design.Format.{Format}
use Rattle.ap_desc.specs.declared.design.Instr.{Instr}
use Rattle.ap_desc.specs.declared.design.Micro.{Micro}

-- the lines of these formats, and those of these instructions with their micro-operations
abbrev pub format_lines : List Format → List ℕ
format_lines formats = map (λ (f : Format). f.line) formats

abbrev pub instr_lines : List Instr → List ℕ
instr_lines instrs = flat_map (λ (i : Instr). i.line ∷ map (λ (m : Micro). m.line) i.micros) instrs

rise_from : (low high : ℕ) (xs : List ℕ) → low < high → Rise high xs → Rise low xs
rise_from low high [] lt rise = tt
rise_from low high (x ∷ xs) lt rise = (let first : high < x = rise.0 in omega arith, rise.1)

-- what comes after numbers that rise rises too
pub rise_after : (low : ℕ) (xs ys : List ℕ) → Rise low (xs ++ ys) → Rise low ys
rise_after low [] ys rise = rise
rise_after low (x ∷ xs) ys rise = rise_from low x ys rise.0 (rise_after x xs ys rise.1)

-- each instruction's line is above what came before
pub instrs_above : (low : ℕ) (instrs : List Instr) → Rise low (instr_lines instrs) → (j : ℕ) (i : Instr) → slice_get instrs j ≡ Some i → low < i.line
instrs_above low [] rise j i at = absurd cc
instrs_above low (x ∷ xs) rise zero i at = let here : x ≡ i = cc in rw here at rise.0
instrs_above low (x ∷ xs) rise (suc j) i at =
    let first : low < x.line = rise.0 in
    let later : x.line < i.line = instrs_above x.line xs (rise_after x.line (map (λ (m : Micro). m.line) x.micros) (instr_lines xs) rise.1) j i at in
    omega arith

-- an earlier instruction has a lower line
pub instrs_rise : (low : ℕ) (instrs : List Instr) → Rise low (instr_lines instrs) → (j k : ℕ) (one other : Instr) → j < k → slice_get instrs j ≡ Some one → slice_get instrs k ≡ Some other → one.line < other.line
instrs_rise low [] rise j k one other lt at again = absurd cc
instrs_rise low (x ∷ xs) rise j zero one other lt at again = absurd (omega arith)
instrs_rise low (x ∷ xs) rise zero (suc k) one other lt at again =
    let here : x ≡ one = cc in
    rw here at (instrs_above x.line xs (rise_after x.line (map (λ (m : Micro). m.line) x.micros) (instr_lines xs) rise.1) k other again)
instrs_rise low (x ∷ xs) rise (suc j) (suc k) one other lt at again =
    let less : j < k = omega arith in
    instrs_rise x.line xs (rise_after x.line (map (λ (m : Micro). m.line) x.micros) (instr_lines xs) rise.1) j k one other less at again

-- each format's line is above what came before
pub formats_above : (low : ℕ) (formats : List Format) (rest : List ℕ) → Rise low (format_lines formats ++ rest) → (j : ℕ) (f : Format) → slice_get formats j ≡ Some f → low < f.line
formats_above low [] rest rise j f at = absurd cc
formats_above low (x ∷ xs) rest rise zero f at = let here : x ≡ f = cc in rw here at rise.0
formats_above low (x ∷ xs) rest rise (suc j) f at =
    let first : low < x.line = rise.0 in
    let later : x.line < f.line = formats_above x.line xs rest rise.1 j f at in
    omega arith

-- an earlier format has a lower line
pub formats_rise : (low : ℕ) (formats : List Format) (rest : List ℕ) → Rise low (format_lines formats ++ rest) → (j k : ℕ) (one other : Format) → j < k → slice_get formats j ≡ Some one → slice_get formats k ≡ Some other → one.line < other.line
formats_rise low [] rest rise j k one other lt at again = absurd cc
formats_rise low (x ∷ xs) rest rise j zero one other lt at again = absurd (omega arith)
formats_rise low (x ∷ xs) rest rise zero (suc k) one other lt at again = let here : x ≡ one = cc in rw here at (formats_above x.line xs rest rise.1 k other again)
formats_rise low (x ∷ xs) rest rise (suc j) (suc k) one other lt at again =
    let less : j < k = omega arith in
    formats_rise x.line xs rest rise.1 j k one other less at again

-- a format has a lower line than an instruction
pub formats_first : (low : ℕ) (formats : List Format) (instrs : List Instr) → Rise low (format_lines formats ++ instr_lines instrs) → (j k : ℕ) (f : Format) (i : Instr) → slice_get formats j ≡ Some f → slice_get instrs k ≡ Some i → f.line < i.line
formats_first low [] instrs rise j k f i at again = absurd cc
formats_first low (x ∷ xs) instrs rise zero k f i at again =
    let here : x ≡ f = cc in
    rw here at (instrs_above x.line instrs (rise_after x.line (format_lines xs) (instr_lines instrs) rise.1) k i again)
formats_first low (x ∷ xs) instrs rise (suc j) k f i at again = formats_first x.line xs instrs rise.1 j k f i at again

-- where some element of a line passes a test, it stands at a place
pub record StandsAt {X : Type 0} (test : X → Bool) (line_of : X → ℕ) (xs : List X) (line : ℕ) : Type 0 where
  pub place : ℕ
  pub item : X
  pub is_there : slice_get xs place ≡ Some item
  pub passes : test item ≡ true
  pub at : line_of item ≡ line

stands_later : {X : Type 0} (test : X → Bool) (line_of : X → ℕ) (x : X) (xs : List X) (line : ℕ) → StandsAt test line_of xs line → StandsAt test line_of (x ∷ xs) line
stands_later test line_of x xs line s = record { place = suc s.place; item = s.item; is_there = s.is_there; passes = s.passes; at = s.at }

pub stands_from : {X : Type 0} (test : X → Bool) (line_of : X → ℕ) (xs : List X) (line : ℕ) → list_any (λ x. test x && (line_of x == line)) xs ≡ true → StandsAt test line_of xs line
stands_from test line_of [] line e = absurd cc
stands_from test line_of (x ∷ xs) line e = elim (or_cases (test x && (line_of x == line)) (list_any (λ x. test x && (line_of x == line)) xs) e) [
  | inl here ↦ record { place = 0; item = x; is_there = refl; passes = (and_parts (test x) (line_of x == line) here).0; at = eqb-true (line_of x) line (and_parts (test x) (line_of x == line) here).1 }
  | inr later ↦ stands_later test line_of x xs line (stands_from test line_of xs line later)
]

pub stands_to : {X : Type 0} (test : X → Bool) (line_of : X → ℕ) (xs : List X) (place : ℕ) (x : X) → slice_get xs place ≡ Some x → test x ≡ true → list_any (λ y. test y && (line_of y == line_of x)) xs ≡ true
stands_to test line_of [] place x at passes = absurd cc
stands_to test line_of (y ∷ ys) zero x at passes =
    let here : y ≡ x = cc in
    or_left (test y && (line_of y == line_of x)) (list_any (λ z. test z && (line_of z == line_of x)) ys)
    (and_from (test y) (line_of y == line_of x) (ap test here ∙ passes) (eq-eqb (line_of y) (line_of x) (ap line_of here)))
stands_to test line_of (y ∷ ys) (suc place) x at passes =
    or_right (test y && (line_of y == line_of x)) (list_any (λ z. test z && (line_of z == line_of x)) ys) (stands_to test line_of ys place x at passes)
