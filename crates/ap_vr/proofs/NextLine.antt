-- What the next line of a text means for the lines after a place.
use Rattle.std.proofs.Common.{◌≡◌, ◌≢◌, ◌⊎◌, ℕ, ◌+◌, ◌<◌, Bool, true, false, List, [], ◌∷◌, ◌++◌, length, take, drop, inl, inr, ⊎_elim, refl, sym, ap, subst, ◌∙◌, arith, true≢false}
use Rattle.std.specs.Prelude.{if◌then◌else◌, codes}
use Rattle.std.proofs.lemmas.List.{take-append-drop}
use Rattle.std.proofs.lemmas.Bool.{eqb-true}
use Rattle.std.proofs.lemmas.Option.{same_Some}
use Rattle.ap_net.specs.Text.{clocked_text, range_text}
use Rattle.ap_vr.specs.declared.fault.NetFault.TheVariants.{At}
use Rattle.ap_vr.specs.declared.fault.NetKind.TheVariants.{BadForm}
use Rattle.ap_vr.specs.declared.line.Line.{Line}
use Rattle.ap_vr.specs.declared.line.Line.TheVariants as said
use Rattle.ap_vr.specs.declared.reading.Lines.{Lines}
use Rattle.ap_vr.specs.Answers.{IsNoLine}
use Rattle.ap_vr.specs.LineForms.{line_in}
use Rattle.ap_vr.specs.LineTexts.{IsSpelled, line_text}
use Rattle.ap_vr.specs.Pieces.{pieces_of}
use Rattle.ap_vr.specs.Places.{Place, IsBadFrom, number, is_due, part_after, place_after}
use Rattle.ap_vr.specs.Reading.{IsNoNext, TakesLine}
use Rattle.ap_vr.specs.TextLines.{first_len, text_lines}
use Rattle.ap_vr.proofs.LinesRead.{line_read}
use Rattle.ap_vr.proofs.TextLines.{lines_cut, not_nil}

-- bytes spell one line at most
pub one_line : (bytes : List ℕ) (x y : Line) → IsSpelled bytes x → IsSpelled bytes y → x ≡ y
one_line bytes x y h g = same_Some x y (sym (line_read x h.0) ∙ ap (λ bytes. line_in (pieces_of bytes)) (sym h.1 ∙ g.1) ∙ line_read y g.0)

-- a line has a byte
after_way : (output : Bool) (a b c d : List ℕ) → 0 < length ((if output then codes "  output " else codes "  input ") ++ a ++ b ++ c ++ d)
after_way true a b c d = omega arith
after_way false a b c d = omega arith

pub line_some : (x : Line) → 0 < length (line_text x)
unfolding clocked_text
line_some (said.Module name) = omega arith
line_some said.Clock = omega arith
line_some said.Reset = omega arith
line_some (said.Port p more) = after_way p.output (range_text p.width) (codes " ") p.name (if more then codes ",\n" else codes "\n")
line_some said.Close = omega arith
line_some (said.Wire n) = omega arith
line_some (said.Reg n) = omega arith
line_some (said.Assign a) = omega arith
line_some (said.Always x) = omega arith
line_some (said.Instance i) = omega arith
line_some said.End = omega arith

-- the first line of a text, where it is one
some_rest : (rest : List ℕ) (x : Line) → IsSpelled (take (first_len rest) rest) x → rest ≢ []
some_rest [] x h e = absurd (let f : 0 < length (line_text x) = line_some x in let g : line_text x ≡ [] = sym h.1 in omega (arith, f, ap length g))
some_rest (b ∷ rest) x h e = not_nil b rest e

pub next_line : (old new : Lines) (x : Line) → IsSpelled (take (first_len old.rest.now) old.rest.now) x → new.rest.now ≡ drop (first_len old.rest.now) old.rest.now → new.number ≡ old.number + 1 → TakesLine old x new
next_line old new x h rest n = (
  take (first_len old.rest.now) old.rest.now,
  record {
    spelled = h;
    lines = lines_cut old.rest.now (some_rest old.rest.now x h) ∙ ap (λ rest. take (first_len old.rest.now) old.rest.now ∷ text_lines rest) (sym rest);
    text = sym (take-append-drop (first_len old.rest.now) old.rest.now) ∙ ap (λ rest. take (first_len old.rest.now) old.rest.now ++ rest) (sym rest);
    some = subst (λ bytes. 0 < length bytes) (sym h.1) (line_some x);
    number = n;
  },
)

-- it isn't due where no line is spelled so
pub no_line : (old : Lines) → IsNoLine (take (first_len old.rest.now) old.rest.now) → IsNoNext old (At old.number BadForm)
no_line old none p at inside = (refl, by_case old.rest.now none inside) where
  by_case : (rest : List ℕ) → IsNoLine (take (first_len rest) rest) → (number p.at ≢ 0) ⊎ (rest ≢ []) → IsBadFrom p (text_lines rest) old.number
  by_case [] none (inl inside) = (λ start. absurd (inside start), λ _. sym at)
  by_case [] none (inr some) = absurd (some refl)
  by_case (b ∷ rest) none some = subst (λ lines. IsBadFrom p lines old.number) (sym (lines_cut (b ∷ rest) (not_nil b rest)))
      (inl (sym at, λ x due. none x due.spelled.0 due.spelled.1))

-- what an inner line leads to
pub after_inner : (p : Place) (x : Line) → number p.at ≢ 0 → is_due p.at p.top x ≡ true → place_after p x ≡ record { at = part_after x; top = p.top; began = p.began; next = p.next + 1 }
after_inner p (said.Module name) inside due = absurd (inside (eqb-true (number p.at) 0 due))
after_inner p said.Clock inside due = refl
after_inner p said.Reset inside due = refl
after_inner p (said.Port q more) inside due = refl
after_inner p said.Close inside due = refl
after_inner p (said.Wire n) inside due = refl
after_inner p (said.Reg n) inside due = refl
after_inner p (said.Assign a) inside due = refl
after_inner p (said.Always x) inside due = refl
after_inner p (said.Instance i) inside due = refl
after_inner p said.End inside due = refl

-- past a line that is due
pub bad_after : (p : Place) (old new : Lines) (x : Line) (line : ℕ) → TakesLine old x new → is_due p.at p.top x ≡ true → IsBadFrom (place_after p x) (text_lines new.rest.now) line → IsBadFrom p (text_lines old.rest.now) line
bad_after p old new x line taken due bad =
    subst (λ lines. IsBadFrom p lines line) (sym taken.1.lines) (inr (x, record { spelled = taken.1.spelled; due = due }, bad))

-- and back
pub bad_before : (p : Place) (old new : Lines) (x : Line) (line : ℕ) → TakesLine old x new → is_due p.at p.top x ≡ true → IsBadFrom p (text_lines old.rest.now) line → IsBadFrom (place_after p x) (text_lines new.rest.now) line
bad_before p old new x line taken due bad = ⊎_elim
    (λ here. absurd (here.1 x (record { spelled = taken.1.spelled; due = due })))
    (λ there. subst (λ y. IsBadFrom (place_after p y) (text_lines new.rest.now) line) (one_line taken.0 there.0 x there.1.spelled taken.1.spelled) there.2)
    (subst (λ lines. IsBadFrom p lines line) taken.1.lines bad)

-- a line that isn't due
pub bad_here : (p : Place) (old new : Lines) (x : Line) → TakesLine old x new → p.next ≡ old.number → is_due p.at p.top x ≡ false → IsBadFrom p (text_lines old.rest.now) old.number
bad_here p old new x taken at wrong =
    subst (λ lines. IsBadFrom p lines old.number) (sym taken.1.lines) (inl (
      sym at,
      λ y due.
          let same : y ≡ x = one_line taken.0 y x due.spelled taken.1.spelled in
          absurd (true≢false (sym due.due ∙ ap (is_due p.at p.top) same ∙ wrong)),
    ))
