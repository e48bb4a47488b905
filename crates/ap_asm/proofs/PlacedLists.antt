-- The words of a group, placed one after the other.
use Rattle.std.proofs.Common.{◌≡◌, ℕ, ◌+◌, ◌<◌, ◌≤◌, List, [], ◌∷◌, ◌++◌, length, get_or, drop, refl, sym, ap, ◌∙◌, arith, append_assoc}
use Rattle.std.proofs.Math.ListN.{drop_of_length-le}
use Rattle.std.proofs.lemmas.List.{append-nil}
use Rattle.ap_dist.specs.declared.source.SourceLine.{SourceLine}
use Rattle.ap_asm.specs.Layouts.{out_at, placed_from}
use Rattle.ap_asm.specs.declared.placing.Placed.{Placed}
use Rattle.ap_asm.proofs.Besides.{drop_at}

placed_no_lines : (outs : List ℕ) (at : ℕ) (words : List ℕ) → placed_from outs at words [] ≡ []
placed_no_lines outs at [] = refl
placed_no_lines outs at (w ∷ words) = refl

-- the first line
placed_head : (outs : List ℕ) (start : ℕ) (words : List ℕ) (line : SourceLine) (lines : List SourceLine) → 0 < length words
    → placed_from outs start words (line ∷ lines) ≡ record { at = start; word = get_or words 0 0; out = out_at outs line.instr } ∷ placed_from outs (start + 1 + 0) (drop (0 + 1) words) (drop 0 lines)
placed_head outs start [] line lines some = absurd (omega arith)
placed_head outs start (w ∷ words) line lines some = ap (λ n. record { at = start; word = w; out = out_at outs line.instr } ∷ placed_from outs n words lines) (let z : start + 1 ≡ start + 1 + 0 = omega arith in z)

pub placed_first : (outs : List ℕ) (start : ℕ) (words : List ℕ) (line : SourceLine) (lines : List SourceLine) (old new : List Placed) (word out : ℕ) → 0 < length words → word ≡ get_or words 0 0 → out ≡ out_at outs line.instr
    → new ≡ old ++ record { at = start; word = word; out = out } ∷ [] → new ++ placed_from outs (start + 1 + 0) (drop (0 + 1) words) (drop 0 lines) ≡ old ++ placed_from outs start words (line ∷ lines)
placed_first outs start words line lines old new word out some is_word is_out e =
    ap (λ xs. xs ++ placed_from outs (start + 1 + 0) (drop (0 + 1) words) (drop 0 lines)) (e ∙ ap (λ w. old ++ record { at = start; word = w; out = out } ∷ []) is_word ∙ ap (λ o. old ++ record { at = start; word = get_or words 0 0; out = o } ∷ []) is_out)
    ∙ append_assoc old (record { at = start; word = get_or words 0 0; out = out_at outs line.instr } ∷ []) (placed_from outs (start + 1 + 0) (drop (0 + 1) words) (drop 0 lines))
    ∙ ap (λ xs. old ++ xs) (sym (placed_head outs start words line lines some))

-- a line in between
placed_here : (outs : List ℕ) (at : ℕ) (words : List ℕ) (lines : List SourceLine) (k i word : ℕ) (line : SourceLine) → k < length words → i < length lines → word ≡ get_or words k 0 → line ≡ get_or lines i line
    → placed_from outs at (drop k words) (drop i lines) ≡ record { at = at; word = word; out = out_at outs line.instr } ∷ placed_from outs (at + 1) (drop (k + 1) words) (drop (i + 1) lines)
placed_here outs at words lines k i word line a b w l =
    ap (λ ws. placed_from outs at ws (drop i lines)) (drop_at words k 0 a)
    ∙ ap (placed_from outs at (get_or words k 0 ∷ drop (k + 1) words)) (drop_at lines i line b)
    ∙ ap (λ n. record { at = at; word = n; out = out_at outs (get_or lines i line).instr } ∷ placed_from outs (at + 1) (drop (k + 1) words) (drop (i + 1) lines)) (sym w)
    ∙ ap (λ (z : SourceLine). record { at = at; word = word; out = out_at outs z.instr } ∷ placed_from outs (at + 1) (drop (k + 1) words) (drop (i + 1) lines)) (sym l)

pub placed_next : (outs : List ℕ) (start : ℕ) (words : List ℕ) (lines : List SourceLine) (i at word out : ℕ) (line : SourceLine) (old new whole : List Placed) → i + 1 < length words → i < length lines → word ≡ get_or words (i + 1) 0 → line ≡ get_or lines i line → at ≡ start + 1 + i
    → out ≡ out_at outs line.instr → new ≡ old ++ record { at = at; word = word; out = out } ∷ []
    → old ++ placed_from outs (start + 1 + i) (drop (i + 1) words) (drop i lines) ≡ whole → new ++ placed_from outs (start + 1 + (i + 1)) (drop (i + 1 + 1) words) (drop (i + 1) lines) ≡ whole
placed_next outs start words lines i at word out line old new whole a b w l is_at is_out e before =
    ap (λ xs. xs ++ placed_from outs (start + 1 + (i + 1)) (drop (i + 1 + 1) words) (drop (i + 1) lines)) (e ∙ ap (λ n. old ++ record { at = n; word = word; out = out } ∷ []) is_at ∙ ap (λ o. old ++ record { at = start + 1 + i; word = word; out = o } ∷ []) is_out)
    ∙ append_assoc old (record { at = start + 1 + i; word = word; out = out_at outs line.instr } ∷ []) (placed_from outs (start + 1 + (i + 1)) (drop (i + 1 + 1) words) (drop (i + 1) lines))
    ∙ ap (λ n. old ++ record { at = start + 1 + i; word = word; out = out_at outs line.instr } ∷ placed_from outs n (drop (i + 1 + 1) words) (drop (i + 1) lines)) (let z : start + 1 + (i + 1) ≡ start + 1 + i + 1 = omega arith in z)
    ∙ ap (λ xs. old ++ xs) (sym (placed_here outs (start + 1 + i) words lines (i + 1) i word line a b w l)) ∙ before

-- after the last line
pub placed_done : (outs : List ℕ) (at : ℕ) (words : List ℕ) (lines : List SourceLine) (i : ℕ) (old whole : List Placed) → length lines ≤ i → old ++ placed_from outs at words (drop i lines) ≡ whole → old ≡ whole
placed_done outs at words lines i old whole le e =
    sym (append-nil old) ∙ ap (λ xs. old ++ xs) (sym (ap (placed_from outs at words) (drop_of_length-le lines le) ∙ placed_no_lines outs at words)) ∙ e
