use Rattle.std.proofs.Common.{◌≡◌, ℕ, List, [], ◌∷◌, refl, sym, ◌∙◌}
use Rattle.ap_text.specs.Lines.{TextLine, lines_of}
use Rattle.ap_desc.specs.declared.description.Numbered.{Numbered}
use Rattle.ap_bits.specs.Beside.{EachBeside}
use Rattle.ap_desc.specs.Reading.{IsAt, ReadsAs}
use Rattle.ap_desc.proofs.FormsComplete.{spelled_once}

same_numbered : (n m : Numbered) → n.line ≡ m.line → n.statement ≡ m.statement → n ≡ m
same_numbered n m e f = λ i. record { line = e i; statement = f i }

lines_once : (one other : List Numbered) (lines : List TextLine) → EachBeside IsAt one lines → EachBeside IsAt other lines → one ≡ other
lines_once [] [] lines h g = refl
lines_once [] (m ∷ other) [] h g = absurd g
lines_once [] (m ∷ other) (line ∷ lines) h g = absurd h
lines_once (n ∷ one) other [] h g = absurd h
lines_once (n ∷ one) [] (line ∷ lines) h g = absurd g
lines_once (n ∷ one) (m ∷ other) (line ∷ lines) h g =
    let first : n ≡ m = same_numbered n m (h.0.number ∙ sym g.0.number) (spelled_once n.statement m.statement line.tokens h.0.spells.spells g.0.spells.spells) in
    let rest : one ≡ other = lines_once one other lines h.1 g.1 in
    λ i. first i ∷ rest i

-- a text reads as one list of statements at most
pub read_once : (text : List ℕ) (one other : List Numbered) → ReadsAs text one → ReadsAs text other → one ≡ other
read_once text one other h g = lines_once one other (lines_of text) h.lines g.lines
