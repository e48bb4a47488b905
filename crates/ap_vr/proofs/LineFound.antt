-- Which line bytes spell, by the line that their pieces give.
use Rattle.std.proofs.Common.{◌≡◌, ℕ, true, false, List, Option, Some, None, refl, sym, ap, ◌∙◌}
use Rattle.std.specs.Str.{bytes_eq}
use Rattle.std.proofs.lemmas.Bool.{false≢true}
use Rattle.std.proofs.lemmas.Slice.Eq.{bytes_eq-Decides}
use Rattle.std.proofs.lemmas.Option.{same_Some}
use Rattle.ap_vr.specs.declared.line.Line.{Line}
use Rattle.ap_vr.specs.declared.unread.Unread.{Unread}
use Rattle.ap_vr.specs.declared.unread.Unread.TheVariants.{NoForm, NoMemory}
use Rattle.ap_vr.specs.Answers.{IsNoLine, IsUnread}
use Rattle.ap_vr.specs.LineForms.{line_in}
use Rattle.ap_vr.specs.LineTexts.{IsLine, IsSpelled, line_text}
use Rattle.ap_vr.specs.Pieces.{pieces_of}
use Rattle.ap_vr.proofs.LinesRead.{line_read}

some_line : (bytes : List ℕ) (x : Line) → IsLine x → bytes ≡ line_text x → line_in (pieces_of bytes) ≡ Some x
some_line bytes x rules e = ap (λ bytes. line_in (pieces_of bytes)) e ∙ line_read x rules

none_some : {A : Type 0} (x : A) (found : Option A) → found ≡ None → found ≡ Some x → ⊥
none_some x found h g = cc

-- pieces that give none are of none
pub no_line_found : (bytes : List ℕ) → line_in (pieces_of bytes) ≡ None → IsNoLine bytes
no_line_found bytes h x rules e = none_some x (line_in (pieces_of bytes)) h (some_line bytes x rules e)

-- and so are bytes that aren't the text of the line that their pieces give
pub other_line_found : (bytes : List ℕ) (found : Line) → line_in (pieces_of bytes) ≡ Some found → bytes_eq bytes (line_text found) ≡ false → IsNoLine bytes
other_line_found bytes found h wrong x rules e =
    let same : found ≡ x = same_Some found x (sym h ∙ some_line bytes x rules e) in
    false≢true (sym wrong ∙ (bytes_eq-Decides bytes (line_text found)).1 (e ∙ ap line_text (sym same)))

-- bytes that are its text
pub spelled_line : (bytes : List ℕ) (found : Line) → IsLine found → bytes_eq bytes (line_text found) ≡ true → IsSpelled bytes found
spelled_line bytes found rules h = (rules, (bytes_eq-Decides bytes (line_text found)).0 h)

-- why nothing was found
pub nothing_found : (bytes : List ℕ) (why : Unread) → (why ≡ NoForm → line_in (pieces_of bytes) ≡ None) → IsUnread bytes why
nothing_found bytes NoForm h = no_line_found bytes (h refl)
nothing_found bytes NoMemory h = tt
