-- Lines that are split one after another.
use Rattle.std.proofs.Common.{◌≡◌, ℕ, ◌+◌, ◌-◌, ◌<◌, List, [], ◌∷◌, ◌++◌, length, take, get_or, sym, ap, ◌∙◌, append_assoc, append-nil}
use Rattle.std.specs.Prelude.{Some, bit_and, slice_get}
use Rattle.std.proofs.lemmas.List.{map-append, take_more}
use Rattle.std.proofs.lemmas.Option.{get_or_from_slice_get}
use Rattle.ap_net.specs.declared.cell.Wire.{Wire}
use Rattle.ap_comb.specs.Choices.{values_of}
use Rattle.ap_store.specs.Writers.{split_by, split_lines}
use Rattle.ap_store.proofs.Ranges.{flat_map_append}

-- one line more is split
pub split_more : (read : ℕ → ℕ) (lines made : List Wire) (i : ℕ) (x first second : Wire) (bit opposite : ℕ) → i < length lines → slice_get lines i ≡ Some x → opposite ≡ 1 - bit
    → read first.number ≡ bit_and (read x.number) opposite → read second.number ≡ bit_and (read x.number) bit → values_of read made ≡ split_lines bit (values_of read (take i lines))
    → values_of read ((made ++ first ∷ []) ++ second ∷ []) ≡ split_lines bit (values_of read (take (i + 1) lines))
split_more read lines made i x first second bit opposite lt at other one two before =
    let is : get_or lines i x ≡ x = get_or_from_slice_get lines i x x at in
    let more : values_of read (take (i + 1) lines) ≡ values_of read (take i lines) ++ read x.number ∷ [] =
    ap (values_of read) (take_more lines i x lt) ∙ map-append (λ (w : Wire). read w.number) (take i lines) (get_or lines i x ∷ []) ∙ ap (λ (w : Wire). values_of read (take i lines) ++ read w.number ∷ []) is in
    map-append (λ (w : Wire). read w.number) (made ++ first ∷ []) (second ∷ [])
    ∙ ap (λ l. l ++ read second.number ∷ []) (map-append (λ (w : Wire). read w.number) made (first ∷ []))
    ∙ append_assoc (values_of read made) (read first.number ∷ []) (read second.number ∷ [])
    ∙ (λ j. before j ++ (one ∙ ap (bit_and (read x.number)) other) j ∷ two j ∷ [])
    ∙ ap (λ l. split_lines bit (values_of read (take i lines)) ++ l) (sym (append-nil (split_by bit (read x.number))))
    ∙ sym (flat_map_append (split_by bit) (values_of read (take i lines)) (read x.number ∷ []))
    ∙ ap (split_lines bit) (sym more)
