-- The lines of a design stand in the order of their numbers.
use Rattle.std.proofs.Common.{◌≡◌, ℕ, zero, suc, ◌<◌, ◌≤◌, List, [], ◌∷◌, ◌++◌, map, Some, inl, inr, sym, subst, ap, ◌∙◌, arith, flat_map}
use Rattle.std.specs.Prelude.{◌↔◌, ◌⊎◌, Contains, slice_get, option_map}
use Rattle.std.proofs.lemmas.Bool.{cases_order}
use Rattle.std.proofs.lemmas.List.{map-append}
use Rattle.std.proofs.lemmas.Option.{same_Some, slice_get-map}
use Rattle.ap_desc.proofs.Members.{In, contains_in}
use Rattle.ap_desc.specs.Designs.{Rise}
use Rattle.ap_desc.specs.Ports.{micros_in}
use Rattle.ap_desc.specs.Sound.{IsSound}
use Rattle.ap_desc.specs.declared.design.Design.{Design}
use Rattle.ap_desc.specs.declared.design.Format.{Format}
use Rattle.ap_desc.specs.declared.design.Instr.{Instr}
use Rattle.ap_desc.specs.declared.design.Micro.{Micro}

pub rise_weaker : (low above : ℕ) (xs : List ℕ) → low ≤ above → Rise above xs → Rise low xs
rise_weaker low above [] le r = tt
rise_weaker low above (x ∷ xs) le r = (let below : above < x = r.0 in omega arith, r.1)

pub rise_right : (low : ℕ) (xs ys : List ℕ) → Rise low (xs ++ ys) → Rise low ys
rise_right low [] ys r = r
rise_right low (x ∷ xs) ys r = rise_weaker low x ys (let below : low < x = r.0 in omega arith) (rise_right x xs ys r.1)

pub rise_left : (low : ℕ) (xs ys : List ℕ) → Rise low (xs ++ ys) → Rise low xs
rise_left low [] ys r = tt
rise_left low (x ∷ xs) ys r = (r.0, rise_left x xs ys r.1)

pub rise_above : (low : ℕ) (xs : List ℕ) (i n : ℕ) → Rise low xs → slice_get xs i ≡ Some n → low < n
rise_above low [] i n r at = absurd cc
rise_above low (x ∷ xs) zero n r at = subst (λ m. low < m) (same_Some x n at) r.0
rise_above low (x ∷ xs) (suc i) n r at = let below : low < x = r.0 in let above : x < n = rise_above x xs i n r.1 at in omega arith

rise_in_order : (low : ℕ) (xs : List ℕ) (i j m n : ℕ) → Rise low xs → slice_get xs i ≡ Some m → slice_get xs j ≡ Some n → i < j → m < n
rise_in_order low [] i j m n r at again below = absurd cc
rise_in_order low (x ∷ xs) i zero m n r at again below = absurd (omega arith)
rise_in_order low (x ∷ xs) zero (suc j) m n r at again below = subst (λ k. k < n) (same_Some x m at) (rise_above x xs j n r.1 again)
rise_in_order low (x ∷ xs) (suc i) (suc j) m n r at again below = rise_in_order x xs i j m n r.1 at again (omega arith)

-- of rising lines the lower number stands at the earlier place
lower_earlier : (low : ℕ) (xs : List ℕ) (i j m n : ℕ) → Rise low xs → slice_get xs i ≡ Some m → slice_get xs j ≡ Some n → m < n ↔ i < j
lower_earlier low xs i j m n r at again = (back (cases_order i j), rise_in_order low xs i j m n r at again) where
  back : ((i ≡ j) ⊎ ((i < j) ⊎ (j < i))) → m < n → i < j
  back (inl same) up = let equal : m ≡ n = same_Some m n (sym at ∙ ap (slice_get xs) same ∙ again) in absurd (omega arith)
  back (inr (inl below)) up = below
  back (inr (inr above)) up = let down : n < m = rise_in_order low xs j i n m r again at above in absurd (omega arith)

-- the same of what stands at lines
placed_order : {X : Type 0} (line_of : X → ℕ) (low : ℕ) (xs : List X) (i j : ℕ) (x y : X) → Rise low (map line_of xs) → slice_get xs i ≡ Some x → slice_get xs j ≡ Some y → line_of x < line_of y ↔ i < j
placed_order line_of low xs i j x y r at again =
    lower_earlier low (map line_of xs) i j (line_of x) (line_of y) r (slice_get-map line_of xs i ∙ ap (option_map line_of) at) (slice_get-map line_of xs j ∙ ap (option_map line_of) again)

abbrev pub instr_lines : Instr → List ℕ
instr_lines i = i.line ∷ map (λ (m : Micro). m.line) i.micros

rise_within : (low : ℕ) (xs ys zs : List ℕ) → Rise low (xs ++ ys) → ((above : ℕ) → Rise above ys → Rise above zs) → Rise low (xs ++ zs)
rise_within low [] ys zs r up = up low r
rise_within low (x ∷ xs) ys zs r up = (r.0, rise_within x xs ys zs r.1 up)

instrs_rise : (low : ℕ) (instrs : List Instr) → Rise low (flat_map instr_lines instrs) → Rise low (map (λ (i : Instr). i.line) instrs)
instrs_rise low [] r = tt
instrs_rise low (i ∷ instrs) r = (r.0, instrs_rise i.line instrs (rise_right i.line (map (λ (m : Micro). m.line) i.micros) (flat_map instr_lines instrs) r.1))

micros_rise : (low : ℕ) (instrs : List Instr) → Rise low (flat_map instr_lines instrs) → Rise low (map (λ (m : Micro). m.line) (flat_map (λ (i : Instr). i.micros) instrs))
micros_rise low [] r = tt
micros_rise low (i ∷ instrs) r =
    let later = rise_within i.line (map (λ (m : Micro). m.line) i.micros) (flat_map instr_lines instrs) (map (λ (m : Micro). m.line) (flat_map (λ (i : Instr). i.micros) instrs)) r.1
    (λ above rest. micros_rise above instrs rest) in
    let below : low < i.line = r.0 in
    subst (Rise low) (sym (map-append (λ (m : Micro). m.line) i.micros (flat_map (λ (i : Instr). i.micros) instrs)))
    (rise_weaker low i.line _ (omega arith) later)

own_rise : (low : ℕ) (instrs : List Instr) (instr : Instr) → Rise low (flat_map instr_lines instrs) → In instr instrs → Rise low (map (λ (m : Micro). m.line) instr.micros)
own_rise low [] instr r h = absurd h
own_rise low (i ∷ instrs) instr r (inl same) =
    let below : low < i.line = r.0 in
    let own = rise_left i.line (map (λ (m : Micro). m.line) i.micros) (flat_map instr_lines instrs) r.1 in
    subst (λ (x : Instr). Rise low (map (λ (m : Micro). m.line) x.micros)) (sym same) (rise_weaker low i.line (map (λ (m : Micro). m.line) i.micros) (omega arith) own)
own_rise low (i ∷ instrs) instr r (inr h) =
    let below : low < i.line = r.0 in
    let later = rise_right i.line (map (λ (m : Micro). m.line) i.micros) (flat_map instr_lines instrs) r.1 in
    rise_weaker low i.line (map (λ (m : Micro). m.line) instr.micros) (omega arith) (own_rise i.line instrs instr later h)

-- the lines of a sound design's instructions
pub sound_rise : (design : Design) → IsSound design → Rise 0 (flat_map instr_lines design.instrs)
sound_rise design sound =
    let whole : Rise 0 ((design.transfer_line ∷ map (λ (f : Format). f.line) design.formats) ++ flat_map instr_lines design.instrs) = sound.lines in
    rise_right 0 (design.transfer_line ∷ map (λ (f : Format). f.line) design.formats) (flat_map instr_lines design.instrs) whole

pub micros_in_order : (design : Design) (i j : ℕ) (m n : Micro) → IsSound design → slice_get (micros_in design) i ≡ Some m → slice_get (micros_in design) j ≡ Some n → m.line < n.line ↔ i < j
micros_in_order design i j m n sound at again = placed_order (λ (x : Micro). x.line) 0 (micros_in design) i j m n (micros_rise 0 design.instrs (sound_rise design sound)) at again

pub instrs_in_order : (design : Design) (i j : ℕ) (one other : Instr) → IsSound design → slice_get design.instrs i ≡ Some one → slice_get design.instrs j ≡ Some other → one.line < other.line ↔ i < j
instrs_in_order design i j one other sound at again = placed_order (λ (x : Instr). x.line) 0 design.instrs i j one other (instrs_rise 0 design.instrs (sound_rise design sound)) at again

pub own_in_order : (design : Design) (instr : Instr) (i j : ℕ) (m n : Micro) → IsSound design → Contains design.instrs instr → slice_get instr.micros i ≡ Some m → slice_get instr.micros j ≡ Some n → m.line < n.line ↔ i < j
own_in_order design instr i j m n sound there at again =
    placed_order (λ (x : Micro). x.line) 0 instr.micros i j m n (own_rise 0 design.instrs instr (sound_rise design sound) (contains_in design.instrs instr there)) at again
