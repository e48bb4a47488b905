-- A free field of an instruction has from 1 to 64 bits.
use Rattle.std.proofs.Common.{◌≡◌, ℕ, ◌+◌, ◌<◌, ◌≤◌, true, List, [], ◌∷◌, length, get_or, Option, Some, None, sym, ap, arith}
use Rattle.std.specs.Prelude.{filter_map, nat_le, slice_get, zip}
use Rattle.std.specs.List.{AllByRecursion as Each, enumerate_from, list_all}
use Rattle.std.specs.Option.{option_map_or}
use Rattle.std.proofs.lemmas.Bool.{and_parts, leb-true}
use Rattle.std.proofs.lemmas.Option.{slice_get-get_or, slice_get_past}
use Rattle.ap_desc.specs.Clean.{IsClean}
use Rattle.ap_desc.specs.Designs.{fields_of, is_between, is_format_within}
use Rattle.ap_desc.specs.Sound.{IsSound}
use Rattle.ap_desc.specs.declared.design.Design.{Design}
use Rattle.ap_desc.specs.declared.design.Field.{Field}
use Rattle.ap_desc.specs.declared.design.Format.{Format}
use Rattle.ap_desc.specs.declared.design.Instr.{Instr}
use Rattle.ap_enc.proofs.Patterns.{each_here, format_of, passes_here}
use Rattle.ap_program.specs.Fits.{IsWide}
use Rattle.ap_program.specs.LineFaults.{free_place, free_places}
use Rattle.ap_program.specs.declared.operands.FreeField.{FreeField}

abbrev HasWidth : ℕ → FreeField → Type 0
HasWidth most field = (1 ≤ field.width) × (field.width ≤ most)

free_widths : (word n : ℕ) (fields : List Field) (fixed : List (Option ℕ)) → list_all (λ (f : Field). is_between 1 word f.width) fields ≡ true → Each (HasWidth word) (filter_map free_place (enumerate_from n (zip fields fixed)))
free_widths word n [] fixed h = tt
free_widths word n (f ∷ fields) [] h = tt
free_widths word n (f ∷ fields) (Some v ∷ fixed) h = free_widths word (n + 1) fields fixed (and_parts (is_between 1 word f.width) (list_all (λ (x : Field). is_between 1 word x.width) fields) h).1
free_widths word n (f ∷ fields) (None ∷ fixed) h =
    let both = and_parts (is_between 1 word f.width) (list_all (λ (x : Field). is_between 1 word x.width) fields) h in
    let sides = and_parts (nat_le 1 f.width) (nat_le f.width word) both.0 in
    ((leb-true 1 f.width sides.0, leb-true f.width word sides.1), free_widths word (n + 1) fields fixed both.1)

all_widths : (design : Design) → IsSound design → (place : ℕ) (instr : Instr) → slice_get design.instrs place ≡ Some instr → Each (HasWidth design.word) (free_places design instr)
all_widths design sound place instr at =
    let f = format_of design sound place instr at in
    let fields : fields_of design instr ≡ f.0.fields = ap (λ o. option_map_or (λ (x : Format). x.fields) o []) f.1.is_format in
    let within : is_format_within design.word f.0 ≡ true = passes_here (is_format_within design.word) design.formats (and_parts (nat_le (length design.formats) 32) (list_all (is_format_within design.word) design.formats) sound.within.formats).1 instr.format f.0 f.1.is_format in
    let widths = and_parts (is_between 1 16 (length f.0.fields)) (list_all (λ (x : Field). is_between 1 design.word x.width) f.0.fields) within in
    rw fields (free_widths design.word 0 f.0.fields instr.fixed widths.1)

-- the field at a place of the free ones
pub free_width : (design : Design) → IsClean design → (place : ℕ) (instr : Instr) → slice_get design.instrs place ≡ Some instr → (i : ℕ) (field : FreeField) → slice_get (free_places design instr) i ≡ Some field → (1 ≤ field.width) × (field.width ≤ 64)
free_width design clean place instr at i field there =
    let w = each_here (HasWidth design.word) (free_places design instr) (all_widths design clean.sound place instr at) i field there in
    let most : design.word ≤ 64 = leb-true design.word 64 (and_parts (nat_le 8 design.word) (nat_le design.word 64) clean.sound.within.word).1 in
    (w.0, omega (arith, w.1))

-- instructions are fewer than 2^32
pub few_instrs : (design : Design) → IsClean design → length design.instrs ≤ 256
few_instrs design clean = leb-true (length design.instrs) 256 (and_parts (nat_le (length design.instrs) 256) _ clean.sound.within.instrs).0

low_only : (word : ℕ) (fields : List FreeField) → Each (HasWidth word) fields → Each (λ (f : FreeField). 1 ≤ f.width) fields
low_only word [] h = tt
low_only word (f ∷ fields) h = (h.0.0, low_only word fields h.1)

pub free_low : (design : Design) → IsClean design → (place : ℕ) (instr : Instr) → slice_get design.instrs place ≡ Some instr → Each (λ (f : FreeField). 1 ≤ f.width) (free_places design instr)
free_low design clean place instr at = low_only design.word (free_places design instr) (all_widths design clean.sound place instr at)

most_64 : (word : ℕ) → word ≤ 64 → (fields : List FreeField) → Each (HasWidth word) fields → Each IsWide fields
most_64 word le [] h = tt
most_64 word le (f ∷ fields) h = ((h.0.0, omega (arith, h.0.1)), most_64 word le fields h.1)

-- the free fields of the instruction at a place
pub free_wide : (design : Design) → IsClean design → (place : ℕ) (instr : Instr) → slice_get design.instrs place ≡ Some instr → Each IsWide (free_places design instr)
free_wide design clean place instr at =
    most_64 design.word (leb-true design.word 64 (and_parts (nat_le 8 design.word) (nat_le design.word 64) clean.sound.within.word).1) (free_places design instr) (all_widths design clean.sound place instr at)

-- the widths of the fields of a list
pub wide_low : (fields : List FreeField) → Each IsWide fields → (i : ℕ) (d : FreeField) → i < length fields → 1 ≤ (get_or fields i d).width
wide_low fields h i d lt = (each_here IsWide fields h i (get_or fields i d) (slice_get-get_or fields i d lt)).0

pub wide_high : (fields : List FreeField) → Each IsWide fields → (i : ℕ) (d : FreeField) → i < length fields → (get_or fields i d).width ≤ 64
wide_high fields h i d lt = (each_here IsWide fields h i (get_or fields i d) (slice_get-get_or fields i d lt)).1

pub free_there : (design : Design) (place : ℕ) (instr : Instr) → slice_get design.instrs place ≡ Some instr → free_places design instr ≡ option_map_or (free_places design) (slice_get design.instrs place) []
free_there design place instr at = sym (ap (λ o. option_map_or (free_places design) o []) at)

pub free_past_end : (design : Design) (place : ℕ) → length design.instrs ≤ place → [] ≡ option_map_or (free_places design) (slice_get design.instrs place) []
free_past_end design place le = sym (ap (λ o. option_map_or (free_places design) o []) (slice_get_past design.instrs place le))
