-- The distance of two lines is that of their words, whatever the labels stand for.
use Rattle.std.proofs.Common.{◌≡◌, ℕ, zero, suc, ◌+◌, ◌*◌, ◌^◌, ◌<◌, Bool, true, false, List, [], ◌∷◌, length, map, Option, Some, None, refl, sym, ap, subst, ◌∙◌, arith, sum_by}
use Rattle.std.specs.Prelude.{bit_and, filter_map, option_and_then, option_map, slice_get, zip}
use Rattle.std.specs.List.{AllByRecursion as Each, cons_option, enumerate_from, list_all, list_any}
use Rattle.std.specs.Option.{option_map_or}
use Rattle.std.proofs.lemmas.Bool.{both_ways, eq-eqb, or_left, or_right}
use Rattle.ap_desc.specs.Clean.{IsClean}
use Rattle.ap_desc.specs.Designs.{Matches, field_value, fields_of, mask_bits, value_bits}
use Rattle.ap_desc.specs.Sound.{AreFixedFitting, IsEncoded, fits_field}
use Rattle.ap_desc.specs.declared.design.Act.{Act}
use Rattle.ap_desc.specs.declared.design.Act.TheVariants as act
use Rattle.ap_desc.specs.declared.design.Arg.{Arg}
use Rattle.ap_desc.specs.declared.design.Arg.TheVariants as arg
use Rattle.ap_desc.specs.declared.design.Design.{Design}
use Rattle.ap_desc.specs.declared.design.Field.{Field}
use Rattle.ap_desc.specs.declared.design.Format.{Format}
use Rattle.ap_desc.specs.declared.design.Instr.{Instr}
use Rattle.ap_desc.specs.declared.design.Micro.{Micro}
use Rattle.ap_desc.proofs.Encoded.{encoded_if_clean}
use Rattle.ap_dist.specs.Accesses.{access_by, access_of, accesses_of, index_of}
use Rattle.ap_dist.specs.Distances.{dist_of, gap_between}
use Rattle.ap_dist.specs.declared.access.Part.TheVariants as part
use Rattle.ap_dist.specs.declared.source.Operand.{Operand}
use Rattle.ap_dist.specs.declared.source.Operand.TheVariants as operand
use Rattle.ap_dist.specs.declared.source.SourceLine.{SourceLine}
use Rattle.ap_dist.proofs.Matched.{matched_instr, word_accesses}
use Rattle.ap_enc.specs.Packed.{width_of}
use Rattle.ap_enc.specs.Words.{free_field, free_fields}
use Rattle.ap_enc.proofs.Found.{one_match}
use Rattle.ap_enc.proofs.Pairs.{pairs_width}
use Rattle.ap_enc.proofs.Patterns.{IsOfFormat, each_here, format_of}
use Rattle.ap_program.specs.Fits.{LineFits, OperandFits}
use Rattle.ap_program.specs.LineFaults.{free_place, is_field, is_index_by, is_index_field}
use Rattle.ap_asm.specs.LinePlaces.{accesses_of_line, accesses_with, dist_of_lines, index_by, values_in}
use Rattle.ap_asm.specs.Words.{IsWordAmong, value_among}
use Rattle.ap_asm.proofs.FixedFields.{fixed_here}

-- the value of the field at a place, where that is known
abbrev known : List (Option ℕ) → ℕ → Option ℕ
known values i = option_and_then (λ (v : Option ℕ). v) (slice_get values i)

moved : (n i : ℕ) → n + suc i ≡ (n + 1) + i
moved n i = omega arith

heads : (a b : ℕ) (xs ys : List ℕ) → a ∷ xs ≡ b ∷ ys → (a ≡ b) × (xs ≡ ys)
heads a b xs ys e = (cc, cc)

-- a field that is the index of a cell has the line's value
aligned : (design : Design) (instr : Instr) (groups : ℕ) (landings : List ℕ) (word n : ℕ) (fields : List Field) (fixed : List (Option ℕ)) (os : List Operand) → length fixed ≡ length fields
    → length os ≡ length (filter_map free_place (enumerate_from n (zip fields fixed))) → ((i : ℕ) (f : Field) (v : ℕ) → slice_get (zip fields fixed) i ≡ Some (f, Some v) → field_value f word ≡ v)
    → map (λ (f : Field). field_value f word) (filter_map free_field (zip fields fixed)) ≡ map (value_among landings) os → Each (OperandFits design instr groups) (zip (filter_map free_place (enumerate_from n (zip fields fixed))) os)
    → (i : ℕ) → is_index_field instr (n + i) ≡ true → option_map (λ (f : Field). field_value f word) (slice_get fields i) ≡ known (values_in fixed os) i
aligned design instr groups landings word n [] [] os same count fix values fit i is = refl
aligned design instr groups landings word n [] (x ∷ fixed) os same count fix values fit i is = absurd (omega arith)
aligned design instr groups landings word n (f ∷ fields) [] os same count fix values fit i is = absurd (omega arith)
aligned design instr groups landings word n (f ∷ fields) (Some v ∷ fixed) os same count fix values fit zero is = ap Some (fix 0 f v refl)
aligned design instr groups landings word n (f ∷ fields) (Some v ∷ fixed) os same count fix values fit (suc i) is =
    aligned design instr groups landings word (n + 1) fields fixed os (omega arith) count (λ j g w at. fix (suc j) g w at) values fit i (sym (ap (is_index_field instr) (moved n i)) ∙ is)
aligned design instr groups landings word n (f ∷ fields) (None ∷ fixed) [] same count fix values fit i is = absurd (omega arith)
aligned design instr groups landings word n (f ∷ fields) (None ∷ fixed) (operand.Value v ∷ os) same count fix values fit zero is = ap Some (heads (field_value f word) v _ _ values).0
aligned design instr groups landings word n (f ∷ fields) (None ∷ fixed) (operand.Landing g ∷ os) same count fix values fit zero is = absurd (both_ways (is_index_field instr n) fit.0.2 (sym (ap (is_index_field instr) (let e : n + 0 ≡ n = omega arith in e)) ∙ is))
aligned design instr groups landings word n (f ∷ fields) (None ∷ fixed) (o ∷ os) same count fix values fit (suc i) is =
    aligned design instr groups landings word (n + 1) fields fixed os (omega arith) (omega arith) (λ j g w at. fix (suc j) g w at) (heads (field_value f word) (value_among landings o) _ _ values).1 fit.1 i (sym (ap (is_index_field instr) (moved n i)) ∙ is)

-- what is known of an instruction's fields: those that are indices of cells have these values in the word
abbrev AreKnown : Design → Instr → ℕ → List (Option ℕ) → (ℕ → Bool) → Type 0
AreKnown design instr word values asked = (i : ℕ) → asked i ≡ true → option_map (λ (f : Field). field_value f word) (slice_get (fields_of design instr) i) ≡ known values i

same_index : (design : Design) (instr : Instr) (word : ℕ) (values : List (Option ℕ)) (x : Arg) → AreKnown design instr word values (λ i. is_field i x) → index_of design instr (Some word) x ≡ index_by instr values x
same_index design instr word values (arg.Local i) h = refl
same_index design instr word values (arg.Field i) h = h i (eq-eqb i i refl)
same_index design instr word values arg.Pc h = refl
same_index design instr word values arg.Link h = refl

same_access : (design : Design) (instr : Instr) (word : ℕ) (values : List (Option ℕ)) (stage : ℕ) (a : Act) → AreKnown design instr word values (λ i. is_index_by i a)
    → access_by (index_of design instr (Some word)) stage a ≡ access_by (index_by instr values) stage a
same_access design instr word values stage (act.ReadFile file port index) h = ap (λ o. Some (record { part = part.Cell file o; writes = false; stage = stage })) (same_index design instr word values index h)
same_access design instr word values stage (act.WriteFile file port index value guard) h = ap (λ o. Some (record { part = part.Cell file o; writes = true; stage = stage })) (same_index design instr word values index h)
same_access design instr word values stage (act.ReadReg reg) h = refl
same_access design instr word values stage (act.ReadMem mem at) h = refl
same_access design instr word values stage (act.WriteReg reg value guard) h = refl
same_access design instr word values stage (act.WriteMem mem at value guard) h = refl
same_access design instr word values stage _ h = refl

same_accesses : (design : Design) (instr : Instr) (word : ℕ) (values : List (Option ℕ)) (ms : List Micro) → AreKnown design instr word values (λ i. list_any (λ (m : Micro). is_index_by i m.act) ms)
    → filter_map (access_of design instr (Some word)) ms ≡ filter_map (λ (m : Micro). access_by (index_by instr values) m.stage m.act) ms
same_accesses design instr word values [] h = refl
same_accesses design instr word values (m ∷ ms) h =
    ap (λ o. cons_option o (filter_map (access_of design instr (Some word)) ms)) (same_access design instr word values m.stage m.act (λ i is. h i (or_left (is_index_by i m.act) (list_any (λ (x : Micro). is_index_by i x.act) ms) is)))
    ∙ ap (cons_option (access_by (index_by instr values) m.stage m.act)) (same_accesses design instr word values ms (λ i is. h i (or_right (is_index_by i m.act) (list_any (λ (x : Micro). is_index_by i x.act) ms) is)))

-- what a line accesses is what its word accesses
pub line_accesses : (design : Design) → IsClean design → (groups : ℕ) (landings : List ℕ) (line : SourceLine) (word : ℕ) → LineFits design groups line → IsWordAmong design landings line word → accesses_of design word ≡ accesses_of_line design line
line_accesses design clean groups landings line word fits is =
    word_accesses design word fits.instr (matched_instr design word line.instr fits.instr fits.is_instr (record { matches = is.matches; only = λ other m. one_match design clean word other line.instr m is.matches }))
    ∙ same_accesses design fits.instr word (values_in fits.instr.fixed line.operands) fits.instr.micros known_here
    ∙ sym (ap (λ o. option_map_or (λ (i : Instr). accesses_with i line.operands) o []) fits.is_instr)
  where
    encoded : IsEncoded design
    encoded = encoded_if_clean design clean

    format : (f : Format) × IsOfFormat design fits.instr f
    format = format_of design clean.sound line.instr fits.instr fits.is_instr

    fields : fields_of design fits.instr ≡ format.0.fields
    fields = ap (λ o. option_map_or (λ (x : Format). x.fields) o []) format.1.is_format

    count : length fits.instr.fixed ≡ length (fields_of design fits.instr)
    count = format.1.right.fixed ∙ sym (ap length fields)

    pairs : zip (fields_of design fits.instr) fits.instr.fixed ≡ zip format.0.fields fits.instr.fixed
    pairs = ap (λ fs. zip fs fits.instr.fixed) fields

    whole : width_of (zip format.0.fields fits.instr.fixed) ≡ design.word
    whole = pairs_width format.0.fields fits.instr.fixed format.1.right.fixed ∙ each_here (λ (x : Format). sum_by (λ (y : Field). y.width) x.fields ≡ design.word) design.formats encoded.sums fits.instr.format format.0 format.1.is_format

    fixed_fit : list_all fits_field (zip format.0.fields fits.instr.fixed) ≡ true
    fixed_fit = rw format.1.is_format at (each_here (AreFixedFitting design) design.instrs encoded.fixed line.instr fits.instr fits.is_instr)

    matches : Matches fits.instr word
    matches = rw fits.is_instr at is.matches

    masks : bit_and word (sum_by (mask_bits design.word) (zip format.0.fields fits.instr.fixed)) ≡ sum_by (value_bits design.word) (zip format.0.fields fits.instr.fixed)
    masks = ap (bit_and word) (sym format.1.right.mask) ∙ matches ∙ format.1.right.value

    less : word < 2 ^ width_of (zip format.0.fields fits.instr.fixed)
    less = subst (λ n. word < 2 ^ n) (sym whole) is.fits

    alone : word ≡ 0 * 2 ^ width_of (zip format.0.fields fits.instr.fixed) + word
    alone = omega arith

    fix : (i : ℕ) (f : Field) (v : ℕ) → slice_get (zip (fields_of design fits.instr) fits.instr.fixed) i ≡ Some (f, Some v) → field_value f word ≡ v
    fix i f v at = fixed_here design.word (zip format.0.fields fits.instr.fixed) format.1.placed (omega (arith, whole)) fixed_fit word 0 word less alone masks i f v (ap (λ ps. slice_get ps i) (sym pairs) ∙ at)

    operands : map (λ (f : Field). field_value f word) (filter_map free_field (zip (fields_of design fits.instr) fits.instr.fixed)) ≡ map (value_among landings) line.operands
    operands = sym (ap (λ o. map (λ (f : Field). field_value f word) (option_map_or (free_fields design) o [])) fits.is_instr) ∙ is.operands

    known_here : AreKnown design fits.instr word (values_in fits.instr.fixed line.operands) (λ i. list_any (λ (m : Micro). is_index_by i m.act) fits.instr.micros)
    known_here i asked = aligned design fits.instr groups landings word 0 (fields_of design fits.instr) fits.instr.fixed line.operands count fits.count fix operands fits.operands i (ap (is_index_field fits.instr) (let e : 0 + i ≡ i = omega arith in e) ∙ asked)

-- so is their distance
pub line_distance : (design : Design) → IsClean design → (groups : ℕ) (landings : List ℕ) (older younger : SourceLine) (x y : ℕ) → LineFits design groups older → LineFits design groups younger → IsWordAmong design landings older x → IsWordAmong design landings younger y
    → dist_of design x y ≡ dist_of_lines design older younger
unfolding dist_of dist_of_lines
line_distance design clean groups landings older younger x y older_fits younger_fits is_older is_younger =
    ap (λ xs. gap_between xs (accesses_of design y)) (line_accesses design clean groups landings older x older_fits is_older) ∙ ap (gap_between (accesses_of_line design older)) (line_accesses design clean groups landings younger y younger_fits is_younger)
