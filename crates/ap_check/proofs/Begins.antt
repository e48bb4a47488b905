-- Where an instruction begins, the draft has the instruction of its block.
use Rattle.std.proofs.Common.{◌≡◌, ℕ, ◌≤◌, cond, Bool, true, false, List, [], ◌∷◌, ◌++◌, map, min, Some, Ok, Err, refl, sym, ap, subst, ◌∙◌, sum_by}
use Rattle.std.specs.Prelude.{slice_get, Result, zip}
use Rattle.std.specs.List.{AllByRecursion as Each}
use Rattle.std.specs.Option.{option_map_or}
use Rattle.std.specs.Str.{bytes_eq}
use Rattle.ap_bits.specs.declared.card.Card.{Card}
use Rattle.ap_desc.specs.declared.description.Numbered.{Numbered}
use Rattle.ap_desc.specs.declared.design.Design.{Design}
use Rattle.ap_desc.specs.declared.design.Field.{Field}
use Rattle.ap_desc.specs.declared.design.Format.{Format}
use Rattle.ap_desc.specs.declared.design.Instr.{Instr}
use Rattle.ap_desc.specs.declared.statement.FieldNumber.{FieldNumber}
use Rattle.ap_desc.specs.declared.statement.Statement.{Statement}
use Rattle.ap_desc.specs.declared.statement.Statement.TheVariants as s
use Rattle.ap_desc.specs.Declarations.{all_said_at, declarations, fields_said, format_said}
use Rattle.ap_desc.specs.Designs.{ArePlaced, mask_bits}
use Rattle.ap_desc.specs.Instructions.{Block, blocks_of, fixed_of, instr_of}
use Rattle.ap_desc.specs.Parts.{fields_named, format_names, named, place_of}
use Rattle.ap_desc.specs.Spelling.{field_names}
use Rattle.ap_check.specs.Added.{IsInstrAdded}
use Rattle.ap_check.specs.Drafts.{fields_at}
use Rattle.ap_check.specs.FixedBits.{mask_of, value_of}
use Rattle.ap_check.specs.Known.{Describes, IsSplit}
use Rattle.ap_check.specs.Uses.{IsStoppedBy}
use Rattle.ap_check.specs.declared.draft.Draft.{Draft}
use Rattle.ap_check.specs.declared.stop.Stop.{Stop}
use Rattle.ap_check.specs.declared.uses.Use.TheVariants as u
use Rattle.ap_check.proofs.DraftLines.{instrs_completed}
use Rattle.ap_check.proofs.FirstFaults.{no_width_fault}
use Rattle.ap_check.proofs.FixedBits.{masks_whole, values_whole}
use Rattle.ap_check.proofs.NameLists.{at_place}
use Rattle.ap_check.proofs.Outer.{IsStepped, blocks_push}

-- the fields of a format are placed
said_placed : (fields : List FieldNumber) → ArePlaced (fields_said fields)
said_placed [] = tt
said_placed (f ∷ fields) = (refl, said_placed fields)

one_placed : (line : ℕ) (statement : Statement) (rest : List Numbered) → Each (λ (f : Format). ArePlaced f.fields) (all_said_at format_said rest)
    → Each (λ (f : Format). ArePlaced f.fields) (all_said_at format_said (record { line = line; statement = statement } ∷ rest))
one_placed line (s.Format name fields) rest each = (said_placed fields, each)
one_placed line _ rest each = each

all_placed : (statements : List Numbered) → Each (λ (f : Format). ArePlaced f.fields) (all_said_at format_said statements)
all_placed [] = tt
all_placed (n ∷ statements) = one_placed n.line n.statement statements (all_placed statements)

found_placed : (formats : List Format) (name : List ℕ) → Each (λ (f : Format). ArePlaced f.fields) formats → ArePlaced (option_map_or (λ (f : Format). f.fields) (named (λ (f : Format). f.name) formats name) [])
found_placed [] name each = tt
found_placed (f ∷ formats) name each = go (bytes_eq name f.name) (found_placed formats name each.1) where
  go : (b : Bool) → ArePlaced (option_map_or (λ (x : Format). x.fields) (named (λ (x : Format). x.name) formats name) []) → ArePlaced (option_map_or (λ (x : Format). x.fields) (cond b (Some f) (named (λ (x : Format). x.name) formats name)) [])
  go true ih = each.0
  go false ih = ih

-- the instruction as it begins
abbrev Begun : ℕ → List ℕ → List FieldNumber → ℕ → ℕ → List Field → Instr
Begun line name fixed word place fields = record {
  name = name;
  line = line;
  format = place;
  fixed = map (fixed_of fixed) fields;
  fixed_mask = min (sum_by (mask_of word fixed) fields) 18446744073709551615;
  fixed_value = min (sum_by (value_of word fixed) fields) 18446744073709551615;
  locals = [];
  micros = [];
}

begun_whole : (cards : List Card) (whole : Design) (line : ℕ) (name format : List ℕ) (fixed : List FieldNumber) → whole.word ≤ 64 → ArePlaced (fields_named whole format)
    → Begun line name fixed whole.word (place_of (format_names whole) format) (fields_named whole format)
    ≡ instr_of cards whole (record { line = line; name = name; format = format; fixed = fixed; lines = [] })
begun_whole cards whole line name format fixed small placed =
    let fields : List Field = fields_named whole format in
    ap (λ m. record (Begun line name fixed whole.word (place_of (format_names whole) format) fields) { fixed_mask = m }) (masks_whole whole.word fixed fields small placed)
    ∙ ap (λ v. record (Begun line name fixed whole.word (place_of (format_names whole) format) fields) { fixed_mask = sum_by (mask_bits whole.word) (zip fields (map (fixed_of fixed) fields)); fixed_value = v })
    (values_whole whole.word fixed fields small placed)

-- the draft that describes statements over all declarations
pub instr_step : (cards : List Card) (statements before : List Numbered) (line : ℕ) (name format : List ℕ) (fixed : List FieldNumber) (place : ℕ) (old new : Draft) (result : Result (Unit {0}) Stop)
    → declarations (before ++ record { line = line; statement = s.Instr name format fixed } ∷ []) cards ≡ declarations before cards
    → declarations before cards ≡ declarations statements cards
    → place ≡ place_of (format_names (declarations before cards)) format
    → Describes cards statements before old → IsInstrAdded line old name fixed (u.Format place (field_names fixed)) new result
    → IsStepped cards statements before (record { line = line; statement = s.Instr name format fixed }) new result
instr_step cards statements before line name format fixed place old new (Ok done) law whole at knows h =
    let n : Numbered = record { line = line; statement = s.Instr name format fixed } in
    let block : Block = record { line = line; name = name; format = format; fixed = fixed; lines = [] } in
    let all : Design = declarations statements cards in
    let e : record old.design { instrs = [] } ≡ all = knows.declares ∙ whole in
    let word : old.design.word ≡ all.word = ap (λ (d : Design). d.word) e in
    let small : all.word ≤ 64 = subst (λ w. w ≤ 64) word knows.narrow in
    let here : place ≡ place_of (format_names all) format = at ∙ ap (λ (d : Design). place_of (format_names d) format) whole in
    let fields : fields_at old place ≡ fields_named all format =
    ap (λ (d : Design). option_map_or (λ (f : Format). f.fields) (slice_get d.formats place) []) e
    ∙ ap (λ p. option_map_or (λ (f : Format). f.fields) (slice_get all.formats p) []) here
    ∙ ap (λ o. option_map_or (λ (f : Format). f.fields) o []) (at_place (λ (f : Format). f.name) all.formats format) in
    let instr : Begun line name fixed old.design.word place (fields_at old place) ≡ instr_of cards all block =
    ap (λ w. Begun line name fixed w place (fields_at old place)) word
    ∙ ap (λ p. Begun line name fixed all.word p (fields_at old place)) here
    ∙ ap (Begun line name fixed all.word (place_of (format_names all) format)) fields
    ∙ begun_whole cards all line name format fixed small (found_placed all.formats format (all_placed statements)) in (
      no_width_fault false false false false false false false refl refl refl refl refl refl refl,
      record {
        declares = ap (λ (d : Draft). record d.design { instrs = [] }) h ∙ knows.declares ∙ sym law;
        split =
            subst (λ bs. IsSplit cards all bs new.design.instrs new.begun) (sym (blocks_push before n))
            (subst (λ (d : Draft). IsSplit cards all (block ∷ blocks_of before) d.design.instrs d.begun) (sym h)
            (instrs_completed cards all (blocks_of before) old.design.instrs old.begun knows.split, instr));
        narrow = subst (λ (d : Draft). d.design.word ≤ 64) (sym h) knows.narrow;
      },
    )
instr_step cards statements before line name format fixed place old new (Err why) law whole at knows h =
    subst (λ fault. IsStoppedBy fault why) (sym (no_width_fault false false false false false false false refl refl refl refl refl refl refl)) h
