-- A description without fault of names and widths describes a sound design of the cards.
use Rattle.std.proofs.Common.{◌≡◌, ℕ, ◌≤◌, ◌+◌, Bool, true, List, [], ◌∷◌, ◌++◌, map, reverse, length, Some, refl, sym, subst, ap, ◌∙◌, arith, flat_map, le-leb, leb-true}
use Rattle.std.specs.Prelude.{◌&&◌, ◌||◌, not, nat_le, codes, slice_get, IsSomeAnd, IsTrue, option_to_list}
use Rattle.std.specs.List.{AllByRecursion as Each, list_all, list_any}
use Rattle.std.specs.Option.{option_map_or}
use Rattle.std.specs.Str.{bytes_eq}
use Rattle.std.proofs.lemmas.Bool.{and_from, and_parts}
use Rattle.std.proofs.lemmas.List.{length-map, length-reverse, map-append, reverse-append}
use Rattle.ap_bits.specs.declared.card.Card.{Card}
use Rattle.ap_desc.proofs.InOrder.{said_by}
use Rattle.ap_desc.proofs.LocalWidths.{widths_on}
use Rattle.ap_desc.proofs.Members.{each_get, each_maps}
use Rattle.ap_desc.proofs.Named.{any_reverse, at_place, distinct_reverse, named_there}
use Rattle.ap_desc.proofs.SoundBlocks.{IsRightBlock, Stands, all_stands}
use Rattle.ap_desc.proofs.SoundInstrs.{AreLines, all_lines, block_few}
use Rattle.ap_desc.proofs.SoundNames.{each_map, formats_once, free_formats, free_parts, nop_begun, parts_once}
use Rattle.ap_desc.proofs.SoundOrder.{block_lines, design_rises}
use Rattle.ap_desc.proofs.SoundParts as p
use Rattle.ap_desc.proofs.SoundWidths.{HasWidths, arg_width_other, has_widths_other, in_range_other, local_width_other, widths_alike}
use Rattle.ap_desc.proofs.Splits.{each_append, each_list_all}
use Rattle.ap_desc.specs.Chains.{operands_of}
use Rattle.ap_desc.specs.Declarations.{declarations}
use Rattle.ap_desc.specs.Descriptions.{IsDescription}
use Rattle.ap_desc.specs.DesignOf.{design_of}
use Rattle.ap_desc.specs.Designs.{AreInRange, IsInstr, IsRight, IsWithinLimits, Rise, arg_width, assigned_count, lines_in, local_width, names_in, is_between, is_cell_count, is_field_width, is_file_within, is_format_within, is_instr_within, is_mem_within, is_named_nop, is_reg_within, is_stage, is_width, has_bits, widths_of}
use Rattle.ap_desc.specs.Instructions.{Block, blocks_of, fixed_of, instr_of, micros_of}
use Rattle.ap_desc.specs.Least.{HoldsNowhere}
use Rattle.ap_desc.specs.Order.{is_inside, is_nop}
use Rattle.ap_desc.specs.Parts.{fields_named, format_names, named, names_of_fields, place_of}
use Rattle.ap_desc.specs.Reserved.{is_free_name}
use Rattle.ap_desc.specs.Shelf.{HasOperation, IsOfCard, IsOfCards}
use Rattle.ap_desc.specs.Sound.{IsSound, IsTyped, are_distinct, are_lines_typed, are_named_once, names_of_parts}
use Rattle.ap_desc.specs.StatementFaults.{HasStatementFault}
use Rattle.ap_desc.specs.Widths.{has_widths}
use Rattle.ap_desc.specs.declared.description.Numbered.{Numbered}
use Rattle.ap_desc.specs.declared.design.Design.{Design}
use Rattle.ap_desc.specs.declared.design.Reg.{Reg}
use Rattle.ap_desc.specs.declared.design.File.{File}
use Rattle.ap_desc.specs.declared.design.Mem.{Mem}
use Rattle.ap_desc.specs.declared.design.Format.{Format}
use Rattle.ap_desc.specs.declared.design.Field.{Field}
use Rattle.ap_desc.specs.declared.design.Instr.{Instr}
use Rattle.ap_desc.specs.declared.design.Micro.{Micro}
use Rattle.ap_desc.specs.declared.design.Arg.{Arg}
use Rattle.ap_desc.specs.declared.design.Act.{Act}
use Rattle.ap_desc.specs.declared.design.Act.TheVariants as act

each_reverse : {X : Type 0} (P : X → Type 0) (xs : List X) → Each P xs → Each P (reverse xs)
each_reverse P [] each = tt
each_reverse P (x ∷ xs) each = subst (Each P) (sym (reverse-append (x ∷ []) xs)) (each_append P (reverse xs) (x ∷ []) (each_reverse P xs each.1) (each.0, tt))

map_reverse : {X Y : Type 0} (g : X → Y) (xs : List X) → map g (reverse xs) ≡ reverse (map g xs)
map_reverse g [] = refl
map_reverse g (x ∷ xs) = ap (map g) (reverse-append (x ∷ []) xs) ∙ map-append g (reverse xs) (x ∷ []) ∙ ap (λ ys. ys ++ g x ∷ []) (map_reverse g xs) ∙ sym (reverse-append (g x ∷ []) (map g xs))

any_map : {X Y : Type 0} (test : Y → Bool) (g : X → Y) (xs : List X) → list_any test (map g xs) ≡ list_any (λ x. test (g x)) xs
any_map test g [] = refl
any_map test g (x ∷ xs) = ap (λ b. test (g x) || b) (any_map test g xs)

map_map : {X Y Z : Type 0} (h : Y → Z) (g : X → Y) (xs : List X) → map h (map g xs) ≡ map (λ x. h (g x)) xs
map_map h g [] = refl
map_map h g (x ∷ xs) = ap (λ zs. h (g x) ∷ zs) (map_map h g xs)

width_in_between : (low high w : ℕ) → 1 ≤ low → high ≤ 64 → is_between low high w ≡ true → is_width w ≡ true
width_in_between low high w least most e =
    let two = and_parts (nat_le low w) (nat_le w high) e in
    let above : low ≤ w = leb-true low w two.0 in
    let below : w ≤ high = leb-true w high two.1 in
    and_from (nat_le 1 w) (nat_le w 64) (le-leb 1 w (omega arith)) (le-leb w 64 (omega arith))

all_each : {X : Type 0} (test : X → Bool) (xs : List X) → list_all test xs ≡ true → Each (λ x. test x ≡ true) xs
all_each test [] e = tt
all_each test (x ∷ xs) e = let parts = and_parts (test x) (list_all test xs) e in (parts.0, all_each test xs parts.1)

module _ (statements : List Numbered) (cards : List Card) (described : IsDescription statements) (none : HoldsNowhere (HasStatementFault statements cards)) where
  abbrev d : Design
  d = declarations statements cards

  abbrev instrs : List Instr
  instrs = map (instr_of cards d) (reverse (blocks_of statements))

  abbrev whole : Design
  whole = record d { instrs = instrs }

  stands : Stands statements cards described none statements (blocks_of statements)
  stands = all_stands statements cards described none

  blocks_right : Each (IsRightBlock cards d) (reverse (blocks_of statements))
  blocks_right = each_reverse (IsRightBlock cards d) (blocks_of statements) stands.right

  parts : HasWidths d
  parts = record {
    regs = each_maps (λ (x : Reg). is_reg_within x ≡ true) (λ (x : Reg). is_width x.width ≡ true) (λ x e. (and_parts (is_width x.width) (has_bits x.width x.reset) e).0) d.regs (p.regs_within statements cards described none);
    files = each_maps (λ (x : File). is_file_within x ≡ true) (λ (x : File). is_width x.width ≡ true)
        (λ x e. (and_parts (is_width x.width) (is_cell_count x.cells) (and_parts _ (is_between 1 4 x.reads) (and_parts _ (is_between 1 2 x.writes) e).0).0).0) d.files (p.files_within statements cards described none);
    mems = each_maps (λ (x : Mem). is_mem_within x ≡ true) (λ (x : Mem). is_width x.width ≡ true) (λ x e. (and_parts (is_between 1 16 x.address) (is_width x.width) e).1) d.mems (p.mems_within statements cards described none);
    inputs = p.inputs_within statements cards described none;
    units = p.units_within statements cards described none;
    address = width_in_between 4 16 d.address (omega arith) (omega arith) (p.address_within statements cards described none);
  }

  of_cards : Each (IsOfCard cards) d.units
  of_cards = p.units_of_cards statements cards described none

  word_most : d.word ≤ 64
  word_most = leb-true d.word 64 (and_parts (nat_le 8 d.word) (nat_le d.word 64) (p.word_within statements cards described none)).1

  -- the format of an instruction
  record HasFormat (b : Block) : Type 0 where
    format : Format
    at : slice_get d.formats (place_of (format_names d) b.format) ≡ Some format
    fields : fields_named d b.format ≡ format.fields
    widths : Each (λ (x : Field). is_width x.width ≡ true) (fields_named d b.format)

  format_of : (b : Block) → IsRightBlock cards d b → HasFormat b
  format_of b right = record { format = found.0; at = at; fields = same; widths = subst (Each (λ (x : Field). is_width x.width ≡ true)) (sym same) widths } where
    found : (x : Format) × (named (λ (x : Format). x.name) d.formats b.format ≡ Some x)
    found = named_there (λ (x : Format). x.name) d.formats b.format right.format

    at : slice_get d.formats (place_of (format_names d) b.format) ≡ Some found.0
    at = at_place (λ (x : Format). x.name) d.formats b.format ∙ found.1

    same : fields_named d b.format ≡ found.0.fields
    same = ap (λ o. option_map_or (λ (x : Format). x.fields) o []) found.1

    within : is_format_within d.word found.0 ≡ true
    within = each_get (λ x. is_format_within d.word x ≡ true) d.formats (place_of (format_names d) b.format) found.0 (p.formats_within statements cards described none) at

    widths : Each (λ (x : Field). is_width x.width ≡ true) found.0.fields
    widths = each_maps (λ (x : Field). is_field_width d.word x.width ≡ true) (λ (x : Field). is_width x.width ≡ true) (λ x e. width_in_between 1 d.word x.width (omega arith) word_most e) found.0.fields
        (all_each (λ (x : Field). is_field_width d.word x.width) found.0.fields (and_parts (is_between 1 16 (length found.0.fields)) (list_all (λ (x : Field). is_field_width d.word x.width) found.0.fields) within).1)

  -- the fields, the lines and their micro-operations, and the widths of the locals of an instruction
  abbrev fields_in : Block → List Field
  fields_in b = fields_named d b.format

  abbrev micros_of_block : Block → List Micro
  micros_of_block b = micros_of cards d (fields_in b) b.lines

  abbrev locals_of : Block → List ℕ
  locals_of b = widths_of d (fields_in b) (micros_of_block b)

  lines_of : (b : Block) (right : IsRightBlock cards d b) → AreLines cards d parts of_cards (fields_in b) (format_of b right).widths (locals_of b) [] b.lines (micros_of_block b)
  lines_of b right = all_lines cards d parts of_cards (fields_in b) (format_of b right).widths b.lines right.lines

  -- in the whole design
  range_other : (locals : ℕ) (fields : List Field) (micros : List Micro) → AreInRange d locals fields micros → AreInRange whole locals fields micros
  range_other locals fields [] range = tt
  range_other locals fields (m ∷ micros) range = (in_range_other d instrs locals fields m.act range.0, range_other (locals + assigned_count m.act) fields micros range.1)

  widths_other : (fields : List Field) (widths : List ℕ) (micros : List Micro) → widths_on d fields widths micros ≡ widths_on whole fields widths micros
  widths_other fields widths [] = refl
  widths_other fields widths (m ∷ micros) =
      ap (λ o. widths_on d fields (widths ++ option_to_list o) micros) (local_width_other d instrs widths fields m.act) ∙ widths_other fields (widths ++ option_to_list (local_width whole widths fields m.act)) micros

  args_other : (widths : List ℕ) (fields : List Field) (xs : List Arg) → Each (λ x. arg_width d widths fields x ≡ arg_width whole widths fields x) xs
  args_other widths fields [] = tt
  args_other widths fields (x ∷ xs) = (arg_width_other d instrs widths fields x, args_other widths fields xs)

  typed_other : (widths : List ℕ) (fields : List Field) (a : Act) → has_widths d (arg_width d widths fields) a ≡ true → has_widths whole (arg_width whole widths fields) a ≡ true
  typed_other widths fields a e =
      sym (has_widths_other d instrs (arg_width d widths fields) a ∙ widths_alike whole (arg_width d widths fields) (arg_width whole widths fields) a (args_other widths fields (operands_of a))) ∙ e

  operation_other : (a : Act) → HasOperation cards d a → HasOperation cards whole a
  operation_other (act.Compute unit op x y) h = h
  operation_other _ h = tt

  -- each instruction is right, typed and of the cards
  instr_is : (b : Block) → IsRightBlock cards d b → IsInstr whole (fields_in b) (instr_of cards d b)
  instr_is b right = record {
    fixed = length-map (fields_in b) (fixed_of b.fixed);
    mask = refl;
    value = refl;
    locals = widths_other (fields_in b) [] (micros_of_block b);
    widths = each_list_all is_width (locals_of b) (lines_of b right).widths;
    range = range_other 0 (fields_in b) (micros_of_block b) (lines_of b right).range;
  }

  instr_right : (b : Block) → IsRightBlock cards d b → IsRight whole (instr_of cards d b)
  instr_right b right =
      let fmt = format_of b right in
      subst (λ o. IsSomeAnd o (λ (format : Format). IsInstr whole format.fields (instr_of cards d b))) (sym fmt.at) (subst (λ fields. IsInstr whole fields (instr_of cards d b)) fmt.fields (instr_is b right))

  lines_typed : (b : Block) → IsRightBlock cards d b → IsTrue (are_lines_typed whole (instr_of cards d b) (fields_in b))
  lines_typed b right = each_list_all (λ (m : Micro). has_widths whole (arg_width whole (locals_of b) (fields_in b)) m.act) (micros_of_block b)
      (each_maps (λ (m : Micro). has_widths d (arg_width d (locals_of b) (fields_in b)) m.act ≡ true) (λ (m : Micro). has_widths whole (arg_width whole (locals_of b) (fields_in b)) m.act ≡ true)
      (λ m e. typed_other (locals_of b) (fields_in b) m.act e) (micros_of_block b) (lines_of b right).typed)

  instr_typed : (b : Block) → IsRightBlock cards d b → IsTyped whole (instr_of cards d b)
  instr_typed b right =
      let fmt = format_of b right in
      subst (λ o. IsSomeAnd o (λ (format : Format). IsTrue (are_lines_typed whole (instr_of cards d b) format.fields))) (sym fmt.at)
      (subst (λ fields. IsTrue (are_lines_typed whole (instr_of cards d b) fields)) fmt.fields (lines_typed b right))

  instr_operations : (b : Block) → IsRightBlock cards d b → Each (λ (m : Micro). HasOperation cards whole m.act) (micros_of_block b)
  instr_operations b right = each_maps (λ (m : Micro). HasOperation cards d m.act) (λ (m : Micro). HasOperation cards whole m.act) (λ m h. operation_other m.act h) (micros_of_block b) (lines_of b right).operations

  instr_within : (b : Block) → IsRightBlock cards d b → is_instr_within d.stages (instr_of cards d b) ≡ true
  instr_within b right =
      let lines = lines_of b right in
      let few = block_few cards d parts of_cards (fields_in b) (format_of b right).widths b.lines right.lines in
      let same : length (micros_of_block b) ≡ length b.lines = sym (length-map (micros_of_block b) (λ (m : Micro). m.line)) ∙ ap length lines.numbers ∙ length-map b.lines (λ (n : Numbered). n.line) in
      and_from (nat_le (length (micros_of_block b)) 64) (list_all (λ (m : Micro). is_stage d.stages m.stage) (micros_of_block b)) (le-leb (length (micros_of_block b)) 64 (omega arith))
      (each_list_all (λ (m : Micro). is_stage d.stages m.stage) (micros_of_block b) lines.stages)

  -- the lines of the instructions are those of the text
  same_lines : (bs : List Block) → Each (IsRightBlock cards d) bs → flat_map (λ (i : Instr). i.line ∷ map (λ (m : Micro). m.line) i.micros) (map (instr_of cards d) bs) ≡ flat_map block_lines bs
  same_lines [] right = refl
  same_lines (b ∷ bs) right =
      ap (λ ns. (b.line ∷ ns) ++ flat_map (λ (i : Instr). i.line ∷ map (λ (m : Micro). m.line) i.micros) (map (instr_of cards d) bs)) (lines_of b right.0).numbers
      ∙ ap (λ ns. block_lines b ++ ns) (same_lines bs right.1)

  instr_names : map (λ (i : Instr). i.name) instrs ≡ reverse (map (λ (b : Block). b.name) (blocks_of statements))
  instr_names = map_map (λ (i : Instr). i.name) (instr_of cards d) (reverse (blocks_of statements)) ∙ map_reverse (λ (b : Block). b.name) (blocks_of statements)

  instr_count : length instrs ≤ 256
  instr_count =
      let one = length-map (reverse (blocks_of statements)) (instr_of cards d) in
      let two = length-reverse (blocks_of statements) in
      let few = stands.few in
      omega arith

  within : IsWithinLimits whole
  within = record {
    stages = p.stages_within statements cards described none;
    address = p.address_within statements cards described none;
    word = p.word_within statements cards described none;
    branch = p.branch_within statements cards described none;
    slots = p.slots_within statements cards described none;
    regs = and_from _ _ (p.regs_few statements cards described none) (each_list_all is_reg_within d.regs (p.regs_within statements cards described none));
    files = and_from _ _ (p.files_few statements cards described none) (each_list_all is_file_within d.files (p.files_within statements cards described none));
    mems = and_from _ _ (p.mems_few statements cards described none) (each_list_all is_mem_within d.mems (p.mems_within statements cards described none));
    inputs = and_from _ _ (p.inputs_few statements cards described none) (each_list_all _ d.inputs (p.inputs_within statements cards described none));
    units = and_from _ _ (p.units_few statements cards described none) (each_list_all _ d.units (p.units_within statements cards described none));
    formats = and_from _ _ (p.formats_few statements cards described none) (each_list_all (is_format_within d.word) d.formats (p.formats_within statements cards described none));
    instrs = and_from (nat_le (length instrs) 256) (list_all (is_instr_within d.stages) instrs) (le-leb (length instrs) 256 instr_count)
        (each_list_all (is_instr_within d.stages) instrs (each_map (λ i. is_instr_within d.stages i ≡ true) (instr_of cards d) (reverse (blocks_of statements))
        (each_maps (IsRightBlock cards d) (λ b. is_instr_within d.stages (instr_of cards d b) ≡ true) instr_within (reverse (blocks_of statements)) blocks_right)));
  }

  names_free : IsTrue (list_all is_free_name (names_in whole))
  names_free = each_list_all is_free_name (names_in whole) (each_append _ (names_of_parts d ++ flat_map (λ (x : Format). x.name ∷ map (λ (y : Field). y.name) x.fields) d.formats) (map (λ (i : Instr). i.name) instrs)
      (each_append _ (names_of_parts d) (flat_map (λ (x : Format). x.name ∷ map (λ (y : Field). y.name) x.fields) d.formats) (free_parts statements cards described none) (free_formats statements cards described none))
      (each_map (λ name. is_free_name name ≡ true) (λ (i : Instr). i.name) instrs (each_map (λ (i : Instr). is_free_name i.name ≡ true) (instr_of cards d) (reverse (blocks_of statements))
      (each_maps (IsRightBlock cards d) (λ (b : Block). is_free_name b.name ≡ true) (λ b right. right.free) (reverse (blocks_of statements)) blocks_right))))

  named_once : IsTrue (are_named_once whole)
  named_once = and_from (are_distinct (names_of_parts d) && are_distinct (format_names d) && are_distinct (map (λ (i : Instr). i.name) instrs)) (list_all (λ (x : Format). are_distinct (names_of_fields x.fields)) d.formats)
      (and_from (are_distinct (names_of_parts d) && are_distinct (format_names d)) (are_distinct (map (λ (i : Instr). i.name) instrs))
      (and_from (are_distinct (names_of_parts d)) (are_distinct (format_names d)) (parts_once statements cards described none) (formats_once statements cards described none))
      (subst (λ ns. are_distinct ns ≡ true) (sym instr_names) (distinct_reverse (map (λ (b : Block). b.name) (blocks_of statements)) stands.once)))
      (each_list_all (λ (x : Format). are_distinct (names_of_fields x.fields)) d.formats (p.fields_once statements cards described none))

  has_nop : IsTrue (list_any is_named_nop instrs)
  has_nop =
      let e : list_any is_nop (said_by statements) ≡ true = (and_parts _ (list_any is_nop (said_by statements)) (and_parts _ (not (is_inside (said_by statements))) described.complete).0).1 in
      any_map is_named_nop (instr_of cards d) (reverse (blocks_of statements)) ∙ any_reverse (λ (b : Block). bytes_eq b.name (codes "NOP")) (blocks_of statements) true (nop_begun statements [] e)

  lines_rise : Rise 0 (lines_in whole)
  lines_rise = subst (λ ns. Rise 0 (d.transfer_line ∷ (map (λ (x : Format). x.line) d.formats ++ ns))) (sym (same_lines (reverse (blocks_of statements)) blocks_right))
      (design_rises statements described (p.headers statements cards described none).3)

  pub sound_if_faultless : IsSound (design_of statements cards)
  sound_if_faultless = record {
    within = within;
    names = names_free;
    once = named_once;
    nop = has_nop;
    lines = lines_rise;
    formats = p.formats_placed statements cards described none;
    instrs = each_map (IsRight whole) (instr_of cards d) (reverse (blocks_of statements)) (each_maps (IsRightBlock cards d) (λ b. IsRight whole (instr_of cards d b)) instr_right (reverse (blocks_of statements)) blocks_right);
    typed = each_map (IsTyped whole) (instr_of cards d) (reverse (blocks_of statements)) (each_maps (IsRightBlock cards d) (λ b. IsTyped whole (instr_of cards d b)) instr_typed (reverse (blocks_of statements)) blocks_right);
  }

  pub of_cards_if_faultless : IsOfCards (design_of statements cards) cards
  of_cards_if_faultless = record {
    units = of_cards;
    operations = each_map (λ (i : Instr). Each (λ (m : Micro). HasOperation cards whole m.act) i.micros) (instr_of cards d) (reverse (blocks_of statements))
        (each_maps (IsRightBlock cards d) (λ b. Each (λ (m : Micro). HasOperation cards whole m.act) (micros_of_block b)) instr_operations (reverse (blocks_of statements)) blocks_right);
  }
