-- A draft that describes statements has the fields, locals and widths of their scope; and one more line is the line of its block.
use Rattle.std.proofs.Common.{◌≡◌, List, [], ◌∷◌, ◌++◌, map, Option, Some, None, option_map, refl, sym, ap, ◌∙◌, append_assoc, append-nil}
use Rattle.std.specs.Prelude.{option_to_list, reverse}
use Rattle.std.specs.Option.{option_map_or}
use Rattle.std.proofs.lemmas.List.{map-append, reverse-append}
use Rattle.std.proofs.lemmas.List.Sums.{fold_push}
use Rattle.ap_bits.specs.declared.card.Card.{Card}
use Rattle.ap_desc.specs.declared.description.Numbered.{Numbered}
use Rattle.ap_desc.specs.declared.design.Act.{Act}
use Rattle.ap_desc.specs.declared.design.Design.{Design}
use Rattle.ap_desc.specs.declared.design.Field.{Field}
use Rattle.ap_desc.specs.declared.design.Format.{Format}
use Rattle.ap_desc.specs.declared.design.Instr.{Instr}
use Rattle.ap_desc.specs.declared.design.Micro.{Micro}
use Rattle.ap_desc.specs.Designs.{fields_of, local_width, widths_of}
use Rattle.ap_desc.specs.Instructions.{Block, act_of, arg_of, each_after, instr_of, local_names, micro_of, micros_of, stage_of}
use Rattle.ap_desc.specs.Parts.{fields_named}
use Rattle.ap_desc.specs.Scope.{open_fields, open_lines}
use Rattle.ap_check.specs.Drafts.{instr_with}
use Rattle.ap_check.specs.Known.{IsSplit}
use Rattle.ap_check.proofs.NameLists.{at_place}

-- what the lines of an instruction give, line after line
each_after-append : {X Y : Type 0} (f : List X → X → Option Y) (earlier xs : List X) (x : X) → each_after f earlier (xs ++ x ∷ []) ≡ each_after f earlier xs ++ option_to_list (f (earlier ++ xs) x)
each_after-append f earlier [] x = append-nil (option_to_list (f earlier x)) ∙ ap (λ e. option_to_list (f e x)) (sym (append-nil earlier))
each_after-append f earlier (y ∷ xs) x =
    ap (λ ys. option_to_list (f earlier y) ++ ys) (each_after-append f (earlier ++ y ∷ []) xs x ∙ ap (λ e. each_after f (earlier ++ y ∷ []) xs ++ option_to_list (f e x)) (append_assoc earlier (y ∷ []) xs))
    ∙ sym (append_assoc (option_to_list (f earlier y)) (each_after f (earlier ++ y ∷ []) xs) (option_to_list (f (earlier ++ y ∷ xs) x)))

-- the instruction of a block with one more line
pub instr_grown : (cards : List Card) (design : Design) (b : Block) (n : Numbered) (a : Act) → act_of cards design (arg_of (fields_named design b.format) (local_names b.lines)) n.statement ≡ Some a
    → instr_of cards design (record b { lines = b.lines ++ n ∷ [] })
    ≡ instr_with (local_width design (instr_of cards design b).locals (fields_named design b.format) a) (record { line = n.line; stage = stage_of n.statement; act = a }) (instr_of cards design b)
instr_grown cards design b n a e =
    let fields : List Field = fields_named design b.format in
    let lines : List Micro = micros_of cards design fields b.lines in
    let m : Micro = record { line = n.line; stage = stage_of n.statement; act = a } in
    let grown : micros_of cards design fields (b.lines ++ n ∷ []) ≡ lines ++ m ∷ [] =
    each_after-append (λ earlier x. micro_of cards design fields (local_names earlier) x) [] b.lines n
    ∙ ap (λ o. lines ++ option_to_list (option_map (λ (x : Act). let y : Micro = record { line = n.line; stage = stage_of n.statement; act = x } in y) o)) e in
    let widths : widths_of design fields (lines ++ m ∷ []) ≡ widths_of design fields lines ++ option_to_list (local_width design (widths_of design fields lines) fields a) =
    fold_push (λ ws (x : Micro). ws ++ option_to_list (local_width design ws fields x.act)) [] lines m in
    ap (λ ms. record (instr_of cards design b) { locals = widths_of design fields ms; micros = ms }) grown
    ∙ ap (λ ws. record (instr_of cards design b) { locals = ws; micros = lines ++ m ∷ [] }) widths

-- the fields and the widths of the instruction that began last
pub fields_drafted : (cards : List Card) (whole design : Design) (blocks : List Block) (closed : List Instr) (begun : Option Instr) → record design { instrs = [] } ≡ whole → IsSplit cards whole blocks closed begun
    → option_map_or (fields_of design) begun [] ≡ open_fields whole blocks
fields_drafted cards whole design [] closed None e h = refl
fields_drafted cards whole design [] closed (Some instr) e h = absurd h
fields_drafted cards whole design (b ∷ blocks) closed None e h = absurd h
fields_drafted cards whole design (b ∷ blocks) closed (Some instr) e h =
    ap (λ (i : Instr). fields_of design i) h.1 ∙ ap (λ (d : Design). fields_of d (instr_of cards whole b)) e
    ∙ ap (λ o. option_map_or (λ (f : Format). f.fields) o []) (at_place (λ (f : Format). f.name) whole.formats b.format)

pub widths_drafted : (cards : List Card) (whole : Design) (blocks : List Block) (closed : List Instr) (begun : Option Instr) → IsSplit cards whole blocks closed begun
    → option_map_or (λ (i : Instr). i.locals) begun [] ≡ widths_of whole (open_fields whole blocks) (micros_of cards whole (open_fields whole blocks) (open_lines blocks))
widths_drafted cards whole [] closed None h = refl
widths_drafted cards whole [] closed (Some instr) h = absurd h
widths_drafted cards whole (b ∷ blocks) closed None h = absurd h
widths_drafted cards whole (b ∷ blocks) closed (Some instr) h = ap (λ (i : Instr). i.locals) h.1

-- the instructions of all blocks, the one that began last included
pub instrs_completed : (cards : List Card) (whole : Design) (blocks : List Block) (closed : List Instr) (begun : Option Instr) → IsSplit cards whole blocks closed begun
    → closed ++ option_to_list begun ≡ map (instr_of cards whole) (reverse blocks)
instrs_completed cards whole [] closed None h = ap (λ l. l ++ []) h
instrs_completed cards whole [] closed (Some instr) h = absurd h
instrs_completed cards whole (b ∷ blocks) closed None h = absurd h
instrs_completed cards whole (b ∷ blocks) closed (Some instr) h =
    ap (λ l. l ++ instr ∷ []) h.0 ∙ ap (λ i. map (instr_of cards whole) (reverse blocks) ++ i ∷ []) h.1
    ∙ sym (map-append (instr_of cards whole) (reverse blocks) (b ∷ [])) ∙ ap (map (instr_of cards whole)) (sym (reverse-append (b ∷ []) blocks))
