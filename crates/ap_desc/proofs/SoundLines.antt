-- A line of an instruction without fault, in the scope of those before it: what it does is in range, of the cards, and has its widths.
use Rattle.std.proofs.Common.{◌≡◌, ℕ, ◌<◌, Bool, true, false, if◌then◌else◌, List, length, Option, Some, None, inl, inr, refl, sym, subst, ap, ◌∙◌, ltb-true}
use Rattle.std.specs.Prelude.{◌||◌, not, nat_lt, slice_get, IfSome, IsSomeAnd, option_map, option_and_then}
use Rattle.std.specs.Option.{option_map_or}
use Rattle.std.proofs.lemmas.Bool.{and_cases, both_ways, not-false, or_parts}
use Rattle.ap_bits.specs.Cards.{operation_names}
use Rattle.ap_bits.specs.declared.card.Card.{Card}
use Rattle.ap_bits.specs.declared.card.OpCard.{OpCard}
use Rattle.ap_desc.proofs.Members.{each_get, some_and}
use Rattle.ap_desc.proofs.Named.{at_place, named_there, place_below, place_if, there_if}
use Rattle.ap_desc.specs.Designs.{IsArg, IsInRange, assigned_count}
use Rattle.ap_desc.specs.Instructions.{act_of, arg_of, assigned_name, operation_place}
use Rattle.ap_desc.specs.NameFaults.{is_missing, is_no_guard, is_no_operand, is_no_operation, is_no_read_port, is_no_write_port, is_unknown}
use Rattle.ap_desc.specs.Order.{is_micro}
use Rattle.ap_desc.specs.Parts.{card_of_unit, file_named, file_names, mem_names, names_of_fields, place_of, reg_names, unit_names}
use Rattle.ap_desc.specs.Reserved.{is_among}
use Rattle.ap_desc.specs.Scope.{Scope}
use Rattle.ap_desc.specs.Shelf.{HasOperation, IsOfCard}
use Rattle.ap_desc.specs.declared.design.Design.{Design}
use Rattle.ap_desc.specs.declared.design.Reg.{Reg}
use Rattle.ap_desc.specs.declared.design.File.{File}
use Rattle.ap_desc.specs.declared.design.Mem.{Mem}
use Rattle.ap_desc.specs.declared.design.InPort.{InPort}
use Rattle.ap_desc.specs.declared.design.Unit.{Unit as Resource}
use Rattle.ap_desc.specs.declared.design.Field.{Field}
use Rattle.ap_desc.specs.declared.design.Arg.{Arg}
use Rattle.ap_desc.specs.declared.design.Arg.TheVariants as arg
use Rattle.ap_desc.specs.declared.design.Act.{Act}
use Rattle.ap_desc.specs.declared.statement.Word.{Word}
use Rattle.ap_desc.specs.declared.statement.Word.TheVariants.{Pc, Link, Named}
use Rattle.ap_desc.specs.declared.statement.Statement.{Statement}
use Rattle.ap_desc.specs.declared.statement.Statement.TheVariants as s
use Rattle.std.specs.List.{AllByRecursion as Each}

module _ (scope : Scope) where
  -- an operand that is known is there
  arg_there : (w : Word) → is_no_operand scope w ≡ false → IsArg (length scope.locals) scope.fields (arg_of scope.fields scope.locals w)
  arg_there Pc e = tt
  arg_there Link e = tt
  arg_there (Named name) e = go (is_among name scope.locals) refl where
    go : (b : Bool) → is_among name scope.locals ≡ b → IsArg (length scope.locals) scope.fields (if b then arg.Local (place_of scope.locals name) else arg.Field (place_of (names_of_fields scope.fields) name))
    go true there = place_below scope.locals name there
    go false other = elim (and_cases (is_missing name (names_of_fields scope.fields)) (is_missing name scope.locals) e) [
      | inl field ↦ place_if (λ (f : Field). f.name) scope.fields name field
      | inr local ↦ absurd (both_ways (is_among name scope.locals) other (there_if scope.locals name local))
    ]

  guard_there : (guard : Option Word) → is_no_guard scope guard ≡ false → IfSome (option_map (arg_of scope.fields scope.locals) guard) (IsArg (length scope.locals) scope.fields)
  guard_there None e = tt
  guard_there (Some w) e = arg_there w e

  port_there : (name : List ℕ) (port : ℕ) (count_of : File → ℕ) → option_map_or (λ (f : File). not (nat_lt port (count_of f))) (file_named scope.design name) true ≡ false
      → IsSomeAnd (slice_get scope.design.files (place_of (file_names scope.design) name)) (λ f. port < count_of f)
  port_there name port count_of e = subst (λ o. IsSomeAnd o (λ f. port < count_of f)) (sym (at_place (λ (f : File). f.name) scope.design.files name)) (go (file_named scope.design name) e) where
    go : (o : Option File) → option_map_or (λ (f : File). not (nat_lt port (count_of f))) o true ≡ false → IsSomeAnd o (λ f. port < count_of f)
    go None wrong = absurd cc
    go (Some f) low = ltb-true port (count_of f) (not-false (nat_lt port (count_of f)) low)

  -- what a line does is in range
  pub line_range : (cards : List Card) (statement : Statement) → is_unknown scope statement ≡ false
      → IfSome (act_of cards scope.design (arg_of scope.fields scope.locals) statement) (IsInRange scope.design (length scope.locals) scope.fields)
  line_range cards (s.Compute stage to unit op a b) e =
      let two = or_parts (is_missing unit (unit_names scope.design) || is_no_operand scope a) (is_no_operand scope b) e in
      let one = or_parts (is_missing unit (unit_names scope.design)) (is_no_operand scope a) two.0 in
      (place_if (λ (u : Resource). u.name) scope.design.units unit one.0, arg_there a one.1, arg_there b two.1)
  line_range cards (s.ReadFile stage to file port index) e =
      let parts = or_parts (is_no_read_port scope file port) (is_no_operand scope index) e in
      (port_there file port (λ (f : File). f.reads) parts.0, arg_there index parts.1)
  line_range cards (s.ReadRegister stage to reg) e = place_if (λ (r : Reg). r.name) scope.design.regs reg e
  line_range cards (s.ReadMemory stage to mem at) e =
      let parts = or_parts (is_missing mem (mem_names scope.design)) (is_no_operand scope at) e in
      (place_if (λ (m : Mem). m.name) scope.design.mems mem parts.0, arg_there at parts.1)
  line_range cards (s.ReadInput stage to input) e = place_if (λ (p : InPort). p.name) scope.design.inputs input e
  line_range cards (s.Const stage to width value) e = tt
  line_range cards (s.Zext stage to width a) e = arg_there a e
  line_range cards (s.Sext stage to width a) e = arg_there a e
  line_range cards (s.Slice stage to high low a) e = arg_there a e
  line_range cards (s.Cat stage to a b) e = let parts = or_parts (is_no_operand scope a) (is_no_operand scope b) e in (arg_there a parts.0, arg_there b parts.1)
  line_range cards (s.WriteFile stage file port index value guard) e =
      let three = or_parts (is_no_write_port scope file port || is_no_operand scope index || is_no_operand scope value) (is_no_guard scope guard) e in
      let two = or_parts (is_no_write_port scope file port || is_no_operand scope index) (is_no_operand scope value) three.0 in
      let one = or_parts (is_no_write_port scope file port) (is_no_operand scope index) two.0 in
      (port_there file port (λ (f : File). f.writes) one.0, arg_there index one.1, arg_there value two.1, guard_there guard three.1)
  line_range cards (s.WriteRegister stage reg value guard) e =
      let two = or_parts (is_missing reg (reg_names scope.design) || is_no_operand scope value) (is_no_guard scope guard) e in
      let one = or_parts (is_missing reg (reg_names scope.design)) (is_no_operand scope value) two.0 in
      (place_if (λ (r : Reg). r.name) scope.design.regs reg one.0, arg_there value one.1, guard_there guard two.1)
  line_range cards (s.WriteMemory stage mem at value guard) e =
      let three = or_parts (is_missing mem (mem_names scope.design) || is_no_operand scope at || is_no_operand scope value) (is_no_guard scope guard) e in
      let two = or_parts (is_missing mem (mem_names scope.design) || is_no_operand scope at) (is_no_operand scope value) three.0 in
      let one = or_parts (is_missing mem (mem_names scope.design)) (is_no_operand scope at) two.0 in
      (place_if (λ (m : Mem). m.name) scope.design.mems mem one.0, arg_there at one.1, arg_there value two.1, guard_there guard three.1)
  line_range cards (s.Branch stage cond target) e = let parts = or_parts (is_no_operand scope cond) (is_no_operand scope target) e in (arg_there cond parts.0, arg_there target parts.1)
  line_range cards (s.Jump stage target) e = arg_there target e
  line_range cards _ e = tt

  -- and of the cards
  pub line_operation : (cards : List Card) (statement : Statement) → Each (IsOfCard cards) scope.design.units → is_unknown scope statement ≡ false → is_no_operation cards scope statement ≡ false
      → IfSome (act_of cards scope.design (arg_of scope.fields scope.locals) statement) (HasOperation cards scope.design)
  line_operation cards (s.Compute stage to unit op a b) each known e =
      let two = or_parts (is_missing unit (unit_names scope.design) || is_no_operand scope a) (is_no_operand scope b) known in
      let one = or_parts (is_missing unit (unit_names scope.design)) (is_no_operand scope a) two.0 in
      let (u, found) = named_there (λ (u : Resource). u.name) scope.design.units unit one.0 in
      let at = at_place (λ (u : Resource). u.name) scope.design.units unit ∙ found in
      let (card, card_at, fits) = some_and (slice_get cards u.kind) _ (each_get (IsOfCard cards) scope.design.units (place_of (unit_names scope.design) unit) u each at) in
      let of_unit : card_of_unit cards scope.design unit ≡ Some card = ap (option_and_then (λ (u : Resource). slice_get cards u.kind)) found ∙ card_at in
      let known_op : is_missing op (operation_names card) ≡ false = sym (ap (λ o. option_map_or (λ (c : Card). is_missing op (operation_names c)) o false) of_unit) ∙ e in
      let low = place_if (λ (o : OpCard). o.name) card.ops op known_op in
      let place : operation_place cards scope.design unit op ≡ place_of (operation_names card) op = ap (λ o. option_map_or (λ (c : Card). place_of (operation_names c) op) o 0) of_unit in
      subst (λ o. IsSomeAnd o (λ u. IsSomeAnd (slice_get cards u.kind) (λ card. operation_place cards scope.design unit op < length card.ops))) (sym at)
      (subst (λ o. IsSomeAnd o (λ card. operation_place cards scope.design unit op < length card.ops)) (sym card_at) (subst (λ n. n < length card.ops) (sym place) low))
  line_operation cards (s.ReadFile stage to file port index) each known e = tt
  line_operation cards (s.ReadRegister stage to reg) each known e = tt
  line_operation cards (s.ReadMemory stage to mem at) each known e = tt
  line_operation cards (s.ReadInput stage to input) each known e = tt
  line_operation cards (s.Const stage to width value) each known e = tt
  line_operation cards (s.Zext stage to width a) each known e = tt
  line_operation cards (s.Sext stage to width a) each known e = tt
  line_operation cards (s.Slice stage to high low a) each known e = tt
  line_operation cards (s.Cat stage to a b) each known e = tt
  line_operation cards (s.WriteFile stage file port index value guard) each known e = tt
  line_operation cards (s.WriteRegister stage reg value guard) each known e = tt
  line_operation cards (s.WriteMemory stage mem at value guard) each known e = tt
  line_operation cards (s.Branch stage cond target) each known e = tt
  line_operation cards (s.Jump stage target) each known e = tt
  line_operation cards _ each known e = tt

-- a line of an instruction does something, and assigns a local where its action does
pub line_acts : (cards : List Card) (design : Design) (a : Word → Arg) (statement : Statement) → is_micro statement ≡ true → (x : Act) × (act_of cards design a statement ≡ Some x) × (length (assigned_name statement) ≡ assigned_count x)
line_acts cards design a (s.Compute stage to unit op x y) micro = (_, refl, refl)
line_acts cards design a (s.ReadFile stage to file port index) micro = (_, refl, refl)
line_acts cards design a (s.ReadRegister stage to reg) micro = (_, refl, refl)
line_acts cards design a (s.ReadMemory stage to mem at) micro = (_, refl, refl)
line_acts cards design a (s.ReadInput stage to input) micro = (_, refl, refl)
line_acts cards design a (s.Const stage to width value) micro = (_, refl, refl)
line_acts cards design a (s.Zext stage to width x) micro = (_, refl, refl)
line_acts cards design a (s.Sext stage to width x) micro = (_, refl, refl)
line_acts cards design a (s.Slice stage to high low x) micro = (_, refl, refl)
line_acts cards design a (s.Cat stage to x y) micro = (_, refl, refl)
line_acts cards design a (s.WriteFile stage file port index value guard) micro = (_, refl, refl)
line_acts cards design a (s.WriteRegister stage reg value guard) micro = (_, refl, refl)
line_acts cards design a (s.WriteMemory stage mem at value guard) micro = (_, refl, refl)
line_acts cards design a (s.Branch stage cond target) micro = (_, refl, refl)
line_acts cards design a (s.Jump stage target) micro = (_, refl, refl)
line_acts cards design a _ micro = absurd cc
