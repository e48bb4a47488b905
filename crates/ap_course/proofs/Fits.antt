-- The lines of a stage that use no port can be made: what they name is there, with the widths that they ask for.
use Rattle.std.proofs.Common.{◌≡◌, ℕ, zero, suc, ◌+◌, ◌<◌, ◌≤◌, List, [], ◌∷◌, length, map, Option, Some, None, IsTrue, inl, inr, refl, sym, ap, subst, ◌∙◌, arith, true}
use Rattle.std.specs.Prelude.{◌⊎◌, slice_get}
use Rattle.std.specs.List.{AllByRecursion as Each}
use Rattle.std.specs.Option.{option_map, option_map_or}
use Rattle.std.proofs.lemmas.Bool.{cases_lt}
use Rattle.std.proofs.lemmas.List.{length-map}
use Rattle.std.proofs.lemmas.Option.{same_Some, slice_get_within}
use Rattle.ap_bits.specs.declared.card.Card.{Card}
use Rattle.ap_desc.specs.Chains.{operands_of}
use Rattle.ap_desc.specs.Clean.{FitsCards}
use Rattle.ap_desc.specs.Designs.{IsArg, IsInRange, arg_width, fields_of, local_width, width_at}
use Rattle.ap_desc.specs.Widths.{has_widths}
use Rattle.ap_desc.specs.declared.design.Act.{Act}
use Rattle.ap_desc.specs.declared.design.Act.TheVariants as act
use Rattle.ap_desc.specs.declared.design.Arg.{Arg}
use Rattle.ap_desc.specs.declared.design.Arg.TheVariants as arg
use Rattle.ap_desc.specs.declared.design.Design.{Design}
use Rattle.ap_desc.specs.declared.design.Field.{Field}
use Rattle.ap_desc.specs.declared.design.InPort.{InPort as Input}
use Rattle.ap_desc.specs.declared.design.Instr.{Instr}
use Rattle.ap_desc.specs.declared.design.Reg.{Reg}
use Rattle.ap_model.proofs.PlainWidths.{cat_widths, const_widths, sext_widths, slice_widths, zext_widths}
use Rattle.ap_net.specs.declared.cell.Wire.{Wire}
use Rattle.ap_ports.proofs.Members.{each_of}
use Rattle.ap_stage.specs.declared.row.Line.{Line}
use Rattle.ap_stage.specs.declared.source.Ground.{Ground}
use Rattle.ap_stage.specs.Rows.{AreLines, IsLine, IsOther}
use Rattle.ap_stage.specs.Sources.{HasRoom, NamesNets, bits_of, line_bits}
use Rattle.ap_course.specs.Instrs.{IsGroundOf}
use Rattle.ap_course.specs.Lines.{is_portless, lines_of, scope_of}
use Rattle.ap_course.proofs.Lined.{line_from, line_is, lines_apart, lines_rise}
use Rattle.ap_course.proofs.Makers.{good_at, maker_at}

-- Widths by place.

pub get_map : {X Y : Type 0} (f : X → Y) (xs : List X) (i : ℕ) → slice_get (map f xs) i ≡ option_map f (slice_get xs i)
get_map f [] i = refl
get_map f (x ∷ xs) zero = refl
get_map f (x ∷ xs) (suc i) = get_map f xs i

of_option : {X : Type 0} (f : X → ℕ) (o : Option X) → option_map_or (λ (n : ℕ). n) (option_map f o) 0 ≡ option_map_or f o 0
of_option f None = refl
of_option f (Some x) = refl

width_map : {X : Type 0} (f : X → ℕ) (xs : List X) (i : ℕ) → width_at (λ (n : ℕ). n) (map f xs) i ≡ width_at f xs i
width_map f xs i = ap (λ o. option_map_or (λ (n : ℕ). n) o 0) (get_map f xs i) ∙ of_option f (slice_get xs i)

same_widths : {X Y : Type 0} (f : X → ℕ) (g : Y → ℕ) (xs : List X) (ys : List Y) (i : ℕ) → map f xs ≡ map g ys → width_at f xs i ≡ width_at g ys i
same_widths f g xs ys i same = sym (width_map f xs i) ∙ ap (λ ws. width_at (λ (n : ℕ). n) ws i) same ∙ width_map g ys i

same_count : {X Y : Type 0} (f : X → ℕ) (g : Y → ℕ) (xs : List X) (ys : List Y) → map f xs ≡ map g ys → length xs ≡ length ys
same_count f g xs ys same = sym (length-map xs f) ∙ ap length same ∙ length-map ys g

-- fewer locals than there are
arg_more : (n m : ℕ) (fields : List Field) (a : Arg) → n ≤ m → IsArg n fields a → IsArg m fields a
arg_more n m fields (arg.Local i) few h = omega (arith, few, h)
arg_more n m fields (arg.Field i) few h = h
arg_more n m fields arg.Pc few h = tt
arg_more n m fields arg.Link few h = tt

pub args_more : (n m : ℕ) (fields : List Field) (args : List Arg) → n ≤ m → Each (IsArg n fields) args → Each (IsArg m fields) args
args_more n m fields [] few each = tt
args_more n m fields (a ∷ args) few each = (arg_more n m fields a few each.0, args_more n m fields args few each.1)

-- an operand that is a local below one is another
below_other : (n m : ℕ) (fields : List Field) (a : Arg) → n ≤ m → IsArg n fields a → IsOther m a
below_other n m fields (arg.Local i) few h = λ e. omega (arith, few, h, e)
below_other n m fields (arg.Field i) few h = tt
below_other n m fields arg.Pc few h = tt
below_other n m fields arg.Link few h = tt

each_other : (n m : ℕ) (fields : List Field) (args : List Arg) → n ≤ m → Each (IsArg n fields) args → Each (IsOther m) args
each_other n m fields [] few each = tt
each_other n m fields (a ∷ args) few each = (below_other n m fields a few each.0, each_other n m fields args few each.1)

module _ (design : Design) (instr : Instr) (ground : Ground) (of : IsGroundOf design ground) where
  pub bits_are : (a : Arg) → bits_of ground (scope_of design instr) a ≡ arg_width design instr.locals (fields_of design instr) a
  bits_are (arg.Local i) = refl
  bits_are (arg.Field i) = refl
  bits_are arg.Pc = of.place
  bits_are arg.Link = of.link

  names_there : (n : ℕ) (a : Act) → is_portless a ≡ true → n ≤ length instr.locals → IsInRange design n (fields_of design instr) a → Each (IsArg n (fields_of design instr)) (operands_of a) → NamesNets ground (scope_of design instr) a
  names_there n (act.ReadReg reg) portless few range each = let same = same_count (λ (w : Wire). w.width) (λ (r : Reg). r.width) ground.regs design.regs of.regs in omega (arith, range, same)
  names_there n (act.ReadIn input) portless few range each = let same = same_count (λ (w : Wire). w.width) (λ (p : Input). p.width) ground.inputs design.inputs of.inputs in omega (arith, range, same)
  names_there n (act.Const width value) portless few range each = tt
  names_there n (act.Zext width a) portless few range each = args_more n (length instr.locals) (fields_of design instr) (a ∷ []) few each
  names_there n (act.Sext width a) portless few range each = args_more n (length instr.locals) (fields_of design instr) (a ∷ []) few each
  names_there n (act.Slice high low a) portless few range each = args_more n (length instr.locals) (fields_of design instr) (a ∷ []) few each
  names_there n (act.Cat a b) portless few range each = args_more n (length instr.locals) (fields_of design instr) (a ∷ b ∷ []) few each
  names_there n _ portless few range each = absurd cc

  -- the width of what a line gives is that of its local
  line_width : (a : Act) (w : ℕ) → is_portless a ≡ true → local_width design instr.locals (fields_of design instr) a ≡ Some w → line_bits ground (scope_of design instr) a ≡ w
  line_width (act.ReadReg reg) w portless gives = same_widths (λ (x : Wire). x.width) (λ (r : Reg). r.width) ground.regs design.regs reg of.regs ∙ same_Some _ w gives
  line_width (act.ReadIn input) w portless gives = same_widths (λ (x : Wire). x.width) (λ (p : Input). p.width) ground.inputs design.inputs input of.inputs ∙ same_Some _ w gives
  line_width (act.Const width value) w portless gives = same_Some width w gives
  line_width (act.Zext width a) w portless gives = same_Some width w gives
  line_width (act.Sext width a) w portless gives = same_Some width w gives
  line_width (act.Slice high low a) w portless gives = same_Some _ w gives
  line_width (act.Cat a b) w portless gives = (λ i. bits_are a i + bits_are b i) ∙ same_Some _ w gives
  line_width _ w portless gives = absurd cc

  room_there : (a : Act) (w : ℕ) → is_portless a ≡ true → IsTrue (has_widths design (arg_width design instr.locals (fields_of design instr)) a) → local_width design instr.locals (fields_of design instr) a ≡ Some w → 1 ≤ w → w ≤ 64
      → HasRoom ground (scope_of design instr) a
  room_there (act.ReadReg reg) w portless typed gives some most = tt
  room_there (act.ReadIn input) w portless typed gives some most = tt
  room_there (act.Const width value) w portless typed gives some most =
      let same = same_Some width w gives in
      (omega (arith, some, same), omega (arith, most, same), const_widths design (arg_width design instr.locals (fields_of design instr)) width value typed)
  room_there (act.Zext width a) w portless typed gives some most =
      let same = same_Some width w gives in
      let fits = zext_widths design (arg_width design instr.locals (fields_of design instr)) width a typed in
      (subst (λ n. n ≤ width) (sym (bits_are a)) fits, omega (arith, most, same))
  room_there (act.Sext width a) w portless typed gives some most =
      let fits = sext_widths design (arg_width design instr.locals (fields_of design instr)) width a typed in
      (subst (λ n. n ≤ width) (sym (bits_are a)) fits.0, fits.1)
  room_there (act.Slice high low a) w portless typed gives some most =
      let fits = slice_widths design (arg_width design instr.locals (fields_of design instr)) high low a typed in
      (fits.0, subst (λ n. high < n) (sym (bits_are a)) fits.1)
  room_there (act.Cat a b) w portless typed gives some most =
      let fits = cat_widths design (arg_width design instr.locals (fields_of design instr)) a b typed in
      let first = bits_are a in
      let second = bits_are b in
      omega (arith, fits, first, second)
  room_there _ w portless typed gives some most = absurd cc

  module _ (cards : List Card) (k : ℕ) (fits : FitsCards design cards) (at : slice_get design.instrs k ≡ Some instr) (stage : ℕ) where
    line_can : (j : ℕ) (l : Line) → slice_get (lines_of stage instr) j ≡ Some l → IsLine ground (scope_of design instr) l
    line_can j l there =
        let from = line_from stage instr j l there in
        let is = line_is stage (0 + from.place) from.item l from.gives in
        let maker = maker_at design instr (good_at design cards k instr fits at) from.place from.item from.at in
        let low = slice_get_within instr.locals from.place maker.width maker.has in
        let number : l.local ≡ from.place = let n = is.number in omega (arith, n) in
        let bits : line_bits ground (scope_of design instr) l.act ≡ maker.width = ap (line_bits ground (scope_of design instr)) is.act ∙ line_width from.item.act maker.width is.portless maker.gives in
        record {
          names = subst (NamesNets ground (scope_of design instr)) (sym is.act) (names_there from.place from.item.act is.portless (omega (arith, low)) maker.range maker.operands);
          room = subst (HasRoom ground (scope_of design instr)) (sym is.act) (room_there from.item.act maker.width is.portless maker.typed maker.gives maker.some maker.most);
          local = omega (arith, low, number);
          bits = bits ∙ sym (ap (λ i. width_at (λ (n : ℕ). n) instr.locals i) number ∙ ap (λ o. option_map_or (λ (n : ℕ). n) o 0) maker.has);
        }

    -- no line looks at its own local or at a later one's
    looks_back : (j i : ℕ) (l later : Line) → slice_get (lines_of stage instr) j ≡ Some l → slice_get (lines_of stage instr) i ≡ Some later → j ≤ i → Each (IsOther later.local) (operands_of l.act)
    looks_back j i l later there that order =
        let from = line_from stage instr j l there in
        let is = line_is stage (0 + from.place) from.item l from.gives in
        let maker = maker_at design instr (good_at design cards k instr fits at) from.place from.item from.at in
        let number : l.local ≡ from.place = let n = is.number in omega (arith, n) in
        let rises : l.local ≤ later.local = go (cases_lt j i) in
        subst (λ a. Each (IsOther later.local) (operands_of a)) (sym is.act) (each_other from.place later.local (fields_of design instr) (operands_of from.item.act) (omega (arith, number, rises)) maker.operands)
      where
        go : (j < i) ⊎ (i ≤ j) → l.local ≤ later.local
        go (inl low) = let less = lines_rise stage instr j i l later there that low in omega (arith, less)
        go (inr high) =
            let same : j ≡ i = omega (arith, order, high) in
            let one : l ≡ later = same_Some l later (sym there ∙ ap (slice_get (lines_of stage instr)) same ∙ that) in
            subst (λ (x : Line). l.local ≤ x.local) one (omega arith)

    pub lines_can : AreLines ground (scope_of design instr) (lines_of stage instr)
    lines_can = record { each = each_of (IsLine ground (scope_of design instr)) (lines_of stage instr) line_can; apart = lines_apart stage instr; back = looks_back }
