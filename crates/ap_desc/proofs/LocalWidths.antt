-- The widths of an instruction's locals: those of the lines before a line are the first of all.
use Rattle.std.proofs.Common.{◌≡◌, ℕ, zero, suc, ◌+◌, ◌<◌, List, [], ◌∷◌, ◌++◌, fold, length, Option, Some, None, refl, sym, subst, ap, ◌∙◌, arith, append-nil, append_assoc, length-append}
use Rattle.std.specs.Prelude.{slice_get, option_to_list}
use Rattle.std.specs.List.{filter_map, cons_option}
use Rattle.std.specs.Option.{option_map_or}
use Rattle.ap_desc.specs.Designs.{AreInRange, IsArg, IsInRange, IsInstr, arg_width, assigned_count, local_width}
use Rattle.ap_desc.specs.declared.design.Design.{Design}
use Rattle.ap_desc.specs.declared.design.Field.{Field}
use Rattle.ap_desc.specs.declared.design.Instr.{Instr}
use Rattle.ap_desc.specs.declared.design.Micro.{Micro}
use Rattle.ap_desc.specs.declared.design.Arg.{Arg}
use Rattle.ap_desc.specs.declared.design.Arg.TheVariants as arg
use Rattle.ap_desc.specs.declared.design.Act.{Act}
use Rattle.ap_desc.specs.declared.design.Act.TheVariants as act

pub get_left : {X : Type 0} (xs more : List X) (i : ℕ) → i < length xs → slice_get (xs ++ more) i ≡ slice_get xs i
get_left [] more i low = absurd (omega arith)
get_left (x ∷ xs) more zero low = refl
get_left (x ∷ xs) more (suc i) low = get_left xs more i (omega arith)

pub cons_or_not : {X : Type 0} (o : Option X) (xs : List X) → cons_option o xs ≡ option_to_list o ++ xs
cons_or_not None xs = refl
cons_or_not (Some x) xs = refl

module _ (design : Design) (fields : List Field) where
  -- an operand that is there has one width, however many more locals follow
  pub arg_width_stays : (widths more : List ℕ) (a : Arg) → IsArg (length widths) fields a → arg_width design (widths ++ more) fields a ≡ arg_width design widths fields a
  arg_width_stays widths more (arg.Local i) low = ap (λ o. option_map_or (λ (w : ℕ). w) o 0) (get_left widths more i low)
  arg_width_stays widths more (arg.Field i) low = refl
  arg_width_stays widths more arg.Pc low = refl
  arg_width_stays widths more arg.Link low = refl

  pub local_width_stays : (widths more : List ℕ) (a : Act) → IsInRange design (length widths) fields a → local_width design (widths ++ more) fields a ≡ local_width design widths fields a
  local_width_stays widths more (act.Cat x y) range = ap (λ n. Some (n + arg_width design (widths ++ more) fields y)) (arg_width_stays widths more x range.0) ∙ ap (λ n. Some (arg_width design widths fields x + n)) (arg_width_stays widths more y range.1)
  local_width_stays widths more (act.Compute unit op a b) range = refl
  local_width_stays widths more (act.ReadFile file port index) range = refl
  local_width_stays widths more (act.ReadReg reg) range = refl
  local_width_stays widths more (act.ReadMem mem at) range = refl
  local_width_stays widths more (act.ReadIn input) range = refl
  local_width_stays widths more (act.Const width value) range = refl
  local_width_stays widths more (act.Zext width a) range = refl
  local_width_stays widths more (act.Sext width a) range = refl
  local_width_stays widths more (act.Slice high low a) range = refl
  local_width_stays widths more _ range = refl

  pub assigned_length : (widths : List ℕ) (a : Act) → length (option_to_list (local_width design widths fields a)) ≡ assigned_count a
  assigned_length widths (act.Compute unit op a b) = refl
  assigned_length widths (act.ReadFile file port index) = refl
  assigned_length widths (act.ReadReg reg) = refl
  assigned_length widths (act.ReadMem mem at) = refl
  assigned_length widths (act.ReadIn input) = refl
  assigned_length widths (act.Const width value) = refl
  assigned_length widths (act.Zext width a) = refl
  assigned_length widths (act.Sext width a) = refl
  assigned_length widths (act.Slice high low a) = refl
  assigned_length widths (act.Cat a b) = refl
  assigned_length widths _ = refl

  -- the widths after further lines
  abbrev pub widths_on : List ℕ → List Micro → List ℕ
  widths_on widths micros = fold (λ ws (m : Micro). ws ++ option_to_list (local_width design ws fields m.act)) widths micros

  pub widths_extend : (widths : List ℕ) (micros : List Micro) → (more : List ℕ) × (widths_on widths micros ≡ widths ++ more)
  widths_extend widths [] = ([], sym (append-nil widths))
  widths_extend widths (m ∷ micros) =
      let own = option_to_list (local_width design widths fields m.act) in
      let (more, e) = widths_extend (widths ++ own) micros in
      (own ++ more, e ∙ append_assoc widths own more)

  -- each line's width may be asked with all widths
  by_lines : (widths whole : List ℕ) (micros : List Micro) → widths_on widths micros ≡ whole → AreInRange design (length widths) fields micros
      → widths_on widths micros ≡ widths ++ filter_map (λ (m : Micro). local_width design whole fields m.act) micros
  by_lines widths whole [] e range = sym (append-nil widths)
  by_lines widths whole (m ∷ micros) e range =
      let o = local_width design widths fields m.act in
      let (more, longer) = widths_extend widths (m ∷ micros) in
      let whole_is : whole ≡ widths ++ more = sym e ∙ longer in
      let same : local_width design whole fields m.act ≡ o = ap (λ ws. local_width design ws fields m.act) whole_is ∙ local_width_stays widths more m.act range.0 in
      let count : length widths + assigned_count m.act ≡ length (widths ++ option_to_list o) = sym (length-append widths (option_to_list o) ∙ ap (λ n. length widths + n) (assigned_length widths m.act)) in
      let rest = filter_map (λ (n : Micro). local_width design whole fields n.act) micros in
      let later : widths_on (widths ++ option_to_list o) micros ≡ (widths ++ option_to_list o) ++ rest
      = by_lines (widths ++ option_to_list o) whole micros e (subst (λ n. AreInRange design n fields micros) count range.1) in
      later ∙ append_assoc widths (option_to_list o) rest ∙ ap (λ xs. widths ++ xs) (sym (cons_or_not o rest)) ∙ ap (λ p. widths ++ cons_option p rest) (sym same)

  pub locals_by_lines : (instr : Instr) → IsInstr design fields instr → instr.locals ≡ filter_map (λ (m : Micro). local_width design instr.locals fields m.act) instr.micros
  locals_by_lines instr is = is.locals ∙ by_lines [] instr.locals instr.micros (sym is.locals) is.range
