-- The instructions of a description without fault: their lines are in range and of the cards, and have the widths that they need.
use Rattle.std.proofs.Common.{◌≡◌, ℕ, ◌≤◌, ◌+◌, Bool, true, false, List, [], ◌∷◌, ◌++◌, map, length, Some, inl, inr, refl, sym, subst, ap, ◌∙◌, arith, length-append}
use Rattle.std.specs.Prelude.{◌&&◌, ◌==◌, not, IfSome, option_map, option_to_list}
use Rattle.std.specs.List.{AllByRecursion as Each}
use Rattle.std.specs.Option.{option_map_or}
use Rattle.std.proofs.lemmas.Bool.{both_ways, cases_eq, eq-eqb, not-false, or_parts}
use Rattle.std.proofs.lemmas.List.Sums.{fold_push}
use Rattle.ap_bits.specs.declared.card.Card.{Card}
use Rattle.ap_desc.proofs.Growing.{locals_push, micros_push}
use Rattle.ap_desc.proofs.LocalWidths.{assigned_length, widths_extend, widths_on}
use Rattle.ap_desc.proofs.SoundBlocks.{AreRightLines, IsRightLine, scope_for}
use Rattle.ap_desc.proofs.SoundLines.{line_acts, line_operation, line_range}
use Rattle.ap_desc.proofs.SoundWidths.{HasWidths, has_widths_stays, local_is_width, micro_range, micro_wide, none_of_widths}
use Rattle.ap_desc.proofs.Splits.{each_append}
use Rattle.ap_desc.specs.Designs.{AreInRange, IsInRange, arg_width, assigned_count, is_stage, is_width, local_width, widths_of}
use Rattle.ap_desc.specs.Instructions.{act_of, arg_of, assigned_name, each_after, local_names, micro_of, micros_of, stage_of}
use Rattle.ap_desc.specs.Scope.{Scope}
use Rattle.ap_desc.specs.Shelf.{HasOperation, IsOfCard}
use Rattle.ap_desc.specs.Widths.{differs, has_bad_width, has_widths, is_bad_slice, is_no_target, is_not_one_bit, is_wide_constant}
use Rattle.ap_desc.specs.WidthFaults.{does, is_beyond, width_in}
use Rattle.ap_desc.specs.declared.description.Numbered.{Numbered}
use Rattle.ap_desc.specs.declared.design.Design.{Design}
use Rattle.ap_desc.specs.declared.design.Field.{Field}
use Rattle.ap_desc.specs.declared.design.Micro.{Micro}
use Rattle.ap_desc.specs.declared.design.Act.{Act}
use Rattle.ap_desc.specs.declared.fault.Fault.TheVariants as f

-- what the lines of an instruction are, in a design with these widths and cards
module _ (cards : List Card) (design : Design) (parts : HasWidths design) (units : Each (IsOfCard cards) design.units) (fields : List Field) (of_fields : Each (λ (x : Field). is_width x.width ≡ true) fields) where
  abbrev pub micros_from : List Numbered → List Numbered → List Micro
  micros_from earlier lines = each_after (λ before n. micro_of cards design fields (local_names before) n) earlier lines

  abbrev pub widths_after : List Numbered → List ℕ
  widths_after earlier = widths_of design fields (micros_of cards design fields earlier)

  -- a line after these, and what it does
  record IsLine (earlier : List Numbered) (m : Numbered) (a : Act) : Type 0 where
    acts : micro_of cards design fields (local_names earlier) m ≡ Some (record { line = m.line; stage = stage_of m.statement; act = a })
    range : IsInRange design (length (widths_after earlier)) fields a
    operation : HasOperation cards design a
    typed : has_widths design (arg_width design (widths_after earlier) fields) a ≡ true
    widths : Each (λ w. is_width w ≡ true) (option_to_list (local_width design (widths_after earlier) fields a))
    stage : is_stage design.stages (stage_of m.statement) ≡ true
    count : length (assigned_name m.statement) ≡ assigned_count a

  line_is : (earlier : List Numbered) (m : Numbered) → IsRightLine cards design fields earlier m → length (widths_after earlier) ≡ length (local_names earlier) → Each (λ w. is_width w ≡ true) (widths_after earlier)
      → (a : Act) × IsLine earlier m a
  line_is earlier m right even of_locals = (
    a,
    record {
      acts = ap (option_map (λ x. record { line = m.line; stage = stage_of m.statement; act = x })) acts;
      range = range;
      operation = subst (λ o. IfSome o (HasOperation cards design)) acts (line_operation scope cards m.statement units (right.sound f.Unknown) (right.sound f.NoOperation));
      typed = none_of_widths design (width_in scope) a bad (of_act (differs design (width_in scope)) (right.sound f.Differs)) slice
          (of_act is_wide_constant (sym (micro_wide cards scope m.statement right.micro) ∙ right.sound f.TooWideConstant))
          (of_act (is_not_one_bit (width_in scope)) (right.sound f.NotOneBit)) (of_act (is_no_target design (width_in scope)) (right.sound f.Target));
      widths = local_is_width design fields (widths_after earlier) parts of_fields of_locals a range bad slice;
      stage = not-false (is_stage design.stages (stage_of m.statement)) within;
      count = found.2;
    },
  ) where
    scope : Scope
    scope = scope_for cards design right.names fields earlier

    found : (x : Act) × (act_of cards design (arg_of fields (local_names earlier)) m.statement ≡ Some x) × (length (assigned_name m.statement) ≡ assigned_count x)
    found = line_acts cards design (arg_of fields (local_names earlier)) m.statement right.micro

    a : Act
    a = found.0

    acts : act_of cards design (arg_of fields (local_names earlier)) m.statement ≡ Some a
    acts = found.1

    range : IsInRange design (length (widths_after earlier)) fields a
    range = subst (λ n. IsInRange design n fields a) (sym even) (subst (λ o. IfSome o (IsInRange design (length (local_names earlier)) fields)) acts (line_range scope cards m.statement (right.sound f.Unknown)))

    -- what isn't met of the line isn't met of what it does
    of_act : (test : Act → Bool) → does cards scope test m.statement ≡ false → test a ≡ false
    of_act test e = sym (ap (λ o. option_map_or test o false) acts) ∙ e

    ranges : (is_beyond scope m.statement ≡ false) × (does cards scope (has_bad_width (width_in scope)) m.statement ≡ false)
    ranges = or_parts (is_beyond scope m.statement) (does cards scope (has_bad_width (width_in scope)) m.statement) (sym (micro_range cards scope m.statement right.micro) ∙ right.sound f.Range)

    bad : has_bad_width (width_in scope) a ≡ false
    bad = of_act (has_bad_width (width_in scope)) ranges.1

    slice : is_bad_slice (width_in scope) a ≡ false
    slice = of_act (is_bad_slice (width_in scope)) (right.sound f.Slice)

    within : not (is_stage design.stages (stage_of m.statement)) ≡ false
    within = sym (ap (λ c. c && not (is_stage design.stages (stage_of m.statement))) right.micro) ∙ ranges.0

  -- the widths after one more line
  widths_more : (earlier : List Numbered) (m : Numbered) (a : Act) → IsLine earlier m a → widths_after (earlier ++ m ∷ []) ≡ widths_after earlier ++ option_to_list (local_width design (widths_after earlier) fields a)
  widths_more earlier m a is =
      ap (widths_of design fields) (micros_push cards design fields earlier m ∙ ap (λ o. micros_of cards design fields earlier ++ option_to_list o) is.acts)
      ∙ fold_push (λ widths (x : Micro). widths ++ option_to_list (local_width design widths fields x.act)) [] (micros_of cards design fields earlier) (record { line = m.line; stage = stage_of m.statement; act = a })

  even_more : (earlier : List Numbered) (m : Numbered) (a : Act) → IsLine earlier m a → length (widths_after earlier) ≡ length (local_names earlier) → length (widths_after (earlier ++ m ∷ [])) ≡ length (local_names (earlier ++ m ∷ []))
  even_more earlier m a is even =
      let one = ap length (widths_more earlier m a is) ∙ length-append (widths_after earlier) (option_to_list (local_width design (widths_after earlier) fields a)) in
      let own = assigned_length design fields (widths_after earlier) a in
      let two = ap length (locals_push earlier m) ∙ length-append (local_names earlier) (assigned_name m.statement) in
      let same = is.count in
      omega arith

  -- what holds of all lines from here on, where the widths of all locals are these
  pub record AreLines (whole : List ℕ) (earlier lines : List Numbered) (micros : List Micro) : Type 0 where
    pub range : AreInRange design (length (widths_after earlier)) fields micros
    pub operations : Each (λ (x : Micro). HasOperation cards design x.act) micros
    pub typed : Each (λ (x : Micro). has_widths design (arg_width design whole fields) x.act ≡ true) micros
    pub stages : Each (λ (x : Micro). is_stage design.stages x.stage ≡ true) micros
    pub numbers : map (λ (x : Micro). x.line) micros ≡ map (λ (m : Numbered). m.line) lines
    pub widths : Each (λ w. is_width w ≡ true) whole

  lines_are : (whole : List ℕ) (earlier lines : List Numbered) → AreRightLines cards design fields earlier lines → length (widths_after earlier) ≡ length (local_names earlier)
      → Each (λ w. is_width w ≡ true) (widths_after earlier) → widths_on design fields (widths_after earlier) (micros_from earlier lines) ≡ whole → AreLines whole earlier lines (micros_from earlier lines)
  lines_are whole earlier [] right even of_locals e = record { range = tt; operations = tt; typed = tt; stages = tt; numbers = refl; widths = subst (Each (λ w. is_width w ≡ true)) e of_locals }
  lines_are whole earlier (m ∷ lines) right even of_locals e =
      let (a, is) = line_is earlier m right.0 even of_locals in
      let micro : Micro = record { line = m.line; stage = stage_of m.statement; act = a } in
      let next = earlier ++ m ∷ [] in
      let listed : micros_from earlier (m ∷ lines) ≡ micro ∷ micros_from next lines = ap (λ o. option_to_list o ++ micros_from next lines) is.acts in
      let own = option_to_list (local_width design (widths_after earlier) fields a) in
      let grown : widths_after next ≡ widths_after earlier ++ own = widths_more earlier m a is in
      let on : widths_on design fields (widths_after next) (micros_from next lines) ≡ whole =
      ap (λ ws. widths_on design fields ws (micros_from next lines)) grown ∙ sym (ap (widths_on design fields (widths_after earlier)) listed) ∙ e in
      let rest = lines_are whole next lines right.1 (even_more earlier m a is even) (subst (Each (λ w. is_width w ≡ true)) (sym grown) (each_append (λ w. is_width w ≡ true) (widths_after earlier) own of_locals is.widths)) on in
      let (more, longer) = widths_extend design fields (widths_after earlier) (micros_from earlier (m ∷ lines)) in
      let whole_is : whole ≡ widths_after earlier ++ more = sym e ∙ longer in
      let typed : has_widths design (arg_width design whole fields) a ≡ true =
      ap (λ ws. has_widths design (arg_width design ws fields) a) whole_is ∙ has_widths_stays design fields (widths_after earlier) more a is.range ∙ is.typed in
      let count : length (widths_after next) ≡ length (widths_after earlier) + assigned_count a =
      ap length grown ∙ length-append (widths_after earlier) own ∙ ap (λ n. length (widths_after earlier) + n) (assigned_length design fields (widths_after earlier) a) in
      subst (AreLines whole earlier (m ∷ lines)) (sym listed) (record {
        range = (is.range, subst (λ n. AreInRange design n fields (micros_from next lines)) count rest.range);
        operations = (is.operation, rest.operations);
        typed = (typed, rest.typed);
        stages = (is.stage, rest.stages);
        numbers = ap (λ ns. m.line ∷ ns) rest.numbers;
        widths = rest.widths;
      })

  -- of the lines of a whole instruction
  pub all_lines : (lines : List Numbered) → AreRightLines cards design fields [] lines → AreLines (widths_after lines) [] lines (micros_of cards design fields lines)
  all_lines lines right = lines_are (widths_after lines) [] lines right refl tt refl

  -- none too many
  lines_few : (earlier lines : List Numbered) → AreRightLines cards design fields earlier lines → length earlier ≤ 64 → length earlier + length lines ≤ 64
  lines_few earlier [] right low = omega arith
  lines_few earlier (m ∷ lines) right low = elim (cases_eq (length earlier) 64) [
    | inl full ↦ absurd (both_ways (length earlier == 64) right.0.few (eq-eqb (length earlier) 64 full))
    | inr other ↦
        let more = length-append earlier (m ∷ []) in
        let rest = lines_few (earlier ++ m ∷ []) lines right.1 (omega arith) in
        omega arith
  ]

  pub block_few : (lines : List Numbered) → AreRightLines cards design fields [] lines → length lines ≤ 64
  block_few lines right = let few = lines_few [] lines right (omega arith) in omega arith
