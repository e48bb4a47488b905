-- What is known of a line that makes a local: the local's width, the line's operands, and where these come from.
use Rattle.std.proofs.Common.{◌≡◌, ℕ, ◌+◌, ◌<◌, ◌≤◌, ◌==◌, true, IsTrue, IsSomeAnd, List, [], ◌∷◌, ◌++◌, length, filter, filter_map, Option, Some, None, inl, inr, refl, sym, ap, subst, ◌∙◌, arith, append_assoc}
use Rattle.std.specs.Prelude.{◌⊎◌, ◌&&◌, nat_lt, nat_le, not, Contains, slice_get}
use Rattle.std.specs.List.{AllByRecursion as Each, cons_option}
use Rattle.std.specs.Option.{option_map_or}
use Rattle.std.proofs.lemmas.Bool.{and_from, and_parts, cases_lt, lt-ltb}
use Rattle.std.proofs.lemmas.Bool.Decides.{nat_tests}
use Rattle.ap_bits.specs.declared.card.Card.{Card}
use Rattle.ap_desc.proofs.DesignLaws.{locals_by_lines}
use Rattle.ap_desc.specs.Chains.{makers, operands_of}
use Rattle.ap_desc.specs.Clean.{FitsCards}
use Rattle.ap_desc.specs.Designs.{AreInRange, IsArg, IsInRange, IsInstr, IsRight, arg_width, assigned_count, fields_of, is_width, local_width}
use Rattle.ap_desc.specs.Sound.{IsTyped, are_lines_typed}
use Rattle.ap_desc.specs.Widths.{has_widths}
use Rattle.ap_desc.specs.declared.design.Act.{Act}
use Rattle.ap_desc.specs.declared.design.Act.TheVariants as act
use Rattle.ap_desc.specs.declared.design.Design.{Design}
use Rattle.ap_desc.specs.declared.design.Field.{Field}
use Rattle.ap_desc.specs.declared.design.Format.{Format}
use Rattle.ap_desc.specs.declared.design.Instr.{Instr}
use Rattle.ap_desc.specs.declared.design.Micro.{Micro}
use Rattle.ap_model.specs.Fitting.{IsGood, assigned_width, lines_before}
use Rattle.ap_model.specs.FlightLocals.{is_live_in, looks_at}
use Rattle.ap_model.specs.Runnable.{NeverFall, NoneInZero}
use Rattle.ap_model.proofs.LineOrder.{at_maker, count, first_below, widths_count}
use Rattle.ap_model.proofs.LinesFire.{IsSplit, range_at, split_at}
use Rattle.ap_model.proofs.PlainWidths.{list_all_get}
use Rattle.ap_model.proofs.Readings.{all_before, made_among}
use Rattle.ap_model.proofs.StageLemmas.{before, clean_is_runnable, tail_order}
use Rattle.ap_ports.proofs.Members.{at_any, contains_at, each_get}

of_format : (o : Option Format) (Q : List Field → Type 0) → IsSomeAnd o (λ (format : Format). Q format.fields) → Q (option_map_or (λ (format : Format). format.fields) o [])
of_format None Q h = absurd h
of_format (Some format) Q h = h

-- an instruction of a design that fits its cards
pub good_at : (design : Design) (cards : List Card) (k : ℕ) (instr : Instr) → FitsCards design cards → slice_get design.instrs k ≡ Some instr → IsGood design instr
good_at design cards k instr fits at =
    let runs = clean_is_runnable design cards fits in
    record {
      right = of_format (slice_get design.formats instr.format) (λ fields. IsInstr design fields instr) (each_get (IsRight design) design.instrs k instr runs.sound.instrs at);
      typed = of_format (slice_get design.formats instr.format) (λ fields. IsTrue (are_lines_typed design instr fields)) (each_get (IsTyped design) design.instrs k instr runs.sound.typed at);
      order = each_get (λ (i : Instr). NeverFall i.micros) design.instrs k instr runs.order at;
      later = each_get (λ (i : Instr). NoneInZero i.micros) design.instrs k instr runs.later at;
    }

middle : {X : Type 0} (xs : List X) (x : X) (ys : List X) → slice_get (xs ++ x ∷ ys) (length xs) ≡ Some x
middle [] x ys = refl
middle (y ∷ xs) x ys = middle xs x ys

-- what an element gives stands after what those before it give
given_middle : {X Y : Type 0} (f : X → Option Y) (xs : List X) (x : X) (ys : List X) (y : Y) → f x ≡ Some y → slice_get (filter_map f (xs ++ x ∷ ys)) (length (filter_map f xs)) ≡ Some y
given_middle f [] x ys y e = ap (λ o. slice_get (cons_option o (filter_map f ys)) 0) e
given_middle {Y = Y} f (z ∷ xs) x ys y e = go (f z) (given_middle f xs x ys y e)
  where
    go : (o : Option Y) → slice_get (filter_map f (xs ++ x ∷ ys)) (length (filter_map f xs)) ≡ Some y → slice_get (cons_option o (filter_map f (xs ++ x ∷ ys))) (length (cons_option o (filter_map f xs))) ≡ Some y
    go None h = h
    go (Some w) h = h

-- operands that are there
pub operand_ranges : (design : Design) (n : ℕ) (fields : List Field) (a : Act) → IsInRange design n fields a → Each (IsArg n fields) (operands_of a)
operand_ranges design n fields (act.Compute unit op a b) r = (r.1, (r.2, tt))
operand_ranges design n fields (act.ReadFile file number index) r = (r.1, tt)
operand_ranges design n fields (act.ReadReg reg) r = tt
operand_ranges design n fields (act.ReadMem mem at) r = (r.1, tt)
operand_ranges design n fields (act.ReadIn input) r = tt
operand_ranges design n fields (act.Const width number) r = tt
operand_ranges design n fields (act.Zext width a) r = (r, tt)
operand_ranges design n fields (act.Sext width a) r = (r, tt)
operand_ranges design n fields (act.Slice high low a) r = (r, tt)
operand_ranges design n fields (act.Cat a b) r = (r.0, (r.1, tt))
operand_ranges design n fields (act.WriteFile file number index v None) r = (r.1, (r.2, tt))
operand_ranges design n fields (act.WriteFile file number index v (Some g)) r = (r.1, (r.2, (r.3, tt)))
operand_ranges design n fields (act.WriteReg reg v None) r = (r.1, tt)
operand_ranges design n fields (act.WriteReg reg v (Some g)) r = (r.1, (r.2, tt))
operand_ranges design n fields (act.WriteMem mem at v None) r = (r.1, (r.2, tt))
operand_ranges design n fields (act.WriteMem mem at v (Some g)) r = (r.1, (r.2, (r.3, tt)))
operand_ranges design n fields (act.Branch c t) r = (r.0, (r.1, tt))
operand_ranges design n fields (act.Jump t) r = (r, tt)

pub has_width : (design : Design) (locals : List ℕ) (fields : List Field) (a : Act) → assigned_count a ≡ 1 → (w : ℕ) × (local_width design locals fields a ≡ Some w)
has_width design locals fields (act.WriteFile file number index v guard) e = absurd (omega (arith, e))
has_width design locals fields (act.WriteReg reg v guard) e = absurd (omega (arith, e))
has_width design locals fields (act.WriteMem mem at v guard) e = absurd (omega (arith, e))
has_width design locals fields (act.Branch c t) e = absurd (omega (arith, e))
has_width design locals fields (act.Jump t) e = absurd (omega (arith, e))
has_width design locals fields _ e = (_, refl)

module _ (design : Design) (instr : Instr) (good : IsGood design instr) where
  -- a line of the instruction, with those before it
  pub record IsLineAt (earlier : List Micro) (m : Micro) : Type 0 where
    pub range : IsInRange design (count earlier) (fields_of design instr) m.act
    pub operands : Each (IsArg (count earlier) (fields_of design instr)) (operands_of m.act)
    pub typed : IsTrue (has_widths design (arg_width design instr.locals (fields_of design instr)) m.act)

  pub line_at : (earlier : List Micro) (m : Micro) (rest : List Micro) → instr.micros ≡ earlier ++ m ∷ rest → IsLineAt earlier m
  line_at earlier m rest whole =
      let none : 0 + count earlier ≡ count earlier = omega arith in
      let range = subst (λ k. IsInRange design k (fields_of design instr) m.act) none (range_at design 0 (fields_of design instr) earlier m rest (subst (AreInRange design 0 (fields_of design instr)) whole good.right.range)) in
      let there : slice_get instr.micros (length earlier) ≡ Some m = ap (λ ms. slice_get ms (length earlier)) whole ∙ middle earlier m rest in
      record {
        range = range;
        operands = operand_ranges design (count earlier) (fields_of design instr) m.act range;
        typed = list_all_get (λ (x : Micro). has_widths design (arg_width design instr.locals (fields_of design instr)) x.act) instr.micros (length earlier) m good.typed there;
      }

  -- the line that makes the local of a number
  pub record IsMaker (n : ℕ) (m : Micro) : Type 0 where
    pub split : IsSplit instr.micros n m
    pub operands : Each (IsArg n (fields_of design instr)) (operands_of m.act)
    pub range : IsInRange design n (fields_of design instr) m.act
    pub typed : IsTrue (has_widths design (arg_width design instr.locals (fields_of design instr)) m.act)
    pub width : ℕ
    pub gives : local_width design instr.locals (fields_of design instr) m.act ≡ Some width
    pub has : slice_get instr.locals n ≡ Some width
    pub some : 1 ≤ width
    pub most : width ≤ 64

  pub maker_at : (n : ℕ) (m : Micro) → slice_get (makers instr) n ≡ Some m → IsMaker n m
  maker_at n m at =
      let s = split_at instr.micros n m at in
      let line = line_at s.earlier m s.rest s.whole in
      let (w, gives) = has_width design instr.locals (fields_of design instr) m.act s.assigns in
      let number : length (filter_map (assigned_width design instr) s.earlier) ≡ n = widths_count design instr s.earlier ∙ s.number in
      let by_lines = locals_by_lines design (fields_of design instr) instr good.right in
      let has : slice_get instr.locals n ≡ Some w =
      ap (λ ws. slice_get ws n) by_lines ∙ ap (λ ms. slice_get (filter_map (assigned_width design instr) ms) n) s.whole
      ∙ ap (slice_get (filter_map (assigned_width design instr) (s.earlier ++ m ∷ s.rest))) (sym number)
      ∙ given_middle (assigned_width design instr) s.earlier m s.rest w gives in
      let two = and_parts (nat_le 1 w) (nat_le w 64) (list_all_get is_width instr.locals n w good.right.widths has) in
      record {
        split = s;
        operands = subst (λ k. Each (IsArg k (fields_of design instr)) (operands_of m.act)) s.number line.operands;
        range = subst (λ k. IsInRange design k (fields_of design instr) m.act) s.number line.range;
        typed = line.typed;
        width = w;
        gives = gives;
        has = has;
        some = grind (arith, nat_tests, two.0);
        most = grind (arith, nat_tests, two.1);
      }

  -- a maker is one of the instruction's lines
  pub line_there : (n : ℕ) (m : Micro) → slice_get (makers instr) n ≡ Some m → Contains instr.micros m
  line_there n m at =
      let s = split_at instr.micros n m at in
      contains_at instr.micros (length s.earlier) m (ap (λ ms. slice_get ms (length s.earlier)) s.whole ∙ middle s.earlier m s.rest)

  -- Where operands come from.

  live_at : (stage i : ℕ) (earlier : List Micro) (m : Micro) (rest : List Micro) → instr.micros ≡ earlier ++ m ∷ rest → m.stage ≡ stage → looks_at i m ≡ true → i < count (before stage instr.micros) → is_live_in design stage i instr ≡ true
  live_at stage i earlier m rest whole here looked low =
      let early = ap (nat_lt i) (widths_count design instr (lines_before stage instr)) ∙ lt-ltb i (count (before stage instr.micros)) low in
      let there : slice_get instr.micros (length earlier) ≡ Some m = ap (λ ms. slice_get ms (length earlier)) whole ∙ middle earlier m rest in
      let late : not (nat_lt m.stage stage) ≡ true = grind (arith, nat_tests, here) in
      let used = at_any (λ (x : Micro). not (nat_lt x.stage stage) && looks_at i x) instr.micros (length earlier) m there (and_from (not (nat_lt m.stage stage)) (looks_at i m) late looked) in
      and_from _ _ early used

  back_order : (xs ys : List Micro) → NeverFall (xs ++ ys) → NeverFall ys
  back_order [] ys order = order
  back_order (x ∷ xs) ys order = back_order xs ys (tail_order x (xs ++ ys) order)

  -- a local that a line of the stage looks at is made in the stage, or live into it
  pub comes_from : (stage i : ℕ) (earlier : List Micro) (m : Micro) (rest : List Micro) → instr.micros ≡ earlier ++ m ∷ rest → m.stage ≡ stage → looks_at i m ≡ true → i < count earlier
      → ((x : Micro) × (slice_get (makers instr) i ≡ Some x) × (x.stage ≡ stage)) ⊎ (is_live_in design stage i instr ≡ true)
  comes_from stage i earlier m rest whole here looked low =
      let made = made_among earlier i low in
      let number = made.number in
      let assigns = made.assigns in
      let more = made.rest ++ m ∷ rest in
      let all : instr.micros ≡ made.earlier ++ made.line ∷ more = whole ∙ ap (λ l. l ++ m ∷ rest) made.whole ∙ append_assoc made.earlier (made.line ∷ made.rest) (m ∷ rest) in
      let sorted = subst NeverFall all good.order in
      let below = first_below made.line made.rest m rest (back_order made.earlier (made.line ∷ more) sorted) in
      let found : slice_get (makers instr) i ≡ Some made.line = (λ j. slice_get (filter (λ (x : Micro). assigned_count x.act == 1) (all j)) (sym number j)) ∙ at_maker made.earlier made.line more assigns in
      go made.line (cases_lt made.line.stage stage) found below
      (λ early. let count_all = all_before stage made.earlier made.line more sorted early in let same = ap (λ ms. count (before stage ms)) all in omega (arith, count_all, same, number, assigns))
    where
      go : (x : Micro) → (x.stage < stage) ⊎ (stage ≤ x.stage) → slice_get (makers instr) i ≡ Some x → x.stage ≤ m.stage → (x.stage < stage → i < count (before stage instr.micros))
          → ((y : Micro) × (slice_get (makers instr) i ≡ Some y) × (y.stage ≡ stage)) ⊎ (is_live_in design stage i instr ≡ true)
      go x (inl early) found below lower = inr (live_at stage i earlier m rest whole here looked (lower early))
      go x (inr late) found below lower = inl (x, found, omega (arith, late, below, here))
