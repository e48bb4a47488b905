-- Values that meet the lines' equations are the machine's, at operands and at locals.
use Rattle.std.proofs.Common.{◌≡◌, ℕ, zero, suc, ◌+◌, ◌-◌, ◌*◌, ◌/◌, ◌%◌, ◌^◌, ◌≤◌, ◌<◌, ◌==◌, ◌&&◌, ◌||◌, nat_lt, not, Bool, true, false, if◌then◌else◌, List, [], ◌∷◌, ◌++◌, length, filter, slice_get, slice_index, slice_index_or, option_and_then, Some, None, refl, ap, sym, subst, ◌∙◌, arith, append_assoc, eqb-true, eq-eqb, ltb-true, ltb-false}
use Rattle.std.proofs.lemmas.Bool.{lt-ltb}
use Rattle.std.proofs.lemmas.Bool.Decides.{nat_tests}
use Rattle.std.specs.Prelude.{Contains}
use Rattle.std.specs.List.{AllByRecursion as Each, list_any}
use Rattle.std.specs.Option.{option_map_or}
use Rattle.ap_bits.specs.Operations.{sign_extended}
use Rattle.ap_bits.specs.declared.card.Card.{Card}
use Rattle.ap_desc.specs.Chains.{if_in_stage, maker_in, makers, operands_of}
use Rattle.ap_desc.specs.Designs.{AreInRange, IsArg, IsInRange, assigned_count, fields_of}
use Rattle.ap_desc.specs.declared.design.Act.{Act}
use Rattle.ap_desc.specs.declared.design.Act.TheVariants as act
use Rattle.ap_desc.specs.declared.design.Arg.{Arg}
use Rattle.ap_desc.specs.declared.design.Arg.TheVariants as arg
use Rattle.ap_desc.specs.declared.design.Design.{Design}
use Rattle.ap_desc.specs.declared.design.Field.{Field}
use Rattle.ap_desc.specs.declared.design.Instr.{Instr}
use Rattle.ap_desc.specs.declared.design.Micro.{Micro}
use Rattle.ap_image.specs.declared.trace.TraceLine.{TraceLine}
use Rattle.ap_model.specs.declared.state.Flight.{Flight}
use Rattle.ap_model.specs.declared.storage.Storages.{Storages}
use Rattle.ap_model.specs.Fire.{Sight, act_value, arg_value, bits_of_arg, instr_of, link_of, unit_value}
use Rattle.ap_model.specs.Fitting.{lines_before}
use Rattle.ap_model.specs.Runnable.{NeverFall}
use Rattle.ap_model.proofs.StageLemmas.{before, tail_order}
use Rattle.ap_model.specs.FlightLocals.{is_live, is_live_in, is_local, looks_at}
use Rattle.ap_model.specs.LineForms.{LocalsByLine, flight_sight}
use Rattle.ap_model.proofs.LineOrder.{at_maker, count, first_below, widths_count}
use Rattle.ap_model.proofs.LinesFire.{of_stage, range_at, split_at}

-- a line that assigns, among these, by its number
pub record IsMade (micros : List Micro) (k : ℕ) : Type 0 where
  pub earlier : List Micro
  pub line : Micro
  pub rest : List Micro
  pub whole : micros ≡ earlier ++ line ∷ rest
  pub number : count earlier ≡ k
  pub assigns : assigned_count line.act ≡ 1

zero_or_one : (a : Act) → (assigned_count a == 1) ≡ false → assigned_count a ≡ 0
zero_or_one (act.WriteFile file number index v guard) e = refl
zero_or_one (act.WriteReg reg v guard) e = refl
zero_or_one (act.WriteMem mem at v guard) e = refl
zero_or_one (act.Branch c t) e = refl
zero_or_one (act.Jump t) e = refl
zero_or_one _ e = cc

pub made_among : (micros : List Micro) (k : ℕ) → k < count micros → IsMade micros k
made_among [] k h = let none : ⊥ = omega (arith, h) in absurd none
made_among (x ∷ micros) k h = go (assigned_count x.act == 1) refl k h (λ j low. made_among micros j low)
  where
    go : (b : Bool) → (assigned_count x.act == 1) ≡ b → (k : ℕ) → k < assigned_count x.act + count micros → ((j : ℕ) → j < count micros → IsMade micros j) → IsMade (x ∷ micros) k
    go true t zero h later = record { earlier = []; line = x; rest = micros; whole = refl; number = refl; assigns = eqb-true (assigned_count x.act) 1 t }
    go true t (suc j) h later =
        let one = eqb-true (assigned_count x.act) 1 t in
        let rest = later j (omega (arith, h, one)) in
        let number = rest.number in
        record { earlier = x ∷ rest.earlier; line = rest.line; rest = rest.rest; whole = ap (λ l. x ∷ l) rest.whole; number = omega (arith, one, number); assigns = rest.assigns }
    go false t j h later =
        let none = zero_or_one x.act t in
        let rest = later j (omega (arith, h, none)) in
        let number = rest.number in
        record { earlier = x ∷ rest.earlier; line = rest.line; rest = rest.rest; whole = ap (λ l. x ∷ l) rest.whole; number = omega (arith, none, number); assigns = rest.assigns }

-- the lines up to one of an earlier stage are all before the stage
pub all_before : (stage : ℕ) (earlier : List Micro) (m : Micro) (rest : List Micro) → NeverFall (earlier ++ m ∷ rest) → m.stage < stage → count earlier + assigned_count m.act ≤ count (before stage (earlier ++ m ∷ rest))
all_before stage [] m rest order h = rw (lt-ltb m.stage stage h) (omega arith)
all_before stage (x ∷ earlier) m rest order h =
    let below = first_below x earlier m rest order in
    let later = all_before stage earlier m rest (tail_order x (earlier ++ m ∷ rest) order) h in
    let low : x.stage < stage = omega (arith, below, h) in
    rw (lt-ltb x.stage stage low) (omega (arith, later))

back_order : (xs ys : List Micro) → NeverFall (xs ++ ys) → NeverFall ys
back_order [] ys order = order
back_order (x ∷ xs) ys order = back_order xs ys (tail_order x (xs ++ ys) order)

-- operands are within range
operand_ranges : (design : Design) (n : ℕ) (fields : List Field) (a : Act) → IsInRange design n fields a → Each (IsArg n fields) (operands_of a)
operand_ranges design n fields (act.Compute unit op a b) r = (r.1, (r.2, tt))
operand_ranges design n fields (act.ReadFile file number index) r = (r.1, tt)
operand_ranges design n fields (act.ReadReg reg) r = tt
operand_ranges design n fields (act.ReadMem mem at) r = (r.1, tt)
operand_ranges design n fields (act.ReadIn input) r = tt
operand_ranges design n fields (act.Const width number) r = tt
operand_ranges design n fields (act.Zext width a) r = (r, tt)
operand_ranges design n fields (act.Sext width a) r = (r, tt)
operand_ranges design n fields (act.Slice high low a) r = (r, tt)
operand_ranges design n fields (act.Cat a b) r = (r.0, (r.1, tt))
operand_ranges design n fields (act.WriteFile file number index v None) r = (r.1, (r.2, tt))
operand_ranges design n fields (act.WriteFile file number index v (Some g)) r = (r.1, (r.2, (r.3, tt)))
operand_ranges design n fields (act.WriteReg reg v None) r = (r.1, tt)
operand_ranges design n fields (act.WriteReg reg v (Some g)) r = (r.1, (r.2, tt))
operand_ranges design n fields (act.WriteMem mem at v None) r = (r.1, (r.2, tt))
operand_ranges design n fields (act.WriteMem mem at v (Some g)) r = (r.1, (r.2, (r.3, tt)))
operand_ranges design n fields (act.Branch c t) r = (r.0, (r.1, tt))
operand_ranges design n fields (act.Jump t) r = (r, tt)

-- what a line gives depends on its operands alone
same_operands : (sight : Sight) (f g : Arg → ℕ) (line : ℕ) (a : Act) → Each (λ x. f x ≡ g x) (operands_of a) → act_value sight f line a ≡ act_value sight g line a
same_operands sight f g line (act.Compute unit op a b) e = λ i. Some (unit_value sight.design sight.cards unit op (e.0 i) (e.1.0 i))
same_operands sight f g line (act.ReadFile file number index) e = λ i. Some (slice_index (slice_index_or sight.storages.files file []) (e.0 i))
same_operands sight f g line (act.ReadReg reg) e = refl
same_operands sight f g line (act.ReadMem mem at) e = λ i. Some (slice_index (slice_index_or sight.storages.mems mem []) (e.0 i))
same_operands sight f g line (act.ReadIn input) e = refl
same_operands sight f g line (act.Const width number) e = refl
same_operands sight f g line (act.Zext width a) e = ap Some e.0
same_operands sight f g line (act.Sext width a) e = ap (λ v. Some (sign_extended v (bits_of_arg sight a) width)) e.0
same_operands sight f g line (act.Slice high low a) e = ap (λ v. Some ((v / 2 ^ low) % 2 ^ (high - low + 1))) e.0
same_operands sight f g line (act.Cat a b) e = λ i. Some (e.0 i * 2 ^ bits_of_arg sight b + e.1.0 i)
same_operands sight f g line (act.WriteFile file number index v guard) e = refl
same_operands sight f g line (act.WriteReg reg v guard) e = refl
same_operands sight f g line (act.WriteMem mem at v guard) e = refl
same_operands sight f g line (act.Branch c t) e = refl
same_operands sight f g line (act.Jump t) e = refl

or_later : (a b : Bool) → b ≡ true → (a || b) ≡ true
or_later true b e = refl
or_later false b e = e

any_split : {X : Type 0} (t : X → Bool) (earlier : List X) (m : X) (rest : List X) → t m ≡ true → list_any t (earlier ++ m ∷ rest) ≡ true
any_split t [] m rest e = ap (λ b. b || list_any t rest) e
any_split t (x ∷ earlier) m rest e = or_later (t x) (list_any t (earlier ++ m ∷ rest)) (any_split t earlier m rest e)

looks : (args : List Arg) → Each (λ x. (k : ℕ) → is_local k x ≡ true → list_any (is_local k) args ≡ true) args
looks [] = tt
looks (x ∷ args) = (λ k e. ap (λ b. b || list_any (is_local k) args) e, later (looks args))
  where
    more : (xs : List Arg) → Each (λ y. (k : ℕ) → is_local k y ≡ true → list_any (is_local k) args ≡ true) xs → Each (λ y. (k : ℕ) → is_local k y ≡ true → list_any (is_local k) (x ∷ args) ≡ true) xs
    more [] e = tt
    more (y ∷ ys) e = (λ k h. or_later (is_local k x) (list_any (is_local k) args) (e.0 k h), more ys e.1)

    later : Each (λ y. (k : ℕ) → is_local k y ≡ true → list_any (is_local k) args ≡ true) args → Each (λ y. (k : ℕ) → is_local k y ≡ true → list_any (is_local k) (x ∷ args) ≡ true) args
    later e = more args e

not_below_itself : (stage m : ℕ) → m ≡ stage → not (nat_lt m stage) ≡ true
not_below_itself stage m e = grind (arith, nat_tests, e)

-- Values for operands that meet the lines' equations, where only good operands are looked at: what makes a good one looks at good ones.
pub record ReadsGood (design : Design) (cards : List Card) (inputs : TraceLine) (storages : Storages) (stage : ℕ) (flight : Flight) (instr : Instr) (value : Arg → ℕ) (Good : Arg → Type 0) : Type 0 where
  pub field : (i : ℕ) → value (arg.Field i) ≡ arg_value (flight_sight design cards inputs storages flight instr) [] (arg.Field i)
  pub pc : value arg.Pc ≡ flight.place
  pub link : value arg.Link ≡ link_of design flight.place
  pub old : (i : ℕ) → is_live design flight.word stage i ≡ true → value (arg.Local i) ≡ slice_index flight.locals i
  pub new : (n : ℕ) (m : Micro) → maker_in instr stage (arg.Local n) ≡ Some m → Good (arg.Local n) → Some (value (arg.Local n)) ≡ act_value (flight_sight design cards inputs storages flight instr) value m.line m.act
  pub closed : (n : ℕ) (m : Micro) → maker_in instr stage (arg.Local n) ≡ Some m → Good (arg.Local n) → Each Good (operands_of m.act)

module _ (design : Design) (cards : List Card) (inputs : TraceLine) (storages : Storages) (stage : ℕ) (flight : Flight) (instr : Instr) (value : Arg → ℕ) (Good : Arg → Type 0) (reads : ReadsGood design cards inputs storages stage flight instr value Good)
    (after : List ℕ) (by_line : LocalsByLine design cards inputs storages stage flight instr after) (order : NeverFall instr.micros) (range : AreInRange design 0 (fields_of design instr) instr.micros)
    (at : instr_of design flight.word ≡ Some instr) (counted : length flight.locals ≡ count (before stage instr.micros)) where
  abbrev sees : Sight
  sees = flight_sight design cards inputs storages flight instr

  stays_live : (k : ℕ) → k < length flight.locals → (earlier : List Micro) (m : Micro) (rest : List Micro) → instr.micros ≡ earlier ++ m ∷ rest → m.stage ≡ stage → looks_at k m ≡ true → is_live design flight.word stage k ≡ true
  unfolding is_live
  stays_live k low earlier m rest whole here looked =
      let widths = widths_count design instr (lines_before stage instr) in
      let early = lt-ltb k (count (before stage instr.micros)) (omega (arith, low, counted)) in
      let early_too = ap (nat_lt k) widths ∙ early in
      let used : list_any (λ (m : Micro). not (nat_lt m.stage stage) && looks_at k m) instr.micros ≡ true
      = ap (list_any (λ (m : Micro). not (nat_lt m.stage stage) && looks_at k m)) whole ∙ any_split (λ (m : Micro). not (nat_lt m.stage stage) && looks_at k m) earlier m rest (λ i. not_below_itself stage m.stage here i && looked i) in
      ap (λ o. option_map_or (is_live_in design stage k) o false) at ∙ (λ i. early_too i && used i)

  -- a further local that is below those of a line of the stage is made in the stage
  made_here : (k : ℕ) → length flight.locals ≤ k → (earlier : List Micro) (m : Micro) (rest : List Micro) → instr.micros ≡ earlier ++ m ∷ rest → m.stage ≡ stage → k < count earlier → (x : Micro) × (maker_in instr stage (arg.Local k) ≡ Some x)
  made_here k high earlier m rest whole here low =
      let made = made_among earlier k low in
      let number = made.number in
      let assigns = made.assigns in
      let more = made.rest ++ m ∷ rest in
      let all : instr.micros ≡ made.earlier ++ made.line ∷ more = whole ∙ ap (λ l. l ++ m ∷ rest) made.whole ∙ append_assoc made.earlier (made.line ∷ made.rest) (m ∷ rest) in
      let sorted = subst NeverFall all order in
      let below = first_below made.line made.rest m rest (back_order made.earlier (made.line ∷ more) sorted) in
      let in_stage : made.line.stage ≡ stage = go made.line.stage (nat_lt made.line.stage stage) refl (omega (arith, below, here))
      (λ early. let count_all = all_before stage made.earlier made.line more sorted early in let same = ap (λ ms. count (before stage ms)) all in omega (arith, count_all, same, counted, high, number, assigns)) in
      let found : slice_get (makers instr) k ≡ Some made.line = (λ i. slice_get (filter (λ (m : Micro). assigned_count m.act == 1) (all i)) (sym number i)) ∙ at_maker made.earlier made.line more assigns in
      (made.line, ap (option_and_then (if_in_stage stage)) found ∙ ap (λ b. if b then Some made.line else None) (eq-eqb made.line.stage stage in_stage))
    where
      go : (s : ℕ) (b : Bool) → nat_lt s stage ≡ b → s ≤ stage → (s < stage → ⊥) → s ≡ stage
      go s true e h never = absurd (never (ltb-true s stage e))
      go s false e h never = let no = ltb-false s stage e in omega (arith, h, no)

  operands_right : (n : ℕ) → ((k : ℕ) → k < n → (x : Micro) → maker_in instr stage (arg.Local k) ≡ Some x → Good (arg.Local k) → value (arg.Local k) ≡ slice_index after k)
      → (earlier : List Micro) (m : Micro) (rest : List Micro) → instr.micros ≡ earlier ++ m ∷ rest → m.stage ≡ stage → count earlier ≤ n → Each Good (operands_of m.act) → Each (λ x. value x ≡ arg_value sees after x) (operands_of m.act)
  operands_right n known earlier m rest whole here within good =
      let none : 0 + count earlier ≡ count earlier = omega arith in
      let in_range = subst (λ k. IsInRange design k (fields_of design instr) m.act) none (range_at design 0 (fields_of design instr) earlier m rest (subst (AreInRange design 0 (fields_of design instr)) whole range)) in
      each (operands_of m.act) (operand_ranges design (count earlier) (fields_of design instr) m.act in_range) (looks (operands_of m.act)) good
    where
      local : (k : ℕ) → k < count earlier → looks_at k m ≡ true → Good (arg.Local k) → (b : Bool) → nat_lt k (length flight.locals) ≡ b → value (arg.Local k) ≡ slice_index after k
      local k low looked fine true e =
          let early = ltb-true k (length flight.locals) e in
          reads.old k (stays_live k early earlier m rest whole here looked) ∙ sym (by_line.old k early)
      local k low looked fine false e =
          let late = ltb-false k (length flight.locals) e in
          let made = made_here k late earlier m rest whole here low in
          known k (omega (arith, low, within)) made.0 made.1 fine

      one : (x : Arg) → IsArg (count earlier) (fields_of design instr) x → ((k : ℕ) → is_local k x ≡ true → looks_at k m ≡ true) → Good x → value x ≡ arg_value sees after x
      one (arg.Local k) h l g = local k h (l k (eq-eqb k k refl)) g (nat_lt k (length flight.locals)) refl
      one (arg.Field i) h l g = reads.field i
      one arg.Pc h l g = reads.pc
      one arg.Link h l g = reads.link

      each : (args : List Arg) → Each (IsArg (count earlier) (fields_of design instr)) args → Each (λ x. (k : ℕ) → is_local k x ≡ true → looks_at k m ≡ true) args → Each Good args → Each (λ x. value x ≡ arg_value sees after x) args
      each [] r l g = tt
      each (x ∷ args) r l g = (one x r.0 l.0 g.0, each args r.1 l.1 g.1)

  made_right : (fuel : ℕ) (n : ℕ) → n < fuel → (m : Micro) → maker_in instr stage (arg.Local n) ≡ Some m → Good (arg.Local n) → value (arg.Local n) ≡ slice_index after n
  made_right zero n h m made good = let none : ⊥ = omega (arith, h) in absurd none
  made_right (suc fuel) n h m made good =
      let parts = of_stage stage m (slice_get (makers instr) n) made in
      let split = split_at instr.micros n m parts.0 in
      let number = split.number in
      let operands = operands_right n (λ k low x maker fine. made_right fuel k (omega (arith, low, h)) x maker fine) split.earlier m split.rest split.whole parts.1 (omega (arith, number)) (reads.closed n m made good) in
      let both : Some (value (arg.Local n)) ≡ Some (slice_index after n) = reads.new n m made good ∙ same_operands sees value (arg_value sees after) m.line m.act operands ∙ sym (by_line.new n m made) in
      cc

  split_contains : (micros : List Micro) (k : ℕ) (m : Micro) → k < length micros → slice_index_or micros k m ≡ m → (earlier : List Micro) × (rest : List Micro) × (micros ≡ earlier ++ m ∷ rest)
  split_contains [] k m h e = let none : ⊥ = omega (arith, h) in absurd none
  split_contains (x ∷ micros) zero m h e = ([], micros, ap (λ y. y ∷ micros) e)
  split_contains (x ∷ micros) (suc k) m h e = let rest = split_contains micros k m (omega (arith, h)) e in (x ∷ rest.0, rest.1, ap (λ l. x ∷ l) rest.2)

  pub operands_read : (m : Micro) → Contains instr.micros m → m.stage ≡ stage → Each Good (operands_of m.act) → Each (λ x. value x ≡ arg_value sees after x) (operands_of m.act)
  operands_read m there here good =
      let split = split_contains instr.micros there.0 m there.1 there.2 in
      operands_right (count split.0) (λ k low x maker fine. made_right (k + 1) k (omega arith) x maker fine) split.0 m split.1 split.2 here (omega arith) good

  pub local_read : (n : ℕ) (m : Micro) → maker_in instr stage (arg.Local n) ≡ Some m → Good (arg.Local n) → value (arg.Local n) ≡ slice_index after n
  local_read n m made good = made_right (n + 1) n (omega arith) m made good

pub all_good : (args : List Arg) → Each (λ x. Unit {0}) args
all_good [] = tt
all_good (x ∷ args) = (tt, all_good args)
