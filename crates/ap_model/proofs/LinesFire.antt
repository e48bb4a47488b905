-- The locals after a stage, line by line.
use Rattle.std.proofs.Common.{◌≡◌, ℕ, zero, suc, ◌+◌, ◌-◌, ◌*◌, ◌/◌, ◌%◌, ◌^◌, ◌<◌, ◌==◌, Bool, true, false, if◌then◌else◌, List, [], ◌∷◌, ◌++◌, length, filter, cond, slice_get, slice_index, slice_index_or, option_to_list, option_and_then, Option, Some, None, refl, ap, sym, subst, ◌∙◌, arith, length-append, eqb-true, eq-eqb}
use Rattle.std.proofs.lemmas.List.Elements.{filter-append}
use Rattle.ap_bits.specs.Operations.{sign_extended}
use Rattle.ap_bits.specs.declared.card.Card.{Card}
use Rattle.ap_desc.specs.Chains.{if_in_stage, maker_in, makers}
use Rattle.ap_desc.specs.Clean.{FitsCards}
use Rattle.ap_desc.specs.Designs.{AreInRange, IsArg, IsInRange, assigned_count, fields_of}
use Rattle.ap_desc.specs.declared.design.Act.{Act}
use Rattle.ap_desc.specs.declared.design.Act.TheVariants as act
use Rattle.ap_desc.specs.declared.design.Arg.{Arg}
use Rattle.ap_desc.specs.declared.design.Arg.TheVariants as arg
use Rattle.ap_desc.specs.declared.design.Design.{Design}
use Rattle.ap_desc.specs.declared.design.Field.{Field}
use Rattle.ap_desc.specs.declared.design.Micro.{Micro}
use Rattle.ap_model.specs.Cycles.{port_input}
use Rattle.ap_model.specs.Fire.{Sight, act_value, arg_value, bits_of_arg, fire, instr_effect, lines_in, locals_after, unit_value}
use Rattle.ap_model.specs.Fitting.{lines_before}
use Rattle.ap_model.specs.Runnable.{NeverFall}
use Rattle.ap_model.proofs.StageLemmas.{before, clean_is_runnable, within, word_is_good}
use Rattle.ap_model.specs.LineForms.{FiresByLine, LocalsByLine, flight_sight}
use Rattle.ap_model.proofs.FlightLocals.{count_after}
use Rattle.ap_model.proofs.LineOrder.{count, split_earlier, widths_count}

-- the locals after lines begin with those before
begins : (sight : Sight) (locals : List ℕ) (micros : List Micro) (i : ℕ) → i < length locals → slice_index (locals_after sight locals micros) i ≡ slice_index locals i
unfolding locals_after
begins sight locals [] i h = refl
begins sight locals (m ∷ micros) i h =
    let more = option_to_list (act_value sight (arg_value sight locals) m.line m.act) in
    let long = length-append locals more in
    begins sight (locals ++ more) micros i (omega (arith, h, long)) ∙ front locals more i h
  where
    front : (xs ys : List ℕ) (i : ℕ) → i < length xs → slice_index (xs ++ ys) i ≡ slice_index xs i
    front [] ys i h = let none : ⊥ = omega (arith, h) in absurd none
    front (x ∷ xs) ys zero h = refl
    front (x ∷ xs) ys (suc i) h = front xs ys i (omega (arith, h))

after_both : (sight : Sight) (locals : List ℕ) (xs ys : List Micro) → locals_after sight locals (xs ++ ys) ≡ locals_after sight (locals_after sight locals xs) ys
unfolding locals_after
after_both sight locals [] ys = refl
after_both sight locals (m ∷ xs) ys = after_both sight (locals ++ option_to_list (act_value sight (arg_value sight locals) m.line m.act)) xs ys

-- what a line gives depends on its operands alone
pub same_act : (sight : Sight) (n : ℕ) (fields : List Field) (f g : Arg → ℕ) → ((x : Arg) → IsArg n fields x → f x ≡ g x) → (line : ℕ) (a : Act) → IsInRange sight.design n fields a → act_value sight f line a ≡ act_value sight g line a
same_act sight n fields f g same line (act.Compute unit op a b) r = λ i. Some (unit_value sight.design sight.cards unit op (same a r.1 i) (same b r.2 i))
same_act sight n fields f g same line (act.ReadFile file number index) r = λ i. Some (slice_index (slice_index_or sight.storages.files file []) (same index r.1 i))
same_act sight n fields f g same line (act.ReadReg reg) r = refl
same_act sight n fields f g same line (act.ReadMem mem at) r = λ i. Some (slice_index (slice_index_or sight.storages.mems mem []) (same at r.1 i))
same_act sight n fields f g same line (act.ReadIn input) r = refl
same_act sight n fields f g same line (act.Const width number) r = refl
same_act sight n fields f g same line (act.Zext width a) r = ap Some (same a r)
same_act sight n fields f g same line (act.Sext width a) r = ap (λ v. Some (sign_extended v (bits_of_arg sight a) width)) (same a r)
same_act sight n fields f g same line (act.Slice high low a) r = ap (λ v. Some ((v / 2 ^ low) % 2 ^ (high - low + 1))) (same a r)
same_act sight n fields f g same line (act.Cat a b) r = λ i. Some (same a r.0 i * 2 ^ bits_of_arg sight b + same b r.1 i)
same_act sight n fields f g same line (act.WriteFile file number index v guard) r = refl
same_act sight n fields f g same line (act.WriteReg reg v guard) r = refl
same_act sight n fields f g same line (act.WriteMem mem at v guard) r = refl
same_act sight n fields f g same line (act.Branch c t) r = refl
same_act sight n fields f g same line (act.Jump t) r = refl

pub range_at : (design : Design) (n : ℕ) (fields : List Field) (earlier : List Micro) (m : Micro) (rest : List Micro) → AreInRange design n fields (earlier ++ m ∷ rest) → IsInRange design (n + count earlier) fields m.act
range_at design n fields [] m rest range = let same : n ≡ n + 0 = omega arith in subst (λ k. IsInRange design k fields m.act) same range.0
range_at design n fields (x ∷ earlier) m rest range =
    let same : n + assigned_count x.act + count earlier ≡ n + (assigned_count x.act + count earlier) = omega arith in
    subst (λ k. IsInRange design k fields m.act) same (range_at design (n + assigned_count x.act) fields earlier m rest range.1)

-- the lines before the maker of a local, and those after it
pub record IsSplit (micros : List Micro) (n : ℕ) (m : Micro) : Type 0 where
  pub earlier : List Micro
  pub rest : List Micro
  pub whole : micros ≡ earlier ++ m ∷ rest
  pub number : count earlier ≡ n
  pub assigns : assigned_count m.act ≡ 1

not_one : (a : Act) → (assigned_count a == 1) ≡ false → assigned_count a ≡ 0
not_one (act.WriteFile file number index v guard) e = refl
not_one (act.WriteReg reg v guard) e = refl
not_one (act.WriteMem mem at v guard) e = refl
not_one (act.Branch c t) e = refl
not_one (act.Jump t) e = refl
not_one _ e = cc

pub split_at : (micros : List Micro) (n : ℕ) (m : Micro) → slice_get (filter (λ (m : Micro). assigned_count m.act == 1) micros) n ≡ Some m → IsSplit micros n m
split_at [] n m e = cc
split_at (x ∷ micros) n m e = go (assigned_count x.act == 1) refl n e (λ k f. split_at micros k m f)
  where
    go : (b : Bool) → (assigned_count x.act == 1) ≡ b → (n : ℕ) → slice_get (cond b (x ∷ filter (λ (m : Micro). assigned_count m.act == 1) micros) (filter (λ (m : Micro). assigned_count m.act == 1) micros)) n ≡ Some m
        → ((k : ℕ) → slice_get (filter (λ (m : Micro). assigned_count m.act == 1) micros) k ≡ Some m → IsSplit micros k m) → IsSplit (x ∷ micros) n m
    go true t zero e later =
        let same : x ≡ m = cc in
        record { earlier = []; rest = micros; whole = ap (λ y. y ∷ micros) same; number = refl; assigns = subst (λ (y : Micro). assigned_count y.act ≡ 1) same (eqb-true (assigned_count x.act) 1 t) }
    go true t (suc k) e later =
        let rest = later k e in
        let one = eqb-true (assigned_count x.act) 1 t in
        let number = rest.number in
        record { earlier = x ∷ rest.earlier; rest = rest.rest; whole = ap (λ l. x ∷ l) rest.whole; number = omega (arith, one, number); assigns = rest.assigns }
    go false t n e later =
        let rest = later n e in
        let none = not_one x.act t in
        let number = rest.number in
        record { earlier = x ∷ rest.earlier; rest = rest.rest; whole = ap (λ l. x ∷ l) rest.whole; number = omega (arith, none, number); assigns = rest.assigns }

assigns_some : (sight : Sight) (value : Arg → ℕ) (line : ℕ) (a : Act) → assigned_count a ≡ 1 → act_value sight value line a ≡ None → ⊥
assigns_some sight value line (act.WriteFile file number index v guard) e f = omega (arith, e)
assigns_some sight value line (act.WriteReg reg v guard) e f = omega (arith, e)
assigns_some sight value line (act.WriteMem mem at v guard) e f = omega (arith, e)
assigns_some sight value line (act.Branch c t) e f = omega (arith, e)
assigns_some sight value line (act.Jump t) e f = omega (arith, e)
assigns_some sight value line _ e f = cc

at_end : (xs : List ℕ) (v : ℕ) → slice_index (xs ++ v ∷ []) (length xs) ≡ v
at_end [] v = refl
at_end (x ∷ xs) v = at_end xs v

pub of_stage : (stage : ℕ) (m : Micro) (o : Option Micro) → option_and_then (if_in_stage stage) o ≡ Some m → (o ≡ Some m) × (m.stage ≡ stage)
of_stage stage m None e = cc
of_stage stage m (Some x) e = go (x.stage == stage) refl e
  where
    go : (b : Bool) → (x.stage == stage) ≡ b → (if b then Some x else None) ≡ Some m → (Some x ≡ Some m) × (m.stage ≡ stage)
    go true t f = let same : x ≡ m = cc in (ap Some same, subst (λ (y : Micro). y.stage ≡ stage) same (eqb-true x.stage stage t))
    go false t f = cc

module _ (sight : Sight) (stage : ℕ) (start : List ℕ) (order : NeverFall sight.instr.micros) (range : AreInRange sight.design 0 (fields_of sight.design sight.instr) sight.instr.micros)
    (counted : length start ≡ count (before stage sight.instr.micros)) where
  abbrev after : List ℕ
  after = locals_after sight start (lines_in stage sight.instr)

  module _ (earlier : List Micro) (m : Micro) (rest : List Micro) (whole : sight.instr.micros ≡ earlier ++ m ∷ rest) (here : m.stage ≡ stage) (assigns : assigned_count m.act ≡ 1) where
    abbrev front : List ℕ
    front = locals_after sight start (within stage earlier)

    lines : lines_in stage sight.instr ≡ within stage earlier ++ m ∷ within stage rest
    lines = ap (within stage) whole ∙ filter-append (λ (m : Micro). m.stage == stage) earlier (m ∷ rest) ∙ ap (λ b. within stage earlier ++ cond b (m ∷ within stage rest) (within stage rest)) (eq-eqb m.stage stage here)

    is_after : after ≡ locals_after sight front (m ∷ within stage rest)
    is_after = ap (locals_after sight start) lines ∙ after_both sight start (within stage earlier) (m ∷ within stage rest)

    long : length front ≡ count earlier
    long =
        let number = count_after sight start (within stage earlier) in
        let widths = widths_count sight.design sight.instr (within stage earlier) in
        let split = split_earlier stage earlier m rest (subst NeverFall whole order) here in
        let same = ap (λ ms. count (before stage ms)) whole in
        omega (arith, number, widths, split, same, counted)

    kept : (k : ℕ) → k < count earlier → slice_index front k ≡ slice_index after k
    kept k h = sym (begins sight front (m ∷ within stage rest) k (omega (arith, h, long))) ∙ ap (λ xs. slice_index xs k) (sym is_after)

    same_operand : (x : Arg) → IsArg (count earlier) (fields_of sight.design sight.instr) x → arg_value sight front x ≡ arg_value sight after x
    same_operand (arg.Local k) h = kept k h
    same_operand (arg.Field k) h = refl
    same_operand arg.Pc h = refl
    same_operand arg.Link h = refl

    in_range : IsInRange sight.design (count earlier) (fields_of sight.design sight.instr) m.act
    in_range =
        let none : 0 + count earlier ≡ count earlier = omega arith in
        subst (λ k. IsInRange sight.design k (fields_of sight.design sight.instr) m.act) none (range_at sight.design 0 (fields_of sight.design sight.instr) earlier m rest (subst (AreInRange sight.design 0 (fields_of sight.design sight.instr)) whole range))

    by_value : (o : Option ℕ) → act_value sight (arg_value sight front) m.line m.act ≡ o → Some (slice_index after (count earlier)) ≡ o
    unfolding locals_after
    by_value None e = absurd (assigns_some sight (arg_value sight front) m.line m.act assigns e)
    by_value (Some v) e =
        let step : locals_after sight front (m ∷ within stage rest) ≡ locals_after sight (front ++ v ∷ []) (within stage rest) = ap (λ o. locals_after sight (front ++ option_to_list o) (within stage rest)) e in
        let more = length-append front (v ∷ []) in
        let at : slice_index after (count earlier) ≡ v =
        ap (λ xs. slice_index xs (count earlier)) (is_after ∙ step) ∙ begins sight (front ++ v ∷ []) (within stage rest) (count earlier) (omega (arith, long, more)) ∙ ap (slice_index (front ++ v ∷ [])) (sym long) ∙ at_end front v in
        ap Some at

    one_local : Some (slice_index after (count earlier)) ≡ act_value sight (arg_value sight after) m.line m.act
    one_local = by_value (act_value sight (arg_value sight front) m.line m.act) refl ∙ same_act sight (count earlier) (fields_of sight.design sight.instr) (arg_value sight front) (arg_value sight after) same_operand m.line m.act in_range

  new_local : (n : ℕ) (m : Micro) → maker_in sight.instr stage (arg.Local n) ≡ Some m → Some (slice_index after n) ≡ act_value sight (arg_value sight after) m.line m.act
  new_local n m made =
      let parts = of_stage stage m (slice_get (makers sight.instr) n) made in
      let split = split_at sight.instr.micros n m parts.0 in
      subst (λ k. Some (slice_index after k) ≡ act_value sight (arg_value sight after) m.line m.act) split.number (one_local split.earlier m split.rest split.whole parts.1 split.assigns)

pub fires_by_line : (design : Design) (cards : List Card) → FitsCards design cards → FiresByLine design cards
unfolding fire
fires_by_line design cards fits inputs storages stage flight instr at has =
    let sight = flight_sight design cards inputs storages flight instr in
    let good = word_is_good design cards flight.word instr (clean_is_runnable design cards fits) at in
    let number = has instr at in
    let widths = widths_count design instr (lines_before stage instr) in
    let fired = ap (λ o. (instr_effect design cards stage flight.place flight.word flight.locals storages (port_input inputs) o).locals) at in
    subst (LocalsByLine design cards inputs storages stage flight instr) (sym fired)
    (record {
      old = begins sight flight.locals (lines_in stage instr);
      new = new_local sight stage flight.locals good.order good.right.range (omega (arith, number, widths));
    })
