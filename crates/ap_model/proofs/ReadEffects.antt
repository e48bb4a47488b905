-- Values that meet the lines' equations write, transfer and leave locals as the flight does.
use Rattle.std.proofs.Common.{◌≡◌, ℕ, ◌+◌, ◌≤◌, ◌<◌, ◌==◌, ◌&&◌, ◌||◌, nat_lt, not, Bool, true, false, if◌then◌else◌, List, [], ◌∷◌, ◌++◌, length, filter, filter_map, find, cond, slice_get, slice_index, option_and_then, option_to_list, Option, Some, None, refl, ap, sym, subst, ◌∙◌, arith, eq-eqb, ltb-true, ltb-false}
use Rattle.std.proofs.lemmas.Bool.{and_parts, lt-ltb}
use Rattle.std.specs.Prelude.{Contains}
use Rattle.std.specs.List.{AllByRecursion as Each, list_any}
use Rattle.std.specs.Option.{option_map_or}
use Rattle.ap_bits.specs.declared.card.Card.{Card}
use Rattle.ap_desc.specs.Chains.{maker_in, makers, operands_of, if_in_stage}
use Rattle.ap_desc.specs.Clean.{FitsCards}
use Rattle.ap_desc.specs.Designs.{assigned_count}
use Rattle.ap_desc.specs.declared.design.Act.{Act}
use Rattle.ap_desc.specs.declared.design.Act.TheVariants as act
use Rattle.ap_desc.specs.declared.design.Arg.{Arg}
use Rattle.ap_desc.specs.declared.design.Arg.TheVariants as arg
use Rattle.ap_desc.specs.declared.design.Design.{Design}
use Rattle.ap_desc.specs.declared.design.Instr.{Instr}
use Rattle.ap_desc.specs.declared.design.Micro.{Micro}
use Rattle.ap_image.specs.declared.trace.TraceLine.{TraceLine}
use Rattle.ap_model.specs.declared.state.StageEffect.{StageEffect}
use Rattle.ap_model.specs.declared.state.Flight.{Flight}
use Rattle.ap_model.specs.declared.storage.PortWrite.{PortWrite}
use Rattle.ap_model.specs.declared.storage.WritePort.{WritePort}
use Rattle.ap_model.specs.declared.storage.WritePort.TheVariants as port
use Rattle.ap_model.specs.Cycles.{port_input}
use Rattle.ap_model.specs.Fire.{arg_value, fire, instr_effect, instr_of, lines_in, target_of, where_guard, write_of}
use Rattle.ap_model.specs.Fitting.{IsGood, lines_before}
use Rattle.ap_model.specs.declared.storage.Storages.{Storages}
use Rattle.ap_model.specs.Ports.{is_used_in, writes_through}
use Rattle.ap_model.specs.Fitting.{assigned_by}
use Rattle.ap_model.specs.Runnable.{NeverFall}
use Rattle.ap_model.proofs.StageLemmas.{before, clean_is_runnable, none_before, tail_order, word_is_good}
use Rattle.ap_model.specs.FlightLocals.{HasLocals, is_live, is_live_in, looks_at}
use Rattle.ap_model.specs.LineForms.{LocalsByLine, ReadingsAreRight, ReadsLines, fired, flight_sight}
use Rattle.ap_model.specs.PortForms.{line_write, stage_value, write_through}
use Rattle.ap_desc.proofs.OnePort.{each_as}
use Rattle.ap_model.proofs.LineOrder.{at_maker, count, widths_count}
use Rattle.ap_model.proofs.LinesFire.{fires_by_line}
use Rattle.ap_model.proofs.ListLemmas.{contains_each, each_in_stage, filter_map_each}
use Rattle.ap_model.proofs.Readings.{ReadsGood, all_before, all_good, local_read, made_among, operands_read}
use Rattle.ap_model.proofs.UsedPorts.{clean_writes_by_line}

guard_same : (f g : Arg → ℕ) (guard : Option Arg) (p q : PortWrite) → p ≡ q → Each (λ x. f x ≡ g x) (option_to_list guard) → where_guard f guard p ≡ where_guard g guard q
guard_same f g None p q same e = ap Some same
guard_same f g (Some x) p q same e = λ i. if e.0 i == 1 then Some (same i) else None

write_same : (f g : Arg → ℕ) (a : Act) → Each (λ x. f x ≡ g x) (operands_of a) → write_of f a ≡ write_of g a
write_same f g (act.WriteFile file number index v guard) e = guard_same f g guard _ _ (λ i. record { port = port.Cell file number; at = e.0 i; value = e.1.0 i }) e.1.1
write_same f g (act.WriteReg reg v guard) e = guard_same f g guard _ _ (λ i. record { port = port.Register reg; at = 0; value = e.0 i }) e.1
write_same f g (act.WriteMem mem at v guard) e = guard_same f g guard _ _ (λ i. record { port = port.Memory mem; at = e.0 i; value = e.1.0 i }) e.1.1
write_same f g _ e = refl

target_same : (f g : Arg → ℕ) (a : Act) → Each (λ x. f x ≡ g x) (operands_of a) → target_of f a ≡ target_of g a
target_same f g (act.Branch c t) e = λ i. if e.0 i == 1 then Some (e.1.0 i) else None
target_same f g (act.Jump t) e = ap Some e.0
target_same f g _ e = refl

line_write_each : (f g : Arg → ℕ) (p : WritePort) (micros : List Micro) → Each (λ (m : Micro). write_of f m.act ≡ write_of g m.act) micros → line_write f p micros ≡ line_write g p micros
line_write_each f g p [] e = refl
line_write_each f g p (m ∷ micros) e = go (writes_through p m.act) (line_write_each f g p micros e.1)
  where
    go : (b : Bool) → line_write f p micros ≡ line_write g p micros → option_and_then (λ (x : Micro). write_of f x.act) (if b then Some m else find (λ (x : Micro). writes_through p x.act) micros) ≡ option_and_then (λ (x : Micro). write_of g x.act) (if b then Some m else find (λ (x : Micro). writes_through p x.act) micros)
    go true rest = e.0
    go false rest = rest

-- Locals that are live in the next stage.

-- before a line of a stage or a later one there are all lines of earlier stages
front_before : (stage : ℕ) (earlier : List Micro) (m : Micro) (rest : List Micro) → NeverFall (earlier ++ m ∷ rest) → stage ≤ m.stage → count (before stage (earlier ++ m ∷ rest)) ≤ count earlier
front_before stage [] m rest order h = let none = ap count (none_before stage m rest order h) in omega (arith, none)
front_before stage (x ∷ earlier) m rest order h = go (nat_lt x.stage stage) (front_before stage earlier m rest (tail_order x (earlier ++ m ∷ rest) order) h)
  where
    go : (b : Bool) → count (before stage (earlier ++ m ∷ rest)) ≤ count earlier → count (cond b (x ∷ before stage (earlier ++ m ∷ rest)) (before stage (earlier ++ m ∷ rest))) ≤ assigned_count x.act + count earlier
    go true e = omega (arith, e)
    go false e = omega (arith, e)

fewer_before : (stage : ℕ) (micros : List Micro) → count (before stage micros) ≤ count micros
fewer_before stage [] = omega arith
fewer_before stage (x ∷ micros) = go (nat_lt x.stage stage) (fewer_before stage micros)
  where
    go : (b : Bool) → count (before stage micros) ≤ count micros → count (cond b (x ∷ before stage micros) (before stage micros)) ≤ assigned_count x.act + count micros
    go true e = omega (arith, e)
    go false e = omega (arith, e)

-- a local that the lines up to a stage assign, and those before it don't, is made in it
made_in : (instr : Instr) (stage k : ℕ) → NeverFall instr.micros → count (before stage instr.micros) ≤ k → k < count (before (stage + 1) instr.micros) → (x : Micro) × (maker_in instr stage (arg.Local k) ≡ Some x)
made_in instr stage k order high low =
    let few = fewer_before (stage + 1) instr.micros in
    let made = made_among instr.micros k (omega (arith, low, few)) in
    let number = made.number in
    let assigns = made.assigns in
    let all = made.whole in
    let sorted = subst NeverFall all order in
    let in_stage : made.line.stage ≡ stage = go made.line.stage (nat_lt made.line.stage stage) refl (nat_lt stage made.line.stage) refl
    (λ early. let count_all = all_before stage made.earlier made.line made.rest sorted early in let same = ap (λ ms. count (before stage ms)) all in omega (arith, count_all, same, high, number, assigns))
    (λ late. let front = front_before (stage + 1) made.earlier made.line made.rest sorted (omega (arith, late)) in let same = ap (λ ms. count (before (stage + 1) ms)) all in omega (arith, front, same, low, number)) in
    let found : slice_get (makers instr) k ≡ Some made.line = (λ i. slice_get (filter (λ (m : Micro). assigned_count m.act == 1) (all i)) (sym number i)) ∙ at_maker made.earlier made.line made.rest assigns in
    (made.line, ap (option_and_then (if_in_stage stage)) found ∙ ap (λ b. if b then Some made.line else None) (eq-eqb made.line.stage stage in_stage))
  where
    go : (s : ℕ) (b : Bool) → nat_lt s stage ≡ b → (c : Bool) → nat_lt stage s ≡ c → (s < stage → ⊥) → (stage < s → ⊥) → s ≡ stage
    go s true e c f never never_too = absurd (never (ltb-true s stage e))
    go s false e true f never never_too = absurd (never_too (ltb-true stage s f))
    go s false e false f never never_too = let low = ltb-false s stage e in let high = ltb-false stage s f in omega (arith, low, high)

any_weaker : (s t : Micro → Bool) → ((m : Micro) → s m ≡ true → t m ≡ true) → (micros : List Micro) → list_any s micros ≡ true → list_any t micros ≡ true
any_weaker s t weaker [] e = cc
any_weaker s t weaker (m ∷ micros) e = go (s m) refl e (any_weaker s t weaker micros)
  where
    or_later : (a b : Bool) → b ≡ true → (a || b) ≡ true
    or_later true b h = refl
    or_later false b h = h

    go : (b : Bool) → s m ≡ b → (b || list_any s micros) ≡ true → (list_any s micros ≡ true → list_any t micros ≡ true) → (t m || list_any t micros) ≡ true
    go true p e rest = ap (λ b. b || list_any t micros) (weaker m p)
    go false p e rest = or_later (t m) (list_any t micros) (rest e)

still_later : (stage m : ℕ) (looked : Bool) → (not (nat_lt m (stage + 1)) && looked) ≡ true → (not (nat_lt m stage) && looked) ≡ true
still_later stage m looked e = go looked (nat_lt m stage) refl (nat_lt m (stage + 1)) refl e
  where
    go : (l b : Bool) → nat_lt m stage ≡ b → (c : Bool) → nat_lt m (stage + 1) ≡ c → (not c && l) ≡ true → (not b && l) ≡ true
    go true false p c q e = refl
    go true true p true q e = cc
    go true true p false q e = let low = ltb-true m stage p in let high = ltb-false m (stage + 1) q in let none : ⊥ = omega (arith, low, high) in absurd none
    go false b p true q e = cc
    go false b p false q e = cc

live_parts : (design : Design) (word stage i : ℕ) (instr : Instr) → instr_of design word ≡ Some instr → is_live design word stage i ≡ is_live_in design stage i instr
unfolding is_live
live_parts design word stage i instr e = ap (λ o. option_map_or (is_live_in design stage i) o false) e

module _ (design : Design) (cards : List Card) (fits : FitsCards design cards) (inputs : TraceLine) (storages : Storages) (stage : ℕ) (flight : Flight) (has : HasLocals design stage flight)
    (instr : Instr) (at : instr_of design flight.word ≡ Some instr) (value : Arg → ℕ) (reads : ReadsLines design cards inputs storages stage flight instr (λ a. true) (slice_index flight.locals) value) where
  abbrev effect : StageEffect
  effect = fired design cards inputs storages stage flight

  all : ReadsGood design cards inputs storages stage flight instr value (λ x. Unit {0})
  all = record { field = reads.field; pc = reads.pc; link = reads.link; old = reads.old; new = λ n m made g. reads.new n m made refl; closed = λ n m made g. all_good (operands_of m.act) }

  counted : length flight.locals ≡ count (before stage instr.micros)
  counted = let number = has instr at in let widths = widths_count design instr (lines_before stage instr) in omega (arith, number, widths)

  by_line : LocalsByLine design cards inputs storages stage flight instr effect.locals
  by_line = fires_by_line design cards fits inputs storages stage flight instr at has

  good : IsGood design instr
  good = word_is_good design cards flight.word instr (clean_is_runnable design cards fits) at

  operands_right : (m : Micro) → Contains instr.micros m → m.stage ≡ stage → Each (λ x. value x ≡ arg_value (flight_sight design cards inputs storages flight instr) effect.locals x) (operands_of m.act)
  operands_right m there here = operands_read design cards inputs storages stage flight instr value (λ x. Unit {0}) all effect.locals by_line good.order good.right.range at counted m there here (all_good (operands_of m.act))

  made_right : (n : ℕ) (m : Micro) → maker_in instr stage (arg.Local n) ≡ Some m → value (arg.Local n) ≡ slice_index effect.locals n
  made_right n m made = local_read design cards inputs storages stage flight instr value (λ x. Unit {0}) all effect.locals by_line good.order good.right.range at counted n m made tt

  abbrev seen : Arg → ℕ
  seen = stage_value design cards stage flight.place flight.word flight.locals storages (port_input inputs) instr

  seen_is : (x : Arg) → arg_value (flight_sight design cards inputs storages flight instr) effect.locals x ≡ seen x
  unfolding fire
  seen_is x = ap (λ o. arg_value (flight_sight design cards inputs storages flight instr) (instr_effect design cards stage flight.place flight.word flight.locals storages (port_input inputs) o).locals x) at

  operands : Each (λ (m : Micro). Each (λ x. value x ≡ seen x) (operands_of m.act)) (lines_in stage instr)
  operands = each_in_stage (λ (m : Micro). Each (λ x. value x ≡ seen x) (operands_of m.act)) stage instr.micros
      (each_as (Contains instr.micros) (λ (m : Micro). m.stage ≡ stage → Each (λ x. value x ≡ seen x) (operands_of m.act))
      (λ m there here. each_as (λ x. value x ≡ arg_value (flight_sight design cards inputs storages flight instr) effect.locals x) (λ x. value x ≡ seen x) (λ x e. e ∙ seen_is x) (operands_of m.act) (operands_right m there here)) instr.micros (contains_each instr.micros))

  writes_right : (p : WritePort) → is_used_in design stage p ≡ true → line_write value p (lines_in stage instr) ≡ write_through p effect.writes
  writes_right p used =
      line_write_each value seen p (lines_in stage instr) (each_as (λ (m : Micro). Each (λ x. value x ≡ seen x) (operands_of m.act)) (λ (m : Micro). write_of value m.act ≡ write_of seen m.act) (λ m e. write_same value seen m.act e) (lines_in stage instr) operands)
      ∙ sym (clean_writes_by_line design cards fits stage flight.place flight.word flight.locals storages (port_input inputs) instr p at used)

  target_right : slice_get (filter_map (λ (m : Micro). target_of value m.act) (lines_in stage instr)) 0 ≡ effect.target
  unfolding fire
  target_right =
      ap (λ l. slice_get l 0) (filter_map_each (λ (m : Micro). target_of value m.act) (λ (m : Micro). target_of seen m.act) (lines_in stage instr)
      (each_as (λ (m : Micro). Each (λ x. value x ≡ seen x) (operands_of m.act)) (λ (m : Micro). target_of value m.act ≡ target_of seen m.act) (λ m e. target_same value seen m.act e) (lines_in stage instr) operands))
      ∙ sym (ap (λ o. (instr_effect design cards stage flight.place flight.word flight.locals storages (port_input inputs) o).target) at)

  left_right : (i : ℕ) → is_live design flight.word (stage + 1) i ≡ true → value (arg.Local i) ≡ slice_index effect.locals i
  left_right i alive =
      let parts = and_parts (nat_lt i (assigned_by design instr (lines_before (stage + 1) instr))) (list_any (λ (m : Micro). not (nat_lt m.stage (stage + 1)) && looks_at i m) instr.micros) (sym (live_parts design flight.word (stage + 1) i instr at) ∙ alive) in
      let number = has instr at in
      let widths = widths_count design instr (lines_before stage instr) in
      let more = widths_count design instr (lines_before (stage + 1) instr) in
      let low = ltb-true i (assigned_by design instr (lines_before (stage + 1) instr)) parts.0 in
      go (nat_lt i (length flight.locals)) refl
      (λ early.
      let still : is_live design flight.word stage i ≡ true = live_parts design flight.word stage i instr at
      ∙ (λ j. lt-ltb i (assigned_by design instr (lines_before stage instr)) (omega (arith, early, number)) j
      && any_weaker (λ (m : Micro). not (nat_lt m.stage (stage + 1)) && looks_at i m) (λ (m : Micro). not (nat_lt m.stage stage) && looks_at i m) (λ m e. still_later stage m.stage (looks_at i m) e) instr.micros parts.1 j) in
      reads.old i still ∙ sym (by_line.old i early))
      (λ late.
      let made = made_in instr stage i good.order (omega (arith, late, number, widths)) (omega (arith, low, more)) in
      made_right i made.0 made.1)
    where
      go : (b : Bool) → nat_lt i (length flight.locals) ≡ b → (i < length flight.locals → value (arg.Local i) ≡ slice_index effect.locals i) → (length flight.locals ≤ i → value (arg.Local i) ≡ slice_index effect.locals i) → value (arg.Local i) ≡ slice_index effect.locals i
      go true e f g = f (ltb-true i (length flight.locals) e)
      go false e f g = g (ltb-false i (length flight.locals) e)

pub readings_are_right : (design : Design) (cards : List Card) → FitsCards design cards → ReadingsAreRight design cards
readings_are_right design cards fits inputs storages stage flight instr value at has reads = record {
  operands = operands_right design cards fits inputs storages stage flight has instr at value reads;
  made = made_right design cards fits inputs storages stage flight has instr at value reads;
  left = left_right design cards fits inputs storages stage flight has instr at value reads;
  writes = writes_right design cards fits inputs storages stage flight has instr at value reads;
  target = target_right design cards fits inputs storages stage flight has instr at value reads;
}
