-- The homes of live locals.
use Rattle.std.proofs.Common.{◌≡◌, ℕ, suc, ◌+◌, ◌-◌, ◌<◌, ◌==◌, ◌&&◌, Bool, true, false, if◌then◌else◌, List, [], ◌∷◌, length, Option, Some, refl, sym, ap, subst, ◌∙◌, arith, inl, inr, ⊎_elim}
use Rattle.std.specs.Prelude.{find, slice_get, unwrap_or, IsSomeAnd}
use Rattle.std.specs.Option.{option_map_or}
use Rattle.std.proofs.lemmas.Bool.{and_parts, cases_lt, eqb-true}
use Rattle.ap_desc.proofs.LineOrder.{instrs_in_order}
use Rattle.ap_desc.proofs.Members.{In, any_in, in_contains, some_and}
use Rattle.ap_desc.specs.declared.design.Instr.{Instr}
use Rattle.ap_model.specs.Fire.{instr_of, is_match}
use Rattle.ap_model.specs.FlightLocals.{is_live, is_live_in}
use Rattle.ap_pipe.specs.declared.table.Home.{Home}
use Rattle.ap_pipe.specs.declared.table.StageSlots.{StageSlots}
use Rattle.ap_flight.specs.declared.stage.StageRegisters.{StageRegisters}
use Rattle.ap_front.specs.Driven.{at_stage, no_registers, no_slots}
use Rattle.ap_front.specs.Homes.{HomesAreSlots, HomesAreWithin, home_in, is_home, line_of}
use Rattle.ap_front.specs.Opened.{wire_width}
use Rattle.ap_front.proofs.Flying.{names_at, names_long, there}
use Rattle.ap_front.proofs.Readied.{mapped_long}

same_test : (a b : ℕ) → a ≡ b → (a == b) ≡ true
same_test a b e = subst (λ x. (a == x) ≡ true) e (itself a)
  where
    itself : (n : ℕ) → (n == n) ≡ true
    itself n = grind arith

both_true : (a b : Bool) → a ≡ true → b ≡ true → (a && b) ≡ true
both_true a b p q = ap (λ x. x && b) p ∙ q

-- what is found where one is there that passes
record Finds {X : Type 0} (t : X → Bool) (xs : List X) : Type 0 where
  it : X
  is : find t xs ≡ Some it
  one : In it xs
  passes : t it ≡ true

finds : {X : Type 0} (t : X → Bool) (xs : List X) (x : X) → In x xs → t x ≡ true → Finds t xs
finds t [] x h e = absurd h
finds {X} t (y ∷ ys) x h e = by (λ more. finds t ys x more e) (t y) refl
  where
    later : (t y ≡ false) → Finds t ys → Finds t (y ∷ ys)
    later off f = record { it = f.it; is = ap (λ b. if b then Some y else find t ys) off ∙ f.is; one = inr f.one; passes = f.passes }

    by : (In x ys → Finds t ys) → (b : Bool) → t y ≡ b → Finds t (y ∷ ys)
    by next true on = record { it = y; is = ap (λ b. if b then Some y else find t ys) on; one = inl refl; passes = on }
    by next false off = later off (⊎_elim (λ same. absurd (clash off same)) next h)
      where
        clash : t y ≡ false → x ≡ y → ⊥
        clash none same = let bad : true ≡ false = sym e ∙ ap t same ∙ none in cc

-- the place of what is found
found_at : {X : Type 0} (t : X → Bool) (xs : List X) (x : X) → find t xs ≡ Some x → (i : ℕ) × (slice_get xs i ≡ Some x)
found_at t [] x e = cc
found_at {X} t (y ∷ ys) x e = by (found_at t ys x) (t y) refl
  where
    by : (find t ys ≡ Some x → (i : ℕ) × (slice_get ys i ≡ Some x)) → (b : Bool) → t y ≡ b → (i : ℕ) × (slice_get (y ∷ ys) i ≡ Some x)
    by next true on = (0, sym (ap (λ b. if b then Some y else find t ys) on) ∙ e)
    by next false off = let rest = next (sym (ap (λ b. if b then Some y else find t ys) off) ∙ e) in (suc rest.0, rest.1)

pub homes_are_slots : HomesAreSlots
homes_are_slots design table clean slots place number i s instr at at_instr live =
    let homes = (slots.each place s at).homes in
    let some = any_in (λ (h : Home). (h.instr ≡ number) × (h.local ≡ i)) s.homes (homes.all number i (subst (λ (o : Option Instr). IsSomeAnd o (λ (x : Instr). is_live_in design (place + 1) i x ≡ true)) (sym at_instr) live)) in
    let line : line_of design (some.0).instr ≡ instr.line = ap (line_of design) some.2.0 ∙ ap (λ (o : Option Instr). option_map_or (λ (x : Instr). x.line) o 0) at_instr in
    let passes = both_true (line_of design (some.0).instr == instr.line) ((some.0).local == i) (same_test (line_of design (some.0).instr) instr.line line) (same_test (some.0).local i some.2.1) in
    let f = finds (is_home design instr i) s.homes some.0 some.1 passes in
    let two = and_parts (line_of design (f.it).instr == instr.line) ((f.it).local == i) f.passes in
    let other = some_and (slice_get design.instrs (f.it).instr) (λ (x : Instr). is_live_in design (place + 1) (f.it).local x ≡ true) (homes.live f.it (in_contains s.homes f.it f.one)) in
    let lines : (other.0).line ≡ instr.line = sym (ap (λ (o : Option Instr). option_map_or (λ (x : Instr). x.line) o 0) other.1) ∙ eqb-true (line_of design (f.it).instr) instr.line two.0 in
    let next : place + 1 ≡ suc place = omega arith in
    record {
      home = f.it;
      there = in_contains s.homes f.it f.one;
      instr = one_line (f.it).instr number other.0 instr other.1 at_instr lines;
      local = eqb-true (f.it).local i two.1;
      slot_is = sym (ap (λ n. home_in design table.stages n instr i) next ∙ ap (λ (o : Option StageSlots). option_map_or (λ (h : Home). h.slot) (find (is_home design instr i) (unwrap_or o no_slots).homes) 0) at
          ∙ ap (λ (o : Option Home). option_map_or (λ (h : Home). h.slot) o 0) f.is);
    }
  where
    one_line : (a b : ℕ) (x y : Instr) → slice_get design.instrs a ≡ Some x → slice_get design.instrs b ≡ Some y → x.line ≡ y.line → a ≡ b
    one_line a b x y p q e =
        ⊎_elim (λ less. let l : x.line < y.line = (instrs_in_order design a b x y clean.sound p q).1 less in absurd (omega arith))
        (λ le. ⊎_elim (λ more. let l : y.line < x.line = (instrs_in_order design b a y x clean.sound q p).1 more in absurd (omega arith)) (λ ge. omega arith) (cases_lt b a)) (cases_lt a b)

pub homes_are_within : HomesAreWithin
unfolding instr_of is_live
homes_are_within design d table r comings clean slots names gives run same stage i word instr low high at live =
    let before : ℕ = stage - 1 in
    let here : before + 1 ≡ stage = omega arith in
    let next : suc before ≡ stage = omega arith in
    let number = found_at (is_match word) design.instrs instr at in
    let lives : is_live_in design stage i instr ≡ true = sym (ap (λ (o : Option Instr). option_map_or (is_live_in design stage i) o false) at) ∙ live in
    let count = slots.count in
    let s : StageSlots = unwrap_or (slice_get table.stages before) no_slots in
    let p1 : slice_get table.stages before ≡ Some s = there table.stages before no_slots (omega arith) in
    let long = names_long design d 1 table.stages r.stages names.each in
    let q : StageRegisters = unwrap_or (slice_get r.stages before) no_registers in
    let p2 : slice_get r.stages before ≡ Some q = there r.stages before no_registers (omega arith) in
    let named = names_at design d 1 before table.stages r.stages s q names.each p1 p2 in
    let h = homes_are_slots design table clean slots before number.0 i s instr p1 number.1 (subst (λ n. is_live_in design n i instr ≡ true) (sym here) lives) in
    let slot : (h.home).slot ≡ run.home stage instr i = h.slot_is ∙ ap (λ n. home_in design table.stages n instr i) here ∙ sym (same stage i instr) in
    let less = ((slots.each before s p1).homes.hold h.home h.there).there in
    let wide : length q.slots ≡ length s.widths = sym (mapped_long wire_width q.slots) ∙ ap length named.slots_wide in
    let registers : at_stage no_registers r.stages stage ≡ q = ap (at_stage no_registers r.stages) (sym next) in
    let all : length (gives.has.registers stage).slots ≡ length q.slots = ap (λ (x : StageRegisters). length x.slots) (gives.registers stage ∙ registers) in
    omega arith
