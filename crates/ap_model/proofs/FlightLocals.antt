-- Every flight of the machine has as many locals as the lines of the earlier stages assign; and none is live in stage 1.
use Rattle.std.proofs.Common.{◌≡◌, ℕ, zero, suc, ◌+◌, ◌-◌, ◌&&◌, ◌||◌, nat_lt, not, Bool, true, false, if◌then◌else◌, IfSome, List, [], ◌∷◌, ◌++◌, length, filter_map, replicate, option_to_list, option_map, Option, Some, None, refl, ap, sym, ◌∙◌, arith, length-append}
use Rattle.std.proofs.lemmas.Bool.Decides.{nat_tests}
use Rattle.std.specs.List.{cons_option, list_any}
use Rattle.std.specs.Option.{option_map_or}
use Rattle.ap_bits.specs.declared.card.Card.{Card}
use Rattle.ap_desc.specs.Designs.{local_width, fields_of}
use Rattle.ap_desc.specs.declared.design.Act.{Act}
use Rattle.ap_desc.specs.declared.design.Act.TheVariants as act
use Rattle.ap_desc.specs.declared.design.Arg.{Arg}
use Rattle.ap_desc.specs.declared.design.Design.{Design}
use Rattle.ap_desc.specs.declared.design.Instr.{Instr}
use Rattle.ap_desc.specs.declared.design.Micro.{Micro}
use Rattle.ap_image.specs.declared.image.Image.{Image}
use Rattle.ap_image.specs.declared.trace.Trace.{Trace}
use Rattle.ap_image.specs.declared.trace.TraceLine.{TraceLine}
use Rattle.ap_model.specs.declared.state.Flight.{Flight}
use Rattle.ap_model.specs.declared.state.State.{State}
use Rattle.ap_model.specs.Cycles.{CycleControl, after_control, control_of, cycle, cycle_flights, entering, fetched, flight_effect, flights_from, gone_on, inputs_at, is_killed, leaving, over, port_input, staying}
use Rattle.ap_model.specs.Fire.{Sight, act_value, arg_value, fire, instr_effect, instr_of, lines_in, locals_after}
use Rattle.ap_model.specs.Fitting.{assigned_by, assigned_width}
use Rattle.ap_model.specs.Runnable.{IsRunnable}
use Rattle.ap_model.specs.States.{start}
use Rattle.ap_model.proofs.StageLemmas.{counted, counted_next, none_at_first, word_is_good}
use Rattle.ap_model.specs.FlightLocals.{HasLocals, HaveLocals, is_live, is_live_in, looks_at}

-- What lines assign.

one_more : (sight : Sight) (value : Arg → ℕ) (line : ℕ) (a : Act) (xs : List ℕ) → length (option_to_list (act_value sight value line a)) + length xs ≡ length (cons_option (local_width sight.design sight.instr.locals (fields_of sight.design sight.instr) a) xs)
one_more sight value line (act.WriteFile file number index v guard) xs = omega arith
one_more sight value line (act.WriteReg reg v guard) xs = omega arith
one_more sight value line (act.WriteMem mem at v guard) xs = omega arith
one_more sight value line (act.Branch c t) xs = omega arith
one_more sight value line (act.Jump t) xs = omega arith
one_more sight value line _ xs = omega arith

pub count_after : (sight : Sight) (locals : List ℕ) (micros : List Micro) → length (locals_after sight locals micros) ≡ length locals + counted (assigned_width sight.design sight.instr) micros
unfolding locals_after
count_after sight locals [] = omega arith
count_after sight locals (m ∷ micros) =
    let value = act_value sight (arg_value sight locals) m.line m.act in
    let rest = count_after sight (locals ++ option_to_list value) micros in
    let both = length-append locals (option_to_list value) in
    let one = one_more sight (arg_value sight locals) m.line m.act (filter_map (assigned_width sight.design sight.instr) micros) in
    omega (arith, rest, both, one)

fired_locals : (design : Design) (cards : List Card) (inputs : TraceLine) (state : State) (stage : ℕ) (flight : Flight) → HasLocals design stage flight → HasLocals design (stage + 1) (gone_on flight (flight_effect design cards inputs state stage flight))
unfolding fire
fired_locals design cards inputs state stage flight has instr at =
    let sight : Sight = record { design = design; cards = cards; instr = instr; word = flight.word; place = flight.place; storages = state.storages; input = port_input inputs } in
    let fired = ap (λ o. length (instr_effect design cards stage flight.place flight.word flight.locals state.storages (port_input inputs) o).locals) at in
    let after = count_after sight flight.locals (lines_in stage instr) in
    let next = counted_next (assigned_width design instr) stage instr.micros in
    let before = has instr at in
    omega (arith, fired, after, next, before)

flights_have : (design : Design) (cards : List Card) (inputs : TraceLine) (state : State) (control : CycleControl) (stage : ℕ) (coming : Option Flight) (flights : List (Option Flight)) → IfSome coming (HasLocals design stage) → HaveLocals design stage flights
    → HaveLocals design stage (flights_from design cards inputs state control stage coming flights)
flights_have design cards inputs state control stage coming [] comes have = tt
flights_have design cards inputs state control stage coming (flight ∷ flights) comes have =
    (here (control.held stage) flight have.0, flights_have design cards inputs state control (stage + 1) (leaving design cards inputs state control stage flight) flights (leaves flight have.0) have.1)
  where
    here : (b : Bool) (f : Option Flight) → IfSome f (HasLocals design stage) → IfSome (if b then option_map staying f else coming) (HasLocals design stage)
    here true None h = tt
    here true (Some f) h = h
    here false f h = comes

    leaves : (f : Option Flight) → IfSome f (HasLocals design stage) → IfSome (leaving design cards inputs state control stage f) (HasLocals design (stage + 1))
    leaves None h = tt
    leaves (Some f) h = go (control.held stage || is_killed design control stage)
      where
        go : (b : Bool) → IfSome (option_map (gone_on f) (if b then None else Some (flight_effect design cards inputs state stage f))) (HasLocals design (stage + 1))
        go true = tt
        go false = fired_locals design cards inputs state stage f h

enters : (design : Design) (cards : List Card) (image : Image) (state : State) (control : CycleControl) → IsRunnable design cards → IfSome (entering design image state control) (HasLocals design 1)
enters design cards image state control runs = go (control.held 0 || is_killed design control 0)
  where
    first : HasLocals design 1 (fetched image state)
    first instr at = ap (λ ms. assigned_by design instr ms) (sym (none_at_first instr.micros (word_is_good design cards (fetched image state).word instr runs at).later))

    go : (b : Bool) → IfSome (if b then None else Some (fetched image state)) (HasLocals design 1)
    go true = tt
    go false = first

none_have : (design : Design) (stage n : ℕ) → HaveLocals design stage (replicate n None)
none_have design stage zero = tt
none_have design stage (suc n) = (tt, none_have design (stage + 1) n)

pub over_have : (design : Design) (cards : List Card) (image : Image) (trace : Trace) → IsRunnable design cards → (j : ℕ) → HaveLocals design 1 (over design cards image trace j).flights
unfolding over start cycle after_control cycle_flights
over_have design cards image trace runs zero = none_have design 1 (design.stages - 1)
over_have design cards image trace runs (suc j) =
    let state = over design cards image trace j in
    let inputs = inputs_at design trace j in
    let control = control_of design cards inputs state in
    flights_have design cards inputs state control 1 (entering design image state control) state.flights (enters design cards image state control runs) (over_have design cards image trace runs j)

none_below : (i : ℕ) → nat_lt i 0 ≡ false
none_below i = grind (arith, nat_tests)

-- nothing is live in stage 1
pub none_live_first : (design : Design) (cards : List Card) → IsRunnable design cards → (word i : ℕ) → is_live design word 1 i ≡ false
unfolding is_live
none_live_first design cards runs word i = go (instr_of design word) refl
  where
    go : (o : Option Instr) → instr_of design word ≡ o → option_map_or (is_live_in design 1 i) o false ≡ false
    go None e = refl
    go (Some instr) e =
        let none = ap (λ ms. assigned_by design instr ms) (none_at_first instr.micros (word_is_good design cards word instr runs e).later) in
        ap (λ n. nat_lt i n && list_any (λ (m : Micro). not (nat_lt m.stage 1) && looks_at i m) instr.micros) none
        ∙ ap (λ b. b && list_any (λ (m : Micro). not (nat_lt m.stage 1) && looks_at i m) instr.micros) (none_below i)
