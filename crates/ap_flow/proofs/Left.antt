-- What is left to the slots of the stages.
use Rattle.std.proofs.Common.{◌≡◌, ℕ, zero, suc, ◌+◌, ◌-◌, ◌≤◌, ◌&&◌, List, [], ◌∷◌, ◌++◌, length, Option, Some, None, true, false, refl, sym, ap, subst, ◌∙◌, arith, ⊎_elim, nat_lt}
use Rattle.std.specs.Prelude.{IsSomeAnd, not, slice_get}
use Rattle.std.specs.List.{AllByRecursion as Each, list_any}
use Rattle.std.specs.Option.{option_map_or}
use Rattle.std.proofs.lemmas.Bool.Decides.{nat_tests}
use Rattle.std.proofs.lemmas.Option.{slice_get_within}
use Rattle.ap_desc.specs.PortsApart.{PortsApart}
use Rattle.ap_desc.specs.declared.design.Design.{Design}
use Rattle.ap_desc.specs.declared.design.Instr.{Instr}
use Rattle.ap_desc.specs.declared.design.Micro.{Micro}
use Rattle.ap_model.specs.Fitting.{assigned_by}
use Rattle.ap_model.specs.FlightLocals.{is_live_in, looks_at}
use Rattle.ap_model.specs.Runnable.{NoneInZero}
use Rattle.ap_model.proofs.StageLemmas.{none_at_first}
use Rattle.ap_net.specs.Draft.{Draft}
use Rattle.ap_net.proofs.Lists.{All-from, some_same}
use Rattle.ap_ctl.specs.Lists.{EachPair}
use Rattle.ap_ctl.proofs.Firing.{contains_first}
use Rattle.ap_pipe.specs.declared.table.Home.{Home}
use Rattle.ap_pipe.specs.declared.table.SlotTable.{SlotTable}
use Rattle.ap_pipe.specs.declared.table.StageSlots.{StageSlots}
use Rattle.ap_pipe.specs.Slots.{AreHomes, AreSlotsOf}
use Rattle.ap_flight.specs.declared.entry.Leaving.{Leaving}
use Rattle.ap_stages.specs.declared.stage.ServedStage.{ServedStage}
use Rattle.ap_outcome.specs.Outcomes.{CanLeave, IsLeavingOf}
use Rattle.ap_flow.specs.Left.{CanLeaveOn, CanLeaveTo, EachLeft, courses_of}
use Rattle.ap_flow.proofs.Lists.{each_of_one, one_more, there}

-- One stage after the other.

pub none_left : (slots : List StageSlots) (stages : List ServedStage) → EachLeft slots stages []
none_left slots stages place s list p1 p2 = cc

pub more_left : (slots : List StageSlots) (stages : List ServedStage) (locals : List (List Leaving)) (s : StageSlots) (list : List Leaving) → EachLeft slots stages locals → slice_get slots (length locals) ≡ Some s
    → EachPair (IsLeavingOf (courses_of stages (length locals))) s.homes list → EachLeft slots stages (locals ++ list ∷ [])
more_left slots stages locals s list h at one place t l p1 p2 =
    let n : ℕ = length locals in
    ⊎_elim (λ old. h place t l p1 old) (λ q.
    let same : s ≡ t = some_same (sym at ∙ ap (slice_get slots) (sym q.0) ∙ p1) in
    let here : EachPair (IsLeavingOf (courses_of stages n)) t.homes list = subst (λ (x : StageSlots). EachPair (IsLeavingOf (courses_of stages n)) x.homes list) same one in
    let all : EachPair (IsLeavingOf (courses_of stages n)) t.homes l = subst (EachPair (IsLeavingOf (courses_of stages n)) t.homes) (sym q.1) here in
    subst (λ k. EachPair (IsLeavingOf (courses_of stages k)) t.homes l) (sym q.0) all) (one_more locals list place l p2)

-- where no stage is before there are no homes, and nothing is left
pub none_before : (stages : List ServedStage) (homes : List Home) → Each (CanLeave (courses_of stages 0)) homes → EachPair (IsLeavingOf (courses_of stages 0)) homes []
none_before stages [] h = tt
none_before stages (x ∷ homes) h = let at = h.0.at in absurd cc

-- the courses of a stage that is there
pub courses_at : (stages : List ServedStage) (place : ℕ) (s : ServedStage) → slice_get stages place ≡ Some s → courses_of stages (suc place) ≡ s.courses.items
courses_at stages place s at = ap (λ (o : Option ServedStage). option_map_or (λ (x : ServedStage). x.courses.items) o []) at

-- Nothing is live in stage 1, so it has no homes.

none_below : (i : ℕ) → nat_lt i 0 ≡ false
none_below i = grind (arith, nat_tests)

none_live : (design : Design) → PortsApart design → (k i : ℕ) (instr : Instr) → slice_get design.instrs k ≡ Some instr → is_live_in design 1 i instr ≡ false
none_live design apart k i instr at =
    let lines = each_of_one (λ (m : Micro). (1 ≤ m.stage) × (m.stage ≤ design.stages - 1)) (λ (x : Instr). x.micros) design.instrs apart.in_stages k instr at in
    let later : NoneInZero instr.micros = All-from (λ (m : Micro). (1 ≤ m.stage) × (m.stage ≤ design.stages - 1)) (λ (m : Micro). 1 ≤ m.stage) (λ m h. h.0) instr.micros lines in
    let none = ap (λ ms. assigned_by design instr ms) (none_at_first instr.micros later) in
    ap (λ n. nat_lt i n && list_any (λ (m : Micro). not (nat_lt m.stage 1) && looks_at i m) instr.micros) none
    ∙ ap (λ b. b && list_any (λ (m : Micro). not (nat_lt m.stage 1) && looks_at i m) instr.micros) (none_below i)

no_homes : (design : Design) (widths : List ℕ) (homes : List Home) → PortsApart design → AreHomes design 1 widths homes → homes ≡ []
no_homes design widths [] apart h = refl
no_homes design widths (x ∷ homes) apart h = absurd (go (slice_get design.instrs x.instr) refl (h.live x (contains_first x homes)))
  where
    go : (o : Option Instr) → slice_get design.instrs x.instr ≡ o → IsSomeAnd o (λ (instr : Instr). is_live_in design 1 x.local instr ≡ true) → ⊥
    go None e k = k
    go (Some instr) e k = let both : false ≡ true = sym (none_live design apart x.instr x.local instr e) ∙ k in cc

-- each home of a stage is that of a local that the stage before can leave
pub can_leave : (design : Design) (d : Draft) (table : SlotTable) (stages : List ServedStage) → PortsApart design → AreSlotsOf design table → CanLeaveOn design d table.stages stages → CanLeaveTo table.stages stages
can_leave design d table stages apart slots h zero s at = subst (Each (CanLeave (courses_of stages 0))) (sym (no_homes design s.widths s.homes apart (slots.each 0 s at).homes)) tt
can_leave design d table stages apart slots h (suc place) s at =
    let inside = slice_get_within table.stages (suc place) s at in
    let count = slots.count in
    let long = h.count in
    let q = there stages place (omega (arith, inside, count, long)) in
    let next : suc place ≡ place + 1 = omega arith in
    let can = h.homes place q.0 s q.1 (ap (slice_get table.stages) (sym next) ∙ at) in
    subst (λ l. Each (CanLeave l) s.homes) (sym (courses_at stages place q.0 q.1)) can
