-- The registers that are declared, by their names.
use Rattle.std.proofs.Common.{◌≡◌, ◌≢◌, ℕ, zero, suc, ◌+◌, ◌-◌, ◌<◌, ◌≤◌, ◌^◌, ◌==◌, false, List, [], ◌∷◌, ◌++◌, length, map, take, Some, refl, sym, ap, subst, ◌∙◌, arith, append-nil, append_assoc, length-append}
use Rattle.std.specs.Prelude.{slice_get, flat_map}
use Rattle.std.specs.List.{AllByRecursion as Each}
use Rattle.std.proofs.lemmas.Bool.{eqb-false}
use Rattle.ap_desc.specs.Clean.{IsClean}
use Rattle.ap_desc.specs.declared.design.Design.{Design}
use Rattle.ap_net.specs.declared.cell.Wire.{Wire}
use Rattle.ap_net.specs.declared.net.ModuleNet.{ModuleNet}
use Rattle.ap_net.specs.declared.net.Next.{Next}
use Rattle.ap_net.specs.declared.net.Role.TheVariants as role
use Rattle.ap_net.specs.Cells.{widths_of}
use Rattle.ap_net.specs.Draft.{Draft, Extends, IsKept}
use Rattle.ap_net.specs.Ready.{numbers}
use Rattle.ap_net.specs.Wiring.{NextFits, NoneTwice, Unclocked, reset_of}
use Rattle.ap_net.proofs.Laws.{IsNew-made, IsNotNumbered-other}
use Rattle.ap_net.proofs.Lists.{All-join, get_end, get_left, some_same}
use Rattle.ap_net.proofs.Wired.{number-IsNet}
use Rattle.ap_pipe.specs.Slots.{AreStageSlots}
use Rattle.ap_pipe.specs.declared.table.StageSlots.{StageSlots}
use Rattle.ap_signals.specs.NetRuns.{pc_name, place_name, slot_name, word_name}
use Rattle.ap_ctl.specs.Lists.{EachFrom, EachPair}
use Rattle.ap_flight.specs.declared.plan.Planned.{Planned}
use Rattle.ap_flight.specs.declared.stage.StageRegisters.{StageRegisters}
use Rattle.ap_flight.specs.Planned.{IsNewIn, IsPlan, register_net, register_wires, slots_from, stage_plan, stages_plan, with_registers}
use Rattle.ap_flight.specs.Stages.{IsOpen, stage_wires}
use Rattle.ap_flight.proofs.PlanNames.{are_plans}
use Rattle.ap_flight.proofs.SlotWidths.{AreFit, slots_fit}
use Rattle.ap_flight.proofs.Within.{address_fits, few_stages, word_fits}
use Rattle.ap_border.specs.Named.{IsZeroNamed}
use Rattle.ap_front.specs.Opened.{AreOpen, NamesFront, NamesGoOn, NamesStage, NamesStages, front_plan, front_wires, wire_width}
use Rattle.ap_front.specs.declared.registers.Registers.{Registers}
use Rattle.ap_front.proofs.Named.{IsResetNamed-Extends}
use Rattle.ap_ctl.proofs.Within.{stages_within}

-- Registers as they were planned.

-- the register stands at the wire, which is none of the first ones
pub record IsPlanned (nets : List ModuleNet) (first : ℕ) (p : Planned) (w : Wire) : Type 0 where
  pub there : slice_get nets w.number ≡ Some (register_net p)
  pub wide : w.width ≡ p.width
  pub from : first ≤ w.number

planned_from : (all nets : List ModuleNet) (first n : ℕ) (plan : List Planned) → all ≡ nets ++ map register_net plan → n ≡ length nets → first ≤ n → EachPair (IsPlanned all first) plan (register_wires n plan)
planned_from all nets first n [] is long le = tt
planned_from all nets first n (p ∷ plan) is long le =
    let more : List ModuleNet = map register_net plan in
    let cut : all ≡ (nets ++ register_net p ∷ []) ++ more = is ∙ sym (append_assoc nets (register_net p ∷ []) more) in
    let l = length-append nets (register_net p ∷ []) in
    let here : slice_get ((nets ++ register_net p ∷ []) ++ more) (length nets) ≡ Some (register_net p) = get_left (nets ++ register_net p ∷ []) more (length nets) (register_net p) (get_end nets (register_net p)) in (
      record { there = ap (slice_get all) long ∙ ap (λ (x : List ModuleNet). slice_get x (length nets)) cut ∙ here; wide = refl; from = le },
      planned_from all (nets ++ register_net p ∷ []) first (n + 1) plan cut (omega arith) (omega arith),
    )

pub planned_all : (d : Draft) (plan : List Planned) → EachPair (IsPlanned (with_registers d plan).nets (length d.nets)) plan (register_wires (length d.nets) plan)
planned_all d plan = planned_from (with_registers d plan).nets d.nets (length d.nets) (length d.nets) plan refl refl (omega arith)

zero_named : (d : Draft) (first : ℕ) (p : Planned) (w : Wire) (name : List ℕ) → p.name ≡ name → IsPlanned d.nets first p w → IsZeroNamed d name w
zero_named d first p w name e h = record { net = register_net p; there = h.there; named = e; reset = refl }

slots_named : (d : Draft) (first stage slot : ℕ) (widths : List ℕ) (ws : List Wire) → EachPair (IsPlanned d.nets first) (slots_from stage slot widths) ws → EachFrom (λ k w. IsZeroNamed d (slot_name stage k) w) slot ws
slots_named d first stage slot [] [] h = tt
slots_named d first stage slot [] (w ∷ ws) h = absurd h
slots_named d first stage slot (x ∷ widths) [] h = absurd h
slots_named d first stage slot (x ∷ widths) (w ∷ ws) h = (zero_named d first (record { name = slot_name stage slot; width = x }) w (slot_name stage slot) refl h.0, slots_named d first stage (slot + 1) widths ws h.1)

slots_width : (d : Draft) (first stage slot : ℕ) (widths : List ℕ) (ws : List Wire) → EachPair (IsPlanned d.nets first) (slots_from stage slot widths) ws → map wire_width ws ≡ widths
slots_width d first stage slot [] [] h = refl
slots_width d first stage slot [] (w ∷ ws) h = absurd h
slots_width d first stage slot (x ∷ widths) [] h = absurd h
slots_width d first stage slot (x ∷ widths) (w ∷ ws) h = ap (λ k. k ∷ map wire_width ws) h.0.wide ∙ ap (λ l. x ∷ l) (slots_width d first stage (slot + 1) widths ws h.1)

pub names_stage : (design : Design) (d : Draft) (first stage : ℕ) (widths : List ℕ) (r : StageRegisters) → EachPair (IsPlanned d.nets first) (stage_plan design stage widths) (stage_wires r) → NamesStage design d stage widths r
names_stage design d first stage widths r h = record {
  word = zero_named d first (record { name = word_name stage; width = design.word }) r.word (word_name stage) refl h.0;
  word_wide = h.0.wide;
  place = zero_named d first (record { name = place_name stage; width = design.address }) r.place (place_name stage) refl h.1.0;
  place_wide = h.1.0.wide;
  slots = slots_named d first stage 0 widths r.slots h.1.1;
  slots_wide = slots_width d first stage 0 widths r.slots h.1.1;
}

-- They go on.

slots_on : (a b : Draft) (stage slot : ℕ) (ws : List Wire) → Extends a b → EachFrom (λ k w. IsZeroNamed a (slot_name stage k) w) slot ws → EachFrom (λ k w. IsZeroNamed b (slot_name stage k) w) slot ws
slots_on a b stage slot [] e h = tt
slots_on a b stage slot (w ∷ ws) e h = (IsResetNamed-Extends e h.0, slots_on a b stage (slot + 1) ws e h.1)

pub NamesStage-Extends : (design : Design) (a b : Draft) (stage : ℕ) (widths : List ℕ) (r : StageRegisters) → Extends a b → NamesStage design a stage widths r → NamesStage design b stage widths r
NamesStage-Extends design a b stage widths r e h = record {
  word = IsResetNamed-Extends e h.word;
  word_wide = h.word_wide;
  place = IsResetNamed-Extends e h.place;
  place_wide = h.place_wide;
  slots = slots_on a b stage 0 r.slots e h.slots;
  slots_wide = h.slots_wide;
}

pub NamesStages-Extends : (design : Design) (a b : Draft) (stage : ℕ) (stages : List StageSlots) (registers : List StageRegisters) → Extends a b → NamesStages design a stage stages registers → NamesStages design b stage stages registers
NamesStages-Extends design a b stage [] [] e h = tt
NamesStages-Extends design a b stage [] (r ∷ registers) e h = absurd h
NamesStages-Extends design a b stage (s ∷ stages) [] e h = absurd h
NamesStages-Extends design a b stage (s ∷ stages) (r ∷ registers) e h = (NamesStage-Extends design a b stage s.widths r e h.0, NamesStages-Extends design a b (stage + 1) stages registers e h.1)

pub names_go_on : NamesGoOn
names_go_on design a b stages r e h = record { pc = IsResetNamed-Extends e h.pc; pc_wide = h.pc_wide; each = NamesStages-Extends design a b 1 stages r.stages e h.each }

-- one more stage
pub names_push : (design : Design) (d : Draft) (stage : ℕ) (stages : List StageSlots) (registers : List StageRegisters) (s : StageSlots) (r : StageRegisters)
    → NamesStages design d stage stages registers → NamesStage design d (stage + length stages) s.widths r → NamesStages design d stage (stages ++ s ∷ []) (registers ++ r ∷ [])
names_push design d stage [] [] s r h n = let here : stage + 0 ≡ stage = omega arith in (subst (λ k. NamesStage design d k s.widths r) here n, tt)
names_push design d stage [] (q ∷ registers) s r h n = absurd h
names_push design d stage (t ∷ stages) [] s r h n = absurd h
names_push design d stage (t ∷ stages) (q ∷ registers) s r h n =
    let next : stage + suc (length stages) ≡ stage + 1 + length stages = omega arith in
    (h.0, names_push design d (stage + 1) stages registers s r h.1 (subst (λ k. NamesStage design d k s.widths r) next n))

-- Open registers.

wide_at : (nets : List ModuleNet) (i : ℕ) (net : ModuleNet) → slice_get nets i ≡ Some net → slice_get (widths_of nets) i ≡ Some net.width
wide_at [] i net at = cc
wide_at (x ∷ nets) zero net at = let same : x ≡ net = cc in ap (λ (n : ModuleNet). Some n.width) same
wide_at (x ∷ nets) (suc i) net at = wide_at nets i net at

-- no register that takes something is a later one
untaken : (d : Draft) → IsKept d → (n : ℕ) → length d.nets ≤ n → Unclocked d.nexts n
untaken d kept n le = each d.nexts kept.wired.registers
  where
    each : (nexts : List Next) → Each (NextFits d.nets) nexts → Each (λ (x : Next). x.register.number ≢ n) nexts
    each [] h = tt
    each (x ∷ nexts) h = ((λ e. let lt = number-IsNet d.nets x.register h.0.register in absurd (omega arith)), each nexts h.1)

opened : (d e : Draft) (p : Planned) (w : Wire) → IsKept d → e.nexts ≡ d.nexts → IsPlan p → IsPlanned e.nets (length d.nets) p w → IsOpen e w
opened d e p w kept nexts plan h = record {
  net = record { declared = wide_at e.nets w.number (register_net p) h.there ∙ ap Some (sym h.wide); low = subst (λ n. 1 ≤ n) (sym h.wide) plan.low; high = subst (λ n. n ≤ 64) (sym h.wide) plan.high };
  register = λ net at. let same : register_net p ≡ net = some_same (sym h.there ∙ at) in subst (λ (x : ModuleNet). x.role ≡ role.Register (reset_of x.role)) same refl;
  free = subst (λ l. Unclocked l w.number) (sym nexts) (untaken d kept w.number h.from);
}

all_opened : (d e : Draft) (plan : List Planned) (ws : List Wire) → IsKept d → e.nexts ≡ d.nexts → Each IsPlan plan → EachPair (IsPlanned e.nets (length d.nets)) plan ws → Each (IsOpen e) ws
all_opened d e [] [] kept nexts plans h = tt
all_opened d e [] (w ∷ ws) kept nexts plans h = absurd h
all_opened d e (p ∷ plan) [] kept nexts plans h = absurd h
all_opened d e (p ∷ plan) (w ∷ ws) kept nexts plans h = (opened d e p w kept nexts plans.0 h.0, all_opened d e plan ws kept nexts plans.1 h.1)

wires_apart : (n : ℕ) (plan : List Planned) → NoneTwice (numbers (register_wires n plan))
wires_apart n [] = tt
wires_apart n (p ∷ plan) = (above n (n + 1) plan (omega arith), wires_apart (n + 1) plan)
  where
    above : (n low : ℕ) (plan : List Planned) → n < low → Each (λ other. other ≢ n) (numbers (register_wires low plan))
    above n low [] lt = tt
    above n low (p ∷ plan) lt = ((λ e. absurd (omega arith)), above n (low + 1) plan (omega arith))

pub are_open : (d : Draft) (plan : List Planned) → IsKept d → Each IsPlan plan → AreOpen (with_registers d plan) (register_wires (length d.nets) plan)
are_open d plan kept plans = record { each = all_opened d (with_registers d plan) plan (register_wires (length d.nets) plan) kept refl plans (planned_all d plan); apart = wires_apart (length d.nets) plan }

-- What is planned of a clean design.

stages_plans : (design : Design) (stage : ℕ) (stages : List StageSlots) → IsClean design → stage + length stages ≤ design.stages → ((place : ℕ) (s : StageSlots) → slice_get stages place ≡ Some s → AreStageSlots design (place + stage) s) → Each IsPlan (stages_plan design stage stages)
stages_plans design stage [] clean few slots = tt
stages_plans design stage (s ∷ stages) clean few slots =
    let here : 0 + stage ≡ stage = omega arith in
    let fit : AreFit s.widths = subst AreFit (sym (subst (λ k. AreStageSlots design k s) here (slots 0 s refl)).widths) (slots_fit design clean.sound stage) in
    All-join IsPlan (stage_plan design stage s.widths) (stages_plan design (stage + 1) stages) (are_plans design stage s.widths (few_stages design stage clean (omega arith)) (word_fits design clean) (address_fits design clean) fit.few fit.each)
    (stages_plans design (stage + 1) stages clean (omega arith) (λ place t at. let next : suc place + stage ≡ place + (stage + 1) = omega arith in subst (λ k. AreStageSlots design k t) next (slots (suc place) t at)))

abbrev pub pc_plan : Design → Planned
pc_plan design = record { name = pc_name; width = design.address }

pub is_pc_plan : (design : Design) → IsClean design → IsPlan (pc_plan design)
is_pc_plan design clean = record { named = refl; other = IsNotNumbered-other pc_name refl; low = (address_fits design clean).low; high = (address_fits design clean).high }

pub front_plans : (design : Design) (stages : List StageSlots) → IsClean design → length stages ≡ design.stages - 1 → 1 ≤ design.stages → ((place : ℕ) (s : StageSlots) → slice_get stages place ≡ Some s → AreStageSlots design (place + 1) s) → Each IsPlan (front_plan design stages)
front_plans design stages clean count some slots = (is_pc_plan design clean, stages_plans design 1 stages clean (omega arith) slots)

-- Their names differ from the pc's.

head_differs : (a b : ℕ) (xs ys : List ℕ) → (a == b) ≡ false → a ∷ xs ≡ b ∷ ys → ⊥
head_differs a b xs ys d e = let same : a ≡ b = cc in eqb-false a b d same

slots_no_pc : (stage slot : ℕ) (widths : List ℕ) → Each (λ (p : Planned). pc_name ≢ p.name) (slots_from stage slot widths)
slots_no_pc stage slot [] = tt
slots_no_pc stage slot (w ∷ widths) = (head_differs 112 108 _ _ refl, slots_no_pc stage (slot + 1) widths)

stages_no_pc : (design : Design) (stage : ℕ) (stages : List StageSlots) → Each (λ (p : Planned). pc_name ≢ p.name) (stages_plan design stage stages)
stages_no_pc design stage [] = tt
stages_no_pc design stage (s ∷ stages) =
    All-join (λ (p : Planned). pc_name ≢ p.name) (stage_plan design stage s.widths) (stages_plan design (stage + 1) stages)
    (head_differs 112 120 _ _ refl, (head_differs 112 97 _ _ refl, slots_no_pc stage 0 s.widths)) (stages_no_pc design (stage + 1) stages)

still_new : (d : Draft) (p : Planned) (rest : List Planned) → Each (λ (q : Planned). p.name ≢ q.name) rest → Each (IsNewIn d) rest → Each (IsNewIn (with_registers d (p ∷ []))) rest
still_new d p [] apart new = tt
still_new d p (q ∷ rest) apart new = (IsNew-made d.instances d.nets (register_net p) q.name apart.0 new.0, still_new d p rest apart.1 new.1)

pub stages_new : (design : Design) (d : Draft) (stages : List StageSlots) → Each (IsNewIn d) (stages_plan design 1 stages) → Each (IsNewIn (with_registers d (pc_plan design ∷ []))) (stages_plan design 1 stages)
stages_new design d stages h = still_new d (pc_plan design) (stages_plan design 1 stages) (stages_no_pc design 1 stages) h

-- One more stage is declared.

taken_on : {X : Type 0} (xs : List X) (i : ℕ) (x : X) → slice_get xs i ≡ Some x → take (i + 1) xs ≡ take i xs ++ x ∷ []
taken_on [] i x at = cc
taken_on (y ∷ xs) zero x at = let same : y ≡ x = cc in ap (λ z. z ∷ []) same
taken_on (y ∷ xs) (suc i) x at = let next : suc (i + 1) ≡ suc i + 1 = omega arith in ap (λ n. take n (y ∷ xs)) (sym next) ∙ ap (λ l. y ∷ l) (taken_on xs i x at)

taken_long : {X : Type 0} (xs : List X) (i : ℕ) (x : X) → slice_get xs i ≡ Some x → length (take i xs) ≡ i
taken_long [] i x at = cc
taken_long (y ∷ xs) zero x at = refl
taken_long (y ∷ xs) (suc i) x at = ap suc (taken_long xs i x at)

pub registers_extend : (d : Draft) (plan : List Planned) → Extends d (with_registers d plan)
registers_extend d plan = record { name = refl; nets = (map register_net plan, refl); assigns = ([], sym (append-nil d.assigns)); nexts = ([], sym (append-nil d.nexts)); instances = ([], sym (append-nil d.instances)) }

pub names_step : (design : Design) (i : ℕ) (s : StageSlots) (stages : List StageSlots) (b d : Draft) (made : List StageRegisters) (r : StageRegisters) → slice_get stages i ≡ Some s → d ≡ with_registers b (stage_plan design (i + 1) s.widths)
    → stage_wires r ≡ register_wires (length b.nets) (stage_plan design (i + 1) s.widths) → NamesStages design b 1 (take i stages) made → NamesStages design d 1 (take (i + 1) stages) (made ++ r ∷ [])
names_step design i s stages b d made r at ok wires h =
    let plan : List Planned = stage_plan design (i + 1) s.widths in
    let e : Extends b d = subst (Extends b) (sym ok) (registers_extend b plan) in
    let all : EachPair (IsPlanned d.nets (length b.nets)) plan (stage_wires r) =
    subst (λ (x : Draft). EachPair (IsPlanned x.nets (length b.nets)) plan (stage_wires r)) (sym ok) (subst (λ ws. EachPair (IsPlanned (with_registers b plan).nets (length b.nets)) plan ws) (sym wires) (planned_all b plan)) in
    let l = taken_long stages i s at in
    let here : i + 1 ≡ 1 + length (take i stages) = omega arith in
    subst (λ x. NamesStages design d 1 x (made ++ r ∷ [])) (sym (taken_on stages i s at))
    (names_push design d 1 (take i stages) made s r (NamesStages-Extends design b d 1 (take i stages) made e h) (subst (λ k. NamesStage design d k s.widths r) here (names_stage design d (length b.nets) (i + 1) s.widths r all)))

-- The pc and the stages.

pub positive_power : (n : ℕ) → 0 < 2 ^ n
positive_power zero = omega arith
positive_power (suc n) = let h = positive_power n in omega arith

pub stages_some : (design : Design) → IsClean design → 1 ≤ design.stages
stages_some design clean = let two = (stages_within design clean).0 in omega arith

pub front_wired : (design : Design) (stages : List StageSlots) (a b : Draft) (r : Registers) → b ≡ with_registers a (pc_plan design ∷ []) → r.pc ≡ record { number = length a.nets; width = design.address }
    → flat_map stage_wires r.stages ≡ register_wires (length b.nets) (stages_plan design 1 stages) → front_wires r ≡ register_wires (length a.nets) (front_plan design stages)
front_wired design stages a b r ok wire wires =
    let count : length b.nets ≡ length a.nets + 1 = ap (λ (d : Draft). length d.nets) ok ∙ length-append a.nets (register_net (pc_plan design) ∷ []) in
    ap (λ (w : Wire). w ∷ flat_map stage_wires r.stages) wire ∙ ap (λ l. record { number = length a.nets; width = design.address } ∷ l) (wires ∙ ap (λ n. register_wires n (stages_plan design 1 stages)) count)

pub front_named : (design : Design) (stages : List StageSlots) (a b d : Draft) (r : Registers) → b ≡ with_registers a (pc_plan design ∷ []) → r.pc ≡ record { number = length a.nets; width = design.address }
    → d ≡ with_registers b (stages_plan design 1 stages) → NamesStages design d 1 stages r.stages → NamesFront design d stages r
front_named design stages a b d r ok wire last names =
    let p : Planned = pc_plan design in
    let grows : Extends b d = subst (Extends b) (sym last) (registers_extend b (stages_plan design 1 stages)) in
    let here : slice_get b.nets (length a.nets) ≡ Some (register_net p) = ap (λ (x : Draft). slice_get x.nets (length a.nets)) ok ∙ get_end a.nets (register_net p) in
    record {
      pc = IsResetNamed-Extends grows (record { net = register_net p; there = ap (λ (w : Wire). slice_get b.nets w.number) wire ∙ here; named = refl; reset = refl });
      pc_wide = ap (λ (w : Wire). w.width) wire;
      each = names;
    }
