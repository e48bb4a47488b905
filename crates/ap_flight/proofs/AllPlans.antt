-- The registers of all stages.
use Rattle.std.proofs.Common.{◌≡◌, ℕ, zero, suc, ◌+◌, ◌<◌, ◌≤◌, List, [], ◌∷◌, ◌++◌, length, map, take, drop, get_or, refl, sym, ap, ◌∙◌, arith, append-nil, append_assoc, Some, ◌-◌, length-append}
use Rattle.std.specs.List.{AllByRecursion as Each}
use Rattle.std.specs.Prelude.{slice_get, flat_map}
use Rattle.std.specs.Fmt.{decimal}
use Rattle.std.proofs.lemmas.List.{map-append}
use Rattle.std.proofs.lemmas.Fmt.{decimal_digit}
use Rattle.ap_desc.specs.declared.design.Design.{Design}
use Rattle.ap_net.specs.declared.net.ModuleNet.{ModuleNet}
use Rattle.ap_net.specs.Draft.{Draft}
use Rattle.ap_pipe.specs.declared.table.StageSlots.{StageSlots}
use Rattle.ap_flight.specs.declared.plan.Planned.{Planned}
use Rattle.ap_flight.specs.Planned.{IsNewIn, KeepsOther, register_net, register_wires, slots_from, stage_plan, stages_plan, with_registers}
use Rattle.ap_flight.specs.declared.stage.StageRegisters.{StageRegisters}
use Rattle.ap_flight.specs.Stages.{stage_wires}
use Rattle.ap_flight.proofs.Plans.{registers_count}
use Rattle.std.proofs.lemmas.Option.{slice_get-get_or}

-- Lists of registers one after the other.

pub registers_append : (d : Draft) (plan more : List Planned) → with_registers (with_registers d plan) more ≡ with_registers d (plan ++ more)
registers_append d plan more = ap (λ (l : List ModuleNet). record d { nets = l }) (append_assoc d.nets (map register_net plan) (map register_net more) ∙ ap (λ l. d.nets ++ l) (sym (map-append register_net plan more)))

pub wires_append : (n : ℕ) (plan more : List Planned) → register_wires n (plan ++ more) ≡ register_wires n plan ++ register_wires (n + length plan) more
wires_append n [] more = let here : n + 0 ≡ n = omega arith in ap (λ k. register_wires k more) (sym here)
wires_append n (p ∷ plan) more =
    let next : n + 1 + length plan ≡ n + suc (length plan) = omega arith in
    ap (λ l. record { number = n; width = p.width } ∷ l) (wires_append (n + 1) plan more ∙ ap (λ k. register_wires (n + 1) plan ++ register_wires k more) next)

each_front : {X : Type 0} (P : X → Type 0) (xs ys : List X) → Each P (xs ++ ys) → Each P xs
each_front P [] ys h = tt
each_front P (x ∷ xs) ys h = (h.0, each_front P xs ys h.1)

each_back : {X : Type 0} (P : X → Type 0) (xs ys : List X) → Each P (xs ++ ys) → Each P ys
each_back P [] ys h = h
each_back P (x ∷ xs) ys h = each_back P xs ys h.1

each_join : {X : Type 0} (P : X → Type 0) (xs ys : List X) → Each P xs → Each P ys → Each P (xs ++ ys)
each_join P [] ys h g = g
each_join P (x ∷ xs) ys h g = (h.0, each_join P xs ys h.1 g)

pub others_append : (plan more : List Planned) (a b c : Draft) → KeepsOther plan a b → KeepsOther more b c → KeepsOther (plan ++ more) a c
others_append plan more a b c h g name apart new = g name (each_back (λ (p : Planned). p.name ≡ name → ⊥) plan more apart) (h name (each_front (λ (p : Planned). p.name ≡ name → ⊥) plan more apart) new)

pub new_first : (d : Draft) (plan more : List Planned) → Each (IsNewIn d) (plan ++ more) → Each (IsNewIn d) plan
new_first d plan more h = each_front (IsNewIn d) plan more h

-- one more stage
pub plan_push : (design : Design) (stage : ℕ) (stages : List StageSlots) (s : StageSlots) → stages_plan design stage (stages ++ s ∷ []) ≡ stages_plan design stage stages ++ stage_plan design (stage + length stages) s.widths
plan_push design stage [] s = let here : stage + 0 ≡ stage = omega arith in append-nil (stage_plan design stage s.widths) ∙ ap (λ n. stage_plan design n s.widths) (sym here)
plan_push design stage (t ∷ stages) s =
    let next : stage + 1 + length stages ≡ stage + suc (length stages) = omega arith in
    ap (λ l. stage_plan design stage t.widths ++ l) (plan_push design (stage + 1) stages s ∙ ap (λ n. stages_plan design (stage + 1) stages ++ stage_plan design n s.widths) next)
    ∙ sym (append_assoc (stage_plan design stage t.widths) (stages_plan design (stage + 1) stages) (stage_plan design (stage + suc (length stages)) s.widths))

-- Names of different stages differ, by their third byte.

record IsOfStage (stage : ℕ) (p : Planned) : Type 0 where
  letter : ℕ
  rest : List ℕ
  name : p.name ≡ letter ∷ 95 ∷ (48 + stage) ∷ rest

slots_of_stage : (stage slot : ℕ) (widths : List ℕ) → stage < 10 → Each (IsOfStage stage) (slots_from stage slot widths)
slots_of_stage stage slot [] lt = tt
slots_of_stage stage slot (w ∷ widths) lt = (
  record { letter = 108; rest = 95 ∷ decimal slot; name = ap (λ ds. 108 ∷ 95 ∷ ((ds ++ 95 ∷ []) ++ decimal slot)) (decimal_digit stage lt) },
  slots_of_stage stage (slot + 1) widths lt,
)

of_stage : (design : Design) (stage : ℕ) (widths : List ℕ) → stage < 10 → Each (IsOfStage stage) (stage_plan design stage widths)
of_stage design stage widths lt = (
  record { letter = 120; rest = []; name = ap (λ ds. 120 ∷ 95 ∷ ds) (decimal_digit stage lt) },
  (record { letter = 97; rest = []; name = ap (λ ds. 97 ∷ 95 ∷ ds) (decimal_digit stage lt) }, slots_of_stage stage 0 widths lt),
)

abbrev third : List ℕ → ℕ
third (a ∷ b ∷ c ∷ rest) = c
third _ = 0

differ : (one other : ℕ) (p q : Planned) → one < other → IsOfStage one p → IsOfStage other q → p.name ≡ q.name → ⊥
differ one other p q lt a b e =
    let same : 48 + one ≡ 48 + other = ap third (sym a.name ∙ e ∙ b.name) in
    absurd (omega arith)

-- the plan of a stage leaves the names of later stages new
later_new : (design : Design) (stage other : ℕ) (plan : List Planned) (widths : List ℕ) (a b : Draft) → stage < other → other < 10 → Each (IsOfStage stage) plan → KeepsOther plan a b → Each (IsNewIn a) (stage_plan design other widths) → Each (IsNewIn b) (stage_plan design other widths)
later_new design stage other plan widths a b less lt of keeps new = go (stage_plan design other widths) (of_stage design other widths lt) new
  where
    apart : (q : Planned) → IsOfStage other q → (plan : List Planned) → Each (IsOfStage stage) plan → Each (λ (p : Planned). p.name ≡ q.name → ⊥) plan
    apart q h [] of = tt
    apart q h (p ∷ plan) of = (differ stage other p q less of.0 h, apart q h plan of.1)

    go : (more : List Planned) → Each (IsOfStage other) more → Each (IsNewIn a) more → Each (IsNewIn b) more
    go [] h n = tt
    go (q ∷ more) h n = (keeps q.name (apart q h.0 plan of) n.0, go more h.1 n.1)

all_later : (design : Design) (stage other : ℕ) (plan : List Planned) (stages : List StageSlots) (a b : Draft) → stage < other → other + length stages ≤ 10 → Each (IsOfStage stage) plan → KeepsOther plan a b
    → Each (IsNewIn a) (stages_plan design other stages) → Each (IsNewIn b) (stages_plan design other stages)
all_later design stage other plan [] a b less few of keeps new = tt
all_later design stage other plan (s ∷ stages) a b less few of keeps new =
    let mine = stage_plan design other s.widths in
    let rest = stages_plan design (other + 1) stages in
    each_join (IsNewIn b) mine rest (later_new design stage other plan s.widths a b less (omega arith) of keeps (each_front (IsNewIn a) mine rest new))
    (all_later design stage (other + 1) plan stages a b (omega arith) (omega arith) of keeps (each_back (IsNewIn a) mine rest new))

-- what stays new once a stage is declared
pub new_later : (design : Design) (stage : ℕ) (s : StageSlots) (stages : List StageSlots) (a b : Draft) → stage + 1 + length stages ≤ 10 → KeepsOther (stage_plan design stage s.widths) a b → Each (IsNewIn a) (stages_plan design stage (s ∷ stages))
    → Each (IsNewIn b) (stages_plan design (stage + 1) stages)
new_later design stage s stages a b few keeps new =
    all_later design stage (stage + 1) (stage_plan design stage s.widths) stages a b (omega arith) few (of_stage design stage s.widths (omega arith)) keeps (each_back (IsNewIn a) (stage_plan design stage s.widths) (stages_plan design (stage + 1) stages) new)

-- The loop over the stages.

pub item_at : {X : Type 0} (ys xs : List X) (i : ℕ) (x : X) → ys ≡ xs → i < length ys → x ≡ get_or ys i x → slice_get xs i ≡ Some x
item_at ys xs i x same low is = ap (λ zs. slice_get zs i) (sym same) ∙ slice_get-get_or ys i x low ∙ ap Some (sym is)

pub cut_at : {X : Type 0} (xs : List X) (i : ℕ) (x : X) → slice_get xs i ≡ Some x → drop i xs ≡ x ∷ drop (i + 1) xs
cut_at [] i x at = cc
cut_at (y ∷ xs) zero x at = let same : y ≡ x = cc in ap (λ z. z ∷ xs) same
cut_at (y ∷ xs) (suc i) x at = let next : suc (i + 1) ≡ suc i + 1 = omega arith in cut_at xs i x at ∙ ap (λ n. x ∷ drop n (y ∷ xs)) next

grown_at : {X : Type 0} (xs : List X) (i : ℕ) (x : X) → slice_get xs i ≡ Some x → take (i + 1) xs ≡ take i xs ++ x ∷ []
grown_at [] i x at = cc
grown_at (y ∷ xs) zero x at = let same : y ≡ x = cc in ap (λ z. z ∷ []) same
grown_at (y ∷ xs) (suc i) x at = let next : suc i + 1 ≡ suc (i + 1) = omega arith in ap (λ n. take n (y ∷ xs)) next ∙ ap (λ l. y ∷ l) (grown_at xs i x at)

front_long : {X : Type 0} (xs : List X) (i : ℕ) (x : X) → slice_get xs i ≡ Some x → length (take i xs) ≡ i
front_long [] i x at = cc
front_long (y ∷ xs) zero x at = refl
front_long (y ∷ xs) (suc i) x at = ap suc (front_long xs i x at)

pub left_long : {X : Type 0} (xs : List X) (i : ℕ) → length (drop i xs) ≡ length xs - i
left_long xs zero = let same : length xs ≡ length xs - 0 = omega arith in same
left_long [] (suc i) = let none : 0 ≡ 0 - suc i = omega arith in none
left_long (x ∷ xs) (suc i) = let same : length xs - i ≡ suc (length xs) - suc i = omega arith in left_long xs i ∙ same

pub pushed_long : {X : Type 0} (xs : List X) (x : X) (i : ℕ) → length xs ≡ i → length (xs ++ x ∷ []) ≡ i + 1
pushed_long xs x i e = let l = length-append xs (x ∷ []) in omega arith

pub stages_push : (design : Design) (i : ℕ) (s : StageSlots) (stages : List StageSlots) → slice_get stages i ≡ Some s → stages_plan design 1 (take (i + 1) stages) ≡ stages_plan design 1 (take i stages) ++ stage_plan design (i + 1) s.widths
stages_push design i s stages at =
    let long : 1 + length (take i stages) ≡ i + 1 = let l = front_long stages i s at in omega arith in
    ap (stages_plan design 1) (grown_at stages i s at) ∙ plan_push design 1 (take i stages) s ∙ ap (λ n. stages_plan design 1 (take i stages) ++ stage_plan design n s.widths) long

pub step_out : (design : Design) (i : ℕ) (s : StageSlots) (stages : List StageSlots) (a b d : Draft) → slice_get stages i ≡ Some s → b ≡ with_registers a (stages_plan design 1 (take i stages)) → d ≡ with_registers b (stage_plan design (i + 1) s.widths)
    → d ≡ with_registers a (stages_plan design 1 (take (i + 1) stages))
step_out design i s stages a b d at out ok =
    ok ∙ ap (λ x. with_registers x (stage_plan design (i + 1) s.widths)) out ∙ registers_append a (stages_plan design 1 (take i stages)) (stage_plan design (i + 1) s.widths) ∙ ap (with_registers a) (sym (stages_push design i s stages at))

wires_push : (made : List StageRegisters) (registers : StageRegisters) → flat_map stage_wires (made ++ registers ∷ []) ≡ flat_map stage_wires made ++ stage_wires registers
wires_push [] registers = append-nil (stage_wires registers)
wires_push (m ∷ made) registers = ap (λ l. stage_wires m ++ l) (wires_push made registers) ∙ sym (append_assoc (stage_wires m) (flat_map stage_wires made) (stage_wires registers))

pub step_wires : (design : Design) (i : ℕ) (s : StageSlots) (stages : List StageSlots) (a b : Draft) (made : List StageRegisters) (registers : StageRegisters) → slice_get stages i ≡ Some s → b ≡ with_registers a (stages_plan design 1 (take i stages))
    → flat_map stage_wires made ≡ register_wires (length a.nets) (stages_plan design 1 (take i stages)) → stage_wires registers ≡ register_wires (length b.nets) (stage_plan design (i + 1) s.widths)
    → flat_map stage_wires (made ++ registers ∷ []) ≡ register_wires (length a.nets) (stages_plan design 1 (take (i + 1) stages))
step_wires design i s stages a b made registers at out before now =
    let plan = stages_plan design 1 (take i stages) in
    let mine = stage_plan design (i + 1) s.widths in
    let count : length b.nets ≡ length a.nets + length plan = ap (λ (x : Draft). length x.nets) out ∙ registers_count a plan in
    wires_push made registers ∙ ap (λ l. l ++ stage_wires registers) before ∙ ap (λ l. register_wires (length a.nets) plan ++ l) (now ∙ ap (λ n. register_wires n mine) count)
    ∙ sym (wires_append (length a.nets) plan mine) ∙ ap (register_wires (length a.nets)) (sym (stages_push design i s stages at))
