-- The declaration of registers one by one.
use Rattle.std.proofs.Common.{◌≡◌, ◌≢◌, ℕ, zero, suc, ◌+◌, ◌<◌, List, [], ◌∷◌, ◌++◌, length, map, get_or, refl, sym, ap, ◌∙◌, arith, append-nil, append_assoc, length-append}
use Rattle.std.specs.List.{AllByRecursion as Each}
use Rattle.std.proofs.lemmas.List.{map-append}
use Rattle.std.proofs.lemmas.List.Elements.{filter_map-append}
use Rattle.std.proofs.lemmas.Option.{slice_get-get_or}
use Rattle.ap_net.specs.declared.net.ModuleNet.{ModuleNet}
use Rattle.ap_net.specs.Draft.{Draft}
use Rattle.ap_net.specs.Modules.{port_by, ports_among}
use Rattle.ap_net.proofs.Laws.{IsNew-made}
use Rattle.ap_net.proofs.Lists.{some_same}
use Rattle.ap_flight.specs.declared.plan.Planned.{Planned}
use Rattle.ap_flight.specs.Planned.{AreNew, IsNewIn, KeepsOther, planned_name, register_net, register_wires, with_registers}

pub registers_none : (d : Draft) → d ≡ with_registers d []
registers_none d = ap (λ (l : List ModuleNet). record d { nets = l }) (sym (append-nil d.nets))

pub registers_more : (d : Draft) (plan : List Planned) (p : Planned) → with_registers (with_registers d plan) (p ∷ []) ≡ with_registers d (plan ++ p ∷ [])
registers_more d plan p =
    ap (λ (l : List ModuleNet). record d { nets = l }) (append_assoc d.nets (map register_net plan) (register_net p ∷ []) ∙ ap (λ l. d.nets ++ l) (sym (map-append register_net plan (p ∷ []))))

length_map : {X Y : Type 0} (f : X → Y) (xs : List X) → length (map f xs) ≡ length xs
length_map f [] = refl
length_map f (x ∷ xs) = ap suc (length_map f xs)

pub registers_count : (d : Draft) (plan : List Planned) → length (with_registers d plan).nets ≡ length d.nets + length plan
registers_count d plan = length-append d.nets (map register_net plan) ∙ ap (λ n. length d.nets + n) (length_map register_net plan)

pub wires_more : (n : ℕ) (plan : List Planned) (p : Planned) → register_wires n (plan ++ p ∷ []) ≡ register_wires n plan ++ record { number = n + length plan; width = p.width } ∷ []
wires_more n [] p = let here : n + 0 ≡ n = omega arith in ap (λ m. record { number = m; width = p.width } ∷ []) (sym here)
wires_more n (q ∷ plan) p =
    let next : n + 1 + length plan ≡ n + suc (length plan) = omega arith in
    ap (λ l. record { number = n; width = q.width } ∷ l) (wires_more (n + 1) plan p ∙ ap (λ m. register_wires (n + 1) plan ++ record { number = m; width = p.width } ∷ []) next)

-- one more register leaves the names new that others have
stays_new : (d : Draft) (p : Planned) (rest : List Planned) → Each (λ other. other ≢ p.name) (map planned_name rest) → Each (IsNewIn d) rest → Each (IsNewIn (with_registers d (p ∷ []))) rest
stays_new d p [] apart new = tt
stays_new d p (q ∷ rest) apart new = (IsNew-made d.instances d.nets (register_net p) q.name (λ e. apart.0 (sym e)) new.0, stays_new d p rest apart.1 new.1)

pub new_rest : (d : Draft) (p : Planned) (rest : List Planned) → AreNew (p ∷ rest) d → AreNew rest (with_registers d (p ∷ []))
new_rest d p rest h = record { each = stays_new d p rest h.apart.0 h.each.1; apart = h.apart.1 }

pub ports_registers : (d : Draft) (plan : List Planned) → ports_among (with_registers d plan).nets ≡ ports_among d.nets
ports_registers d plan = filter_map-append (λ (net : ModuleNet). port_by net.role net) d.nets (map register_net plan) ∙ ap (λ l. ports_among d.nets ++ l) (none plan) ∙ append-nil (ports_among d.nets)
  where
    none : (plan : List Planned) → ports_among (map register_net plan) ≡ []
    none [] = refl
    none (p ∷ plan) = none plan

Each-front : {X : Type 0} (P : X → Type 0) (xs ys : List X) → Each P (xs ++ ys) → Each P xs
Each-front P [] ys h = tt
Each-front P (x ∷ xs) ys h = (h.0, Each-front P xs ys h.1)

Each-last : {X : Type 0} (P : X → Type 0) (xs : List X) (y : X) → Each P (xs ++ y ∷ []) → P y
Each-last P [] y h = h.0
Each-last P (x ∷ xs) y h = Each-last P xs y h.1

pub others_more : (d : Draft) (plan : List Planned) (p : Planned) → KeepsOther plan d (with_registers d plan) → KeepsOther (plan ++ p ∷ []) d (with_registers (with_registers d plan) (p ∷ []))
others_more d plan p keeps name apart new =
    IsNew-made d.instances (with_registers d plan).nets (register_net p) name (Each-last (λ (q : Planned). q.name ≡ name → ⊥) plan p apart) (keeps name (Each-front (λ (q : Planned). q.name ≡ name → ⊥) plan (p ∷ []) apart) new)

-- what stands for a place where there is none
abbrev pub no_plan : Planned
no_plan = record { name = []; width = 1 }

pub each_at : (P : Planned → Type 0) (plan : List Planned) (i : ℕ) → Each P plan → i < length plan → P (get_or plan i no_plan)
each_at P [] i h lt = absurd (omega arith)
each_at P (p ∷ plan) zero h lt = h.0
each_at P (p ∷ plan) (suc i) h lt = each_at P plan i h.1 (omega arith)

-- the item that a loop reached
pub same_item : {X : Type 0} (xs : List X) (i : ℕ) (d p : X) → i < length xs → p ≡ get_or xs i p → get_or xs i d ≡ p
same_item xs i d p lt e = some_same (sym (slice_get-get_or xs i d lt) ∙ slice_get-get_or xs i p lt) ∙ sym e
