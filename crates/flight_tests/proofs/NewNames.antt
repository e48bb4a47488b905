-- In a draft with nothing but a name, the names of all registers are new, and fresh wires can be had.
use Rattle.std.proofs.Common.{◌≡◌, ℕ, ◌+◌, false, List, [], ◌∷◌, ◌++◌, refl}
use Rattle.std.specs.Prelude.{◌==◌}
use Rattle.std.proofs.lemmas.Bool.{eqb-false}
use Rattle.std.specs.List.{AllByRecursion as Each}
use Rattle.ap_desc.specs.declared.design.Design.{Design}
use Rattle.ap_net.specs.Draft.{CanFresh, blank}
use Rattle.ap_pipe.specs.declared.table.StageSlots.{StageSlots}
use Rattle.ap_flight.specs.declared.plan.Planned.{Planned}
use Rattle.ap_flight.specs.Planned.{IsNewIn, slots_from, stage_plan, stages_plan}

-- names with other first letters differ
head_differs : (a b : ℕ) (xs ys : List ℕ) → (a == b) ≡ false → a ∷ xs ≡ b ∷ ys → ⊥
head_differs a b xs ys d e = let same : a ≡ b = cc in eqb-false a b d same

pub fresh_in_blank : (name : List ℕ) → CanFresh (blank name)
fresh_in_blank name = record { free = λ k low high. (head_differs 99 110 _ _ refl, (head_differs 114 110 _ _ refl, tt)) }

slots_new : (name : List ℕ) (stage slot : ℕ) (widths : List ℕ) → Each (IsNewIn (blank name)) (slots_from stage slot widths)
slots_new name stage slot [] = tt
slots_new name stage slot (w ∷ widths) = ((head_differs 99 108 _ _ refl, (head_differs 114 108 _ _ refl, tt)), slots_new name stage (slot + 1) widths)

stage_new : (name : List ℕ) (design : Design) (stage : ℕ) (widths : List ℕ) → Each (IsNewIn (blank name)) (stage_plan design stage widths)
stage_new name design stage widths =
    ((head_differs 99 120 _ _ refl, (head_differs 114 120 _ _ refl, tt)), ((head_differs 99 97 _ _ refl, (head_differs 114 97 _ _ refl, tt)), slots_new name stage 0 widths))

joined : (P : Planned → Type 0) (xs ys : List Planned) → Each P xs → Each P ys → Each P (xs ++ ys)
joined P [] ys h g = g
joined P (x ∷ xs) ys h g = (h.0, joined P xs ys h.1 g)

pub stages_new : (name : List ℕ) (design : Design) (stage : ℕ) (stages : List StageSlots) → Each (IsNewIn (blank name)) (stages_plan design stage stages)
stages_new name design stage [] = tt
stages_new name design stage (s ∷ stages) =
    joined (IsNewIn (blank name)) (stage_plan design stage s.widths) (stages_plan design (stage + 1) stages) (stage_new name design stage s.widths) (stages_new name design (stage + 1) stages)
