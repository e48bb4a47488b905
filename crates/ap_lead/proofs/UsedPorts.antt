-- Which ports the write groups have: those through which some line writes, and no others.
use Rattle.std.proofs.Common.{◌≡◌, ◌≢◌, ℕ, ◌+◌, ◌-◌, ◌<◌, ◌≤◌, ◌==◌, Bool, true, false, if◌then◌else◌, List, [], ◌∷◌, ◌++◌, length, filter, flat_map, reverse, Some, refl, sym, ap, subst, ◌∙◌, arith}
use Rattle.std.specs.List.{AllByRecursion as Each, range_with_len}
use Rattle.std.proofs.lemmas.Grind.{reverse_onto}
use Rattle.ap_desc.specs.Clean.{IsClean}
use Rattle.ap_desc.specs.Ports.{micros_in}
use Rattle.ap_desc.specs.declared.design.Design.{Design}
use Rattle.ap_desc.specs.declared.design.Micro.{Micro}
use Rattle.ap_model.specs.declared.storage.WritePort.{WritePort}
use Rattle.ap_model.specs.declared.storage.WritePort.TheVariants as port
use Rattle.ap_model.specs.Ports.{file_groups, file_ports, is_used, is_used_in, reg_ports, stages_from_last, write_count, write_groups, writes_through}
use Rattle.ap_model.proofs.ListLemmas.{each_all, each_flat_map, fewer}
use Rattle.ap_model.proofs.WritesApart.{writes_apart}
use Rattle.ap_net.proofs.Lists.{All-at, All-back, All-from, All-front, All-join, All-unmap}
use Rattle.ap_lead.proofs.Numbered.{range_at}
use Rattle.ap_front.proofs.Apart.{each_filter}

-- Lists taken apart.

unfilter : {X : Type 0} (P : X → Type 0) (t : X → Bool) (xs : List X) → Each P (filter t xs) → Each (λ x. t x ≡ true → P x) xs
unfilter P t [] h = tt
unfilter P t (x ∷ xs) h = by (t x) refl h (unfilter P t xs)
  where
    by : (b : Bool) → t x ≡ b → Each P (if b then x ∷ filter t xs else filter t xs) → (Each P (filter t xs) → Each (λ y. t y ≡ true → P y) xs) → Each (λ y. t y ≡ true → P y) (x ∷ xs)
    by true e k rest = ((λ on. k.0), rest k.1)
    by false e k rest = ((λ on. let clash : true ≡ false = sym on ∙ e in cc), rest k)

unflat : {X Y : Type 0} (P : Y → Type 0) (f : X → List Y) (xs : List X) → Each P (flat_map f xs) → Each (λ x. Each P (f x)) xs
unflat P f [] h = tt
unflat P f (x ∷ xs) h = (All-front P (f x) (flat_map f xs) h, unflat P f xs (All-back P (f x) (flat_map f xs) h))

unreverse : {X : Type 0} (P : X → Type 0) (xs : List X) → Each P (reverse xs) → Each P xs
unreverse P [] h = tt
unreverse P (x ∷ xs) h =
    let k : Each P (reverse xs ++ x ∷ []) = subst (Each P) (reverse_onto xs x []) h in
    ((All-back P (reverse xs) (x ∷ []) k).0, unreverse P xs (All-front P (reverse xs) (x ∷ []) k))

unused : (b : Bool) → (b ≡ true → ⊥) → b ≡ false
unused true f = absurd (f refl)
unused false f = refl

-- Some line writes through each port of the groups.

used_somewhere : (design : Design) (stage : ℕ) (q : WritePort) → is_used_in design stage q ≡ true → is_used design q ≡ true
used_somewhere design stage q on = go (is_used design q) refl
  where
    go : (b : Bool) → is_used design q ≡ b → is_used design q ≡ true
    go true e = e
    go false e = let clash : true ≡ false = sym on ∙ fewer (λ (m : Micro). m.stage == stage) (λ (m : Micro). writes_through q m.act) (micros_in design) e in cc

abbrev Used : Design → WritePort → Type 0
Used design q = is_used design q ≡ true

file_groups_used : (design : Design) (file : ℕ) → Each (Used design) (file_groups design file)
file_groups_used design file = each_flat_map (Used design) (λ stage. filter (is_used_in design stage) (file_ports design file)) (stages_from_last design)
    (each_all (λ stage. Each (Used design) (filter (is_used_in design stage) (file_ports design file)))
    (λ stage. All-from (λ q. is_used_in design stage q ≡ true) (Used design) (used_somewhere design stage) (filter (is_used_in design stage) (file_ports design file)) (each_filter (is_used_in design stage) (file_ports design file)))
    (stages_from_last design))

pub groups_used : (design : Design) → Each (Used design) (write_groups design)
unfolding write_groups
groups_used design = All-join (Used design) (filter (is_used design) (reg_ports design)) (flat_map (file_groups design) (range_with_len 0 (length design.files)))
    (each_filter (is_used design) (reg_ports design))
    (each_flat_map (Used design) (file_groups design) (range_with_len 0 (length design.files)) (each_all (λ file. Each (Used design) (file_groups design file)) (file_groups_used design) (range_with_len 0 (length design.files))))

-- Where a port isn't among the groups, no line writes through it.

pub reg_unused : (design : Design) (reg : ℕ) → reg < length design.regs → Each (λ q. q ≢ port.Register reg) (write_groups design) → is_used design (port.Register reg) ≡ false
unfolding write_groups
reg_unused design reg lt h =
    let regs = All-front (λ q. q ≢ port.Register reg) (filter (is_used design) (reg_ports design)) (flat_map (file_groups design) (range_with_len 0 (length design.files))) h in
    let each = unfilter (λ q. q ≢ port.Register reg) (is_used design) (reg_ports design) regs in
    let numbers = All-unmap (λ q. is_used design q ≡ true → q ≢ port.Register reg) port.Register (range_with_len 0 (length design.regs)) each in
    let here : 0 + reg ≡ reg = omega arith in
    let other = All-at (λ k. is_used design (port.Register k) ≡ true → port.Register k ≢ port.Register reg) (range_with_len 0 (length design.regs)) reg reg numbers (range_at 0 (length design.regs) reg lt ∙ ap Some here) in
    unused (is_used design (port.Register reg)) (λ on. other on refl)

pub cell_unused : (design : Design) (file number : ℕ) → IsClean design → file < length design.files → number < write_count design file → Each (λ q. q ≢ port.Cell file number) (write_groups design) → is_used design (port.Cell file number) ≡ false
unfolding write_groups
cell_unused design file number clean lt below h = unused (is_used design (port.Cell file number)) (λ on.
    let at = (writes_apart design clean).some_stage (port.Cell file number) on in
    let cells = All-back (λ q. q ≢ port.Cell file number) (filter (is_used design) (reg_ports design)) (flat_map (file_groups design) (range_with_len 0 (length design.files))) h in
    let files = unflat (λ q. q ≢ port.Cell file number) (file_groups design) (range_with_len 0 (length design.files)) cells in
    let of_file : 0 + file ≡ file = omega arith in
    let groups = All-at (λ k. Each (λ q. q ≢ port.Cell file number) (file_groups design k)) (range_with_len 0 (length design.files)) file file files (range_at 0 (length design.files) file lt ∙ ap Some of_file) in
    let stages = unreverse (λ stage. Each (λ q. q ≢ port.Cell file number) (filter (is_used_in design stage) (file_ports design file))) (range_with_len 1 (design.stages - 1))
    (unflat (λ q. q ≢ port.Cell file number) (λ stage. filter (is_used_in design stage) (file_ports design file)) (stages_from_last design) groups) in
    let low : 1 ≤ at.0 = at.1 in
    let of_stage : 1 + (at.0 - 1) ≡ at.0 = omega (arith, low) in
    let ports = All-at (λ stage. Each (λ q. q ≢ port.Cell file number) (filter (is_used_in design stage) (file_ports design file))) (range_with_len 1 (design.stages - 1)) (at.0 - 1) at.0 stages
    (range_at 1 (design.stages - 1) (at.0 - 1) (let high : at.0 ≤ design.stages - 1 = at.2 in omega (arith, low, high)) ∙ ap Some of_stage) in
    let numbers = All-unmap (λ q. is_used_in design at.0 q ≡ true → q ≢ port.Cell file number) (port.Cell file) (range_with_len 0 (write_count design file)) (unfilter (λ q. q ≢ port.Cell file number) (is_used_in design at.0) (file_ports design file) ports) in
    let of_number : 0 + number ≡ number = omega arith in
    All-at (λ k. is_used_in design at.0 (port.Cell file k) ≡ true → port.Cell file k ≢ port.Cell file number) (range_with_len 0 (write_count design file)) number number numbers (range_at 0 (write_count design file) number below ∙ ap Some of_number) at.3 refl)
