-- A name that no net of top has.
use Rattle.std.proofs.Common.{◌≡◌, ◌≢◌, ℕ, ◌+◌, ◌<◌, ◌≤◌, ◌&&◌, List, [], ◌∷◌, ◌++◌, length, map, Option, Some, None, Bool, true, false, refl, sym, ap, ◌∙◌, arith}
use Rattle.std.specs.Prelude.{◌==◌, if◌then◌else◌, slice_get}
use Rattle.std.specs.List.{AllByRecursion as Each}
use Rattle.std.specs.Str.{bytes_eq}
use Rattle.std.proofs.lemmas.Bool.Decides.{Decides-eqb}
use Rattle.std.proofs.lemmas.Option.{slice_get_within}
use Rattle.std.proofs.lemmas.Slice.Eq.{bytes_eq-Decides}
use Rattle.ap_net.specs.declared.net.FlatNet.{FlatNet}
use Rattle.ap_net.specs.declared.net.Instance.{Instance}
use Rattle.ap_net.specs.declared.net.ModuleNet.{ModuleNet}
use Rattle.ap_net.specs.Draft.{Draft}
use Rattle.ap_net.specs.Finished.{IsFinished}
use Rattle.ap_net.specs.Flat.{is_named, nets_in, opened_over, part_net, part_nets, top_net, value_in_part, value_named}
use Rattle.ap_net.specs.Modules.{ModuleText, module_named, nets_of}
use Rattle.ap_net.proofs.Lists.{All-join, All-map, Each-at}

-- a net of another name, or of another part
other_name : (name : List ℕ) (net : FlatNet) → net.name ≢ name → is_named 0 name net ≡ false
other_name name net ne = go (net.part == 0) (bytes_eq net.name name) refl
  where
    go : (a b : Bool) → bytes_eq net.name name ≡ b → (a && b) ≡ false
    go true true e = absurd (ne ((bytes_eq-Decides net.name name).0 e))
    go true false e = refl
    go false b e = refl

other_part : (part : ℕ) (name : List ℕ) (net : ModuleNet) → 1 ≤ part → is_named 0 name (part_net part net) ≡ false
other_part part name net low = go (part == 0) refl
  where
    go : (a : Bool) → (part == 0) ≡ a → (a && bytes_eq net.name name) ≡ false
    go true e = let none : part ≡ 0 = (Decides-eqb part 0).0 e in absurd (omega (arith, low, none))
    go false e = refl

each_part : (part : ℕ) (name : List ℕ) (nets : List ModuleNet) → 1 ≤ part → Each (λ (net : FlatNet). is_named 0 name net ≡ false) (map (part_net part) nets)
each_part part name [] low = tt
each_part part name (net ∷ nets) low = (other_part part name net low, each_part part name nets low)

all_parts : (modules : List ModuleText) (part : ℕ) (name : List ℕ) (instances : List Instance) → 1 ≤ part → Each (λ (net : FlatNet). is_named 0 name net ≡ false) (part_nets modules part instances)
all_parts modules part name [] low = tt
all_parts modules part name (i ∷ instances) low =
    All-join (λ (net : FlatNet). is_named 0 name net ≡ false) (map (part_net part) (nets_in (module_named modules i.module))) (part_nets modules (part + 1) instances)
    (each_part part name (nets_in (module_named modules i.module)) low) (all_parts modules (part + 1) name instances (omega (arith, low)))

-- where no net is of the name, it reads as 0
reads_zero : (name : List ℕ) (nets : List FlatNet) (v : List ℕ) → Each (λ (net : FlatNet). is_named 0 name net ≡ false) nets → value_in_part 0 nets v name ≡ 0
reads_zero name [] v h = refl
reads_zero name (net ∷ nets) [] h = refl
reads_zero name (net ∷ nets) (x ∷ v) h = passed (is_named 0 name net) x (value_in_part 0 nets v name) h.0 ∙ reads_zero name nets v h.1
  where
    passed : (b : Bool) (x y : ℕ) → b ≡ false → (if b then x else y) ≡ y
    passed true x y e = cc
    passed false x y e = refl

pub absent_is_zero : (d : Draft) (modules : List ModuleText) (top : ModuleText) (fin : IsFinished d top) (v name : List ℕ) → ((n : ℕ) (net : ModuleNet) → slice_get d.nets n ≡ Some net → net.name ≢ name)
    → value_named (opened_over modules top).nets v name ≡ 0
absent_is_zero d modules top fin v name none =
    let own : Each (λ (net : FlatNet). is_named 0 name net ≡ false) (map top_net (nets_of top)) =
    All-map (λ (net : FlatNet). is_named 0 name net ≡ false) top_net (nets_of top)
    (Each-at (λ (net : ModuleNet). is_named 0 name (top_net net) ≡ false) (nets_of top) (λ n net at.
    let lt : n < length (nets_of top) = slice_get_within (nets_of top) n net at in
    let there : slice_get d.nets (fin.back n) ≡ Some net = sym (fin.nets (fin.back n) (fin.within n lt)) ∙ ap (slice_get (nets_of top)) (fin.covers n lt) ∙ at in
    other_name name (top_net net) (none (fin.back n) net there))) in
    reads_zero name (opened_over modules top).nets v
    (All-join (λ (net : FlatNet). is_named 0 name net ≡ false) (map top_net (nets_of top)) (part_nets modules 1 top.instances) own (all_parts modules 1 name top.instances (omega arith)))
