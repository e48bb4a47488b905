-- Where every net of a draft is ready, the netlist has a solution, whatever its sources are given.
use Rattle.std.proofs.Common.{◌≡◌, ℕ, zero, suc, ◌<◌, List, [], ◌∷◌, length, map, Some, Bool, true, false, refl, sym, ap, subst, ◌∙◌, arith}
use Rattle.std.specs.Prelude.{slice_get, nat_lt, if◌then◌else◌}
use Rattle.std.specs.List.{AllByRecursion as Each}
use Rattle.std.proofs.lemmas.Option.{slice_get_within}
use Rattle.std.proofs.lemmas.Bool.Decides.{Decides-ltb}
use Rattle.ap_net.specs.declared.cell.Wire.{Wire}
use Rattle.ap_net.specs.declared.net.ModuleNet.{ModuleNet}
use Rattle.ap_net.specs.declared.net.Instance.{Instance}
use Rattle.ap_net.specs.Wiring.{IsSource, Undriven, Unjoined}
use Rattle.ap_net.specs.Modules.{ModuleText, IsInstanceIn, instance_placed, placed, nets_of}
use Rattle.ap_net.specs.Flat.{plain_nets, opened_over, spread}
use Rattle.ap_net.specs.Finished.{IsFinished}
use Rattle.ap_net.specs.Draft.{Draft}
use Rattle.ap_net.proofs.Lists.{All-from, All-unmap, some_same, map-map}
use Rattle.ap_net.proofs.Parts.{own_net_at, spread-own}
use Rattle.ap_net.proofs.Whole.{opened-IsFlat}
use Rattle.ap_net.proofs.Fits.{always_solvable}
use Rattle.ap_net.specs.Ready.{Dependence, Ready, ready}
use Rattle.ap_net.specs.Responding.{looked_in, HasOrder, ReadyRespond, ReadyAreDriven, ReadyAreOrdered}
use Rattle.ap_net.proofs.Orders.{ready_have_orders}
use Rattle.ap_net.proofs.Feeding.{of_driver}

-- an element that is there
there_is : {X : Type 0} (xs : List X) (n : ℕ) → n < length xs → (x : X) × (slice_get xs n ≡ Some x)
there_is [] n lt = absurd (omega arith)
there_is (x ∷ xs) zero lt = (x, refl)
there_is (x ∷ xs) (suc n) lt = there_is xs n (omega arith)

mapped : {X Y : Type 0} (f : X → Y) (xs : List X) (j : ℕ) (y : Y) → slice_get (map f xs) j ≡ Some y → (x : X) × (slice_get xs j ≡ Some x) × (f x ≡ y)
mapped f [] j y at = cc
mapped f (x ∷ xs) zero y at = (x, refl, some_same at)
mapped f (x ∷ xs) (suc j) y at = mapped f xs j y at

-- an instance under other numbers connects what it did
same_instance : (modules : List ModuleText) (place : ℕ → ℕ) (i : Instance) → IsInstanceIn modules (instance_placed place i) → IsInstanceIn modules i
same_instance modules place i h = record {
  whole = h.whole;
  found = h.found;
  connects = record { named = (h.connects).named; widths = sym (map-map (placed place) (λ (w : Wire). w.width) i.nets) ∙ (h.connects).widths; drives = (h.connects).drives };
}

looked_at : (m : ModuleText) (place back : ℕ → ℕ) (looks : ℕ → List ℕ) (n : ℕ) (b : Bool) (j k : ℕ) → slice_get (if b then map place (looks (back n)) else []) j ≡ Some k
    → (b ≡ true) × ((x : ℕ) × (slice_get (looks (back n)) j ≡ Some x) × (place x ≡ k))
looked_at m place back looks n true j k at = (refl, mapped place (looks (back n)) j k at)
looked_at m place back looks n false j k at = cc

module _ (by : Dependence) (d : Draft) (m : ModuleText) (modules : List ModuleText) (fin : IsFinished d m) (h : HasOrder by d modules) where
  abbrev nets : List ModuleNet
  nets = plain_nets (opened_over modules m).nets

  abbrev rank : ℕ → ℕ
  rank = spread modules m (λ n. h.rank (fin.back n)) h.parts

  place_net : (x : ℕ) → x < length d.nets → (net : ModuleNet) × (slice_get (nets_of m) (fin.place x) ≡ Some net)
  place_net x lt = let net = there_is d.nets x lt in (net.0, fin.nets x lt ∙ net.1)

  place_rank : (x : ℕ) → x < length d.nets → rank (fin.place x) ≡ h.rank x
  place_rank x lt =
      let net = place_net x lt in
      spread-own modules m (λ n. h.rank (fin.back n)) h.parts (fin.place x) (slice_get_within (nets_of m) (fin.place x) net.0 net.1) ∙ ap h.rank (fin.returns x lt)

  seen : (n : ℕ) (net : ModuleNet) → slice_get nets n ≡ Some net → IsSource net.role → (j k : ℕ) → slice_get (looked_in m fin.place fin.back by.looks n) j ≡ Some k → (k < length nets) × (rank k < rank n)
  seen n net at is j k there =
      let found = looked_at m fin.place fin.back by.looks n (nat_lt n (length (nets_of m))) j k there in
      let lt : n < length (nets_of m) = (Decides-ltb n (length (nets_of m))).0 found.0 in
      let own = there_is (nets_of m) n lt in
      let same : own.0 ≡ net = some_same (sym (own_net_at modules m n own.0 own.1) ∙ at) in
      let low : fin.back n < length d.nets = fin.within n lt in
      let old : slice_get d.nets (fin.back n) ≡ Some net = sym (fin.nets (fin.back n) low) ∙ ap (λ k. slice_get (nets_of m) k) (fin.covers n lt) ∙ own.1 ∙ ap Some same in
      let x : ℕ = (found.1).0 in
      let less = h.looks (fin.back n) x j net old is (found.1).1 in
      let here = place_net x less.0 in
      let e : rank (fin.place x) ≡ h.rank x = place_rank x less.0 in
      let f : rank n ≡ h.rank (fin.back n) = spread-own modules m (λ n. h.rank (fin.back n)) h.parts n lt in (
        subst (λ i. i < length nets) (found.1).2 (slice_get_within nets (fin.place x) here.0 (own_net_at modules m (fin.place x) here.0 here.1)),
        subst (λ i. rank i < rank n) (found.1).2 (rw (e, f) less.1),
      )

pub ready_respond : ReadyRespond
ready_respond by d is all m modules fin over given looks =
    let inside : Each (IsInstanceIn modules) d.instances =
    All-from (λ (i : Instance). IsInstanceIn modules (instance_placed fin.place i)) (IsInstanceIn modules) (same_instance modules fin.place) d.instances
    (All-unmap (IsInstanceIn modules) (instance_placed fin.place) d.instances (subst (Each (IsInstanceIn modules)) fin.instances over.within)) in
    let h = ready_have_orders by d is all modules inside over.ordered over.dependent in
    always_solvable (opened_over modules m) (opened-IsFlat modules m over.each over.kept over.within) given (record {
      rank = spread modules m (λ n. h.rank (fin.back n)) h.parts;
      ranked = fin.open_orders modules h.rank h.parts over.each over.within h.order;
      looks = λ n net f g at source_net same. looks n net f g at source_net (λ j k there. let low = seen by d m modules fin h n net at source_net j k there in same k low.0 low.1);
    })

has_driver : (by : Dependence) (d : Draft) (n : ℕ) (net : ModuleNet) → Ready by d n → slice_get d.nets n ≡ Some net → (IsSource net.role → ⊥) → Undriven d.assigns n → Unjoined d.instances n → ⊥
has_driver by d n net (ready from feeds each) at free undriven unjoined = of_driver by d n net from feeds at free undriven unjoined

pub ready_are_driven : ReadyAreDriven
ready_are_driven by d all n net at free undriven unjoined = has_driver by d n net (all n (slice_get_within d.nets n net at)) at free undriven unjoined

pub ready_are_ordered : ReadyAreOrdered
ready_are_ordered by d m is alone all fin =
    let h = ready_have_orders by d is all [] (subst (Each (IsInstanceIn [])) (sym alone) tt) tt tt in
    (λ n. h.rank (fin.back n), fin.orders h.rank (h.order).ranked)
