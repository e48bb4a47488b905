-- Wires of different nodes are different.
use Rattle.std.proofs.Common.{◌≡◌, ◌≢◌, ℕ, zero, suc, ◌+◌, ◌==◌, List, [], ◌∷◌, ◌++◌, Option, Some, None, find, flat_map, refl, sym, ap, subst, ◌∙◌, eqb-true, ⊎_elim}
use Rattle.std.specs.Prelude.{slice_get}
use Rattle.std.specs.List.{AllByRecursion as Each}
use Rattle.std.specs.Option.{option_map}
use Rattle.std.proofs.lemmas.Bool.{cases_eq}
use Rattle.std.proofs.lemmas.Option.{same_Some}
use Rattle.ap_course.proofs.Standing.{found_in}
use Rattle.ap_desc.proofs.Members.{each_contained, in_contains}
use Rattle.ap_desc.specs.declared.design.Design.{Design}
use Rattle.ap_desc.specs.declared.design.Node.{Node as DesignNode}
use Rattle.ap_desc.specs.declared.design.Node.TheVariants as design_node
use Rattle.ap_net.specs.declared.cell.Wire.{Wire}
use Rattle.ap_net.specs.Ready.{numbers}
use Rattle.ap_net.specs.Wiring.{NoneTwice}
use Rattle.ap_net.proofs.Lists.{All-at, All-back, All-front, All-map, All-unmap, Each-at, some_same}
use Rattle.ap_ports.specs.Numbers.{number_of_node}
use Rattle.ap_ports.proofs.Members.{place_of}
use Rattle.ap_stages.specs.Stood.{wires_with}
use Rattle.ap_stages.specs.Supplies.{supply_of}
use Rattle.ap_stages.specs.declared.nodes.Supplied.{Supplied}
use Rattle.ap_stages.specs.declared.nodes.Supply.{Supply}
use Rattle.ap_stages.specs.declared.nodes.Supply.TheVariants as by
use Rattle.ap_bank.specs.declared.bank.FileNets.{FileNets}
use Rattle.ap_slow.specs.declared.place.SlowPlaced.{SlowPlaced}
use Rattle.ap_supply.specs.Apart.{SuppliesAreApart, address_wire, asked_wires, index_wires, late_of}
use Rattle.ap_supply.specs.Supplies.{IsEntry, IsSupplyOf, Placed}

-- Lists of wires. ---------------------------------------------------------------------------------------------------------

abbrev Apart : List Wire → List Wire → Type 0
Apart xs ys = Each (λ (w : Wire). Each (λ (x : Wire). x.number ≢ w.number) ys) xs

none_apart : (xs : List Wire) → Apart xs []
none_apart [] = tt
none_apart (x ∷ xs) = (tt, none_apart xs)

turned : (xs ys : List Wire) → Apart xs ys → Apart ys xs
turned xs ys h = Each-at (λ (w : Wire). Each (λ (x : Wire). x.number ≢ w.number) xs) ys (λ j y there. Each-at (λ (x : Wire). x.number ≢ y.number) xs (λ i x at.
    λ e. All-at (λ (v : Wire). v.number ≢ x.number) ys j y (All-at (λ (w : Wire). Each (λ (v : Wire). v.number ≢ w.number) ys) xs i x h at) there (sym e)))

record Splits (xs ys : List Wire) : Type 0 where
  left : NoneTwice (numbers xs)
  right : NoneTwice (numbers ys)
  apart : Apart xs ys

splits : (xs ys : List Wire) → NoneTwice (numbers (xs ++ ys)) → Splits xs ys
splits [] ys h = record { left = tt; right = h; apart = tt }
splits (x ∷ xs) ys h =
    let rest = splits xs ys h.1 in
    let others : Each (λ (w : Wire). w.number ≢ x.number) (xs ++ ys) = All-unmap (λ n. n ≢ x.number) (λ (w : Wire). w.number) (xs ++ ys) h.0 in
    record {
      left = (All-map (λ n. n ≢ x.number) (λ (w : Wire). w.number) xs (All-front (λ (w : Wire). w.number ≢ x.number) xs ys others), rest.left);
      right = rest.right;
      apart = (All-back (λ (w : Wire). w.number ≢ x.number) xs ys others, rest.apart);
    }

-- what holds of each wire of all lists holds of those of one
each_of_one : {X : Type 0} (P : Wire → Type 0) (f : X → List Wire) (xs : List X) (i : ℕ) (a : X) → Each P (flat_map f xs) → slice_get xs i ≡ Some a → Each P (f a)
each_of_one P f [] i a h at = absurd cc
each_of_one P f (x ∷ xs) zero a h at = let same : x ≡ a = some_same at in subst (λ y. Each P (f y)) same (All-front P (f x) (flat_map f xs) h)
each_of_one P f (x ∷ xs) (suc i) a h at = each_of_one P f xs i a (All-back P (f x) (flat_map f xs) h) at

-- the wires of the first are apart from those of any later one, and so of two places
later_apart : {X : Type 0} (f : X → List Wire) (x : X) (xs : List X) (j : ℕ) (b : X) → NoneTwice (numbers (flat_map f (x ∷ xs))) → slice_get xs j ≡ Some b → Apart (f x) (f b)
later_apart f x xs j b h there = Each-at (λ (w : Wire). Each (λ (v : Wire). v.number ≢ w.number) (f b)) (f x) (λ k w here.
    each_of_one (λ (v : Wire). v.number ≢ w.number) f xs j b
    (All-at (λ (w : Wire). Each (λ (v : Wire). v.number ≢ w.number) (flat_map f xs)) (f x) k w (splits (f x) (flat_map f xs) h).apart here) there)

two_apart : {X : Type 0} (f : X → List Wire) (xs : List X) (i j : ℕ) (a b : X) → NoneTwice (numbers (flat_map f xs)) → slice_get xs i ≡ Some a → slice_get xs j ≡ Some b → i ≢ j → Apart (f a) (f b)
two_apart f [] i j a b h at there differ = absurd cc
two_apart f (x ∷ xs) zero zero a b h at there differ = absurd (differ refl)
two_apart f (x ∷ xs) zero (suc j) a b h at there differ = let same : x ≡ a = some_same at in subst (λ y. Apart (f y) (f b)) same (later_apart f x xs j b h there)
two_apart f (x ∷ xs) (suc i) zero a b h at there differ = let same : x ≡ b = some_same there in turned (f b) (f a) (subst (λ y. Apart (f y) (f a)) same (later_apart f x xs i a h at))
two_apart f (x ∷ xs) (suc i) (suc j) a b h at there differ = two_apart f xs i j a b (splits (f x) (flat_map f xs) h).right at there (λ e. differ (ap suc e))

-- those of one are apart
one_apart : {X : Type 0} (f : X → List Wire) (xs : List X) (i : ℕ) (a : X) → NoneTwice (numbers (flat_map f xs)) → slice_get xs i ≡ Some a → NoneTwice (numbers (f a))
one_apart f [] i a h at = absurd cc
one_apart f (x ∷ xs) zero a h at = let same : x ≡ a = some_same at in subst (λ y. NoneTwice (numbers (f y))) same (splits (f x) (flat_map f xs) h).left
one_apart f (x ∷ xs) (suc i) a h at = one_apart f xs i a (splits (f x) (flat_map f xs) h).right at

-- two wires of one list
later_wire : (x : Wire) (ws : List Wire) (j : ℕ) (v : Wire) → NoneTwice (numbers (x ∷ ws)) → slice_get ws j ≡ Some v → v.number ≢ x.number
later_wire x ws j v h there = All-at (λ (u : Wire). u.number ≢ x.number) ws j v (All-unmap (λ n. n ≢ x.number) (λ (u : Wire). u.number) ws h.0) there

wires_apart : (ws : List Wire) (i j : ℕ) (w v : Wire) → NoneTwice (numbers ws) → slice_get ws i ≡ Some w → slice_get ws j ≡ Some v → i ≢ j → v.number ≢ w.number
wires_apart [] i j w v h at there differ = absurd cc
wires_apart (x ∷ ws) zero zero w v h at there differ = absurd (differ refl)
wires_apart (x ∷ ws) zero (suc j) w v h at there differ = let same : x ≡ w = some_same at in subst (λ (u : Wire). v.number ≢ u.number) same (later_wire x ws j v h there)
wires_apart (x ∷ ws) (suc i) zero w v h at there differ = let same : x ≡ v = some_same there in λ e. later_wire x ws i w h at (sym e ∙ ap (λ (u : Wire). u.number) (sym same))
wires_apart (x ∷ ws) (suc i) (suc j) w v h at there differ = wires_apart ws i j w v h.1 at there (λ e. differ (ap suc e))

-- parts of two lists that are apart
parts_apart : {X Y : Type 0} (f : X → List Wire) (g : Y → List Wire) (xs : List X) (ys : List Y) (i j : ℕ) (a : X) (b : Y) → Apart (flat_map f xs) (flat_map g ys) → slice_get xs i ≡ Some a → slice_get ys j ≡ Some b → Apart (f a) (g b)
parts_apart f g xs ys i j a b h at there = Each-at (λ (w : Wire). Each (λ (v : Wire). v.number ≢ w.number) (g b)) (f a) (λ k w here.
    each_of_one (λ (v : Wire). v.number ≢ w.number) g ys j b
    (All-at (λ (w : Wire). Each (λ (v : Wire). v.number ≢ w.number) (flat_map g ys)) (f a) k w (each_of_one (λ (w : Wire). Each (λ (v : Wire). v.number ≢ w.number) (flat_map g ys)) f xs i a h at) here) there)

-- a wire of each
single_apart : (xs ys : List Wire) (i j : ℕ) (w v : Wire) → Apart xs ys → slice_get xs i ≡ Some w → slice_get ys j ≡ Some v → v.number ≢ w.number
single_apart xs ys i j w v h at there = All-at (λ (u : Wire). u.number ≢ w.number) ys j v (All-at (λ (x : Wire). Each (λ (u : Wire). u.number ≢ x.number) ys) xs i w h at) there

-- Nodes. ------------------------------------------------------------------------------------------------------------------

module _ (design : Design) (p : Placed) (apart : NoneTwice (numbers (late_of p))) where
  abbrev units : List Wire
  units = flat_map asked_wires p.slow

  abbrev reads : List Wire
  reads = flat_map index_wires p.files

  abbrev memories : List Wire
  memories = flat_map address_wire p.mems

  firsts : Splits units (reads ++ memories)
  firsts = splits units (reads ++ memories) apart

  seconds : Splits reads memories
  seconds = splits reads memories firsts.right

  units_reads : Apart units reads
  units_reads = Each-at (λ (w : Wire). Each (λ (v : Wire). v.number ≢ w.number) reads) units (λ k w here.
      All-front (λ (v : Wire). v.number ≢ w.number) reads memories (All-at (λ (x : Wire). Each (λ (v : Wire). v.number ≢ x.number) (reads ++ memories)) units k w firsts.apart here))

  units_memories : Apart units memories
  units_memories = Each-at (λ (w : Wire). Each (λ (v : Wire). v.number ≢ w.number) memories) units (λ k w here.
      All-back (λ (v : Wire). v.number ≢ w.number) reads memories (All-at (λ (x : Wire). Each (λ (v : Wire). v.number ≢ x.number) (reads ++ memories)) units k w firsts.apart here))

  -- of two units
  slow_apart : (v w : ℕ) (a1 b1 c1 y1 a2 b2 c2 y2 : Wire) → v ≢ w → IsSupplyOf design p (design_node.Unit v) (by.Slow a1 b1 c1 y1) → IsSupplyOf design p (design_node.Unit w) (by.Slow a2 b2 c2 y2)
      → Apart (a1 ∷ b1 ∷ c1 ∷ []) (a2 ∷ b2 ∷ c2 ∷ [])
  slow_apart v w a1 b1 c1 y1 a2 b2 c2 y2 differ h k =
      let (i, at) = place_of p.slow h.placed h.among in
      let (j, there) = place_of p.slow k.placed k.among in
      let other : i ≢ j = λ same. differ (sym h.own ∙ ap (λ (x : SlowPlaced). x.unit) (some_same (sym at ∙ ap (slice_get p.slow) same ∙ there)) ∙ k.own) in
      let own = two_apart asked_wires p.slow i j h.placed k.placed firsts.left at there other in
      subst (λ ws. Apart ws (a2 ∷ b2 ∷ c2 ∷ [])) (sym (λ n. h.sel_is n ∷ h.a_is n ∷ h.b_is n ∷ [])) (subst (Apart (asked_wires h.placed)) (sym (λ n. k.sel_is n ∷ k.a_is n ∷ k.b_is n ∷ [])) own)

  -- of a unit and a read port, of a unit and a memory
  slow_read : (v file port : ℕ) (a b c y index value : Wire) → IsSupplyOf design p (design_node.Unit v) (by.Slow a b c y) → IsSupplyOf design p (design_node.FileRead file port) (by.Read index value) → Apart (a ∷ b ∷ c ∷ []) (index ∷ [])
  slow_read v file port a b c y index value h k =
      let (i, at) = place_of p.slow h.placed h.among in
      let own : Apart (asked_wires h.placed) k.nets.indices = parts_apart asked_wires index_wires p.slow p.files i file h.placed k.nets units_reads at k.made in
      let one : Apart (asked_wires h.placed) (index ∷ []) = Each-at (λ (w : Wire). Each (λ (u : Wire). u.number ≢ w.number) (index ∷ [])) (asked_wires h.placed) (λ n w here.
      (single_apart (asked_wires h.placed) k.nets.indices n port w index own here k.index_at, tt)) in
      subst (λ ws. Apart ws (index ∷ [])) (sym (λ n. h.sel_is n ∷ h.a_is n ∷ h.b_is n ∷ [])) one

  slow_mem : (v mem : ℕ) (a b c y index value : Wire) → IsSupplyOf design p (design_node.Unit v) (by.Slow a b c y) → IsSupplyOf design p (design_node.MemRead mem) (by.Read index value) → Apart (a ∷ b ∷ c ∷ []) (index ∷ [])
  slow_mem v mem a b c y index value h k =
      let (i, at) = place_of p.slow h.placed h.among in
      let own : Apart (asked_wires h.placed) (k.ports.read_address ∷ []) = parts_apart asked_wires address_wire p.slow p.mems i mem h.placed k.ports units_memories at k.made in
      subst (λ ws. Apart ws (index ∷ [])) (sym (λ n. h.sel_is n ∷ h.a_is n ∷ h.b_is n ∷ [])) (subst (Apart (asked_wires h.placed)) (sym (λ n. k.index_is n ∷ [])) own)

  -- of two read ports
  read_apart : (file port other number : ℕ) (index value x y : Wire) → number_of_node (design_node.FileRead file port) ≢ number_of_node (design_node.FileRead other number)
      → IsSupplyOf design p (design_node.FileRead file port) (by.Read index value) → IsSupplyOf design p (design_node.FileRead other number) (by.Read x y) → Apart (index ∷ []) (x ∷ [])
  read_apart file port other number index value x y differ h k = ⊎_elim same_file other_file (cases_eq file other)
    where
      same_file : file ≡ other → Apart (index ∷ []) (x ∷ [])
      same_file same =
          let nets : k.nets ≡ h.nets = some_same (sym k.made ∙ ap (slice_get p.files) (sym same) ∙ h.made) in
          let there : slice_get h.nets.indices number ≡ Some x = subst (λ (n : FileNets). slice_get n.indices number ≡ Some x) nets k.index_at in
          let ports : port ≢ number = λ e. differ (λ n. number_of_node (design_node.FileRead (same n) (e n))) in
          ((wires_apart h.nets.indices port number index x (one_apart index_wires p.files file h.nets seconds.left h.made) h.index_at there ports, tt), tt)

      other_file : file ≢ other → Apart (index ∷ []) (x ∷ [])
      other_file apart_files =
          let own : Apart h.nets.indices k.nets.indices = two_apart index_wires p.files file other h.nets k.nets seconds.left h.made k.made apart_files in
          ((single_apart h.nets.indices k.nets.indices port number index x own h.index_at k.index_at, tt), tt)

  -- of a read port and a memory
  read_mem : (file port mem : ℕ) (index value x y : Wire) → IsSupplyOf design p (design_node.FileRead file port) (by.Read index value) → IsSupplyOf design p (design_node.MemRead mem) (by.Read x y) → Apart (index ∷ []) (x ∷ [])
  read_mem file port mem index value x y h k =
      let own : Apart h.nets.indices (k.ports.read_address ∷ []) = parts_apart index_wires address_wire p.files p.mems file mem h.nets k.ports seconds.apart h.made k.made in
      let one : Apart (index ∷ []) (k.ports.read_address ∷ []) = ((single_apart h.nets.indices (k.ports.read_address ∷ []) port 0 index k.ports.read_address own h.index_at refl, tt), tt) in
      subst (Apart (index ∷ [])) (sym (λ n. k.index_is n ∷ [])) one

  -- of two memories
  mem_apart : (mem other : ℕ) (index value x y : Wire) → mem ≢ other → IsSupplyOf design p (design_node.MemRead mem) (by.Read index value) → IsSupplyOf design p (design_node.MemRead other) (by.Read x y) → Apart (index ∷ []) (x ∷ [])
  mem_apart mem other index value x y differ h k =
      let own = two_apart address_wire p.mems mem other h.ports k.ports seconds.right h.made k.made differ in
      subst (λ ws. Apart ws (x ∷ [])) (sym (λ n. h.index_is n ∷ [])) (subst (Apart (h.ports.read_address ∷ [])) (sym (λ n. k.index_is n ∷ [])) own)

  -- whatever the nodes are
  nodes_apart : (x y : DesignNode) (s t : Supply) → number_of_node x ≢ number_of_node y → IsSupplyOf design p x s → IsSupplyOf design p y t → Apart (wires_with s) (wires_with t)
  nodes_apart x y (by.Quick place bits) t differ h k = tt
  nodes_apart x y s (by.Quick place bits) differ h k = none_apart (wires_with s)
  nodes_apart (design_node.Unit v) (design_node.Unit w) (by.Slow a1 b1 c1 y1) (by.Slow a2 b2 c2 y2) differ h k = slow_apart v w a1 b1 c1 y1 a2 b2 c2 y2 differ h k
  nodes_apart (design_node.Unit v) (design_node.FileRead file port) (by.Slow a b c r) (by.Read index value) differ h k = slow_read v file port a b c r index value h k
  nodes_apart (design_node.Unit v) (design_node.MemRead mem) (by.Slow a b c r) (by.Read index value) differ h k = slow_mem v mem a b c r index value h k
  nodes_apart (design_node.FileRead file port) (design_node.Unit v) (by.Read index value) (by.Slow a b c r) differ h k = turned (a ∷ b ∷ c ∷ []) (index ∷ []) (slow_read v file port a b c r index value k h)
  nodes_apart (design_node.FileRead file port) (design_node.FileRead other number) (by.Read index value) (by.Read u w) differ h k = read_apart file port other number index value u w differ h k
  nodes_apart (design_node.FileRead file port) (design_node.MemRead mem) (by.Read index value) (by.Read u w) differ h k = read_mem file port mem index value u w h k
  nodes_apart (design_node.MemRead mem) (design_node.Unit v) (by.Read index value) (by.Slow a b c r) differ h k = turned (a ∷ b ∷ c ∷ []) (index ∷ []) (slow_mem v mem a b c r index value k h)
  nodes_apart (design_node.MemRead mem) (design_node.FileRead file port) (by.Read index value) (by.Read u w) differ h k = turned (u ∷ []) (index ∷ []) (read_mem file port mem u w index value k h)
  nodes_apart (design_node.MemRead mem) (design_node.MemRead other) (by.Read index value) (by.Read u w) differ h k = mem_apart mem other index value u w (λ same. differ (ap (λ n. 64 + n) same)) h k
  nodes_apart (design_node.Unit v) y (by.Read index value) t differ h k = absurd h
  nodes_apart (design_node.FileRead file port) y (by.Slow a b c r) t differ h k = absurd h
  nodes_apart (design_node.MemRead mem) y (by.Slow a b c r) t differ h k = absurd h
  nodes_apart x (design_node.Unit v) s (by.Read index value) differ h k = absurd k
  nodes_apart x (design_node.FileRead file port) s (by.Slow a b c r) differ h k = absurd k
  nodes_apart x (design_node.MemRead mem) s (by.Slow a b c r) differ h k = absurd k

module _ (design : Design) (p : Placed) (supplies : List Supplied) (each : Each (IsEntry design p) supplies) where
  -- what is there for a number is of a node of this number
  record IsOfNode (number : ℕ) (s : Supply) : Type 0 where
    node : DesignNode
    own : number_of_node node ≡ number
    of : IsSupplyOf design p node s

  of_found : (number : ℕ) (s : Supply) (o : Option Supplied) → find (λ (e : Supplied). e.number == number) supplies ≡ o → option_map (λ (e : Supplied). e.supply) o ≡ Some s → IsOfNode number s
  of_found number s None found is = absurd cc
  of_found number s (Some e) found is =
      let (inside, own) = found_in (λ (e : Supplied). e.number == number) supplies e found in
      let entry : IsEntry design p e = each_contained (IsEntry design p) supplies e each (in_contains supplies e inside) in
      record { node = entry.node; own = sym entry.number ∙ eqb-true e.number number own; of = subst (IsSupplyOf design p entry.node) (same_Some e.supply s is) entry.of }

  of_node : (number : ℕ) (s : Supply) → supply_of supplies number ≡ Some s → IsOfNode number s
  of_node number s is = of_found number s (find (λ (e : Supplied). e.number == number) supplies) refl is

pub supplies_are_apart : SuppliesAreApart
supplies_are_apart design p supplies each apart one other s t first second differ =
    let a = of_node design p supplies each one s first in
    let b = of_node design p supplies each other t second in
    nodes_apart design p apart a.node b.node s t (λ same. differ (sym a.own ∙ same ∙ b.own)) a.of b.of
