-- The ports of a top by their numbers.
use Rattle.std.proofs.Common.{◌≡◌, ◌≢◌, ℕ, zero, suc, ◌+◌, ◌*◌, ◌<◌, ◌≤◌, List, [], ◌∷◌, ◌++◌, length, map, Option, Some, None, inl, inr, refl, sym, ap, subst, ◌∙◌, arith}
use Rattle.std.specs.Prelude.{codes, slice_get, unwrap_or}
use Rattle.std.specs.List.{AllByRecursion as Each}
use Rattle.std.proofs.lemmas.List.{length-map}
use Rattle.ap_image.specs.declared.shape.MemShape.{MemShape}
use Rattle.ap_net.specs.declared.net.ModuleNet.{ModuleNet}
use Rattle.ap_net.specs.declared.net.Port.{Port}
use Rattle.ap_net.specs.Answering.{first_mem_port, mem_looks, port_looks}
use Rattle.ap_net.specs.Draft.{Draft, Extends, IsKept}
use Rattle.ap_net.specs.Modules.{port_net}
use Rattle.ap_net.specs.Names.{AreDistinct}
use Rattle.ap_net.specs.Outside.{InPort, Outside, group_ports, input, input_ports, mem_name, mem_ports, output, ports_of}
use Rattle.ap_net.specs.Pending.{Among}
use Rattle.ap_net.proofs.Growing.{stays}
use Rattle.ap_net.proofs.Lists.{All-at, get_left, get_right, some_same}
use Rattle.ap_runs.specs.FirstPorts.{looks_of}
use Rattle.ap_steps.specs.PortNumbers.{HasPort, KnownAreSeen, MemoriesAreLookedAt, PortsAreNumbered}
use Rattle.ap_steps.proofs.Built.{inputs_long, outside_looks_for_ports}

-- Names stand once.

abbrev names : List ModuleNet → List (List ℕ)
names nets = map (λ (net : ModuleNet). net.name) nets

name_at : (nets : List ModuleNet) (k : ℕ) (net : ModuleNet) → slice_get nets k ≡ Some net → slice_get (names nets) k ≡ Some net.name
name_at [] k net at = cc
name_at (x ∷ nets) zero net at = ap (λ (y : ModuleNet). Some y.name) (some_same at)
name_at (x ∷ nets) (suc k) net at = name_at nets k net at

one_place : (xs : List (List ℕ)) → AreDistinct xs → (i j : ℕ) (x : List ℕ) → slice_get xs i ≡ Some x → slice_get xs j ≡ Some x → i ≡ j
one_place [] d i j x p q = cc
one_place (y ∷ xs) d zero zero x p q = refl
one_place (y ∷ xs) d zero (suc j) x p q = absurd (All-at (λ (z : List ℕ). z ≢ y) xs j x d.0 q (sym (some_same p)))
one_place (y ∷ xs) d (suc i) zero x p q = absurd (All-at (λ (z : List ℕ). z ≢ y) xs i x d.0 p (sym (some_same q)))
one_place (y ∷ xs) d (suc i) (suc j) x p q = ap suc (one_place xs d.1 i j x p q)

port_there : (ports : List Port) (k : ℕ) (p : Port) → slice_get ports k ≡ Some p → slice_get (map port_net ports) k ≡ Some (port_net p)
port_there [] k p at = cc
port_there (x ∷ ports) zero p at = ap (λ (y : Port). Some (port_net y)) (some_same at)
port_there (x ∷ ports) (suc k) p at = port_there ports k p at

numbered : (ports : List Port) (first d : Draft) → IsKept d → first.nets ≡ map port_net ports → Extends first d → (k n : ℕ) (p : Port) (net : ModuleNet) → slice_get ports k ≡ Some p → slice_get d.nets n ≡ Some net → net.name ≡ p.name → n ≡ k
numbered ports first d kept begins e k n p net at there same =
    let here : slice_get d.nets k ≡ Some (port_net p) = stays first.nets d.nets e.nets k (port_net p) (ap (λ (l : List ModuleNet). slice_get l k) begins ∙ port_there ports k p at) in
    let distinct : AreDistinct (names d.nets) = ((kept.wired).distinct).1.1 in
    one_place (names d.nets) distinct n k p.name (name_at d.nets n net there ∙ ap (λ (name : List ℕ). Some name) same) (name_at d.nets k (port_net p) here)

port_at : (ports : List Port) (k : ℕ) → k < length ports → (p : Port) × (slice_get ports k ≡ Some p)
port_at [] k low = absurd (omega (arith, low))
port_at (p ∷ ports) zero low = (p, refl)
port_at (p ∷ ports) (suc k) low = port_at ports k (omega (arith, low))

all_known : (ports : List Port) (first d : Draft) (known : List ℕ) → IsKept d → first.nets ≡ map port_net ports → Extends first d → Each (HasPort d.nets known) ports → (k : ℕ) → k < length first.nets → Among known k
all_known ports first d known kept begins e each k low =
    let long : length first.nets ≡ length ports = ap (λ (l : List ModuleNet). length l) begins ∙ length-map ports port_net in
    let (p, at) = port_at ports k (omega (arith, low, long)) in
    let has : HasPort d.nets known p = All-at (HasPort d.nets known) ports k p each at in
    subst (Among known) (numbered ports first d kept begins e k has.number p (port_net p) at has.there refl) has.among

pub ports_are_numbered : PortsAreNumbered
ports_are_numbered = record { number = numbered; all = all_known }

-- Memories.

five_more : (k : ℕ) → 5 * suc k ≡ suc (suc (suc (suc (suc (5 * k)))))
five_more k = omega arith

at_look : (n : ℕ) (mems : List MemShape) (k : ℕ) (m : MemShape) → slice_get mems k ≡ Some m → slice_get (mem_looks n mems) (5 * k + 1) ≡ Some ((n + 5 * k) ∷ [])
at_look n [] k m at = cc
at_look n (x ∷ mems) zero m at = let same : n ≡ n + 5 * 0 = omega arith in ap (λ (h : ℕ). Some (h ∷ [])) same
at_look n (x ∷ mems) (suc k) m at =
    let place : 5 * suc k + 1 ≡ suc (suc (suc (suc (suc (5 * k + 1))))) = omega arith in
    let number : n + 5 + 5 * k ≡ n + 5 * suc k = omega arith in
    ap (slice_get (mem_looks n (x ∷ mems))) place ∙ at_look (n + 5) mems k m at ∙ ap (λ (h : ℕ). Some (h ∷ [])) number

at_port : (mems : List MemShape) (k : ℕ) (m : MemShape) → slice_get mems k ≡ Some m → slice_get (mem_ports mems) (5 * k) ≡ Some (output (mem_name m (codes "ra")) m.address)
at_port [] k m at = cc
at_port (x ∷ mems) zero m at = ap (λ (y : MemShape). Some (output (mem_name y (codes "ra")) y.address)) (some_same at)
at_port (x ∷ mems) (suc k) m at = ap (slice_get (mem_ports (x ∷ mems))) (five_more k) ∙ at_port mems k m at

value_port : (mems : List MemShape) (k : ℕ) (m : MemShape) → slice_get mems k ≡ Some m → slice_get (mem_ports mems) (5 * k + 1) ≡ Some (input (mem_name m (codes "rd")) m.width)
value_port [] k m at = cc
value_port (x ∷ mems) zero m at = ap (λ (y : MemShape). Some (input (mem_name y (codes "rd")) y.width)) (some_same at)
value_port (x ∷ mems) (suc k) m at =
    let place : 5 * suc k + 1 ≡ suc (suc (suc (suc (suc (5 * k + 1))))) = omega arith in
    ap (slice_get (mem_ports (x ∷ mems))) place ∙ value_port mems k m at

abbrev fronts : Outside → List Port
fronts o = output (codes "iaddr") o.address ∷ input (codes "idata") o.word ∷ input (codes "mwait") 1 ∷ input_ports o.inputs

abbrev backs : Outside → List Port
backs o = output (codes "stall") 1 ∷ output (codes "kill") 1 ∷ group_ports o.groups

in_ports : (o : Outside) (k : ℕ) (p : Port) → slice_get (mem_ports o.mems) k ≡ Some p → slice_get (ports_of o) (first_mem_port o + k) ≡ Some p
in_ports o k p at =
    let inputs = inputs_long o.inputs in
    let place : first_mem_port o + k ≡ length (fronts o) + k = omega (arith, inputs) in
    ap (slice_get (ports_of o)) place ∙ get_left (fronts o ++ mem_ports o.mems) (backs o) (length (fronts o) + k) p (get_right (fronts o) (mem_ports o.mems) k ∙ at)

abbrev nothing : List ℕ
nothing = []

abbrev first_looks : Outside → List (List ℕ)
first_looks o = [] ∷ (0 ∷ []) ∷ [] ∷ map (λ (p : InPort). []) o.inputs

in_looks : (o : Outside) (k : ℕ) (list : List ℕ) → slice_get (mem_looks (first_mem_port o) o.mems) k ≡ Some list → looks_of o (first_mem_port o + k) ≡ list
in_looks o k list at =
    let inputs = length-map o.inputs (λ (p : InPort). nothing) in
    let place : first_mem_port o + k ≡ length (first_looks o) + k = omega (arith, inputs) in
    ap (λ (h : ℕ). unwrap_or (slice_get (port_looks o) h) []) place
    ∙ ap (λ (x : Option (List ℕ)). unwrap_or x []) (get_right (first_looks o) (mem_looks (first_mem_port o) o.mems) k ∙ at)

pub memories_are_looked_at : MemoriesAreLookedAt
memories_are_looked_at o k m at =
    let place : first_mem_port o + 5 * k + 1 ≡ first_mem_port o + (5 * k + 1) = omega arith in
    record {
      at = in_ports o (5 * k) (output (mem_name m (codes "ra")) m.address) (at_port o.mems k m at);
      value = ap (slice_get (ports_of o)) place ∙ in_ports o (5 * k + 1) (input (mem_name m (codes "rd")) m.width) (value_port o.mems k m at);
      looks = ap (looks_of o) place ∙ in_looks o (5 * k + 1) ((first_mem_port o + 5 * k) ∷ []) (at_look (first_mem_port o) o.mems k m at);
    }

-- Where the outside looks.

past : {X : Type 0} (xs : List X) (n : ℕ) → length xs ≤ n → slice_get xs n ≡ None
past [] n high = refl
past (x ∷ xs) zero high = absurd (omega (arith, high))
past (x ∷ xs) (suc n) high = past xs n (omega (arith, high))

looks_past : (o : Outside) (n : ℕ) → length (ports_of o) ≤ n → looks_of o n ≡ []
looks_past o n high = let few = outside_looks_for_ports o in ap (λ (x : Option (List ℕ)). unwrap_or x []) (past (port_looks o) n (omega (arith, few, high)))

pub known_are_seen : KnownAreSeen
known_are_seen = record {
  ports = λ o registers by other d same agrees n net low at is. record {
    net = net;
    there = at;
    source = is;
    looks = agrees.looks n (inl low) ∙ ap (λ (f : ℕ → List ℕ). f n) same;
  };
  registers = λ o registers by other d same agrees n net high among at is. record {
    net = net;
    there = at;
    source = is;
    looks = agrees.looks n (inr among) ∙ ap (λ (f : ℕ → List ℕ). f n) same ∙ looks_past o n high;
  };
}
