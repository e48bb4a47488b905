-- Ports that are declared one after the other.
use Rattle.std.proofs.Common.{◌≡◌, ◌≢◌, ℕ, zero, suc, ◌+◌, ◌==◌, false, List, [], ◌∷◌, ◌++◌, length, map, flat_map, take, drop, refl, sym, ap, subst, ◌∙◌, arith, append-nil, append_assoc}
use Rattle.std.specs.Prelude.{codes, slice_get, Option, Some, None}
use Rattle.std.specs.List.{AllByRecursion as Each}
use Rattle.std.proofs.lemmas.List.{map-append, take_all}
use Rattle.std.proofs.lemmas.Bool.{eqb-false}
use Rattle.ap_net.specs.declared.cell.Wire.{Wire}
use Rattle.ap_net.specs.declared.net.ModuleNet.{ModuleNet}
use Rattle.ap_net.specs.declared.net.Port.{Port}
use Rattle.ap_net.specs.Draft.{CanFresh, Draft, Extends, blank}
use Rattle.ap_net.specs.Modules.{port_net}
use Rattle.ap_net.specs.Names.{AreDistinct}
use Rattle.ap_net.proofs.Laws.{IsNew-made}
use Rattle.ap_net.proofs.Lists.{All-front, get_end}
use Rattle.ap_ctl.specs.Lists.{EachPair}
use Rattle.ap_desc.specs.declared.design.Design.{Design}
use Rattle.ap_desc.specs.declared.design.Mem.{Mem}
use Rattle.ap_model.specs.declared.storage.WritePort.{WritePort}
use Rattle.ap_net.specs.Outside.{FilePort, Group, group_name, input, mem_name, output}
use Rattle.ap_signals.specs.DesignOutside.{mem_shape}
use Rattle.ap_front.specs.declared.ports.GroupPorts.{GroupPorts}
use Rattle.ap_front.specs.declared.ports.MemPorts.{MemPorts}
use Rattle.ap_front.specs.Ports.{AreGroupPorts, AreMemPorts, ArePortsOf, CanDeclare, CanPort, IsIndex, IsPort, port_name, with_ports}
use Rattle.ap_front.proofs.Named.{net_later}

pub ports_none : (d : Draft) → with_ports d [] ≡ d
ports_none d = ap (λ (l : List ModuleNet). record d { nets = l }) (append-nil d.nets)

pub ports_join : (d : Draft) (ps qs : List Port) → with_ports (with_ports d ps) qs ≡ with_ports d (ps ++ qs)
ports_join d ps qs = ap (λ (l : List ModuleNet). record d { nets = l }) (append_assoc d.nets (map port_net ps) (map port_net qs) ∙ ap (λ l. d.nets ++ l) (sym (map-append port_net ps qs)))

pub ports_extend : (d : Draft) (ps : List Port) → Extends d (with_ports d ps)
ports_extend d ps = record { name = refl; nets = (map port_net ps, refl); assigns = ([], sym (append-nil d.assigns)); nexts = ([], sym (append-nil d.nexts)); instances = ([], sym (append-nil d.instances)) }

pub grown : {d e : Draft} (ps : List Port) → e ≡ with_ports d ps → Extends d e
grown {d} {e} ps is = subst (Extends d) (sym is) (ports_extend d ps)

pub IsPort-Extends : {a b : Draft} {p : Port} {w : Wire} → Extends a b → IsPort a p w → IsPort b p w
IsPort-Extends {a} {b} {p} {w} e h = record { there = net_later a b w.number (port_net p) e h.there; wide = h.wide }

pub port_made : (d e : Draft) (p : Port) (w : Wire) → e ≡ with_ports d (p ∷ []) → w ≡ record { number = length d.nets; width = p.width } → IsPort e p w
port_made d e p w is wire = record {
  there = ap (λ (x : Draft). slice_get x.nets w.number) is ∙ ap (λ (x : Wire). slice_get (d.nets ++ port_net p ∷ []) x.number) wire ∙ get_end d.nets (port_net p);
  wide = ap (λ (x : Wire). x.width) wire;
}

-- What can be declared.

still_can : (d : Draft) (p : Port) (qs : List Port) → Each (λ name. name ≢ p.name) (map port_name qs) → Each (CanPort d) qs → Each (CanPort (with_ports d (p ∷ []))) qs
still_can d p [] apart h = tt
still_can d p (q ∷ qs) apart h = (
  record { named = h.0.named; other = h.0.other; new = IsNew-made d.instances d.nets (port_net p) q.name (λ e. apart.0 (sym e)) h.0.new; low = h.0.low; high = h.0.high },
  still_can d p qs apart.1 h.1,
)

pub can_tail : (d : Draft) (p : Port) (qs : List Port) → CanDeclare (p ∷ qs) d → CanDeclare qs (with_ports d (p ∷ []))
can_tail d p qs h = record { each = still_can d p qs h.apart.0 h.each.1; apart = h.apart.1 }

pub can_after : (d : Draft) (ps qs : List Port) → CanDeclare (ps ++ qs) d → CanDeclare qs (with_ports d ps)
can_after d [] qs h = subst (CanDeclare qs) (sym (ports_none d)) h
can_after d (p ∷ ps) qs h = subst (CanDeclare qs) (ports_join d (p ∷ []) ps) (can_after (with_ports d (p ∷ [])) ps qs (can_tail d p (ps ++ qs) h))

pub can_back : {d e : Draft} (ps qs : List Port) → e ≡ with_ports d ps → CanDeclare (ps ++ qs) d → CanDeclare qs e
can_back {d} {e} ps qs is h = subst (CanDeclare qs) (sym is) (can_after d ps qs h)

distinct_front : (xs ys : List (List ℕ)) → AreDistinct (xs ++ ys) → AreDistinct xs
distinct_front [] ys h = tt
distinct_front (x ∷ xs) ys h = (All-front (λ other. other ≢ x) xs ys h.0, distinct_front xs ys h.1)

pub can_front : (d : Draft) (ps qs : List Port) → CanDeclare (ps ++ qs) d → CanDeclare ps d
can_front d ps qs h = record { each = All-front (CanPort d) ps qs h.each; apart = distinct_front (map port_name ps) (map port_name qs) (subst AreDistinct (map-append port_name ps qs) h.apart) }

-- Lists of ports, a few for each item.

pub record DeclaresTo {X Y : Type 0} (f : X → List Port) (P : Draft → X → Y → Type 0) (xs : List X) (i : ℕ) (a b : Draft) (made : List Y) : Type 0 where
  pub out : b ≡ with_ports a (flat_map f (take i xs))
  pub pairs : EachPair (P b) (take i xs) made
  pub can : CanDeclare (flat_map f (drop i xs)) b
  pub fresh : CanFresh b

pub declares_none : {X Y : Type 0} (f : X → List Port) (P : Draft → X → Y → Type 0) (xs : List X) (a : Draft) → CanDeclare (flat_map f xs) a → CanFresh a → DeclaresTo f P xs 0 a a []
declares_none f P xs a can fresh = record { out = sym (ports_none a); pairs = tt; can = can; fresh = fresh }

cut : {X : Type 0} (xs : List X) (i : ℕ) (x : X) → slice_get xs i ≡ Some x → drop i xs ≡ x ∷ drop (i + 1) xs
cut [] i x at = cc
cut (y ∷ xs) zero x at = let same : y ≡ x = cc in ap (λ z. z ∷ xs) same
cut (y ∷ xs) (suc i) x at = let next : suc (i + 1) ≡ suc i + 1 = omega arith in cut xs i x at ∙ ap (λ n. x ∷ drop n (y ∷ xs)) next

pushed : {X : Type 0} (xs : List X) (i : ℕ) (x : X) → slice_get xs i ≡ Some x → take (i + 1) xs ≡ take i xs ++ x ∷ []
pushed [] i x at = cc
pushed (y ∷ xs) zero x at = let same : y ≡ x = cc in ap (λ z. z ∷ []) same
pushed (y ∷ xs) (suc i) x at = let next : suc (i + 1) ≡ suc i + 1 = omega arith in ap (λ n. take n (y ∷ xs)) (sym next) ∙ ap (λ l. y ∷ l) (pushed xs i x at)

flat_push : {X : Type 0} (f : X → List Port) (xs : List X) (x : X) → flat_map f (xs ++ x ∷ []) ≡ flat_map f xs ++ f x
flat_push f [] x = append-nil (f x)
flat_push f (y ∷ xs) x = ap (λ l. f y ++ l) (flat_push f xs x) ∙ sym (append_assoc (f y) (flat_map f xs) (f x))

pairs_push : {X Y : Type 0} (P : X → Y → Type 0) (xs : List X) (ys : List Y) (x : X) (y : Y) → EachPair P xs ys → P x y → EachPair P (xs ++ x ∷ []) (ys ++ y ∷ [])
pairs_push P [] [] x y h p = (p, tt)
pairs_push P [] (z ∷ ys) x y h p = absurd h
pairs_push P (z ∷ xs) [] x y h p = absurd h
pairs_push P (z ∷ xs) (w ∷ ys) x y h p = (h.0, pairs_push P xs ys x y h.1 p)

pub pairs_weaker : {X Y : Type 0} (P Q : X → Y → Type 0) → ((x : X) (y : Y) → P x y → Q x y) → (xs : List X) (ys : List Y) → EachPair P xs ys → EachPair Q xs ys
pairs_weaker P Q f [] [] h = tt
pairs_weaker P Q f [] (y ∷ ys) h = absurd h
pairs_weaker P Q f (x ∷ xs) [] h = absurd h
pairs_weaker P Q f (x ∷ xs) (y ∷ ys) h = (f x y h.0, pairs_weaker P Q f xs ys h.1)

-- what the next item needs
pub declares_next : {X Y : Type 0} (f : X → List Port) (P : Draft → X → Y → Type 0) (xs : List X) (i : ℕ) (x : X) (a b : Draft) (made : List Y) → slice_get xs i ≡ Some x → DeclaresTo f P xs i a b made → CanDeclare (f x) b
declares_next f P xs i x a b made at h = can_front b (f x) (flat_map f (drop (i + 1) xs)) (subst (λ l. CanDeclare (flat_map f l) b) (cut xs i x at) h.can)

pub declares_more : {X Y : Type 0} (f : X → List Port) (P : Draft → X → Y → Type 0) → ((a b : Draft) (x : X) (y : Y) → Extends a b → P a x y → P b x y) → (xs : List X) (i : ℕ) (x : X) (a b c : Draft) (made : List Y) (y : Y)
    → slice_get xs i ≡ Some x → DeclaresTo f P xs i a b made → c ≡ with_ports b (f x) → P c x y → CanFresh c → DeclaresTo f P xs (i + 1) a c (made ++ y ∷ [])
declares_more f P goes xs i x a b c made y at h is now fresh =
    let more = pushed xs i x at in
    record {
      out = is ∙ ap (λ (d : Draft). with_ports d (f x)) h.out ∙ ports_join a (flat_map f (take i xs)) (f x) ∙ ap (with_ports a) (sym (ap (flat_map f) more ∙ flat_push f (take i xs) x));
      pairs = subst (λ l. EachPair (P c) l (made ++ y ∷ [])) (sym more) (pairs_push (P c) (take i xs) made x y (pairs_weaker (P b) (P c) (λ z w k. goes b c z w (grown (f x) is) k) (take i xs) made h.pairs) now);
      can = can_back (f x) (flat_map f (drop (i + 1) xs)) is (subst (λ l. CanDeclare (flat_map f l) b) (cut xs i x at) h.can);
      fresh = fresh;
    }

-- all of them
pub declares_all_out : {X Y : Type 0} (f : X → List Port) (P : Draft → X → Y → Type 0) (xs : List X) (i : ℕ) (a b : Draft) (made : List Y) → i ≡ length xs → DeclaresTo f P xs i a b made → b ≡ with_ports a (flat_map f xs)
declares_all_out f P xs i a b made e h = h.out ∙ ap (λ l. with_ports a (flat_map f l)) (ap (λ n. take n xs) e ∙ take_all (length xs) xs (omega arith))

pub declares_all_made : {X Y : Type 0} (f : X → List Port) (P : Draft → X → Y → Type 0) (xs : List X) (i : ℕ) (a b : Draft) (made : List Y) → i ≡ length xs → DeclaresTo f P xs i a b made → EachPair (P b) xs made
declares_all_made f P xs i a b made e h = subst (λ l. EachPair (P b) l made) (ap (λ n. take n xs) e ∙ take_all (length xs) xs (omega arith)) h.pairs

-- The ports of a memory and of a group, one by one.

abbrev pub mem_read_at : Mem → Port
mem_read_at m = output (mem_name (mem_shape m) (codes "ra")) m.address

abbrev pub mem_read : Mem → Port
mem_read m = input (mem_name (mem_shape m) (codes "rd")) m.width

abbrev pub mem_write : Mem → Port
mem_write m = output (mem_name (mem_shape m) (codes "we")) 1

abbrev pub mem_where : Mem → Port
mem_where m = output (mem_name (mem_shape m) (codes "wa")) m.address

abbrev pub mem_value : Mem → Port
mem_value m = output (mem_name (mem_shape m) (codes "wd")) m.width

abbrev pub group_enable : Group → Port
group_enable g = output (group_name g (codes "e")) 1

abbrev pub group_value : Group → Port
group_value g = output (group_name g (codes "v")) g.width

pub AreMemPorts-Extends : {a b : Draft} {m : Mem} {p : MemPorts} → Extends a b → AreMemPorts a m p → AreMemPorts b m p
AreMemPorts-Extends e h = record { read_address = IsPort-Extends e h.read_address; read = IsPort-Extends e h.read; enable = IsPort-Extends e h.enable; address = IsPort-Extends e h.address; value = IsPort-Extends e h.value }

index_on : {a b : Draft} (g : Group) (f : Option FilePort) (w : Option Wire) → Extends a b → IsIndex a g f w → IsIndex b g f w
index_on g None None e h = tt
index_on g None (Some w) e h = absurd h
index_on g (Some f) None e h = absurd h
index_on g (Some f) (Some w) e h = IsPort-Extends e h

pub AreGroupPorts-Extends : {a b : Draft} {g : Group} {p : GroupPorts} → Extends a b → AreGroupPorts a g p → AreGroupPorts b g p
AreGroupPorts-Extends {a} {b} {g} {p} e h = record { enable = IsPort-Extends e h.enable; index = index_on g g.port p.index e h.index; value = IsPort-Extends e h.value }

pub ArePortsOf-Extends : {design : Design} {a b : Draft} {port : WritePort} {p : GroupPorts} → Extends a b → ArePortsOf design a port p → ArePortsOf design b port p
ArePortsOf-Extends e h = record { of = h.of; ports = AreGroupPorts-Extends e h.ports }

abbrev pub group_index : Group → ℕ → Port
group_index g bits = output (group_name g (codes "x")) bits

-- nothing but a name leaves all fresh names free
pub blank_fresh : CanFresh (blank (codes "top"))
blank_fresh = record { free = λ k low small. (head_differs 99 110 _ _ refl, (head_differs 114 110 _ _ refl, tt)) }
  where
    head_differs : (a b : ℕ) (xs ys : List ℕ) → (a == b) ≡ false → a ∷ xs ≡ b ∷ ys → ⊥
    head_differs a b xs ys d e = let same : a ≡ b = cc in eqb-false a b d same
