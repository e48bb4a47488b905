-- The names of top's ports.
use Rattle.std.proofs.Common.{◌≡◌, ◌≢◌, ℕ, zero, suc, lit≤, ◌+◌, ◌*◌, ◌<◌, ◌≤◌, ◌==◌, ◌&&◌, Bool, true, false, List, [], ◌∷◌, ◌++◌, length, map, flat_map, drop, Option, Some, None, refl, sym, ap, subst, ◌∙◌, arith, append_assoc, append-nil, length-append}
use Rattle.std.specs.Prelude.{codes, nat_le, not, slice_get, unwrap_or}
use Rattle.std.specs.Char.{is_ascii_alphanumeric}
use Rattle.std.specs.Fmt.{decimal}
use Rattle.std.specs.List.{AllByRecursion as Each, list_all}
use Rattle.std.proofs.lemmas.Bool.{and_parts, eqb-false, leb-true, not-true}
use Rattle.std.proofs.lemmas.Fmt.{decimal_digit, decimal_injective}
use Rattle.std.proofs.lemmas.List.{map-append}
use Rattle.std.proofs.lemmas.List.Folds.{list_all-append}
use Rattle.ap_bits.specs.Names.{IsName}
use Rattle.ap_desc.specs.Clean.{IsClean}
use Rattle.ap_desc.specs.Designs.{is_mem_within, is_reg_within, is_width}
use Rattle.ap_desc.specs.Parts.{file_names, input_names, mem_names, reg_names}
use Rattle.ap_desc.specs.declared.design.Design.{Design}
use Rattle.ap_desc.specs.declared.design.File.{File}
use Rattle.ap_desc.specs.declared.design.InPort.{InPort as Input}
use Rattle.ap_desc.specs.declared.design.Mem.{Mem}
use Rattle.ap_desc.specs.declared.design.Reg.{Reg}
use Rattle.ap_model.specs.declared.storage.WritePort.{WritePort}
use Rattle.ap_model.specs.declared.storage.WritePort.TheVariants as port
use Rattle.ap_model.specs.Ports.{write_groups}
use Rattle.ap_net.specs.declared.net.Port.{Port}
use Rattle.ap_net.specs.Draft.{Draft, blank}
use Rattle.ap_net.specs.Names.{IsNetName, is_name_byte}
use Rattle.ap_net.specs.Outside.{FilePort, Group, group_name, index_port, input, mem_name, output, port_name as storage_name}
use Rattle.ap_net.proofs.Lists.{All-from, All-join}
use Rattle.ap_flight.proofs.Within.{address_fits, word_fits}
use Rattle.ap_signals.specs.DesignOutside.{file_group, group_of, mem_shape, reg_group}
use Rattle.ap_store.proofs.FileShapes.{shape_of}
use Rattle.ap_front.specs.PortNames.{PortsAreNew}
use Rattle.ap_front.specs.Ports.{CanDeclare, CanPort, group_ports_of, input_of, mem_of, port_name, ports_of_group, top_ports}
use Rattle.ap_front.proofs.Apart.{Once, distinct_once, each_flat, each_map, once_flat, once_join, once_map, same_place}
use Rattle.ap_front.proofs.Flying.{there}
use Rattle.ap_front.proofs.Grouping.{all_at, cell_group, file_within, register_group}
use Rattle.ap_front.proofs.GroupsOnce.{IsThere, groups_once, groups_there}
use Rattle.ap_front.proofs.PartNames.{has_no_bar, head_differs, name_bytes, named_parts, once_parts, plain, port_names, same_end, same_front, same_stem, same_tail, short, told_apart}
use Rattle.ap_front.proofs.PortChain.{from_mems, groups_of, iaddr_port, idata_port, inputs_of, kill_port, mems_of, mwait_port, stall_port}

abbrev top : Draft
top = blank (codes "top")

-- A port of such a name and width.

-- the name begins with one of these letters and no c, n or r
can_port : (p : Port) (a : ℕ) (rest : List ℕ) → p.name ≡ a ∷ rest → (99 == a) ≡ false → (114 == a) ≡ false → (110 == a) ≡ false → IsNetName p.name → 1 ≤ p.width → p.width ≤ 64 → CanPort top p
can_port p a rest is c r n named low high = record {
  named = named;
  other = λ k small e. head_differs 110 a _ _ n (sym e ∙ is);
  new = ((λ e. head_differs 99 a _ _ c (e ∙ is)), ((λ e. head_differs 114 a _ _ r (e ∙ is)), tt));
  low = low;
  high = high;
}

record HasWidth (w : ℕ) : Type 0 where
  low : 1 ≤ w
  high : w ≤ 64

width_of : (w : ℕ) → is_width w ≡ true → HasWidth w
width_of w h = let two = and_parts (nat_le 1 w) (nat_le w 64) h in record { low = leb-true 1 w two.0; high = leb-true w 64 two.1 }

-- Inputs.

inputs_can : (list : List Input) → Each IsName (map (λ (i : Input). i.name) list) → list_all (λ (i : Input). is_width i.width) list ≡ true → Each (CanPort top) (flat_map input_of list)
inputs_can [] named wide = tt
inputs_can (i ∷ list) named wide =
    let two = and_parts (is_width i.width) (list_all (λ (i : Input). is_width i.width) list) wide in
    let w = width_of i.width two.0 in
    let few = short i.name named.0 in
    let name : IsNetName (112 ∷ 95 ∷ i.name) = (port_names i.name (name_bytes i.name (plain i.name named.0)) (omega arith)).0 in
    (can_port (input (codes "p_" ++ i.name) i.width) 112 (95 ∷ i.name) refl refl refl refl name w.low w.high, inputs_can list named.1 two.1)

inputs_named : (list : List Input) → map port_name (flat_map input_of list) ≡ map (λ (n : List ℕ). 112 ∷ 95 ∷ n) (map (λ (i : Input). i.name) list)
inputs_named [] = refl
inputs_named (i ∷ list) = ap (λ l. (112 ∷ 95 ∷ i.name) ∷ l) (inputs_named list)

-- Memories.

abbrev mem_names_of : List ℕ → List (List ℕ)
mem_names_of n = (codes "m_" ++ n ++ codes "_" ++ codes "ra") ∷ (codes "m_" ++ n ++ codes "_" ++ codes "rd") ∷ (codes "m_" ++ n ++ codes "_" ++ codes "we") ∷ (codes "m_" ++ n ++ codes "_" ++ codes "wa") ∷ (codes "m_" ++ n ++ codes "_" ++ codes "wd") ∷ []

mems_named : (list : List Mem) → map port_name (flat_map mem_of list) ≡ flat_map mem_names_of (map (λ (m : Mem). m.name) list)
mems_named [] = refl
mems_named (m ∷ list) = ap (λ l. mem_names_of m.name ++ l) (mems_named list)

mem_name_is : (n w : List ℕ) → IsName n → list_all is_name_byte w ≡ true → length w ≤ 2 → IsNetName (109 ∷ 95 ∷ ((n ++ 95 ∷ []) ++ w))
mem_name_is n w named bytes few =
    let l0 = short n named in
    let l1 = length-append n (95 ∷ []) in
    let l2 = length-append (n ++ 95 ∷ []) w in
    let all : list_all is_name_byte ((n ++ 95 ∷ []) ++ w) ≡ true = list_all-append is_name_byte (n ++ 95 ∷ []) w ∙ rw (list_all-append is_name_byte n (95 ∷ []), name_bytes n (plain n named), bytes) refl in
    (port_names ((n ++ 95 ∷ []) ++ w) all (omega arith)).1.0

mems_can : (list : List Mem) → Each IsName (map (λ (m : Mem). m.name) list) → list_all is_mem_within list ≡ true → Each (CanPort top) (flat_map mem_of list)
mems_can [] named wide = tt
mems_can (m ∷ list) named wide =
    let both = and_parts (is_mem_within m) (list_all is_mem_within list) wide in
    let two = and_parts (nat_le 1 m.address && nat_le m.address 16) (is_width m.width) both.0 in
    let three = and_parts (nat_le 1 m.address) (nat_le m.address 16) two.0 in
    let low = leb-true 1 m.address three.0 in
    let few = leb-true m.address 16 three.1 in
    let high : m.address ≤ 64 = omega arith in
    let w = width_of m.width two.1 in
    let n = m.name in (
      can_port (output (mem_name (mem_shape m) (codes "ra")) m.address) 109 _ refl refl refl refl (mem_name_is n (codes "ra") named.0 refl (lit≤ tt)) low high,
      (
        can_port (input (mem_name (mem_shape m) (codes "rd")) m.width) 109 _ refl refl refl refl (mem_name_is n (codes "rd") named.0 refl (lit≤ tt)) w.low w.high,
        (
          can_port (output (mem_name (mem_shape m) (codes "we")) 1) 109 _ refl refl refl refl (mem_name_is n (codes "we") named.0 refl (lit≤ tt)) (lit≤ tt) (lit≤ tt),
          (
            can_port (output (mem_name (mem_shape m) (codes "wa")) m.address) 109 _ refl refl refl refl (mem_name_is n (codes "wa") named.0 refl (lit≤ tt)) low high,
            (can_port (output (mem_name (mem_shape m) (codes "wd")) m.width) 109 _ refl refl refl refl (mem_name_is n (codes "wd") named.0 refl (lit≤ tt)) w.low w.high, mems_can list named.1 both.1),
          ),
        ),
      ),
    )

-- the name of a memory's port
abbrev OfMem : List ℕ → List ℕ → Type 0
OfMem n y = IsName n × ((w : List ℕ) × (y ≡ 109 ∷ 95 ∷ ((n ++ 95 ∷ []) ++ w)))

one_mem : (n m y : List ℕ) → OfMem n y → OfMem m y → n ≡ m
one_mem n m y h k = same_stem n m h.1.0 k.1.0 h.0 k.0 (ap (drop 2) (sym h.1.1 ∙ k.1.1))

mem_differs : (n v w : List ℕ) → IsName n → (v ≡ w → ⊥) → 109 ∷ 95 ∷ ((n ++ 95 ∷ []) ++ v) ≡ 109 ∷ 95 ∷ ((n ++ 95 ∷ []) ++ w) → ⊥
mem_differs n v w named ne e = ne (same_tail n n v w named named (ap (drop 2) e))

mem_once : (n : List ℕ) → IsName n → Once (mem_names_of n)
mem_once n h =
    let d : (v w : List ℕ) → (v ≡ w → ⊥) → 109 ∷ 95 ∷ ((n ++ 95 ∷ []) ++ v) ≡ 109 ∷ 95 ∷ ((n ++ 95 ∷ []) ++ w) → ⊥ = λ v w ne e. mem_differs n v w h ne e in (
      (d _ _ (told_apart (codes "rd") (codes "ra") refl), (d _ _ (told_apart (codes "we") (codes "ra") refl), (d _ _ (told_apart (codes "wa") (codes "ra") refl), (d _ _ (told_apart (codes "wd") (codes "ra") refl), tt)))),
      (
        (d _ _ (told_apart (codes "we") (codes "rd") refl), (d _ _ (told_apart (codes "wa") (codes "rd") refl), (d _ _ (told_apart (codes "wd") (codes "rd") refl), tt))),
        (
          (d _ _ (told_apart (codes "wa") (codes "we") refl), (d _ _ (told_apart (codes "wd") (codes "we") refl), tt)),
          ((d _ _ (told_apart (codes "wd") (codes "wa") refl), tt), (tt, tt)),
        ),
      ),
    )

mems_once : (names : List (List ℕ)) → Each IsName names → Once names → Once (flat_map mem_names_of names)
mems_once names named once = once_flat OfMem one_mem mem_names_of names once (of names named) (own names named)
  where
    of : (ns : List (List ℕ)) → Each IsName ns → Each (λ n. Each (OfMem n) (mem_names_of n)) ns
    of [] h = tt
    of (n ∷ ns) h = (((h.0, (codes "ra", refl)), ((h.0, (codes "rd", refl)), ((h.0, (codes "we", refl)), ((h.0, (codes "wa", refl)), ((h.0, (codes "wd", refl)), tt))))), of ns h.1)

    own : (ns : List (List ℕ)) → Each IsName ns → Each (λ n. Once (mem_names_of n)) ns
    own [] h = tt
    own (n ∷ ns) h = (mem_once n h.0, own ns h.1)

-- Groups.

abbrev stored_name : Design → WritePort → List ℕ
stored_name design p = storage_name (group_of design p).storage (group_of design p).port

abbrev names_of_group : Group → List (List ℕ)
names_of_group g = map port_name (ports_of_group g)

-- the name of a group's port
abbrev OfGroup : Design → WritePort → List ℕ → Type 0
OfGroup design p y = IsThere design p × ((c : ℕ) × (y ≡ 119 ∷ 95 ∷ ((stored_name design p ++ 95 ∷ []) ++ c ∷ [])))

no_reg : Reg
no_reg = record { name = []; width = 0; reset = 0 }

no_file : File
no_file = record { name = []; width = 0; cells = 0; reads = 0; writes = 0 }

reg_at : (design : Design) (reg : ℕ) → reg < length design.regs → (r : Reg) × (slice_get design.regs reg ≡ Some r)
reg_at design reg lt = (unwrap_or (slice_get design.regs reg) no_reg, there design.regs reg no_reg lt)

file_at : (design : Design) (file : ℕ) → file < length design.files → (f : File) × (slice_get design.files file ≡ Some f)
file_at design file lt = (unwrap_or (slice_get design.files file) no_file, there design.files file no_file lt)

mapped : {X Y : Type 0} (f : X → Y) (xs : List X) (i : ℕ) (x : X) → slice_get xs i ≡ Some x → slice_get (map f xs) i ≡ Some (f x)
mapped f [] i x at = cc
mapped f (y ∷ xs) zero x at = let same : y ≡ x = cc in ap (λ z. Some (f z)) same
mapped f (y ∷ xs) (suc i) x at = mapped f xs i x at

each_get : {X : Type 0} (P : X → Type 0) (xs : List X) (i : ℕ) (x : X) → Each P xs → slice_get xs i ≡ Some x → P x
each_get P [] i x h at = cc
each_get P (y ∷ xs) zero x h at = let same : y ≡ x = cc in subst P same h.0
each_get P (y ∷ xs) (suc i) x h at = each_get P xs i x h.1 at

reg_name_at : (design : Design) (reg : ℕ) (r : Reg) → slice_get design.regs reg ≡ Some r → slice_get (reg_names design) reg ≡ Some r.name
reg_name_at design reg r at = mapped (λ (x : Reg). x.name) design.regs reg r at

file_name_at : (design : Design) (file : ℕ) (f : File) → slice_get design.files file ≡ Some f → slice_get (file_names design) file ≡ Some f.name
file_name_at design file f at = mapped (λ (x : File). x.name) design.files file f at

reg_named : (design : Design) (reg : ℕ) (r : Reg) → IsClean design → slice_get design.regs reg ≡ Some r → IsName r.name
reg_named design reg r clean at = each_get IsName (reg_names design) reg r.name (named_parts design clean).regs (reg_name_at design reg r at)

file_named : (design : Design) (file : ℕ) (f : File) → IsClean design → slice_get design.files file ≡ Some f → IsName f.name
file_named design file f clean at = each_get IsName (file_names design) file f.name (named_parts design clean).files (file_name_at design file f at)

reg_stored : (design : Design) (reg : ℕ) (r : Reg) → slice_get design.regs reg ≡ Some r → stored_name design (port.Register reg) ≡ r.name
reg_stored design reg r at = ap (λ (g : Group). storage_name g.storage g.port) (register_group design reg r at)

cell_stored : (design : Design) (file number : ℕ) (f : File) → slice_get design.files file ≡ Some f → stored_name design (port.Cell file number) ≡ (f.name ++ 95 ∷ []) ++ decimal number
cell_stored design file number f at = ap (λ (g : Group). storage_name g.storage g.port) (cell_group design file number f at)

same_stored : (design : Design) → IsClean design → (p q : WritePort) → IsThere design p → IsThere design q → stored_name design p ≡ stored_name design q → p ≡ q
same_stored design clean (port.Register a) (port.Register b) h k e =
    let r = reg_at design a h in
    let s = reg_at design b k in
    let same : (r.0).name ≡ (s.0).name = sym (reg_stored design a r.0 r.1) ∙ e ∙ reg_stored design b s.0 s.1 in
    ap port.Register (same_place (reg_names design) a b (s.0).name (once_parts design clean).regs (reg_name_at design a r.0 r.1 ∙ ap Some same) (reg_name_at design b s.0 s.1))
same_stored design clean (port.Register a) (port.Cell file number) h k e =
    let r = reg_at design a h in
    let f = file_at design file k.0 in
    let same : (r.0).name ≡ (f.0).name ++ 95 ∷ decimal number = sym (reg_stored design a r.0 r.1) ∙ e ∙ cell_stored design file number f.0 f.1 ∙ append_assoc (f.0).name (95 ∷ []) (decimal number) in
    absurd (has_no_bar (f.0).name (decimal number) (subst (λ l. list_all is_ascii_alphanumeric l ≡ true) same (plain (r.0).name (reg_named design a r.0 clean r.1))))
same_stored design clean (port.Cell file number) (port.Register a) h k e =
    let r = reg_at design a k in
    let f = file_at design file h.0 in
    let same : (r.0).name ≡ (f.0).name ++ 95 ∷ decimal number = sym (reg_stored design a r.0 r.1) ∙ sym e ∙ cell_stored design file number f.0 f.1 ∙ append_assoc (f.0).name (95 ∷ []) (decimal number) in
    absurd (has_no_bar (f.0).name (decimal number) (subst (λ l. list_all is_ascii_alphanumeric l ≡ true) same (plain (r.0).name (reg_named design a r.0 clean r.1))))
same_stored design clean (port.Cell file number) (port.Cell other j) h k e =
    let f = file_at design file h.0 in
    let g = file_at design other k.0 in
    let nf = file_named design file f.0 clean f.1 in
    let ng = file_named design other g.0 clean g.1 in
    let same : ((f.0).name ++ 95 ∷ []) ++ decimal number ≡ ((g.0).name ++ 95 ∷ []) ++ decimal j = sym (cell_stored design file number f.0 f.1) ∙ e ∙ cell_stored design other j g.0 g.1 in
    let name : (f.0).name ≡ (g.0).name = same_stem (f.0).name (g.0).name (decimal number) (decimal j) nf ng same in
    let low : number < 2 = h.1 in
    let less : j < 2 = k.1 in
    let count : number ≡ j = decimal_injective number j (omega arith) (omega arith) (same_tail (f.0).name (g.0).name (decimal number) (decimal j) nf ng same) in
    let place : file ≡ other = same_place (file_names design) file other (g.0).name (once_parts design clean).files (file_name_at design file f.0 f.1 ∙ ap Some name) (file_name_at design other g.0 g.1) in
    ap (λ n. port.Cell n number) place ∙ ap (port.Cell other) count
same_stored design clean (port.Memory m) q h k e = absurd h
same_stored design clean (port.Register a) (port.Memory m) h k e = absurd k
same_stored design clean (port.Cell file number) (port.Memory m) h k e = absurd k

one_group : (design : Design) → IsClean design → (p q : WritePort) (y : List ℕ) → OfGroup design p y → OfGroup design q y → p ≡ q
one_group design clean p q y h k = same_stored design clean p q h.0 k.0 (same_front (stored_name design p) (stored_name design q) h.1.0 k.1.0 (ap (drop 2) (sym h.1.1 ∙ k.1.1)))

-- the names of one group

last_differs : (s : List ℕ) (a b : ℕ) → (a == b) ≡ false → 119 ∷ 95 ∷ ((s ++ 95 ∷ []) ++ a ∷ []) ≡ 119 ∷ 95 ∷ ((s ++ 95 ∷ []) ++ b ∷ []) → ⊥
last_differs s a b d e = head_differs a b [] [] d (same_end (s ++ 95 ∷ []) (a ∷ []) (b ∷ []) (ap (drop 2) e))

abbrev named_by : Group → Option FilePort → List (List ℕ)
named_by g o = map port_name ((output (group_name g (codes "e")) 1 ∷ index_port g o) ++ output (group_name g (codes "v")) g.width ∷ [])

group_once : (g : Group) (o : Option FilePort) → Once (named_by g o)
group_once g None = (((λ e. last_differs (storage_name g.storage g.port) 118 101 refl e), tt), (tt, tt))
group_once g (Some f) = (
  ((λ e. last_differs (storage_name g.storage g.port) 120 101 refl e), ((λ e. last_differs (storage_name g.storage g.port) 118 101 refl e), tt)),
  (((λ e. last_differs (storage_name g.storage g.port) 118 120 refl e), tt), (tt, tt)),
)

group_named : (g : Group) (o : Option FilePort) → Each (λ y. (c : ℕ) × (y ≡ 119 ∷ 95 ∷ ((storage_name g.storage g.port ++ 95 ∷ []) ++ c ∷ []))) (named_by g o)
group_named g None = ((101, refl), ((118, refl), tt))
group_named g (Some f) = ((101, refl), ((120, refl), ((118, refl), tt)))

abbrev groups_named : Design → List WritePort → List (List ℕ)
groups_named design ps = flat_map (λ p. map port_name (group_ports_of design p)) ps

names_once : (design : Design) → IsClean design → (ps : List WritePort) → Once ps → Each (IsThere design) ps → Once (groups_named design ps)
names_once design clean ps once theirs = once_flat (OfGroup design) (one_group design clean) (λ p. map port_name (group_ports_of design p)) ps once (of ps theirs) (own ps)
  where
    of : (qs : List WritePort) → Each (IsThere design) qs → Each (λ p. Each (OfGroup design p) (map port_name (group_ports_of design p))) qs
    of [] h = tt
    of (p ∷ qs) h = (All-from (λ y. (c : ℕ) × (y ≡ 119 ∷ 95 ∷ ((stored_name design p ++ 95 ∷ []) ++ c ∷ []))) (OfGroup design p) (λ y k. (h.0, k)) (map port_name (group_ports_of design p)) (group_named (group_of design p) (group_of design p).port), of qs h.1)

    own : (qs : List WritePort) → Each (λ p. Once (map port_name (group_ports_of design p))) qs
    own [] = tt
    own (p ∷ qs) = (group_once (group_of design p) (group_of design p).port, own qs)

groups_mapped : (design : Design) (ps : List WritePort) → map port_name (flat_map (group_ports_of design) ps) ≡ groups_named design ps
groups_mapped design [] = refl
groups_mapped design (p ∷ ps) = map-append port_name (group_ports_of design p) (flat_map (group_ports_of design) ps) ∙ ap (λ l. map port_name (group_ports_of design p) ++ l) (groups_mapped design ps)

-- they can be declared
shown_is : (s : List ℕ) (c : ℕ) → list_all is_name_byte s ≡ true → length s ≤ 60 → is_name_byte c ≡ true → IsNetName (119 ∷ 95 ∷ ((s ++ 95 ∷ []) ++ c ∷ []))
shown_is s c bytes few last =
    let l1 = length-append s (95 ∷ []) in
    let l2 = length-append (s ++ 95 ∷ []) (c ∷ []) in
    let all : list_all is_name_byte ((s ++ 95 ∷ []) ++ c ∷ []) ≡ true = list_all-append is_name_byte (s ++ 95 ∷ []) (c ∷ []) ∙ rw (list_all-append is_name_byte s (95 ∷ []), bytes, last) refl in
    (port_names ((s ++ 95 ∷ []) ++ c ∷ []) all (omega arith)).1.1

index_width_fits : Option FilePort → Type 0
index_width_fits None = Unit {0}
index_width_fits (Some f) = HasWidth f.index

group_can : (g : Group) (o : Option FilePort) → list_all is_name_byte (storage_name g.storage g.port) ≡ true → length (storage_name g.storage g.port) ≤ 60 → HasWidth g.width → index_width_fits o
    → Each (CanPort top) ((output (group_name g (codes "e")) 1 ∷ index_port g o) ++ output (group_name g (codes "v")) g.width ∷ [])
unfolding index_width_fits
group_can g None bytes few w k =
    let s = storage_name g.storage g.port in (
      can_port (output (group_name g (codes "e")) 1) 119 _ refl refl refl refl (shown_is s 101 bytes few refl) (lit≤ tt) (lit≤ tt),
      (can_port (output (group_name g (codes "v")) g.width) 119 _ refl refl refl refl (shown_is s 118 bytes few refl) w.low w.high, tt),
    )
group_can g (Some f) bytes few w k =
    let s = storage_name g.storage g.port in (
      can_port (output (group_name g (codes "e")) 1) 119 _ refl refl refl refl (shown_is s 101 bytes few refl) (lit≤ tt) (lit≤ tt),
      (
        can_port (output (group_name g (codes "x")) f.index) 119 _ refl refl refl refl (shown_is s 120 bytes few refl) k.low k.high,
        (can_port (output (group_name g (codes "v")) g.width) 119 _ refl refl refl refl (shown_is s 118 bytes few refl) w.low w.high, tt),
      ),
    )

digit_bytes : (n : ℕ) → n < 2 → (list_all is_name_byte (decimal n) ≡ true) × (length (decimal n) ≡ 1)
digit_bytes n lt = let e : decimal n ≡ (48 + n) ∷ [] = decimal_digit n (omega arith) in (ap (list_all is_name_byte) e ∙ one n lt, ap length e)
  where
    one : (k : ℕ) → k < 2 → list_all is_name_byte ((48 + k) ∷ []) ≡ true
    one zero lt = refl
    one (suc zero) lt = refl
    one (suc (suc k)) lt = absurd (omega arith)

port_can : (design : Design) → IsClean design → (p : WritePort) → IsThere design p → Each (CanPort top) (group_ports_of design p)
unfolding index_width_fits
port_can design clean (port.Register reg) h =
    let r = reg_at design reg h in
    let named = reg_named design reg r.0 clean r.1 in
    let few = short (r.0).name named in
    let wide = width_of (r.0).width (and_parts (is_width (r.0).width) _ (all_at is_reg_within design.regs reg r.0 (and_parts (nat_le (length design.regs) 64) (list_all is_reg_within design.regs) clean.sound.within.regs).1 r.1)).0 in
    subst (λ (g : Group). Each (CanPort top) (ports_of_group g)) (sym (register_group design reg r.0 r.1)) (group_can (reg_group r.0) None (name_bytes (r.0).name (plain (r.0).name named)) (omega arith) wide tt)
port_can design clean (port.Cell file number) h =
    let f = file_at design file h.0 in
    let named = file_named design file f.0 clean f.1 in
    let few = short (f.0).name named in
    let shape = shape_of f.0 (file_within design file f.0 clean f.1) in
    let digits = digit_bytes number h.1 in
    let l1 = length-append ((f.0).name ++ 95 ∷ []) (decimal number) in
    let l2 = length-append (f.0).name (95 ∷ []) in
    let l3 : length (decimal number) ≡ 1 = digits.1 in
    let bytes : list_all is_name_byte (((f.0).name ++ 95 ∷ []) ++ decimal number) ≡ true = list_all-append is_name_byte ((f.0).name ++ 95 ∷ []) (decimal number)
    ∙ rw (list_all-append is_name_byte (f.0).name (95 ∷ []), name_bytes (f.0).name (plain (f.0).name named), digits.0) refl in
    let bits = shape.few_bits in
    subst (λ (g : Group). Each (CanPort top) (ports_of_group g)) (sym (cell_group design file number f.0 f.1))
    (group_can (file_group number f.0) (file_group number f.0).port bytes (omega arith) (record { low = shape.low; high = shape.high }) (record { low = shape.some_bits; high = omega arith }))
port_can design clean (port.Memory mem) h = absurd h

groups_can : (design : Design) → IsClean design → (ps : List WritePort) → Each (IsThere design) ps → Each (CanPort top) (flat_map (group_ports_of design) ps)
groups_can design clean [] h = tt
groups_can design clean (p ∷ ps) h = All-join (CanPort top) (group_ports_of design p) (flat_map (group_ports_of design) ps) (port_can design clean p h.0) (groups_can design clean ps h.1)

-- Names by their first two bytes.

abbrev pub head : List ℕ → ℕ
head (a ∷ b ∷ rest) = a * 256 + b
head _ = 0

abbrev distinct_numbers : List ℕ → Bool
distinct_numbers [] = true
distinct_numbers (n ∷ ns) = list_all (λ m. not (m == n)) ns && distinct_numbers ns

once_numbers : (ns : List ℕ) → distinct_numbers ns ≡ true → Once ns
once_numbers [] h = tt
once_numbers (n ∷ ns) h = let two = and_parts (list_all (λ m. not (m == n)) ns) (distinct_numbers ns) h in (others ns two.0, once_numbers ns two.1)
  where
    others : (ms : List ℕ) → list_all (λ m. not (m == n)) ms ≡ true → Each (λ m. m ≢ n) ms
    others [] k = tt
    others (m ∷ ms) k = let both = and_parts (not (m == n)) (list_all (λ m. not (m == n)) ms) k in (eqb-false m n (not-true (m == n) both.0), others ms both.1)

pub record Section : Type 0 where
  pub key : ℕ
  pub names : List (List ℕ)

abbrev pub key_of : Section → ℕ
key_of s = s.key

abbrev pub names_in : Section → List (List ℕ)
names_in s = s.names

pub record IsSection (s : Section) : Type 0 where
  pub heads : Each (λ y. head y ≡ s.key) s.names
  pub once : Once s.names

once_sections : (ss : List Section) → Once (map key_of ss) → Each IsSection ss → Once (flat_map names_in ss)
once_sections [] h each = tt
once_sections (s ∷ ss) h each = once_join s.names (flat_map names_in ss) (apart s.names each.0.heads) each.0.once (once_sections ss h.1 each.1)
  where
    other : (y : List ℕ) → head y ≡ s.key → (ts : List Section) → Each (λ k. k ≢ s.key) (map key_of ts) → Each IsSection ts → Each (λ z. z ≢ y) (flat_map names_in ts)
    other y e [] ne m = tt
    other y e (t ∷ ts) ne m = All-join (λ z. z ≢ y) t.names (flat_map names_in ts) (All-from (λ z. head z ≡ t.key) (λ z. z ≢ y) (λ z q same. ne.0 (sym q ∙ ap head same ∙ e)) t.names m.0.heads) (other y e ts ne.1 m.1)

    apart : (ys : List (List ℕ)) → Each (λ y. head y ≡ s.key) ys → Each (λ y. Each (λ z. z ≢ y) (flat_map names_in ss)) ys
    apart [] k = tt
    apart (y ∷ ys) k = (other y k.0 ss h.0 each.1, apart ys k.1)

-- All ports.

module _ (design : Design) (clean : IsClean design) where
  abbrev input_names_of : List (List ℕ)
  input_names_of = map (λ (n : List ℕ). 112 ∷ 95 ∷ n) (input_names design)

  abbrev mem_names_all : List (List ℕ)
  mem_names_all = flat_map mem_names_of (mem_names design)

  abbrev group_names_all : List (List ℕ)
  group_names_all = groups_named design (write_groups design)

  abbrev pub sections : List Section
  sections = record { key = head (codes "iaddr"); names = codes "iaddr" ∷ [] } ∷ record { key = head (codes "idata"); names = codes "idata" ∷ [] } ∷ record { key = head (codes "mwait"); names = codes "mwait" ∷ [] }
      ∷ record { key = head (codes "p_"); names = input_names_of } ∷ record { key = head (codes "m_"); names = mem_names_all } ∷ record { key = head (codes "stall"); names = codes "stall" ∷ [] }
      ∷ record { key = head (codes "kill"); names = codes "kill" ∷ [] } ∷ record { key = head (codes "w_"); names = group_names_all } ∷ []

  one_name : (name : List ℕ) → IsSection (record { key = head name; names = name ∷ [] })
  one_name name = record { heads = (refl, tt); once = (tt, tt) }

  inputs_section : IsSection (record { key = head (codes "p_"); names = input_names_of })
  inputs_section = record { heads = each_map (λ y. head y ≡ head (codes "p_")) (λ (n : List ℕ). 112 ∷ 95 ∷ n) (input_names design) (any (input_names design)); once = once_map (λ (n : List ℕ). 112 ∷ 95 ∷ n) (λ x z e. ap (drop 2) e) (input_names design) (once_parts design clean).inputs }
    where
      any : (ns : List (List ℕ)) → Each (λ n. head (112 ∷ 95 ∷ n) ≡ head (codes "p_")) ns
      any [] = tt
      any (n ∷ ns) = (refl, any ns)

  mems_section : IsSection (record { key = head (codes "m_"); names = mem_names_all })
  mems_section = record { heads = each_flat (λ y. head y ≡ head (codes "m_")) mem_names_of (mem_names design) (any (mem_names design)); once = mems_once (mem_names design) (named_parts design clean).mems (once_parts design clean).mems }
    where
      any : (ns : List (List ℕ)) → Each (λ n. Each (λ y. head y ≡ head (codes "m_")) (mem_names_of n)) ns
      any [] = tt
      any (n ∷ ns) = ((refl, (refl, (refl, (refl, (refl, tt))))), any ns)

  groups_section : IsSection (record { key = head (codes "w_"); names = group_names_all })
  groups_section = record { heads = each_flat (λ y. head y ≡ head (codes "w_")) (λ p. map port_name (group_ports_of design p)) (write_groups design) (any (write_groups design)); once = names_once design clean (write_groups design) (groups_once design clean) (groups_there design clean) }
    where
      any : (ps : List WritePort) → Each (λ p. Each (λ y. head y ≡ head (codes "w_")) (map port_name (group_ports_of design p))) ps
      any [] = tt
      any (p ∷ ps) = (All-from (λ y. (c : ℕ) × (y ≡ 119 ∷ 95 ∷ ((stored_name design p ++ 95 ∷ []) ++ c ∷ []))) (λ y. head y ≡ head (codes "w_")) (λ y k. ap head k.1) (map port_name (group_ports_of design p)) (group_named (group_of design p) (group_of design p).port), any ps)

  pub all_sections : Each IsSection sections
  all_sections = (one_name (codes "iaddr"), (one_name (codes "idata"), (one_name (codes "mwait"), (inputs_section, (mems_section, (one_name (codes "stall"), (one_name (codes "kill"), (groups_section, tt))))))))

  all_once_names : Once (flat_map names_in sections)
  all_once_names = once_sections sections (once_numbers (map key_of sections) refl) all_sections

  pub names_are : map port_name (top_ports design) ≡ flat_map names_in sections
  names_are =
      let first : List (List ℕ) = codes "iaddr" ∷ codes "idata" ∷ codes "mwait" ∷ [] in
      let rest : List Port = stall_port ∷ kill_port ∷ groups_of design in
      ap (λ l. first ++ l) (map-append port_name (inputs_of design) (mems_of design ++ rest) ∙ ap (λ l. l ++ map port_name (mems_of design ++ rest)) (inputs_named design.inputs)
      ∙ ap (λ l. input_names_of ++ l) (map-append port_name (mems_of design) rest ∙ ap (λ l. l ++ map port_name rest) (mems_named design.mems)
      ∙ ap (λ l. mem_names_all ++ (codes "stall" ∷ codes "kill" ∷ l)) (groups_mapped design (write_groups design) ∙ sym (append-nil group_names_all))))

  each_can : Each (CanPort top) (top_ports design)
  each_can =
      let a = address_fits design clean in
      let w = word_fits design clean in
      let inputs = and_parts (nat_le (length design.inputs) 8) (list_all (λ (i : Input). is_width i.width) design.inputs) clean.sound.within.inputs in
      let mems = and_parts (nat_le (length design.mems) 4) (list_all is_mem_within design.mems) clean.sound.within.mems in (
        can_port (iaddr_port design) 105 _ refl refl refl refl refl a.low a.high,
        (
          can_port (idata_port design) 105 _ refl refl refl refl refl w.low w.high,
          (
            can_port mwait_port 109 _ refl refl refl refl refl (lit≤ tt) (lit≤ tt),
            All-join (CanPort top) (inputs_of design) (from_mems design) (inputs_can design.inputs (named_parts design clean).inputs inputs.1)
                (All-join (CanPort top) (mems_of design) (stall_port ∷ kill_port ∷ groups_of design) (mems_can design.mems (named_parts design clean).mems mems.1) (
                  can_port stall_port 115 _ refl refl refl refl refl (lit≤ tt) (lit≤ tt),
                  (can_port kill_port 107 _ refl refl refl refl refl (lit≤ tt) (lit≤ tt), groups_can design clean (write_groups design) (groups_there design clean)),
                )),
          ),
        ),
      )

  can_all : CanDeclare (top_ports design) top
  can_all = record { each = each_can; apart = distinct_once (map port_name (top_ports design)) (subst Once (sym names_are) all_once_names) }

pub ports_are_new : PortsAreNew
ports_are_new design clean = can_all design clean

-- in a builder that has nothing but its name
pub can_in : (design : Design) (d : Draft) → IsClean design → d ≡ blank (codes "top") → CanDeclare (top_ports design) d
can_in design d clean empty = subst (CanDeclare (top_ports design)) (sym empty) (can_all design clean)
