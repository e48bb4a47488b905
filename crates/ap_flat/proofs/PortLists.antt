-- The ports of an outside are read back from their list: there is one way to do it.
use Rattle.std.proofs.Common.{◌≡◌, ℕ, ◌<◌, ◌^◌, ◌&&◌, true, false, List, [], ◌∷◌, ◌++◌, get_or, Option, Some, None, refl, sym, ap, ◌∙◌, arith, append_assoc, append-nil}
use Rattle.std.specs.Prelude.{codes}
use Rattle.std.specs.Char.{is_ascii_alphanumeric}
use Rattle.std.specs.List.{AllByRecursion as Each, list_all}
use Rattle.std.specs.Fmt.{decimal}
use Rattle.std.proofs.lemmas.Bool.{and_parts, both_ways}
use Rattle.std.proofs.lemmas.List.{append_cancel_left, append_cancel_right}
use Rattle.ap_bits.specs.Names.{IsName, starts_with_letter}
use Rattle.ap_image.specs.declared.shape.MemShape.{MemShape}
use Rattle.ap_text.specs.Numbers.{number_value}
use Rattle.ap_text.proofs.Written.{number_value-decimal}
use Rattle.ap_net.specs.declared.net.Port.{Port}
use Rattle.ap_net.specs.Outside.{InPort, FilePort, Group, output, input, input_name, mem_name, group_name, input_ports, mem_ports, index_port, group_ports}
use Rattle.ap_net.proofs.Lists.{some_same}
use Rattle.ap_flat.proofs.Betweens.{one_between}
use Rattle.ap_flat.specs.Ports.{BeginsWith, HasNoUnderscore, IsFilePort, IsGroup, IsInPort, IsMem}

-- a name has no underscore

all_no : (bs : List ℕ) → list_all is_ascii_alphanumeric bs ≡ true → HasNoUnderscore bs
all_no [] h = tt
all_no (b ∷ bs) h =
    let parts = and_parts (is_ascii_alphanumeric b) (list_all is_ascii_alphanumeric bs) h in
    ((λ e. both_ways (is_ascii_alphanumeric b) (ap is_ascii_alphanumeric e) parts.0), all_no bs parts.1)

pub name_no_underscore : (name : List ℕ) → IsName name → HasNoUnderscore name
name_no_underscore name h =
    let parts = and_parts (starts_with_letter name && list_all is_ascii_alphanumeric name) _ h in
    all_no name (and_parts (starts_with_letter name) (list_all is_ascii_alphanumeric name) parts.0).1

-- the first underscore parts a text one way
pub one_cut : (a b c d : List ℕ) → HasNoUnderscore a → HasNoUnderscore c → a ++ 95 ∷ b ≡ c ++ 95 ∷ d → (a ≡ c) × (b ≡ d)
one_cut [] b [] d na nc e = (refl, cc)
one_cut [] b (y ∷ c) d na nc e = absurd (nc.0 (let h : 95 ≡ y = cc in sym h))
one_cut (x ∷ a) b [] d na nc e = absurd (na.0 (let h : x ≡ 95 = cc in h))
one_cut (x ∷ a) b (y ∷ c) d na nc e =
    let head : x ≡ y = cc in
    let tail : a ++ 95 ∷ b ≡ c ++ 95 ∷ d = cc in
    let rest = one_cut a b c d na.1 nc.1 tail in
    ((λ i. head i ∷ rest.0 i), rest.1)

pub no_cut : (a c d : List ℕ) → HasNoUnderscore a → a ≡ c ++ 95 ∷ d → ⊥
no_cut [] [] d na e = cc
no_cut [] (y ∷ c) d na e = cc
no_cut (x ∷ a) [] d na e = na.0 (let h : x ≡ 95 = cc in h)
no_cut (x ∷ a) (y ∷ c) d na e = no_cut a c d na.1 (let t : a ≡ c ++ 95 ∷ d = cc in t)

pub one_number : (n m : ℕ) → n < 2 ^ 64 → m < 2 ^ 64 → decimal n ≡ decimal m → n ≡ m
one_number n m ln lm e = some_same (sym (number_value-decimal n ln) ∙ ap number_value e ∙ number_value-decimal m lm)

-- ports

pub port_same : {p q : Port} → p ≡ q → (p.name ≡ q.name) × (p.width ≡ q.width)
port_same e = (ap (λ (x : Port). x.name) e, ap (λ (x : Port). x.width) e)

one_input : (x y : InPort) → input (input_name x) x.width ≡ input (input_name y) y.width → x ≡ y
one_input x y e =
    let same = port_same e in
    let name : x.name ≡ y.name = append_cancel_left (codes "p_") x.name y.name same.0 in
    λ i. record { name = name i; width = same.1 i }

abbrev pub InputsEnd : List Port → Type 0
InputsEnd ports = (p : InPort) → IsInPort p → BeginsWith ports (input_ports (p ∷ [])) → ⊥

pub same_inputs : (xs ys : List InPort) (r s : List Port) → Each IsInPort xs → Each IsInPort ys → InputsEnd r → InputsEnd s → input_ports xs ++ r ≡ input_ports ys ++ s → (xs ≡ ys) × (r ≡ s)
same_inputs [] [] r s hx hy er es e = (refl, e)
same_inputs [] (y ∷ ys) r s hx hy er es e = absurd (er y hy.0 (record { rest = input_ports ys ++ s; split = e }))
same_inputs (x ∷ xs) [] r s hx hy er es e = absurd (es x hx.0 (record { rest = input_ports xs ++ r; split = sym e }))
same_inputs (x ∷ xs) (y ∷ ys) r s hx hy er es e =
    let head : input (input_name x) x.width ≡ input (input_name y) y.width = cc in
    let tail : input_ports xs ++ r ≡ input_ports ys ++ s = cc in
    let rest = same_inputs xs ys r s hx.1 hy.1 er es tail in
    ((λ i. one_input x y head i ∷ rest.0 i), rest.1)

one_mem : (x y : MemShape) (r s : List Port) → mem_ports (x ∷ []) ++ r ≡ mem_ports (y ∷ []) ++ s → (x ≡ y) × (r ≡ s)
one_mem x y r s e =
    let ra : output (mem_name x (codes "ra")) x.address ≡ output (mem_name y (codes "ra")) y.address = cc in
    let rd : input (mem_name x (codes "rd")) x.width ≡ input (mem_name y (codes "rd")) y.width = cc in
    let rest : r ≡ s = cc in
    let first = port_same ra in
    let second = port_same rd in
    let left : codes "m_" ++ x.name ++ codes "_" ≡ codes "m_" ++ y.name ++ codes "_" = append_cancel_right (codes "m_" ++ x.name ++ codes "_") (codes "m_" ++ y.name ++ codes "_") (codes "ra") first.0 in
    let name : x.name ≡ y.name = one_between (codes "m_") (codes "_") x.name y.name left in
    ((λ i. record { name = name i; address = first.1 i; width = second.1 i }), rest)

abbrev pub MemsEnd : List Port → Type 0
MemsEnd ports = (m : MemShape) → IsMem m → BeginsWith ports (mem_ports (m ∷ [])) → ⊥

pub same_mems : (xs ys : List MemShape) (r s : List Port) → Each IsMem xs → Each IsMem ys → MemsEnd r → MemsEnd s → mem_ports xs ++ r ≡ mem_ports ys ++ s → (xs ≡ ys) × (r ≡ s)
same_mems [] [] r s hx hy er es e = (refl, e)
same_mems [] (y ∷ ys) r s hx hy er es e = absurd (er y hy.0 (record { rest = mem_ports ys ++ s; split = e }))
same_mems (x ∷ xs) [] r s hx hy er es e = absurd (es x hx.0 (record { rest = mem_ports xs ++ r; split = sym e }))
same_mems (x ∷ xs) (y ∷ ys) r s hx hy er es e =
    let first = one_mem x y (mem_ports xs ++ r) (mem_ports ys ++ s) e in
    let rest = same_mems xs ys r s hx.1 hy.1 er es first.1 in
    ((λ i. first.0 i ∷ rest.0 i), rest.1)

two_bytes : (a : ℕ) → a ≡ 115 → a ≡ 109 → ⊥
two_bytes a one other = absurd (omega arith)

-- what stands after the inputs is no input, and what stands after the memories no port of one
pub tail_no_mem : (w : ℕ) (rest : List Port) → MemsEnd (output (codes "stall") w ∷ rest)
tail_no_mem w rest m is b =
    let same : output (codes "stall") w ≡ output (mem_name m (codes "ra")) m.address = (let s = b.split in cc) in
    let name : codes "stall" ≡ mem_name m (codes "ra") = (port_same same).0 in
    two_bytes (get_or (codes "stall") 0 0) refl (ap (λ (l : List ℕ). get_or l 0 0) name)

pub mems_no_input : (ms : List MemShape) (w : ℕ) (rest : List Port) → InputsEnd (mem_ports ms ++ output (codes "stall") w ∷ rest)
mems_no_input [] w rest p is b =
    let same : output (codes "stall") w ≡ input (input_name p) p.width = (let s = b.split in cc) in
    let way : true ≡ false = ap (λ (x : Port). x.output) same in
    absurd cc
mems_no_input (m ∷ ms) w rest p is b =
    let same : output (mem_name m (codes "ra")) m.address ≡ input (input_name p) p.width = (let s = b.split in cc) in
    let way : true ≡ false = ap (λ (x : Port). x.output) same in
    absurd cc

-- groups

enable_same : (x y : List ℕ) → codes "w_" ++ x ++ codes "_" ++ codes "e" ≡ codes "w_" ++ y ++ codes "_" ++ codes "e" → x ≡ y
enable_same x y e = one_between (codes "w_") (codes "_") x y (append_cancel_right (codes "w_" ++ x ++ codes "_") (codes "w_" ++ y ++ codes "_") (codes "e") e)

file_text : (name : List ℕ) (n : ℕ) → name ++ codes "_" ++ decimal n ≡ name ++ 95 ∷ decimal n
file_text name n = append_assoc name (codes "_") (decimal n)

abbrev group : List ℕ → Option FilePort → ℕ → Group
group storage port width = record { storage = storage; port = port; width = width }

group_by : (sx : List ℕ) (a : Option FilePort) (wx : ℕ) (sy : List ℕ) (b : Option FilePort) (wy : ℕ) (r s : List Port) → IsName sx → IsName sy → IsFilePort a → IsFilePort b
    → group_ports (group sx a wx ∷ []) ++ r ≡ group_ports (group sy b wy ∷ []) ++ s → (group sx a wx ≡ group sy b wy) × (r ≡ s)
group_by sx None wx sy None wy r s nx ny ha hb e =
    let first : output (group_name (group sx None wx) (codes "e")) 1 ≡ output (group_name (group sy None wy) (codes "e")) 1 = cc in
    let second : output (group_name (group sx None wx) (codes "v")) wx ≡ output (group_name (group sy None wy) (codes "v")) wy = cc in
    let rest : r ≡ s = cc in
    let name : sx ≡ sy = enable_same sx sy (port_same first).0 in
    ((λ i. group (name i) None ((port_same second).1 i)), rest)
group_by sx None wx sy (Some q) wy r s nx ny ha hb e =
    let first : output (group_name (group sx None wx) (codes "e")) 1 ≡ output (group_name (group sy (Some q) wy) (codes "e")) 1 = cc in
    let text : sx ≡ sy ++ codes "_" ++ decimal q.number = enable_same sx (sy ++ codes "_" ++ decimal q.number) (port_same first).0 in
    absurd (no_cut sx sy (decimal q.number) (name_no_underscore sx nx) (text ∙ file_text sy q.number))
group_by sx (Some p) wx sy None wy r s nx ny ha hb e =
    let first : output (group_name (group sx (Some p) wx) (codes "e")) 1 ≡ output (group_name (group sy None wy) (codes "e")) 1 = cc in
    let text : sx ++ codes "_" ++ decimal p.number ≡ sy = enable_same (sx ++ codes "_" ++ decimal p.number) sy (port_same first).0 in
    absurd (no_cut sy sx (decimal p.number) (name_no_underscore sy ny) (sym text ∙ file_text sx p.number))
group_by sx (Some p) wx sy (Some q) wy r s nx ny ha hb e =
    let first : output (group_name (group sx (Some p) wx) (codes "e")) 1 ≡ output (group_name (group sy (Some q) wy) (codes "e")) 1 = cc in
    let second : output (group_name (group sx (Some p) wx) (codes "x")) p.index ≡ output (group_name (group sy (Some q) wy) (codes "x")) q.index = cc in
    let third : output (group_name (group sx (Some p) wx) (codes "v")) wx ≡ output (group_name (group sy (Some q) wy) (codes "v")) wy = cc in
    let rest : r ≡ s = cc in
    let text : sx ++ codes "_" ++ decimal p.number ≡ sy ++ codes "_" ++ decimal q.number = enable_same (sx ++ codes "_" ++ decimal p.number) (sy ++ codes "_" ++ decimal q.number) (port_same first).0 in
    let parts = one_cut sx (decimal p.number) sy (decimal q.number) (name_no_underscore sx nx) (name_no_underscore sy ny) (sym (file_text sx p.number) ∙ text ∙ file_text sy q.number) in
    let number : p.number ≡ q.number = one_number p.number q.number ha hb parts.1 in
    let index : p.index ≡ q.index = (port_same second).1 in
    ((λ i. group (parts.0 i) (Some (record { number = number i; index = index i })) ((port_same third).1 i)), rest)

pub one_group : (x y : Group) (r s : List Port) → IsGroup x → IsGroup y → group_ports (x ∷ []) ++ r ≡ group_ports (y ∷ []) ++ s → (x ≡ y) × (r ≡ s)
one_group x y r s hx hy e = group_by x.storage x.port x.width y.storage y.port y.width r s hx.named hy.named hx.port hy.port e

pub group_cons : (g : Group) (gs : List Group) (r : List Port) → group_ports (g ∷ gs) ++ r ≡ group_ports (g ∷ []) ++ (group_ports gs ++ r)
group_cons g gs r =
    let front : List Port = output (group_name g (codes "e")) 1 ∷ index_port g g.port in
    let value : Port = output (group_name g (codes "v")) g.width in
    append_assoc front (value ∷ group_ports gs) r ∙ sym (append_assoc front (value ∷ []) (group_ports gs ++ r))

abbrev pub GroupsEnd : List Port → Type 0
GroupsEnd ports = (g : Group) → IsGroup g → BeginsWith ports (group_ports (g ∷ [])) → ⊥

-- ports that begin with no group's, after those of groups, are none where all are those of groups
pub no_more_groups : (xs ys : List Group) (r : List Port) → Each IsGroup xs → Each IsGroup ys → GroupsEnd r → group_ports xs ++ r ≡ group_ports ys → r ≡ []
no_more_groups [] [] r hx hy ends e = e
no_more_groups [] (y ∷ ys) r hx hy ends e = absurd (ends y hy.0 (record { rest = group_ports ys ++ []; split = e ∙ sym (append-nil (group_ports (y ∷ ys))) ∙ group_cons y ys [] }))
no_more_groups (x ∷ xs) [] r hx hy ends e = absurd cc
no_more_groups (x ∷ xs) (y ∷ ys) r hx hy ends e =
    let both : group_ports (x ∷ []) ++ (group_ports xs ++ r) ≡ group_ports (y ∷ []) ++ (group_ports ys ++ []) =
    sym (group_cons x xs r) ∙ e ∙ sym (append-nil (group_ports (y ∷ ys))) ∙ group_cons y ys [] in
    let first = one_group x y (group_ports xs ++ r) (group_ports ys ++ []) hx.0 hy.0 both in
    no_more_groups xs ys r hx.1 hy.1 ends (first.1 ∙ append-nil (group_ports ys))
