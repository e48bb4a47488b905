-- Which piece of an outside ports begin with.
use Rattle.std.proofs.Common.{◌≡◌, ℕ, zero, suc, ◌+◌, ◌-◌, ◌*◌, ◌<◌, ◌≤◌, Bool, true, false, List, [], ◌∷◌, ◌++◌, length, length-append, get_or, drop, take, Some, refl, sym, ap, ◌∙◌, arith, append_assoc}
use Rattle.std.specs.Prelude.{codes, slice_get, ◌==◌}
use Rattle.std.specs.List.{AllByRecursion as Each}
use Rattle.std.proofs.lemmas.List.{length-drop, take-append-drop, take_all}
use Rattle.std.proofs.lemmas.Option.{slice_get-get_or}
use Rattle.ap_image.specs.declared.shape.MemShape.{MemShape}
use Rattle.ap_net.specs.declared.net.Port.{Port}
use Rattle.ap_net.specs.Outside.{InPort, Group, output, input, input_name, mem_name, input_ports, mem_ports, group_ports}
use Rattle.ap_net.proofs.Lists.{All-join, some_same}
use Rattle.ap_flat.specs.Ports.{BeginsWith, IsInPort}
use Rattle.ap_flat.proofs.Driving.{take_got}
use Rattle.ap_flat.proofs.Betweens.{one_between}
use Rattle.ap_flat.proofs.PortLists.{port_same, group_cons}

-- inputs

inputs_push : (xs : List InPort) (x : InPort) → input_ports (xs ++ x ∷ []) ≡ input_ports xs ++ input (input_name x) x.width ∷ []
inputs_push [] x = refl
inputs_push (y ∷ xs) x = ap (λ l. input (input_name y) y.width ∷ l) (inputs_push xs x)

pub one_input_more : (ports : List Port) (i : ℕ) (port : Port) (xs : List InPort) (x : InPort) → i < length ports → port ≡ get_or ports i port → take i ports ≡ input_ports xs → port ≡ input (input_name x) x.width
    → take (i + 1) ports ≡ input_ports (xs ++ x ∷ [])
one_input_more ports i port xs x lt at so_far is =
    take_got ports i port (slice_get-get_or ports i port lt ∙ ap Some (sym at)) ∙ (λ j. so_far j ++ is j ∷ []) ∙ sym (inputs_push xs x)

pub inputs_split : (ports : List Port) (i : ℕ) (xs : List InPort) → length xs ≡ i → take i ports ≡ input_ports xs → ports ≡ input_ports xs ++ drop (length xs) ports
inputs_split ports i xs long so_far = sym (take-append-drop i ports) ∙ (λ j. so_far j ++ drop (sym long j) ports)

drop_past : {X : Type 0} (xs : List X) (n : ℕ) → length xs ≤ n → drop n xs ≡ []
drop_past [] zero le = refl
drop_past [] (suc n) le = refl
drop_past (x ∷ xs) zero le = absurd (omega arith)
drop_past (x ∷ xs) (suc n) le = drop_past xs n (omega arith)

pub inputs_end : (ports : List Port) (xs : List InPort) → length ports ≤ length xs → (p : InPort) → IsInPort p → BeginsWith (drop (length xs) ports) (input_ports (p ∷ [])) → ⊥
inputs_end ports xs le p is b = let empty : [] ≡ input (input_name p) p.width ∷ b.rest = sym (drop_past ports (length xs) le) ∙ b.split in cc

pub each_push : {X : Type 0} (P : X → Type 0) (xs : List X) (x : X) → Each P xs → P x → Each P (xs ++ x ∷ [])
each_push P xs x each here = All-join P xs (x ∷ []) each (here, tt)

-- the ports of a memory

pub begun_at : (ports piece : List Port) (i : ℕ) (p : Port) → BeginsWith ports piece → slice_get piece i ≡ Some p → slice_get ports i ≡ Some p
begun_at ports piece i p b at = ap (λ l. slice_get l i) b.split ∙ front piece b.rest i at
  where
    front : (xs ys : List Port) (k : ℕ) → slice_get xs k ≡ Some p → slice_get (xs ++ ys) k ≡ Some p
    front [] ys k h = absurd cc
    front (x ∷ xs) ys zero h = h
    front (x ∷ xs) ys (suc k) h = front xs ys k h

pub mems_push : (xs : List MemShape) (x : MemShape) (r : List Port) → mem_ports (xs ++ x ∷ []) ++ r ≡ mem_ports xs ++ (mem_ports (x ∷ []) ++ r)
mems_push [] x r = refl
mems_push (y ∷ xs) x r = ap (λ l. mem_ports (y ∷ []) ++ l) (mems_push xs x r)

-- the ports of a memory whose first two ports are these
pub mem_only : (ports : List Port) (p r q : Port) (name : List ℕ) (m : MemShape) → p ≡ get_or ports 0 p → r ≡ get_or ports 0 r → q ≡ get_or ports 1 q → 5 ≤ length ports → r.name ≡ codes "m_" ++ name ++ codes "_ra"
    → BeginsWith ports (mem_ports (m ∷ [])) → m ≡ record { name = name; address = p.width; width = q.width }
mem_only ports p r q name m p_at r_at q_at long named b =
    let first : slice_get ports 0 ≡ Some (output (mem_name m (codes "ra")) m.address) = begun_at ports (mem_ports (m ∷ [])) 0 (output (mem_name m (codes "ra")) m.address) b refl in
    let second : slice_get ports 1 ≡ Some (input (mem_name m (codes "rd")) m.width) = begun_at ports (mem_ports (m ∷ [])) 1 (input (mem_name m (codes "rd")) m.width) b refl in
    let p_is : p ≡ output (mem_name m (codes "ra")) m.address = some_same (sym (slice_get-get_or ports 0 p (omega arith) ∙ ap Some (sym p_at)) ∙ first) in
    let r_is : r ≡ output (mem_name m (codes "ra")) m.address = some_same (sym (slice_get-get_or ports 0 r (omega arith) ∙ ap Some (sym r_at)) ∙ first) in
    let q_is : q ≡ input (mem_name m (codes "rd")) m.width = some_same (sym (slice_get-get_or ports 1 q (omega arith) ∙ ap Some (sym q_at)) ∙ second) in
    let same : m.name ≡ name = one_between (codes "m_") (codes "_ra") m.name name (sym (append_assoc (codes "m_" ++ m.name) (codes "_") (codes "ra")) ∙ sym (port_same r_is).0 ∙ named) in
    λ i. record { name = same i; address = sym (port_same p_is).1 i; width = sym (port_same q_is).1 i }

-- what is left of a list
pub rest_all : {X : Type 0} (xs : List X) (k : ℕ) → take (length xs - k) (drop k xs) ≡ drop k xs
rest_all xs k = let long : length (drop k xs) ≡ length xs - k = length-drop k xs in take_all (length xs - k) (drop k xs) (omega arith)

drop_none : {X : Type 0} (k : ℕ) → drop {A = X} k [] ≡ []
drop_none zero = refl
drop_none (suc k) = refl

drop_more : {X : Type 0} (xs : List X) (n k : ℕ) → drop k (drop n xs) ≡ drop (n + k) xs
drop_more xs zero k = let first : zero + k ≡ k = omega arith in ap (λ j. drop j xs) (sym first)
drop_more [] (suc n) k = drop_none k ∙ sym (drop_none (suc n + k))
drop_more (x ∷ xs) (suc n) k = let up : suc n + k ≡ suc (n + k) = omega arith in drop_more xs n k ∙ ap (λ j. drop j (x ∷ xs)) (sym up)

-- memories, and what stands after them
pub record AreMemsThen (ports : List Port) (xs : List MemShape) (next : List Port) : Type 0 where
  pub within : 5 * length xs ≤ length ports
  pub split : ports ≡ mem_ports xs ++ next
  pub after : next ≡ drop (5 * length xs) ports

pub one_mem_more : (ports rest : List Port) (xs : List MemShape) (x : MemShape) → 5 * length xs ≤ length ports → ports ≡ mem_ports xs ++ rest → rest ≡ drop (5 * length xs) ports → BeginsWith rest (mem_ports (x ∷ []))
    → AreMemsThen ports (xs ++ x ∷ []) (take (length rest - 5) (drop 5 rest))
one_mem_more ports rest xs x within split after b =
    let tail : drop 5 rest ≡ b.rest = ap (drop 5) b.split in
    let next : take (length rest - 5) (drop 5 rest) ≡ b.rest = rest_all rest 5 ∙ tail in
    let more : length (xs ++ x ∷ []) ≡ length xs + 1 = length-append xs (x ∷ []) in
    let size : length rest ≡ length b.rest + 5 = ap length b.split ∙ (let e : length (mem_ports (x ∷ []) ++ b.rest) ≡ length b.rest + 5 = omega arith in e) in
    let left : length rest ≡ length ports - 5 * length xs = ap length after ∙ length-drop (5 * length xs) ports in
    let place : 5 * length xs + 5 ≡ 5 * length (xs ++ x ∷ []) = omega arith in
    record {
      within = omega arith;
      split = split ∙ ap (λ l. mem_ports xs ++ l) b.split ∙ sym (mems_push xs x b.rest) ∙ ap (λ l. mem_ports (xs ++ x ∷ []) ++ l) (sym next);
      after = rest_all rest 5 ∙ ap (drop 5) after ∙ drop_more ports (5 * length xs) 5 ∙ ap (λ n. drop n ports) place;
    }

-- one group more
drop_front : (xs ys : List Port) → drop (length xs) (xs ++ ys) ≡ ys
drop_front [] ys = refl
drop_front (x ∷ xs) ys = drop_front xs ys

groups_push : (xs : List Group) (x : Group) (r : List Port) → group_ports (xs ++ x ∷ []) ++ r ≡ group_ports xs ++ (group_ports (x ∷ []) ++ r)
groups_push [] x r = refl
groups_push (y ∷ xs) x r = group_cons y (xs ++ x ∷ []) r ∙ ap (λ l. group_ports (y ∷ []) ++ l) (groups_push xs x r) ∙ sym (group_cons y xs (group_ports (x ∷ []) ++ r))

pub one_group_more : (ports rest : List Port) (xs : List Group) (x : Group) (count : ℕ) → ports ≡ group_ports xs ++ rest → BeginsWith rest (group_ports (x ∷ [])) → count ≡ length (group_ports (x ∷ []))
    → ports ≡ group_ports (xs ++ x ∷ []) ++ take (length rest - count) (drop count rest)
one_group_more ports rest xs x count split b long =
    let next : take (length rest - count) (drop count rest) ≡ b.rest = rest_all rest count ∙ ap (λ n. drop n rest) long ∙ ap (drop (length (group_ports (x ∷ [])))) b.split ∙ drop_front (group_ports (x ∷ [])) b.rest in
    split ∙ ap (λ l. group_ports xs ++ l) b.split ∙ sym (groups_push xs x b.rest) ∙ ap (λ l. group_ports (xs ++ x ∷ []) ++ l) (sym next)

pub some_left : (l : List Port) (r : Bool) → r ≡ (length l == 0) → r ≡ false → l ≡ [] → ⊥
some_left [] r is more e = let both : true ≡ false = sym is ∙ more in cc
some_left (x ∷ l) r is more e = cc
