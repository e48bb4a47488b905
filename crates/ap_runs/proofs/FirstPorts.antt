-- The ports that come first keep their numbers.
use Rattle.std.proofs.Common.{◌≡◌, ℕ, zero, suc, ◌+◌, ◌*◌, ◌<◌, ◌≤◌, Bool, true, false, List, [], ◌∷◌, ◌++◌, length, map, take, Option, Some, None, inl, inr, refl, sym, ap, subst, ◌∙◌, arith, nat_lt}
use Rattle.std.specs.Prelude.{if◌then◌else◌, count_by, slice_get, unwrap_or}
use Rattle.std.specs.List.{AllByRecursion as Each}
use Rattle.std.proofs.lemmas.Bool.{lt-ltb}
use Rattle.std.proofs.lemmas.List.{length-map}
use Rattle.std.proofs.lemmas.Option.{slice_get_within}
use Rattle.ap_image.specs.declared.shape.MemShape.{MemShape}
use Rattle.ap_net.specs.declared.net.ModuleNet.{ModuleNet}
use Rattle.ap_net.specs.declared.net.Role.{Role}
use Rattle.ap_net.specs.declared.net.Role.TheVariants as role
use Rattle.ap_net.specs.Answering.{first_mem_port, mem_looks, port_looks}
use Rattle.ap_net.specs.Draft.{Draft}
use Rattle.ap_net.specs.Finished.{IsFinished}
use Rattle.ap_net.specs.Modules.{ModuleText, nets_of}
use Rattle.ap_net.specs.Outside.{InPort, Outside}
use Rattle.ap_net.specs.Pending.{Among}
use Rattle.ap_net.specs.Places.{has_port_role, is_port, number_by, place_by}
use Rattle.ap_net.specs.Responding.{looked_in}
use Rattle.ap_net.proofs.Lists.{some_same}
use Rattle.ap_net.proofs.Numbering.{count_cons}
use Rattle.ap_runs.specs.FirstPorts.{BeginsWithPorts, FirstPortsStay, PortsAreLookedAt, looks_of}

-- all of the first so many pass
count_first : {X : Type 0} (p : X → Bool) (xs : List X) (n : ℕ) → ((i : ℕ) → i < n → (x : X) × (slice_get xs i ≡ Some x) × (p x ≡ true)) → count_by p (take n xs) ≡ n
count_first p xs zero h = refl
count_first p [] (suc n) h = let none = h 0 (omega arith) in let wrong = none.1 in cc
count_first p (x ∷ xs) (suc n) h =
    let here = h 0 (omega arith) in
    let passes : p x ≡ true = ap p (some_same here.1) ∙ here.2 in
    let rest = count_first p xs n (λ i low. h (suc i) (omega (arith, low))) in
    let more : 1 + count_by p (take n xs) ≡ suc n = omega (arith, rest) in
    count_cons p x (take n xs) ∙ ap (λ (b : Bool). (if b then 1 else 0) + count_by p (take n xs)) passes ∙ more

port_number : (r : Role) → has_port_role r ≡ true → (p w g : ℕ) → number_by r p w g ≡ p
port_number role.Input e p w g = refl
port_number role.Output e p w g = refl
port_number role.Plain e p w g = cc
port_number (role.Register reset) e p w g = cc

pub first_ports_stay : FirstPortsStay
first_ports_stay d m fin count ports n low =
    let here = ports n low in
    let inside : n < length d.nets = slice_get_within d.nets n here.0 here.1 in
    let place : fin.place n ≡ n = fin.numbers n here.0 here.1 ∙ port_number (here.0).role here.2 _ _ _ ∙ count_first is_port d.nets n (λ i below. ports i (omega (arith, low, below))) in
    (place, ap fin.back (sym place) ∙ fin.returns n inside)

-- At which ports an outside looks.

mem_long : (n : ℕ) (ms : List MemShape) → length (mem_looks n ms) ≡ 5 * length ms
mem_long n [] = refl
mem_long n (m ∷ ms) = let rest = mem_long (n + 5) ms in omega (arith, rest)

abbrev AreBelow : ℕ → List ℕ → Type 0
AreBelow count ports = Each (λ (p : ℕ). p < count) ports

mem_below : (count n : ℕ) (ms : List MemShape) → n + 5 * length ms ≤ count → Each (AreBelow count) (mem_looks n ms)
mem_below count n [] h = tt
mem_below count n (m ∷ ms) h = (tt, ((omega (arith, h), tt), (tt, (tt, (tt, mem_below count (n + 5) ms (omega (arith, h)))))))

nothing_below : (count : ℕ) (inputs : List InPort) → Each (AreBelow count) (map (λ (p : InPort). []) inputs)
nothing_below count [] = tt
nothing_below count (p ∷ inputs) = (tt, nothing_below count inputs)

joined : {X : Type 0} (P : X → Type 0) (xs ys : List X) → Each P xs → Each P ys → Each P (xs ++ ys)
joined P [] ys h g = g
joined P (x ∷ xs) ys h g = (h.0, joined P xs ys h.1 g)

append_long : {X : Type 0} (xs ys : List X) → length (xs ++ ys) ≡ length xs + length ys
append_long [] ys = omega arith
append_long (x ∷ xs) ys = let rest = append_long xs ys in omega (arith, rest)

abbrev nothing : List ℕ
nothing = []

looks_long : (o : Outside) → length (port_looks o) ≡ 3 + length o.inputs + 5 * length o.mems
looks_long o =
    let first = append_long ([] ∷ (0 ∷ []) ∷ [] ∷ map (λ (p : InPort). []) o.inputs) (mem_looks (first_mem_port o) o.mems) in
    let inputs = length-map o.inputs (λ (p : InPort). nothing) in
    let mems = mem_long (first_mem_port o) o.mems in
    omega (arith, first, inputs, mems)

looks_below : (o : Outside) → Each (AreBelow (length (port_looks o))) (port_looks o)
looks_below o =
    let long = looks_long o in
    joined (AreBelow (length (port_looks o))) ([] ∷ (0 ∷ []) ∷ [] ∷ map (λ (p : InPort). []) o.inputs) (mem_looks (first_mem_port o) o.mems)
    (tt, ((omega (arith, long), tt), (tt, nothing_below (length (port_looks o)) o.inputs)))
    (mem_below (length (port_looks o)) (first_mem_port o) o.mems (omega (arith, long)))

each_at : {X : Type 0} (P : X → Type 0) (xs : List X) (k : ℕ) (x : X) → Each P xs → slice_get xs k ≡ Some x → P x
each_at P [] k x h at = cc
each_at P (y ∷ xs) zero x h at = subst P (some_same at) h.0
each_at P (y ∷ xs) (suc k) x h at = each_at P xs k x h.1 at

all_among : (xs ys : List ℕ) → ((n : ℕ) → Among ys n → Among xs n) → Each (Among xs) ys
all_among xs [] h = tt
all_among xs (y ∷ ys) h = (h y (inl refl), all_among xs ys (λ n at. h n (inr at)))

map_same : (f : ℕ → ℕ) (xs : List ℕ) → Each (λ (x : ℕ). f x ≡ x) xs → map f xs ≡ xs
map_same f [] h = refl
map_same f (x ∷ xs) h = λ i. h.0 i ∷ map_same f xs h.1 i

each_map : {X : Type 0} (P Q : X → Type 0) (xs : List X) → ((x : X) → P x → Q x) → Each P xs → Each Q xs
each_map P Q [] f h = tt
each_map P Q (x ∷ xs) f h = (f x h.0, each_map P Q xs f h.1)

pub ports_are_looked_at : PortsAreLookedAt
ports_are_looked_at d m fin o ports n list at =
    let count : ℕ = length (port_looks o) in
    let low : n < count = slice_get_within (port_looks o) n list at in
    let stays = first_ports_stay d m fin count ports n low in
    let here = ports n low in
    let there = fin.nets n (slice_get_within d.nets n here.0 here.1) in
    let inside : n < length (nets_of m) = slice_get_within (nets_of m) n here.0 (ap (slice_get (nets_of m)) (sym stays.0) ∙ there ∙ here.1) in
    let looks : looks_of o (fin.back n) ≡ list = ap (looks_of o) stays.1 ∙ ap (λ (x : Option (List ℕ)). unwrap_or x []) at in
    let same : map fin.place list ≡ list = map_same fin.place list (each_map (λ (p : ℕ). p < count) (λ (p : ℕ). fin.place p ≡ p) list (λ p below. (first_ports_stay d m fin count ports p below).0) (each_at (AreBelow count) (port_looks o) n list (looks_below o) at)) in
    let looked : looked_in m fin.place fin.back (looks_of o) n ≡ list =
    chosen (nat_lt n (length (nets_of m))) (lt-ltb n (length (nets_of m)) inside) (map fin.place (looks_of o (fin.back n))) ∙ ap (map fin.place) looks ∙ same in
    subst (λ xs. Each (Among xs) list) (sym looked) (all_among list list (λ k among. among))
  where
    chosen : (b : Bool) → b ≡ true → (xs : List ℕ) → (if b then xs else []) ≡ xs
    chosen true e xs = refl
    chosen false e xs = cc
