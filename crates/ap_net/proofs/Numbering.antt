use Rattle.std.proofs.Common.{◌≡◌, ℕ, ◌+◌, suc, zero, List, [], ◌∷◌, ◌++◌, length, map, take, Some, Bool, true, false, refl, sym, ap, subst, ◌∙◌, arith, ⊎_elim, length-append, add-zero, zero-add}
use Rattle.std.specs.Prelude.{slice_get, count_by, if◌then◌else◌}
use Rattle.std.specs.List.{filter}
use Rattle.std.proofs.lemmas.List.Sums.{sum_by-cons, length-filter}
use Rattle.ap_net.specs.declared.net.Role.{Role}
use Rattle.ap_net.specs.declared.net.Role.TheVariants as role
use Rattle.ap_net.specs.declared.net.ModuleNet.{ModuleNet}
use Rattle.ap_net.specs.Draft.{is_plain, is_wire, wire_count}
use Rattle.ap_net.specs.Modules.{port_net, wire_net, reg_net, ports_among, wires_among, regs_among}
use Rattle.ap_net.specs.Places.{has_port_role, has_register_role, is_port, is_register, port_count, register_count, number_by, place_by}
use Rattle.ap_net.proofs.Lists.{get_left, get_right, get_either}

module _ {X : Type 0} (p : X → Bool) where
  pub count_cons : (x : X) (xs : List X) → count_by p (x ∷ xs) ≡ (if p x then 1 else 0) + count_by p xs
  count_cons x xs = sum_by-cons (λ y. if p y then 1 else 0) x xs

  -- an element that passes stands in the filter after those that pass before it
  pub nth_filter : (xs : List X) (n : ℕ) (x : X) → slice_get xs n ≡ Some x → p x ≡ true → slice_get (filter p xs) (count_by p (take n xs)) ≡ Some x
  nth_filter [] n x at h = cc
  nth_filter (y ∷ xs) zero x at h = let same : y ≡ x = cc in rw (same, h) refl
  nth_filter (y ∷ xs) (suc n) x at h = rw (count_cons y (take n xs)) (go (p y) (nth_filter xs n x at h))
    where
      go : (b : Bool) → slice_get (filter p xs) (count_by p (take n xs)) ≡ Some x → slice_get (if b then y ∷ filter p xs else filter p xs) ((if b then 1 else 0) + count_by p (take n xs)) ≡ Some x
      go true later = let next : 1 + count_by p (take n xs) ≡ suc (count_by p (take n xs)) = omega arith in rw next later
      go false later = rw (zero-add (count_by p (take n xs))) later

  -- the places, from k on, of the elements that pass
  abbrev pub positions : ℕ → List X → List ℕ
  positions k [] = []
  positions k (x ∷ xs) = if p x then k ∷ positions (k + 1) xs else positions (k + 1) xs

  pub length-positions : (k : ℕ) (xs : List X) → length (positions k xs) ≡ length (filter p xs)
  length-positions k [] = refl
  length-positions k (x ∷ xs) = go (p x) (length-positions (k + 1) xs)
    where
      go : (b : Bool) → length (positions (k + 1) xs) ≡ length (filter p xs) → length (if b then k ∷ positions (k + 1) xs else positions (k + 1) xs) ≡ length (if b then x ∷ filter p xs else filter p xs)
      go true e = ap suc e
      go false e = e

  pub nth_position : (k : ℕ) (xs : List X) (n : ℕ) (x : X) → slice_get xs n ≡ Some x → p x ≡ true → slice_get (positions k xs) (count_by p (take n xs)) ≡ Some (k + n)
  nth_position k [] n x at h = cc
  nth_position k (y ∷ xs) zero x at h = let same : y ≡ x = cc in rw (same, h, add-zero k) refl
  nth_position k (y ∷ xs) (suc n) x at h = rw (count_cons y (take n xs)) (go (p y) (let same : k + 1 + n ≡ k + suc n = omega arith in nth_position (k + 1) xs n x at h ∙ ap Some same))
    where
      go : (b : Bool) → slice_get (positions (k + 1) xs) (count_by p (take n xs)) ≡ Some (k + suc n) → slice_get (if b then k ∷ positions (k + 1) xs else positions (k + 1) xs) ((if b then 1 else 0) + count_by p (take n xs)) ≡ Some (k + suc n)
      go true later = let next : 1 + count_by p (take n xs) ≡ suc (count_by p (take n xs)) = omega arith in rw next later
      go false later = rw (zero-add (count_by p (take n xs))) later

  -- what a place stands for: an element that passes, with as many before it that pass
  pub record Passes (k : ℕ) (xs : List X) (m j : ℕ) : Type 0 where
    pub n : ℕ
    pub x : X
    pub place : j ≡ k + n
    pub at : slice_get xs n ≡ Some x
    pub passes : p x ≡ true
    pub before : count_by p (take n xs) ≡ m

  one_on : (k : ℕ) (y : X) (xs : List X) (m j b : ℕ) → (if p y then 1 else 0) ≡ b → (q : Passes (k + 1) xs m j) → Passes k (y ∷ xs) (b + m) j
  one_on k y xs m j b e q = record {
    n = suc q.n;
    x = q.x;
    place = q.place ∙ (let same : k + 1 + q.n ≡ k + suc q.n = omega arith in same);
    at = q.at;
    passes = q.passes;
    before = count_cons y (take q.n xs) ∙ (λ i. e i + q.before i);
  }

  pub position_passes : (k : ℕ) (xs : List X) (m j : ℕ) → slice_get (positions k xs) m ≡ Some j → Passes k xs m j
  position_passes k [] m j at = cc
  position_passes k (y ∷ xs) m j at = go (λ i. position_passes (k + 1) xs i j) (p y) refl m at
    where
      go : ((i : ℕ) → slice_get (positions (k + 1) xs) i ≡ Some j → Passes (k + 1) xs i j) → (b : Bool) → p y ≡ b → (m : ℕ) → slice_get (if b then k ∷ positions (k + 1) xs else positions (k + 1) xs) m ≡ Some j → Passes k (y ∷ xs) m j
      go later true e zero at = record { n = zero; x = y; place = (let same : k ≡ j = cc in sym same ∙ sym (add-zero k)); at = refl; passes = e; before = refl }
      go later true e (suc m) at = let next : 1 + m ≡ suc m = omega arith in let one : (if p y then 1 else 0) ≡ 1 = rw e refl in subst (λ i. Passes k (y ∷ xs) i j) next (one_on k y xs m j 1 one (later m at))
      go later false e m at = let none : (if p y then 1 else 0) ≡ 0 = rw e refl in subst (λ i. Passes k (y ∷ xs) i j) (zero-add m) (one_on k y xs m j 0 none (later m at))

-- the kinds of nets, as the finished module lists them
pub ports_filter : (nets : List ModuleNet) → map port_net (ports_among nets) ≡ filter is_port nets
ports_filter [] = refl
ports_filter (net ∷ nets) = go (ports_filter nets) net.name net.width net.role
  where
    go : map port_net (ports_among nets) ≡ filter is_port nets → (name : List ℕ) (width : ℕ) (r : Role) → map port_net (ports_among (record { name = name; width = width; role = r } ∷ nets)) ≡ filter is_port (record { name = name; width = width; role = r } ∷ nets)
    go later name width role.Input = ap (λ l. record { name = name; width = width; role = role.Input } ∷ l) later
    go later name width role.Output = ap (λ l. record { name = name; width = width; role = role.Output } ∷ l) later
    go later name width role.Plain = later
    go later name width (role.Register reset) = later

pub wires_filter : (nets : List ModuleNet) → map wire_net (wires_among nets) ≡ filter is_wire nets
wires_filter [] = refl
wires_filter (net ∷ nets) = go (wires_filter nets) net.name net.width net.role
  where
    go : map wire_net (wires_among nets) ≡ filter is_wire nets → (name : List ℕ) (width : ℕ) (r : Role) → map wire_net (wires_among (record { name = name; width = width; role = r } ∷ nets)) ≡ filter is_wire (record { name = name; width = width; role = r } ∷ nets)
    go later name width role.Input = later
    go later name width role.Output = later
    go later name width role.Plain = ap (λ l. record { name = name; width = width; role = role.Plain } ∷ l) later
    go later name width (role.Register reset) = later

pub regs_filter : (nets : List ModuleNet) → map reg_net (regs_among nets) ≡ filter is_register nets
regs_filter [] = refl
regs_filter (net ∷ nets) = go (regs_filter nets) net.name net.width net.role
  where
    go : map reg_net (regs_among nets) ≡ filter is_register nets → (name : List ℕ) (width : ℕ) (r : Role) → map reg_net (regs_among (record { name = name; width = width; role = r } ∷ nets)) ≡ filter is_register (record { name = name; width = width; role = r } ∷ nets)
    go later name width role.Input = later
    go later name width role.Output = later
    go later name width role.Plain = later
    go later name width (role.Register reset) = ap (λ l. record { name = name; width = width; role = role.Register reset } ∷ l) later

-- the nets by kind
abbrev pub sorted : List ModuleNet → List ModuleNet
sorted nets = filter is_port nets ++ filter is_wire nets ++ filter is_register nets

-- and their numbers in the order of declaration
abbrev pub origins : List ModuleNet → List ℕ
origins nets = positions is_port 0 nets ++ positions is_wire 0 nets ++ positions is_register 0 nets

pub sorted-among : (nets : List ModuleNet) → map port_net (ports_among nets) ++ map wire_net (wires_among nets) ++ map reg_net (regs_among nets) ≡ sorted nets
sorted-among nets = (λ i. ports_filter nets i ++ wires_filter nets i ++ regs_filter nets i)

-- what stands in the list of its own kind stands at its place in the three lists joined
in_three : {Y : Type 0} (ports wires regs : List Y) (nets : List ModuleNet) (n : ℕ) (y : Y) → length ports ≡ port_count nets → length wires ≡ wire_count nets → (r : Role)
    → (has_port_role r ≡ true → slice_get ports (port_count (take n nets)) ≡ Some y) → (is_plain r ≡ true → slice_get wires (wire_count (take n nets)) ≡ Some y)
    → (has_register_role r ≡ true → slice_get regs (register_count (take n nets)) ≡ Some y) → slice_get (ports ++ wires ++ regs) (place_by r nets n) ≡ Some y
in_three ports wires regs nets n y lp lw r p w q = go r p w q
  where
    first : (i : ℕ) → slice_get ports i ≡ Some y → slice_get (ports ++ wires ++ regs) i ≡ Some y
    first i h = get_left (ports ++ wires) regs i y (get_left ports wires i y h)

    second : (i : ℕ) → slice_get wires i ≡ Some y → slice_get (ports ++ wires ++ regs) (port_count nets + i) ≡ Some y
    second i h = rw (← lp) (get_left (ports ++ wires) regs (length ports + i) y (get_right ports wires i ∙ h))

    third : (i : ℕ) → slice_get regs i ≡ Some y → slice_get (ports ++ wires ++ regs) ((port_count nets + wire_count nets) + i) ≡ Some y
    third i h = let both : length (ports ++ wires) ≡ port_count nets + wire_count nets = length-append ports wires ∙ (λ j. lp j + lw j) in rw (← both) (get_right (ports ++ wires) regs i ∙ h)

    go : (r : Role) → (has_port_role r ≡ true → slice_get ports (port_count (take n nets)) ≡ Some y) → (is_plain r ≡ true → slice_get wires (wire_count (take n nets)) ≡ Some y)
        → (has_register_role r ≡ true → slice_get regs (register_count (take n nets)) ≡ Some y) → slice_get (ports ++ wires ++ regs) (place_by r nets n) ≡ Some y
    go role.Input p w q = first (port_count (take n nets)) (p refl)
    go role.Output p w q = first (port_count (take n nets)) (p refl)
    go role.Plain p w q = second (wire_count (take n nets)) (w refl)
    go (role.Register reset) p w q = third (register_count (take n nets)) (q refl)

-- a net stands at its place
pub sorted_at : (nets : List ModuleNet) (n : ℕ) (net : ModuleNet) → slice_get nets n ≡ Some net → slice_get (sorted nets) (place_by net.role nets n) ≡ Some net
sorted_at nets n net at = in_three (filter is_port nets) (filter is_wire nets) (filter is_register nets) nets n net (length-filter is_port nets) (length-filter is_wire nets) net.role
    (nth_filter is_port nets n net at) (nth_filter is_wire nets n net at) (nth_filter is_register nets n net at)

-- and its number of declaration stands there too
pub origin_at : (nets : List ModuleNet) (n : ℕ) (net : ModuleNet) → slice_get nets n ≡ Some net → slice_get (origins nets) (place_by net.role nets n) ≡ Some n
origin_at nets n net at =
    in_three (positions is_port 0 nets) (positions is_wire 0 nets) (positions is_register 0 nets) nets n n (length-positions is_port 0 nets ∙ length-filter is_port nets) (length-positions is_wire 0 nets ∙ length-filter is_wire nets) net.role
    (λ h. nth_position is_port 0 nets n net at h ∙ ap Some (zero-add n)) (λ h. nth_position is_wire 0 nets n net at h ∙ ap Some (zero-add n)) (λ h. nth_position is_register 0 nets n net at h ∙ ap Some (zero-add n))

pub length-origins : (nets : List ModuleNet) → length (origins nets) ≡ length (sorted nets)
length-origins nets =
    length-append (positions is_port 0 nets ++ positions is_wire 0 nets) (positions is_register 0 nets)
    ∙ (λ i. length-append (positions is_port 0 nets) (positions is_wire 0 nets) i + length-positions is_register 0 nets i)
    ∙ (λ i. (length-positions is_port 0 nets i + length-positions is_wire 0 nets i) + length (filter is_register nets))
    ∙ (λ i. sym (length-append (filter is_port nets) (filter is_wire nets)) i + length (filter is_register nets))
    ∙ sym (length-append (filter is_port nets ++ filter is_wire nets) (filter is_register nets))

number_port : (r : Role) (p w q : ℕ) → has_port_role r ≡ true → number_by r p w q ≡ p
number_port role.Input p w q h = refl
number_port role.Output p w q h = refl
number_port role.Plain p w q h = cc
number_port (role.Register reset) p w q h = cc

number_wire : (r : Role) (p w q : ℕ) → is_plain r ≡ true → number_by r p w q ≡ w
number_wire role.Input p w q h = cc
number_wire role.Output p w q h = cc
number_wire role.Plain p w q h = refl
number_wire (role.Register reset) p w q h = cc

number_register : (r : Role) (p w q : ℕ) → has_register_role r ≡ true → number_by r p w q ≡ q
number_register role.Input p w q h = cc
number_register role.Output p w q h = cc
number_register role.Plain p w q h = cc
number_register (role.Register reset) p w q h = refl

-- what stands at a number of the finished module: the net that has this place
pub record Seat (nets : List ModuleNet) (m j : ℕ) : Type 0 where
  pub net : ModuleNet
  pub at : slice_get nets j ≡ Some net
  pub place : place_by net.role nets j ≡ m

seat : {p : ModuleNet → Bool} (nets : List ModuleNet) (m i j base : ℕ) (q : Passes p 0 nets i j) → m ≡ base + i → place_by (q.x).role nets q.n ≡ base + count_by p (take q.n nets) → Seat nets m j
seat nets m i j base q e f =
    let same : j ≡ q.n = q.place ∙ zero-add q.n in
    record { net = q.x; at = ap (slice_get nets) same ∙ q.at; place = ap (place_by (q.x).role nets) same ∙ f ∙ ap (λ k. base + k) q.before ∙ sym e }

pub seat_of : (nets : List ModuleNet) (m j : ℕ) → slice_get (origins nets) m ≡ Some j → Seat nets m j
seat_of nets m j at =
    ⊎_elim
    (λ front. ⊎_elim
    (λ h. let q = position_passes is_port 0 nets m j h in seat nets m m j 0 q (sym (zero-add m)) (number_port (q.x).role _ _ _ q.passes ∙ sym (zero-add (port_count (take q.n nets)))))
    (λ h. let q = position_passes is_wire 0 nets h.0 j h.2 in seat nets m h.0 j (port_count nets) q (h.1 ∙ ap (λ k. k + h.0) (length-positions is_port 0 nets ∙ length-filter is_port nets)) (number_wire (q.x).role _ _ _ q.passes))
    (get_either (positions is_port 0 nets) (positions is_wire 0 nets) m j front))
    (λ h. let q = position_passes is_register 0 nets h.0 j h.2 in seat nets m h.0 j (port_count nets + wire_count nets) q
    (h.1 ∙ ap (λ k. k + h.0) (length-append (positions is_port 0 nets) (positions is_wire 0 nets) ∙ (λ i. (length-positions is_port 0 nets ∙ length-filter is_port nets) i + (length-positions is_wire 0 nets ∙ length-filter is_wire nets) i)))
    (number_register (q.x).role _ _ _ q.passes))
    (get_either (positions is_port 0 nets ++ positions is_wire 0 nets) (positions is_register 0 nets) m j at)
