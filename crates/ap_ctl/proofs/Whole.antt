-- Control as a whole: the valid bits, the rest, and what the valid bits take.
use Rattle.std.proofs.Common.{◌≡◌, ◌≢◌, ℕ, zero, suc, ◌+◌, ◌-◌, ◌<◌, ◌≤◌, List, [], ◌∷◌, ◌++◌, length, map, replicate, Some, ⊎_elim, refl, sym, ap, subst, ◌∙◌, arith, append-nil, length-append}
use Rattle.std.specs.Prelude.{Bool, slice_get, zip, Contains}
use Rattle.std.specs.List.{AllByRecursion as Each, range_with_len}
use Rattle.std.proofs.lemmas.Bool.{cases_lt}
use Rattle.ap_desc.specs.declared.design.Design.{Design}
use Rattle.ap_desc.specs.declared.design.Instr.{Instr}
use Rattle.ap_model.specs.Fire.{is_match}
use Rattle.ap_net.specs.declared.cell.Wire.{Wire}
use Rattle.ap_net.specs.declared.net.Assign.{Assign}
use Rattle.ap_net.specs.declared.net.ModuleNet.{ModuleNet}
use Rattle.ap_net.specs.declared.net.Next.{Next}
use Rattle.ap_net.specs.declared.net.Role.TheVariants as role
use Rattle.ap_net.specs.Cells.{IsNet, widths_of}
use Rattle.ap_net.specs.Draft.{Draft, CanFresh, Extends, IsKept, names_of}
use Rattle.ap_net.specs.Late.{StayLate}
use Rattle.ap_net.specs.Modules.{ports_among}
use Rattle.ap_net.specs.Names.{IsNew}
use Rattle.ap_net.specs.Readings.{Carries}
use Rattle.ap_net.specs.Ready.{AreReady, Dependence, Ready, ReadyAfter, numbers}
use Rattle.ap_net.specs.Wiring.{NextFits, Unclocked, reset_of}
use Rattle.ap_net.proofs.Laws.{Carries-Extends, Extends-trans, Ready-source, stays}
use Rattle.ap_ctl.specs.declared.control.Made.{Made}
use Rattle.ap_ctl.specs.declared.nets.ControlGiven.{ControlGiven}
use Rattle.ap_ctl.specs.declared.nets.ControlNets.{ControlNets}
use Rattle.ap_ctl.specs.Building.{BuildsComparing, IsBit, IsComparison, IsControlAssign, Tells, comparisons}
use Rattle.ap_ctl.specs.Decoding.{compared_in}
use Rattle.ap_ctl.specs.Given.{IsGiven, IsWordNet, holding, killing}
use Rattle.ap_ctl.specs.Lists.{EachFrom, EachPair}
use Rattle.ap_ctl.specs.Made.{IsMade, MadeFollows}
use Rattle.ap_ctl.specs.Meaning.{Look, fires, is_held, kills, next_valid}
use Rattle.ap_ctl.specs.Nets.{AddsControl, AreDecoded, KeepsOthers, FollowsGiven, FollowsWord, IsControl, IsFreeRegister, LooksAtNone, Shows, Takes, next_by, valid_net, valid_nets, valid_wires, with_nexts, with_valid}
use Rattle.ap_ctl.proofs.Bits.{IsBit-Carries}
use Rattle.ap_ctl.proofs.Beside.{EachFrom-second, EachFrom-both, EachFrom-replicate, EachFrom-weaker, EachPair-weaker, Each-replicate}
use Rattle.ap_ctl.proofs.Built.{comparison_later, Each-join, Each-weaker, IsBit-Extends}
use Rattle.ap_ctl.proofs.Decoded.{words_later}

-- The valid bits.

pub valid_extends : (d : Draft) (count : ℕ) → Extends d (with_valid d count)
valid_extends d count = record { name = refl; nets = (valid_nets count, refl); assigns = ([], sym (append-nil d.assigns)); nexts = ([], sym (append-nil d.nexts)); instances = ([], sym (append-nil d.instances)) }

pub nexts_extend : (d : Draft) (registers nets : List Wire) → Extends d (with_nexts d registers nets)
nexts_extend d registers nets = record { name = refl; nets = ([], sym (append-nil d.nets)); assigns = ([], sym (append-nil d.assigns)); nexts = (map next_by (zip registers nets), refl); instances = ([], sym (append-nil d.instances)) }

right_at : {X : Type 0} (xs ys : List X) (i : ℕ) → slice_get (xs ++ ys) (length xs + i) ≡ slice_get ys i
right_at [] ys i = let e : 0 + i ≡ i = omega arith in ap (slice_get ys) e
right_at (x ∷ xs) ys i = let e : suc (length xs) + i ≡ suc (length xs + i) = omega arith in ap (slice_get (x ∷ (xs ++ ys))) e ∙ right_at xs ys i

range_at : (low count i : ℕ) → i < count → slice_get (map valid_net (range_with_len low count)) i ≡ Some (valid_net (low + i))
range_at low zero i lt = absurd (omega arith)
range_at low (suc count) zero lt = let same : low ≡ low + 0 = omega arith in ap (λ n. Some (valid_net n)) same
range_at low (suc count) (suc i) lt =
    let next : low + 1 + i ≡ low + suc i = omega arith in
    range_at (low + 1) count i (omega arith) ∙ ap (λ n. Some (valid_net n)) next

-- the register of a number
valid_at : (nets : List ModuleNet) (low count i : ℕ) → i < count → slice_get (nets ++ map valid_net (range_with_len low count)) (length nets + i) ≡ Some (valid_net (low + i))
valid_at nets low count i lt = right_at nets (map valid_net (range_with_len low count)) i ∙ range_at low count i lt

-- what holds of each of them by its number
wires_each : (P : Wire → Type 0) (first count : ℕ) → ((i : ℕ) → i < count → P (record { number = first + i; width = 1 })) → Each P (valid_wires first count)
wires_each P first zero h = tt
wires_each P first (suc count) h =
    let here : first + 0 ≡ first = omega arith in (
      subst (λ n. P (record { number = n; width = 1 })) here (h 0 (omega arith)),
      wires_each P (first + 1) count (λ i lt. let next : first + suc i ≡ first + 1 + i = omega arith in subst (λ n. P (record { number = n; width = 1 })) next (h (suc i) (omega arith))),
    )

wide_at : (nets : List ModuleNet) (i : ℕ) (net : ModuleNet) → slice_get nets i ≡ Some net → slice_get (widths_of nets) i ≡ Some net.width
wide_at [] i net at = cc
wide_at (x ∷ nets) zero net at = let same : x ≡ net = cc in ap (λ (n : ModuleNet). Some n.width) same
wide_at (x ∷ nets) (suc i) net at = wide_at nets i net at

valid_bit : (d : Draft) (count i : ℕ) → i < count → IsBit (with_valid d count).nets (record { number = length d.nets + i; width = 1 })
valid_bit d count i lt = record { net = record { declared = wide_at (with_valid d count).nets (length d.nets + i) (valid_net (1 + i)) (valid_at d.nets 1 count i lt); low = omega arith; high = omega arith }; bit = refl }

pub valid_bits_are : (d : Draft) (count : ℕ) → Each (IsBit (with_valid d count).nets) (valid_wires (length d.nets) count)
valid_bits_are d count = wires_each (IsBit (with_valid d count).nets) (length d.nets) count (valid_bit d count)

-- no register that takes something is one of them
below : (d : Draft) → IsKept d → (n : ℕ) → length d.nets ≤ n → Unclocked d.nexts n
below d kept n le = each d.nexts kept.wired.registers where
  within : (nets : List ModuleNet) (i w : ℕ) → slice_get (widths_of nets) i ≡ Some w → i < length nets
  within [] i w at = cc
  within (x ∷ nets) zero w at = omega arith
  within (x ∷ nets) (suc i) w at = omega (arith, within nets i w at)

  each : (nexts : List Next) → Each (NextFits d.nets) nexts → Each (λ (x : Next). x.register.number ≢ n) nexts
  each [] h = tt
  each (x ∷ nexts) h = ((λ e. let lt = within d.nets x.register.number x.register.width (h.0).register.declared in absurd (omega arith)), each nexts h.1)

-- so they are free to take something in a draft that grew without a next
pub valid_free : (d e : Draft) (count : ℕ) → IsKept d → Extends (with_valid d count) e → e.nexts ≡ d.nexts → Each (IsFreeRegister e) (valid_wires (length d.nets) count)
valid_free d e count kept grows nexts = wires_each (IsFreeRegister e) (length d.nets) count (λ i lt.
    let there = stays (with_valid d count).nets e.nets grows.nets (length d.nets + i) (valid_net (1 + i)) (valid_at d.nets 1 count i lt) in
    record {
      net = record { net = record { declared = wide_at e.nets (length d.nets + i) (valid_net (1 + i)) there; low = omega arith; high = omega arith }; bit = refl };
      register = λ net at. let same : valid_net (1 + i) ≡ net = some_same (sym there ∙ at) in subst (λ (x : ModuleNet). x.role ≡ role.Register (reset_of x.role)) same refl;
      free = subst (λ l. Unclocked l (length d.nets + i)) (sym nexts) (below d kept (length d.nets + i) (omega arith));
    })
  where
    some_same : {X : Type 0} {x y : X} → Some x ≡ Some y → x ≡ y
    some_same e = cc

pub wires_count : (first count : ℕ) → length (valid_wires first count) ≡ count
wires_count first zero = refl
wires_count first (suc count) = ap suc (wires_count (first + 1) count)

-- What is declared stays.

pub given_later : (a b : Draft) (design : Design) (given : ControlGiven) → Extends a b → IsGiven design a.nets given → IsGiven design b.nets given
given_later a b design given e h = record {
  stages = h.stages;
  words = Each-weaker (IsWordNet design a.nets) (IsWordNet design b.nets) (λ w x. record { net = (Carries-Extends e (anything w x.net)).net; wide = x.wide }) given.words h.words;
  mwait = IsBit-Extends a b given.mwait e h.mwait;
  taken = IsBit-Extends a b given.taken e h.taken;
  units = h.units;
  busy = Each-weaker (IsBit a.nets) (IsBit b.nets) (λ w x. IsBit-Extends a b w e x) given.busy h.busy;
}
  where
    anything : (w : Wire) → IsNet a.nets w → Carries a w.width (λ r x. Unit {0}) w
    anything w net = record { net = net; wide = refl; means = record { holds = λ r s. tt } }

pub next_bits : (design : Design) (given : ControlGiven) (valid : List Wire) (d : Draft) (nets : List Wire) → EachFrom (λ stage. Shows design given valid d (λ look. next_valid design look stage)) 1 nets → Each (IsBit d.nets) nets
next_bits design given valid d nets h = EachFrom-second (λ stage. Shows design given valid d (λ look. next_valid design look stage)) (IsBit d.nets) (λ stage w x. IsBit-Carries x) 1 nets h

-- What came.

taken_registers : (registers nets : List Wire) → length nets ≡ length registers → map (λ (x : Next). x.register) (map next_by (zip registers nets)) ≡ registers
taken_registers [] nets e = refl
taken_registers (r ∷ registers) [] e = absurd (omega arith)
taken_registers (r ∷ registers) (n ∷ nets) e = ap (λ l. r ∷ l) (taken_registers registers nets (omega arith))

-- the draft before, with the valid bits, with the rest, and with what the valid bits take
module _ (design : Design) (given : ControlGiven) (a b c d : Draft) (from : List ℕ) (made : Made) (nets : ControlNets)
    (valid_is : nets.valid ≡ valid_wires (length a.nets) (design.stages - 1)) (is_b : b ≡ with_valid a (design.stages - 1)) (builds : BuildsComparing (compared_in design given.words) from b c) (is_d : d ≡ with_nexts c nets.valid made.next)
    (long : length made.next ≡ length nets.valid) where
  a_to_b : Extends a b
  a_to_b = subst (Extends a) (sym is_b) (valid_extends a (design.stages - 1))

  c_to_d : Extends c d
  c_to_d = subst (Extends c) (sym is_d) (nexts_extend c nets.valid made.next)

  b_to_d : Extends b d
  b_to_d = Extends-trans b c d builds.reads.extends c_to_d

  pub adds_control : CanFresh a → StayLate a b → StayLate c d → ports_among b.nets ≡ ports_among a.nets → KeepsOthers (design.stages - 1) a b → 1 ≤ design.stages → AddsControl design given a d nets
  adds_control fresh first last ports others some = record {
    extends = Extends-trans a b d a_to_b b_to_d;
    valid = valid_is;
    wires = (builds.wires.0, ap (λ (x : Draft). x.nets) is_d ∙ builds.wires.1 ∙ ap (λ (x : Draft). x.nets ++ builds.wires.0) is_b, builds.wires.2);
    assigns = (builds.assigns.0, ap (λ (x : Draft). x.assigns) is_d ∙ builds.assigns.1 ∙ ap (λ (x : Draft). x.assigns ++ builds.assigns.0) is_b, Each-weaker (IsControlAssign b) (IsControlAssign a) lower builds.assigns.0 builds.assigns.2);
    compares = (
      builds.compares.0,
      ap (λ (x : Draft). comparisons x) is_d ∙ builds.compares.1 ∙ ap (λ (x : Draft). comparisons x ++ builds.compares.0) is_b,
      EachPair-weaker (IsComparison c) (IsComparison d) (λ p x h. comparison_later c d p x c_to_d h) (compared_in design given.words) builds.compares.0 builds.compares.2,
    );
    nexts = (map next_by (zip nets.valid made.next), ap (λ (x : Draft). x.nexts) is_d ∙ ap (λ l. l ++ map next_by (zip nets.valid made.next)) (builds.reads.nexts ∙ ap (λ (x : Draft). x.nexts) is_b), taken_registers nets.valid made.next long);
    instances = ap (λ (x : Draft). x.instances) is_d ∙ builds.instances ∙ ap (λ (x : Draft). x.instances) is_b;
    ports = ap (λ (x : Draft). ports_among x.nets) is_d ∙ builds.ports ∙ ports;
    fresh = subst CanFresh (sym is_d) builds.fresh;
    names = λ name numbered no h. subst (λ (x : Draft). IsNew name (names_of x)) (sym is_d) (builds.names name numbered (others name (λ stage low high. no stage low (omega arith)) h));
    late = λ x h. last x (builds.reads.late x (first x h));
  }
    where
      shorter : length a.nets ≤ length b.nets
      shorter = let e : length b.nets ≡ length (a.nets ++ valid_nets (design.stages - 1)) = ap (λ (x : Draft). length x.nets) is_b in omega (arith, length-append a.nets (valid_nets (design.stages - 1)))

      lower : (x : Assign) → IsControlAssign b x → IsControlAssign a x
      lower x h = let low : length b.nets ≤ x.to.number = h.own in let le = shorter in record { own = omega arith; cell = h.cell }

  -- What the nets tell.

  shows_later : (meaning : Look → Bool) (w : Wire) → Shows design given nets.valid c meaning w → Shows design given nets.valid d meaning w
  shows_later meaning w h = Carries-Extends c_to_d h

  next_there : (xs ys : List Wire) (i : ℕ) (x y : Wire) → slice_get xs i ≡ Some x → slice_get ys i ≡ Some y → Contains (map next_by (zip xs ys)) (record { register = x; from = y })
  next_there [] ys i x y at there = absurd cc
  next_there (v ∷ xs) [] i x y at there = absurd cc
  next_there (v ∷ xs) (w ∷ ys) zero x y at there = let one : v ≡ x = cc in let other : w ≡ y = cc in (zero, omega arith, (λ j. record { register = one j; from = other j }))
  next_there (v ∷ xs) (w ∷ ys) (suc i) x y at there = let (k, low, is) = next_there xs ys i x y at there in (suc k, omega arith, is)

  there_later : {X : Type 0} (xs ys : List X) (x : X) → Contains ys x → Contains (xs ++ ys) x
  there_later [] ys x h = h
  there_later (z ∷ xs) ys x h = let (k, low, is) = there_later xs ys x h in (suc k, omega arith, is)

  takes : EachFrom (λ stage. Shows design given nets.valid c (λ look. next_valid design look stage)) 1 made.next → EachFrom (λ stage. Takes design given nets.valid d (λ look. next_valid design look stage)) 1 nets.valid
  takes h = EachFrom-both (λ stage. Shows design given nets.valid c (λ look. next_valid design look stage)) (λ stage. Takes design given nets.valid d (λ look. next_valid design look stage)) 1 nets.valid made.next (sym long)
      (λ stage i v w at there shows. record {
        from = w;
        next = subst (λ (x : Draft). Contains x.nexts (record { register = v; from = w })) (sym is_d) (there_later c.nexts (map next_by (zip nets.valid made.next)) (record { register = v; from = w }) (next_there nets.valid made.next i v w at there));
        shows = shows_later (λ look. next_valid design look stage) w shows;
      }) h

  decoded_grows : EachPair (AreDecoded design c) given.words made.decoded → EachPair (AreDecoded design d) given.words made.decoded
  decoded_grows h = EachPair-weaker (AreDecoded design c) (AreDecoded design d) (λ word conditions k. EachPair-weaker (λ (i : Instr). Tells c (λ r. is_match (r.read word.number) i)) (λ (i : Instr). Tells d (λ r. is_match (r.read word.number) i)) (λ i w t. record { carries = Carries-Extends c_to_d t.carries }) design.instrs conditions k) given.words made.decoded h

  pub is_control : IsMade design given nets.valid c made → nets.decoded ≡ made.decoded → nets.hold ≡ replicate design.stages made.gates.hold → nets.fires ≡ made.fires → nets.kill ≡ made.gates.kill → length nets.valid ≡ design.stages - 1
      → IsControl design given d nets
  is_control m decoded hold firing kill counted = record {
    next = takes m.next;
    decoded = subst (EachPair (AreDecoded design d) given.words) (sym decoded) (decoded_grows m.decoded);
    hold = subst (EachFrom (λ stage. Shows design given nets.valid d (λ look. is_held design look stage)) 0) (sym hold) (EachFrom-replicate (λ stage. Shows design given nets.valid d (λ look. is_held design look stage)) 0 design.stages made.gates.hold (λ stage. shows_later (λ look. is_held design look stage) made.gates.hold (m.hold stage)));
    frozen = λ stage. subst (λ (l : List Wire). Each (Shows design given nets.valid d (λ look. is_held design look stage)) l) (sym hold)
        (Each-replicate (Shows design given nets.valid d (λ look. is_held design look stage)) design.stages made.gates.hold (shows_later (λ look. is_held design look stage) made.gates.hold (m.hold stage)));
    stages = ap length hold ∙ length_replicate design.stages made.gates.hold;
    fires = subst (EachFrom (λ stage. Shows design given nets.valid d (λ look. fires design look stage)) 1) (sym firing) (EachFrom-weaker (λ stage. Shows design given nets.valid c (λ look. fires design look stage)) (λ stage. Shows design given nets.valid d (λ look. fires design look stage)) (λ stage w h. shows_later (λ look. fires design look stage) w h) 1 made.fires m.fires);
    flights = ap length firing ∙ m.flights ∙ counted;
    kill = subst (Shows design given nets.valid d (kills design)) (sym kill) (shows_later (kills design) made.gates.kill m.kill);
  }
    where
      length_replicate : {X : Type 0} (n : ℕ) (x : X) → length (replicate n x) ≡ n
      length_replicate zero x = refl
      length_replicate (suc n) x = ap suc (length_replicate n x)

  -- What they follow from.

  valid_ready : (by : Dependence) (last : List ℕ) → LooksAtNone by nets.valid → (i : ℕ) → i < design.stages - 1 → ReadyAfter by d last (length a.nets + i)
  valid_ready by last none i lt = λ later e ready.
      let there : slice_get (with_valid a (design.stages - 1)).nets (length a.nets + i) ≡ Some (valid_net (1 + i)) = valid_at a.nets 1 (design.stages - 1) i lt in
      let here : slice_get b.nets (length a.nets + i) ≡ Some (valid_net (1 + i)) = subst (λ (x : Draft). slice_get x.nets (length a.nets + i) ≡ Some (valid_net (1 + i))) (sym is_b) there in
      let grown = Extends-trans b d later b_to_d e in
      let none_looked : by.looks (length a.nets + i) ≡ [] = at_wire (length a.nets) (design.stages - 1) i lt (subst (LooksAtNone by) valid_is none) in
      Ready-source by later (length a.nets + i) (valid_net (1 + i)) (stays b.nets later.nets grown.nets (length a.nets + i) (valid_net (1 + i)) here) tt (subst (AreReady by later) (sym none_looked) tt)
    where
      at_wire : (first count i : ℕ) → i < count → LooksAtNone by (valid_wires first count) → by.looks (first + i) ≡ []
      at_wire first zero i lt h = absurd (omega arith)
      at_wire first (suc count) zero lt h = let same : first + 0 ≡ first = omega arith in ap by.looks same ∙ h.0
      at_wire first (suc count) (suc i) lt h = let same : first + suc i ≡ first + 1 + i = omega arith in ap by.looks same ∙ at_wire (first + 1) count i (omega arith) h.1

  valid_each : (by : Dependence) (last : List ℕ) → LooksAtNone by nets.valid → Each (ReadyAfter by d last) (numbers nets.valid)
  valid_each by last none = subst (λ (l : List Wire). Each (ReadyAfter by d last) (numbers l)) (sym valid_is)
      (mapped (valid_wires (length a.nets) (design.stages - 1)) (wires_each (λ (w : Wire). ReadyAfter by d last w.number) (length a.nets) (design.stages - 1) (valid_ready by last none)))
    where
      mapped : (ws : List Wire) → Each (λ (w : Wire). ReadyAfter by d last w.number) ws → Each (ReadyAfter by d last) (numbers ws)
      mapped [] h = tt
      mapped (w ∷ ws) h = (h.0, mapped ws h.1)

  -- what follows from the valid bits and some nets follows from these nets
  without_valid : (by : Dependence) (last : List ℕ) → LooksAtNone by nets.valid → (n : ℕ) → ReadyAfter by c (numbers nets.valid ++ last) n → ReadyAfter by d last n
  without_valid by last none n h = λ later e ready.
      h later (Extends-trans c d later c_to_d e)
      (Each-join (Ready by later) (numbers nets.valid) last (Each-weaker (ReadyAfter by d last) (Ready by later) (λ m k. k later e ready) (numbers nets.valid) (valid_each by last none)) ready)

  pub follows_given : from ≡ numbers nets.valid ++ killing given → MadeFollows given nets.valid c made → nets.decoded ≡ made.decoded → nets.hold ≡ replicate design.stages made.gates.hold → nets.fires ≡ made.fires → nets.kill ≡ made.gates.kill → FollowsGiven given a d nets
  follows_given is m decoded hold firing kill = record {
    all = λ by none n low high. ⊎_elim
        (λ inside.
        let lt : n - length a.nets < design.stages - 1 = (let e = b_long in omega arith) in
        let back : length a.nets + (n - length a.nets) ≡ n = omega arith in
        subst (ReadyAfter by d (killing given)) back (valid_ready by (killing given) none (n - length a.nets) lt))
        (λ outside.
        let within : n < length c.nets = (let e : length d.nets ≡ length c.nets = ap (λ (x : Draft). length x.nets) is_d in omega arith) in
        without_valid by (killing given) none n (subst (λ l. ReadyAfter by c l n) is (builds.reads.came by n outside within)))
        (cases_lt n (length b.nets));
    hold = λ by none. subst (λ (l : List Wire). Each (λ (w : Wire). ReadyAfter by d (holding given) w.number) l) (sym hold) (Each-replicate (λ (w : Wire). ReadyAfter by d (holding given) w.number) design.stages made.gates.hold (without_valid by (holding given) none made.gates.hold.number (m.hold by)));
    decoded = subst (EachPair (FollowsWord d) given.words) (sym decoded) (words_later c d given.words made.decoded c_to_d m.decoded);
    fires = λ by none. subst (λ (l : List Wire). Each (λ (w : Wire). ReadyAfter by d (killing given) w.number) l) (sym firing)
        (Each-weaker (λ (w : Wire). ReadyAfter by c (numbers nets.valid ++ killing given) w.number) (λ (w : Wire). ReadyAfter by d (killing given) w.number) (λ w h. without_valid by (killing given) none w.number h) made.fires (m.fires by));
    kill = λ by none. subst (λ (w : Wire). ReadyAfter by d (killing given) w.number) (sym kill) (without_valid by (killing given) none made.gates.kill.number (m.kill by));
  }
    where
      length_map : {X Y : Type 0} (f : X → Y) (xs : List X) → length (map f xs) ≡ length xs
      length_map f [] = refl
      length_map f (x ∷ xs) = ap suc (length_map f xs)

      length_range : (low n : ℕ) → length (range_with_len low n) ≡ n
      length_range low zero = refl
      length_range low (suc n) = ap suc (length_range (low + 1) n)

      b_long : length b.nets ≡ length a.nets + (design.stages - 1)
      b_long = ap (λ (x : Draft). length x.nets) is_b ∙ length-append a.nets (valid_nets (design.stages - 1)) ∙ ap (λ n. length a.nets + n) (length_map valid_net (range_with_len 1 (design.stages - 1)) ∙ length_range 1 (design.stages - 1))
