-- What lets units and nets that no line uses be put at rest.
use Rattle.std.proofs.Common.{◌≡◌, ◌≢◌, ℕ, suc, ◌+◌, ◌-◌, ◌≤◌, ◌&&◌, Bool, true, false, List, [], ◌∷◌, ◌++◌, Some, flat_map, refl, sym, ap, subst, ◌∙◌, arith, append_assoc, inl, inr}
use Rattle.std.specs.Prelude.{◌⊎◌, not, slice_get}
use Rattle.std.specs.List.{AllByRecursion as Each}
use Rattle.std.proofs.lemmas.Bool.{and_parts, le-ltb}
use Rattle.ap_desc.specs.Chains.{IsNodeOf}
use Rattle.ap_desc.specs.Ports.{file_read, mem_read, mem_write, unit}
use Rattle.ap_desc.specs.declared.design.Design.{Design}
use Rattle.ap_desc.specs.declared.design.Node.TheVariants as design_node
use Rattle.ap_desc.specs.declared.design.Unit.{Unit as Resource}
use Rattle.ap_net.specs.declared.cell.Wire.{Wire}
use Rattle.ap_net.specs.declared.net.Instance.{Instance}
use Rattle.ap_net.specs.Draft.{Draft}
use Rattle.ap_net.specs.Late.{IsLate}
use Rattle.ap_net.specs.Modules.{ModuleText}
use Rattle.ap_net.specs.Ready.{numbers}
use Rattle.ap_net.specs.Wiring.{NoneTwice}
use Rattle.ap_net.proofs.Lists.{All-back, All-join, All-map, All-unmap}
use Rattle.ap_signals.specs.NetRuns.{unit_part}
use Rattle.ap_ctl.specs.Given.{is_slow_unit}
use Rattle.ap_ctl.specs.Lists.{EachPair}
use Rattle.ap_bank.specs.declared.bank.FileNets.{FileNets}
use Rattle.ap_front.specs.declared.ports.MemPorts.{MemPorts}
use Rattle.ap_rest.specs.Idle.{IsIdleUnit, is_idle}
use Rattle.ap_rest.specs.Reads.{idle_indices, idle_of_files, idle_of_mems, idle_writes, unless_used}
use Rattle.ap_rest.specs.Serving.{UnusedAreNone, UsedAreNodes}
use Rattle.ap_rest.specs.Standing.{IdleAreNowhere, IdleReadsAreLate, IdleWritesAreLate, IdlesLeaveNames, QuickAreSomewhere}
use Rattle.ap_rest.specs.Uses.{is_port_used}
use Rattle.ap_rest.proofs.IdleAll.{idle_is}

-- Units.

pub quick_are_somewhere : UsedAreNodes → QuickAreSomewhere
quick_are_somewhere nodes design number u clean at quick = go (is_port_used design (unit number)) refl
  where
    go : (b : Bool) → is_port_used design (unit number) ≡ b → (is_idle design number ≡ true) ⊎ ((stage : ℕ) × (1 ≤ stage) × (stage ≤ design.stages - 1) × IsNodeOf design stage (design_node.Unit number))
    go true e = inr (nodes design (design_node.Unit number) clean e)
    go false e = inl (idle_is design number u at ∙ ap (λ b. not b && not (is_port_used design (unit number))) (le-ltb 1 u.latency quick) ∙ ap not e)

pub idle_are_nowhere : UnusedAreNone → IdleAreNowhere
idle_are_nowhere none design number stage idle is_node = none design (design_node.Unit number) stage (off (is_port_used design (unit number)) (and_parts (not (is_slow_unit design number)) (not (is_port_used design (unit number))) idle).1) is_node
  where
    off : (b : Bool) → not b ≡ true → b ≡ false
    off true e = absurd cc
    off false e = refl

other_names : (design : Design) (modules : List ModuleText) (places : List ℕ) (d : Draft) (name : List ℕ) → ((u : Resource) → unit_part u ≡ name → ⊥) → (units : List ℕ) (placed : List Instance) → EachPair (IsIdleUnit design modules places d) units placed → Each (λ (i : Instance). i.name ≢ name) placed
other_names design modules places d name none [] [] h = tt
other_names design modules places d name none [] (i ∷ placed) h = absurd h
other_names design modules places d name none (n ∷ units) [] h = absurd h
other_names design modules places d name none (n ∷ units) (i ∷ placed) h = ((λ e. none (h.0).resource (sym (h.0).is.named ∙ e)), other_names design modules places d name none units placed h.1)

pub idles_leave_names : IdlesLeaveNames
idles_leave_names design modules places units a b h name other none new = h.adds.names name other (other_names design modules places b name none units h.placed h.each) new

-- Some of the nets of a list, in their order.

record IsSome (part all : List Wire) : Type 1 where
  each : (P : Wire → Type 0) → Each P all → Each P part
  apart : NoneTwice (numbers all) → NoneTwice (numbers part)

some_none : IsSome [] []
some_none = record { each = λ P h. h; apart = λ h. h }

apart_back : (ws all : List Wire) → NoneTwice (numbers (ws ++ all)) → NoneTwice (numbers all)
apart_back [] all h = h
apart_back (w ∷ ws) all h = apart_back ws all h.1

some_after : (ws part all : List Wire) → IsSome part all → IsSome (ws ++ part) (ws ++ all)
some_after [] part all s = s
some_after (w ∷ ws) part all s =
    let later = some_after ws part all s in
    record {
      each = λ P h. (h.0, later.each P h.1);
      apart = λ h. (
        All-map (λ o. o ≢ w.number) (λ (x : Wire). x.number) (ws ++ part) (later.each (λ (x : Wire). x.number ≢ w.number) (All-unmap (λ o. o ≢ w.number) (λ (x : Wire). x.number) (ws ++ all) h.0)),
        later.apart h.1,
      );
    }

some_unless : (b : Bool) (ws part all : List Wire) → IsSome part all → IsSome (unless_used b ws ++ part) (ws ++ all)
some_unless true ws part all s = record { each = λ P h. s.each P (All-back P ws all h); apart = λ h. s.apart (apart_back ws all h) }
some_unless false ws part all s = some_after ws part all s

some_indices : (design : Design) (file port : ℕ) (indices part all : List Wire) → IsSome part all → IsSome (idle_indices design file port indices ++ part) (indices ++ all)
some_indices design file port [] part all s = s
some_indices design file port (w ∷ indices) part all s =
    let b = is_port_used design (file_read file port) in
    let rest = idle_indices design file (port + 1) indices in
    subst (λ l. IsSome l (w ∷ (indices ++ all))) (sym (append_assoc (unless_used b (w ∷ [])) rest part)) (some_unless b (w ∷ []) (rest ++ part) (indices ++ all) (some_indices design file (port + 1) indices part all s))

abbrev indices_of : FileNets → List Wire
indices_of n = n.indices

abbrev address_of : MemPorts → List Wire
address_of m = m.read_address ∷ []

abbrev outputs_of : MemPorts → List Wire
outputs_of m = m.enable ∷ m.address ∷ m.value ∷ []

some_files : (design : Design) (file : ℕ) (files : List FileNets) (part all : List Wire) → IsSome part all → IsSome (idle_of_files design file files ++ part) (flat_map indices_of files ++ all)
some_files design file [] part all s = s
some_files design file (n ∷ files) part all s =
    let rest = idle_of_files design (file + 1) files in
    subst (λ l. IsSome l ((n.indices ++ flat_map indices_of files) ++ all)) (sym (append_assoc (idle_indices design file 0 n.indices) rest part))
    (subst (IsSome (idle_indices design file 0 n.indices ++ (rest ++ part))) (sym (append_assoc n.indices (flat_map indices_of files) all))
    (some_indices design file 0 n.indices (rest ++ part) (flat_map indices_of files ++ all) (some_files design (file + 1) files part all s)))

some_mems : (design : Design) (mem : ℕ) (mems : List MemPorts) → IsSome (idle_of_mems design mem mems) (flat_map address_of mems)
some_mems design mem [] = some_none
some_mems design mem (m ∷ mems) = some_unless (is_port_used design (mem_read mem)) (m.read_address ∷ []) (idle_of_mems design (mem + 1) mems) (flat_map address_of mems) (some_mems design (mem + 1) mems)

some_writes : (design : Design) (mem : ℕ) (mems : List MemPorts) → IsSome (idle_writes design mem mems) (flat_map outputs_of mems)
some_writes design mem [] = some_none
some_writes design mem (m ∷ mems) = some_unless (is_port_used design (mem_write mem)) (outputs_of m) (idle_writes design (mem + 1) mems) (flat_map outputs_of mems) (some_writes design (mem + 1) mems)

-- Those that no line uses.

module _ (P : Wire → Type 0) (design : Design) where
  unused : (b : Bool) (w : Wire) → (b ≡ false → P w) → Each P (unless_used b (w ∷ []))
  unused true w h = tt
  unused false w h = (h refl, tt)

  each_index : (file port : ℕ) (indices : List Wire) → ((i : ℕ) (w : Wire) → slice_get indices i ≡ Some w → is_port_used design (file_read file (port + i)) ≡ false → P w) → Each P (idle_indices design file port indices)
  each_index file port [] h = tt
  each_index file port (w ∷ indices) h =
      let here : port + 0 ≡ port = omega arith in
      let b = is_port_used design (file_read file port) in
      All-join P (unless_used b (w ∷ [])) (idle_indices design file (port + 1) indices) (unused b w (λ e. h 0 w refl (ap (λ n. is_port_used design (file_read file n)) here ∙ e)))
      (each_index file (port + 1) indices (λ i v at e. let next : port + suc i ≡ port + 1 + i = omega arith in h (suc i) v at (ap (λ n. is_port_used design (file_read file n)) next ∙ e)))

  each_file : (file : ℕ) (files : List FileNets) → ((k i : ℕ) (nets : FileNets) (w : Wire) → slice_get files k ≡ Some nets → slice_get nets.indices i ≡ Some w → is_port_used design (file_read (file + k) i) ≡ false → P w) → Each P (idle_of_files design file files)
  each_file file [] h = tt
  each_file file (n ∷ files) h =
      let here : file + 0 ≡ file = omega arith in
      All-join P (idle_indices design file 0 n.indices) (idle_of_files design (file + 1) files)
      (each_index file 0 n.indices (λ i w at e. let plain : i ≡ 0 + i = omega arith in h 0 i n w refl at (ap (λ k. is_port_used design (file_read k i)) here ∙ ap (λ k. is_port_used design (file_read file k)) plain ∙ e)))
      (each_file (file + 1) files (λ k i nets w at in_it e. let next : file + suc k ≡ file + 1 + k = omega arith in h (suc k) i nets w at in_it (ap (λ m. is_port_used design (file_read m i)) next ∙ e)))

  each_mem : (mem : ℕ) (mems : List MemPorts) → ((k : ℕ) (m : MemPorts) → slice_get mems k ≡ Some m → is_port_used design (mem_read (mem + k)) ≡ false → P m.read_address) → Each P (idle_of_mems design mem mems)
  each_mem mem [] h = tt
  each_mem mem (m ∷ mems) h =
      let here : mem + 0 ≡ mem = omega arith in
      let b = is_port_used design (mem_read mem) in
      All-join P (unless_used b (m.read_address ∷ [])) (idle_of_mems design (mem + 1) mems) (unused b m.read_address (λ e. h 0 m refl (ap (λ k. is_port_used design (mem_read k)) here ∙ e)))
      (each_mem (mem + 1) mems (λ k x at e. let next : mem + suc k ≡ mem + 1 + k = omega arith in h (suc k) x at (ap (λ n. is_port_used design (mem_read n)) next ∙ e)))

pub idle_reads_are_late : IdleReadsAreLate
idle_reads_are_late design d files mems apart late =
    let in_files = each_file (IsLate d) design 0 files (λ k i nets w at in_it e. let plain : k ≡ 0 + k = omega arith in late (design_node.FileRead k i) w (nets, at, in_it) (ap (λ n. is_port_used design (file_read n i)) plain ∙ e)) in
    let in_mems = each_mem (IsLate d) design 0 mems (λ k m at e. let plain : k ≡ 0 + k = omega arith in late (design_node.MemRead k) m.read_address (m, at, refl) (ap (λ n. is_port_used design (mem_read n)) plain ∙ e)) in
    let some = some_files design 0 files (idle_of_mems design 0 mems) (flat_map address_of mems) (some_mems design 0 mems) in
    (All-join (IsLate d) (idle_of_files design 0 files) (idle_of_mems design 0 mems) in_files in_mems, some.apart apart)

pub idle_writes_are_late : IdleWritesAreLate
idle_writes_are_late design d mems late = let some = some_writes design 0 mems in (some.each (IsLate d) late.0, some.apart late.1)
