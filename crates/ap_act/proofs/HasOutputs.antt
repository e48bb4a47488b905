-- Which outputs there are: those of each port through which some line writes.
use Rattle.std.proofs.Common.{◌≡◌, ℕ, zero, suc, ◌+◌, ◌-◌, ◌<◌, ◌≤◌, ◌==◌, Bool, true, false, if◌then◌else◌, List, [], ◌∷◌, ◌++◌, filter, flat_map, length, map, reverse, take, Some, inl, inr, refl, sym, ap, subst, ◌∙◌, arith}
use Rattle.std.specs.Prelude.{◌⊎◌, slice_get}
use Rattle.std.proofs.lemmas.Bool.{cases_lt, eqb-false, eqb-true}
use Rattle.std.specs.List.{AllByRecursion as Each, range_with_len}
use Rattle.std.proofs.lemmas.Grind.{reverse_onto}
use Rattle.ap_desc.specs.Clean.{IsClean}
use Rattle.ap_desc.specs.declared.design.Design.{Design}
use Rattle.ap_desc.specs.declared.design.Mem.{Mem}
use Rattle.ap_desc.proofs.Members.{In, in_flat_map, in_left, in_right}
use Rattle.ap_model.specs.declared.storage.WritePort.{WritePort}
use Rattle.ap_model.specs.declared.storage.WritePort.TheVariants as port
use Rattle.ap_model.specs.Ports.{file_groups, file_ports, is_same_port, is_used, is_used_in, mem_ports, reg_ports, stages_from_last, write_groups, write_ports}
use Rattle.ap_model.proofs.ListLemmas.{each_both, each_flat_map, each_in_range, each_kept, each_of_map}
use Rattle.ap_model.proofs.PortsOnce.{IsPort}
use Rattle.ap_model.proofs.UsedPorts.{used_is_port}
use Rattle.ap_model.proofs.WritesApart.{writes_apart}
use Rattle.ap_net.specs.Draft.{Draft}
use Rattle.ap_net.proofs.Lists.{All-from}
use Rattle.ap_ctl.specs.Lists.{EachPair}
use Rattle.ap_front.specs.declared.ports.GroupPorts.{GroupPorts}
use Rattle.ap_front.specs.declared.ports.MemPorts.{MemPorts}
use Rattle.ap_front.specs.declared.ports.Ports.{Ports}
use Rattle.ap_front.specs.Ports.{AreMemPorts, ArePortsOf, HasPorts}
use Rattle.ap_act.specs.declared.outputs.PortOutputs.{PortOutputs}
use Rattle.ap_act.specs.Outputs.{group_outputs, mem_outputs, shown_outputs, written_mems}
use Rattle.ap_act.proofs.Lines.{used_somewhere}

-- Members of lists.

each_member : {X : Type 0} (xs : List X) → Each (λ x. In x xs) xs
each_member [] = tt
each_member {X} (x ∷ xs) = (inl refl, All-from (λ y. In y xs) (λ y. In y (x ∷ xs)) (λ y h. inr h) xs (each_member xs))

in_filter : {X : Type 0} (t : X → Bool) (xs : List X) (x : X) → In x xs → t x ≡ true → In x (filter t xs)
in_filter t [] x h on = absurd h
in_filter {X} t (y ∷ xs) x (inl e) on = go (t y) (sym (ap t e) ∙ on)
  where
    go : (b : Bool) → b ≡ true → In x (if b then y ∷ filter t xs else filter t xs)
    go true q = inl e
    go false q = cc
in_filter {X} t (y ∷ xs) x (inr h) on = go (t y) (in_filter t xs x h on)
  where
    go : (b : Bool) → In x (filter t xs) → In x (if b then y ∷ filter t xs else filter t xs)
    go true k = inr k
    go false k = k

in_reverse : {X : Type 0} (xs : List X) (x : X) → In x xs → In x (reverse xs)
in_reverse [] x h = absurd h
in_reverse (y ∷ xs) x (inl e) = subst (In x) (sym (reverse_onto xs y [])) (in_right x (reverse xs) (y ∷ []) (inl e))
in_reverse (y ∷ xs) x (inr h) = subst (In x) (sym (reverse_onto xs y [])) (in_left x (reverse xs) (y ∷ []) (in_reverse xs x h))

in_range : (k a n : ℕ) → a ≤ k → k < a + n → In k (range_with_len a n)
in_range k a zero low high = absurd (omega arith)
in_range k a (suc n) low high = go (a == k) refl (λ l. in_range k (a + 1) n l (omega arith))
  where
    go : (b : Bool) → (a == k) ≡ b → (a + 1 ≤ k → In k (range_with_len (a + 1) n)) → In k (range_with_len a (suc n))
    go true e rest = inl (sym (eqb-true a k e))
    go false e rest = let other : a ≡ k → ⊥ = eqb-false a k e in inr (rest (above a k low other))
      where
        above : (i j : ℕ) → i ≤ j → (i ≡ j → ⊥) → i + 1 ≤ j
        above i j le ne = pick (cases_lt i j)
          where
            pick : (i < j) ⊎ (j ≤ i) → i + 1 ≤ j
            pick (inl lt) = omega arith
            pick (inr back) = absurd (ne (omega arith))

-- one of these outputs is the port's
abbrev pub HasOutput : List PortOutputs → WritePort → Type 0
HasOutput outputs q = (o : PortOutputs) × In o outputs × (o.port ≡ q)

in_pair : (design : Design) (d : Draft) (ps : List WritePort) (groups : List GroupPorts) (q : WritePort) → EachPair (ArePortsOf design d) ps groups → In q ps → HasOutput (map group_outputs groups) q
in_pair design d [] groups q h k = absurd k
in_pair design d (p ∷ ps) [] q h k = absurd h
in_pair design d (p ∷ ps) (g ∷ groups) q h (inl e) = (group_outputs g, inl refl, (h.0).of ∙ sym e)
in_pair design d (p ∷ ps) (g ∷ groups) q h (inr k) = let r = in_pair design d ps groups q h.1 k in (r.0, inr r.1, r.2)

in_written : (design : Design) (d : Draft) (n k : ℕ) (mems : List Mem) (ps : List MemPorts) → EachPair (AreMemPorts d) mems ps → k < length mems → is_used design (port.Memory (n + k)) ≡ true → HasOutput (written_mems design n ps) (port.Memory (n + k))
in_written design d n k [] ps h lt used = absurd (omega arith)
in_written design d n k (m ∷ mems) [] h lt used = absurd h
in_written design d n zero (m ∷ mems) (p ∷ ps) h lt used =
    let here : n + 0 ≡ n = omega arith in
    let on : is_used design (port.Memory n) ≡ true = subst (λ j. is_used design (port.Memory j) ≡ true) here used in
    subst (λ j. HasOutput (written_mems design n (p ∷ ps)) (port.Memory j)) (sym here) (go (is_used design (port.Memory n)) on)
  where
    go : (b : Bool) → b ≡ true → HasOutput (if b then mem_outputs n p ∷ written_mems design (n + 1) ps else written_mems design (n + 1) ps) (port.Memory n)
    go true e = (mem_outputs n p, inl refl, refl)
    go false e = cc
in_written design d n (suc k) (m ∷ mems) (p ∷ ps) h lt used =
    let next : n + suc k ≡ n + 1 + k = omega arith in
    let on : is_used design (port.Memory (n + 1 + k)) ≡ true = subst (λ j. is_used design (port.Memory j) ≡ true) next used in
    let rest : HasOutput (written_mems design (n + 1) ps) (port.Memory (n + 1 + k)) = in_written design d (n + 1) k mems ps h.1 (omega arith) on in
    subst (λ j. HasOutput (written_mems design n (p ∷ ps)) (port.Memory j)) (sym next) (go (is_used design (port.Memory n)) rest)
  where
    go : (b : Bool) → HasOutput (written_mems design (n + 1) ps) (port.Memory (n + 1 + k)) → HasOutput (if b then mem_outputs n p ∷ written_mems design (n + 1) ps else written_mems design (n + 1) ps) (port.Memory (n + 1 + k))
    go true r = (r.0, inr r.1, r.2)
    go false r = r

module _ (design : Design) (d : Draft) (p : Ports) (has : HasPorts design d p) (stage : ℕ) (low : 1 ≤ stage) (high : stage ≤ design.stages - 1) where
  abbrev Goal : WritePort → Type 0
  Goal q = is_used_in design stage q ≡ true → HasOutput (shown_outputs design p) q

  grouped : (q : WritePort) → In q (write_groups design) → HasOutput (shown_outputs design p) q
  grouped q h = let r = in_pair design d (write_groups design) p.groups q has.groups h in (r.0, in_left r.0 (map group_outputs p.groups) (written_mems design 0 p.mems) r.1, r.2)

  in_stages : In stage (stages_from_last design)
  in_stages = in_reverse (range_with_len 1 (design.stages - 1)) stage (in_range stage 1 (design.stages - 1) low (omega (arith, high)))

  reg_goal : (q : WritePort) → In q (reg_ports design) → Goal q
  unfolding write_groups
  reg_goal q h on = grouped q (in_left q (filter (is_used design) (reg_ports design)) (flat_map (file_groups design) (range_with_len 0 (length design.files))) (in_filter (is_used design) (reg_ports design) q h (used_somewhere design stage q on)))

  cell_goal : (file : ℕ) → In file (range_with_len 0 (length design.files)) → (q : WritePort) → In q (file_ports design file) → Goal q
  unfolding write_groups
  cell_goal file there q h on =
      let group : In q (file_groups design file) = in_flat_map (λ s. filter (is_used_in design s) (file_ports design file)) (stages_from_last design) stage q in_stages (in_filter (is_used_in design stage) (file_ports design file) q h on) in
      grouped q (in_right q (filter (is_used design) (reg_ports design)) (flat_map (file_groups design) (range_with_len 0 (length design.files))) (in_flat_map (file_groups design) (range_with_len 0 (length design.files)) file q there group))

  mem_goal : (k : ℕ) → k < length design.mems → Goal (port.Memory k)
  mem_goal k lt on =
      let same : 0 + k ≡ k = omega arith in
      let used = used_somewhere design stage (port.Memory k) on in
      let r = subst (λ j. HasOutput (written_mems design 0 p.mems) (port.Memory j)) same (in_written design d 0 k design.mems p.mems has.mems lt (subst (λ j. is_used design (port.Memory j) ≡ true) (sym same) used)) in
      (r.0, in_right r.0 (map group_outputs p.groups) (written_mems design 0 p.mems) r.1, r.2)

  all_goals : Each Goal (write_ports design)
  unfolding write_ports
  all_goals =
      each_both Goal (reg_ports design ++ flat_map (file_ports design) (range_with_len 0 (length design.files))) (mem_ports design)
      (each_both Goal (reg_ports design) (flat_map (file_ports design) (range_with_len 0 (length design.files)))
      (All-from (λ q. In q (reg_ports design)) Goal reg_goal (reg_ports design) (each_member (reg_ports design)))
      (each_flat_map Goal (file_ports design) (range_with_len 0 (length design.files))
      (All-from (λ f. In f (range_with_len 0 (length design.files))) (λ f. Each Goal (file_ports design f)) (λ f there. All-from (λ q. In q (file_ports design f)) Goal (cell_goal f there) (file_ports design f) (each_member (file_ports design f)))
      (range_with_len 0 (length design.files)) (each_member (range_with_len 0 (length design.files))))))
      (each_of_map Goal port.Memory (range_with_len 0 (length design.mems)) (each_in_range (λ k. Goal (port.Memory k)) 0 (length design.mems) (λ k above below. mem_goal k (omega arith))))

  one_goal : (q : WritePort) → IsPort design q → Goal q
  one_goal q is = (subst (Each Goal) is (each_kept Goal (is_same_port q) (write_ports design) all_goals)).0

-- each port through which lines of a stage write has its outputs
pub output_of : (design : Design) (d : Draft) (p : Ports) (stage : ℕ) (q : WritePort) → IsClean design → HasPorts design d p → is_used_in design stage q ≡ true → HasOutput (shown_outputs design p) q
output_of design d p stage q clean has on =
    let at = (writes_apart design clean).some_stage q (used_somewhere design stage q on) in
    one_goal design d p has at.0 at.1 at.2 q (used_is_port design (clean.sound).instrs q stage on) at.3

-- Lists as the program makes them.

pub mems_more : (design : Design) (n i : ℕ) (mems : List MemPorts) (m : MemPorts) → slice_get mems i ≡ Some m
    → written_mems design n (take (i + 1) mems) ≡ written_mems design n (take i mems) ++ (if is_used design (port.Memory (n + i)) then mem_outputs (n + i) m ∷ [] else [])
mems_more design n i [] m at = cc
mems_more design n zero (x ∷ mems) m at =
    let same : x ≡ m = cc in
    let here : n ≡ n + 0 = omega arith in
    subst (λ (y : MemPorts). (if is_used design (port.Memory n) then mem_outputs n x ∷ [] else []) ≡ (if is_used design (port.Memory (n + 0)) then mem_outputs (n + 0) y ∷ [] else [])) same
    (ap (λ j. if is_used design (port.Memory j) then mem_outputs j x ∷ [] else []) here)
mems_more design n (suc i) (x ∷ mems) m at =
    let next : n + 1 + i ≡ n + suc i = omega arith in
    let more : suc i + 1 ≡ suc (i + 1) = omega arith in
    let rest : written_mems design (n + 1) (take (i + 1) mems) ≡ written_mems design (n + 1) (take i mems) ++ (if is_used design (port.Memory (n + suc i)) then mem_outputs (n + suc i) m ∷ [] else []) =
    subst (λ j. written_mems design (n + 1) (take (i + 1) mems) ≡ written_mems design (n + 1) (take i mems) ++ (if is_used design (port.Memory j) then mem_outputs j m ∷ [] else [])) next (mems_more design (n + 1) i mems m at) in
    ap (λ j. written_mems design n (take j (x ∷ mems))) more ∙ go (is_used design (port.Memory n)) (if is_used design (port.Memory (n + suc i)) then mem_outputs (n + suc i) m ∷ [] else []) rest
  where
    go : (b : Bool) (last : List PortOutputs) → written_mems design (n + 1) (take (i + 1) mems) ≡ written_mems design (n + 1) (take i mems) ++ last
        → (if b then mem_outputs n x ∷ written_mems design (n + 1) (take (i + 1) mems) else written_mems design (n + 1) (take (i + 1) mems)) ≡ (if b then mem_outputs n x ∷ written_mems design (n + 1) (take i mems) else written_mems design (n + 1) (take i mems)) ++ last
    go true last e = ap (λ l. mem_outputs n x ∷ l) e
    go false last e = e
