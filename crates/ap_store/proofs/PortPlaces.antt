-- Where the ports of a register file stand among those of its module.
use Rattle.std.proofs.Common.{◌≡◌, ℕ, zero, suc, ◌+◌, ◌*◌, ◌<◌, false, List, [], ◌∷◌, ◌++◌, length, map, Some, refl, sym, ap, subst, ◌∙◌, arith, length-append}
use Rattle.std.specs.Prelude.{slice_get, option_map}
use Rattle.std.specs.List.{AllByRecursion as Each, flat_map, range_with_len}
use Rattle.std.proofs.lemmas.Option.{slice_get-map}
use Rattle.ap_desc.specs.declared.design.File.{File}
use Rattle.ap_desc.specs.Designs.{index_bits}
use Rattle.ap_net.specs.declared.net.Port.{Port}
use Rattle.ap_net.specs.Modules.{ModuleText, nets_of, port_net, reg_net, wire_net}
use Rattle.ap_net.proofs.Lists.{All-at, get_left, get_right}
use Rattle.ap_net.proofs.Renumbered.{some_within}
use Rattle.ap_unit.specs.Units.{in_port, out_port}
use Rattle.ap_store.specs.FilePorts.{file_ports, read_index, read_index_name, read_ports, read_value, read_value_name, write_enable, write_enable_name, write_index, write_index_name, write_ports, write_value, write_value_name}
use Rattle.ap_store.proofs.Ranges.{each_made}

-- of two for each number the first and the second one
first_of_two : {X : Type 0} (f g : ℕ → X) (a n i : ℕ) → i < n → slice_get (flat_map (λ k. f k ∷ g k ∷ []) (range_with_len a n)) (2 * i) ≡ Some (f (a + i))
first_of_two f g a zero i lt = absurd (omega arith)
first_of_two f g a (suc n) zero lt = let here : a ≡ a + 0 = omega arith in ap (λ k. Some (f k)) here
first_of_two f g a (suc n) (suc i) lt =
    let place : 2 * suc i ≡ suc (suc (2 * i)) = omega arith in
    let here : a + 1 + i ≡ a + suc i = omega arith in
    ap (slice_get (flat_map (λ k. f k ∷ g k ∷ []) (range_with_len a (suc n)))) place ∙ first_of_two f g (a + 1) n i (omega arith) ∙ ap (λ k. Some (f k)) here

second_of_two : {X : Type 0} (f g : ℕ → X) (a n i : ℕ) → i < n → slice_get (flat_map (λ k. f k ∷ g k ∷ []) (range_with_len a n)) (2 * i + 1) ≡ Some (g (a + i))
second_of_two f g a zero i lt = absurd (omega arith)
second_of_two f g a (suc n) zero lt = let here : a ≡ a + 0 = omega arith in ap (λ k. Some (g k)) here
second_of_two f g a (suc n) (suc i) lt =
    let place : 2 * suc i + 1 ≡ suc (suc (2 * i + 1)) = omega arith in
    let here : a + 1 + i ≡ a + suc i = omega arith in
    ap (slice_get (flat_map (λ k. f k ∷ g k ∷ []) (range_with_len a (suc n)))) place ∙ second_of_two f g (a + 1) n i (omega arith) ∙ ap (λ k. Some (g k)) here

-- of three for each number that at a place
of_three : {X : Type 0} (f g h : ℕ → X) (a n i j : ℕ) (x : X) → i < n → j < 3 → slice_get (f (a + i) ∷ g (a + i) ∷ h (a + i) ∷ []) j ≡ Some x → slice_get (flat_map (λ k. f k ∷ g k ∷ h k ∷ []) (range_with_len a n)) (3 * i + j) ≡ Some x
of_three f g h a zero i j x lt few at = absurd (omega arith)
of_three f g h a (suc n) zero j x lt few at =
    let place : 3 * 0 + j ≡ j = omega arith in
    let here : a + 0 ≡ a = omega arith in
    ap (slice_get (flat_map (λ k. f k ∷ g k ∷ h k ∷ []) (range_with_len a (suc n)))) place ∙ get_left (f a ∷ g a ∷ h a ∷ []) (flat_map (λ k. f k ∷ g k ∷ h k ∷ []) (range_with_len (a + 1) n)) j x (subst (λ k. slice_get (f k ∷ g k ∷ h k ∷ []) j ≡ Some x) here at)
of_three f g h a (suc n) (suc i) j x lt few at =
    let place : 3 * suc i + j ≡ suc (suc (suc (3 * i + j))) = omega arith in
    let here : a + suc i ≡ a + 1 + i = omega arith in
    ap (slice_get (flat_map (λ k. f k ∷ g k ∷ h k ∷ []) (range_with_len a (suc n)))) place ∙ of_three f g h (a + 1) n i j x (omega arith) few (subst (λ k. slice_get (f k ∷ g k ∷ h k ∷ []) j ≡ Some x) here at)

length_two : {X : Type 0} (f g : ℕ → X) (a n : ℕ) → length (flat_map (λ k. f k ∷ g k ∷ []) (range_with_len a n)) ≡ 2 * n
length_two f g a zero = refl
length_two f g a (suc n) = let next : suc (suc (2 * n)) ≡ 2 * suc n = omega arith in ap (λ k. suc (suc k)) (length_two f g (a + 1) n) ∙ next

length_three : {X : Type 0} (f g h : ℕ → X) (a n : ℕ) → length (flat_map (λ k. f k ∷ g k ∷ h k ∷ []) (range_with_len a n)) ≡ 3 * n
length_three f g h a zero = refl
length_three f g h a (suc n) = let next : suc (suc (suc (3 * n))) ≡ 3 * suc n = omega arith in ap (λ k. suc (suc (suc k))) (length_three f g h (a + 1) n) ∙ next

module _ (file : File) where
  abbrev reading : List Port
  reading = flat_map (read_ports file) (range_with_len 0 file.reads)

  abbrev writing : List Port
  writing = flat_map (write_ports file) (range_with_len 0 file.writes)

  length_reading : length reading ≡ 2 * file.reads
  length_reading = length_two (λ k. in_port (read_index_name k) (index_bits file)) (λ k. out_port (read_value_name k) file.width) 0 file.reads

  length_writing : length writing ≡ 3 * file.writes
  length_writing = length_three (λ k. in_port (write_enable_name k) 1) (λ k. in_port (write_index_name k) (index_bits file)) (λ k. in_port (write_value_name k) file.width) 0 file.writes

  pub length_ports : length (file_ports file) ≡ 2 * file.reads + 3 * file.writes
  length_ports = length-append reading writing ∙ (λ i. length_reading i + length_writing i)

  pub index_port_at : (n : ℕ) → n < file.reads → slice_get (file_ports file) (read_index n) ≡ Some (in_port (read_index_name n) (index_bits file))
  index_port_at n lt = get_left reading writing (2 * n) _ (first_of_two (λ k. in_port (read_index_name k) (index_bits file)) (λ k. out_port (read_value_name k) file.width) 0 file.reads n lt ∙ (let here : 0 + n ≡ n = omega arith in ap (λ k. Some (in_port (read_index_name k) (index_bits file))) here))

  pub value_port_at : (n : ℕ) → n < file.reads → slice_get (file_ports file) (read_value n) ≡ Some (out_port (read_value_name n) file.width)
  value_port_at n lt = get_left reading writing (2 * n + 1) _ (second_of_two (λ k. in_port (read_index_name k) (index_bits file)) (λ k. out_port (read_value_name k) file.width) 0 file.reads n lt ∙ (let here : 0 + n ≡ n = omega arith in ap (λ k. Some (out_port (read_value_name k) file.width)) here))

  -- a port that stands behind those of the read ports
  behind_reads : (i : ℕ) (p : Port) → slice_get writing i ≡ Some p → slice_get (file_ports file) (2 * file.reads + i) ≡ Some p
  behind_reads i p at = ap (λ k. slice_get (reading ++ writing) (k + i)) (sym length_reading) ∙ get_right reading writing i ∙ at

  write_port_at : (n j : ℕ) (p : Port) → n < file.writes → j < 3 → slice_get (write_ports file n) j ≡ Some p → slice_get (file_ports file) (2 * file.reads + 3 * n + j) ≡ Some p
  write_port_at n j p lt few at =
      let place : 2 * file.reads + 3 * n + j ≡ 2 * file.reads + (3 * n + j) = omega arith in
      let here : n ≡ 0 + n = omega arith in
      ap (slice_get (file_ports file)) place
      ∙ behind_reads (3 * n + j) p (of_three (λ k. in_port (write_enable_name k) 1) (λ k. in_port (write_index_name k) (index_bits file)) (λ k. in_port (write_value_name k) file.width) 0 file.writes n j p lt few (subst (λ k. slice_get (write_ports file k) j ≡ Some p) here at))

  pub enable_port_at : (n : ℕ) → n < file.writes → slice_get (file_ports file) (write_enable file n) ≡ Some (in_port (write_enable_name n) 1)
  enable_port_at n lt = let place : write_enable file n ≡ 2 * file.reads + 3 * n + 0 = omega arith in ap (slice_get (file_ports file)) place ∙ write_port_at n 0 _ lt (omega arith) refl

  pub written_index_at : (n : ℕ) → n < file.writes → slice_get (file_ports file) (write_index file n) ≡ Some (in_port (write_index_name n) (index_bits file))
  written_index_at n lt = write_port_at n 1 _ lt (omega arith) refl

  pub written_value_at : (n : ℕ) → n < file.writes → slice_get (file_ports file) (write_value file n) ≡ Some (in_port (write_value_name n) file.width)
  written_value_at n lt = write_port_at n 2 _ lt (omega arith) refl

  -- all ports behind those of the read ports are inputs
  pub inputs_behind : (i : ℕ) → i < 3 * file.writes → (p : Port) × (slice_get (file_ports file) (2 * file.reads + i) ≡ Some p) × (p.output ≡ false)
  inputs_behind i lt =
      let some = some_within writing i (let l = length_writing in omega arith) in
      let inputs : Each (λ (p : Port). p.output ≡ false) writing = each_made (λ (p : Port). p.output ≡ false) (write_ports file) 0 file.writes (λ k low high. (refl, (refl, (refl, tt)))) in
      (some.0, behind_reads i some.0 some.1, All-at (λ (p : Port). p.output ≡ false) writing i some.0 inputs some.1)

-- a net of a module whose ports are these
pub port_net_at : (m : ModuleText) (ports : List Port) (n : ℕ) (p : Port) → m.ports ≡ ports → slice_get ports n ≡ Some p → slice_get (nets_of m) n ≡ Some (port_net p)
port_net_at m ports n p is at =
    get_left (map port_net m.ports ++ map wire_net m.wires) (map reg_net m.regs) n (port_net p)
    (get_left (map port_net m.ports) (map wire_net m.wires) n (port_net p) (slice_get-map port_net m.ports n ∙ ap (option_map port_net) (ap (λ l. slice_get l n) is ∙ at)))
