-- The groups of a row, port by port.
use Rattle.std.proofs.Common.{◌≡◌, ℕ, ◌+◌, ◌<◌, List, [], ◌∷◌, ◌++◌, length, map, filter, flat_map, Option, Some, None, slice_get, option_to_list, refl, ap, ◌∙◌, arith}
use Rattle.std.specs.List.{AllByRecursion as Each, range_with_len}
use Rattle.std.specs.Option.{option_map_or}
use Rattle.ap_desc.specs.declared.design.Design.{Design}
use Rattle.ap_desc.specs.declared.design.File.{File}
use Rattle.ap_model.specs.declared.storage.PortWrite.{PortWrite}
use Rattle.ap_model.specs.declared.storage.WritePort.{WritePort}
use Rattle.ap_model.specs.declared.storage.WritePort.TheVariants as port
use Rattle.ap_model.specs.Ports.{file_groups, file_ports, is_same_port, is_used, is_used_in, mem_ports, reg_ports, row_ports, stages_from_last, write_groups}
use Rattle.ap_model.specs.ShownRows.{group_writes, shown_write}
use Rattle.ap_model.specs.PortForms.{GoesThroughPorts, Writing, all_writes, shown_ports, shown_through}
use Rattle.ap_model.proofs.ListLemmas.{each_all, each_both, each_flat_map, each_in_range, each_kept, each_of_map}
use Rattle.ap_model.proofs.PortsOnce.{IsPort, cell_is_port, mem_is_port, one_through, reg_is_port}
use Rattle.ap_model.proofs.WritesApart.{WritesApart}

groups_shown : (writing : Writing) (writes : List PortWrite) (group : ℕ) (ports : List WritePort) → Each (λ p. filter (λ (w : PortWrite). is_same_port p w.port) writes ≡ option_to_list (writing p)) ports
    → group_writes group ports writes ≡ shown_ports writing group ports
groups_shown writing writes group [] each = refl
groups_shown writing writes group (p ∷ ports) each =
    let rest = groups_shown writing writes (group + 1) ports each.1 in
    let here = ap (map (shown_write group)) each.0 ∙ go (writing p) in
    λ i. here i ++ rest i
  where
    go : (o : Option PortWrite) → map (shown_write group) (option_to_list o) ≡ shown_through group o
    go None = refl
    go (Some w) = refl

pub files_are_ports : (design : Design) (file : ℕ) → file < length design.files → Each (IsPort design) (file_ports design file)
files_are_ports design file h =
    let count = option_map_or (λ (f : File). f.writes) (slice_get design.files file) 0 in
    each_of_map (IsPort design) (port.Cell file) (range_with_len 0 count) (each_in_range (λ number. IsPort design (port.Cell file number)) 0 count (λ k low high. cell_is_port design file k h (omega (arith, high))))

row_are_ports : (design : Design) → Each (IsPort design) (row_ports design)
unfolding write_groups
row_are_ports design =
    let regs = each_kept (IsPort design) (is_used design) (reg_ports design)
    (each_of_map (IsPort design) port.Register (range_with_len 0 (length design.regs)) (each_in_range (λ reg. IsPort design (port.Register reg)) 0 (length design.regs) (λ k low high. reg_is_port design k (omega (arith, high))))) in
    let files = each_flat_map (IsPort design) (file_groups design) (range_with_len 0 (length design.files))
    (each_in_range (λ file. Each (IsPort design) (file_groups design file)) 0 (length design.files) (λ k low high.
    each_flat_map (IsPort design) (λ stage. filter (is_used_in design stage) (file_ports design k)) (stages_from_last design)
    (each_all (λ stage. Each (IsPort design) (filter (is_used_in design stage) (file_ports design k))) (λ stage. each_kept (IsPort design) (is_used_in design stage) (file_ports design k) (files_are_ports design k (omega (arith, high)))) (stages_from_last design)))) in
    let mems = each_of_map (IsPort design) port.Memory (range_with_len 0 (length design.mems)) (each_in_range (λ mem. IsPort design (port.Memory mem)) 0 (length design.mems) (λ k low high. mem_is_port design k (omega (arith, high)))) in
    each_both (IsPort design) (write_groups design) (mem_ports design) (each_both (IsPort design) (filter (is_used design) (reg_ports design)) (flat_map (file_groups design) (range_with_len 0 (length design.files))) regs files) mems

each_through : (design : Design) (writing : Writing) → WritesApart design → GoesThroughPorts design writing → (ports : List WritePort) → Each (IsPort design) ports
    → Each (λ p. filter (λ (w : PortWrite). is_same_port p w.port) (all_writes design writing) ≡ option_to_list (writing p)) ports
each_through design writing apart theirs [] each = tt
each_through design writing apart theirs (p ∷ ports) each = (one_through design writing apart theirs p each.0, each_through design writing apart theirs ports each.1)

-- the groups of a row, port by port
pub groups_by_ports : (design : Design) (writing : Writing) → WritesApart design → GoesThroughPorts design writing → group_writes 0 (row_ports design) (all_writes design writing) ≡ shown_ports writing 0 (row_ports design)
groups_by_ports design writing apart theirs = groups_shown writing (all_writes design writing) 0 (row_ports design) (each_through design writing apart theirs (row_ports design) (row_are_ports design))
