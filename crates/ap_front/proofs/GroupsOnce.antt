-- The write groups of a clean design: no port stands twice, and each is there.
use Rattle.std.proofs.Common.{◌≡◌, ◌≢◌, ℕ, ◌-◌, ◌<◌, ◌≤◌, Bool, true, false, List, [], ◌∷◌, length, filter, flat_map, reverse, Option, Some, refl, sym, ap, subst, ◌∙◌, arith}
use Rattle.std.specs.Prelude.{slice_get, unwrap_or}
use Rattle.std.specs.List.{AllByRecursion as Each, range_with_len}
use Rattle.std.specs.Option.{option_map_or}
use Rattle.std.proofs.lemmas.Grind.{reverse_onto}
use Rattle.ap_desc.specs.Clean.{IsClean}
use Rattle.ap_desc.specs.declared.design.Design.{Design}
use Rattle.ap_desc.specs.declared.design.File.{File}
use Rattle.ap_model.specs.declared.storage.WritePort.{WritePort}
use Rattle.ap_model.specs.declared.storage.WritePort.TheVariants as port
use Rattle.ap_model.specs.Ports.{file_groups, file_ports, is_used, is_used_in, reg_ports, stages_from_last, write_count, write_groups}
use Rattle.ap_model.proofs.WritesApart.{writes_apart}
use Rattle.ap_net.proofs.Lists.{All-join}
use Rattle.ap_store.proofs.FileShapes.{shape_of}
use Rattle.ap_front.proofs.Apart.{Once, each_filter, each_flat, each_map, each_range, filter_each, once_filter, once_flat, once_join, once_map, once_range}
use Rattle.ap_front.proofs.Flying.{there}
use Rattle.ap_front.proofs.Grouping.{file_within}

-- Lists the other way round.

each_reverse : {X : Type 0} (P : X → Type 0) (xs : List X) → Each P xs → Each P (reverse xs)
each_reverse P [] h = tt
each_reverse P (x ∷ xs) h = subst (Each P) (sym (reverse_onto xs x [])) (All-join P (reverse xs) (x ∷ []) (each_reverse P xs h.1) (h.0, tt))

once_reverse : {X : Type 0} (xs : List X) → Once xs → Once (reverse xs)
once_reverse [] h = tt
once_reverse {X} (x ∷ xs) h = subst Once (sym (reverse_onto xs x [])) (once_join (reverse xs) (x ∷ []) (each_reverse (λ y. Each (λ z. z ≢ y) (x ∷ [])) xs (turned xs h.0)) (once_reverse xs h.1) (tt, tt))
  where
    turned : (zs : List X) → Each (λ y. y ≢ x) zs → Each (λ y. Each (λ z. z ≢ y) (x ∷ [])) zs
    turned [] k = tt
    turned (z ∷ zs) k = (((λ e. k.0 (sym e)), tt), turned zs k.1)

-- a write port of a register or file that is there
abbrev pub IsThere : Design → WritePort → Type 0
IsThere design (port.Register reg) = reg < length design.regs
IsThere design (port.Cell file number) = (file < length design.files) × (number < 2)
IsThere design (port.Memory mem) = ⊥

-- the port is of this file, and used in this stage
abbrev OfFile : ℕ → WritePort → Type 0
OfFile file p = (number : ℕ) × (p ≡ port.Cell file number)

file_of : WritePort → ℕ
file_of (port.Register reg) = 0
file_of (port.Cell file number) = file
file_of (port.Memory mem) = 0

one_file : (f g : ℕ) (p : WritePort) → OfFile f p → OfFile g p → f ≡ g
unfolding file_of
one_file f g p h k = ap file_of (sym h.1 ∙ k.1)

reg_of : WritePort → ℕ
reg_of (port.Register reg) = reg
reg_of (port.Cell file number) = 0
reg_of (port.Memory mem) = 0

number_of : WritePort → ℕ
number_of (port.Register reg) = 0
number_of (port.Cell file number) = number
number_of (port.Memory mem) = 0

one_reg : (a b : ℕ) → port.Register a ≡ port.Register b → a ≡ b
unfolding reg_of
one_reg a b e = ap reg_of e

one_number : (file a b : ℕ) → port.Cell file a ≡ port.Cell file b → a ≡ b
unfolding number_of
one_number file a b e = ap number_of e

is_cell : WritePort → Bool
is_cell (port.Register reg) = false
is_cell (port.Cell file number) = true
is_cell (port.Memory mem) = false

no_cell_is_register : (file number reg : ℕ) → port.Cell file number ≡ port.Register reg → ⊥
unfolding is_cell
no_cell_is_register file number reg e = let clash : true ≡ false = ap is_cell e in cc

-- Registers.

regs_once : (design : Design) → Once (filter (is_used design) (reg_ports design))
regs_once design = once_filter (is_used design) (reg_ports design) (once_map port.Register one_reg (range_with_len 0 (length design.regs)) (once_range 0 (length design.regs)))

regs_there : (design : Design) → Each (IsThere design) (filter (is_used design) (reg_ports design))
regs_there design = filter_each (IsThere design) (is_used design) (reg_ports design) (each_map (IsThere design) port.Register (range_with_len 0 (length design.regs)) (each_range (λ k. k < length design.regs) 0 (length design.regs) (λ k lt. omega arith)))

regs_are : (design : Design) → Each (λ p. (reg : ℕ) × (p ≡ port.Register reg)) (filter (is_used design) (reg_ports design))
regs_are design = filter_each (λ p. (reg : ℕ) × (p ≡ port.Register reg)) (is_used design) (reg_ports design) (each_map (λ p. (reg : ℕ) × (p ≡ port.Register reg)) port.Register (range_with_len 0 (length design.regs)) (each_range (λ k. (reg : ℕ) × (port.Register k ≡ port.Register reg)) 0 (length design.regs) (λ k lt. (k, refl))))

-- Files.

file_once : (design : Design) (file : ℕ) → IsClean design → Once (file_groups design file)
file_once design file clean =
    let apart = writes_apart design clean in
    once_flat (λ stage p. is_used_in design stage p ≡ true) (λ s t p h k. apart.one_stage p s t h k) (λ stage. filter (is_used_in design stage) (file_ports design file)) (stages_from_last design)
    (once_reverse (range_with_len 1 (design.stages - 1)) (once_range 1 (design.stages - 1)))
    (every (λ stage. Each (λ p. is_used_in design stage p ≡ true) (filter (is_used_in design stage) (file_ports design file))) (λ stage. each_filter (is_used_in design stage) (file_ports design file)) (stages_from_last design))
    (every (λ stage. Once (filter (is_used_in design stage) (file_ports design file))) (λ stage. once_filter (is_used_in design stage) (file_ports design file) ports) (stages_from_last design))
  where
    every : (P : ℕ → Type 0) → ((n : ℕ) → P n) → (ns : List ℕ) → Each P ns
    every P f [] = tt
    every P f (n ∷ ns) = (f n, every P f ns)

    ports : Once (file_ports design file)
    ports = once_map (port.Cell file) (one_number file) (range_with_len 0 (write_count design file)) (once_range 0 (write_count design file))

-- what holds of each port of a file holds of its groups
file_each : (design : Design) (file : ℕ) (P : WritePort → Type 0) → ((number : ℕ) → number < write_count design file → P (port.Cell file number)) → Each P (file_groups design file)
file_each design file P f = each_flat P (λ stage. filter (is_used_in design stage) (file_ports design file)) (stages_from_last design)
    (every (λ stage. filter_each P (is_used_in design stage) (file_ports design file) (each_map P (port.Cell file) (range_with_len 0 (write_count design file)) (each_range (λ n. P (port.Cell file n)) 0 (write_count design file) (λ k lt. f k (omega arith))))) (stages_from_last design))
  where
    every : ((n : ℕ) → Each P (filter (is_used_in design n) (file_ports design file))) → (ns : List ℕ) → Each (λ n. Each P (filter (is_used_in design n) (file_ports design file))) ns
    every g [] = tt
    every g (n ∷ ns) = (g n, every g ns)

few_writes : (design : Design) (file : ℕ) → IsClean design → file < length design.files → write_count design file ≤ 2
few_writes design file clean lt =
    let f : File = unwrap_or (slice_get design.files file) no_file in
    let at : slice_get design.files file ≡ Some f = there design.files file no_file lt in
    subst (λ n. n ≤ 2) (sym (ap (λ (o : Option File). option_map_or (λ (x : File). x.writes) o 0) at)) (shape_of f (file_within design file f clean at)).few_writes
  where
    no_file : File
    no_file = record { name = []; width = 0; cells = 0; reads = 0; writes = 0 }

-- All.

abbrev cells_of : Design → List WritePort
cells_of design = flat_map (file_groups design) (range_with_len 0 (length design.files))

cells_once : (design : Design) → IsClean design → Once (cells_of design)
cells_once design clean = once_flat OfFile one_file (file_groups design) (range_with_len 0 (length design.files)) (once_range 0 (length design.files))
    (each_range (λ file. Each (OfFile file) (file_groups design file)) 0 (length design.files) (λ file lt. file_each design file (OfFile file) (λ number less. (number, refl))))
    (each_range (λ file. Once (file_groups design file)) 0 (length design.files) (λ file lt. file_once design file clean))

cells_there : (design : Design) → IsClean design → Each (IsThere design) (cells_of design)
cells_there design clean = each_flat (IsThere design) (file_groups design) (range_with_len 0 (length design.files))
    (each_range (λ file. Each (IsThere design) (file_groups design file)) 0 (length design.files) (λ file lt. let few = few_writes design file clean (omega arith) in file_each design file (IsThere design) (λ number less. (omega arith, omega arith))))

cells_are : (design : Design) → Each (λ p. (file : ℕ) × OfFile file p) (cells_of design)
cells_are design = each_flat (λ p. (file : ℕ) × OfFile file p) (file_groups design) (range_with_len 0 (length design.files))
    (each_range (λ file. Each (λ p. (f : ℕ) × OfFile f p) (file_groups design file)) 0 (length design.files) (λ file lt. file_each design file (λ p. (f : ℕ) × OfFile f p) (λ number less. (file, (number, refl)))))

pub groups_once : (design : Design) → IsClean design → Once (write_groups design)
unfolding write_groups
groups_once design clean = once_join (filter (is_used design) (reg_ports design)) (cells_of design) (apart (filter (is_used design) (reg_ports design)) (regs_are design)) (regs_once design) (cells_once design clean)
  where
    cells_apart : (reg : ℕ) (p : WritePort) → p ≡ port.Register reg → (ps : List WritePort) → Each (λ q. (file : ℕ) × OfFile file q) ps → Each (λ q. q ≢ p) ps
    cells_apart reg p is [] h = tt
    cells_apart reg p is (q ∷ ps) h = ((λ e. no_cell_is_register h.0.0 h.0.1.0 reg (sym h.0.1.1 ∙ e ∙ is)), cells_apart reg p is ps h.1)

    apart : (ps : List WritePort) → Each (λ p. (reg : ℕ) × (p ≡ port.Register reg)) ps → Each (λ p. Each (λ q. q ≢ p) (cells_of design)) ps
    apart [] h = tt
    apart (p ∷ ps) h = (cells_apart h.0.0 p h.0.1 (cells_of design) (cells_are design), apart ps h.1)

pub groups_there : (design : Design) → IsClean design → Each (IsThere design) (write_groups design)
unfolding write_groups
groups_there design clean = All-join (IsThere design) (filter (is_used design) (reg_ports design)) (cells_of design) (regs_there design) (cells_there design clean)
