-- The ports of a design, each of them once.
use Rattle.std.proofs.Common.{◌≡◌, ℕ, ◌-◌, ◌<◌, ◌==◌, ◌&&◌, Bool, true, false, if◌then◌else◌, List, [], ◌∷◌, ◌++◌, length, map, filter, flat_map, Option, Some, None, slice_get, option_to_list, refl, ap, sym, ◌∙◌, arith, append-nil, eqb-true}
use Rattle.std.proofs.lemmas.Bool.{and_parts}
use Rattle.std.proofs.lemmas.List.Elements.{filter-append}
use Rattle.std.specs.List.{range_with_len}
use Rattle.std.specs.Option.{option_map_or}
use Rattle.ap_desc.specs.declared.design.Design.{Design}
use Rattle.ap_desc.specs.declared.design.File.{File}
use Rattle.ap_desc.specs.declared.design.Micro.{Micro}
use Rattle.ap_desc.specs.Ports.{micros_in}
use Rattle.ap_model.specs.declared.storage.PortWrite.{PortWrite}
use Rattle.ap_model.specs.declared.storage.WritePort.{WritePort}
use Rattle.ap_model.specs.declared.storage.WritePort.TheVariants as port
use Rattle.ap_model.specs.Ports.{file_groups, file_ports, is_same_port, is_used, is_used_in, mem_ports, reg_ports, stages_from_last, write_ports, writes_through}
use Rattle.ap_model.specs.PortForms.{GoesThroughPorts, Writing, all_writes, stage_ports, through}
use Rattle.ap_model.proofs.ListLemmas.{back_only, fewer, filter_finer, filter_flat_map, filter_map_is, filter_swap, flat_map_filter, flat_map_none, flat_map_same, flat_map_twice, range_one}
use Rattle.ap_model.proofs.WritesApart.{WritesApart}

both_same : (a b c d : ℕ) → ((a == b) && (c == d)) ≡ true → (a ≡ b) × (c ≡ d)
both_same a b c d e = grind (arith, e)

pub same_port : (p q : WritePort) → is_same_port p q ≡ true → p ≡ q
same_port (port.Register a) (port.Register b) e = ap port.Register (eqb-true a b e)
same_port (port.Cell a c) (port.Cell b d) e = let both = both_same a b c d e in λ i. port.Cell (both.0 i) (both.1 i)
same_port (port.Memory a) (port.Memory b) e = ap port.Memory (eqb-true a b e)
same_port (port.Register a) (port.Cell b d) e = cc
same_port (port.Register a) (port.Memory b) e = cc
same_port (port.Cell a c) (port.Register b) e = cc
same_port (port.Cell a c) (port.Memory b) e = cc
same_port (port.Memory a) (port.Register b) e = cc
same_port (port.Memory a) (port.Cell b d) e = cc

-- The writes through ports that pass a test.

test_one : (t : WritePort → Bool) (design : Design) (writing : Writing) → GoesThroughPorts design writing → (q : WritePort) → filter (λ (w : PortWrite). t w.port) (option_to_list (writing q)) ≡ (if t q then option_to_list (writing q) else [])
test_one t design writing theirs q = go (writing q) refl
  where
    none : (b : Bool) → filter (λ (w : PortWrite). t w.port) [] ≡ (if b then [] else [])
    none true = refl
    none false = refl

    go : (o : Option PortWrite) → writing q ≡ o → filter (λ (w : PortWrite). t w.port) (option_to_list o) ≡ (if t q then option_to_list o else [])
    go None e = none (t q)
    go (Some w) e = ap (λ p. if t p then w ∷ [] else []) (theirs.theirs q w e)

pub test_through : (t : WritePort → Bool) (design : Design) (writing : Writing) → GoesThroughPorts design writing → (ports : List WritePort) → filter (λ (w : PortWrite). t w.port) (through writing ports) ≡ through writing (filter t ports)
test_through t design writing theirs ports =
    filter_flat_map (λ (w : PortWrite). t w.port) (λ q. option_to_list (writing q)) ports
    ∙ flat_map_same _ _ (test_one t design writing theirs) ports
    ∙ sym (flat_map_filter (λ q. option_to_list (writing q)) t ports)

-- the ports of the cycle's writes, in their order
abbrev pub all_ports : Design → List WritePort
all_ports design = flat_map (stage_ports design) (stages_from_last design)

pub all_through : (design : Design) (writing : Writing) → all_writes design writing ≡ through writing (all_ports design)
all_through design writing = sym (flat_map_twice (λ q. option_to_list (writing q)) (stage_ports design) (stages_from_last design))

pub tested : (t : WritePort → Bool) (design : Design) (writing : Writing) → GoesThroughPorts design writing → filter (λ (w : PortWrite). t w.port) (all_writes design writing) ≡ through writing (filter t (all_ports design))
tested t design writing theirs = ap (filter (λ (w : PortWrite). t w.port)) (all_through design writing) ∙ test_through t design writing theirs (all_ports design)

-- The ports that pass a test, among all that there are.

of_stages : (t : WritePort → Bool) (design : Design) → filter t (all_ports design) ≡ flat_map (λ stage. filter (is_used_in design stage) (filter t (write_ports design))) (stages_from_last design)
of_stages t design =
    filter_flat_map t (stage_ports design) (stages_from_last design)
    ∙ flat_map_same _ _ (λ stage. filter_swap t (is_used_in design stage) (write_ports design)) (stages_from_last design)

of_kinds : (t : WritePort → Bool) (design : Design) → filter t (write_ports design) ≡ filter t (reg_ports design) ++ filter t (flat_map (file_ports design) (range_with_len 0 (length design.files))) ++ filter t (mem_ports design)
unfolding write_ports
of_kinds t design =
    filter-append t (reg_ports design ++ flat_map (file_ports design) (range_with_len 0 (length design.files))) (mem_ports design)
    ∙ ap (λ front. front ++ filter t (mem_ports design)) (filter-append t (reg_ports design) (flat_map (file_ports design) (range_with_len 0 (length design.files))))

none_of : {X : Type 0} (t : WritePort → Bool) (f : X → WritePort) → ((x : X) → t (f x) ≡ false) → (xs : List X) → filter t (map f xs) ≡ []
none_of t f none xs = filter_map_is t f xs ∙ flat_map_same _ (λ x. []) (λ x. ap (λ b. if b then f x ∷ [] else []) (none x)) xs ∙ flat_map_none (λ x. []) (λ x. refl) xs

none_of_files : (t : WritePort → Bool) (design : Design) → ((file number : ℕ) → t (port.Cell file number) ≡ false) → (files : List ℕ) → filter t (flat_map (file_ports design) files) ≡ []
none_of_files t design none files =
    filter_flat_map t (file_ports design) files
    ∙ flat_map_none (λ file. filter t (file_ports design file)) (λ file. none_of t (port.Cell file) (none file) (range_with_len 0 (option_map_or (λ (f : File). f.writes) (slice_get design.files file) 0))) files

-- a port is there once
abbrev pub IsPort : Design → WritePort → Type 0
IsPort design p = filter (is_same_port p) (write_ports design) ≡ p ∷ []

pub reg_is_port : (design : Design) (reg : ℕ) → reg < length design.regs → IsPort design (port.Register reg)
reg_is_port design reg h =
    of_kinds (is_same_port (port.Register reg)) design
    ∙ (λ i. filter (is_same_port (port.Register reg)) (reg_ports design) ++ none_of_files (is_same_port (port.Register reg)) design (λ file number. refl) (range_with_len 0 (length design.files)) i
    ++ none_of (is_same_port (port.Register reg)) port.Memory (λ mem. refl) (range_with_len 0 (length design.mems)) i)
    ∙ append-nil (filter (is_same_port (port.Register reg)) (reg_ports design) ++ [])
    ∙ append-nil (filter (is_same_port (port.Register reg)) (reg_ports design))
    ∙ filter_map_is (is_same_port (port.Register reg)) port.Register (range_with_len 0 (length design.regs))
    ∙ range_one (λ k. port.Register k ∷ []) reg 0 (length design.regs) (omega arith) (omega (arith, h))

pub mem_is_port : (design : Design) (mem : ℕ) → mem < length design.mems → IsPort design (port.Memory mem)
mem_is_port design mem h =
    of_kinds (is_same_port (port.Memory mem)) design
    ∙ (λ i. none_of (is_same_port (port.Memory mem)) port.Register (λ reg. refl) (range_with_len 0 (length design.regs)) i ++ none_of_files (is_same_port (port.Memory mem)) design (λ file number. refl) (range_with_len 0 (length design.files)) i
    ++ filter (is_same_port (port.Memory mem)) (mem_ports design))
    ∙ filter_map_is (is_same_port (port.Memory mem)) port.Memory (range_with_len 0 (length design.mems))
    ∙ range_one (λ k. port.Memory k ∷ []) mem 0 (length design.mems) (omega arith) (omega (arith, h))

-- the port is one of this file
abbrev pub is_of_file : ℕ → WritePort → Bool
is_of_file file (port.Cell other number) = file == other
is_of_file file _ = false

of_one_file : (design : Design) (file other : ℕ) → filter (is_of_file file) (file_ports design other) ≡ (if file == other then file_ports design other else [])
of_one_file design file other = go (file == other) (range_with_len 0 (option_map_or (λ (f : File). f.writes) (slice_get design.files other) 0)) refl
  where
    go : (b : Bool) (numbers : List ℕ) → (file == other) ≡ b → filter (is_of_file file) (map (λ number. port.Cell other number) numbers) ≡ (if b then map (λ number. port.Cell other number) numbers else [])
    go true [] e = refl
    go false [] e = refl
    go true (n ∷ numbers) e = ap (λ b. if b then port.Cell other n ∷ filter (is_of_file file) (map (λ number. port.Cell other number) numbers) else filter (is_of_file file) (map (λ number. port.Cell other number) numbers)) e ∙ ap (λ rest. port.Cell other n ∷ rest) (go true numbers e)
    go false (n ∷ numbers) e = ap (λ b. if b then port.Cell other n ∷ filter (is_of_file file) (map (λ number. port.Cell other number) numbers) else filter (is_of_file file) (map (λ number. port.Cell other number) numbers)) e ∙ go false numbers e

pub ports_of_file : (design : Design) (file : ℕ) → file < length design.files → filter (is_of_file file) (write_ports design) ≡ file_ports design file
ports_of_file design file h =
    of_kinds (is_of_file file) design
    ∙ (λ i. none_of (is_of_file file) port.Register (λ reg. refl) (range_with_len 0 (length design.regs)) i ++ filter (is_of_file file) (flat_map (file_ports design) (range_with_len 0 (length design.files)))
    ++ none_of (is_of_file file) port.Memory (λ mem. refl) (range_with_len 0 (length design.mems)) i)
    ∙ append-nil (filter (is_of_file file) (flat_map (file_ports design) (range_with_len 0 (length design.files))))
    ∙ filter_flat_map (is_of_file file) (file_ports design) (range_with_len 0 (length design.files))
    ∙ flat_map_same _ _ (of_one_file design file) (range_with_len 0 (length design.files))
    ∙ range_one (file_ports design) file 0 (length design.files) (omega arith) (omega (arith, h))

-- of all ports, those of a file are its groups
pub file_among_all : (design : Design) (file : ℕ) → file < length design.files → filter (is_of_file file) (all_ports design) ≡ file_groups design file
file_among_all design file h =
    of_stages (is_of_file file) design
    ∙ ap (λ ports. flat_map (λ stage. filter (is_used_in design stage) ports) (stages_from_last design)) (ports_of_file design file h)

-- of all ports, a used one is there once
pub used_among_all : (design : Design) (p : WritePort) → WritesApart design → IsPort design p → is_used design p ≡ true → filter (is_same_port p) (all_ports design) ≡ p ∷ []
used_among_all design p apart is_port used =
    let at = apart.some_stage p used in
    of_stages (is_same_port p) design
    ∙ ap (λ ports. flat_map (λ stage. filter (is_used_in design stage) ports) (stages_from_last design)) is_port
    ∙ flat_map_same _ _ (λ stage. one_kept (is_used_in design stage p)) (stages_from_last design)
    ∙ back_only (λ stage. is_used_in design stage p) (p ∷ []) at.0 1 (design.stages - 1) (λ j e. apart.one_stage p at.0 j at.3 e) at.3 at.1 (omega (arith, at.2))
  where
    one_kept : (b : Bool) → (if b then p ∷ [] else []) ≡ (if b then p ∷ [] else [])
    one_kept b = refl

is_same : (n : ℕ) → (n == n) ≡ true
is_same n = grind arith

one_write_port : (file number k : ℕ) → (if (file == file) && (number == k) then port.Cell file k ∷ [] else []) ≡ (if number == k then port.Cell file k ∷ [] else [])
one_write_port file number k = ap (λ b. if b && (number == k) then port.Cell file k ∷ [] else []) (is_same file)

finer : (file number : ℕ) (p : WritePort) → is_same_port (port.Cell file number) p ≡ true → is_of_file file p ≡ true
finer file number (port.Cell f n) e = (and_parts _ _ e).0
finer file number (port.Register r) e = cc
finer file number (port.Memory m) e = cc

pub cell_is_port : (design : Design) (file number : ℕ) → file < length design.files → number < option_map_or (λ (f : File). f.writes) (slice_get design.files file) 0 → IsPort design (port.Cell file number)
cell_is_port design file number h k =
    let count = option_map_or (λ (f : File). f.writes) (slice_get design.files file) 0 in
    filter_finer (is_same_port (port.Cell file number)) (is_of_file file) (finer file number) (write_ports design)
    ∙ ap (filter (is_same_port (port.Cell file number))) (ports_of_file design file h)
    ∙ filter_map_is (is_same_port (port.Cell file number)) (port.Cell file) (range_with_len 0 count)
    ∙ flat_map_same _ _ (one_write_port file number) (range_with_len 0 count)
    ∙ range_one (λ n. port.Cell file n ∷ []) number 0 count (omega arith) (omega (arith, k))

-- a port that no line uses isn't there
unused_in : (design : Design) (stage : ℕ) (p : WritePort) → is_used design p ≡ false → is_used_in design stage p ≡ false
unused_in design stage p unused = fewer (λ (m : Micro). m.stage == stage) (λ (m : Micro). writes_through p m.act) (micros_in design) unused

pub unused_among_all : (design : Design) (p : WritePort) → IsPort design p → is_used design p ≡ false → filter (is_same_port p) (all_ports design) ≡ []
unused_among_all design p is_port unused =
    of_stages (is_same_port p) design
    ∙ ap (λ ports. flat_map (λ stage. filter (is_used_in design stage) ports) (stages_from_last design)) is_port
    ∙ flat_map_none (λ stage. filter (is_used_in design stage) (p ∷ [])) (λ stage. ap (λ b. if b then p ∷ [] else []) (unused_in design stage p unused)) (stages_from_last design)

-- what a cycle writes through a port
pub one_through : (design : Design) (writing : Writing) → WritesApart design → GoesThroughPorts design writing → (p : WritePort) → IsPort design p
    → filter (λ (w : PortWrite). is_same_port p w.port) (all_writes design writing) ≡ option_to_list (writing p)
one_through design writing apart theirs p is_port = tested (is_same_port p) design writing theirs ∙ go (is_used design p) refl
  where
    go : (b : Bool) → is_used design p ≡ b → through writing (filter (is_same_port p) (all_ports design)) ≡ option_to_list (writing p)
    go true e = ap (through writing) (used_among_all design p apart is_port e) ∙ append-nil (option_to_list (writing p))
    go false e = ap (through writing) (unused_among_all design p is_port e) ∙ ap option_to_list (sym (theirs.idle p e))
