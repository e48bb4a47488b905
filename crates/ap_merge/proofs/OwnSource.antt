-- With one instruction's condition at 1, an operand that it hands in is selected.
use Rattle.std.proofs.Common.{◌≡◌, ℕ, zero, suc, ◌+◌, ◌<◌, ◌≤◌, ◌⊎◌, ◌==◌, ◌&&◌, Bool, true, false, cond, List, [], ◌∷◌, ◌++◌, length, filter, filter_map, flat_map, if◌then◌else◌, option_map, slice_get, Option, Some, None, inl, inr, refl, sym, ap, subst, ◌∙◌, arith, eqb-true, length-append}
use Rattle.std.specs.Prelude.{Contains}
use Rattle.std.specs.List.{AllByRecursion as Each, cons_option, enumerate_from}
use Rattle.std.specs.Option.{option_map_or}
use Rattle.std.proofs.lemmas.Bool.{and_from, and_parts, cases_lt, eq-eqb}
use Rattle.std.proofs.lemmas.Option.{same_Some, slice_get-get_or, slice_get_within}
use Rattle.ap_desc.proofs.Members.{In, contains_in, each_contained, each_maps, get_in, in_contains}
use Rattle.ap_desc.proofs.OnePort.{clean_apart}
use Rattle.ap_desc.specs.Clean.{IsClean}
use Rattle.ap_desc.specs.Ports.{Port, file_read, file_write, is_same_port, mem_read, mem_write, port_of, reg_write, transfer, unit}
use Rattle.ap_desc.specs.PortsApart.{uses_port}
use Rattle.ap_desc.specs.declared.design.Act.{Act}
use Rattle.ap_desc.specs.declared.design.Arg.{Arg}
use Rattle.ap_desc.specs.declared.design.Design.{Design}
use Rattle.ap_desc.specs.declared.design.Instr.{Instr}
use Rattle.ap_desc.specs.declared.design.Micro.{Micro}
use Rattle.ap_path.proofs.UseFacts.{filter_from, flat_from, in_filtered, use_is_of}
use Rattle.ap_path.specs.Tables.{ArePathsOf}
use Rattle.ap_path.specs.Uses.{guard_of, handed, operand_at, path_port, use_of, uses_in, uses_of}
use Rattle.ap_path.specs.declared.table.PathTable.{PathTable}
use Rattle.ap_path.specs.declared.table.PathPort.{PathPort}
use Rattle.ap_path.specs.declared.table.PathPort.TheVariants as path
use Rattle.ap_path.specs.declared.table.PathUse.{PathUse}
use Rattle.ap_merge.specs.Choices.{AreChoices, IsChoice, IsOnlyInstr, is_entry_on, is_port, source_of, sources_of}
use Rattle.ap_merge.specs.Selects.{selected}
use Rattle.ap_merge.specs.declared.table.Choice.{Choice}
use Rattle.ap_merge.specs.declared.table.Source.{Source}
use Rattle.ap_merge.proofs.Gathered.{handed_source}

abbrev the_source : ℕ → Arg → Source
the_source instr a = record { instr = instr; from = a }

-- ports and their names
abbrev port_named : PathPort → Port
port_named (path.Unit u) = unit u
port_named (path.FileRead file port) = file_read file port
port_named (path.FileWrite file port) = file_write file port
port_named (path.RegWrite reg) = reg_write reg
port_named (path.MemRead mem) = mem_read mem
port_named (path.MemWrite mem) = mem_write mem
port_named path.Transfer = transfer

swapped : (a b : ℕ) → (a == b) ≡ true → (b == a) ≡ true
swapped a b e = eq-eqb b a (sym (eqb-true a b e))

both_swapped : (a b p q : ℕ) → ((a == b) && (p == q)) ≡ true → ((b == a) && (q == p)) ≡ true
both_swapped a b p q e = let (first, second) = and_parts (a == b) (p == q) e in and_from (b == a) (q == p) (swapped a b first) (swapped p q second)

-- a line whose port has the name uses the port
same_named : (q : Port) (port : PathPort) → is_port (path_port q) port ≡ true → is_same_port (port_named port) q ≡ true
same_named (unit a) (path.Unit b) e = swapped a b e
same_named (file_read a p) (path.FileRead b q) e = both_swapped a b p q e
same_named (file_write a p) (path.FileWrite b q) e = both_swapped a b p q e
same_named (reg_write a) (path.RegWrite b) e = swapped a b e
same_named (mem_read a) (path.MemRead b) e = swapped a b e
same_named (mem_write a) (path.MemWrite b) e = swapped a b e
same_named transfer path.Transfer e = refl
same_named _ _ e = absurd cc

-- Of the lines of an instruction one hands something to the port at most.

no_shorter : {X : Type 0} (b : Bool) (x : X) (xs : List X) → length xs ≤ length (cond b (x ∷ xs) xs)
no_shorter true x xs = omega arith
no_shorter false x xs = omega arith

one_longer : {X : Type 0} (o : Option X) (xs : List X) → length (cons_option o xs) ≤ length xs + 1
one_longer None xs = omega arith
one_longer (Some x) xs = omega arith

abbrev lines_uses : ℕ → ℕ → List Micro → List PathUse
lines_uses number n micros = filter_map (λ (line : ℕ × Micro). use_of number line.0 line.1) (enumerate_from n micros)

few_of_lines : (port : PathPort) (operand number n : ℕ) (micros : List Micro) → length (sources_of (lines_uses number n micros) port operand) ≤ length (filter (λ (m : Micro). uses_port (port_named port) m.act) micros)
few_of_lines port operand number n [] = omega arith
few_of_lines port operand number n (m ∷ micros) = go (port_of m.act) refl (few_of_lines port operand number (n + 1) micros)
  where
    made : PathPort → PathUse
    made p = record { instr = number; micro = n; stage = m.stage; port = p; operands = handed m.act; guard = guard_of m.act }

    here : (q : Port) → port_of m.act ≡ Some q → (b : Bool) → is_port (path_port q) port ≡ b
        → length (sources_of (lines_uses number (n + 1) micros) port operand) ≤ length (filter (λ (x : Micro). uses_port (port_named port) x.act) micros)
        → length (cons_option (if b then option_map (λ (a : Arg). the_source number a) (operand_at (made (path_port q)) operand) else None) (sources_of (lines_uses number (n + 1) micros) port operand))
        ≤ length (cond (uses_port (port_named port) m.act) (m ∷ filter (λ (x : Micro). uses_port (port_named port) x.act) micros) (filter (λ (x : Micro). uses_port (port_named port) x.act) micros))
    here q is true named rest =
        let uses : uses_port (port_named port) m.act ≡ true = ap (λ o. option_map_or (is_same_port (port_named port)) o false) is ∙ same_named q port named in
        let more = one_longer (option_map (λ (a : Arg). the_source number a) (operand_at (made (path_port q)) operand)) (sources_of (lines_uses number (n + 1) micros) port operand) in
        rw uses (omega arith)
    here q is false named rest =
        let longer = no_shorter (uses_port (port_named port) m.act) m (filter (λ (x : Micro). uses_port (port_named port) x.act) micros) in
        omega arith

    go : (o : Option Port) → port_of m.act ≡ o → length (sources_of (lines_uses number (n + 1) micros) port operand) ≤ length (filter (λ (x : Micro). uses_port (port_named port) x.act) micros)
        → length (sources_of (cons_option (option_map made (option_map path_port o)) (lines_uses number (n + 1) micros)) port operand)
        ≤ length (cond (uses_port (port_named port) m.act) (m ∷ filter (λ (x : Micro). uses_port (port_named port) x.act) micros) (filter (λ (x : Micro). uses_port (port_named port) x.act) micros))
    go None is rest =
        let longer = no_shorter (uses_port (port_named port) m.act) m (filter (λ (x : Micro). uses_port (port_named port) x.act) micros) in
        omega arith
    go (Some q) is rest = here q is (is_port (path_port q) port) refl rest

-- Entries of one instruction stand at one place.

-- an element of two lists one after the other
beside : {X : Type 0} (xs ys : List X) (i : ℕ) (x : X) → slice_get (xs ++ ys) i ≡ Some x → ((i < length xs) × (slice_get xs i ≡ Some x)) ⊎ ((k : ℕ) × (i ≡ length xs + k) × (slice_get ys k ≡ Some x))
beside [] ys i x at = inr (i, omega arith, at)
beside (z ∷ xs) ys zero x at = inl (omega arith, at)
beside (z ∷ xs) ys (suc i) x at = elim (beside xs ys i x at) [
  | inl first ↦ let low = first.0 in inl (omega arith, first.1)
  | inr second ↦ let place = second.1 in inr (second.0, omega arith, second.2)
]

filter_map_beside : {X Y : Type 0} (f : X → Option Y) (xs ys : List X) → filter_map f (xs ++ ys) ≡ filter_map f xs ++ filter_map f ys
filter_map_beside f [] ys = refl
filter_map_beside {X} {Y} f (x ∷ xs) ys = ap (cons_option (f x)) (filter_map_beside f xs ys) ∙ go (f x)
  where
    go : (o : Option Y) → cons_option o (filter_map f xs ++ filter_map f ys) ≡ cons_option o (filter_map f xs) ++ filter_map f ys
    go None = refl
    go (Some y) = refl

abbrev all_uses : ℕ → List Instr → List PathUse
all_uses n instrs = flat_map (λ (i : ℕ × Instr). uses_in i.0 i.1.micros) (enumerate_from n instrs)

-- an entry is of the instruction of the use that it comes from
entry_instr : (port : PathPort) (operand : ℕ) (used : PathUse) (s : Source) → source_of port operand used ≡ Some s → s.instr ≡ used.instr
entry_instr port operand used s gives = go (is_port used.port port) (operand_at used operand) gives
  where
    go : (b : Bool) (o : Option Arg) → (if b then option_map (λ (a : Arg). the_source used.instr a) o else None) ≡ Some s → s.instr ≡ used.instr
    go false o e = absurd cc
    go true None e = absurd cc
    go true (Some a) e = ap (λ (x : Source). x.instr) (sym (same_Some (the_source used.instr a) s e))

-- of an instruction's lines
here_instr : (port : PathPort) (operand number n : ℕ) (micros : List Micro) (s : Source) → In s (sources_of (lines_uses number n micros) port operand) → s.instr ≡ number
here_instr port operand number n micros s there =
    let (used, is_in, gives) = filter_from (source_of port operand) (lines_uses number n micros) s there in
    let (line, line_in, made) = filter_from (λ (l : ℕ × Micro). use_of number l.0 l.1) (enumerate_from n micros) used is_in in
    let is = use_is_of number line.0 line.1 used made in
    entry_instr port operand used s gives ∙ is.instr

not_before : {X : Type 0} (n : ℕ) (xs : List X) (p : ℕ × X) → In p (enumerate_from n xs) → n ≤ p.0
not_before n [] p there = absurd there
not_before {X} n (x ∷ xs) p (inl e) = let same : p.0 ≡ n = ap (λ (q : ℕ × X). q.0) e in omega arith
not_before n (x ∷ xs) p (inr later) = let more = not_before (n + 1) xs p later in omega arith

later_instr : (port : PathPort) (operand n : ℕ) (instrs : List Instr) (s : Source) → In s (sources_of (all_uses n instrs) port operand) → n ≤ s.instr
later_instr port operand n instrs s there =
    let (used, is_in, gives) = filter_from (source_of port operand) (all_uses n instrs) s there in
    let (instr, instr_in, in_it) = flat_from (λ (i : ℕ × Instr). uses_in i.0 i.1.micros) (enumerate_from n instrs) used is_in in
    let (line, line_in, made) = filter_from (λ (l : ℕ × Micro). use_of instr.0 l.0 l.1) (enumerate_from 0 instr.1.micros) used in_it in
    let is = use_is_of instr.0 line.0 line.1 used made in
    let low = not_before n instrs instr instr_in in
    let same : s.instr ≡ instr.0 = entry_instr port operand used s gives ∙ is.instr in
    omega arith

abbrev OnceEach : PathPort → List Instr → Type 0
OnceEach port instrs = Each (λ (i : Instr). length (filter (λ (m : Micro). uses_port (port_named port) m.act) i.micros) ≤ 1) instrs

same_place : (port : PathPort) (operand n : ℕ) (instrs : List Instr) → OnceEach port instrs → (i j : ℕ) (x y : Source) → slice_get (sources_of (all_uses n instrs) port operand) i ≡ Some x → slice_get (sources_of (all_uses n instrs) port operand) j ≡ Some y
    → x.instr ≡ y.instr → i ≡ j
same_place port operand n [] once i j x y first second same = absurd cc
same_place port operand n (instr ∷ instrs) once i j x y first second same =
    elim (beside here later i x (ap (λ xs. slice_get xs i) (sym whole) ∙ first)) [
      | inl one ↦ elim (beside here later j y (ap (λ xs. slice_get xs j) (sym whole) ∙ second)) [
        | inl other ↦ let a = one.0 in let b = other.0 in let most = few in omega arith
        | inr other ↦ absurd (apart x y (get_in here i x one.1) (get_in later other.0 y other.2) same)
      ]
      | inr one ↦ elim (beside here later j y (ap (λ xs. slice_get xs j) (sym whole) ∙ second)) [
        | inl other ↦ absurd (apart y x (get_in here j y other.1) (get_in later one.0 x one.2) (sym same))
        | inr other ↦
            let a = one.1 in
            let b = other.1 in
            let ranks : one.0 ≡ other.0 = same_place port operand (n + 1) instrs once.1 one.0 other.0 x y one.2 other.2 same in
            omega arith
      ]
    ]
  where
    here : List Source
    here = sources_of (uses_in n instr.micros) port operand

    later : List Source
    later = sources_of (all_uses (n + 1) instrs) port operand

    whole : sources_of (all_uses n (instr ∷ instrs)) port operand ≡ here ++ later
    whole = filter_map_beside (source_of port operand) (uses_in n instr.micros) (all_uses (n + 1) instrs)

    few : length here ≤ 1
    few = let lines = few_of_lines port operand n 0 instr.micros in let one = once.0 in omega arith

    apart : (a b : Source) → In a here → In b later → a.instr ≡ b.instr → ⊥
    apart a b first second is_same =
        let low = later_instr port operand (n + 1) instrs b second in
        let at = here_instr port operand n 0 instr.micros a first in
        omega arith

-- the entry of the instruction whose condition alone is 1 is selected
pub own_selected : (design : Design) (table : PathTable) (choices : List Choice) (c : Choice) (used : PathUse) (a : Arg) (on : ℕ → Bool) → IsClean design → ArePathsOf design table → AreChoices table.uses choices
    → Contains choices c → Contains table.uses used → c.port ≡ used.port → operand_at used c.operand ≡ Some a → IsOnlyInstr on used.instr
    → slice_get c.entries (selected (is_entry_on on c.entries) c.select) ≡ Some (the_source used.instr a)
own_selected design table choices c used a on clean paths merged c_there used_there port at only =
    let is = each_contained (IsChoice table.uses) choices c merged.each c_there in
    let entries : c.entries ≡ sources_of (uses_of design) c.port c.operand = is.entries ∙ ap (λ uses. sources_of uses c.port c.operand) paths.uses in
    let own = in_filtered (source_of c.port c.operand) (uses_of design) used (the_source used.instr a) (subst (In used) paths.uses (contains_in table.uses used used_there)) (handed_source used c.port c.operand a (sym port) at) in
    let (place, low, is_there) = in_contains c.entries (the_source used.instr a) (subst (In (the_source used.instr a)) (sym entries) own) in
    let here : slice_get c.entries place ≡ Some (the_source used.instr a) = slice_get-get_or c.entries place (the_source used.instr a) low ∙ ap Some is_there in
    let once = each_maps (λ (i : Instr). (p : Port) → length (filter (λ (m : Micro). uses_port p m.act) i.micros) ≤ 1) (λ (i : Instr). length (filter (λ (m : Micro). uses_port (port_named c.port) m.act) i.micros) ≤ 1) (λ i h. h (port_named c.port)) design.instrs (clean_apart design clean).once in
    let chosen : selected (is_entry_on on c.entries) c.select ≡ place = is.selects (is_entry_on on c.entries) place (record {
      low = omega arith;
      high = low;
      is_on = ap (λ o. option_map_or (λ (s : Source). on s.instr) o false) here ∙ only.is_on;
      alone = λ other above under other_on. alone_at entries place other here once (slice_get c.entries other) refl other_on;
    }) in
    ap (slice_get c.entries) chosen ∙ here
  where
    alone_at : c.entries ≡ sources_of (uses_of design) c.port c.operand → (place other : ℕ) → slice_get c.entries place ≡ Some (the_source used.instr a) → OnceEach c.port design.instrs
        → (o : Option Source) → slice_get c.entries other ≡ o → option_map_or (λ (s : Source). on s.instr) o false ≡ true → other ≡ place
    alone_at entries place other here once None is h = absurd cc
    alone_at entries place other here once (Some s) is h =
        same_place c.port c.operand 0 design.instrs once other place s (the_source used.instr a) (ap (λ xs. slice_get xs other) (sym entries) ∙ is) (ap (λ xs. slice_get xs place) (sym entries) ∙ here) (only.alone s.instr h)
