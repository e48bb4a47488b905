-- The entries of a choice of what is written are what the lines of the port hand in.
use Rattle.std.proofs.Common.{◌≡◌, ℕ, ◌+◌, ◌≤◌, ◌==◌, ◌&&◌, Bool, true, false, if◌then◌else◌, List, [], ◌∷◌, ◌++◌, length, map, filter, filter_map, flat_map, Option, Some, None, refl, sym, ap, subst, ◌∙◌, arith, eqb-true}
use Rattle.std.specs.Prelude.{find, option_and_then, option_map, option_to_list}
use Rattle.std.specs.List.{AllByRecursion as Each, cons_option, enumerate_from}
use Rattle.std.proofs.lemmas.Bool.{and_from, eq-eqb, eqb-false, false_from_ne_true}
use Rattle.std.proofs.lemmas.List.{length-map}
use Rattle.ap_desc.proofs.Members.{each_maps}
use Rattle.ap_desc.specs.Clean.{IsClean}
use Rattle.ap_desc.specs.Ports.{is_transfer, micros_in}
use Rattle.ap_desc.specs.PortsApart.{PortsApart}
use Rattle.ap_desc.specs.declared.design.Act.{Act}
use Rattle.ap_desc.specs.declared.design.Act.TheVariants as act
use Rattle.ap_desc.specs.declared.design.Design.{Design}
use Rattle.ap_desc.specs.declared.design.Instr.{Instr}
use Rattle.ap_desc.specs.declared.design.Micro.{Micro}
use Rattle.ap_model.specs.declared.storage.WritePort.{WritePort}
use Rattle.ap_model.specs.declared.storage.WritePort.TheVariants as port
use Rattle.ap_model.specs.Ports.{is_used_in, writes_in, writes_through}
use Rattle.ap_model.proofs.ListLemmas.{finds_itself}
use Rattle.ap_model.proofs.WritesApart.{writes_apart}
use Rattle.ap_path.specs.Uses.{use_of, uses_in}
use Rattle.ap_path.specs.declared.table.PathPort.{PathPort}
use Rattle.ap_path.specs.declared.table.PathPort.TheVariants as path
use Rattle.ap_path.specs.declared.table.PathUse.{PathUse}
use Rattle.ap_merge.specs.Choices.{IsChoice, source_of, sources_of}
use Rattle.ap_merge.specs.Selects.{GoesOver}
use Rattle.ap_merge.specs.declared.table.Choice.{Choice}
use Rattle.ap_merge.specs.declared.table.Source.{Source}
use Rattle.ap_stage.proofs.Listed.{each_left, each_right}
use Rattle.ap_effect.specs.declared.line.PortLine.{PortLine}
use Rattle.ap_effect.specs.Lines.{ChoicesGoOverTransfers, ChoicesGoOverWrites, GoesOverLines, handed_by, is_line_of, line_of, path_of, transfer_lines, value_operand, value_source, write_lines}

-- Lists of what may be there.

joined : {X Y : Type 0} (f : X → Option Y) (o : Option X) (xs : List X) → filter_map f (cons_option o xs) ≡ cons_option (option_and_then f o) (filter_map f xs)
joined f None xs = refl
joined f (Some x) xs = refl

beside : {X Y : Type 0} (f : X → Option Y) (xs ys : List X) → filter_map f (xs ++ ys) ≡ filter_map f xs ++ filter_map f ys
beside f [] ys = refl
beside {X} {Y} f (x ∷ xs) ys = ap (cons_option (f x)) (beside f xs ys) ∙ go (f x)
  where
    go : (o : Option Y) → cons_option o (filter_map f xs ++ filter_map f ys) ≡ cons_option o (filter_map f xs) ++ filter_map f ys
    go None = refl
    go (Some y) = refl

alone : {X : Type 0} (o : Option X) → cons_option o [] ≡ option_to_list o
alone None = refl
alone (Some x) = refl

mapped : {X Y : Type 0} (f : X → Y) (o : Option X) (xs : List X) → option_to_list (option_map f o) ++ map f xs ≡ map f (cons_option o xs)
mapped f None xs = refl
mapped f (Some x) xs = refl

-- Of what a port's lines hand in, one by one.
module _ (is_one : Act → Bool) (pp : PathPort) (operand : ℕ) where
  -- the source of a line, if it is one of these
  abbrev source_at : ℕ → Micro → Option Source
  source_at n m = if is_one m.act then option_map value_source (handed_by n m.act) else None

  abbrev IsSame : Type 0
  IsSame = (n j : ℕ) (m : Micro) → option_and_then (source_of pp operand) (use_of n j m) ≡ source_at n m

  lines_sources : IsSame → (n j : ℕ) (micros : List Micro) → filter_map (source_of pp operand) (filter_map (λ (line : ℕ × Micro). use_of n line.0 line.1) (enumerate_from j micros)) ≡ filter_map (source_at n) micros
  lines_sources same n j [] = refl
  lines_sources same n j (m ∷ micros) =
      joined (source_of pp operand) (use_of n j m) (filter_map (λ (line : ℕ × Micro). use_of n line.0 line.1) (enumerate_from (j + 1) micros))
      ∙ (λ i. cons_option (same n j m i) (lines_sources same n (j + 1) micros i))

  -- of lines that are none of these
  no_source : (n : ℕ) (micros : List Micro) → length (filter (λ (m : Micro). is_one m.act) micros) ≤ 0 → filter_map (source_at n) micros ≡ []
  no_source n [] few = refl
  no_source n (m ∷ micros) few = go (is_one m.act) few (no_source n micros)
    where
      go : (b : Bool) → length (if b then m ∷ filter (λ (x : Micro). is_one x.act) micros else filter (λ (x : Micro). is_one x.act) micros) ≤ 0 → (length (filter (λ (x : Micro). is_one x.act) micros) ≤ 0 → filter_map (source_at n) micros ≡ [])
          → cons_option (if b then option_map value_source (handed_by n m.act) else None) (filter_map (source_at n) micros) ≡ []
      go true h rest = let never : ⊥ = omega (arith, h) in absurd never
      go false h rest = rest h

  -- of lines of which one is, and stands in the stage
  one_source : (n stage : ℕ) (micros : List Micro) → length (filter (λ (m : Micro). is_one m.act) micros) ≤ 1 → Each (λ (m : Micro). is_one m.act ≡ true → m.stage ≡ stage) micros
      → filter_map (source_at n) micros ≡ option_to_list (option_map value_source (option_and_then (λ (m : Micro). handed_by n m.act) (find (is_line_of is_one stage) micros)))
  one_source n stage [] few each = refl
  one_source n stage (m ∷ micros) few each = go (is_one m.act) refl few (one_source n stage micros)
    where
      off : (a : Bool) (x o : Option Micro) → (if a && false then x else o) ≡ o
      off true x o = refl
      off false x o = refl

      go : (b : Bool) → is_one m.act ≡ b → length (if b then m ∷ filter (λ (x : Micro). is_one x.act) micros else filter (λ (x : Micro). is_one x.act) micros) ≤ 1
          → (length (filter (λ (x : Micro). is_one x.act) micros) ≤ 1 → Each (λ (x : Micro). is_one x.act ≡ true → x.stage ≡ stage) micros → filter_map (source_at n) micros ≡ option_to_list (option_map value_source (option_and_then (λ (x : Micro). handed_by n x.act) (find (is_line_of is_one stage) micros))))
          → cons_option (if b then option_map value_source (handed_by n m.act) else None) (filter_map (source_at n) micros)
          ≡ option_to_list (option_map value_source (option_and_then (λ (x : Micro). handed_by n x.act) (if (m.stage == stage) && b then Some m else find (is_line_of is_one stage) micros)))
      go true is h rest =
          let here : (m.stage == stage) ≡ true = eq-eqb m.stage stage (each.0 is) in
          ap (cons_option (option_map value_source (handed_by n m.act))) (no_source n micros (omega (arith, h)))
          ∙ alone (option_map value_source (handed_by n m.act))
          ∙ ap (λ b. option_to_list (option_map value_source (option_and_then (λ (x : Micro). handed_by n x.act) (if b && true then Some m else find (is_line_of is_one stage) micros)))) (sym here)
      go false is h rest = rest h each.1 ∙ ap (λ o. option_to_list (option_map value_source (option_and_then (λ (x : Micro). handed_by n x.act) o))) (sym (off (m.stage == stage) (Some m) (find (is_line_of is_one stage) micros)))

  -- and of all instructions
  pub all_sources : IsSame → (n stage : ℕ) (instrs : List Instr) → Each (λ (i : Instr). length (filter (λ (m : Micro). is_one m.act) i.micros) ≤ 1) instrs → Each (λ (m : Micro). is_one m.act ≡ true → m.stage ≡ stage) (flat_map (λ (i : Instr). i.micros) instrs)
      → sources_of (flat_map (λ (i : ℕ × Instr). uses_in i.0 i.1.micros) (enumerate_from n instrs)) pp operand ≡ map value_source (filter_map (line_of is_one stage) (enumerate_from n instrs))
  all_sources same n stage [] once each = refl
  all_sources same n stage (i ∷ instrs) once each =
      beside (source_of pp operand) (uses_in n i.micros) (flat_map (λ (x : ℕ × Instr). uses_in x.0 x.1.micros) (enumerate_from (n + 1) instrs))
      ∙ (λ k. (lines_sources same n 0 i.micros ∙ one_source n stage i.micros once.0 (each_left (λ (m : Micro). is_one m.act ≡ true → m.stage ≡ stage) i.micros (flat_map (λ (x : Instr). x.micros) instrs) each)) k
      ++ all_sources same (n + 1) stage instrs once.1 (each_right (λ (m : Micro). is_one m.act ≡ true → m.stage ≡ stage) i.micros (flat_map (λ (x : Instr). x.micros) instrs) each) k)
      ∙ mapped value_source (line_of is_one stage (n, i)) (filter_map (line_of is_one stage) (enumerate_from (n + 1) instrs))

-- What a write's and a transfer's tables name.

swap : (a b : ℕ) → (a == b) ≡ (b == a)
swap a b = go (a == b) refl
  where
    go : (x : Bool) → (a == b) ≡ x → x ≡ (b == a)
    go true e = sym (eq-eqb b a (sym (eqb-true a b e)))
    go false e = sym (false_from_ne_true (b == a) (λ y. eqb-false a b e (sym (eqb-true b a y))))

write_same : (p : WritePort) → IsSame (writes_through p) (path_of p) (value_operand p)
write_same (port.Register r) n j m = go m.act
  where
    go : (a : Act) → option_and_then (source_of (path.RegWrite r) 0) (use_of n j (record { line = m.line; stage = m.stage; act = a })) ≡ (if writes_through (port.Register r) a then option_map value_source (handed_by n a) else None)
    go (act.WriteReg reg v guard) = ap (λ b. if b then Some (record { instr = n; from = v }) else None) (swap reg r)
    go _ = refl
write_same (port.Cell f q) n j m = go m.act
  where
    go : (a : Act) → option_and_then (source_of (path.FileWrite f q) 1) (use_of n j (record { line = m.line; stage = m.stage; act = a })) ≡ (if writes_through (port.Cell f q) a then option_map value_source (handed_by n a) else None)
    go (act.WriteFile file number index v guard) = λ i. if swap file f i && swap number q i then Some (record { instr = n; from = v }) else None
    go _ = refl
write_same (port.Memory r) n j m = go m.act
  where
    go : (a : Act) → option_and_then (source_of (path.MemWrite r) 1) (use_of n j (record { line = m.line; stage = m.stage; act = a })) ≡ (if writes_through (port.Memory r) a then option_map value_source (handed_by n a) else None)
    go (act.WriteMem mem at v guard) = ap (λ b. if b then Some (record { instr = n; from = v }) else None) (swap mem r)
    go _ = refl

transfer_same : IsSame is_transfer path.Transfer 0
transfer_same n j m = go m.act
  where
    go : (a : Act) → option_and_then (source_of path.Transfer 0) (use_of n j (record { line = m.line; stage = m.stage; act = a })) ≡ (if is_transfer a then option_map value_source (handed_by n a) else None)
    go (act.Branch cond target) = refl
    go (act.Jump target) = refl
    go _ = refl

-- a choice whose entries are what these lines hand in goes over them
goes_over : (uses : List PathUse) (c : Choice) (lines : List PortLine) → IsChoice uses c → c.entries ≡ map value_source lines → GoesOverLines lines c
goes_over uses c lines is are =
    let long : length c.entries ≡ length lines = ap length are ∙ length-map lines value_source in
    let some = is.some in
    record { entries = are; some = omega arith; over = subst (GoesOver c.select 0) long is.over }

pub over_writes : ChoicesGoOverWrites
over_writes design table c stage p clean paths is of used =
    let apart = writes_apart design clean in
    let stages : Each (λ (m : Micro). writes_through p m.act ≡ true → m.stage ≡ stage) (micros_in design) =
    each_maps (λ (m : Micro). writes_through p m.act ≡ true → is_used_in design m.stage p ≡ true) (λ (m : Micro). writes_through p m.act ≡ true → m.stage ≡ stage) (λ m f e. apart.one_stage p m.stage stage (f e) used) (micros_in design)
    (finds_itself (λ (m : Micro). writes_in m.stage p) (λ (m : Micro). writes_through p m.act ≡ true) (λ m e. and_from (m.stage == m.stage) (writes_through p m.act) (eq-eqb m.stage m.stage refl) e) (micros_in design)) in
    let once : Each (λ (i : Instr). length (filter (λ (m : Micro). writes_through p m.act) i.micros) ≤ 1) design.instrs = each_maps _ (λ (i : Instr). length (filter (λ (m : Micro). writes_through p m.act) i.micros) ≤ 1) (λ i f. f p) design.instrs apart.one_line in
    goes_over table.uses c (write_lines design stage p) is (is.entries ∙ (λ i. sources_of (paths.uses i) (of.0 i) (of.1 i)) ∙ all_sources (writes_through p) (path_of p) (value_operand p) (write_same p) 0 stage design.instrs once stages)

pub over_transfers : ((design : Design) → IsClean design → PortsApart design) → ChoicesGoOverTransfers
over_transfers ports design table c clean paths is of =
    let apart = writes_apart design clean in
    goes_over table.uses c (transfer_lines design design.branch) is
    (is.entries ∙ (λ i. sources_of (paths.uses i) (of.0 i) (of.1 i)) ∙ all_sources is_transfer path.Transfer 0 transfer_same 0 design.branch design.instrs apart.one_transfer (ports design clean).transfers)
