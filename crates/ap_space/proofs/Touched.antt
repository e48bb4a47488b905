-- What a stage writes goes to storages that its word writes there.
use Rattle.std.proofs.Common.{◌≡◌, ℕ, suc, ◌+◌, ◌≤◌, ◌==◌, Bool, true, false, cond, if◌then◌else◌, nat_lt, List, [], ◌∷◌, ◌++◌, length, filter, filter_map, flat_map, Contains, Option, Some, None, refl, sym, ap, ◌∙◌, subst, arith}
use Rattle.std.proofs.lemmas.Bool.{and_parts, eq-eqb, eqb-false, eqb-true, ltb-false, ltb-true}
use Rattle.std.proofs.lemmas.List.Elements.{filter-append}
use Rattle.std.specs.List.{AllByRecursion as Each, cons_option}
use Rattle.ap_bits.specs.declared.card.Card.{Card}
use Rattle.ap_desc.specs.Designs.{AreInRange, IsArg, IsInRange, fields_of}
use Rattle.ap_desc.specs.declared.design.Act.{Act}
use Rattle.ap_desc.specs.declared.design.Act.TheVariants as act
use Rattle.ap_desc.specs.declared.design.Arg.{Arg}
use Rattle.ap_desc.specs.declared.design.Arg.TheVariants as arg
use Rattle.ap_desc.specs.declared.design.Design.{Design}
use Rattle.ap_desc.specs.declared.design.Field.{Field}
use Rattle.ap_desc.specs.declared.design.Instr.{Instr}
use Rattle.ap_desc.specs.declared.design.Micro.{Micro}
use Rattle.ap_dist.proofs.Matched.{word_accesses}
use Rattle.ap_dist.specs.Accesses.{access_by, access_of, index_of}
use Rattle.ap_dist.specs.Touches.{touches}
use Rattle.ap_dist.specs.declared.access.Access.{Access}
use Rattle.ap_dist.specs.declared.access.Part.TheVariants as part
use Rattle.ap_model.proofs.LineOrder.{count, split_earlier}
use Rattle.ap_model.proofs.LinesFire.{range_at}
use Rattle.ap_model.proofs.StageLemmas.{before, within, word_is_good}
use Rattle.ap_model.specs.declared.storage.PortWrite.{PortWrite}
use Rattle.ap_model.specs.declared.storage.Storage.{Storage}
use Rattle.ap_model.specs.declared.storage.Storage.TheVariants as storage
use Rattle.ap_model.specs.declared.storage.Storages.{Storages}
use Rattle.ap_model.specs.declared.storage.WritePort.{WritePort}
use Rattle.ap_model.specs.declared.storage.WritePort.TheVariants as port
use Rattle.ap_model.specs.Fire.{arg_value, fire, instr_effect, instr_of, lines_in, locals_after, where_guard, write_of}
use Rattle.ap_model.specs.Fitting.{IsGood}
use Rattle.ap_model.specs.Ports.{is_same_port, write_ports}
use Rattle.ap_model.specs.Runnable.{IsRunnable, NeverFall}
use Rattle.ap_model.specs.WritesOf.{goes_to}
use Rattle.ap_space.proofs.Lists.{each_append, each_filter}
use Rattle.ap_space.proofs.Locals.{IsAccessed, IsSoFar, cell_touched, made_in, one_more, sight_on, so_far_all}
use Rattle.ap_space.proofs.SameFire.{WordHasLocals}

-- it goes to storages that the word writes in the stage
abbrev pub GoesWhereWritten : Design → ℕ → ℕ → PortWrite → Type 0
GoesWhereWritten design word stage w = (x : Storage) → goes_to x w.port w.at ≡ true → IsAccessed design word stage true x

pub guarded : {X : Type 0} (value : Arg → ℕ) (guard : Option Arg) (x y : X) → where_guard value guard x ≡ Some y → x ≡ y
guarded value None x y e = cc
guarded value (Some g) x y e = by_test (value g == 1) e
  where
    by_test : (b : Bool) → (if b then Some x else None) ≡ Some y → x ≡ y
    by_test true f = cc
    by_test false f = absurd cc

more_args : (n k : ℕ) (fields : List Field) (a : Arg) → n ≤ k → IsArg n fields a → IsArg k fields a
more_args n k fields (arg.Local i) le h = omega arith
more_args n k fields (arg.Field i) le h = h
more_args n k fields arg.Pc le h = tt
more_args n k fields arg.Link le h = tt

count_both : (xs ys : List Micro) → count (xs ++ ys) ≡ count xs + count ys
count_both [] ys = omega arith
count_both (m ∷ xs) ys = let rest = count_both xs ys in omega arith

pub each_ordered : (P : PortWrite → Type 0) (ws : List PortWrite) (ports : List WritePort) → Each P ws → Each P (flat_map (λ port. filter (λ (w : PortWrite). is_same_port port w.port) ws) ports)
each_ordered P ws [] each = tt
each_ordered P ws (p ∷ ports) each = each_append P (filter (λ (w : PortWrite). is_same_port p w.port) ws) (flat_map (λ port. filter (λ (w : PortWrite). is_same_port port w.port) ws) ports) (each_filter P (λ (w : PortWrite). is_same_port p w.port) ws each) (each_ordered P ws ports each)

module _ (design : Design) (cards : List Card) (word place stage : ℕ) (instr : Instr) (good : IsGood design instr) (at : instr_of design word ≡ Some instr) (s : Storages) (input : ℕ → ℕ → ℕ)
    (locals : List ℕ) (has : IsSoFar design cards word place instr good stage instr.micros locals) where
  abbrev value : Arg → ℕ
  value = arg_value (sight_on design cards word place instr good s input) locals

  module _ (done : List Micro) (m : Micro) (rest : List Micro) (whole : instr.micros ≡ done ++ m ∷ rest) (here : m.stage ≡ stage) where
    enough : count done ≤ length locals
    enough =
        let number = has.number in
        let split = split_earlier stage done m rest (subst NeverFall whole good.order) here in
        let same = ap (λ ms. count (before stage ms)) whole in
        let parts : count (within stage instr.micros) ≡ count (within stage done ++ within stage (m ∷ rest)) = ap (λ ms. count (within stage ms)) whole ∙ ap count (filter-append (λ (m : Micro). m.stage == stage) done (m ∷ rest)) in
        let both = count_both (within stage done) (within stage (m ∷ rest)) in
        omega arith

    arg_there : (a : Arg) → IsArg (0 + count done) (fields_of design instr) a → IsArg (length locals) (fields_of design instr) a
    arg_there a h = more_args (0 + count done) (length locals) (fields_of design instr) a (let le = enough in omega arith) h

    range : IsInRange design (0 + count done) (fields_of design instr) m.act
    range = range_at design 0 (fields_of design instr) done m rest (subst (AreInRange design 0 (fields_of design instr)) whole good.right.range)

    -- a storage that the line writes
    written : (x : Storage) (access : Access) → access_of design instr (Some word) m ≡ Some access → access.writes ≡ true → access.stage ≡ m.stage → touches access x ≡ true → IsAccessed design word stage true x
    written x access is writes stands touching =
        record {
          access = access;
          listed = subst (λ xs. Contains xs access) (sym (word_accesses design word instr at)) (subst (λ ms. Contains (filter_map (access_of design instr (Some word)) ms) access) (sym whole) (made_in (access_of design instr (Some word)) done m rest access is));
          writes_it = writes;
          in_stage = stands ∙ here;
          touches_it = touching;
        }

    cell_written : (file : ℕ) (index : Arg) (x : Storage) → access_of design instr (Some word) m ≡ Some (record { part = part.Cell file (index_of design instr (Some word) index); writes = true; stage = m.stage })
        → IsArg (0 + count done) (fields_of design instr) index → (number : ℕ) → goes_to x (port.Cell file number) (value index) ≡ true → IsAccessed design word stage true x
    cell_written file index (storage.Register r) is there number goes = absurd cc
    cell_written file index (storage.Memory r) is there number goes = absurd cc
    cell_written file index (storage.Cell f i) is there number goes =
        let parts = and_parts (f == file) (i == value index) goes in
        let files : file ≡ f = sym (eqb-true f file parts.0) in
        let places : value index ≡ i = sym (eqb-true i (value index) parts.1) in
        let touching = cell_touched design cards word place instr good s input locals has.consts index file true m.stage (arg_there index there) in
        written (storage.Cell f i) (record { part = part.Cell file (index_of design instr (Some word) index); writes = true; stage = m.stage }) is refl refl
        (subst (λ k. touches (record { part = part.Cell file (index_of design instr (Some word) index); writes = true; stage = m.stage }) (storage.Cell f k) ≡ true) places
        (subst (λ g. touches (record { part = part.Cell file (index_of design instr (Some word) index); writes = true; stage = m.stage }) (storage.Cell g (value index)) ≡ true) files touching))

    reg_written : (reg : ℕ) (x : Storage) → access_of design instr (Some word) m ≡ Some (record { part = part.Register reg; writes = true; stage = m.stage }) → goes_to x (port.Register reg) 0 ≡ true → IsAccessed design word stage true x
    reg_written reg (storage.Register r) is goes = written (storage.Register r) (record { part = part.Register reg; writes = true; stage = m.stage }) is refl refl (eq-eqb reg r (sym (eqb-true r reg goes)))
    reg_written reg (storage.Cell f i) is goes = absurd cc
    reg_written reg (storage.Memory r) is goes = absurd cc

    mem_written : (mem place : ℕ) (x : Storage) → access_of design instr (Some word) m ≡ Some (record { part = part.Memory mem; writes = true; stage = m.stage }) → goes_to x (port.Memory mem) place ≡ true → IsAccessed design word stage true x
    mem_written mem place (storage.Memory r) is goes = written (storage.Memory r) (record { part = part.Memory mem; writes = true; stage = m.stage }) is refl refl (eq-eqb mem r (sym (eqb-true r mem goes)))
    mem_written mem place (storage.Cell f i) is goes = absurd cc
    mem_written mem place (storage.Register r) is goes = absurd cc

    line_goes : (a : Act) → m.act ≡ a → (w : PortWrite) → write_of value a ≡ Some w → GoesWhereWritten design word stage w
    line_goes (act.WriteFile file number index v guard) is w e x goes =
        let same = guarded value guard (record { port = port.Cell file number; at = value index; value = value v }) w e in
        cell_written file index x (ap (access_by (index_of design instr (Some word)) m.stage) is) (subst (IsInRange design (0 + count done) (fields_of design instr)) is range).1 number (ap (λ (y : PortWrite). goes_to x y.port y.at) same ∙ goes)
    line_goes (act.WriteReg reg v guard) is w e x goes =
        let same = guarded value guard (record { port = port.Register reg; at = 0; value = value v }) w e in
        reg_written reg x (ap (access_by (index_of design instr (Some word)) m.stage) is) (ap (λ (y : PortWrite). goes_to x y.port y.at) same ∙ goes)
    line_goes (act.WriteMem mem a v guard) is w e x goes =
        let same = guarded value guard (record { port = port.Memory mem; at = value a; value = value v }) w e in
        mem_written mem (value a) x (ap (access_by (index_of design instr (Some word)) m.stage) is) (ap (λ (y : PortWrite). goes_to x y.port y.at) same ∙ goes)
    line_goes _ is w e x goes = absurd cc

  lines_go : (rest done : List Micro) → instr.micros ≡ done ++ rest → Each (GoesWhereWritten design word stage) (filter_map (λ (m : Micro). write_of value m.act) (within stage rest))
  lines_go [] done whole = tt
  lines_go (m ∷ rest) done whole = by_stage (m.stage == stage) refl (lines_go rest (done ++ m ∷ []) (one_more design cards word place instr good stage done m rest whole))
    where
      by_write : m.stage ≡ stage → (o : Option PortWrite) → write_of value m.act ≡ o → Each (GoesWhereWritten design word stage) (filter_map (λ (m : Micro). write_of value m.act) (within stage rest))
          → Each (GoesWhereWritten design word stage) (cons_option o (filter_map (λ (m : Micro). write_of value m.act) (within stage rest)))
      by_write here None e later = later
      by_write here (Some w) e later = (line_goes done m rest whole here m.act refl w e, later)

      by_stage : (b : Bool) → (m.stage == stage) ≡ b → Each (GoesWhereWritten design word stage) (filter_map (λ (m : Micro). write_of value m.act) (within stage rest))
          → Each (GoesWhereWritten design word stage) (filter_map (λ (m : Micro). write_of value m.act) (cond b (m ∷ within stage rest) (within stage rest)))
      by_stage true e later = by_write (eqb-true m.stage stage e) (write_of value m.act) refl later
      by_stage false e later = later

pub writes_go : (design : Design) (cards : List Card) → IsRunnable design cards → (stage place word : ℕ) (locals : List ℕ) (s : Storages) (input : ℕ → ℕ → ℕ) → WordHasLocals design cards word place stage locals
    → Each (GoesWhereWritten design word stage) (fire design cards stage place word locals s input).writes
unfolding fire
writes_go design cards runs stage place word locals s input has = by_instr (instr_of design word) refl
  where
    by_instr : (o : Option Instr) → instr_of design word ≡ o → Each (GoesWhereWritten design word stage) (instr_effect design cards stage place word locals s input o).writes
    by_instr None e = tt
    by_instr (Some instr) e =
        let good = word_is_good design cards word instr runs e in
        let sight = sight_on design cards word place instr good s input in
        let after = locals_after sight locals (lines_in stage instr) in
        each_ordered (GoesWhereWritten design word stage) (filter_map (λ (m : Micro). write_of (arg_value sight after) m.act) (lines_in stage instr)) (write_ports design)
        (lines_go design cards word place stage instr good e s input after (so_far_all design cards word place instr good sight stage instr.micros [] locals refl (has instr good e)) instr.micros [] refl)

-- lines of earlier stages, of a stage, and of the stages up to it
count_next : (stage : ℕ) (ms : List Micro) → count (before stage ms) + count (within stage ms) ≡ count (before (suc stage) ms)
count_next stage [] = refl
count_next stage (m ∷ ms) = three (nat_lt m.stage stage) (m.stage == stage) (nat_lt m.stage (suc stage)) refl refl refl (count_next stage ms)
  where
    three : (a b c : Bool) → nat_lt m.stage stage ≡ a → (m.stage == stage) ≡ b → nat_lt m.stage (suc stage) ≡ c → count (before stage ms) + count (within stage ms) ≡ count (before (suc stage) ms)
        → count (cond a (m ∷ before stage ms) (before stage ms)) + count (cond b (m ∷ within stage ms) (within stage ms)) ≡ count (cond c (m ∷ before (suc stage) ms) (before (suc stage) ms))
    three true true c e f g rest = let x = ltb-true m.stage stage e in let y = eqb-true m.stage stage f in absurd (omega arith)
    three true false true e f g rest = omega arith
    three true false false e f g rest = let x = ltb-true m.stage stage e in let y = ltb-false m.stage (suc stage) g in absurd (omega arith)
    three false true true e f g rest = omega arith
    three false true false e f g rest = let x = eqb-true m.stage stage f in let y = ltb-false m.stage (suc stage) g in absurd (omega arith)
    three false false true e f g rest = let x = ltb-false m.stage stage e in let y = ltb-true m.stage (suc stage) g in absurd (eqb-false m.stage stage f (omega arith))
    three false false false e f g rest = rest

-- the locals that a stage leaves are those with which the word comes to the next one
pub locals_next : (design : Design) (cards : List Card) (stage place word : ℕ) (locals : List ℕ) (s : Storages) (input : ℕ → ℕ → ℕ) → WordHasLocals design cards word place stage locals
    → WordHasLocals design cards word place (suc stage) (fire design cards stage place word locals s input).locals
unfolding fire
locals_next design cards stage place word locals s input has instr good at =
    let sight = sight_on design cards word place instr good s input in
    let after = locals_after sight locals (lines_in stage instr) in
    let far = so_far_all design cards word place instr good sight stage instr.micros [] locals refl (has instr good at) in
    let fired : (fire design cards stage place word locals s input).locals ≡ after = ap (λ o. (instr_effect design cards stage place word locals s input o).locals) at in
    subst (IsSoFar design cards word place instr good (suc stage) []) (sym fired) (record { number = (let number = far.number in let next = count_next stage instr.micros in omega arith); consts = far.consts })
