-- Locals that are constants have their values, at each line that looks at them; so a line accesses what its word says. What a stage does
-- is the same on two storages that agree where its word reads.
use Rattle.std.proofs.Common.{◌≡◌, ℕ, ◌+◌, ◌≤◌, ◌<◌, ◌==◌, Bool, true, false, cond, List, [], ◌∷◌, ◌++◌, length, filter, filter_map, slice_get, slice_index, Option, Some, None, Contains, option_map, option_and_then, option_to_list, ◌⊎◌, inl, inr, refl, sym, ap, ◌∙◌, subst, arith, append_assoc, append-nil, length-append}
use Rattle.std.proofs.lemmas.Bool.{and_from, cases_lt, cond-true, cond-false, eq-eqb, eqb-true}
use Rattle.std.proofs.lemmas.List.{get_or_append_left}
use Rattle.std.proofs.lemmas.List.Elements.{Contains-append_right, filter_map-append}
use Rattle.std.specs.List.{cons_option}
use Rattle.std.specs.Option.{option_map_or}
use Rattle.ap_bits.specs.declared.card.Card.{Card}
use Rattle.ap_desc.specs.Chains.{makers}
use Rattle.ap_desc.specs.Designs.{AreInRange, IsArg, IsInRange, assigned_count, field_value, fields_of}
use Rattle.ap_desc.specs.declared.design.Act.{Act}
use Rattle.ap_desc.specs.declared.design.Act.TheVariants as act
use Rattle.ap_desc.specs.declared.design.Arg.{Arg}
use Rattle.ap_desc.specs.declared.design.Arg.TheVariants as arg
use Rattle.ap_desc.specs.declared.design.Design.{Design}
use Rattle.ap_desc.specs.declared.design.Field.{Field}
use Rattle.ap_desc.specs.declared.design.Instr.{Instr}
use Rattle.ap_desc.specs.declared.design.Micro.{Micro}
use Rattle.ap_dist.specs.Accesses.{accesses_of, constant_of, index_of}
use Rattle.ap_dist.specs.Touches.{touches}
use Rattle.ap_dist.specs.declared.access.Access.{Access}
use Rattle.ap_dist.specs.declared.access.Part.TheVariants as part
use Rattle.ap_model.proofs.LineOrder.{at_maker, count, split_earlier, within_more}
use Rattle.ap_model.proofs.LinesFire.{range_at}
use Rattle.ap_model.proofs.StageLemmas.{before, within}
use Rattle.ap_model.specs.declared.storage.Storage.{Storage}
use Rattle.ap_model.specs.declared.storage.Storage.TheVariants as storage
use Rattle.ap_model.specs.declared.storage.Storages.{Storages}
use Rattle.ap_model.specs.Fire.{Sight, act_value, arg_value, input_of, locals_after}
use Rattle.ap_model.specs.Fitting.{IsGood}
use Rattle.ap_model.specs.Runnable.{NeverFall}

-- a word of the image reads or writes a storage in a stage
pub record IsAccessed (design : Design) (word stage : ℕ) (writes : Bool) (x : Storage) : Type 0 where
  pub access : Access
  pub listed : Contains (accesses_of design word) access
  pub writes_it : access.writes ≡ writes
  pub in_stage : access.stage ≡ stage
  pub touches_it : touches access x ≡ true

-- and an input, at a line
pub record IsSampled (instr : Instr) (stage line input : ℕ) : Type 0 where
  pub micro : Micro
  pub earlier : List Micro
  pub rest : List Micro
  pub whole : instr.micros ≡ earlier ++ micro ∷ rest
  pub in_stage : micro.stage ≡ stage
  pub at_line : micro.line ≡ line
  pub reads_it : input_of micro.act ≡ Some input

at_end : (xs : List ℕ) (v : ℕ) → slice_index (xs ++ v ∷ []) (length xs) ≡ v
at_end [] v = refl
at_end (x ∷ xs) v = at_end xs v

pub made_in : {X Y : Type 0} (g : X → Option Y) (earlier : List X) (m : X) (rest : List X) (y : Y) → g m ≡ Some y → Contains (filter_map g (earlier ++ m ∷ rest)) y
made_in g earlier m rest y e =
    let list : filter_map g (earlier ++ m ∷ rest) ≡ filter_map g earlier ++ (y ∷ filter_map g rest) = filter_map-append g earlier (m ∷ rest) ∙ ap (λ o. filter_map g earlier ++ cons_option o (filter_map g rest)) e in
    subst (λ ys. Contains ys y) (sym list) (Contains-append_right (filter_map g earlier) (y ∷ filter_map g rest) y (0, omega arith, refl))

made_count : (sight : Sight) (value : Arg → ℕ) (line : ℕ) (a : Act) → length (option_to_list (act_value sight value line a)) ≡ assigned_count a
made_count sight value line (act.WriteFile file number index v guard) = refl
made_count sight value line (act.WriteReg reg v guard) = refl
made_count sight value line (act.WriteMem mem at v guard) = refl
made_count sight value line (act.Branch c t) = refl
made_count sight value line (act.Jump t) = refl
made_count sight value line _ = refl

const_value : (sight : Sight) (value : Arg → ℕ) (line : ℕ) (a : Act) (m : Micro) (v : ℕ) → m.act ≡ a → constant_of m ≡ Some v → act_value sight value line a ≡ Some v
const_value sight value line a m v is e = by_act a (ap (λ b. elim b as (λ _. Option ℕ) [ act.Const width value ↦ Some value | _ ↦ None ]) (sym is) ∙ e)
  where
    by_act : (b : Act) → (elim b as (λ _. Option ℕ) [ act.Const width value ↦ Some value | _ ↦ None ]) ≡ Some v → act_value sight value line b ≡ Some v
    by_act (act.Const width number) f = f
    by_act _ f = absurd cc

module _ (design : Design) (cards : List Card) (word place : ℕ) (instr : Instr) (good : IsGood design instr) where
  abbrev pub sight_on : Storages → (ℕ → ℕ → ℕ) → Sight
  sight_on storages input = record { design = design; cards = cards; instr = instr; word = word; place = place; storages = storages; input = input }

  -- the constants that were made so far have their values
  abbrev pub HasConsts : List ℕ → Type 0
  HasConsts locals = (i v : ℕ) → i < length locals → option_and_then constant_of (slice_get (makers instr) i) ≡ Some v → slice_index locals i ≡ v

  -- the locals after the lines of earlier stages, and those of the stage among these
  pub record IsSoFar (stage : ℕ) (done : List Micro) (locals : List ℕ) : Type 0 where
    pub number : length locals ≡ count (before stage instr.micros) + count (within stage done)
    pub consts : HasConsts locals

  -- at a line of the stage there are as many locals as the lines before it make
  module _ (stage : ℕ) (done : List Micro) (m : Micro) (rest : List Micro) (whole : instr.micros ≡ done ++ m ∷ rest) where
    all_made : (locals : List ℕ) → m.stage ≡ stage → IsSoFar stage done locals → length locals ≡ count done
    all_made locals here so_far =
        let number = so_far.number in
        let split = split_earlier stage done m rest (subst NeverFall whole good.order) here in
        let same = ap (λ ms. count (before stage ms)) whole in
        omega arith

    pub in_range : (locals : List ℕ) → m.stage ≡ stage → IsSoFar stage done locals → IsInRange design (length locals) (fields_of design instr) m.act
    in_range locals here so_far =
        let none : 0 + count done ≡ length locals = let e = all_made locals here so_far in omega arith in
        subst (λ k. IsInRange design k (fields_of design instr) m.act) none
        (range_at design 0 (fields_of design instr) done m rest (subst (AreInRange design 0 (fields_of design instr)) whole good.right.range))

    -- the locals after the line
    pub line_made : (sight : Sight) (locals : List ℕ) → m.stage ≡ stage → IsSoFar stage done locals → IsSoFar stage (done ++ m ∷ []) (locals ++ option_to_list (act_value sight (arg_value sight locals) m.line m.act))
    line_made sight locals here so_far =
        let value = act_value sight (arg_value sight locals) m.line m.act in
        let number = so_far.number in
        let more = within_more stage done m in
        let one = cond-true (m.stage == stage) (assigned_count m.act) 0 (eq-eqb m.stage stage here) in
        let made = made_count sight (arg_value sight locals) m.line m.act in
        let both = length-append locals (option_to_list value) in
        record { number = omega arith; consts = by_value value refl }
      where
        at_new : (u i v : ℕ) → act_value sight (arg_value sight locals) m.line m.act ≡ Some u → i ≡ length locals → option_and_then constant_of (slice_get (makers instr) i) ≡ Some v → slice_index (locals ++ u ∷ []) i ≡ v
        at_new u i v e last const =
            let made = made_count sight (arg_value sight locals) m.line m.act in
            let one : assigned_count m.act ≡ 1 = sym made ∙ ap (λ o. length (option_to_list o)) e in
            let all = all_made locals here so_far in
            let maker : slice_get (makers instr) i ≡ Some m = ap (λ ms. slice_get (filter (λ (m : Micro). assigned_count m.act == 1) ms) i) whole ∙ ap (slice_get (filter (λ (m : Micro). assigned_count m.act == 1) (done ++ m ∷ rest))) (last ∙ all) ∙ at_maker done m rest one in
            let is : Some u ≡ Some v = sym e ∙ const_value sight (arg_value sight locals) m.line m.act m v refl (ap (option_and_then constant_of) (sym maker) ∙ const) in
            let same : u ≡ v = cc in
            ap (slice_index (locals ++ u ∷ [])) last ∙ at_end locals u ∙ same

        by_value : (o : Option ℕ) → act_value sight (arg_value sight locals) m.line m.act ≡ o → HasConsts (locals ++ option_to_list o)
        by_value None e i v less const = (subst HasConsts (sym (append-nil locals)) so_far.consts) i v less const
        by_value (Some u) e i v less const = by_place (cases_lt i (length locals))
          where
            by_place : (i < length locals) ⊎ (length locals ≤ i) → slice_index (locals ++ u ∷ []) i ≡ v
            by_place (inl h) = get_or_append_left locals (u ∷ []) 0 i h ∙ so_far.consts i v h const
            by_place (inr h) = let both = length-append locals (u ∷ []) in at_new u i v e (omega arith) const

    pub line_past : (locals : List ℕ) → (m.stage == stage) ≡ false → IsSoFar stage done locals → IsSoFar stage (done ++ m ∷ []) locals
    line_past locals past so_far =
        let number = so_far.number in
        let more = within_more stage done m in
        let none = cond-false (m.stage == stage) (assigned_count m.act) 0 past in
        record { number = omega arith; consts = so_far.consts }

    pub one_more : instr.micros ≡ (done ++ m ∷ []) ++ rest
    one_more = whole ∙ sym (append_assoc done (m ∷ []) rest)

  -- the locals after all lines of the stage
  pub so_far_all : (sight : Sight) (stage : ℕ) (rest done : List Micro) (locals : List ℕ) → instr.micros ≡ done ++ rest → IsSoFar stage done locals → IsSoFar stage instr.micros (locals_after sight locals (within stage rest))
  unfolding locals_after
  so_far_all sight stage [] done locals whole so_far = subst (λ ms. IsSoFar stage ms locals) (sym (append-nil done) ∙ sym whole) so_far
  so_far_all sight stage (m ∷ rest) done locals whole so_far = by_stage (m.stage == stage) refl (λ next far. so_far_all sight stage rest (done ++ m ∷ []) next (one_more stage done m rest whole) far)
    where
      by_stage : (b : Bool) → (m.stage == stage) ≡ b → ((next : List ℕ) → IsSoFar stage (done ++ m ∷ []) next → IsSoFar stage instr.micros (locals_after sight next (within stage rest)))
          → IsSoFar stage instr.micros (locals_after sight locals (cond b (m ∷ within stage rest) (within stage rest)))
      by_stage true e later = later (locals ++ option_to_list (act_value sight (arg_value sight locals) m.line m.act)) (line_made stage done m rest whole sight locals (eqb-true m.stage stage e) so_far)
      by_stage false e later = later locals (line_past stage done m rest whole locals e so_far)

  -- an index that the word fixes is the one that the line sees
  pub index_right : (storages : Storages) (input : ℕ → ℕ → ℕ) (locals : List ℕ) → HasConsts locals → (a : Arg) (i : ℕ) → IsArg (length locals) (fields_of design instr) a → index_of design instr (Some word) a ≡ Some i → arg_value (sight_on storages input) locals a ≡ i
  index_right storages input locals consts (arg.Local k) i less e = consts k i less e
  index_right storages input locals consts (arg.Field k) i less e = by_field (slice_get (fields_of design instr) k) e
    where
      by_field : (o : Option Field) → option_map (λ (f : Field). field_value f word) o ≡ Some i → option_map_or (λ (f : Field). field_value f word) o 0 ≡ i
      by_field None e = absurd cc
      by_field (Some f) e = cc
  index_right storages input locals consts arg.Pc i less e = absurd cc
  index_right storages input locals consts arg.Link i less e = absurd cc

  pub cell_touched : (storages : Storages) (input : ℕ → ℕ → ℕ) (locals : List ℕ) → HasConsts locals → (a : Arg) (file : ℕ) (writes : Bool) (stage : ℕ) → IsArg (length locals) (fields_of design instr) a
      → touches (record { part = part.Cell file (index_of design instr (Some word) a); writes = writes; stage = stage }) (storage.Cell file (arg_value (sight_on storages input) locals a)) ≡ true
  cell_touched storages input locals consts a file writes stage less =
      and_from (file == file) (option_map_or (λ i. i == arg_value (sight_on storages input) locals a) (index_of design instr (Some word) a) true) (eq-eqb file file refl) (by_index (index_of design instr (Some word) a) refl)
    where
      by_index : (o : Option ℕ) → index_of design instr (Some word) a ≡ o → option_map_or (λ i. i == arg_value (sight_on storages input) locals a) o true ≡ true
      by_index None e = refl
      by_index (Some i) e = eq-eqb i (arg_value (sight_on storages input) locals a) (sym (index_right storages input locals consts a i less e))
