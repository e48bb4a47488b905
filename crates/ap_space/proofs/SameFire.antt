-- What a stage does with a word is the same on two storages that agree where the word reads, and from two inputs that agree where it
-- samples; and what it writes goes to storages that the word writes.
use Rattle.std.proofs.Common.{◌≡◌, ℕ, ◌+◌, ◌-◌, ◌*◌, ◌/◌, ◌%◌, ◌^◌, ◌==◌, Bool, true, false, cond, List, [], ◌∷◌, ◌++◌, length, filter_map, slice_get, slice_index, Contains, Option, Some, None, option_map, option_to_list, refl, sym, ap, ◌∙◌, subst}
use Rattle.std.proofs.lemmas.Bool.{eq-eqb, eqb-true}
use Rattle.std.specs.List.{cons_option}
use Rattle.ap_bits.specs.Operations.{sign_extended}
use Rattle.ap_bits.specs.declared.card.Card.{Card}
use Rattle.ap_desc.specs.Designs.{IsInRange, fields_of}
use Rattle.ap_desc.specs.declared.design.Act.{Act}
use Rattle.ap_desc.specs.declared.design.Act.TheVariants as act
use Rattle.ap_desc.specs.declared.design.Arg.{Arg}
use Rattle.ap_desc.specs.declared.design.Arg.TheVariants as arg
use Rattle.ap_desc.specs.declared.design.Design.{Design}
use Rattle.ap_desc.specs.declared.design.Instr.{Instr}
use Rattle.ap_desc.specs.declared.design.Micro.{Micro}
use Rattle.ap_dist.proofs.Matched.{word_accesses}
use Rattle.ap_dist.specs.Accesses.{access_by, access_of, index_of}
use Rattle.ap_dist.specs.Touches.{touches}
use Rattle.ap_dist.specs.declared.access.Access.{Access}
use Rattle.ap_dist.specs.declared.access.Part.TheVariants as part
use Rattle.ap_model.proofs.StageLemmas.{within, word_is_good}
use Rattle.ap_model.specs.declared.state.InputRead.{InputRead}
use Rattle.ap_model.specs.declared.state.StageEffect.{StageEffect}
use Rattle.ap_model.specs.declared.storage.Storage.{Storage}
use Rattle.ap_model.specs.declared.storage.Storage.TheVariants as storage
use Rattle.ap_model.specs.declared.storage.Storages.{Storages}
use Rattle.ap_model.specs.Fire.{Sight, act_value, arg_value, bits_of_arg, fire, input_of, instr_effect, instr_of, lines_effect, lines_in, locals_after, ordered, read_of, target_of, unit_value, write_of}
use Rattle.ap_model.specs.Fitting.{IsGood}
use Rattle.ap_model.specs.Runnable.{IsRunnable}
use Rattle.ap_model.specs.Stored.{file_cell_value}
use Rattle.ap_space.proofs.Locals.{IsAccessed, IsSampled, IsSoFar, cell_touched, in_range, line_made, line_past, made_in, one_more, sight_on}
use Rattle.ap_space.proofs.Stores.{held_in, same_cell, same_reg, same_words}

-- an operand's value doesn't look at storages or inputs
same_arg : (design : Design) (cards : List Card) (word place : ℕ) (instr : Instr) (s t : Storages) (in_s in_t : ℕ → ℕ → ℕ) (locals : List ℕ) (a : Arg)
    → arg_value (record { design = design; cards = cards; instr = instr; word = word; place = place; storages = s; input = in_s }) locals a
    ≡ arg_value (record { design = design; cards = cards; instr = instr; word = word; place = place; storages = t; input = in_t }) locals a
same_arg design cards word place instr s t in_s in_t locals (arg.Local i) = refl
same_arg design cards word place instr s t in_s in_t locals (arg.Field i) = refl
same_arg design cards word place instr s t in_s in_t locals arg.Pc = refl
same_arg design cards word place instr s t in_s in_t locals arg.Link = refl

module _ (design : Design) (cards : List Card) (word place stage : ℕ) (instr : Instr) (good : IsGood design instr) (at : instr_of design word ≡ Some instr) (s t : Storages) (in_s in_t : ℕ → ℕ → ℕ)
    (agree : (x : Storage) → IsAccessed design word stage false x → held_in s x ≡ held_in t x)
    (inputs : (line input : ℕ) → IsSampled instr stage line input → in_s line input ≡ in_t line input) where
  abbrev on_s : Sight
  on_s = sight_on design cards word place instr good s in_s

  abbrev on_t : Sight
  on_t = sight_on design cards word place instr good t in_t

  abbrev SoFar : List Micro → List ℕ → Type 0
  SoFar done locals = IsSoFar design cards word place instr good stage done locals

  module _ (done : List Micro) (m : Micro) (rest : List Micro) (whole : instr.micros ≡ done ++ m ∷ rest) (here : m.stage ≡ stage) (locals : List ℕ) (so_far : SoFar done locals) where
    -- a storage that the line reads
    read_same : (x : Storage) (access : Access) → access_of design instr (Some word) m ≡ Some access → access.writes ≡ false → access.stage ≡ m.stage → touches access x ≡ true → held_in s x ≡ held_in t x
    read_same x access is reads stands touching =
        agree x (record {
          access = access;
          listed = subst (λ xs. Contains xs access) (sym (word_accesses design word instr at)) (subst (λ ms. Contains (filter_map (access_of design instr (Some word)) ms) access) (sym whole) (made_in (access_of design instr (Some word)) done m rest access is));
          writes_it = reads;
          in_stage = stands ∙ here;
          touches_it = touching;
        })

    operand : (a : Arg) → arg_value on_s locals a ≡ arg_value on_t locals a
    operand a = same_arg design cards word place instr s t in_s in_t locals a

    line_same : (a : Act) → m.act ≡ a → act_value on_s (arg_value on_s locals) m.line a ≡ act_value on_t (arg_value on_t locals) m.line a
    line_same (act.Compute unit op x y) is = λ i. Some (unit_value design cards unit op (operand x i) (operand y i))
    line_same (act.ReadFile file number index) is =
        let range = subst (IsInRange design (length locals) (fields_of design instr)) is (in_range design cards word place instr good stage done m rest whole locals here so_far) in
        ap Some
        (same_cell s t file (arg_value on_s locals index)
        (read_same (storage.Cell file (arg_value on_s locals index)) (record { part = part.Cell file (index_of design instr (Some word) index); writes = false; stage = m.stage })
        (ap (λ b. access_by (index_of design instr (Some word)) m.stage b) is) refl refl
        (cell_touched design cards word place instr good s in_s locals so_far.consts index file false m.stage range.1))
        ∙ ap (file_cell_value t file) (operand index))
    line_same (act.ReadReg reg) is =
        ap Some
        (same_reg s t reg
        (read_same (storage.Register reg) (record { part = part.Register reg; writes = false; stage = m.stage }) (ap (λ b. access_by (index_of design instr (Some word)) m.stage b) is) refl refl (eq-eqb reg reg refl)))
    line_same (act.ReadMem mem x) is =
        ap Some
        ((λ i. slice_index (same_words s t mem (read_same (storage.Memory mem) (record { part = part.Memory mem; writes = false; stage = m.stage }) (ap (λ b. access_by (index_of design instr (Some word)) m.stage b) is) refl refl (eq-eqb mem mem refl)) i) (operand x i)))
    line_same (act.ReadIn input) is = ap Some (inputs m.line input (record { micro = m; earlier = done; rest = rest; whole = whole; in_stage = here; at_line = refl; reads_it = ap input_of is }))
    line_same (act.Const width number) is = refl
    line_same (act.Zext width x) is = ap Some (operand x)
    line_same (act.Sext width x) is = λ i. Some (sign_extended (operand x i) (bits_of_arg on_s x) width)
    line_same (act.Slice high low x) is = λ i. Some ((operand x i / 2 ^ low) % 2 ^ (high - low + 1))
    line_same (act.Cat x y) is = λ i. Some (operand x i * 2 ^ bits_of_arg on_s y + operand y i)
    line_same (act.WriteFile file number index v guard) is = refl
    line_same (act.WriteReg reg v guard) is = refl
    line_same (act.WriteMem mem x v guard) is = refl
    line_same (act.Branch c x) is = refl
    line_same (act.Jump x) is = refl

  -- the locals after the stage are the same
  locals_same : (rest done : List Micro) (locals : List ℕ) → instr.micros ≡ done ++ rest → SoFar done locals → locals_after on_s locals (within stage rest) ≡ locals_after on_t locals (within stage rest)
  unfolding locals_after
  locals_same [] done locals whole so_far = refl
  locals_same (m ∷ rest) done locals whole so_far = by_stage (m.stage == stage) refl (λ next far. locals_same rest (done ++ m ∷ []) next (one_more design cards word place instr good stage done m rest whole) far)
    where
      by_stage : (b : Bool) → (m.stage == stage) ≡ b → ((next : List ℕ) → SoFar (done ++ m ∷ []) next → locals_after on_s next (within stage rest) ≡ locals_after on_t next (within stage rest))
          → locals_after on_s locals (cond b (m ∷ within stage rest) (within stage rest)) ≡ locals_after on_t locals (cond b (m ∷ within stage rest) (within stage rest))
      by_stage true e later =
          let here = eqb-true m.stage stage e in
          let made = act_value on_s (arg_value on_s locals) m.line m.act in
          later (locals ++ option_to_list made) (line_made design cards word place instr good stage done m rest whole on_s locals here so_far)
          ∙ ap (λ o. locals_after on_t (locals ++ option_to_list o) (within stage rest)) (line_same done m rest whole here locals so_far m.act refl)
      by_stage false e later = later locals (line_past design cards word place instr good stage done m rest whole locals e so_far)

  -- so are the samples
  abbrev read_s : Micro → ℕ → InputRead
  read_s m p = record { line = m.line; value = in_s m.line p }

  abbrev read_t : Micro → ℕ → InputRead
  read_t m p = record { line = m.line; value = in_t m.line p }

  reads_same : (rest done : List Micro) → instr.micros ≡ done ++ rest → filter_map (read_of in_s) (within stage rest) ≡ filter_map (read_of in_t) (within stage rest)
  reads_same [] done whole = refl
  reads_same (m ∷ rest) done whole = by_stage (m.stage == stage) refl (reads_same rest (done ++ m ∷ []) (one_more design cards word place instr good stage done m rest whole))
    where
      one : m.stage ≡ stage → (o : Option ℕ) → input_of m.act ≡ o → option_map (read_s m) o ≡ option_map (read_t m) o
      one here None e = refl
      one here (Some p) e = let same = inputs m.line p (record { micro = m; earlier = done; rest = rest; whole = whole; in_stage = here; at_line = refl; reads_it = e }) in λ i. Some (record { line = m.line; value = same i })

      by_stage : (b : Bool) → (m.stage == stage) ≡ b → filter_map (read_of in_s) (within stage rest) ≡ filter_map (read_of in_t) (within stage rest)
          → filter_map (read_of in_s) (cond b (m ∷ within stage rest) (within stage rest)) ≡ filter_map (read_of in_t) (cond b (m ∷ within stage rest) (within stage rest))
      by_stage true e later = λ i. cons_option (one (eqb-true m.stage stage e) (input_of m.act) refl i) (later i)
      by_stage false e later = later

  abbrev effect_by : List ℕ → (Arg → ℕ) → List InputRead → StageEffect
  effect_by after value reads = record {
    locals = after;
    reads = reads;
    target = slice_get (filter_map (λ (m : Micro). target_of value m.act) (lines_in stage instr)) 0;
    writes = ordered design (filter_map (λ (m : Micro). write_of value m.act) (lines_in stage instr));
  }

  effect_same : (locals : List ℕ) → SoFar [] locals → lines_effect on_s locals (lines_in stage instr) ≡ lines_effect on_t locals (lines_in stage instr)
  effect_same locals so_far =
      let after = locals_same instr.micros [] locals refl so_far in
      let reads = reads_same instr.micros [] refl in
      (λ i. effect_by (after i) (λ a. same_arg design cards word place instr s t in_s in_t (after i) a i) (reads i))

-- the locals stand with which a word comes to a stage
abbrev pub WordHasLocals : Design → List Card → ℕ → ℕ → ℕ → List ℕ → Type 0
WordHasLocals design cards word place stage locals = (instr : Instr) (good : IsGood design instr) → instr_of design word ≡ Some instr → IsSoFar design cards word place instr good stage [] locals

-- what a word samples in a stage
abbrev pub WordSamples : Design → ℕ → ℕ → ℕ → ℕ → Type 0
WordSamples design word stage line input = (instr : Instr) × (instr_of design word ≡ Some instr) × IsSampled instr stage line input

pub fires_same : (design : Design) (cards : List Card) → IsRunnable design cards → (stage place word : ℕ) (locals : List ℕ) (s t : Storages) (in_s in_t : ℕ → ℕ → ℕ) → WordHasLocals design cards word place stage locals
    → ((x : Storage) → IsAccessed design word stage false x → held_in s x ≡ held_in t x) → ((line input : ℕ) → WordSamples design word stage line input → in_s line input ≡ in_t line input)
    → fire design cards stage place word locals s in_s ≡ fire design cards stage place word locals t in_t
unfolding fire
fires_same design cards runs stage place word locals s t in_s in_t has agree inputs = by_instr (instr_of design word) refl
  where
    by_instr : (o : Option Instr) → instr_of design word ≡ o → instr_effect design cards stage place word locals s in_s o ≡ instr_effect design cards stage place word locals t in_t o
    by_instr None e = refl
    by_instr (Some instr) e =
        let good = word_is_good design cards word instr runs e in
        effect_same design cards word place stage instr good e s t in_s in_t agree (λ line input is. inputs line input (instr, e, is)) locals (has instr good e)
