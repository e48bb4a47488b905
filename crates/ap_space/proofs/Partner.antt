-- One at a time, as the pipeline's partner: what each entry of the log has, the transfers that are taken, and the places.
use Rattle.std.proofs.Common.{◌≡◌, ℕ, zero, suc, ◌+◌, ◌-◌, ◌≤◌, ◌<◌, true, List, [], map, Option, Some, None, ◌⊎◌, inl, inr, refl, sym, ap, ◌∙◌, subst, arith}
use Rattle.std.proofs.lemmas.Bool.{cases_lt}
use Rattle.std.specs.List.{AllByRecursion as Each}
use Rattle.ap_bits.specs.declared.card.Card.{Card}
use Rattle.ap_desc.specs.Clean.{IsClean}
use Rattle.ap_desc.specs.declared.design.Design.{Design}
use Rattle.ap_dist.specs.Spaced.{is_transfer_word}
use Rattle.ap_image.specs.declared.image.Image.{Image}
use Rattle.ap_model.proofs.LineOrder.{count}
use Rattle.ap_model.proofs.StageLemmas.{none_at_first}
use Rattle.ap_model.specs.declared.sequence.Progress.{Progress}
use Rattle.ap_model.specs.declared.state.Entry.{Entry}
use Rattle.ap_model.specs.declared.state.Sample.{Sample}
use Rattle.ap_model.specs.declared.state.StageEffect.{StageEffect}
use Rattle.ap_model.specs.declared.storage.Storage.{Storage}
use Rattle.ap_model.specs.Cycles.{entries_of, entry_of}
use Rattle.ap_model.specs.Runnable.{IsRunnable}
use Rattle.ap_model.specs.Sequence.{Partway, first_some, sample_input}
use Rattle.ap_model.specs.WritesOf.{goes_to}
use Rattle.ap_space.proofs.Fired.{branch_high, branch_low, early_writes_nothing, taken_in_branch}
use Rattle.ap_space.proofs.Lists.{each_append, each_as, each_map}
use Rattle.ap_space.proofs.Locals.{IsAccessed, IsSoFar}
use Rattle.ap_space.proofs.Parts.{at_number, effect_is, effect_of, first_number, log_more, log_of, part_log, part_log_none, part_more, part_none, part_of, word_of}
use Rattle.ap_space.proofs.SameFire.{WordHasLocals}
use Rattle.ap_space.proofs.Touched.{GoesWhereWritten, locals_next, writes_go}

module _ (design : Design) (cards : List Card) (image : Image) (samples : List Sample) (clean : IsClean design) (runs : IsRunnable design cards) where
  abbrev place : ℕ → ℕ
  place i = (at_number design cards image samples i).pc

  abbrev word : ℕ → ℕ
  word i = word_of design cards image samples i

  abbrev part : ℕ → ℕ → Partway
  part i s = part_of design cards image samples i s

  abbrev effect : ℕ → ℕ → StageEffect
  effect i s = effect_of design cards image samples i s

  -- the locals with which an instruction comes to a stage
  pub has_locals : (i s : ℕ) → WordHasLocals design cards (word i) (place i) (suc s) (part i s).locals
  has_locals i zero instr good at =
      let none = ap count (none_at_first instr.micros good.later) in
      subst (IsSoFar design cards (word i) (place i) instr good 1 []) (sym (ap (λ (p : Partway). p.locals) (part_none design cards image samples i)))
      (record { number = omega arith; consts = λ k v less e. absurd (omega arith) })
  has_locals i (suc s) instr good at =
      let next = locals_next design cards (suc s) (place i) (word i) (part i s).locals (part i s).storages (sample_input samples i) (has_locals i s) instr good at in
      subst (IsSoFar design cards (word i) (place i) instr good (suc (suc s)) [])
      (sym (ap (λ (p : Partway). p.locals) (part_more design cards image samples i s) ∙ ap (λ (d : StageEffect). d.locals) (effect_is design cards image samples i s))) next

  -- an entry is of a stage in which no transfer kills, and goes to storages that its word writes there
  pub record IsWritten (e : Entry) : Type 0 where
    pub late : design.branch ≤ e.stage + design.slots + 1
    pub goes : (x : Storage) → goes_to x e.write.port e.write.at ≡ true → IsAccessed design (word e.number) e.stage true x

  pub block_written : (i s : ℕ) → Each IsWritten (entries_of (suc s) i (effect i s))
  block_written i s = by_stage (cases_lt (suc s + design.slots + 1) design.branch)
    where
      writes : Each (GoesWhereWritten design (word i) (suc s)) (effect i s).writes
      writes =
          subst (λ (d : StageEffect). Each (GoesWhereWritten design (word i) (suc s)) d.writes) (sym (effect_is design cards image samples i s))
          (writes_go design cards runs (suc s) (place i) (word i) (part i s).locals (part i s).storages (sample_input samples i) (has_locals i s))

      by_stage : (suc s + design.slots + 1 < design.branch) ⊎ (design.branch ≤ suc s + design.slots + 1) → Each IsWritten (entries_of (suc s) i (effect i s))
      by_stage (inl early) =
          let none : (effect i s).writes ≡ [] = ap (λ (d : StageEffect). d.writes) (effect_is design cards image samples i s)
          ∙ early_writes_nothing design cards clean (suc s) (place i) (word i) (part i s).locals (part i s).storages (sample_input samples i) early in
          subst (λ ws. Each IsWritten (map (entry_of (suc s) i) ws)) (sym none) tt
      by_stage (inr late) =
          each_map IsWritten (entry_of (suc s) i) (effect i s).writes
          (each_as (GoesWhereWritten design (word i) (suc s)) (λ w. IsWritten (entry_of (suc s) i w)) (λ w is. record { late = late; goes = is }) (effect i s).writes writes)

  -- a pair that writes nothing, since it is early
  pub block_none : (i s : ℕ) → suc s + design.slots + 1 < design.branch → entries_of (suc s) i (effect i s) ≡ []
  block_none i s early =
      ap (map (entry_of (suc s) i))
      (ap (λ (d : StageEffect). d.writes) (effect_is design cards image samples i s) ∙ early_writes_nothing design cards clean (suc s) (place i) (word i) (part i s).locals (part i s).storages (sample_input samples i) early)

  part_written : (i s : ℕ) → Each IsWritten (part i s).log
  part_written i zero = subst (Each IsWritten) (sym (part_log_none design cards image samples i)) tt
  part_written i (suc s) = subst (Each IsWritten) (sym (part_log design cards image samples i s)) (each_append IsWritten (part i s).log (entries_of (suc s) i (effect i s)) (part_written i s) (block_written i s))

  pub log_written : (n : ℕ) → Each IsWritten (log_of design cards image samples n)
  log_written zero = subst (λ (p : Progress). Each IsWritten p.log) (sym (first_number design cards image samples)) tt
  log_written (suc n) =
      subst (Each IsWritten) (sym (log_more design cards image samples n))
      (each_append IsWritten (log_of design cards image samples n) (part n (design.stages - 1)).log (log_written n) (part_written n (design.stages - 1)))

  -- The transfer that an instruction takes.

  abbrev pub target_of : ℕ → Option ℕ
  target_of i = (part i (design.stages - 1)).target

  no_target : (i s : ℕ) → (suc s ≡ design.branch → ⊥) → (effect i s).target ≡ None
  no_target i s apart = by_target (effect i s).target refl
    where
      by_target : (o : Option ℕ) → (effect i s).target ≡ o → (effect i s).target ≡ None
      by_target None e = e
      by_target (Some to) e =
          absurd (apart (taken_in_branch design cards clean (suc s) (place i) (word i) (part i s).locals (part i s).storages (sample_input samples i) to
          (sym (ap (λ (d : StageEffect). d.target) (effect_is design cards image samples i s)) ∙ e)).0)

  first_none : (o : Option ℕ) → first_some None o ≡ o
  first_none o = refl

  first_keeps : (o : Option ℕ) → first_some o None ≡ o
  first_keeps None = refl
  first_keeps (Some to) = refl

  target_next : (i s : ℕ) → (part i (suc s)).target ≡ first_some (part i s).target (effect i s).target
  target_next i s = ap (λ (p : Partway). p.target) (part_more design cards image samples i s)

  none_before : (i s : ℕ) → s < design.branch → (part i s).target ≡ None
  none_before i zero less = ap (λ (p : Partway). p.target) (part_none design cards image samples i)
  none_before i (suc s) less = target_next i s ∙ (λ k. first_some (none_before i s (omega arith) k) (no_target i s (λ e. omega arith) k))

  at_branch : (i s : ℕ) → suc s ≡ design.branch → (part i (suc s)).target ≡ (effect i s).target
  at_branch i s e = target_next i s ∙ ap (λ o. first_some o (effect i s).target) (none_before i s (omega arith))

  after_branch : (i s r : ℕ) → suc s ≡ design.branch → (part i (suc s + r)).target ≡ (effect i s).target
  after_branch i s zero e = let same : suc s + 0 ≡ suc s = omega arith in ap (λ n. (part i n).target) same ∙ at_branch i s e
  after_branch i s (suc r) e =
      let more : suc s + suc r ≡ suc (suc s + r) = omega arith in
      ap (λ n. (part i n).target) more ∙ target_next i (suc s + r) ∙ ap (first_some (part i (suc s + r)).target) (no_target i (suc s + r) (λ f. omega arith)) ∙ first_keeps (part i (suc s + r)).target ∙ after_branch i s r e

  -- it is that of its stage
  pub target_is : (i s : ℕ) → suc s ≡ design.branch → target_of i ≡ (effect i s).target
  target_is i s e =
      let high = branch_high design clean in
      let sum : suc s + (design.stages - 1 - suc s) ≡ design.stages - 1 = omega arith in
      ap (λ n. (part i n).target) (sym sum) ∙ after_branch i s (design.stages - 1 - suc s) e

  -- and its word a transfer
  pub target_transfers : (i to : ℕ) → target_of i ≡ Some to → is_transfer_word design (word i) ≡ true
  target_transfers i to taken =
      let low = branch_low design clean in
      let last : suc (design.branch - 1) ≡ design.branch = omega arith in
      let s = design.branch - 1 in
      (taken_in_branch design cards clean (suc s) (place i) (word i) (part i s).locals (part i s).storages (sample_input samples i) to
      (sym (ap (λ (d : StageEffect). d.target) (effect_is design cards image samples i s)) ∙ sym (target_is i s last) ∙ taken)).1
