-- One instruction at a time: its stages fire in order, and each stage's writes are applied before the next stage fires. A transfer
-- that is taken happens after as many further instructions as there are slots.
use Rattle.std.specs.Prelude.{ℕ, zero, suc, ◌+◌, ◌-◌, ◌%◌, ◌^◌, ◌==◌, ◌&&◌, List, [], ◌++◌, fold, find, Option, Some, None, slice_index}
use Rattle.std.specs.List.{range_with_len}
use Rattle.std.specs.Option.{option_map_or}
use Rattle.ap_bits.specs.declared.card.Card.{Card}
use Rattle.ap_desc.specs.declared.design.Design.{Design}
use Rattle.ap_image.specs.declared.image.Image.{Image}
use Rattle.ap_model.specs.declared.sequence.Pending.{Pending}
use Rattle.ap_model.specs.declared.sequence.Progress.{Progress}
use Rattle.ap_model.specs.declared.state.StageEffect.{StageEffect}
use Rattle.ap_model.specs.declared.state.Entry.{Entry}
use Rattle.ap_model.specs.declared.state.Sample.{Sample}
use Rattle.ap_model.specs.declared.storage.Storages.{Storages}
use Rattle.ap_model.specs.Cycles.{entries_of}
use Rattle.ap_model.specs.Fire.{fire}
use Rattle.ap_model.specs.States.{start_storages}
use Rattle.ap_model.specs.Stored.{with_writes}

-- the sample of an instruction at a line, or 0 where there is none
abbrev pub sample_value : List Sample → ℕ → ℕ → ℕ
sample_value samples number line = option_map_or (λ (s : Sample). s.value) (find (λ (s : Sample). (s.number == number) && (s.line == line)) samples) 0

-- what an input read of an instruction takes: its sample
abbrev pub sample_input : List Sample → ℕ → ℕ → ℕ → ℕ
sample_input samples number line port = sample_value samples number line

-- an instruction part of the way through its stages
pub record Partway : Type 0 where
  pub storages : Storages
  pub locals : List ℕ
  pub target : Option ℕ
  pub log : List Entry

-- the first of two, or else the second
abbrev pub first_some : Option ℕ → Option ℕ → Option ℕ
first_some None other = other
first_some (Some x) other = Some x

-- the instruction after a stage that did this: its writes are applied
abbrev pub through_stage : ℕ → ℕ → Partway → StageEffect → Partway
through_stage number stage part effect = record {
  storages = with_writes part.storages effect.writes;
  locals = effect.locals;
  target = first_some part.target effect.target;
  log = part.log ++ entries_of stage number effect;
}

-- an instruction goes through all its stages, from 1 on
unfoldable pub whole_instruction : Design → List Card → (ℕ → ℕ → ℕ) → ℕ → ℕ → ℕ → Storages → Partway
whole_instruction design cards input number place word storages =
    fold (λ (part : Partway) stage. through_stage number stage part (fire design cards stage place word part.locals part.storages input))
    (record { storages = storages; locals = []; target = None; log = [] }) (range_with_len 1 (design.stages - 1))

-- the transfer that is on its way after an instruction: the one that it took, or an earlier one with one instruction less to go
abbrev pub pending_after : Design → Option ℕ → Option Pending → Option Pending
pending_after design (Some target) pending = Some (record { left = design.slots; target = target })
pending_after design None None = None
pending_after design None (Some pending) = Some (record pending { left = pending.left - 1 })

-- the pc and what is still on its way: a transfer with none left to go happens, and else the pc goes on
abbrev pub pc_after : Design → ℕ → Option Pending → ℕ × Option Pending
pc_after design pc None = ((pc + 1) % 2 ^ design.address, None)
pc_after design pc (Some pending) = elim pending.left as (λ _. ℕ × Option Pending) [ zero ↦ (pending.target, None) | suc left ↦ ((pc + 1) % 2 ^ design.address, Some pending) ]

-- what the next instruction does in all its stages
unfoldable pub next_instruction : Design → List Card → Image → List Sample → Progress → Partway
next_instruction design cards image samples progress =
    whole_instruction design cards (sample_input samples progress.next) progress.next progress.pc (slice_index image.code progress.pc) progress.storages

-- after an instruction that did this
abbrev pub after_instruction : Design → Progress → Partway → Progress
after_instruction design progress part =
    let after = pc_after design progress.pc (pending_after design part.target progress.pending) in
    record { pc = after.0; storages = part.storages; pending = after.1; next = progress.next + 1; log = progress.log ++ part.log }

-- the start: the pc is 0, and nothing has happened
abbrev pub sequential_start : Design → Image → Progress
sequential_start design image = record { pc = 0; storages = start_storages design image; pending = None; next = 0; log = [] }

-- the state after m instructions, one at a time, whose input reads take these samples
unfoldable pub sequential : Design → List Card → Image → List Sample → ℕ → Progress
sequential design cards image samples zero = sequential_start design image
sequential design cards image samples (suc m) =
    let progress = sequential design cards image samples m in
    after_instruction design progress (next_instruction design cards image samples progress)
