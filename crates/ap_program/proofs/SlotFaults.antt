-- The faults of a slot line.
use Rattle.std.proofs.Common.{◌≡◌, ℕ, ◌-◌, ◌^◌, ◌<◌, ◌≤◌, true, false, cond, min, Option, Some, None, List, refl, sym, ap, ◌∙◌, arith, ⊎_elim}
use Rattle.std.specs.Prelude.{option_map, ◌==◌}
use Rattle.std.specs.Option.{option_map_or}
use Rattle.std.proofs.lemmas.Bool.{cases_lt, cond-false, cond-true, eqb-true, false_from_ne_true, leb-true}
use Rattle.ap_desc.specs.Clean.{IsClean}
use Rattle.ap_desc.specs.declared.design.Design.{Design}
use Rattle.ap_program.specs.LineFaults.{first_slot_fault, is_stray_slot}
use Rattle.ap_program.specs.Programs.{is_transfer_call, slots_before}
use Rattle.ap_program.specs.SoFar.{IsSoFar}
use Rattle.ap_program.specs.declared.fault.AsmKind.TheVariants as kind
use Rattle.ap_program.specs.declared.so_far.SoFar.{SoFar}
use Rattle.ap_program.specs.declared.statement.Call.{Call}
use Rattle.ap_program.specs.declared.statement.ProgramLine.{ProgramLine}

-- a number that stops at a greatest one is a smaller number exactly where it was
capped_same : (n k most : ℕ) → k < most → (min n most == k) ≡ (n == k)
capped_same n k most lt = ⊎_elim
    (λ past.
    let end : (min n most == k) ≡ false = false_from_ne_true (min n most == k) (λ e. let same = eqb-true (min n most) k e in let wrong : min n most ≡ most = omega arith in absurd (omega arith)) in
    let self : (n == k) ≡ false = false_from_ne_true (n == k) (λ e. let same = eqb-true n k e in absurd (omega arith)) in
    end ∙ sym self)
    (λ within. let is : min n most ≡ n = omega arith in ap (λ m. m == k) is)
    (cases_lt most n)

pub stray_is : (design : Design) (before : List ProgramLine) (so_far : SoFar) → IsClean design → IsSoFar design before so_far → option_map_or (λ slots. slots == design.slots) so_far.slots true ≡ is_stray_slot design before
stray_is design before so_far clean h = ap (λ o. option_map_or (λ slots. slots == design.slots) o true) h.slots ∙ by (slots_before design before)
  where
    few : design.slots ≤ 8
    few = leb-true design.slots 8 clean.sound.within.slots

    by : (o : Option ℕ) → option_map_or (λ slots. slots == design.slots) (option_map (λ n. min n (2 ^ 32 - 1)) o) true ≡ option_map_or (λ slots. slots == design.slots) o true
    by None = refl
    by (Some n) = (let less : design.slots < 2 ^ 32 - 1 = (let le = few in omega arith) in capped_same n design.slots (2 ^ 32 - 1) less)

pub slot_transfer : (design : Design) (before : List ProgramLine) (call : Call) → is_transfer_call design call ≡ true → Some kind.TransferInSlot ≡ first_slot_fault design before call
slot_transfer design before call e = sym (cond-true (is_transfer_call design call) (Some kind.TransferInSlot) (cond (is_stray_slot design before) (Some kind.TooManySlots) None) e)

pub slot_stray : (design : Design) (before : List ProgramLine) (call : Call) → is_transfer_call design call ≡ false → is_stray_slot design before ≡ true → Some kind.TooManySlots ≡ first_slot_fault design before call
slot_stray design before call e h = sym (cond-false (is_transfer_call design call) (Some kind.TransferInSlot) (cond (is_stray_slot design before) (Some kind.TooManySlots) None) e ∙ cond-true (is_stray_slot design before) (Some kind.TooManySlots) None h)

pub slot_fine : (design : Design) (before : List ProgramLine) (call : Call) → is_transfer_call design call ≡ false → is_stray_slot design before ≡ false → None ≡ first_slot_fault design before call
slot_fine design before call e h = sym (cond-false (is_transfer_call design call) (Some kind.TransferInSlot) (cond (is_stray_slot design before) (Some kind.TooManySlots) None) e ∙ cond-false (is_stray_slot design before) (Some kind.TooManySlots) None h)
