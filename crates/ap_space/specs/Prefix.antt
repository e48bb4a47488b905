-- What a spaced program's pipeline wrote after some cycles, against its instructions one at a time.
use Rattle.std.specs.Prelude.{◌≡◌, ℕ, ◌==◌, ◌&&◌, ◌++◌, Bool, List, filter}
use Rattle.std.specs.List.{list_any}
use Rattle.ap_bits.specs.declared.card.Card.{Card}
use Rattle.ap_desc.specs.Clean.{FitsCards}
use Rattle.ap_desc.specs.declared.design.Design.{Design}
use Rattle.ap_dist.specs.Spaced.{IsSpaced}
use Rattle.ap_image.specs.FitsShape.{ImageFitsShape, TraceFitsShape}
use Rattle.ap_image.specs.declared.image.Image.{Image}
use Rattle.ap_image.specs.declared.trace.Trace.{Trace}
use Rattle.ap_model.specs.Cycles.{over}
use Rattle.ap_model.specs.DesignShape.{shape_of}
use Rattle.ap_model.specs.Landings.{LandsOn, passed, samples}
use Rattle.ap_model.specs.Sequence.{sequential}
use Rattle.ap_model.specs.WritesOf.{goes_to}
use Rattle.ap_model.specs.declared.sequence.Progress.{Progress}
use Rattle.ap_model.specs.declared.state.Entry.{Entry}
use Rattle.ap_model.specs.declared.state.Pass.{Pass}
use Rattle.ap_model.specs.declared.storage.Storage.{Storage}

-- the entries that go to a storage, in their order
abbrev pub entries_to : Storage → List Entry → List Entry
entries_to storage log = filter (λ (e : Entry). goes_to storage e.write.port e.write.at) log

-- the instruction of an entry has passed the stage of the entry
abbrev pub has_passed : List Pass → Entry → Bool
has_passed passes e = list_any (λ (p : Pass). (p.number == e.number) && (p.stage == e.stage)) passes

-- the second list begins with the first
abbrev pub IsPrefix : {X : Type 0} → List X → List X → Type 0
IsPrefix {X} xs ys = (rest : List X) × (ys ≡ xs ++ rest)

-- one at a time, with the samples of the first c cycles, as many instructions as were fetched in them and not killed
abbrev pub one_at_a_time : Design → List Card → Image → Trace → ℕ → Progress
one_at_a_time design cards image trace c = sequential design cards image (samples design cards image trace c) (over design cards image trace c).next

-- what they write, of the stages that were passed in the first c cycles
abbrev pub passed_entries : Design → List Card → Image → Trace → ℕ → List Entry
passed_entries design cards image trace c = filter (has_passed (passed design cards image trace c)) (one_at_a_time design cards image trace c).log

-- c cycles of a spaced image of a design that fits, whose transfers go to the landings
pub record IsSpacedRun (design : Design) (cards : List Card) (image : Image) (trace : Trace) (c : ℕ) (landings : List ℕ) (drain : ℕ) : Type 0 where
  pub fits : FitsCards design cards
  pub image_fits : ImageFitsShape image (shape_of design)
  pub trace_fits : TraceFitsShape trace (shape_of design)
  pub spaced : IsSpaced design image landings drain
  pub lands : LandsOn design cards image trace c landings
