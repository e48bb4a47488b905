-- What the pipeline's unkilled instructions took and passed, and where the transfers land that they take.
use Rattle.std.specs.Prelude.{◌≡◌, ℕ, ◌==◌, List, Option, IfSome, IsTrue}
use Rattle.std.specs.List.{AllByRecursion as Each, list_any}
use Rattle.ap_bits.specs.declared.card.Card.{Card}
use Rattle.ap_desc.specs.declared.design.Design.{Design}
use Rattle.ap_image.specs.declared.image.Image.{Image}
use Rattle.ap_image.specs.declared.trace.Trace.{Trace}
use Rattle.ap_model.specs.declared.state.Pass.{Pass}
use Rattle.ap_model.specs.declared.state.Sample.{Sample}
use Rattle.ap_model.specs.Cycles.{over}
use Rattle.ap_model.specs.Sequence.{next_instruction, sequential}

-- the samples that unkilled instructions took in the first c cycles
abbrev pub samples : Design → List Card → Image → Trace → ℕ → List Sample
samples design cards image trace c = (over design cards image trace c).sampled

-- the stages that unkilled instructions passed in the first c cycles
abbrev pub passed : Design → List Card → Image → Trace → ℕ → List Pass
passed design cards image trace c = (over design cards image trace c).passes

-- one at a time, the target of the transfer that an instruction takes
abbrev pub taken_by : Design → List Card → Image → List Sample → ℕ → Option ℕ
taken_by design cards image taken number = (next_instruction design cards image taken (sequential design cards image taken number)).target

-- every transfer that is taken, one at a time with the pipeline's samples, by an instruction that passed the transfer stage in the
-- first c cycles goes to one of the landings
abbrev pub LandsOn : Design → List Card → Image → Trace → ℕ → List ℕ → Type 0
LandsOn design cards image trace c landings =
    Each (λ (p : Pass). p.stage ≡ design.branch → IfSome (taken_by design cards image (samples design cards image trace c) p.number) (λ target. IsTrue (list_any (λ l. l == target) landings))) (passed design cards image trace c)
