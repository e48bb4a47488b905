-- What a run has by names is what its cycles' readings have by numbers.
use Rattle.std.proofs.Common.{◌≡◌, ◌≢◌, ℕ, ◌+◌, ◌<◌, List, Option, Some, sym, ap, subst, ◌∙◌}
use Rattle.std.specs.Prelude.{slice_get, unwrap_or}
use Rattle.ap_net.specs.declared.net.Instance.{Instance}
use Rattle.ap_net.specs.declared.net.ModuleNet.{ModuleNet}
use Rattle.ap_net.specs.Draft.{Draft}
use Rattle.ap_net.specs.Flat.{value_in_part, value_named}
use Rattle.ap_net.specs.Modules.{ModuleText, module_named, nets_of}
use Rattle.ap_net.specs.Readings.{Reading}
use Rattle.ap_net.specs.Wiring.{reset_of}
use Rattle.ap_runs.specs.RunReadings.{RegisterGoes}
use Rattle.ap_signals.specs.NetRuns.{NetRun, part_number, part_value}
use Rattle.ap_border.specs.Named.{IsReadBy, NamesAreRead, PartsAreRead, RegistersAreRead}

pub names_are_read : NamesAreRead
names_are_read d modules run c reading reads name w h j lt = ap (value_named run.flat.nets (run.values j)) (sym h.named) ∙ reads.nets j w.number h.net lt h.there

pub registers_are_read : RegistersAreRead
registers_are_read d modules run c reading reads name value register from h =
    let begins = h.begins in
    let own : RegisterGoes run.flat c run.states run.values 0 begins.net.name (reset_of begins.net.role) (λ j. (reading j).read register.number) (λ j. (reading j).read from.number) =
    reads.registers (record { register = register; from = from }) begins.net h.next begins.there in
    let here : RegisterGoes run.flat c run.states run.values 0 name value (λ j. (reading j).read register.number) (λ j. (reading j).read from.number) =
    subst (λ (n : List ℕ). RegisterGoes run.flat c run.states run.values 0 n value (λ j. (reading j).read register.number) (λ j. (reading j).read from.number)) begins.named
    (subst (λ reset. RegisterGoes run.flat c run.states run.values 0 begins.net.name reset (λ j. (reading j).read register.number) (λ j. (reading j).read from.number)) begins.reset own) in
    record { there = here.there; starts = here.starts; holds = here.holds; takes = here.takes; goes = here.goes }

-- a net of an instance's part
pub part_is_read : (d : Draft) (modules : List ModuleText) (run : NetRun) (c : ℕ) (reading : ℕ → Reading) → IsReadBy d modules run c reading → (k : ℕ) (of : Instance) (part : List ℕ) → slice_get d.instances k ≡ Some of → of.name ≡ part → part ≢ d.name
    → (whole : ModuleText) → module_named modules of.module ≡ Some whole → (port : ℕ) (net : ModuleNet) (name : List ℕ) → slice_get (nets_of whole) port ≡ Some net → net.name ≡ name → (j : ℕ) → j < c
    → part_value run j part name ≡ (reading j).parts k port
part_is_read d modules run c reading reads k of part at named other whole found port net name there is j lt =
    let number : part_number run.flat part ≡ k + 1 = ap (part_number run.flat) (sym named) ∙ ap (λ (o : Option ℕ). unwrap_or o 0) (reads.located k of at (λ e. other (sym named ∙ e))) in
    ap (λ n. value_in_part n run.flat.nets (run.values j) name) number ∙ ap (value_in_part (k + 1) run.flat.nets (run.values j)) (sym is) ∙ (reads.parts k of whole at found).nets j port net lt there

pub parts_are_read : PartsAreRead
parts_are_read d modules run c reading reads part name w h j lt =
    let found : module_named (reading j).modules (h.of).module ≡ Some h.whole = ap (λ (l : List ModuleText). module_named l (h.of).module) (reads.over j) ∙ h.found in
    part_is_read d modules run c reading reads h.k h.of part h.at h.named h.other h.whole h.found h.port h.net name h.there h.is j lt ∙ ((reads.settled j lt).each h.k h.of h.whole h.at found).joined h.port w h.joined
