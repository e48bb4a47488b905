-- Registers, input ports and files of the first part, as the stages take them.
use Rattle.std.proofs.Common.{◌≡◌, ℕ, zero, suc, ◌+◌, ◌*◌, ◌<◌, Bool, true, List, [], ◌∷◌, ◌++◌, length, map, Some, refl, sym, ap, subst, ◌∙◌, arith}
use Rattle.std.specs.Prelude.{slice_get}
use Rattle.std.specs.List.{AllByRecursion as Each, flat_map, range_with_len}
use Rattle.std.proofs.lemmas.Option.{slice_get_within}
use Rattle.ap_bank.specs.declared.bank.FileNets.{FileNets}
use Rattle.ap_bank.specs.FileBorder.{GivesBank}
use Rattle.ap_bank.specs.LateNets.{IsLateWide}
use Rattle.ap_bank.specs.Placed.{IsWide}
use Rattle.ap_bank.proofs.BankedGiven.{banked_placed}
use Rattle.ap_ctl.proofs.Beside.{EachFrom-at}
use Rattle.ap_ctl.specs.Lists.{EachPair}
use Rattle.ap_desc.specs.Designs.{index_bits}
use Rattle.ap_desc.specs.declared.design.Design.{Design}
use Rattle.ap_desc.specs.declared.design.File.{File}
use Rattle.ap_lead.specs.declared.store.Lead.{Lead}
use Rattle.ap_lead.specs.Leading.{HasBanked}
use Rattle.ap_lead.specs.Storing.{IsStored, Leads}
use Rattle.ap_lead.specs.Writes.{file_writes}
use Rattle.ap_lead.proofs.Led.{lead_gives_files}
use Rattle.ap_net.specs.declared.net.Port.{Port}
use Rattle.ap_net.specs.Draft.{Draft, Extends}
use Rattle.ap_net.specs.Late.{IsLate}
use Rattle.ap_net.proofs.Laws.{Extends-trans}
use Rattle.ap_net.proofs.Lists.{All-at, some_same}
use Rattle.ap_pipe.specs.declared.table.StageSlots.{StageSlots}
use Rattle.ap_stage.specs.Trees.{IsShallow, output}
use Rattle.ap_stage.proofs.Shallow.{shallow_on}
use Rattle.ap_store.specs.FilePorts.{read_ports, read_value, write_ports}
use Rattle.ap_supply.specs.Listing.{HasReadNets}
use Rattle.ap_staged.specs.Led.{LeadFilesStand, LeadsBankReads, LeadsHaveReadNets, LeadsNameShared}
use Rattle.ap_staged.specs.Standing.{StandsFile}
use Rattle.ap_staged.proofs.Shared.{driven_named}
use Rattle.ap_staged.proofs.Stood.{net_on}

pub leads_name_shared : LeadsNameShared
leads_name_shared design stages made a d shared h e are = driven_named design h.first h.driven d made.declared.ports made.declared.regs _ shared h.declares.ports h.declares.regs h.drives (Extends-trans h.driven a d h.stores.extends e) are

-- what holds of the elements of each place
pairs_by : {X Y : Type 0} (P : X → Y → Type 0) (xs : List X) (ys : List Y) → length ys ≡ length xs → ((i : ℕ) (x : X) (y : Y) → slice_get xs i ≡ Some x → slice_get ys i ≡ Some y → P x y) → EachPair P xs ys
pairs_by P [] [] long f = tt
pairs_by P [] (y ∷ ys) long f = absurd (omega arith)
pairs_by P (x ∷ xs) [] long f = absurd (omega arith)
pairs_by P (x ∷ xs) (y ∷ ys) long f = (f zero x y refl refl, pairs_by P xs ys (omega arith) (λ i v w at there. f (suc i) v w at there))

-- which ports of a file are outputs
abbrev is_out : Port → Bool
is_out q = q.output

shown_out : (f : File) (low count port : ℕ) (rest : List Port) → port < count → slice_get (map is_out (flat_map (read_ports f) (range_with_len low count) ++ rest)) (2 * port + 1) ≡ Some true
shown_out f low zero port rest lt = absurd (omega arith)
shown_out f low (suc count) zero rest lt = refl
shown_out f low (suc count) (suc port) rest lt =
    let next : suc (suc (2 * port + 1)) ≡ 2 * suc port + 1 = omega arith in
    subst (λ n. slice_get (map is_out (flat_map (read_ports f) (range_with_len low (suc count)) ++ rest)) n ≡ Some true) next (shown_out f (low + 1) count port rest (omega arith))

module _ (design : Design) (stages : List StageSlots) (made : Lead) (a d : Draft) (h : Leads design stages made a) where
  stored : (file : ℕ) (f : File) (nets : FileNets) → slice_get design.files file ≡ Some f → slice_get made.files file ≡ Some nets → (s : IsStored design made.declared.ports.groups a file nets) × (s.stores.f ≡ f)
  stored file f nets at there =
      let from_none : 0 + file ≡ file = omega arith in
      let s : IsStored design made.declared.ports.groups a file nets = subst (λ n. IsStored design made.declared.ports.groups a n nets) from_none (EachFrom-at (IsStored design made.declared.ports.groups a) 0 made.files h.stores.each file nets there) in
      (s, some_same (sym s.stores.at ∙ at))

  read_nets : (file : ℕ) (f : File) (nets : FileNets) → slice_get design.files file ≡ Some f → slice_get made.files file ≡ Some nets → HasReadNets f nets
  read_nets file f nets at there =
      let (s, same) = stored file f nets at there in
      let reads = ap (λ (x : File). x.reads) same in
      record { indices = s.stores.banks.count ∙ reads; shown = s.stores.banks.placed.count ∙ reads }

  stands : Extends a d → (file : ℕ) (f : File) (nets : FileNets) → Each (IsLate d) nets.indices → slice_get design.files file ≡ Some f → slice_get made.files file ≡ Some nets → StandsFile d f nets
  stands e file f nets late at there port index value index_at value_at =
      let (s, same) = stored file f nets at there in
      let bank = s.stores.banks in
      let onward : Extends s.after d = Extends-trans s.after a d s.grows e in
      let g : File = s.stores.f in
      let wide : IsLateWide s.after _ index = All-at (IsLateWide s.after _) nets.indices port index bank.late_indices index_at in
      let shown : IsWide s.after.nets g.width value = All-at (IsWide s.after.nets g.width) nets.shown port value bank.placed.shown value_at in
      let low = slice_get_within nets.shown port value value_at in
      let count : length nets.shown ≡ g.reads = bank.placed.count in
      let from_none : 0 + port ≡ port = omega arith in
      let joined : slice_get bank.placed.of.nets (read_value port) ≡ Some value = subst (λ n. slice_get bank.placed.of.nets (read_value n) ≡ Some value) from_none
      (EachFrom-at (λ number w. slice_get bank.placed.of.nets (read_value number) ≡ Some w) 0 nets.shown bank.placed.joined.shown port value value_at) in
      let drives : slice_get bank.placed.of.drives (read_value port) ≡ Some true = ap (λ bs. slice_get bs (read_value port)) bank.placed.connects.drives
      ∙ ap (λ (ps : List Port). slice_get (map is_out ps) (read_value port)) s.stores.has ∙ shown_out g 0 g.reads port (flat_map (write_ports g) (range_with_len 0 g.writes)) (omega (arith, low, count)) in
      let shallow : IsShallow s.after 0 value.number = output 0 value.number _ (read_value port) bank.placed.of value bank.placed.placed joined drives refl in
      record {
        late = All-at (IsLate d) nets.indices port index late index_at;
        index_wide = wide.wide ∙ ap (λ (x : File). index_bits x) same;
        value_wide = shown.wide ∙ ap (λ (x : File). x.width) same;
        given = record { net = net_on onward value shown.net; low = shallow_on s.after d 0 value.number onward shallow };
      }

pub leads_have_read_nets : LeadsHaveReadNets
leads_have_read_nets design stages made a h = pairs_by HasReadNets design.files made.files h.count (read_nets design stages made a a h)

pub lead_files_stand : LeadFilesStand
lead_files_stand design stages made a d h e late = pairs_by (StandsFile d) design.files made.files h.count
    (λ file f nets at there. stands design stages made a d h e file f nets (All-at (λ (n : FileNets). Each (IsLate d) n.indices) made.files file nets late there) at there)

pub leads_bank_reads : LeadsBankReads
leads_bank_reads design stages made a d knows cards modules clean parts h e = record {
  banks = λ file f at. (given file f at).bank;
  reads = λ file f at. record { nets = (banked file f at).nets; at = (banked file f at).at; reads_are = (given file f at).reads; values_are = (given file f at).values };
}
  where
    banked : (file : ℕ) (f : File) → slice_get design.files file ≡ Some f → HasBanked design d modules made file f
    banked file f at = lead_gives_files design stages made a d knows cards modules clean parts h e file f at

    given : (file : ℕ) (f : File) (at : slice_get design.files file ≡ Some f) → GivesBank design d modules file f (banked file f at).nets
    given file f at = banked_placed design d modules file f (file_writes made.declared.ports.groups file f.writes) (banked file f at).nets (banked file f at).banked
