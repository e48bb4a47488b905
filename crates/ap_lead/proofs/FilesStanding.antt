-- The nets at the read ports of files, in the last draft of a top's first part.
use Rattle.std.proofs.Common.{◌≡◌, ℕ, suc, ◌+◌, List, [], ◌∷◌, length, Some, refl, sym, ap, subst, ◌∙◌, arith}
use Rattle.std.specs.Prelude.{slice_get}
use Rattle.std.specs.List.{AllByRecursion as Each}
use Rattle.ap_desc.specs.Designs.{index_bits}
use Rattle.ap_desc.specs.declared.design.Design.{Design}
use Rattle.ap_desc.specs.declared.design.File.{File}
use Rattle.ap_net.specs.declared.cell.Wire.{Wire}
use Rattle.ap_net.specs.declared.net.ModuleNet.{ModuleNet}
use Rattle.ap_net.specs.Cells.{IsNet}
use Rattle.ap_net.specs.Draft.{Draft, Extends}
use Rattle.ap_net.specs.Late.{IsLate}
use Rattle.ap_net.specs.Ready.{ReadyAfter}
use Rattle.ap_net.proofs.Laws.{ReadyAfter-Extends}
use Rattle.ap_net.proofs.Lists.{All-at, All-both, All-from, some_same}
use Rattle.ap_net.proofs.Wired.{IsNet-more}
use Rattle.ap_ctl.specs.Lists.{EachPair}
use Rattle.ap_ctl.proofs.Beside.{EachFrom-at, EachPair-weaker}
use Rattle.ap_bank.specs.declared.bank.FileNets.{FileNets}
use Rattle.ap_bank.specs.LateNets.{IsLateWide}
use Rattle.ap_bank.specs.Placed.{IsWide, NeedsAsFile}
use Rattle.ap_front.specs.declared.ports.GroupPorts.{GroupPorts}
use Rattle.ap_lead.specs.Left.{LeadFilesStand, StandsFile}
use Rattle.ap_lead.specs.Storing.{IsStored, StoresFile}

-- of each pair where it is so of what stands at one place
pairs_at : {X Y : Type 0} (P : X → Y → Type 0) (xs : List X) (ys : List Y) → length ys ≡ length xs → ((i : ℕ) (x : X) (y : Y) → slice_get xs i ≡ Some x → slice_get ys i ≡ Some y → P x y) → EachPair P xs ys
pairs_at P [] [] e h = tt
pairs_at P [] (y ∷ ys) e h = absurd (omega (arith, e))
pairs_at P (x ∷ xs) [] e h = absurd (omega (arith, e))
pairs_at P (x ∷ xs) (y ∷ ys) e h = (h 0 x y refl refl, pairs_at P xs ys (omega (arith, e)) (λ i. h (suc i)))

wide_later : (a b : Draft) (width : ℕ) (w : Wire) → Extends a b → IsWide a.nets width w → IsWide b.nets width w
wide_later a b width w e h = record { net = subst (λ (nets : List ModuleNet). IsNet nets w) (sym e.nets.1) (IsNet-more a.nets e.nets.0 w h.net); wide = h.wide }

-- a file that was stored stands so in each later draft, as long as its indices are driven later still
stands_file : (design : Design) (groups : List GroupPorts) (f : File) (nets : FileNets) (b c d : Draft) (number : ℕ) → Extends c d → Each (IsLate d) nets.indices → (s : StoresFile design groups number nets b c) → s.f ≡ f → StandsFile f nets d
stands_file design groups f nets b c d number e late s same =
    let p = s.banks.placed in
    subst (λ (x : File). StandsFile x nets d) same (record {
      reads = s.banks.count;
      shows = p.count;
      late = All-both (IsLateWide c (index_bits s.f)) (IsLate d) (IsLateWide d (index_bits s.f)) (λ w h l. record { late = l; wide = h.wide }) nets.indices s.banks.late_indices late;
      wide = All-from (IsWide c.nets (s.f).width) (IsWide d.nets (s.f).width) (λ w h. wide_later c d (s.f).width w e h) nets.shown p.shown;
      ready = λ by needs. EachPair-weaker (λ (x y : Wire). ReadyAfter by c (x.number ∷ []) y.number) (λ (x y : Wire). ReadyAfter by d (x.number ∷ []) y.number)
          (λ x y h. ReadyAfter-Extends by c d (x.number ∷ []) y.number e h) nets.indices nets.shown (p.ready by (subst (NeedsAsFile by) (sym s.named) needs));
    })

pub lead_files_stand : LeadFilesStand
lead_files_stand design stages made a h = pairs_at (λ (f : File) (nets : FileNets). StandsFile f nets a) design.files made.files h.count one
  where
    one : (i : ℕ) (f : File) (nets : FileNets) → slice_get design.files i ≡ Some f → slice_get made.files i ≡ Some nets → StandsFile f nets a
    one i f nets at there =
        let stored = EachFrom-at (IsStored design made.declared.ports.groups a) 0 made.files h.stores.each i nets there in
        let here : 0 + i ≡ i = omega arith in
        let late = All-at (λ (n : FileNets). Each (IsLate a) n.indices) made.files i nets h.stores.late_indices there in
        stands_file design made.declared.ports.groups f nets stored.before stored.after a (0 + i) stored.grows late stored.stores (some_same (sym stored.stores.at ∙ ap (slice_get design.files) here ∙ at))
