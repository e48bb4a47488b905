-- Cycle after cycle.
use Rattle.std.proofs.Common.{◌≡◌, ℕ, zero, suc, ◌+◌, ◌-◌, ◌≤◌, ◌<◌, false, List, [], ◌∷◌, length, map, replicate, Option, None, refl, ap, subst, arith}
use Rattle.ap_bits.specs.declared.card.Card.{Card}
use Rattle.ap_desc.specs.Clean.{IsClean}
use Rattle.ap_desc.specs.declared.design.Design.{Design}
use Rattle.ap_desc.specs.declared.design.Reg.{Reg}
use Rattle.ap_desc.specs.declared.design.File.{File}
use Rattle.ap_image.specs.declared.image.Image.{Image}
use Rattle.ap_image.specs.declared.trace.Trace.{Trace}
use Rattle.ap_model.specs.declared.state.Flight.{Flight}
use Rattle.ap_model.specs.Cycles.{inputs_at, over}
use Rattle.ap_model.specs.ShownRows.{row}
use Rattle.ap_model.specs.States.{start, start_storages}
use Rattle.ap_cycle.specs.Circuit.{NextState, Starts}
use Rattle.ap_cycle.specs.KeptStates.{KeepsFrom, KeepsState}
use Rattle.ap_cycle.specs.Signals.{Signals, shown_row}
use Rattle.ap_model.specs.FlightLocals.{HaveLocals, is_live}
use Rattle.ap_model.specs.PortForms.{HasAll}
use Rattle.ap_cycle.proofs.Shown.{Goes}
use Rattle.ap_cycle.proofs.Steps.{cycle_holds, row_shown}

length_empty : (n : ℕ) → length {A = Option Flight} (replicate n None) ≡ n
length_empty zero = refl
length_empty (suc n) = ap suc (length_empty n)

holds_empty : (design : Design) (signals : Signals) (stage n : ℕ) → ((s : ℕ) → stage ≤ s → s < stage + n → signals.valid s ≡ false) → KeepsFrom design signals stage (replicate n None)
holds_empty design signals stage zero empty = tt
holds_empty design signals stage (suc n) empty = (empty stage (omega arith) (omega arith), holds_empty design signals (stage + 1) n (λ s low high. empty s (omega (arith, low)) (omega (arith, high))))

length_mapped : {X Y : Type 0} (f : X → Y) (xs : List X) → length (map f xs) ≡ length xs
length_mapped f [] = refl
length_mapped f (x ∷ xs) = ap suc (length_mapped f xs)

start_has_all : (design : Design) (image : Image) → length image.mems ≡ length design.mems → HasAll design (start_storages design image)
unfolding start_storages
start_has_all design image memories = record { regs = length_mapped (λ (r : Reg). r.reset) design.regs; files = length_mapped (λ (f : File). replicate f.cells 0) design.files; mems = memories }

pub starts_hold : (design : Design) (image : Image) (signals : Signals) → length image.mems ≡ length design.mems → Starts design image signals → KeepsState design signals (start design image)
unfolding start
starts_hold design image signals memories starts = record {
  pc = starts.pc;
  storages = starts.storages;
  flights = holds_empty design signals 1 (design.stages - 1) (λ s low high. starts.empty s low (omega (arith, high)));
  count = length_empty (design.stages - 1);
  has_all = start_has_all design image memories;
}

pub holds_each : (design : Design) (cards : List Card) (image : Image) (trace : Trace) (c : ℕ) (signals : ℕ → Signals) → ((word i : ℕ) → is_live design word 1 i ≡ false) → IsClean design → length image.mems ≡ length design.mems → ((j : ℕ) → HaveLocals design 1 (over design cards image trace j).flights)
    → Goes design cards image trace c signals → (j : ℕ) → j ≤ c → KeepsState design (signals j) (over design cards image trace j)
unfolding over
holds_each design cards image trace c signals none_first clean memories fits goes zero h = starts_hold design image (signals 0) memories goes.starts
holds_each design cards image trace c signals none_first clean memories fits goes (suc j) h =
    let below : j < c = omega (arith, h) in
    let more : j + 1 ≡ suc j = omega arith in
    let before = holds_each design cards image trace c signals none_first clean memories fits goes j (omega (arith, h)) in
    let next = subst (λ k. NextState design (signals j) (signals k)) more (goes.next j below) in
    cycle_holds design cards image (inputs_at design trace j) (signals j) (signals (suc j)) (over design cards image trace j) none_first clean (goes.cycles j below) next before (fits j)

pub rows_each : (design : Design) (cards : List Card) (image : Image) (trace : Trace) (c : ℕ) (signals : ℕ → Signals) → ((word i : ℕ) → is_live design word 1 i ≡ false) → IsClean design → length image.mems ≡ length design.mems → ((j : ℕ) → HaveLocals design 1 (over design cards image trace j).flights)
    → Goes design cards image trace c signals → (j : ℕ) → j < c → shown_row design (signals j) ≡ row design cards image trace j
unfolding row
rows_each design cards image trace c signals none_first clean memories fits goes j h =
    row_shown design cards image (inputs_at design trace j) (signals j) (over design cards image trace j) clean (goes.cycles j h)
    (holds_each design cards image trace c signals none_first clean memories fits goes j (omega (arith, h))) (fits j)
