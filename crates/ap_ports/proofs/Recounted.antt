-- Edges of lines that count, where the same lines count.
use Rattle.std.proofs.Common.{◌≡◌, ℕ, Bool, true, List, [], ◌∷◌, ◌++◌, Some, inl, inr}
use Rattle.std.specs.Prelude.{Contains}
use Rattle.ap_desc.specs.Chains.{Edge, HasLoop, IsWalk, Leads, node_of}
use Rattle.ap_desc.specs.declared.design.Design.{Design}
use Rattle.ap_desc.specs.declared.design.Instr.{Instr}
use Rattle.ap_desc.specs.declared.design.Micro.{Micro}
use Rattle.ap_desc.specs.declared.design.Node.{Node}
use Rattle.ap_ports.specs.Graphs.{IsOpenBy, ShowsEdges}
use Rattle.ap_ports.specs.declared.ways.Ways.{Ways}

-- the lines of a stage that use a node and count count by the other test too
abbrev pub CountsBy : Design → ℕ → (ℕ → Bool) → (ℕ → Bool) → Type 0
CountsBy design stage counts others =
    (i : Instr) (m : Micro) (to : Node) → Contains design.instrs i → Contains i.micros m → m.stage ≡ stage → node_of m.act ≡ Some to → counts m.line ≡ true → others m.line ≡ true

recount : (design : Design) (stage : ℕ) (counts others : ℕ → Bool) → CountsBy design stage counts others → (from to : Node) → Edge design stage counts from to → Edge design stage others from to
recount design stage counts others by from to e = record {
  instr = e.instr;
  is_instr = e.is_instr;
  user = e.user;
  is_line = e.is_line;
  in_stage = e.in_stage;
  counted = by e.instr e.user to e.is_instr e.is_line e.in_stage e.uses e.counted;
  uses = e.uses;
  source = e.source;
  uses_from = e.uses_from;
  wired = e.wired;
}

walk_as : (Step Other : Node → Node → Type 0) → ((x y : Node) → Step x y → Other x y) → (x : Node) (xs : List Node) → IsWalk Step x xs → IsWalk Other x xs
walk_as Step Other up x [] walk = tt
walk_as Step Other up x (y ∷ xs) walk = (up x y walk.0, walk_as Step Other up y xs walk.1)

leads_as : (Step Other : Node → Node → Type 0) → ((x y : Node) → Step x y → Other x y) → (x y : Node) → Leads Step x y → Leads Other x y
leads_as Step Other up x y (inl same) = inl same
leads_as Step Other up x y (inr (between, walk)) = inr (between, walk_as Step Other up x (between ++ y ∷ []) walk)

loop_as : (Step Other : Node → Node → Type 0) → ((x y : Node) → Step x y → Other x y) → HasLoop Step → HasLoop Other
loop_as Step Other up (x, between, walk) = (x, between, walk_as Step Other up x (between ++ x ∷ []) walk)

-- where the same lines count, the ways are those of both
pub open_by : (design : Design) (stage : ℕ) (counts others : ℕ → Bool) (ways : Ways) → CountsBy design stage counts others → CountsBy design stage others counts → IsOpenBy design stage counts ways → IsOpenBy design stage others ways
open_by design stage counts others ways there back so_far = (shows, λ loop. so_far.1 (loop_as (Edge design stage others) (Edge design stage counts) (recount design stage others counts back) loop))
  where
    shows : ShowsEdges design stage others ways
    shows x y low high =
        let same = so_far.0 x y low high in (
          (λ leads. leads_as (Edge design stage counts) (Edge design stage others) (recount design stage counts others there) x y (same.0 leads)),
          (λ leads. same.1 (leads_as (Edge design stage others) (Edge design stage counts) (recount design stage others counts back) x y leads)),
        )
