-- The ways of a stage from no line to all of them.
use Rattle.std.proofs.Common.{◌≡◌, ℕ, zero, suc, ◌+◌, ◌<◌, ◌≤◌, Bool, true, false, List, [], ◌∷◌, ◌++◌, length, take, drop, Option, Some, None, inl, inr, refl, sym, subst, ap, ◌∙◌, flat_map}
use Rattle.std.specs.Prelude.{◌↔◌, Contains, nat_le, nat_lt, slice_get}
use Rattle.std.proofs.lemmas.Bool.{cases_eq}
use Rattle.std.proofs.lemmas.Grind.{flat_map-append}
use Rattle.std.proofs.lemmas.List.{append-nil, append_assoc, take_all, take_more}
use Rattle.std.proofs.lemmas.Option.{get_or_from_slice_get, slice_get_within}
use Rattle.ap_desc.specs.Chains.{ClosesLoop, Edge, IsWalk, Leads, node_of}
use Rattle.ap_desc.specs.Ports.{micros_in}
use Rattle.ap_desc.specs.Sound.{IsSound}
use Rattle.ap_desc.specs.declared.design.Design.{Design}
use Rattle.ap_desc.specs.declared.design.Instr.{Instr}
use Rattle.ap_desc.specs.declared.design.Micro.{Micro}
use Rattle.ap_desc.specs.declared.design.Node.{Node}
use Rattle.ap_ports.specs.Flow.{AreKept, made_by}
use Rattle.ap_ports.specs.Graphs.{Closes, IsAdded, IsClosing, IsOpenAfter, IsOpenBy, is_line_of, lines_before}
use Rattle.ap_ports.specs.Numbers.{IsNumberedNode, node_number, number_of_node}
use Rattle.ap_ports.specs.Ways.{LeadsTo}
use Rattle.ap_ports.specs.declared.flow.Locals.{Locals}
use Rattle.ap_ports.specs.declared.ways.Ways.{Ways}
use Rattle.ap_ports.proofs.Added.{closing_there, node_from, node_low, one_node, open_grows}
use Rattle.ap_ports.proofs.Counted.{all_done, before_done, done_before, done_more, done_up_to, more_done, up_to_done}
use Rattle.ap_ports.proofs.Elsewhere.{one_instr_more}
use Rattle.ap_ports.proofs.Kept.{takes_back, takes_there}
use Rattle.ap_ports.proofs.Made.{IsLine, line_of, made_enough}
use Rattle.ap_ports.proofs.Members.{contains_at}
use Rattle.ap_ports.proofs.Recounted.{open_by}

split_at : {X : Type 0} (xs : List X) (i : ℕ) (x : X) → slice_get xs i ≡ Some x → xs ≡ take i xs ++ x ∷ drop (suc i) xs
split_at [] i x at = absurd cc
split_at {X} (y ∷ ys) zero x at = let same : y ≡ x = cc in ap (λ z. z ∷ ys) same
split_at (y ∷ ys) (suc i) x at = ap (λ zs. y ∷ zs) (split_at ys i x at)

abbrev own : Instr → List Micro
own i = i.micros

whole_split : (design : Design) (number : ℕ) (instr : Instr) → slice_get design.instrs number ≡ Some instr → (place : ℕ) (m : Micro) → slice_get instr.micros place ≡ Some m
    → micros_in design ≡ (lines_before design number ++ take place instr.micros) ++ m ∷ (drop (suc place) instr.micros ++ flat_map own (drop (suc number) design.instrs))
whole_split design number instr at place m there =
    let front = lines_before design number in
    let later = flat_map own (drop (suc number) design.instrs) in
    ap (flat_map own) (split_at design.instrs number instr at) ∙ flat_map-append own (take number design.instrs) (instr ∷ drop (suc number) design.instrs)
    ∙ ap (λ ms. front ++ (ms ++ later)) (split_at instr.micros place m there)
    ∙ ap (λ ms. front ++ ms) (append_assoc (take place instr.micros) (m ∷ drop (suc place) instr.micros) later)
    ∙ sym (append_assoc front (take place instr.micros) (m ∷ (drop (suc place) instr.micros ++ later)))

-- No line so far.

no_step : (design : Design) (stage : ℕ) (x y : Node) → Edge design stage (is_line_of []) x y → ⊥
no_step design stage x y e = let counted : false ≡ true = e.counted in absurd cc

no_walk : (design : Design) (stage : ℕ) (x y : Node) (between : List Node) → IsWalk (Edge design stage (is_line_of [])) x (between ++ y ∷ []) → ⊥
no_walk design stage x y [] walk = no_step design stage x y walk.0
no_walk design stage x y (z ∷ between) walk = no_step design stage x z walk.0

pub open_none : (design : Design) (stage : ℕ) (ways : Ways) → ((x y : ℕ) → x < 68 → LeadsTo ways x y ↔ (x ≡ y)) → IsOpenAfter design stage [] ways
open_none design stage ways fresh = (λ x y low high. (there x y low high, back x y low), λ (x, between, walk). no_walk design stage x x between walk) where
  there : (x y : Node) → IsNumberedNode x → IsNumberedNode y → LeadsTo ways (number_of_node x) (number_of_node y) → Leads (Edge design stage (is_line_of [])) x y
  there x y low high leads = inl (one_node x y low high ((fresh (number_of_node x) (number_of_node y) (node_low x low)).0 leads))

  back : (x y : Node) → IsNumberedNode x → Leads (Edge design stage (is_line_of [])) x y → LeadsTo ways (number_of_node x) (number_of_node y)
  back x y low (inl same) = (fresh (number_of_node x) (number_of_node y) (node_low x low)).1 (ap number_of_node same)
  back x y low (inr (between, walk)) = absurd (no_walk design stage x y between walk)

pub open_first : (design : Design) (stage : ℕ) (ways : Ways) → ((x y : ℕ) → x < 68 → LeadsTo ways x y ↔ (x ≡ y)) → IsOpenAfter design stage (lines_before design 0) ways
open_first design stage ways fresh = open_none design stage ways fresh

-- One line more.

-- ways that lead alike
like : (design : Design) (stage : ℕ) (counts : ℕ → Bool) (old new : Ways) → ((x y : ℕ) → LeadsTo new x y ↔ LeadsTo old x y) → IsOpenBy design stage counts old → IsOpenBy design stage counts new
like design stage counts old new same so_far = (
  λ x y low high. (
    λ leads. (so_far.0 x y low high).0 ((same (number_of_node x) (number_of_node y)).0 leads),
    λ leads. (same (number_of_node x) (number_of_node y)).1 ((so_far.0 x y low high).1 leads),
  ),
  so_far.1,
)

module _ (design : Design) (sound : IsSound design) (number : ℕ) (instr : Instr) (at : slice_get design.instrs number ≡ Some instr) (place : ℕ) (m : Micro) (there : slice_get instr.micros place ≡ Some m)
    (locals : Locals) (kept : AreKept design instr (made_by (take place instr.micros)) locals) (old : Ways) where
  has_instr : Contains design.instrs instr
  has_instr = contains_at design.instrs number instr at

  has_line : Contains instr.micros m
  has_line = contains_at instr.micros place m there

  line : IsLine design instr place m
  line = line_of design sound instr has_instr place m there

  abbrev Done : List Micro
  Done = lines_before design number ++ take place instr.micros

  abbrev Rest : List Micro
  Rest = drop (suc place) instr.micros ++ flat_map own (drop (suc number) design.instrs)

  whole : micros_in design ≡ Done ++ m ∷ Rest
  whole = whole_split design number instr at place m there

  before : IsOpenAfter design m.stage Done old → IsOpenBy design m.stage (λ n. nat_lt n m.line) old
  before so_far = open_by design m.stage (is_line_of Done) (λ n. nat_lt n m.line) old
      (done_before design sound m.stage Done Rest m whole) (before_done design sound m.stage Done Rest m whole) so_far

  with_edges : (new : Ways) → IsOpenAfter design m.stage Done old → IsAdded locals m m.stage old new → (to : Node) → node_of m.act ≡ Some to → IsOpenAfter design m.stage (Done ++ m ∷ []) new
  with_edges new so_far added to uses =
      open_by design m.stage (λ n. nat_le n m.line) (is_line_of (Done ++ m ∷ [])) new
      (up_to_done design sound m.stage Done Rest m whole) (done_up_to design sound m.stage Done Rest m whole)
      (open_grows design sound instr has_instr m has_line locals old new
      (takes_there design instr (made_by (take place instr.micros)) locals kept (made_enough instr place) m m line.operands)
      (takes_back design instr (made_by (take place instr.micros)) locals kept (made_enough instr place) m m line.operands)
      (before so_far) to uses added)

  without_edges : (stage : ℕ) (new : Ways) → IsOpenAfter design stage Done old → IsAdded locals m stage old new → ((to : Node) → m.stage ≡ stage → node_of m.act ≡ Some to → ⊥) → IsOpenAfter design stage (Done ++ m ∷ []) new
  without_edges stage new so_far added none =
      like design stage (is_line_of (Done ++ m ∷ [])) old new (added.same no_number)
      (open_by design stage (is_line_of Done) (is_line_of (Done ++ m ∷ [])) old
      (done_more design sound stage Done Rest m whole) (more_done design sound stage Done Rest m whole none) so_far)
    where
      no_number : (to : ℕ) → m.stage ≡ stage → node_number m.act ≡ Some to → ⊥
      no_number to here uses = let x = node_from m.act to line.numbered uses in none x.item here x.uses

  in_stage : (new : Ways) → IsOpenAfter design m.stage Done old → IsAdded locals m m.stage old new → (o : Option Node) → node_of m.act ≡ o → IsOpenAfter design m.stage (Done ++ m ∷ []) new
  in_stage new so_far added None e = without_edges m.stage new so_far added (λ to here uses. (let wrong : None ≡ Some to = sym e ∙ uses in absurd cc))
  in_stage new so_far added (Some to) e = with_edges new so_far added to e

  one_more : (stage : ℕ) (new : Ways) → IsOpenAfter design stage Done old → IsAdded locals m stage old new → IsOpenAfter design stage (Done ++ m ∷ []) new
  one_more stage new so_far added = elim (cases_eq m.stage stage) [
    | inl same ↦ subst (λ s. IsOpenAfter design s Done old → IsAdded locals m s old new → IsOpenAfter design s (Done ++ m ∷ []) new) same (λ o a. in_stage new o a (node_of m.act) refl) so_far added
    | inr other ↦ without_edges stage new so_far added (λ to here uses. other here)
  ]

  pub open_next : (stage : ℕ) (new : Ways) → IsOpenAfter design stage Done old → IsAdded locals m stage old new → IsOpenAfter design stage (lines_before design number ++ take (place + 1) instr.micros) new
  open_next stage new so_far added =
      let low = slice_get_within instr.micros place m there in
      let grown : take (place + 1) instr.micros ≡ take place instr.micros ++ m ∷ [] =
      take_more instr.micros place m low ∙ ap (λ x. take place instr.micros ++ x ∷ []) (get_or_from_slice_get instr.micros place m m there) in
      let same : Done ++ m ∷ [] ≡ lines_before design number ++ take (place + 1) instr.micros =
      append_assoc (lines_before design number) (take place instr.micros) (m ∷ []) ∙ ap (λ ms. lines_before design number ++ ms) (sym grown) in
      subst (λ done. IsOpenAfter design stage done new) same (one_more stage new so_far added)

  closed_here : IsOpenAfter design m.stage Done old → (n : ℕ) → IsClosing locals m m.stage old n → ClosesLoop design m.stage n
  closed_here so_far n c =
      let x = node_from m.act c.number line.numbered c.uses in
      let closes = subst (λ k. Closes old locals m k) (sym x.number) c.closes in
      subst (ClosesLoop design m.stage) c.at
      (closing_there design sound instr has_instr m has_line locals old old
      (takes_there design instr (made_by (take place instr.micros)) locals kept (made_enough instr place) m m line.operands)
      (takes_back design instr (made_by (take place instr.micros)) locals kept (made_enough instr place) m m line.operands)
      (before so_far) x.item x.uses closes)

  pub open_closes : (stage : ℕ) → IsOpenAfter design stage Done old → (n : ℕ) → IsClosing locals m stage old n → ClosesLoop design stage n
  open_closes stage so_far n c =
      subst (λ s. IsOpenAfter design s Done old → IsClosing locals m s old n → ClosesLoop design s n) c.in_stage (λ o k. closed_here o n k) so_far c

-- An instruction, and all of them.

pub open_begun : (design : Design) (stage number : ℕ) (ways : Ways) → IsOpenAfter design stage (lines_before design number) ways → IsOpenAfter design stage (lines_before design number ++ []) ways
open_begun design stage number ways so_far = subst (λ done. IsOpenAfter design stage done ways) (sym (append-nil (lines_before design number))) so_far

pub open_ended : (design : Design) (stage number : ℕ) (instr : Instr) → slice_get design.instrs number ≡ Some instr → (k : ℕ) (ways : Ways) → length instr.micros ≤ k
    → IsOpenAfter design stage (lines_before design number ++ take k instr.micros) ways → IsOpenAfter design stage (lines_before design (number + 1)) ways
open_ended design stage number instr at k ways past so_far =
    subst (λ done. IsOpenAfter design stage done ways) (ap (λ ms. lines_before design number ++ ms) (take_all k instr.micros past) ∙ sym (one_instr_more design.instrs number instr at)) so_far

pub open_whole : (design : Design) → IsSound design → (stage k : ℕ) (ways : Ways) → length design.instrs ≤ k → IsOpenAfter design stage (lines_before design k) ways → IsOpenBy design stage (λ n. true) ways
open_whole design sound stage k ways past so_far =
    let all : IsOpenAfter design stage (micros_in design) ways = subst (λ is. IsOpenAfter design stage (flat_map own is) ways) (take_all k design.instrs past) so_far in
    open_by design stage (is_line_of (micros_in design)) (λ n. true) ways (λ i x to h l s u c. refl) (all_done design sound stage) all
