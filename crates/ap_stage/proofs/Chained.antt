-- Where the ports are served that an operand takes from, the operand has a net.
use Rattle.std.proofs.Common.{◌≡◌, ◌≢◌, ℕ, zero, suc, ◌+◌, ◌<◌, ◌≤◌, ◌==◌, Bool, true, false, cond, List, [], ◌∷◌, ◌++◌, length, take, Option, Some, None, inl, inr, refl, sym, ap, subst, ◌∙◌, arith, ⊎_elim, append_assoc, eqb-true}
use Rattle.std.specs.Prelude.{IfSome, find, slice_get}
use Rattle.std.specs.List.{AllByRecursion as Each}
use Rattle.std.proofs.lemmas.Bool.{cases_lt, eq-eqb}
use Rattle.std.proofs.lemmas.List.{append-nil, map-append, take_more}
use Rattle.std.proofs.lemmas.Option.{get_or_from_slice_get, same_Some, slice_get_within}
use Rattle.ap_desc.specs.Chains.{operands_of}
use Rattle.ap_desc.specs.Designs.{width_at}
use Rattle.ap_desc.specs.declared.design.Act.{Act}
use Rattle.ap_desc.specs.declared.design.Act.TheVariants as act
use Rattle.ap_desc.specs.declared.design.Arg.{Arg}
use Rattle.ap_desc.specs.declared.design.Arg.TheVariants as arg
use Rattle.ap_net.specs.declared.cell.Wire.{Wire}
use Rattle.ap_net.specs.declared.net.Instance.{Instance}
use Rattle.ap_net.specs.Draft.{Adds, Draft, Extends}
use Rattle.ap_net.specs.Modules.{ModuleText}
use Rattle.ap_net.specs.Names.{IsNew}
use Rattle.ap_net.specs.Ready.{Dependence, ReadyAfter}
use Rattle.ap_net.proofs.Laws.{Carries-Extends, IsNet-Adds, Makes-refl, ReadyAfter-Extends, meant, stays}
use Rattle.ap_merge.specs.declared.table.Select.{Select}
use Rattle.ap_merge.specs.Selects.{GoesOver, depth}
use Rattle.ap_stage.specs.declared.chain.Node.{Node}
use Rattle.ap_stage.specs.declared.chain.Node.TheVariants as node
use Rattle.ap_stage.specs.declared.node.Course.{Course}
use Rattle.ap_stage.specs.declared.node.PortUse.{PortUse}
use Rattle.ap_stage.specs.declared.row.Line.{Line}
use Rattle.ap_stage.specs.declared.serve.QuickUnit.{QuickUnit}
use Rattle.ap_stage.specs.declared.source.Ground.{Ground}
use Rattle.ap_stage.specs.declared.source.Scope.{Scope}
use Rattle.ap_stage.specs.declared.user.Part.{Part}
use Rattle.ap_stage.specs.declared.user.Part.TheVariants as part
use Rattle.ap_stage.specs.Chained.{HasOrigin, IsApart, IsBefore, IsFull, IsNode, IsPortless, IsServedNode, IsWhole, TakeFrom, TakesBut, TakesFrom, UsesOnly, result, wired}
use Rattle.ap_stage.specs.Courses.{AreSame, AreUses, CanServe, FitsPart, FitsRead, FitsUnit, GoOn, GoesOn, HasResult, IsCourse, IsUnserved, courses_numbers, use_of, users_of}
use Rattle.ap_stage.specs.Reads.{AreFrom, Serves}
use Rattle.ap_stage.specs.Rows.{IsOther}
use Rattle.ap_stage.specs.Served.{IsGiven, IsReadyNode, IsServable, IsServed, IsServedQuick, PlacesOnce, ServesNodes, StayReady, names_placed, port_of, stage_names, stage_wires, wires_of}
use Rattle.ap_stage.specs.Sources.{HasNet, IsWired}
use Rattle.ap_stage.specs.Trees.{IsShallow}
use Rattle.ap_stage.specs.Users.{CanAsk, FitsHanded, args_of, handed_in}
use Rattle.ap_stage.proofs.Driven.{came_later, serves_later, serves_made}
use Rattle.ap_stage.proofs.Filled.{keeps_same}
use Rattle.ap_stage.proofs.Swept.{keeps_trans}
use Rattle.ap_stage.proofs.Grown.{has_kept}
use Rattle.ap_stage.proofs.Listed.{each_at, each_both, each_by_place, each_found, each_left, each_right, get_last}
use Rattle.ap_stage.proofs.Ported.{from_ready, part_on}
use Rattle.ap_stage.proofs.Shallow.{shallow_on}
use Rattle.ap_stage.proofs.Users.{can_on, gives_on, same_use, use_is, user_before, users_from}

wired_by : (row : List (Option Wire)) (a : Act) → IsPortless a → Each (HasNet row) (operands_of a) → IsWired row a
wired_by row (act.ReadReg reg) p h = tt
wired_by row (act.ReadIn input) p h = tt
wired_by row (act.Const width value) p h = tt
wired_by row (act.Zext width a) p h = h.0
wired_by row (act.Sext width a) p h = h.0
wired_by row (act.Slice high low a) p h = h.0
wired_by row (act.Cat a b) p h = (h.0, h.1.0)
wired_by row _ p h = absurd p

-- all lines that make the operand stand before this place
abbrev MadeBefore : Course → ℕ → Arg → Type 0
MadeBefore c n a = (k : ℕ) (l : Line) → slice_get c.lines k ≡ Some l → a ≡ arg.Local l.local → k < n

-- the results of this port have nets
abbrev pub HasResults : Course → ℕ → Type 0
HasResults c port = (k : ℕ) (u : PortUse) → slice_get c.uses k ≡ Some u → u.port ≡ port → HasNet c.row.items (arg.Local u.local)

other_local : (n : ℕ) (a : Arg) → IsOther n a → a ≡ arg.Local n → ⊥
other_local n a h is = (subst (IsOther n) is h) refl

net_within : (n : ℕ) (d : Draft) (ground : Ground) (c : Course) → IsCourse d ground c → IsWhole c → (a : Arg) → MadeBefore c n a → HasOrigin c a → ((port : ℕ) → TakesFrom c port a → HasResults c port) → HasNet c.row.items a
net_within n d ground c course whole (arg.Field i) before origin served = tt
net_within n d ground c course whole arg.Pc before origin served = tt
net_within n d ground c course whole arg.Link before origin served = tt
net_within n d ground c course whole (arg.Local i) before (inl h) served = h
net_within n d ground c course whole (arg.Local i) before (inr (inr (k, u, at, is))) served =
    subst (λ j. HasNet c.row.items (arg.Local j)) is (served u.port (subst (λ j. TakesFrom c u.port (arg.Local j)) is (result k u at refl)) k u at refl)
net_within zero d ground c course whole (arg.Local i) before (inr (inl (k, l, at, is))) served = let none = before k l at (ap (λ j. arg.Local j) (sym is)) in absurd (omega arith)
net_within (suc n) d ground c course whole (arg.Local i) before (inr (inl (k, l, at, is))) served =
    let low : k < suc n = before k l at (ap (λ j. arg.Local j) (sym is)) in
    let origins = each_at (λ (x : Line). Each (HasOrigin c) (operands_of x.act)) c.lines k l whole.lines at in
    let nets : Each (HasNet c.row.items) (operands_of l.act) = each_by_place (HasNet c.row.items) (operands_of l.act) (λ j b there.
    net_within n d ground c course whole b
    (λ m x x_at made. ⊎_elim (λ (lt : m < k). omega arith) (λ (ge : k ≤ m). absurd (other_local x.local b (each_at (IsOther x.local) (operands_of l.act) j b (course.lines.back k m l x at x_at ge) there) made)) (cases_lt m k))
    (each_at (HasOrigin c) (operands_of l.act) j b origins there)
    (λ port takes. served port (subst (λ m. TakesFrom c port (arg.Local m)) is (wired k j l b at there takes)))) in
    subst (λ j. HasNet c.row.items (arg.Local j)) is
    (course.closed k l (slice_get_within c.lines k l at) at (wired_by c.row.items l.act (each_at (λ (x : Line). IsPortless x.act) c.lines k l whole.portless at) nets))

pub net_there : (d : Draft) (ground : Ground) (c : Course) → IsCourse d ground c → IsWhole c → (a : Arg) → HasOrigin c a → ((port : ℕ) → TakesFrom c port a → HasResults c port) → HasNet c.row.items a
net_there d ground c course whole a origin served = net_within (length c.lines) d ground c course whole a (λ k l at is. slice_get_within c.lines k l at) origin served

-- Units that were served. ------------------------------------------------------------------------------------------------

abbrev test_of : ℕ → PortUse → Bool
test_of port u = u.port == port

abbrev UsedOnce : List PortUse → Type 0
UsedOnce uses = (j k : ℕ) (one other : PortUse) → slice_get uses j ≡ Some one → slice_get uses k ≡ Some other → one.port ≡ other.port → j ≡ k

-- the one line that computes on a port is the first that does
pub found_once : (uses : List PortUse) (port k : ℕ) (u : PortUse) → slice_get uses k ≡ Some u → u.port ≡ port → UsedOnce uses → find (test_of port) uses ≡ Some u
found_once [] port k u at is once = absurd cc
found_once (x ∷ uses) port zero u at is once =
    let same : x ≡ u = same_Some x u at in
    let here : x.port ≡ port = ap (λ (z : PortUse). z.port) same ∙ is in
    ap (λ b. cond b (Some x) (find (test_of port) uses)) (eq-eqb x.port port here) ∙ ap (λ (z : PortUse). Some z) same
found_once (x ∷ uses) port (suc k) u at is once = go (x.port == port) refl (found_once uses port k u at is (λ i j one other p q same. let later : suc i ≡ suc j = once (suc i) (suc j) one other p q same in omega arith))
  where
    go : (b : Bool) → (x.port == port) ≡ b → find (test_of port) uses ≡ Some u → cond b (Some x) (find (test_of port) uses) ≡ Some u
    go true e rest = let none : 0 ≡ suc k = once 0 (suc k) x u refl at (eqb-true x.port port e ∙ sym is) in absurd cc
    go false e rest = rest

-- where a line stands that was found
found_at : (uses : List PortUse) (port : ℕ) (u : PortUse) → find (test_of port) uses ≡ Some u → (k : ℕ) × (slice_get uses k ≡ Some u) × (u.port ≡ port)
found_at [] port u is = absurd cc
found_at (x ∷ uses) port u is = go (x.port == port) refl is (λ later. found_at uses port u later)
  where
    Found : List PortUse → Type 0
    Found us = (k : ℕ) × (slice_get us k ≡ Some u) × (u.port ≡ port)

    go : (b : Bool) → (x.port == port) ≡ b → cond b (Some x) (find (test_of port) uses) ≡ Some u → (find (test_of port) uses ≡ Some u → Found uses) → Found (x ∷ uses)
    go true e there later = let same : x ≡ u = same_Some x u there in (0, there, subst (λ (z : PortUse). z.port ≡ port) same (eqb-true x.port port e))
    go false e there later = let rest = later there in (suc rest.0, rest.1, rest.2)

pub results_there : (c : Course) (port : ℕ) (y : Wire) → HasResult port y c → UsedOnce c.uses → HasResults c port
results_there c port y h once k u at is = (y, subst (λ (o : Option PortUse). IfSome o (λ z. slice_get c.row.items z.local ≡ Some (Some y))) (found_once c.uses port k u at is once) h)

pub results_all : (courses : List Course) (port : ℕ) (y : Wire) → Each (HasResult port y) courses → Each IsWhole courses → Each (λ (c : Course). HasResults c port) courses
results_all courses port y has whole = each_by_place (λ (c : Course). HasResults c port) courses (λ k c at. results_there c port y (each_at (HasResult port y) courses k c has at) (each_at IsWhole courses k c whole at).once)

pub served_results : (d : Draft) (ground : Ground) (modules : List ModuleText) (courses : List Course) (n : Node) → IsServedNode d ground modules courses n → Each IsWhole courses → Each (λ (c : Course). HasResults c (port_of n)) courses
served_results d ground modules courses (node.Quick u) served whole = results_all courses u.port served.served.y served.served.has whole
served_results d ground modules courses (node.Slow u) served whole = results_all courses u.port u.y served.has whole
served_results d ground modules courses (node.Read p) served whole = results_all courses p.port p.value served.has whole

-- where the units are served that its users take from, a port can be served
pub can_serve : (d : Draft) (ground : Ground) (Done : ℕ → Type 0) (v : ℕ) (courses : List Course) → Each (IsCourse d ground) courses → Each IsWhole courses → TakeFrom Done v courses
    → ((port : ℕ) → Done port → Each (λ (c : Course). HasResults c port) courses) → CanServe (users_of v courses)
can_serve d ground Done v [] each whole takes results = tt
can_serve d ground Done v (c ∷ courses) each whole takes results = go (use_of v c) refl takes (λ rest. can_serve d ground Done v courses each.1 whole.1 rest (λ port done. (results port done).1))
  where
    Can : Course × PortUse → Type 0
    Can user = CanAsk user.0.row.items user.1.asked

    go : (o : Option PortUse) → use_of v c ≡ o → Each (TakesBut Done) (users_from c o (users_of v courses)) → (Each (TakesBut Done) (users_of v courses) → Each Can (users_of v courses)) → Each Can (users_from c o (users_of v courses))
    go None is h rest = rest h
    go (Some u) is h rest =
        let origins = each_found (λ (x : PortUse). Each (HasOrigin c) (args_of x.asked)) (test_of v) c.uses u is whole.0.uses in (
          each_by_place (HasNet c.row.items) (args_of u.asked) (λ k a at.
              net_there d ground c each.0 whole.0 a (each_at (HasOrigin c) (args_of u.asked) k a origins at) (λ port t. (results port (each_at (λ (z : Arg). (from : ℕ) → TakesFrom c from z → Done from) (args_of u.asked) k a h.0 at port t)).0)),
          rest h.1,
        )

-- What goes on where another port is served. -----------------------------------------------------------------------------

takes_back : (v : ℕ) (old new : Course) → GoesOn v old new → (port : ℕ) (a : Arg) → TakesFrom new port a → TakesFrom old port a
takes_back v old new h port a (result k u at is) = result k u (sym (ap (λ us. slice_get us k) h.uses) ∙ at) is
takes_back v old new h port a (wired k j l b at there t) = wired k j l b (sym (ap (λ ls. slice_get ls k) h.lines) ∙ at) there (takes_back v old new h port b t)

pub take_on : (v port : ℕ) (Done : ℕ → Type 0) (old new : List Course) → GoOn v old new → TakeFrom Done port old → TakeFrom Done port new
take_on v port Done old new h takes = each_by_place (TakesBut Done) (users_of port new) (λ place user at.
    let one = user_before v port old new h place user at in
    let own = each_at (TakesBut Done) (users_of port old) place one.0 takes one.1 in
    subst (λ (z : PortUse). Each (λ (a : Arg). (from : ℕ) → TakesFrom user.0 from a → Done from) (args_of z.asked)) (sym one.3)
    (each_by_place (λ (a : Arg). (from : ℕ) → TakesFrom user.0 from a → Done from) (args_of one.0.1.asked) (λ k a there from t.
    each_at (λ (z : Arg). (f : ℕ) → TakesFrom one.0.0 f z → Done f) (args_of one.0.1.asked) k a own there from (takes_back v one.0.0 user.0 one.2 from a t))))

part_moved : (ground : Ground) (w : ℕ) (p : Part) (one user : Course × PortUse) → user.0.scope ≡ one.0.scope → user.1 ≡ one.1 → FitsPart ground w p one → FitsPart ground w p user
part_moved ground w p one user scope used h = record {
  given = h.given;
  is = ap (λ (u : PortUse). handed_in u.asked p) used ∙ h.is;
  fits = subst (λ (s : Scope). FitsHanded ground s w h.given) (sym scope) h.fits;
}

unit_moved : (ground : Ground) (s w : ℕ) (one user : Course × PortUse) → user.0.scope ≡ one.0.scope → user.1 ≡ one.1 → FitsUnit ground s w one → FitsUnit ground s w user
unit_moved ground s w one user scope used h = record {
  op = part_moved ground s part.Operation one user scope used h.op;
  first = part_moved ground w part.First one user scope used h.first;
  second = part_moved ground w part.Second one user scope used h.second;
  result = (λ i. width_at (λ (width : ℕ). width) (scope i).widths (used i).local) ∙ h.result;
}

read_moved : (ground : Ground) (bits w : ℕ) (one user : Course × PortUse) → user.0.scope ≡ one.0.scope → user.1 ≡ one.1 → FitsRead ground bits w one → FitsRead ground bits w user
read_moved ground bits w one user scope used h = record {
  index = part_moved ground bits part.First one user scope used h.index;
  result = (λ i. width_at (λ (width : ℕ). width) (scope i).widths (used i).local) ∙ h.result;
}

-- what depends on the users' scopes and lines alone
fit_on : (P : Course × PortUse → Type 0) (v port : ℕ) (old new : List Course) → ((one user : Course × PortUse) → user.0.scope ≡ one.0.scope → user.1 ≡ one.1 → P one → P user) → GoOn v old new → Each P (users_of port old) → Each P (users_of port new)
fit_on P v port old new moved h fit = each_by_place P (users_of port new) (λ place user at.
    let one = user_before v port old new h place user at in
    moved one.0 user one.2.scope one.3 (each_at P (users_of port old) place one.0 fit one.1))

users_count : (v port : ℕ) (old new : List Course) → GoOn v old new → length (users_of port new) ≡ length (users_of port old)
users_count v port [] [] h = refl
users_count v port [] (y ∷ new) h = absurd h
users_count v port (x ∷ old) [] h = absurd h
users_count v port (x ∷ old) (y ∷ new) h = ap (λ o. length (users_from y o (users_of port new))) (same_use v port x y h.0) ∙ go (use_of port x) (users_count v port old new h.1)
  where
    go : (o : Option PortUse) → length (users_of port new) ≡ length (users_of port old) → length (users_from y o (users_of port new)) ≡ length (users_from x o (users_of port old))
    go None rest = rest
    go (Some u) rest = ap suc rest

-- the local of another port's result
unserved_one : (v port : ℕ) (old new : Course) → port ≢ v → GoesOn v old new → AreUses old → IsUnserved port old → IsUnserved port new
unserved_one v port old new ne h uses un = subst (λ (o : Option PortUse). IfSome o (λ u. slice_get new.row.items u.local ≡ Some None)) (sym (same_use v port old new h)) (go (use_of port old) refl un)
  where
    apart : (x : PortUse) → use_of port old ≡ Some x → (o : Option PortUse) → use_of v old ≡ o → IfSome o (λ y. x.local ≢ y.local)
    apart x is None found = tt
    apart x is (Some y) found =
        λ same.
        let one = found_at old.uses port x is in
        let other = found_at old.uses v y found in
        let place : one.0 ≡ other.0 = uses.apart one.0 other.0 x y one.1 other.1 same in
        let both : x ≡ y = same_Some x y (sym one.1 ∙ ap (slice_get old.uses) place ∙ other.1) in
        ne (sym one.2 ∙ ap (λ (z : PortUse). z.port) both ∙ other.2)

    go : (o : Option PortUse) → use_of port old ≡ o → IfSome o (λ u. slice_get old.row.items u.local ≡ Some None) → IfSome o (λ u. slice_get new.row.items u.local ≡ Some None)
    go None is none = tt
    go (Some x) is none = h.others x.local (record { used = apart x is (use_of v old) refl; lines = (use_is port old x is uses.each).apart }) ∙ none

unserved_on : (v port : ℕ) (d : Draft) (ground : Ground) (old new : List Course) → port ≢ v → GoOn v old new → Each (IsCourse d ground) old → Each (IsUnserved port) old → Each (IsUnserved port) new
unserved_on v port d ground [] [] ne h courses un = tt
unserved_on v port d ground [] (y ∷ new) ne h courses un = absurd h
unserved_on v port d ground (x ∷ old) [] ne h courses un = absurd h
unserved_on v port d ground (x ∷ old) (y ∷ new) ne h courses un = (unserved_one v port x y ne h.0 courses.0.uses un.0, unserved_on v port d ground old new ne h.1 courses.1 un.1)

origin_on : (v : ℕ) (old new : Course) → GoesOn v old new → (a : Arg) → HasOrigin old a → HasOrigin new a
origin_on v old new h (arg.Local i) (inl has) = inl (has_kept old.row.items new.row.items h.keeps (arg.Local i) has)
origin_on v old new h (arg.Local i) (inr (inl (k, l, at, is))) = inr (inl (k, l, ap (λ ls. slice_get ls k) h.lines ∙ at, is))
origin_on v old new h (arg.Local i) (inr (inr (k, u, at, is))) = inr (inr (k, u, ap (λ us. slice_get us k) h.uses ∙ at, is))
origin_on v old new h (arg.Field i) o = tt
origin_on v old new h arg.Pc o = tt
origin_on v old new h arg.Link o = tt

whole_one : (v : ℕ) (old new : Course) → GoesOn v old new → IsWhole old → IsWhole new
whole_one v old new h w = record {
  portless = subst (Each (λ (l : Line). IsPortless l.act)) (sym h.lines) w.portless;
  lines = subst (Each (λ (l : Line). Each (HasOrigin new) (operands_of l.act))) (sym h.lines)
      (each_by_place (λ (l : Line). Each (HasOrigin new) (operands_of l.act)) old.lines (λ k l at.
      each_by_place (HasOrigin new) (operands_of l.act) (λ j a there.
      origin_on v old new h a (each_at (HasOrigin old) (operands_of l.act) j a (each_at (λ (x : Line). Each (HasOrigin old) (operands_of x.act)) old.lines k l w.lines at) there))));
  uses = subst (Each (λ (u : PortUse). Each (HasOrigin new) (args_of u.asked))) (sym h.uses)
      (each_by_place (λ (u : PortUse). Each (HasOrigin new) (args_of u.asked)) old.uses (λ k u at.
      each_by_place (HasOrigin new) (args_of u.asked) (λ j a there.
      origin_on v old new h a (each_at (HasOrigin old) (args_of u.asked) j a (each_at (λ (x : PortUse). Each (HasOrigin old) (args_of x.asked)) old.uses k u w.uses at) there))));
  once = subst UsedOnce (sym h.uses) w.once;
}

pub whole_on : (v : ℕ) (old new : List Course) → GoOn v old new → Each IsWhole old → Each IsWhole new
whole_on v [] [] h w = tt
whole_on v [] (y ∷ new) h w = absurd h
whole_on v (x ∷ old) [] h w = absurd h
whole_on v (x ∷ old) (y ∷ new) h w = (whole_one v x y h.0 w.0, whole_on v old new h.1 w.1)

result_on : (v port : ℕ) (y : Wire) (old new : List Course) → GoOn v old new → Each (HasResult port y) old → Each (HasResult port y) new
result_on v port y [] [] h has = tt
result_on v port y [] (c ∷ new) h has = absurd h
result_on v port y (x ∷ old) [] h has = absurd h
result_on v port y (x ∷ old) (c ∷ new) h has =
    (subst (λ (o : Option PortUse). IfSome o (λ u. slice_get c.row.items u.local ≡ Some (Some y))) (sym (same_use v port x c h.0)) (go (use_of port x) has.0), result_on v port y old new h.1 has.1)
  where
    go : (o : Option PortUse) → IfSome o (λ u. slice_get x.row.items u.local ≡ Some (Some y)) → IfSome o (λ u. slice_get c.row.items u.local ≡ Some (Some y))
    go None there = tt
    go (Some u) there = h.0.keeps.kept u.local y there

pub served_on : (v port w : ℕ) (a b : Draft) (ground : Ground) (name : List ℕ) (old new : List Course) → Extends a b → GoOn v old new → IsServed a ground name port w old → IsServed b ground name port w new
served_on v port w a b ground name old new e h served = record {
  y = served.y;
  can = can_on v port old new h served.can;
  gives = Carries-Extends e (meant (λ r s gives. gives_on v port w ground name old new r (r.read served.y.number) h served.can gives) served.gives);
  has = result_on v port served.y old new h served.has;
}

servable_on : (v port : ℕ) (d : Draft) (ground : Ground) (old new : List Course) (select : Select) → port ≢ v → GoOn v old new → Each (IsCourse d ground) old → IsServable old port select → IsServable new port select
servable_on v port d ground old new select ne h courses s = record {
  over = subst (GoesOver select 0) (sym (users_count v port old new h)) s.over;
  unserved = unserved_on v port d ground old new ne h courses s.unserved;
}

given_on : (a b : Draft) (y : Wire) → Adds a b → IsGiven a y → IsGiven b y
given_on a b y adds h = record { net = IsNet-Adds a b y adds h.net; low = shallow_on a b 0 y.number adds.extends h.low }

-- what holds of each of some is so of them and of none besides
each_end : {X : Type 0} (P : X → Type 0) (xs : List X) → Each P xs → Each P (xs ++ [])
each_end P xs h = subst (Each P) (sym (append-nil xs)) h

-- a port that is still to be served
pub node_on : (a b : Draft) (ground : Ground) (modules : List ModuleText) (old new : List Course) (served n : Node) → IsApart n served → ServesNodes (served ∷ []) a b → GoOn (port_of served) old new → Each (IsCourse a ground) old
    → IsNode a ground old modules n → IsNode b ground new modules n
node_on a b ground modules old new served (node.Quick u) apart s h courses (m, at, n) = (
  m,
  at,
  record {
    servable = servable_on (port_of served) u.port a ground old new u.select apart.port h courses n.servable;
    ports = n.ports;
    is_name = n.is_name;
    other = n.other;
    new = s.serves.names u.name n.other (subst (IsNew u.name) (sym s.named) (each_end (λ before. before ≢ u.name) (names_placed served) apart.names.0)) n.new;
    fit = fit_on (FitsUnit ground u.select_width u.width) (port_of served) u.port old new (unit_moved ground u.select_width u.width) h n.fit;
  },
)
node_on a b ground modules old new served (node.Slow u) apart s h courses n = record {
  servable = servable_on (port_of served) u.port a ground old new u.select apart.port h courses n.servable;
  sel = s.serves.late u.sel n.sel (each_end (λ (x : Wire). x.number ≢ u.sel.number) (wires_of served) apart.wires.0);
  a = s.serves.late u.a n.a (each_end (λ (x : Wire). x.number ≢ u.a.number) (wires_of served) apart.wires.1.0);
  b = s.serves.late u.b n.b (each_end (λ (x : Wire). x.number ≢ u.b.number) (wires_of served) apart.wires.1.1.0);
  sel_a = n.sel_a;
  sel_b = n.sel_b;
  a_b = n.a_b;
  same = n.same;
  wide = n.wide;
  y = given_on a b u.y s.serves.adds n.y;
  fit = fit_on (FitsUnit ground u.sel.width u.a.width) (port_of served) u.port old new (unit_moved ground u.sel.width u.a.width) h n.fit;
}
node_on a b ground modules old new served (node.Read p) apart s h courses n = record {
  servable = servable_on (port_of served) p.port a ground old new p.select apart.port h courses n.servable;
  index = s.serves.late p.index n.index (each_end (λ (x : Wire). x.number ≢ p.index.number) (wires_of served) apart.wires.0);
  value = given_on a b p.value s.serves.adds n.value;
  fit = fit_on (FitsRead ground p.index.width p.value.width) (port_of served) p.port old new (read_moved ground p.index.width p.value.width) h n.fit;
}

low_later : (a b : Draft) (most : ℕ) (nets : List Wire) → Extends a b → Each (λ (w : Wire). IsShallow a most w.number) nets → Each (λ (w : Wire). IsShallow b most w.number) nets
low_later a b most [] e h = tt
low_later a b most (w ∷ nets) e h = (shallow_on a b most w.number e h.0, low_later a b most nets e h.1)

-- a port that was served
pub served_node_on : (v : ℕ) (a b : Draft) (ground : Ground) (modules : List ModuleText) (old new : List Course) (n : Node) → Extends a b → GoOn v old new → IsServedNode a ground modules old n → IsServedNode b ground modules new n
served_node_on v a b ground modules old new (node.Quick u) e h s = record {
  m = s.m;
  is_module = s.is_module;
  served = served_on v u.port u.width a b ground (s.m).name old new e h s.served;
  k = s.k;
  of = s.of;
  placed = stays a.instances b.instances e.instances s.k s.of s.placed;
  is_unit = record { named = s.is_unit.named; connects = s.is_unit.connects; low = low_later a b (depth u.select) (s.of).nets e s.is_unit.low };
}
served_node_on v a b ground modules old new (node.Slow u) e h s = record {
  can = can_on v u.port old new h s.can;
  sel = part_on v u.port a b ground old new part.Operation u.select u.sel e h s.can s.sel;
  a = part_on v u.port a b ground old new part.First u.select u.a e h s.can s.a;
  b = part_on v u.port a b ground old new part.Second u.select u.b e h s.can s.b;
  has = result_on v u.port u.y old new h s.has;
}
served_node_on v a b ground modules old new (node.Read p) e h s = record {
  can = can_on v p.port old new h s.can;
  index = part_on v p.port a b ground old new part.First p.select p.index e h s.can s.index;
  has = result_on v p.port p.value old new h s.has;
}

-- Ports one after another. ----------------------------------------------------------------------------------------------

wires_both : (xs ys : List Node) → stage_wires (xs ++ ys) ≡ stage_wires xs ++ stage_wires ys
wires_both [] ys = refl
wires_both (n ∷ xs) ys = ap (λ l. wires_of n ++ l) (wires_both xs ys) ∙ sym (append_assoc (wires_of n) (stage_wires xs) (stage_wires ys))

names_both : (xs ys : List Node) → stage_names (xs ++ ys) ≡ stage_names xs ++ stage_names ys
names_both [] ys = refl
names_both (n ∷ xs) ys = ap (λ l. names_placed n ++ l) (names_both xs ys) ∙ sym (append_assoc (names_placed n) (stage_names xs) (stage_names ys))

pub serves_none : (d : Draft) → ServesNodes [] d d
serves_none d = record { placed = []; named = refl; serves = serves_made d d (Makes-refl d) (λ x late. late) }

pub serves_more : (xs : List Node) (n : Node) (a b c : Draft) → ServesNodes xs a b → ServesNodes (n ∷ []) b c → ServesNodes (xs ++ n ∷ []) a c
serves_more xs n a b c p q = record {
  placed = p.placed ++ q.placed;
  named = map-append (λ (i : Instance). i.name) p.placed q.placed ∙ (λ i. p.named i ++ q.named i) ∙ sym (names_both xs (n ∷ []));
  serves = subst (λ wires. Serves (p.placed ++ q.placed) wires a c) (sym (wires_both xs (n ∷ []))) (serves_later p.placed q.placed (stage_wires xs) (stage_wires (n ∷ [])) a b c p.serves q.serves);
}

ready_node_on : (by : Dependence) (a b : Draft) (base : List ℕ) (n : Node) → Extends a b → IsReadyNode by a base n → IsReadyNode by b base n
ready_node_on by a b base (node.Quick u) e h = tt
ready_node_on by a b base (node.Slow u) e h = ReadyAfter-Extends by a b (u.sel.number ∷ u.a.number ∷ u.b.number ∷ base) u.y.number e h
ready_node_on by a b base (node.Read p) e h = ReadyAfter-Extends by a b (p.index.number ∷ base) p.value.number e h

wires_on : (by : Dependence) (base : List ℕ) (a b : Draft) (wires : List Wire) → Extends a b → Each (λ (w : Wire). ReadyAfter by a base w.number) wires → Each (λ (w : Wire). ReadyAfter by b base w.number) wires
wires_on by base a b [] e h = tt
wires_on by base a b (w ∷ wires) e h = (ReadyAfter-Extends by a b base w.number e h.0, wires_on by base a b wires e h.1)

pub ready_none : (ground : Ground) (d : Draft) (courses : List Course) → StayReady ground [] d courses d courses
ready_none ground d courses by base ready nodes = record { came = λ n low high. absurd (omega arith); wires = tt; rows = ready }

pub ready_more : (ground : Ground) (xs : List Node) (n : Node) (a b c : Draft) (first second third : List Course) → Extends a b → Extends b c → StayReady ground xs a first b second → StayReady ground (n ∷ []) b second c third → StayReady ground (xs ++ n ∷ []) a first c third
ready_more ground xs n a b c first second third e f p q by base ready nodes =
    let one = p by base ready (each_left (IsReadyNode by a base) xs (n ∷ []) nodes) in
    let next = ready_node_on by a b base n e (each_right (IsReadyNode by a base) xs (n ∷ []) nodes).0 in
    let two = q by base one.rows (next, tt) in
    record {
      came = came_later by base a b c f one.came two.came;
      wires = subst (Each (λ (w : Wire). ReadyAfter by c base w.number)) (sym (wires_both xs (n ∷ [])))
          (each_both (λ (w : Wire). ReadyAfter by c base w.number) (stage_wires xs) (stage_wires (n ∷ [])) (wires_on by base b c (stage_wires xs) f one.wires) two.wires);
      rows = two.rows;
    }

pub nodes_next : (nodes : List Node) (i : ℕ) (n : Node) → slice_get nodes i ≡ Some n → take (i + 1) nodes ≡ take i nodes ++ n ∷ []
nodes_next nodes i n at = take_more nodes i n (slice_get_within nodes i n at) ∙ ap (λ x. take i nodes ++ x ∷ []) (get_or_from_slice_get nodes i n n at)

-- Rows that are full. ---------------------------------------------------------------------------------------------------

pub only_on : (v : ℕ) (nodes : List Node) (old new : List Course) → GoOn v old new → Each (UsesOnly nodes) old → Each (UsesOnly nodes) new
only_on v nodes [] [] h only = tt
only_on v nodes [] (y ∷ new) h only = absurd h
only_on v nodes (x ∷ old) [] h only = absurd h
only_on v nodes (x ∷ old) (y ∷ new) h only = (subst (Each (λ (u : PortUse). IsBefore nodes (length nodes) u.port)) (sym h.0.uses) only.0, only_on v nodes old new h.1 only.1)

-- an operand takes from a port that a line uses
takes_used : (c : Course) (port : ℕ) (a : Arg) → TakesFrom c port a → (k : ℕ) × (u : PortUse) × (slice_get c.uses k ≡ Some u) × (u.port ≡ port)
takes_used c port a (result k u at is) = (k, u, at, is)
takes_used c port a (wired k j l b at there t) = takes_used c port b t

full_one : (d : Draft) (ground : Ground) (c : Course) → IsCourse d ground c → IsWhole c → ((k : ℕ) (u : PortUse) → slice_get c.uses k ≡ Some u → HasResults c u.port) → IsFull c
full_one d ground c course whole results = record {
  lines = each_by_place (λ (l : Line). HasNet c.row.items (arg.Local l.local)) c.lines (λ k l at.
      net_there d ground c course whole (arg.Local l.local) (inr (inl (k, l, at, refl))) (λ port t. let used = takes_used c port (arg.Local l.local) t in subst (HasResults c) used.3 (results used.0 used.1 used.2)));
  uses = each_by_place (λ (u : PortUse). HasNet c.row.items (arg.Local u.local)) c.uses (λ k u at. results k u at k u at refl);
}

pub all_full : (d : Draft) (ground : Ground) (modules : List ModuleText) (nodes : List Node) (courses : List Course) → Each (IsCourse d ground) courses → Each IsWhole courses → Each (UsesOnly nodes) courses
    → ((place : ℕ) (n : Node) → place < length nodes → slice_get nodes place ≡ Some n → IsServedNode d ground modules courses n) → Each IsFull courses
all_full d ground modules nodes courses are whole only served = each_by_place IsFull courses (λ i c at.
    full_one d ground c (each_at (IsCourse d ground) courses i c are at) (each_at IsWhole courses i c whole at) (λ k u there.
    let before = each_at (λ (x : PortUse). IsBefore nodes (length nodes) x.port) c.uses k u (each_at (UsesOnly nodes) courses i c only at) there in
    subst (HasResults c) before.4 (each_at (λ (x : Course). HasResults x (port_of before.1)) courses i c (served_results d ground modules courses before.1 (served before.0 before.1 before.2 before.3) whole) at)))

-- A unit of one cycle. --------------------------------------------------------------------------------------------------

pub served_quick : (a b : Draft) (ground : Ground) (modules : List ModuleText) (u : QuickUnit) (m : ModuleText) (courses : List Course) → slice_get modules u.module ≡ Some m → IsServed b ground m.name u.port u.width courses → PlacesOnce u.name m u.select a b
    → IsServedQuick b ground modules u courses
served_quick a b ground modules u m courses at served once =
    let i = once.places.placed in
    record {
      m = m;
      is_module = at;
      served = served;
      k = length a.instances;
      of = i;
      placed = ap (λ (l : List Instance). slice_get l (length a.instances)) once.places.places.instances ∙ get_last a.instances i;
      is_unit = record { named = once.places.named; connects = once.places.connects; low = subst (Each (λ (w : Wire). IsShallow b (depth u.select) w.number)) (sym once.places.over) once.low };
    }

pub ready_quick : (ground : Ground) (u : QuickUnit) (a b : Draft) (old new : List Course) → AreFrom (courses_numbers ground old) a b (courses_numbers ground new) → StayReady ground (node.Quick u ∷ []) a old b new
ready_quick ground u a b old new h by base ready nodes =
    let made = from_ready by base (courses_numbers ground old) (courses_numbers ground new) a b ready h in
    record { came = made.came; wires = tt; rows = made.nets_are }

pub take_whole : {X : Type 0} (xs : List X) (n : ℕ) → length xs ≤ n → take n xs ≡ xs
take_whole [] zero le = refl
take_whole [] (suc n) le = refl
take_whole (x ∷ xs) zero le = absurd (omega arith)
take_whole (x ∷ xs) (suc n) le = ap (λ l. x ∷ l) (take_whole xs n (omega arith))

-- Instructions that are the same but for their rows. ------------------------------------------------------------------------

pub same_none : (courses : List Course) → AreSame courses courses
same_none [] = tt
same_none (c ∷ courses) = (record { cond = refl; scope = refl; lines = refl; uses = refl; keeps = keeps_same c.row.items }, same_none courses)

pub same_more : (v : ℕ) (first old new : List Course) → AreSame first old → GoOn v old new → AreSame first new
same_more v [] [] [] h go = tt
same_more v [] [] (z ∷ new) h go = absurd go
same_more v [] (y ∷ old) new h go = absurd h
same_more v (x ∷ first) [] new h go = absurd h
same_more v (x ∷ first) (y ∷ old) [] h go = absurd go
same_more v (x ∷ first) (y ∷ old) (z ∷ new) h go = (
  record {
    cond = go.0.cond ∙ h.0.cond;
    scope = go.0.scope ∙ h.0.scope;
    lines = go.0.lines ∙ h.0.lines;
    uses = go.0.uses ∙ h.0.uses;
    keeps = keeps_trans x.row.items y.row.items z.row.items h.0.keeps go.0.keeps;
  },
  same_more v first old new h.1 go.1,
)
