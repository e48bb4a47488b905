-- What ports show of the one instruction whose condition is 1.
use Rattle.std.proofs.Common.{◌≡◌, ◌≢◌, ℕ, zero, suc, List, [], ◌∷◌, Option, None, Some, inl, inr, refl, sym, ap, subst, ◌∙◌, arith, ⊎_elim}
use Rattle.std.specs.Prelude.{◌⊎◌, IfSome, slice_get}
use Rattle.std.proofs.lemmas.Option.{same_Some}
use Rattle.ap_desc.specs.declared.design.Arg.TheVariants as arg
use Rattle.ap_net.specs.declared.cell.Wire.{Wire}
use Rattle.ap_net.specs.Draft.{Draft}
use Rattle.ap_net.specs.Modules.{ModuleText, module_named}
use Rattle.ap_net.specs.Readings.{IsSettled, Reading}
use Rattle.ap_stage.specs.declared.chain.Node.{Node}
use Rattle.ap_stage.specs.declared.chain.Node.TheVariants as node
use Rattle.ap_stage.specs.declared.node.Course.{Course}
use Rattle.ap_stage.specs.declared.node.PortUse.{PortUse}
use Rattle.ap_stage.specs.declared.row.Line.{Line}
use Rattle.ap_stage.specs.declared.source.Ground.{Ground}
use Rattle.ap_stage.specs.Chained.{IsServedNode, IsWhole}
use Rattle.ap_stage.specs.Courses.{HasResult, IsOnlyUser, use_of, users_of}
use Rattle.ap_stage.specs.Served.{port_of}
use Rattle.ap_stage.specs.Shown.{IsOnlyCourse, LinesAreShown, PortsAreShown, ShowsUse, course_value}
use Rattle.ap_stage.specs.Sources.{HasNet, net_value}
use Rattle.ap_stage.proofs.Chained.{found_once}
use Rattle.ap_stage.proofs.Listed.{each_at}
use Rattle.ap_stage.proofs.Users.{users_from}

-- each user is one of the instructions
user_course : (port : ℕ) (courses : List Course) (p : ℕ) (one : Course × PortUse) → slice_get (users_of port courses) p ≡ Some one → (j : ℕ) × (slice_get courses j ≡ Some one.0)
user_course port [] p one at = absurd cc
user_course port (x ∷ courses) p one at = go (use_of port x) p at (λ q there. user_course port courses q one there)
  where
    Found : List Course → Type 0
    Found cs = (j : ℕ) × (slice_get cs j ≡ Some one.0)

    go : (o : Option PortUse) (q : ℕ) → slice_get (users_from x o (users_of port courses)) q ≡ Some one → ((i : ℕ) → slice_get (users_of port courses) i ≡ Some one → Found courses) → Found (x ∷ courses)
    go None q there rest = let later = rest q there in (suc later.0, later.1)
    go (Some u) zero there rest = (0, ap (λ (z : Course × PortUse). Some z.0) (same_Some (x, u) one there))
    go (Some u) (suc q) there rest = let later = rest q there in (suc later.0, later.1)

-- a user at another place is another instruction
abbrev IsOther : List Course → ℕ → ℕ → ℕ → Course × PortUse → Type 0
IsOther courses k place other one = (other ≡ place) ⊎ ((j : ℕ) × (j ≢ k) × (slice_get courses j ≡ Some one.0))

record StandsAt (port : ℕ) (courses : List Course) (k : ℕ) (user : Course × PortUse) : Type 0 where
  place : ℕ
  at : slice_get (users_of port courses) place ≡ Some user
  others : (other : ℕ) (one : Course × PortUse) → slice_get (users_of port courses) other ≡ Some one → IsOther courses k place other one

user_place : (port : ℕ) (courses : List Course) (k : ℕ) (c : Course) (u : PortUse) → slice_get courses k ≡ Some c → use_of port c ≡ Some u → StandsAt port courses k (c, u)
user_place port [] k c u at is = absurd cc
user_place port (x ∷ courses) zero c u at is =
    let same : x ≡ c = same_Some x c at in
    let used : use_of port x ≡ Some u = ap (use_of port) same ∙ is in
    let users : users_of port (x ∷ courses) ≡ (x, u) ∷ users_of port courses = ap (λ o. users_from x o (users_of port courses)) used in
    record {
      place = 0;
      at = ap (λ l. slice_get l 0) users ∙ ap (λ z. Some (z, u)) same;
      others = λ other one there. go other one (sym (ap (λ l. slice_get l other) users) ∙ there);
    }
  where
    go : (other : ℕ) (one : Course × PortUse) → slice_get ((x, u) ∷ users_of port courses) other ≡ Some one → IsOther (x ∷ courses) 0 0 other one
    go zero one there = inl refl
    go (suc other) one there = let later = user_course port courses other one there in inr (suc later.0, (λ e. absurd cc), later.1)
user_place port (x ∷ courses) (suc k) c u at is = go (use_of port x) refl (user_place port courses k c u at is)
  where
    go : (o : Option PortUse) → use_of port x ≡ o → StandsAt port courses k (c, u) → StandsAt port (x ∷ courses) (suc k) (c, u)
    go None used rest =
        let users : users_of port (x ∷ courses) ≡ users_of port courses = ap (λ o. users_from x o (users_of port courses)) used in
        record {
          place = rest.place;
          at = ap (λ l. slice_get l rest.place) users ∙ rest.at;
          others = λ other one there.
              ⊎_elim (λ e. inl e) (λ (h : (j : ℕ) × (j ≢ k) × (slice_get courses j ≡ Some one.0)). inr (suc h.0, (λ e. h.1 (omega arith)), h.2)) (rest.others other one (sym (ap (λ l. slice_get l other) users) ∙ there));
        }
    go (Some v) used rest =
        let users : users_of port (x ∷ courses) ≡ (x, v) ∷ users_of port courses = ap (λ o. users_from x o (users_of port courses)) used in
        record {
          place = suc rest.place;
          at = ap (λ l. slice_get l (suc rest.place)) users ∙ rest.at;
          others = λ other one there. next other one (sym (ap (λ l. slice_get l other) users) ∙ there);
        }
      where
        next : (other : ℕ) (one : Course × PortUse) → slice_get ((x, v) ∷ users_of port courses) other ≡ Some one → IsOther (x ∷ courses) (suc k) (suc rest.place) other one
        next zero one there = inr (0, (λ e. absurd cc), ap (λ (z : Course × PortUse). Some z.0) (same_Some (x, v) one there))
        next (suc other) one there =
            ⊎_elim (λ e. inl (ap suc e)) (λ (h : (j : ℕ) × (j ≢ k) × (slice_get courses j ≡ Some one.0)). inr (suc h.0, (λ e. h.1 (omega arith)), h.2)) (rest.others other one there)

-- the one instruction is the one user
only_user : (r : Reading) (courses : List Course) (k port : ℕ) (c : Course) (u : PortUse) → slice_get courses k ≡ Some c → IsOnlyCourse r courses k → (s : StandsAt port courses k (c, u)) → IsOnlyUser r (users_of port courses) s.place
only_user r courses k port c u at only s = record {
  on = λ user there.
      let same : (c, u) ≡ user = same_Some (c, u) user (sym s.at ∙ there) in
      subst (λ (z : Course × PortUse). r.read z.0.cond.number ≡ 1) same (only.on c at);
  alone = λ other one there lit. ⊎_elim (λ e. e) (λ (h : (j : ℕ) × (j ≢ k) × (slice_get courses j ≡ Some one.0)). absurd (h.1 (only.alone h.0 one.0 h.2 lit))) (s.others other one there);
}

-- the local of the line that uses the port has its result
local_shown : (r : Reading) (ground : Ground) (port : ℕ) (c : Course) (u : PortUse) (y : Wire) → use_of port c ≡ Some u → HasResult port y c → course_value r ground c (arg.Local u.local) ≡ r.read y.number
local_shown r ground port c u y is has =
    let there : slice_get c.row.items u.local ≡ Some (Some y) = subst (λ (o : Option PortUse). IfSome o (λ z. slice_get c.row.items z.local ≡ Some (Some y))) is has in
    ap (net_value r) there

node_shown : (d : Draft) (ground : Ground) (modules : List ModuleText) (courses : List Course) (n : Node) (r : Reading) → IsServedNode d ground modules courses n → IsSettled d r → (k : ℕ) (c : Course) (u : PortUse) → slice_get courses k ≡ Some c
    → use_of (port_of n) c ≡ Some u → (s : StandsAt (port_of n) courses k (c, u)) → IsOnlyUser r (users_of (port_of n) courses) s.place → ShowsUse r ground modules c u n
node_shown d ground modules courses (node.Quick q) r served settled k c u at is s only = λ m whole card there found computes few.
    let same : served.m ≡ m = same_Some served.m m (sym served.is_module ∙ there) in
    local_shown r ground q.port c u served.served.y is (each_at (HasResult q.port served.served.y) courses k c served.served.has at)
    ∙ served.served.gives.means.holds r settled s.place (c, u) s.at only whole card (subst (λ (z : ModuleText). module_named r.modules z.name ≡ Some whole) (sym same) found) computes few
node_shown d ground modules courses (node.Slow q) r served settled k c u at is s only = record {
  sel = served.sel.carries.means.holds r settled s.place (c, u) s.at only;
  a = served.a.carries.means.holds r settled s.place (c, u) s.at only;
  b = served.b.carries.means.holds r settled s.place (c, u) s.at only;
  result = local_shown r ground q.port c u q.y is (each_at (HasResult q.port q.y) courses k c served.has at);
}
node_shown d ground modules courses (node.Read p) r served settled k c u at is s only = record {
  index = served.index.carries.means.holds r settled s.place (c, u) s.at only;
  result = local_shown r ground p.port c u p.value is (each_at (HasResult p.port p.value) courses k c served.has at);
}

pub ports_are_shown : PortsAreShown
ports_are_shown d ground modules courses n r whole served settled place c at only k u there is =
    let once = (each_at IsWhole courses place c whole at).once in
    let used = found_once c.uses (port_of n) k u there is once in
    let stands = user_place (port_of n) courses place c u at used in
    node_shown d ground modules courses n r served settled place c u at used stands (only_user r courses place (port_of n) c u at only stands)

pub lines_are_shown : LinesAreShown
lines_are_shown d ground c r course full settled k l at =
    let has = each_at (λ (x : Line). HasNet c.row.items (arg.Local x.local)) c.lines k l full.lines at in
    let made = course.made k l has.0 at has.1 in
    made.net.means.holds r settled ∙ ap Some (sym (ap (net_value r) has.1))
