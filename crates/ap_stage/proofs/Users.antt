-- The instructions that use a port, and what goes on where rows get further nets.
use Rattle.std.proofs.Common.{◌≡◌, ℕ, zero, suc, ◌+◌, ◌<◌, ◌==◌, List, [], ◌∷◌, ◌++◌, length, take, Option, Some, None, refl, sym, ap, subst, ◌∙◌, arith}
use Rattle.std.specs.Prelude.{IfSome, find, option_map, slice_get}
use Rattle.std.specs.List.{AllByRecursion as Each, cons_option}
use Rattle.std.specs.Option.{option_map_or}
use Rattle.std.proofs.lemmas.List.{take_more}
use Rattle.std.proofs.lemmas.List.Elements.{filter_map-append}
use Rattle.std.proofs.lemmas.Option.{get_or_from_slice_get, same_Some, slice_get_within}
use Rattle.ap_bits.specs.Cards.{operation_value}
use Rattle.ap_desc.specs.Designs.{IsArg, width_at}
use Rattle.ap_net.specs.declared.cell.Wire.{Wire}
use Rattle.ap_net.specs.Draft.{Adds, Draft, Extends}
use Rattle.ap_net.specs.Readings.{Reading}
use Rattle.ap_net.proofs.Laws.{IsNet-Adds}
use Rattle.ap_merge.specs.declared.table.Select.{Select}
use Rattle.ap_merge.specs.Selects.{GoesOver}
use Rattle.ap_stage.specs.declared.node.Course.{Course}
use Rattle.ap_stage.specs.declared.node.PortUse.{PortUse}
use Rattle.ap_stage.specs.declared.source.Ground.{Ground}
use Rattle.ap_stage.specs.declared.source.Scope.{Scope}
use Rattle.ap_stage.specs.declared.user.Asked.{Asked}
use Rattle.ap_stage.specs.declared.user.Asked.TheVariants as asked
use Rattle.ap_stage.specs.declared.user.Handed.{Handed}
use Rattle.ap_stage.specs.declared.user.Handed.TheVariants as given
use Rattle.ap_stage.specs.declared.user.Part.{Part}
use Rattle.ap_stage.specs.declared.user.Part.TheVariants as part
use Rattle.ap_stage.specs.Courses.{AreUses, CanServe, GoOn, GoesOn, HandsIn, IsCourse, IsOnlyUser, IsResultWide, IsUse, part_value, use_of, users_of}
use Rattle.ap_stage.specs.Offers.{IsOver}
use Rattle.ap_stage.specs.Rows.{Keeps, MakesNone}
use Rattle.ap_stage.specs.Served.{GivesResult}
use Rattle.ap_stage.specs.Sources.{HasNet}
use Rattle.ap_stage.specs.Trees.{IsShallow}
use Rattle.ap_stage.specs.Users.{CanAsk, IsHanded, args_of, handed_in, handed_value}
use Rattle.ap_stage.proofs.Filled.{keeps_same}
use Rattle.ap_stage.proofs.Grown.{has_kept, made_on, value_kept}
use Rattle.ap_stage.proofs.Listed.{each_at, each_both, each_by_place, each_found, each_right}
use Rattle.ap_stage.proofs.Low.{low_on}
use Rattle.ap_stage.proofs.Shallow.{shallow_on}

-- Users. ----------------------------------------------------------------------------------------------------------------

pub users_one : (port : ℕ) (c : Course) (u : PortUse) → use_of port c ≡ Some u → users_of port (c ∷ []) ≡ (c, u) ∷ []
users_one port c u is = rw is refl

pub users_none : (port : ℕ) (c : Course) → use_of port c ≡ None → users_of port (c ∷ []) ≡ []
users_none port c is = rw is refl

pub users_both : (port : ℕ) (xs ys : List Course) → users_of port (xs ++ ys) ≡ users_of port xs ++ users_of port ys
users_both port xs ys = filter_map-append (λ (c : Course). option_map (λ (u : PortUse). (c, u)) (use_of port c)) xs ys

pub use_is : (port : ℕ) (c : Course) (u : PortUse) → use_of port c ≡ Some u → Each (IsUse c) c.uses → IsUse c u
use_is port c u is each = each_found (IsUse c) (λ (x : PortUse). x.port == port) c.uses u is each

-- those of one instruction before others
abbrev pub users_from : Course → Option PortUse → List (Course × PortUse) → List (Course × PortUse)
users_from c used users = cons_option (option_map (λ (u : PortUse). (c, u)) used) users

-- what holds of all users holds of those of one instruction
pub users_at : (P : Course × PortUse → Type 0) (port : ℕ) (courses : List Course) (i : ℕ) (c : Course) → slice_get courses i ≡ Some c → Each P (users_of port courses) → Each P (users_of port (c ∷ []))
users_at P port [] i c at each = absurd cc
users_at P port (x ∷ courses) zero c at each =
    subst (λ (y : Course). Each P (users_of port (y ∷ []))) (same_Some x c at) (go (use_of port x) each)
  where
    go : (o : Option PortUse) → Each P (users_from x o (users_of port courses)) → Each P (users_from x o [])
    go None h = tt
    go (Some u) h = (h.0, tt)
users_at P port (x ∷ courses) (suc i) c at each = users_at P port courses i c at (each_right P (users_of port (x ∷ [])) (users_of port courses) (subst (Each P) (users_both port (x ∷ []) courses) each))

-- each user is one of the instructions
pub users_are : (P : Course → Type 0) (port : ℕ) (courses : List Course) → Each P courses → Each (λ (user : Course × PortUse). P user.0) (users_of port courses)
users_are P port [] each = tt
users_are P port (x ∷ courses) each = go (use_of port x) (users_are P port courses each.1)
  where
    go : (o : Option PortUse) → Each (λ (user : Course × PortUse). P user.0) (users_of port courses) → Each (λ (user : Course × PortUse). P user.0) (users_from x o (users_of port courses))
    go None rest = rest
    go (Some u) rest = (each.0, rest)

-- What is asked. --------------------------------------------------------------------------------------------------------

pub course_on : (a b : Draft) (ground : Ground) (c : Course) → Adds a b → IsCourse a ground c → IsCourse b ground c
course_on a b ground c m h = record {
  cond = IsNet-Adds a b c.cond m h.cond;
  one_bit = h.one_bit;
  fields = h.fields;
  row = record { long = h.row.long; nets_are = λ j w at. IsNet-Adds a b w m (h.row.nets_are j w at); wide = h.row.wide };
  lines = h.lines;
  uses = h.uses;
  made = λ k l w there has. made_on a b ground c.scope c.row.items l w m.extends (h.made k l w there has);
  closed = h.closed;
  low = low_on a b ground c.row.items m.extends 0 h.low;
}

pub courses_on : (a b : Draft) (ground : Ground) (courses : List Course) → Adds a b → Each (IsCourse a ground) courses → Each (IsCourse b ground) courses
courses_on a b ground [] m h = tt
courses_on a b ground (c ∷ courses) m h = (course_on a b ground c m h.0, courses_on a b ground courses m h.1)

pub can_one : (port : ℕ) (c : Course) (u : PortUse) → use_of port c ≡ Some u → CanAsk c.row.items u.asked → CanServe (users_of port (c ∷ []))
can_one port c u is h = rw (users_one port c u is) (h, tt)

pub one_can : (port : ℕ) (c : Course) (u : PortUse) → use_of port c ≡ Some u → CanServe (users_of port (c ∷ [])) → CanAsk c.row.items u.asked
one_can port c u is h = (subst CanServe (users_one port c u is) h).0

pub can_none : (port : ℕ) (c : Course) → use_of port c ≡ None → CanServe (users_of port (c ∷ []))
can_none port c is = rw (users_none port c is) tt

pub can_more : (port : ℕ) (before : List Course) (c : Course) → CanServe (users_of port before) → CanServe (users_of port (c ∷ [])) → CanServe (users_of port (before ++ c ∷ []))
can_more port before c h k = rw (users_both port before (c ∷ [])) (each_both (λ (user : Course × PortUse). CanAsk user.0.row.items user.1.asked) (users_of port before) (users_of port (c ∷ [])) h k)

pub over_users : (count n : ℕ) (choice : Select) → GoesOver choice 0 n → count ≡ n → IsOver count choice
over_users count n choice over same = let past = over.past in record { joined = over.joined; within = omega arith }

-- What the port gives. --------------------------------------------------------------------------------------------------

pub users_next : (courses : List Course) (i : ℕ) (c : Course) → slice_get courses i ≡ Some c → take (i + 1) courses ≡ take i courses ++ c ∷ []
users_next courses i c at = take_more courses i c (slice_get_within courses i c at) ∙ ap (λ x. take i courses ++ x ∷ []) (get_or_from_slice_get courses i c c at)

-- where all can be served, so can one
pub users_back : (port : ℕ) (courses : List Course) (i : ℕ) (c : Course) → slice_get courses i ≡ Some c → CanServe (users_of port courses) → CanServe (users_of port (c ∷ []))
users_back port courses i c at h = users_at (λ (user : Course × PortUse). CanAsk user.0.row.items user.1.asked) port courses i c at h

-- Rows that get further nets. -------------------------------------------------------------------------------------------

pub same_use : (v port : ℕ) (old new : Course) → GoesOn v old new → use_of port new ≡ use_of port old
same_use v port old new h = ap (find (λ (u : PortUse). u.port == port)) h.uses

-- the user that stood at the place before, and the one that stands there then
pub user_before : (v port : ℕ) (old new : List Course) → GoOn v old new → (place : ℕ) (user : Course × PortUse) → slice_get (users_of port new) place ≡ Some user
    → (one : Course × PortUse) × (slice_get (users_of port old) place ≡ Some one) × GoesOn v one.0 user.0 × (user.1 ≡ one.1)
user_before v port [] [] h place user at = absurd cc
user_before v port [] (x ∷ new) h place user at = absurd h
user_before v port (x ∷ old) [] h place user at = absurd h
user_before v port (x ∷ old) (y ∷ new) h place user at =
    go (use_of port x) place (subst (λ o. slice_get (users_from y o (users_of port new)) place ≡ Some user) (same_use v port x y h.0) at) (λ p there. user_before v port old new h.1 p user there)
  where
    Found : List (Course × PortUse) → ℕ → Type 0
    Found users p = (one : Course × PortUse) × (slice_get users p ≡ Some one) × GoesOn v one.0 user.0 × (user.1 ≡ one.1)

    go : (o : Option PortUse) (p : ℕ) → slice_get (users_from y o (users_of port new)) p ≡ Some user → ((q : ℕ) → slice_get (users_of port new) q ≡ Some user → Found (users_of port old) q) → Found (users_from x o (users_of port old)) p
    go None p there rest = rest p there
    go (Some u) zero there rest = let same : (y, u) ≡ user = same_Some (y, u) user there in ((x, u), refl, subst (λ (z : Course × PortUse). GoesOn v x z.0) same h.0, sym (ap (λ (z : Course × PortUse). z.1) same))
    go (Some u) (suc p) there rest = rest p there

pub user_after : (v port : ℕ) (old new : List Course) → GoOn v old new → (place : ℕ) (user : Course × PortUse) → slice_get (users_of port old) place ≡ Some user
    → (one : Course × PortUse) × (slice_get (users_of port new) place ≡ Some one) × GoesOn v user.0 one.0 × (one.1 ≡ user.1)
user_after v port [] [] h place user at = absurd cc
user_after v port [] (x ∷ new) h place user at = absurd h
user_after v port (x ∷ old) [] h place user at = absurd h
user_after v port (x ∷ old) (y ∷ new) h place user at =
    let found = go (use_of port x) place at (λ p there. user_after v port old new h.1 p user there) in
    (found.0, subst (λ o. slice_get (users_from y o (users_of port new)) place ≡ Some found.0) (sym (same_use v port x y h.0)) found.1, found.2, found.3)
  where
    Found : List (Course × PortUse) → ℕ → Type 0
    Found users p = (one : Course × PortUse) × (slice_get users p ≡ Some one) × GoesOn v user.0 one.0 × (one.1 ≡ user.1)

    go : (o : Option PortUse) (p : ℕ) → slice_get (users_from x o (users_of port old)) p ≡ Some user → ((q : ℕ) → slice_get (users_of port old) q ≡ Some user → Found (users_of port new) q) → Found (users_from y o (users_of port new)) p
    go None p there rest = rest p there
    go (Some u) zero there rest = let same : (x, u) ≡ user = same_Some (x, u) user there in ((y, u), refl, subst (λ (z : Course × PortUse). GoesOn v z.0 y) same h.0, ap (λ (z : Course × PortUse). z.1) same)
    go (Some u) (suc p) there rest = rest p there

-- where all users' operands have nets, what the port gives them doesn't change
pub can_on : (v port : ℕ) (old new : List Course) → GoOn v old new → CanServe (users_of port old) → CanServe (users_of port new)
can_on v port old new h can = each_by_place (λ (user : Course × PortUse). CanAsk user.0.row.items user.1.asked) (users_of port new) (λ place user at.
    let one = user_before v port old new h place user at in
    let asks = each_at (λ (z : Course × PortUse). CanAsk z.0.row.items z.1.asked) (users_of port old) place one.0 can one.1 in
    subst (λ (z : PortUse). CanAsk user.0.row.items z.asked) (sym one.3)
    (each_by_place (HasNet user.0.row.items) (args_of one.0.1.asked) (λ k a there. has_kept one.0.0.row.items user.0.row.items one.2.keeps a (each_at (HasNet one.0.0.row.items) (args_of one.0.1.asked) k a asks there))))

-- what is handed in for a part, where all operands have nets
handed_kept : (r : Reading) (ground : Ground) (scope : Scope) (old new : List (Option Wire)) → Keeps old new → (a : Asked) (p : Part) → CanAsk old a
    → option_map_or (handed_value r ground scope new) (handed_in a p) 0 ≡ option_map_or (handed_value r ground scope old) (handed_in a p) 0
handed_kept r ground scope old new keeps (asked.Operate u) part.Operation can = refl
handed_kept r ground scope old new keeps (asked.Operate u) part.First can = value_kept r ground scope old new keeps u.a can.0
handed_kept r ground scope old new keeps (asked.Operate u) part.Second can = value_kept r ground scope old new keeps u.b can.1.0
handed_kept r ground scope old new keeps (asked.Read index) part.Operation can = refl
handed_kept r ground scope old new keeps (asked.Read index) part.First can = value_kept r ground scope old new keeps index can.0
handed_kept r ground scope old new keeps (asked.Read index) part.Second can = refl

pub part_kept : (v : ℕ) (r : Reading) (ground : Ground) (one user : Course × PortUse) (p : Part) → GoesOn v one.0 user.0 → user.1 ≡ one.1 → CanAsk one.0.row.items one.1.asked → part_value r ground user p ≡ part_value r ground one p
part_kept v r ground one user p on used can =
    (λ i. option_map_or (handed_value r ground (on.scope i) user.0.row.items) (handed_in (used i).asked p) 0) ∙ handed_kept r ground one.0.scope one.0.row.items user.0.row.items on.keeps one.1.asked p can

-- who is on alone then was so before
only_back : (v port : ℕ) (r : Reading) (old new : List Course) → GoOn v old new → (place : ℕ) → IsOnlyUser r (users_of port new) place → IsOnlyUser r (users_of port old) place
only_back v port r old new h place only = record {
  on = λ user at.
      let then = user_after v port old new h place user at in
      ap (λ (c : Wire). r.read c.number) (sym then.2.cond) ∙ only.on then.0 then.1;
  alone = λ other z there lit.
      let then = user_after v port old new h other z there in
      only.alone other then.0 then.1 (ap (λ (c : Wire). r.read c.number) then.2.cond ∙ lit);
}

pub hands_on : (v port : ℕ) (ground : Ground) (p : Part) (old new : List Course) (r : Reading) (x : ℕ) → GoOn v old new → CanServe (users_of port old) → HandsIn ground (users_of port old) p r x → HandsIn ground (users_of port new) p r x
hands_on v port ground p old new r x h can hands place user at only =
    let one = user_before v port old new h place user at in
    let asks = each_at (λ (z : Course × PortUse). CanAsk z.0.row.items z.1.asked) (users_of port old) place one.0 can one.1 in
    hands place one.0 one.1 (only_back v port r old new h place only) ∙ sym (part_kept v r ground one.0 user p one.2 one.3 asks)

-- where all users' operands have nets, what the unit gives them doesn't change
pub gives_on : (v port w : ℕ) (ground : Ground) (name : List ℕ) (old new : List Course) (r : Reading) (y : ℕ) → GoOn v old new → CanServe (users_of port old) → GivesResult ground name w (users_of port old) r y → GivesResult ground name w (users_of port new) r y
gives_on v port w ground name old new r y h can gives place user at only m card found computes few =
    let one = user_before v port old new h place user at in
    let asks = each_at (λ (z : Course × PortUse). CanAsk z.0.row.items z.1.asked) (users_of port old) place one.0 can one.1 in
    let same = λ (p : Part). part_kept v r ground one.0 user p one.2 one.3 asks in
    gives place one.0 one.1 (only_back v port r old new h place only) m card found computes (subst (λ n. n < length card.ops) (same part.Operation) few)
    ∙ (λ i. operation_value card w (sym (same part.Operation) i) (sym (same part.First) i) (sym (same part.Second) i))

pub goes_same : (port : ℕ) (c : Course) → GoesOn port c c
goes_same port c = record { cond = refl; scope = refl; lines = refl; uses = refl; keeps = keeps_same c.row.items; others = λ local e. refl }

pub go_same : (port : ℕ) (courses : List Course) → GoOn port courses courses
go_same port [] = tt
go_same port (c ∷ courses) = (goes_same port c, go_same port courses)

pub go_by_place : (port : ℕ) (old new : List Course) → length new ≡ length old → ((k : ℕ) (one other : Course) → slice_get old k ≡ Some one → slice_get new k ≡ Some other → GoesOn port one other) → GoOn port old new
go_by_place port [] [] long all = tt
go_by_place port [] (y ∷ new) long all = absurd (omega arith)
go_by_place port (x ∷ old) [] long all = absurd (omega arith)
go_by_place port (x ∷ old) (y ∷ new) long all = (all 0 x y refl refl, go_by_place port old new (omega arith) (λ k one other p q. all (suc k) one other p q))

-- the local of each use is as wide as the port's result
pub low_nets : (a b : Draft) (most : ℕ) (nets : List Wire) → Extends a b → Each (λ (w : Wire). IsShallow a (most + 0) w.number) nets → Each (λ (w : Wire). IsShallow b most w.number) nets
low_nets a b most [] e h = tt
low_nets a b most (w ∷ nets) e h =
    let same : most + 0 ≡ most = omega arith in
    (shallow_on a b most w.number e (subst (λ k. IsShallow a k w.number) same h.0), low_nets a b most nets e h.1)

-- The instruction with another row. ------------------------------------------------------------------------------------

pub uses_on : (old new : Course) → new.scope ≡ old.scope → new.lines ≡ old.lines → new.uses ≡ old.uses → AreUses old → AreUses new
uses_on old new scope lines uses h = record {
  each = subst (Each (IsUse new)) (sym uses) (each_by_place (IsUse new) old.uses (λ k u at.
      let is = each_at (IsUse old) old.uses k u h.each at in
      record {
        args = subst (λ (s : Scope). Each (IsArg (length s.widths) s.fields) (args_of u.asked)) (sym scope) is.args;
        local = subst (λ (s : Scope). u.local < length s.widths) (sym scope) is.local;
        apart = subst (λ ls. MakesNone ls u.local) (sym lines) is.apart;
      }));
  apart = λ j k one other p q. h.apart j k one other (sym (ap (λ us. slice_get us j) uses) ∙ p) (sym (ap (λ us. slice_get us k) uses) ∙ q);
}

-- the local of each use is as wide as what the port gives
pub wide_users : (w port : ℕ) (courses : List Course) → Each (λ (user : Course × PortUse). width_at (λ (width : ℕ). width) user.0.scope.widths user.1.local ≡ w) (users_of port courses) → Each (IsResultWide w port) courses
wide_users w port [] fit = tt
wide_users w port (c ∷ courses) fit = go (use_of port c) fit (λ rest. wide_users w port courses rest)
  where
    Wide : Course × PortUse → Type 0
    Wide user = width_at (λ (width : ℕ). width) user.0.scope.widths user.1.local ≡ w

    go : (o : Option PortUse) → Each Wide (users_from c o (users_of port courses)) → (Each Wide (users_of port courses) → Each (IsResultWide w port) courses)
        → IfSome o (λ u. width_at (λ (width : ℕ). width) c.scope.widths u.local ≡ w) × Each (IsResultWide w port) courses
    go None h rest = (tt, rest h)
    go (Some u) h rest = (h.0, rest h.1)

-- what is handed in for a part is one of the operands
pub is_handed : (scope : Scope) (a : Asked) (p : Part) (g : Handed) → handed_in a p ≡ Some g → Each (IsArg (length scope.widths) scope.fields) (args_of a) → IsHanded scope g
is_handed scope (asked.Operate u) part.Operation g is h = subst (IsHanded scope) (same_Some (given.Number u.op) g is) tt
is_handed scope (asked.Operate u) part.First g is h = subst (IsHanded scope) (same_Some (given.Operand u.a) g is) h.0
is_handed scope (asked.Operate u) part.Second g is h = subst (IsHanded scope) (same_Some (given.Operand u.b) g is) h.1.0
is_handed scope (asked.Read index) part.Operation g is h = absurd cc
is_handed scope (asked.Read index) part.First g is h = subst (IsHanded scope) (same_Some (given.Operand index) g is) h.0
is_handed scope (asked.Read index) part.Second g is h = absurd cc
